-- Lists of commits go on: by what an edit means, by an upgrade, by an undo, and after longer lists.
use Rattle.std.proofs.Common.{◌≡◌, ◌≢◌, true, List, [], ◌∷◌, ◌++◌, None, IsSome, IfSome, Ok, sym, ap, ◌∙◌, subst, ◌⊎◌, inl, inr}
use Rattle.std.specs.List.{AllByRecursion}
use Rattle.st_ids.specs.Listing.{Has}
use Rattle.st_ids.specs.Root.{opening}
use Rattle.st_ids.specs.declared.names.Rev.{Rev}
use Rattle.st_tree.specs.declared.edit.Edit.{Edit}
use Rattle.st_schema.specs.Schema.{SchemaView}
use Rattle.st_marks.specs.declared.intents.Intent.{Intent}
use Rattle.st_marks.specs.declared.schemas.SchemaEntry.{SchemaEntry}
use Rattle.st_marks.specs.declared.verdicts.Verdict.{Verdict}
use Rattle.st_marks.specs.Back.{IsBack}
use Rattle.st_marks.specs.CarryOut.{full}
use Rattle.st_marks.specs.Document.{Document, IsSoundInForm, revs}
use Rattle.st_marks.specs.Extends.{IsExtendedBy}
use Rattle.st_marks.specs.Intent.{IsIntent}
use Rattle.st_marks.specs.Run.{Run, next}
use Rattle.st_marks.specs.Verdict.{IsVerdict, carried_document}
use Rattle.st_marks.proofs.Members.{append_left, distinct-append, distinct-left, has-append, has-map, map-has}
use Rattle.st_marks.proofs.OneVerdict.{carried_extends, one_carried, run_then}
use Rattle.st_marks.proofs.WayBack.{back_fits}
use Rattle.st_log_laws.specs.Names.{HasNames, HaveNewRevisions, revisions}
use Rattle.st_log_laws.specs.Turns.{FitInTurn, IsSublist}
use Rattle.st_log_laws.proofs.Names.{names_in_run}
use Rattle.st_log_laws.proofs.Shorter.{sublist_itself}
use Rattle.st_log_laws.proofs.Turns.{front, made_in_run, rest, turn_extends}
use Rattle.st_log_laws.proofs.Verdicts.{has_verdict}
use Rattle.st_edits.specs.Resolve.{resolve}
use Rattle.st_edits.specs.declared.names.NameCounters.{NameCounters}
use Rattle.st_edits.proofs.MoveFits.{CellsFresh}
use Rattle.st_edits.proofs.NewFits.{NodesFresh}
use Rattle.st_schema_laws.proofs.Homes.{tells_own}
use Rattle.st_part_laws.proofs.Chains.{last-has}
use Rattle.st_part_laws.proofs.Told.{told_chain, told_under}
use Rattle.st_schema_laws.specs.AgreeingInEffect.{AgreesInLine, ConformsInEffect, Told, with_commit, with_home}
use Rattle.st_edits.specs.InEffect.{last_in_effect}
use Rattle.st_schema_laws.specs.Earlier.{schemas_made}
use Rattle.st_schema_laws.specs.Lines.{IsLine}
use Rattle.st_schema_laws.specs.Widening.{IsUpgrade}
use Rattle.st_schema_laws.proofs.Changes.{change_agrees, schemas_stay}
use Rattle.st_schema_laws.proofs.Earlier.{earlier_front, earlier_longer, earlier_then, in_effect_made, made_among, made_longer, unders_made}
use Rattle.st_schema_laws.proofs.EditsInLine.{meant, some_last}
use Rattle.st_schema_laws.proofs.NamesInParts.{IsFromPart}
use Rattle.st_schema_laws.proofs.CommitsInTurn.{agree_front, agree_longer, agree_rest, agree_then_one, agrees_later, line_conforms}
use Rattle.st_schema_laws.proofs.WaysBackInEffect.{way_agrees}
use Rattle.st_schema_laws.proofs.SchemasKept.{edit_agrees}
use Rattle.st_schema_laws.proofs.Told.{absent_by_rev, document_at_home, document_told, list_at_home, list_told, other_view, own_upgrade}

all_intents : (Ns : List Intent) (D : Document) → IsSoundInForm D → FitInTurn D Ns → AllByRecursion IsIntent Ns
all_intents [] D s f = tt
all_intents (N ∷ Ns) D s f = (
  f.0.itself,
  let b = has_verdict D N s in all_intents Ns (carried_document b.0 D N) (carried_extends D N b.0 s f.0 f.1 b.1).after (f.2 b.0 b.1),
)

-- ## What a line leads to

module _ (T : Told) (O : Document) (Ns : List Intent) (l : IsLine T O Ns) where
  pub line_after_conforms : (D : Document) → Run O Ns D → ConformsInEffect T D
  line_after_conforms D r = line_conforms T O D Ns l.sound l.fit l.made l.new l.earlier l.agree l.conforms r

  opening_entries : (r : Rev) → Has (revs O.schemas) r → Has (opening ∷ []) r
  opening_entries r h = let x = has-map (λ (e : SchemaEntry). e.rev) O.schemas r h in subst (Has (opening ∷ [])) x.2 (l.made.schemas x.0 x.1)

  -- what is in effect after it is of its revisions
  entry_among : (D : Document) → Run O Ns D → (r : Rev) → Has (revs D.schemas) r → Has (revisions Ns ++ opening ∷ []) r
  entry_among D run r h =
      let x = has-map (λ (e : SchemaEntry). e.rev) D.schemas r h in
      subst (Has (revisions Ns ++ opening ∷ [])) x.2 ((made_in_run (opening ∷ []) l.fit run l.made).schemas x.0 x.1)

  pub last_made : (D : Document) → Run O Ns D → Has (schemas_made (opening ∷ []) Ns) (last_in_effect D)
  last_made D run =
      let s = (turn_extends l.sound l.fit run).after in
      made_longer (sublist_itself Ns) (revs O.schemas) (opening ∷ []) opening_entries (last_in_effect D)
      (in_effect_made O D Ns (all_intents Ns O l.sound l.fit) run (last_in_effect D) (last-has (revs D.schemas) (last_in_effect D) (some_last (revs D.schemas) s.in_effect.begun)))

  -- ## What is told of another commit

  module _ (N : Intent) (fresh : Has (revisions Ns ++ opening ∷ []) N.rev → ⊥) where
    not_opening : opening ≢ N.rev
    not_opening e = fresh (has_right (revisions Ns) (inl e))
      where
        has_right : (rs : List Rev) → Has (opening ∷ []) N.rev → Has (rs ++ opening ∷ []) N.rev
        has_right [] h = h
        has_right (r ∷ rs) h = inr (has_right rs h)

    not_among : Has (opening ∷ []) N.rev → ⊥
    not_among (inl e) = not_opening e
    not_among (inr h) = absurd h

    pub line_told : (new : SchemaView) → IsLine (with_commit T N new) O Ns
    line_told new = record {
      sound = l.sound;
      made = l.made;
      conforms = document_told T N new (opening ∷ []) O l.sound l.made not_among unders l.conforms;
      fit = l.fit;
      new = l.new;
      earlier = l.earlier;
      agree = list_told T N new Ns (opening ∷ []) O l.sound l.made l.fit fresh
          (λ M h e. fresh (made_among (opening ∷ []) Ns N.rev (subst (Has (schemas_made (opening ∷ []) Ns)) e (unders_made (opening ∷ []) Ns l.earlier M h)))) l.agree;
    }
      where
        unders : (r : Rev) → Has (opening ∷ []) r → T.under r ≢ N.rev
        unders r (inl q) e = not_opening (sym l.conforms.opened ∙ ap T.under q ∙ e)
        unders r (inr h) e = absurd h

    pub line_at_home : IsIntent N → IsLine (with_home T N) O Ns
    line_at_home itself = record {
      sound = l.sound;
      made = l.made;
      conforms = document_at_home T N O l.sound (absent_by_rev T N itself (opening ∷ []) O l.made not_among) l.conforms;
      fit = l.fit;
      new = l.new;
      earlier = l.earlier;
      agree = list_at_home T N itself Ns (opening ∷ []) O l.made l.fit fresh l.agree;
    }

    -- ## One commit more

    pub line_more : (D : Document) → Run O Ns D → FitInTurn O (Ns ++ N ∷ []) → Has (schemas_made (opening ∷ []) Ns) N.under → AgreesInLine T D N → IsLine T O (Ns ++ N ∷ [])
    line_more D run f under a = record {
      sound = l.sound;
      made = l.made;
      conforms = l.conforms;
      fit = f;
      new = record {
        once = distinct-append (λ (N : Intent). N.rev) Ns (N ∷ []) l.new.once (tt, tt) apart;
        new = λ M h i. among M (has-append Ns (N ∷ []) M h) i;
      };
      earlier = earlier_then (opening ∷ []) Ns (N ∷ []) l.earlier (under, tt);
      agree = agree_then_one T Ns (N ∷ []) l.agree run (a, λ v is. tt);
    }
      where
        apart : (M K : Intent) → Has Ns M → Has (N ∷ []) K → K.rev ≢ M.rev
        apart M K h (inl e) same = fresh (append_left (revisions Ns) (opening ∷ []) N.rev (subst (Has (revisions Ns)) (sym (ap (λ (N : Intent). N.rev) e ∙ same)) (map-has (λ (N : Intent). N.rev) Ns M h)))
        apart M K h (inr k) same = absurd k

        among : (M : Intent) → Has Ns M ⊎ Has (N ∷ []) M → Has (opening ∷ []) M.rev → ⊥
        among M (inl h) i = l.new.new M h i
        among M (inr (inl e)) i = not_among (subst (λ (M : Intent). Has (opening ∷ []) M.rev) (sym e) i)
        among M (inr (inr h)) i = absurd h

-- ## Lines go on

pub edit_goes_on : (T : Told) (O D : Document) (Ns : List Intent) (G : NameCounters) (edit : Edit) (N : Intent) → IsLine T O Ns → Run O Ns D → NodesFresh D G → CellsFresh D G → (Has (revisions Ns ++ opening ∷ []) N.rev → ⊥)
    → FitInTurn O (Ns ++ N ∷ []) → resolve D (T.view (last_in_effect D)) G edit ≡ Ok N → IsLine (with_home (with_commit T N (T.view N.under)) N) O (Ns ++ N ∷ [])
edit_goes_on T O D Ns G edit N l run nodes cells fresh f e =
    line_more U O Ns told N fresh D run f (subst (Has (schemas_made (opening ∷ []) Ns)) (sym m.under) (last_made T O Ns l D run))
    (edit_agrees U D s (line_after_conforms U O Ns told D run) G nodes cells edit N (tells_own T.home N) (told_under T.under N) (ap (λ v. resolve D v G edit) same_view ∙ e))
  where
    U : Told
    U = with_home (with_commit T N (T.view N.under)) N

    s : IsSoundInForm D
    s = (turn_extends l.sound l.fit run).after

    last : Has (revs D.schemas) (last_in_effect D)
    last = last-has (revs D.schemas) (last_in_effect D) (some_last (revs D.schemas) s.in_effect.begun)

    m : IsFromPart (λ n. true) D G N
    m = meant D (T.view (last_in_effect D)) G edit N s ((line_after_conforms T O Ns l D run).widening.sound (last_in_effect D) last) nodes cells e

    told : IsLine U O Ns
    told = line_at_home (with_commit T N (T.view N.under)) O Ns (line_told T O Ns l N fresh (T.view N.under)) N fresh (rest (N ∷ []) run f).0.itself

    same_view : U.view (last_in_effect D) ≡ T.view (last_in_effect D)
    same_view = other_view T N (T.view N.under) (last_in_effect D) (λ q. fresh (subst (Has (revisions Ns ++ opening ∷ [])) q (entry_among T O Ns l D run (last_in_effect D) last)))

pub upgrade_goes_on : (T : Told) (O D : Document) (Ns : List Intent) (N : Intent) (new : SchemaView) → IsLine T O Ns → Run O Ns D → (Has (revisions Ns ++ opening ∷ []) N.rev → ⊥)
    → FitInTurn O (Ns ++ N ∷ []) → N.under ≡ last_in_effect D → IsSome N.schema → IfSome N.schema (IsUpgrade (T.view N.under) new) → IsLine (with_commit T N new) O (Ns ++ N ∷ [])
upgrade_goes_on T O D Ns N new l run fresh f base change upgrade =
    line_more (with_commit T N new) O Ns (line_told T O Ns l N fresh new) N fresh D run f (subst (Has (schemas_made (opening ∷ []) Ns)) (sym base) (last_made T O Ns l D run))
    (change_agrees (with_commit T N new) D N (rest (N ∷ []) run f).0.itself change (told_under T.under N) (told_chain T.chain N other) (own_upgrade T N new other upgrade))
  where
    other : N.under ≢ N.rev
    other e = fresh (made_among (opening ∷ []) Ns N.rev (subst (Has (schemas_made (opening ∷ []) Ns)) (sym base ∙ e) (last_made T O Ns l D run)))

pub line_goes_on_longer : (T : Told) (O : Document) (As Bs Ns : List Intent) → IsSublist As Bs → IsLine T O (As ++ Ns) → IsLine T O Bs → FitInTurn O (Bs ++ Ns) → HaveNewRevisions (opening ∷ []) (Bs ++ Ns) → IsLine T O (Bs ++ Ns)
line_goes_on_longer T O As Bs Ns sub a b f new = record {
  sound = a.sound;
  made = a.made;
  conforms = a.conforms;
  fit = f;
  new = new;
  earlier = earlier_longer (opening ∷ []) As Bs Ns sub b.earlier a.earlier;
  agree = agree_longer T O As Bs Ns a.sound sub a.fit f b.agree a.agree;
}

-- ## Undos

pub line_front : (T : Told) (O : Document) (As Bs : List Intent) → IsLine T O (As ++ Bs) → IsLine T O As
line_front T O As Bs l = record {
  sound = l.sound;
  made = l.made;
  conforms = l.conforms;
  fit = front As Bs O l.fit;
  new = record { once = distinct-left (λ (N : Intent). N.rev) As Bs l.new.once; new = λ M h. l.new.new M (append_left As Bs M h) };
  earlier = earlier_front (opening ∷ []) As Bs l.earlier;
  agree = agree_front T As Bs O l.agree;
}

pub undo_goes_on : (T : Told) (O D E : Document) (As Bs : List Intent) (M B : Intent) (rev : Rev) → IsLine T O (As ++ M ∷ Bs) → Run O As D → Run D (M ∷ Bs) E → (Has (revisions (As ++ M ∷ Bs) ++ opening ∷ []) B.rev → ⊥)
    → FitInTurn O ((As ++ M ∷ Bs) ++ B ∷ []) → M.schema ≡ None → IsVerdict D M Verdict.Sound → IsBack D (full D M) rev (last_in_effect E) B → IsLine (with_commit T B (T.view B.under)) O ((As ++ M ∷ Bs) ++ B ∷ [])
undo_goes_on T O D E As Bs M B rev l run on fresh f data_only sound b =
    line_more U O (As ++ M ∷ Bs) told B fresh E whole f (subst (Has (schemas_made (opening ∷ []) (As ++ M ∷ Bs))) (sym b.rev_and_under.1) (last_made T O (As ++ M ∷ Bs) l E whole))
    (agrees_later U (full D M) E B (later on) extends.after s (back_fits D (full D M) extends rev (last_in_effect E) B b) (rest (B ∷ []) whole f).0 way)
  where
    U : Told
    U = with_commit T B (T.view B.under)

    told : IsLine U O (As ++ M ∷ Bs)
    told = line_told T O (As ++ M ∷ Bs) l B fresh (T.view B.under)

    whole : Run O (As ++ M ∷ Bs) E
    whole = run_then run on

    s : IsSoundInForm E
    s = (turn_extends l.sound l.fit whole).after

    before : IsSoundInForm D
    before = (turn_extends l.sound (front As (M ∷ Bs) O l.fit) run).after

    fits : FitInTurn D (M ∷ Bs)
    fits = rest (M ∷ Bs) run l.fit

    extends : IsExtendedBy D (full D M)
    extends = carried_extends D M Verdict.Sound before fits.0 fits.1 sound

    later : Run D (M ∷ Bs) E → HasNames (full D M) E
    later (next v is r) = subst (λ F. HasNames F E) (one_carried D M v Verdict.Sound is sound) (names_in_run r)

    way : AgreesInLine U (full D M) B
    way = way_agrees U D M before fits.0 fits.1 data_only sound (agree_rest U (M ∷ Bs) run told.agree).0 (line_after_conforms U O As (line_front U O As (M ∷ Bs) told) D run)
        E s (line_after_conforms U O (As ++ M ∷ Bs) told E whole) (schemas_stay D E (M ∷ Bs) (all_intents (M ∷ Bs) D before fits) on) rev B
        (ap U.under (sym b.rev_and_under.0) ∙ told_under T.under B ∙ b.rev_and_under.1) b

-- a commit that was told before, as that of a transaction
pub commit_goes_on : (T : Told) (O D : Document) (Ns : List Intent) (N : Intent) → IsLine T O Ns → Run O Ns D → (Has (revisions Ns ++ opening ∷ []) N.rev → ⊥) → FitInTurn O (Ns ++ N ∷ []) → N.under ≡ last_in_effect D → AgreesInLine T D N
    → IsLine T O (Ns ++ N ∷ [])
commit_goes_on T O D Ns N l run fresh f base a = line_more T O Ns l N fresh D run f (subst (Has (schemas_made (opening ∷ []) Ns)) (sym base) (last_made T O Ns l D run)) a
