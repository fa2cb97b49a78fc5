-- Lists of commits keep to their schemas as they go on, and when more is told of commits and nodes.
use Rattle.std.proofs.Common.{◌≡◌, ◌≢◌, ◌<◌, length, ℕ, Bool, true, false, cond, refl, List, [], ◌∷◌, ◌++◌, Option, Some, None, IfSome, sym, ap, ◌∙◌, subst, inl, inr}
use Rattle.std.specs.List.{AllByRecursion}
use Rattle.st_ids.specs.Listing.{Has}
use Rattle.st_ids.specs.Order.{same_rev}
use Rattle.st_ids.specs.Root.{opening}
use Rattle.st_ids.proofs.Orders.{same_rev-true}
use Rattle.st_ids.specs.declared.names.NodeId.{NodeId}
use Rattle.st_ids.specs.declared.names.Rev.{Rev}
use Rattle.st_schema.specs.Schema.{SchemaView, is_sound}
use Rattle.st_marks.specs.declared.intents.Intent.{Intent}
use Rattle.st_marks.specs.Document.{Document, IsSoundInForm, revs}
use Rattle.st_marks.specs.Intent.{IsIntent, is_new}
use Rattle.st_marks.specs.Run.{Run, done, next}
use Rattle.st_marks.specs.Verdict.{carried_document}
use Rattle.st_marks.proofs.OneVerdict.{carried_extends, one_verdict}
use Rattle.st_log_laws.proofs.Verdicts.{has_verdict}
use Rattle.st_marks.proofs.Shared.{new_node-rev}
use Rattle.st_marks.proofs.Members.{all-has, append_left, append_right, has-all, map-has}
use Rattle.st_lemmas.proofs.Lists.{AllByRecursion-append}
use Rattle.st_log_laws.specs.Names.{HaveNewRevisions, revisions}
use Rattle.st_log_laws.specs.Turns.{FitInTurn, IsSublist}
use Rattle.st_log_laws.proofs.Turns.{made_in_run, turn_extends}
use Rattle.st_part_laws.proofs.Chains.{last-has}
use Rattle.st_schema_laws.specs.Agreeing.{TellsHomes}
use Rattle.st_schema_laws.specs.AgreeingInEffect.{AgreesInLine, ConformsInEffect, Told, with_commit, with_home}
use Rattle.st_edits.specs.Fields.{put_register}
use Rattle.st_edits.specs.InEffect.{last_in_effect, schema_in_effect}
use Rattle.st_schema_laws.specs.Lines.{IsLine}
use Rattle.st_schema_laws.proofs.Earlier.{made_among, unders_made}
use Rattle.st_schema_laws.proofs.EditsInLine.{some_last}
use Rattle.st_schema_laws.proofs.Lines.{commit_goes_on, last_made, line_at_home, line_front, line_goes_on_longer, line_told}
use Rattle.st_schema_laws.proofs.Read.{read_as_told}
use Rattle.st_schema_laws.proofs.Told.{list_at_home, list_told}
use Rattle.st_world_laws.specs.Worlds.{IsKnownBy, IsMadeAsTold, KeepsLine}

-- ## Lists

module _ (K : Rev → List ℕ → Type 0) (As Bs : List Intent) (all : AllByRecursion (IsKnownBy K) (As ++ Bs)) where
  known_front : AllByRecursion (IsKnownBy K) As
  known_front = has-all (IsKnownBy K) As (λ N i. all-has (IsKnownBy K) (As ++ Bs) N all (append_left As Bs N i))

  known_rest : AllByRecursion (IsKnownBy K) Bs
  known_rest = has-all (IsKnownBy K) Bs (λ N i. all-has (IsKnownBy K) (As ++ Bs) N all (append_right As Bs N i))

module _ {K : Rev → List ℕ → Type 0} (T : Told) (O : Document) where
  pub goes_front : (As Bs : List Intent) → KeepsLine K T O (As ++ Bs) → KeepsLine K T O As
  goes_front As Bs w = record {
    line = line_front T O As Bs w.line;
    known = known_front K As Bs w.known;
    made = has-all (IsMadeAsTold T) As (λ N i. all-has (IsMadeAsTold T) (As ++ Bs) N w.made (append_left As Bs N i));
    first = w.first;
  }

  -- what comes after a list comes after a longer one
  pub goes_longer : (As Bs Ns : List Intent) → IsSublist As Bs → KeepsLine K T O (As ++ Ns) → KeepsLine K T O Bs → FitInTurn O (Bs ++ Ns) → HaveNewRevisions (opening ∷ []) (Bs ++ Ns) → KeepsLine K T O (Bs ++ Ns)
  goes_longer As Bs Ns among w longer fit new = record {
    line = line_goes_on_longer T O As Bs Ns among w.line longer.line fit new;
    known = AllByRecursion-append (IsKnownBy K) Bs Ns longer.known (known_rest K As Ns w.known);
    made = AllByRecursion-append (IsMadeAsTold T) Bs Ns longer.made (has-all (IsMadeAsTold T) Ns (λ N i. all-has (IsMadeAsTold T) (As ++ Ns) N w.made (append_right As Ns N i)));
    first = longer.first;
  }

  -- one commit more, made under the last schema in effect
  pub goes_more : (Ns : List Intent) (D : Document) (N : Intent) → KeepsLine K T O Ns → Run O Ns D → (Has (revisions Ns ++ opening ∷ []) N.rev → ⊥) → FitInTurn O (Ns ++ N ∷ []) → N.under ≡ last_in_effect D → AgreesInLine T D N → IsKnownBy K N
      → IsMadeAsTold T N → KeepsLine K T O (Ns ++ N ∷ [])
  goes_more Ns D N w run fresh fit under agrees known made = record {
    line = commit_goes_on T O D Ns N w.line run fresh fit under agrees;
    known = AllByRecursion-append (IsKnownBy K) Ns (N ∷ []) w.known (known, tt);
    made = AllByRecursion-append (IsMadeAsTold T) Ns (N ∷ []) w.made (made, tt);
    first = w.first;
  }

-- a commit of data brings in no schema
pub nothing_known : (K : Rev → List ℕ → Type 0) (N : Intent) → N.schema ≡ None → IsKnownBy K N
nothing_known K N none = subst (λ o. IfSome o (K N.rev)) (sym none) tt

-- so it is made as it is told where its homes are
pub made_as_told : (T : Told) (N : Intent) → TellsHomes T.home N → N.schema ≡ None → IsMadeAsTold T N
made_as_told T N homes none = record { homes = homes; room = subst (λ o. IfSome o (λ _. length (T.chain N.under) < 64)) (sym none) tt }

-- ## Intents

-- commits that can be carried out in turn are intents
pub turn_intents : (Ns : List Intent) (D : Document) → IsSoundInForm D → FitInTurn D Ns → AllByRecursion IsIntent Ns
turn_intents [] D s f = tt
turn_intents (N ∷ Ns) D s f = (
  f.0.itself,
  let b = has_verdict D N s in turn_intents Ns (carried_document b.0 D N) (carried_extends D N b.0 s f.0 f.1 b.1).after (f.2 b.0 b.1),
)

-- ## More is told

-- what is told anew of a revision leaves lists that don't have it, and what is edited after such a list; the homes of nodes of
-- other revisions, and the lines of other schemas
pub record IsToldAnew (O : Document) (T U : Told) (r : Rev) : Type 0 where
  pub lines : (Ns : List Intent) → IsLine T O Ns → (Has (revisions Ns ++ opening ∷ []) r → ⊥) → IsLine U O Ns
  pub edits : (Ns : List Intent) (D : Document) (J : Intent) → IsLine T O Ns → Run O Ns D → FitInTurn D (J ∷ []) → J.under ≡ last_in_effect D → (Has (revisions Ns ++ opening ∷ []) r → ⊥) → J.rev ≢ r → AgreesInLine T D J → AgreesInLine U D J
  pub homes : (m : NodeId) → m.0.rev ≢ r → U.home m ≡ T.home m
  pub chains : (q : Rev) → q ≢ r → U.chain q ≡ T.chain q

-- the last schema in effect came before the list or in it
pub last_among : (T : Told) (O : Document) (Ns : List Intent) (D : Document) → IsLine T O Ns → Run O Ns D → Has (revisions Ns ++ opening ∷ []) (last_in_effect D)
last_among T O Ns D l run = made_among (opening ∷ []) Ns (last_in_effect D) (last_made T O Ns l D run)

-- under which schema a commit was made, and the schema that it brings in
pub commit_is_told : (O : Document) (T : Told) (N : Intent) (new : SchemaView) → IsToldAnew O T (with_commit T N new) N.rev
commit_is_told O T N new = record { lines = λ Ns l fresh. line_told T O Ns l N fresh new; edits = edits; homes = λ m other. refl; chains = λ q other. chain q other (same_rev q N.rev) refl }
  where
    chain : (q : Rev) → q ≢ N.rev → (b : Bool) → same_rev q N.rev ≡ b → cond b (T.chain N.under ++ N.rev ∷ []) (T.chain q) ≡ T.chain q
    chain q other false e = refl
    chain q other true e = absurd (other (same_rev-true q N.rev e))

    edits : (Ns : List Intent) (D : Document) (J : Intent) → IsLine T O Ns → Run O Ns D → FitInTurn D (J ∷ []) → J.under ≡ last_in_effect D → (Has (revisions Ns ++ opening ∷ []) N.rev → ⊥) → J.rev ≢ N.rev → AgreesInLine T D J → AgreesInLine (with_commit T N new) D J
    edits Ns D J l run fit under fresh apart a =
        (list_told T N new (J ∷ []) (revisions Ns ++ opening ∷ []) D (turn_extends l.sound l.fit run).after (made_in_run (opening ∷ []) l.fit run l.made) fit (λ h. elim h [ inl e ↦ apart e | inr q ↦ fresh q ]) unders (a, λ v is. tt)).0
      where
        unders : (M : Intent) → Has (J ∷ []) M → M.under ≢ N.rev
        unders M (inl e) q = fresh (subst (Has (revisions Ns ++ opening ∷ [])) (sym (sym q ∙ sym (ap (λ (X : Intent). X.under) e) ∙ under)) (last_among T O Ns D l run))
        unders M (inr h) q = absurd h

-- the homes of its new nodes
pub homes_are_told : (O : Document) (T : Told) (N : Intent) → IsIntent N → IsToldAnew O T (with_home T N) N.rev
homes_are_told O T N itself = record { lines = λ Ns l fresh. line_at_home T O Ns l N fresh itself; edits = edits; homes = λ m other. home m other (is_new N m) refl; chains = λ q other. refl }
  where
    home : (m : NodeId) → m.0.rev ≢ N.rev → (b : Bool) → is_new N m ≡ b → cond b (put_register N m) (T.home m) ≡ T.home m
    home m other false e = refl
    home m other true e = absurd (other (new_node-rev N itself m e))

    edits : (Ns : List Intent) (D : Document) (J : Intent) → IsLine T O Ns → Run O Ns D → FitInTurn D (J ∷ []) → J.under ≡ last_in_effect D → (Has (revisions Ns ++ opening ∷ []) N.rev → ⊥) → J.rev ≢ N.rev → AgreesInLine T D J → AgreesInLine (with_home T N) D J
    edits Ns D J l run fit under fresh apart a =
        (list_at_home T N itself (J ∷ []) (revisions Ns ++ opening ∷ []) D (made_in_run (opening ∷ []) l.fit run l.made) fit (λ h. elim h [ inl e ↦ apart e | inr q ↦ fresh q ]) (a, λ v is. tt)).0

-- all of that
pub new_is_told : (O : Document) (T : Told) (N : Intent) → IsIntent N → IsToldAnew O T (with_home (with_commit T N (T.view N.under)) N) N.rev
new_is_told O T N itself =
    let one = commit_is_told O T N (T.view N.under) in
    let two = homes_are_told O (with_commit T N (T.view N.under)) N itself in
    record {
      lines = λ Ns l fresh. two.lines Ns (one.lines Ns l fresh) fresh;
      edits = λ Ns D J l run fit under fresh apart a. two.edits Ns D J (one.lines Ns l fresh) run fit under fresh apart (one.edits Ns D J l run fit under fresh apart a);
      homes = λ m other. two.homes m other ∙ one.homes m other;
      chains = λ q other. two.chains q other ∙ one.chains q other;
    }

-- more is told of a revision, and schemas of other revisions stay known
pub record GoesAnew (O : Document) (K L : Rev → List ℕ → Type 0) (T U : Told) (r : Rev) : Type 0 where
  pub told : IsToldAnew O T U r
  pub known : (q : Rev) (text : List ℕ) → q ≢ r → K q text → L q text

pub same_known : (O : Document) (K : Rev → List ℕ → Type 0) (T U : Told) (r : Rev) → IsToldAnew O T U r → GoesAnew O K K T U r
same_known O K T U r told = record { told = told; known = λ q text apart k. k }

-- a list that doesn't have it keeps to its schemas as before
pub goes_told : (K L : Rev → List ℕ → Type 0) (T U : Told) (O : Document) (r : Rev) (Ns : List Intent) → GoesAnew O K L T U r → (Has (revisions Ns ++ opening ∷ []) r → ⊥) → KeepsLine K T O Ns → KeepsLine L U O Ns
goes_told K L T U O r Ns anew fresh w = record {
  line = anew.told.lines Ns w.line fresh;
  known = has-all (IsKnownBy L) Ns (λ N i. go N (apart N i) N.schema (all-has (IsKnownBy K) Ns N w.known i));
  made = has-all (IsMadeAsTold U) Ns (λ N i. (let m = all-has (IsMadeAsTold T) Ns N w.made i in record {
    homes = λ n e. anew.told.homes n (λ q. apart N i (sym (new_node-rev N (intent N i) n e) ∙ q)) ∙ m.homes n e;
    room = subst (λ rs. IfSome N.schema (λ _. length rs < 64)) (sym (anew.told.chains N.under (under N i))) m.room;
  }));
  first = λ m e. anew.told.homes m (λ q. fresh (append_right (revisions Ns) (opening ∷ []) r (inl (sym e ∙ q)))) ∙ w.first m e;
}
  where
    under : (N : Intent) → Has Ns N → N.under ≢ r
    under N i e = fresh (subst (Has (revisions Ns ++ opening ∷ [])) e (made_among (opening ∷ []) Ns N.under (unders_made (opening ∷ []) Ns w.line.earlier N i)))

    intent : (N : Intent) → Has Ns N → IsIntent N
    intent N i = all-has IsIntent Ns N (turn_intents Ns O w.line.sound w.line.fit) i

    apart : (N : Intent) → Has Ns N → N.rev ≢ r
    apart N i e = fresh (append_left (revisions Ns) (opening ∷ []) r (subst (Has (revisions Ns)) e (map-has (λ (X : Intent). X.rev) Ns N i)))

    go : (N : Intent) → N.rev ≢ r → (o : Option (List ℕ)) → IfSome o (K N.rev) → IfSome o (L N.rev)
    go N other None k = tt
    go N other (Some text) k = anew.known N.rev text other k

-- ## The schema in effect

-- it keeps the rules of schemas
pub in_effect_sound : (T : Told) (D : Document) → IsSoundInForm D → ConformsInEffect T D → is_sound (schema_in_effect D) ≡ true
in_effect_sound T D s here =
    let last = some_last (revs D.schemas) s.in_effect.begun in
    ap is_sound (read_as_told T D s here) ∙ here.widening.sound (last_in_effect D) (last-has (revs D.schemas) (last_in_effect D) last)

-- ## Runs

-- the rest of a run, after a front of its commits
pub run_after : {As Ms : List Intent} {O D E : Document} → Run O As D → Run O (As ++ Ms) E → Run D Ms E
run_after done q = q
run_after {Ms = Ms} {E = E} (next {D} {N = N} {Ns = As} v a r) (next w b q) = run_after r (subst (λ v. Run (carried_document v D N) (As ++ Ms) E) (one_verdict D N w v b a) q)
