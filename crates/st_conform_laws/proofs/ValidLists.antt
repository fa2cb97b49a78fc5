-- Where each commit of a list is valid where it comes, the document after the list conforms node by node.
use Rattle.std.proofs.Common.{◌≡◌, ◌≢◌, ℕ, true, List, [], ◌∷◌, ◌++◌, Option, Some, None, IsSome, IfSome, is_some, refl, sym, ap, ◌∙◌, subst, ◌⊎◌, inl, inr, option_and_then, append_assoc}
use Rattle.std.proofs.lemmas.List.{append-nil}
use Rattle.std.specs.Option.{option_or}
use Rattle.std.specs.List.{AllByRecursion}
use Rattle.st_ids.specs.Listing.{Has}
use Rattle.st_ids.specs.Root.{opening}
use Rattle.st_ids.specs.declared.names.FieldId.{FieldId}
use Rattle.st_ids.specs.declared.names.NodeId.{NodeId}
use Rattle.st_ids.specs.declared.names.Rev.{Rev}
use Rattle.st_lemmas.proofs.Lists.{map-append}
use Rattle.st_marks.specs.declared.intents.Intent.{Intent}
use Rattle.st_marks.specs.declared.intents.To.{To}
use Rattle.st_marks.specs.declared.verdicts.Verdict.{Verdict}
use Rattle.st_marks.specs.CarryOut.{with_names}
use Rattle.st_marks.specs.Document.{Document, IsSoundInForm, last_of, revs}
use Rattle.st_marks.specs.Extends.{no_more, item_gained, item_kept}
use Rattle.st_marks.specs.Intent.{Fits, IsIntent, is_new, new_type, register_of, put_of}
use Rattle.st_marks.specs.Run.{Run, done, next}
use Rattle.st_marks.specs.Verdict.{HasBase, IsBaseInEffect, IsVerdict, carried_document}
use Rattle.st_marks.proofs.Full.{known_put}
use Rattle.st_marks.proofs.Members.{append_left, append_right, distinct-between, has-append, has-map, map-has}
use Rattle.st_marks.proofs.OneVerdict.{one_run, run_then}
use Rattle.st_log_laws.specs.Names.{HaveNewRevisions, IsMadeUnder, revisions}
use Rattle.st_log_laws.specs.Turns.{FitInTurn, HasRoom, IsSublist}
use Rattle.st_log_laws.proofs.Beside.{later_fits, names_later}
use Rattle.st_log_laws.proofs.Names.{if_carried}
use Rattle.st_log_laws.proofs.Shorter.{has_longer, new_shorter, room_shorter, sublist_itself, sublist_joined, sublist_on}
use Rattle.st_log_laws.proofs.Turns.{has_run, made_in_run, rest, turn_extends}
use Rattle.st_edits.specs.Fields.{put_register}
use Rattle.st_schema_laws.specs.Agreeing.{TellsHomes}
use Rattle.st_schema_laws.proofs.Kept.{known_later, named_later}
use Rattle.st_part_laws.specs.Schemas.{schemas_after}
use Rattle.st_part_laws.specs.Turns.{ComesFirst}
use Rattle.st_part_laws.proofs.Schemas.{schemas_run}
use Rattle.st_schema_laws.specs.AgreeingInEffect.{Told}
use Rattle.st_conform_laws.specs.Keeping.{KeepsWhereBased}
use Rattle.st_conform_laws.specs.Logs.{AreOwnAfter, AreValid, HasHomes, IsValidAfter, none_yet, one_more, no_own, own_more}
use Rattle.st_conform_laws.specs.Nodes.{ConformsByNodes}
use Rattle.st_conform_laws.proofs.DocumentsAfter.{conforms_after}
use Rattle.st_conform_laws.proofs.NodesThatConform.{known_old_or_new}
use Rattle.st_conform_laws.proofs.LaterDocuments.{keeps_there}
use Rattle.st_conform_laws.proofs.SchemasOfParts.{Agree, part_agrees}

-- ## Homes

put_there : (N : Intent) (m : NodeId) (f : FieldId) → put_register N m ≡ Some f → put_of N m ≡ Some (To.Register f)
put_there N m f e = go (put_of N m) e
  where
    to_is : (to : To) → register_of to ≡ Some f → to ≡ To.Register f
    to_is To.Nowhere q = cc
    to_is (To.Cell c) q = cc
    to_is (To.Register g) q = let same : g ≡ f = cc in ap To.Register same

    go : (o : Option To) → option_and_then register_of o ≡ Some f → o ≡ Some (To.Register f)
    go None q = cc
    go (Some to) q = ap (λ t. Some t) (to_is to q)

module _ (T : Told) (D : Document) (N : Intent) (fits : Fits D N) (tells : TellsHomes T.home N) (here : HasHomes T D) where
  homes_named : HasHomes T (with_names D N)
  homes_named m f known e = elim (known_old_or_new D N fits m known) [
    | inl old ↦ known_later (T.view N.under) D (with_names D N) (named_later D N) f.node (here m f old e)
    | inr new ↦ there (known_put D N fits m (To.Register f) (put_there N m f (sym (tells m new) ∙ e))).2
  ]
    where
      there : (is_new N f.node ≡ true) ⊎ IsSome (D.nodes f.node) → IsSome ((with_names D N).nodes f.node)
      there (inr h) = known_later (T.view N.under) D (with_names D N) (named_later D N) f.node h
      there (inl h) = ap (λ o. is_some (option_or o (new_type N f.node))) (fits.fresh_nodes f.node h) ∙ h

  homes_carried : (v : Verdict) → HasHomes T (carried_document v D N)
  homes_carried v = if_carried (HasHomes T) D N here homes_named homes_named v

homes_in_run : (T : Told) {D E : Document} {Ns : List Intent} → Run D Ns E → FitInTurn D Ns → ((N : Intent) → Has Ns N → TellsHomes T.home N) → HasHomes T D → HasHomes T E
homes_in_run T done f tells h = h
homes_in_run T (next {D} {N = N} v a r) f tells h = homes_in_run T r (f.2 v a) (λ M i. tells M (inr i)) (homes_carried T D N f.0 (tells N (inl refl)) h v)

-- ## Lists with one more

pub front_of_push : (Ls : List Intent) (N : Intent) → IsSublist Ls (Ls ++ N ∷ [])
front_of_push [] N = item_gained no_more
front_of_push (M ∷ Ls) N = item_kept refl (front_of_push Ls N)

pushed_revisions : (Ls : List Intent) (N : Intent) (r : Rev) → Has (revisions Ls ++ opening ∷ []) r → Has (revisions (Ls ++ N ∷ []) ++ opening ∷ []) r
pushed_revisions Ls N r h = elim (has-append (revisions Ls) (opening ∷ []) r h) [
  | inl i ↦ append_left (revisions (Ls ++ N ∷ [])) (opening ∷ []) r (subst (λ rs. Has rs r) (sym (map-append (λ (N : Intent). N.rev) Ls (N ∷ []))) (append_left (revisions Ls) (N.rev ∷ []) r i))
  | inr i ↦ append_right (revisions (Ls ++ N ∷ [])) (opening ∷ []) r i
]

pub part_revisions : (As Bs : List Intent) (r : Rev) → IsSublist As Bs → Has (revisions As ++ opening ∷ []) r → Has (revisions Bs ++ opening ∷ []) r
part_revisions As Bs r g h = elim (has-append (revisions As) (opening ∷ []) r h) [
  | inl i ↦ (let m = has-map (λ (N : Intent). N.rev) As r i in append_left (revisions Bs) (opening ∷ []) r (subst (Has (revisions Bs)) m.2 (map-has (λ (N : Intent). N.rev) Bs m.0 (has_longer g m.0 m.1))))
  | inr i ↦ append_right (revisions Bs) (opening ∷ []) r i
]

-- the last one's revision is new
new_last : (Ls : List Intent) (N : Intent) → HaveNewRevisions (opening ∷ []) (Ls ++ N ∷ []) → Has (revisions Ls ++ opening ∷ []) N.rev → ⊥
new_last Ls N new h = elim (has-append (revisions Ls) (opening ∷ []) N.rev h) [
  | inl i ↦ (let m = has-map (λ (N : Intent). N.rev) Ls N.rev i in distinct-between (λ (N : Intent). N.rev) Ls (N ∷ []) m.0 N new.once m.1 (inl refl) (sym m.2))
  | inr i ↦ new.new N (append_right Ls (N ∷ []) N (inl refl)) i
]

-- what is told of each commit
record IsToldOf (T : Told) (Ls : List Intent) (M : Intent) : Type 0 where
  under : T.under M.rev ≡ M.under
  homes : TellsHomes T.home M
  earlier : Has (revisions Ls ++ opening ∷ []) M.under

each_told : (T : Told) (O : Document) {Ls : List Intent} → AreValid T O Ls → (M : Intent) → Has Ls M → IsToldOf T Ls M
each_told T O none_yet M h = absurd h
each_told T O (one_more {Ls} {N} before v) M h = elim (has-append Ls (N ∷ []) M h) [
  | inl i ↦ (let t = each_told T O before M i in record { under = t.under; homes = t.homes; earlier = pushed_revisions Ls N M.under t.earlier })
  | inr i ↦ last i
]
  where
    own : IsToldOf T (Ls ++ N ∷ []) N
    own = record { under = v.keeps.under; homes = v.keeps.homes; earlier = pushed_revisions Ls N N.under (part_revisions v.author Ls N.under v.part v.under) }

    last : Has (N ∷ []) M → IsToldOf T (Ls ++ N ∷ []) M
    last (inl q) = subst (IsToldOf T (Ls ++ N ∷ [])) q own
    last (inr q) = absurd q

ended : (T : Told) {D E : Document} → Run D [] E → ConformsByNodes T D → ConformsByNodes T E
ended T done here = here

-- ## One more valid commit

module _ (T : Told) (O : Document) (sound : IsSoundInForm O) (made : IsMadeUnder (opening ∷ []) O) (homes : HasHomes T O) (begins : T.under opening ≡ opening)
    (Ls : List Intent) (N : Intent) (before : AreValid T O Ls) (v : IsValidAfter T O Ls N) (new : HaveNewRevisions (opening ∷ []) (Ls ++ N ∷ [])) (fit : FitInTurn O Ls) (all : FitInTurn O (Ls ++ N ∷ []))
    (D : Document) (ran : Run O Ls D) where
  fits_here : Fits D N
  fits_here = (rest (N ∷ []) ran all).0

  all_intents : (Ms : List Intent) {E F : Document} → Run E Ms F → FitInTurn E Ms → AllByRecursion IsIntent Ms
  all_intents [] r f = tt
  all_intents (M ∷ Ms) (next v a r) f = (f.0.itself, all_intents Ms r (f.2 v a))

  same_entries : {Ms : List Intent} {F : Document} → Run O Ms F → FitInTurn O Ms → F.schemas ≡ schemas_after O.schemas Ms
  same_entries {Ms} r f = schemas_run r (all_intents Ms r f)

  agree : Agree (λ u. Has (revisions v.author ++ opening ∷ []) u) (schemas_after O.schemas v.author) (schemas_after O.schemas Ls)
  agree = part_agrees v.author Ls v.part v.closed (new_shorter (opening ∷ []) Ls (Ls ++ N ∷ []) (front_of_push Ls N) new) O.schemas

  base_back : IsBaseInEffect D N → IsBaseInEffect v.head N
  base_back base = go N.schema base
    where
      go : (o : Option (List ℕ)) → HasBase D.schemas o N.under → HasBase v.head.schemas o N.under
      go None h = subst (λ es. Has (revs es) N.under) (sym (same_entries v.ran v.fit)) (agree.has N.under v.under (subst (λ es. Has (revs es) N.under) (same_entries ran fit) h))
      go (Some text) h = ap (λ es. last_of (revs es)) (same_entries v.ran v.fit) ∙ agree.last N.under v.under (sym (ap (λ es. last_of (revs es)) (same_entries ran fit)) ∙ h)

  head_homes : HasHomes T v.head
  head_homes = homes_in_run T v.ran v.fit (λ M i. (each_told T O before M (has_longer v.part M i)).homes) homes

  pub keeps_here : KeepsWhereBased T D N
  keeps_here = record {
    under = v.keeps.under;
    chain = v.keeps.chain;
    homes = v.keeps.homes;
    keeps = λ base e. keeps_there T v.head D N (names_later O v.part fit v.ran ran) (turn_extends sound v.fit v.ran).after (turn_extends sound fit ran).after v.fits fits_here head_homes (v.keeps.keeps (base_back base) e);
    widens = λ base. v.keeps.widens (base_back base);
  }

  -- no node is there yet that was made under a new schema
  later_than : (n : NodeId) → IsSome (D.nodes n) → T.under n.0.rev ≢ N.rev
  later_than n known q = elim (has-append (revisions Ls) (opening ∷ []) n.0.rev ((made_in_run (opening ∷ []) fit ran made).nodes n known)) [
    | inl h ↦ (let m = has-map (λ (N : Intent). N.rev) Ls n.0.rev h in let t = each_told T O before m.0 m.1 in
        new_last Ls N new (subst (Has (revisions Ls ++ opening ∷ [])) (sym t.under ∙ ap T.under m.2 ∙ q) t.earlier))
    | inr h ↦ new_last Ls N new (append_right (revisions Ls) (opening ∷ []) N.rev (inl (sym begins ∙ ap T.under (only h) ∙ q)))
  ]
    where
      only : Has (opening ∷ []) n.0.rev → opening ≡ n.0.rev
      only (inl h) = h
      only (inr h) = absurd h

  pub comes : ComesFirst T.under D N
  comes = go N.schema
    where
      go : (o : Option (List ℕ)) → IfSome o (λ _. (n : NodeId) → IsSome (D.nodes n) → T.under n.0.rev ≢ N.rev)
      go None = tt
      go (Some text) = later_than

  pub conforms_one_more : ConformsByNodes T D → (w : Verdict) → IsVerdict D N w → ConformsByNodes T (carried_document w D N)
  conforms_one_more here w h = conforms_after T D N (turn_extends sound fit ran).after fits_here keeps_here here (rest (N ∷ []) ran all).1 comes w h

  pub run_conforms : ConformsByNodes T D → {E : Document} → Run D (N ∷ []) E → ConformsByNodes T E
  run_conforms here {E = E} (next w h r) = ended T r (conforms_one_more here w h)

-- ## Any list of valid commits

module _ (T : Told) (O : Document) (sound : IsSoundInForm O) (made : IsMadeUnder (opening ∷ []) O) (homes : HasHomes T O) (first : ConformsByNodes T O) where
  abbrev Conform : List Intent → Type 0
  Conform Ls = FitInTurn O Ls × ((D : Document) → Run O Ls D → ConformsByNodes T D)

  one_more_conforms : (Ls : List Intent) (N : Intent) → AreValid T O Ls → IsValidAfter T O Ls N → HaveNewRevisions (opening ∷ []) (Ls ++ N ∷ []) → HasRoom O (Ls ++ N ∷ []) → Conform Ls → Conform (Ls ++ N ∷ [])
  one_more_conforms Ls N before v new room w = (all, after)
    where
      all : FitInTurn O (Ls ++ N ∷ [])
      all = later_fits (opening ∷ []) O v.head v.author Ls N sound made v.part v.fit w.0 v.ran v.fits (new_last Ls N new) room

      after : (E : Document) → Run O (Ls ++ N ∷ []) E → ConformsByNodes T E
      after E r =
          let d = has_run Ls O sound w.0 in
          let e = has_run (N ∷ []) d.0 (turn_extends sound w.0 d.1).after (rest (N ∷ []) d.1 all) in
          subst (ConformsByNodes T) (one_run (run_then d.1 e.1) r)
          (run_conforms T O sound made homes first.opened Ls N before v new w.0 all d.0 d.1 (w.1 d.0 d.1) e.1)

  none_conforms : {D : Document} → Run O [] D → ConformsByNodes T D
  none_conforms done = first

  pub valid_conform : {Ls : List Intent} → AreValid T O Ls → HaveNewRevisions (opening ∷ []) Ls → HasRoom O Ls → Conform Ls
  valid_conform none_yet new room = (tt, λ D r. none_conforms r)
  valid_conform (one_more {Ls} {N} before v) new room =
      one_more_conforms Ls N before v new room
      (valid_conform before (new_shorter (opening ∷ []) Ls (Ls ++ N ∷ []) (front_of_push Ls N) new) (room_shorter O Ls (Ls ++ N ∷ []) (front_of_push Ls N) room))

-- ## After a longer list

pub valid_longer : (T : Told) (O : Document) (As Bs : List Intent) (N : Intent) → IsSublist As Bs → IsValidAfter T O As N → IsValidAfter T O Bs N
valid_longer T O As Bs N g v = record {
  author = v.author;
  part = sublist_on v.part g;
  closed = v.closed;
  fit = v.fit;
  head = v.head;
  ran = v.ran;
  fits = v.fits;
  under = v.under;
  keeps = v.keeps;
}

-- ## A list of valid commits has the commits under which its own were made

pub valid_closed : (T : Told) (O : Document) (Ls : List Intent) → AreValid T O Ls → (M : Intent) → Has Ls M → Has (revisions Ls ++ opening ∷ []) M.under
valid_closed T O Ls valid M h = (each_told T O valid M h).earlier

-- ## Authors' lists

-- a front and then one sender's later commits are such a list
pub own_valid : (T : Told) (O : Document) (front : List Intent) {Os : List Intent} → AreValid T O front → AreOwnAfter T O front Os → AreValid T O (front ++ Os)
own_valid T O front valid no_own = subst (AreValid T O) (sym (append-nil front)) valid
own_valid T O front valid (own_more {Os} {part} {Ls} {N} before g v e) = subst (AreValid T O) (append_assoc front Os (N ∷ [])) (one_more (own_valid T O front valid before) (record {
  author = v.author;
  part = subst (λ l. IsSublist l (front ++ Os)) (sym e) (sublist_joined g (sublist_itself Os));
  closed = v.closed;
  fit = v.fit;
  head = v.head;
  ran = v.ran;
  fits = v.fits;
  under = v.under;
  keeps = v.keeps;
}))
