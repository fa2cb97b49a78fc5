-- The test said by the log is the test said by what is told.
use Rattle.std.proofs.Common.{◌≡◌, ◌≢◌, Bool, true, false, cond, List, [], ◌∷◌, Option, Some, None, IsSome, IfSome, is_some, option_map, option_and_then, unwrap_or, refl, sym, ap, ◌∙◌, subst, ◌⊎◌, inl, inr}
use Rattle.std.specs.List.{AllByRecursion, find}
use Rattle.serde_json.specs.Written.{compact_text}
use Rattle.st_lemmas.proofs.Bools.{true-false}
use Rattle.st_ids.specs.Listing.{Has}
use Rattle.st_ids.specs.Order.{same_rev}
use Rattle.st_ids.specs.Root.{opening}
use Rattle.st_ids.specs.declared.names.FieldId.{FieldId}
use Rattle.st_ids.specs.declared.names.NodeId.{NodeId}
use Rattle.st_ids.specs.declared.names.Rev.{Rev}
use Rattle.st_ids.proofs.Orders.{same_rev-itself, same_rev-true}
use Rattle.st_schema.specs.Reading.{schema_of_text}
use Rattle.st_schema.specs.Schema.{SchemaView}
use Rattle.st_schema.specs.Written.{schema_data}
use Rattle.st_marks.specs.declared.intents.Intent.{Intent}
use Rattle.st_marks.specs.declared.intents.To.{To}
use Rattle.st_marks.specs.declared.schemas.SchemaEntry.{SchemaEntry}
use Rattle.st_marks.specs.CarryOut.{with_names}
use Rattle.st_marks.specs.Document.{Document, revs}
use Rattle.st_marks.specs.Intent.{Fits, IsIntent, IsKnown, clears, is_new, put_in}
use Rattle.st_marks.specs.Run.{Run, done, next}
use Rattle.st_marks.specs.Verdict.{carried_document}
use Rattle.st_marks.specs.declared.verdicts.Verdict.{Verdict}
use Rattle.st_marks.proofs.Full.{known_put}
use Rattle.st_marks.proofs.Lookups.{clears-has, has-put, put_in-has}
use Rattle.st_marks.proofs.Members.{all-has, distinct-has, first-has, has-all, none-has}
use Rattle.st_log_laws.specs.Names.{HaveNewRevisions, IsMadeUnder}
use Rattle.st_log_laws.specs.Turns.{FitInTurn, IsSublist}
use Rattle.st_log_laws.proofs.Names.{if_carried, new_node_rev}
use Rattle.st_log_laws.proofs.Shorter.{has_longer}
use Rattle.st_edits.specs.Fields.{put_register, is_required_field, register_in}
use Rattle.st_part_laws.specs.Chains.{TellsChain}
use Rattle.st_schema_laws.specs.AgreeingInEffect.{Told}
use Rattle.st_edits.specs.InEffect.{empty_schema}
use Rattle.st_schema_laws.proofs.Entries.{entries_from}
use Rattle.st_schema_laws.proofs.Texts.{schema_text}
use Rattle.st_conform_laws.specs.Keeping.{KeepsTo}
use Rattle.st_edits.specs.Keeping.{IsUpTo, IsViewOf, KeepsToSchema, Made, MayLeave, commit_named, home_of, made_of}
use Rattle.st_conform_laws.specs.Telling.{IsToldBy, schema_read}
use Rattle.st_conform_laws.proofs.NodesThatConform.{known_old_or_new}
use Rattle.st_conform_laws.proofs.FrontsOfSchemas.{fronts_are_lines}

-- ## Which commit made a node

abbrev IsMadeBy : List Intent → Document → Document → Type 0
IsMadeBy Ns D E = (n : NodeId) → IsSome (E.nodes n) → IsSome (D.nodes n) ⊎ ((N : Intent) × Has Ns N × (is_new N n ≡ true))

made_in_list : {D E : Document} {Ns : List Intent} → Run D Ns E → FitInTurn D Ns → IsMadeBy Ns D E
made_in_list done f n h = inl h
made_in_list (next {D} {N = N} {Ns = Ns} v a r) f n h = elim (made_in_list r (f.2 v a) n h) [
  | inl i ↦ first (one v i)
  | inr w ↦ inr (w.0, inr w.1, w.2)
]
  where
    one : (v : Verdict) → IsSome ((carried_document v D N).nodes n) → IsSome (D.nodes n) ⊎ (is_new N n ≡ true)
    one v = if_carried (λ (E : Document). IsSome (E.nodes n) → IsSome (D.nodes n) ⊎ (is_new N n ≡ true)) D N (λ i. inl i) (known_old_or_new D N f.0 n) (known_old_or_new D N f.0 n) v

    first : IsSome (D.nodes n) ⊎ (is_new N n ≡ true) → IsSome (D.nodes n) ⊎ ((M : Intent) × Has (N ∷ Ns) M × (is_new M n ≡ true))
    first (inl i) = inl i
    first (inr i) = inr (N, inl refl, i)

module _ (T : Told) (O D : Document) (Ls As : List Intent) (N : Intent) (made : IsMadeUnder (opening ∷ []) O) (one : revs O.schemas ≡ opening ∷ []) (part : IsSublist As Ls) (new : HaveNewRevisions (opening ∷ []) Ls)
    (fit : FitInTurn O As) (ran : Run O As D) (fits : Fits D N) (told : (M : Intent) → Has Ls M → IsToldBy T M) (begins : T.under opening ≡ opening) (line : T.chain opening ≡ opening ∷ [])
    (homes : (m : NodeId) → IsSome (O.nodes m) → T.home m ≡ register_in (O.place m)) (views : (e : SchemaEntry) → Has O.schemas e → T.view e.rev ≡ schema_read e.text) where
  intents : (Ms : List Intent) {E F : Document} → Run E Ms F → FitInTurn E Ms → AllByRecursion IsIntent Ms
  intents [] r f = tt
  intents (M ∷ Ms) (next v a r) f = (f.0.itself, intents Ms r (f.2 v a))

  -- ## Makers

  named : (M : Intent) → Has Ls M → commit_named Ls M.rev ≡ Some M
  named M h = go (commit_named Ls M.rev) refl
    where
      go : (o : Option Intent) → commit_named Ls M.rev ≡ o → commit_named Ls M.rev ≡ Some M
      go None e = absurd (true-false (same_rev-itself M.rev) (none-has (λ (N : Intent). same_rev N.rev M.rev) Ls M e h))
      go (Some K) e =
          let w = first-has (λ (N : Intent). same_rev N.rev M.rev) Ls K e in
          e ∙ ap (λ k. Some k) (distinct-has (λ (N : Intent). N.rev) Ls K M new.once w.0 h (same_rev-true K.rev M.rev w.1))

  of_opening : (n : NodeId) → IsSome (O.nodes n) → n.0.rev ≡ opening
  of_opening n h = only (made.nodes n h)
    where
      only : Has (opening ∷ []) n.0.rev → n.0.rev ≡ opening
      only (inl q) = sym q
      only (inr q) = absurd q

  not_opening : (r : Rev) → r ≢ opening → same_rev r opening ≡ false
  not_opening r other = go (same_rev r opening) refl
    where
      go : (b : Bool) → same_rev r opening ≡ b → same_rev r opening ≡ false
      go true e = absurd (other (same_rev-true r opening e))
      go false e = e

  -- a node of the author's document was made as it is told
  made_as_told : (n : NodeId) → IsSome (D.nodes n) → made_of O Ls n ≡ Some (record { under = T.under n.0.rev; home = T.home n })
  made_as_told n h = elim (made_in_list ran fit n h) [
    | inl old ↦ first old
    | inr w ↦ later_one w.0 (has_longer part w.0 w.1) (all-has IsIntent As w.0 (intents As ran fit) w.1) w.2
  ]
    where
      first : IsSome (O.nodes n) → made_of O Ls n ≡ Some (record { under = T.under n.0.rev; home = T.home n })
      first old =
          let r = of_opening n old in
          let u : opening ≡ T.under n.0.rev = sym begins ∙ ap T.under (sym r) in
          let h : register_in (O.place n) ≡ T.home n = sym (homes n old) in
          ap (λ b. cond b (Some (record { under = opening; home = register_in (O.place n) })) (option_map (λ (N : Intent). record { under = N.under; home = put_register N n }) (commit_named Ls n.0.rev)))
          (ap (λ x. same_rev x opening) r ∙ same_rev-itself opening)
          ∙ (λ i. Some (record { under = u i; home = h i }))

      later_one : (M : Intent) → Has Ls M → IsIntent M → is_new M n ≡ true → made_of O Ls n ≡ Some (record { under = T.under n.0.rev; home = T.home n })
      later_one M there itself fresh =
          let r : n.0.rev ≡ M.rev = new_node_rev M itself n fresh in
          let apart : n.0.rev ≢ opening = λ e. new.new M there (inl (sym e ∙ r)) in
          let t = told M there in
          let u : M.under ≡ T.under n.0.rev = sym t.under ∙ ap T.under (sym r) in
          let h : put_register M n ≡ T.home n = sym (t.homes n fresh) in
          ap (λ b. cond b (Some (record { under = opening; home = register_in (O.place n) })) (option_map (λ (N : Intent). record { under = N.under; home = put_register N n }) (commit_named Ls n.0.rev))) (not_opening n.0.rev apart)
          ∙ ap (option_map (λ (N : Intent). record { under = N.under; home = put_register N n })) (ap (commit_named Ls) r ∙ named M there)
          ∙ (λ i. Some (record { under = u i; home = h i }))

  -- ## The schema

  viewed : (e : SchemaEntry) → Has D.schemas e → T.view e.rev ≡ schema_read e.text
  viewed e h = elim (entries_from O D As (intents As ran fit) ran e h) [
    | inl i ↦ views e i
    | inr w ↦ ap T.view (sym w.2) ∙ of_text w.0 (told w.0 (has_longer part w.0 w.1)).view w.3
  ]
    where
      of_text : (M : Intent) → IfSome M.schema (λ text. T.view M.rev ≡ schema_read text) → M.schema ≡ Some e.text → T.view M.rev ≡ schema_read e.text
      of_text M v q = subst (λ o. IfSome o (λ text. T.view M.rev ≡ schema_read text)) q v

  pub same_view : (U : SchemaView) → IsViewOf D N.under U → T.view N.under ≡ U
  same_view U v = go (find (λ (e : SchemaEntry). same_rev e.rev N.under) D.schemas) refl v.text
    where
      go : (o : Option SchemaEntry) → find (λ (e : SchemaEntry). same_rev e.rev N.under) D.schemas ≡ o → option_map (λ (e : SchemaEntry). e.text) o ≡ Some (compact_text (schema_data U)) → T.view N.under ≡ U
      go None e q = cc
      go (Some x) e q =
          let w = first-has (λ (e : SchemaEntry). same_rev e.rev N.under) D.schemas x e in
          let text : x.text ≡ compact_text (schema_data U) = cc in
          ap T.view (sym (same_rev-true x.rev N.under w.1)) ∙ viewed x w.0 ∙ ap (λ o. unwrap_or o empty_schema) (ap schema_of_text text ∙ (schema_text U v.sound).back)

  -- ## The test

  home_as_told : (m : NodeId) → IsSome (D.nodes m) → home_of O Ls m ≡ T.home m
  home_as_told m h = ap (option_and_then (λ (d : Made). d.home)) (made_as_told m h)

  old_known : (n : NodeId) → is_new N n ≡ false → IsKnown D N n → IsSome (D.nodes n)
  old_known n old (inl fresh) = absurd (true-false fresh old)
  old_known n old (inr h) = h

  in_front : (n : NodeId) (front : List Rev) → IsSome (D.nodes n) → (d : Made) × (made_of O Ls n ≡ Some d) × Has front d.under → Has front (T.under n.0.rev)
  in_front n front h w =
      let same : Some w.0 ≡ Some (record { under = T.under n.0.rev; home = T.home n }) = sym w.1 ∙ made_as_told n h in
      subst (Has front) (under_of w.0 (record { under = T.under n.0.rev; home = T.home n }) same) w.2
    where
      under_of : (a b : Made) → Some a ≡ Some b → a.under ≡ b.under
      under_of a b e = let q : a ≡ b = cc in ap (λ (d : Made). d.under) q

  leaves : (f : FieldId) (to : To) → MayLeave N f to → (to ≡ To.Register f) ⊎ ((to ≡ To.Nowhere) × IsSome (put_in N f))
  leaves f To.Nowhere h = inr (refl, h)
  leaves f (To.Cell c) h = absurd h
  leaves f (To.Register g) h = inl (ap To.Register h)

  chains : AllByRecursion (TellsChain T.chain) As
  chains = has-all (TellsChain T.chain) As (λ M h. (told M (has_longer part M h)).chain)

  module _ (U : SchemaView) (front : List Rev) (v : IsViewOf D N.under U) (up_to : IsUpTo N.under (revs D.schemas) front) (given : KeepsToSchema O D Ls U front N) where
    k : KeepsToSchema O D Ls (T.view N.under) front N
    k = subst (λ s. KeepsToSchema O D Ls s front N) (sym (same_view U v)) given

    same_front : front ≡ T.chain N.under
    same_front = fronts_are_lines T.chain O D As one line (intents As ran fit) chains ran N.under front up_to

    required : (f : FieldId) → clears N f ≡ true → is_required_field (T.view N.under) (with_names D N) f ≡ true → (m : NodeId) × (put_in N f ≡ Some m) × ((is_new N m ≡ true) ⊎ (T.home m ≡ Some f))
    required f c needs = let w = k.required f c needs in (
      w.0,
      w.1,
      elim w.2 [
        | inl fresh ↦ inl fresh
        | inr home ↦ who w.0 w.1 home (is_new N w.0) refl
      ],
    )
      where
        who : (m : NodeId) → put_in N f ≡ Some m → home_of O Ls m ≡ Some f → (b : Bool) → is_new N m ≡ b → (is_new N m ≡ true) ⊎ (T.home m ≡ Some f)
        who m put home true q = inl q
        who m put home false q =
            let known = old_known m q (known_put D N fits m (To.Register f) (has-put N fits.itself (record { node = m; to = To.Register f }) (put_in-has N f m put))).0 in
            inr (sym (home_as_told m known) ∙ home)

    pub keeps_as_told : KeepsTo T D N
    keeps_as_told = record {
      types = k.types;
      filled = k.filled;
      fields = k.fields;
      put_makers = λ m to e old. subst (λ rs. Has rs (T.under m.0.rev)) same_front (in_front m front (old_known m old (known_put D N fits m to e).0) (k.put_makers m (ap is_some e) old));
      clear_makers = λ f e old. subst (λ rs. Has rs (T.under f.node.0.rev)) same_front (in_front f.node front (old_known f.node old (all-has (λ (f : FieldId). IsKnown D N f.node) N.clear f fits.clears_known (clears-has N.clear f e))) (k.clear_makers f e old));
      required = required;
      homes = λ m to f e old own needs. leaves f to (k.homes m to f e old (home_as_told m (old_known m old (known_put D N fits m to e).0) ∙ own) needs);
    }
