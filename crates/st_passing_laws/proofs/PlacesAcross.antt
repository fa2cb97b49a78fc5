-- Where nodes stand and what registers hold after an intent whose change a step passes, in the document and in the later one: what
-- the step moves stands where it stood without the intent, and what it names stands where it stood before.
use Rattle.std.proofs.Common.{◌≡◌, ◌≢◌, ◌↔◌, ◌&&◌, ◌||◌, not, Bool, true, false, List, Option, Some, None, IsSome, is_some, cond, refl, sym, ap, ◌∙◌, inl, inr, ◌⊎◌}
use Rattle.std.specs.Option.{option_map_or, option_or}
use Rattle.st_ids.specs.Listing.{Has, item_of}
use Rattle.st_ids.specs.Order.{field_cmp, node_cmp, same_node}
use Rattle.st_ids.specs.Root.{root}
use Rattle.st_ids.specs.declared.names.CellId.{CellId}
use Rattle.st_ids.specs.declared.names.FieldId.{FieldId}
use Rattle.st_ids.specs.declared.names.NodeId.{NodeId}
use Rattle.st_ids.proofs.Orders.{same_node-true}
use Rattle.st_marks.specs.declared.changes.Change.{Change}
use Rattle.st_marks.specs.declared.intents.Intent.{Intent}
use Rattle.st_marks.specs.declared.intents.To.{To}
use Rattle.st_marks.specs.declared.marks.How.TheVariants.{Stay, Here, Leave}
use Rattle.st_marks.specs.declared.marks.Loose.{Loose}
use Rattle.st_marks.specs.declared.marks.RegMark.{RegMark}
use Rattle.st_marks.specs.declared.marks.RegStep.{RegStep}
use Rattle.st_marks.specs.declared.places.Slot.{Slot}
use Rattle.st_marks.specs.declared.places.Spot.{Spot}
use Rattle.st_marks.specs.declared.steps.Step.{Step}
use Rattle.st_marks.specs.declared.verdicts.Verdict.{Verdict}
use Rattle.st_marks.specs.CarryOut.{full, is_put_in_new, only_new, place_after, spot_of, unless_cleared, unless_put, void_data, with_names}
use Rattle.st_marks.specs.Document.{Document, IsSoundInForm}
use Rattle.st_marks.specs.Embedding.{IsEmbedding, is_loose, is_nowhere, register_part, row_part}
use Rattle.st_marks.specs.Extends.{GainsItems, IsExtendedBy, no_more, item_gained, item_kept}
use Rattle.st_marks.specs.Intent.{Fits, clears, is_new, new_row_of, put_in, put_of, same_option}
use Rattle.st_marks.specs.Register.{comes_in, holds_mentioned, how_held, step_register}
use Rattle.st_marks.specs.Row.{RowPart, SameCell, how, same_to}
use Rattle.st_marks.specs.Step.{IsStep, step_loose}
use Rattle.st_marks.specs.Verdict.{carried_document}
use Rattle.st_marks.proofs.Climb.{same_spot, shown}
use Rattle.st_marks.proofs.Full.{full_one_held, put_to_cell}
use Rattle.st_marks.proofs.Lookups.{put_clears, put_in-has}
use Rattle.st_marks.proofs.Shared.{held-same, not_made, same-held, same_to-true}
use Rattle.st_reading.specs.Bridge.{is_void}
use Rattle.st_read_laws.specs.Reading.{read_change, read_step}
use Rattle.st_passing.specs.Staying.{MentionedStay}
use Rattle.st_passing.specs.Whole.{LeavesMentioned, Passes, loose_pass, registers_pass}
use Rattle.st_passing.proofs.NodesStaying.{row_stays}
use Rattle.st_passing_laws.proofs.CarriedAlike.{void_data_alike}
use Rattle.st_passing_laws.proofs.MentionedLeft.{leaves_mentioned}
use Rattle.st_passing_laws.proofs.NodesLeft.{known_climb, listed_register, or_true, rows_do_not_meet}
use Rattle.st_passing_laws.proofs.RowsAcross.{none_some, not_true}
use Rattle.st_passing_laws.proofs.VerdictsLeft.{place_alike, put_reached, stands_alike}

true_false : {a : Bool} → a ≡ true → a ≡ false → ⊥
true_false e f = let b : ◌≡◌ {A = Bool} true false = sym e ∙ f in cc

-- ## The document after an intent that changes no schema, and is void or not

abbrev pub carried : Bool → Document → Intent → Document
carried true D N = void_data D N
carried false D N = full D N

pub carried_is : (v : Verdict) (D : Document) (N : Intent) → N.schema ≡ None → carried_document v D N ≡ carried (is_void v) D N
carried_is Verdict.Sound D N e = refl
carried_is (Verdict.Need n) D N e = ap (λ o. option_map_or (λ _. D) o (void_data D N)) e
carried_is (Verdict.Cycle n) D N e = ap (λ o. option_map_or (λ _. D) o (void_data D N)) e
carried_is (Verdict.Schema u) D N e = ap (λ o. option_map_or (λ _. D) o (void_data D N)) e

-- ## A node that the step names stays in its cell

named_kept : (p : RowPart) (named : NodeId → Bool) {c d : List Slot} (g : GainsItems SameCell c d) → MentionedStay p named g → (a : CellId) (n : NodeId) → Has c (record { cell = a; node = n; full = true })
    → p.mentioned n ≡ true → named n ≡ true → how (p.target_of n) (To.Cell a) ≢ Leave
named_kept p named no_more s a n h m k = absurd h
named_kept p named (item_gained g) s a n h m k = named_kept p named g s a n h m k
named_kept p named (item_kept same g) s a n (inr h) m k = named_kept p named g s.1 a n h m k
named_kept p named (item_kept {x} {y} same g) s a n (inl q) m k =
    let cell : x.cell ≡ a = ap (λ (t : Slot). t.cell) q in
    let node : x.node ≡ n = ap (λ (t : Slot). t.node) q in
    λ w. s.0.1 (ap (λ (t : Slot). t.full) q) (ap p.mentioned node ∙ m) (ap named node ∙ k) ((λ i. how (p.target_of (node i)) (To.Cell (cell i))) ∙ w)

stays_put : (to here : To) → how (Some to) here ≢ Leave → to ≡ here
stays_put to here h = go (same_to to here) refl
  where
    go : (b : Bool) → same_to to here ≡ b → to ≡ here
    go true e = same_to-true to here e
    go false e = absurd (h (ap (λ b. cond b Here Leave) e))

-- ## A place that the intent leaves

module _ (N : Intent) where
  place_kept : (s : Spot) → ((g : FieldId) → s ≡ Spot.Register g → clears N g ≡ false) → unless_cleared N s ≡ s
  place_kept Spot.Nowhere h = refl
  place_kept (Spot.Row n c) h = refl
  place_kept (Spot.Register g) h = ap (λ b. cond b Spot.Nowhere (Spot.Register g)) (h g refl)

  unput_place : (F : Document) (k : NodeId) → put_of N k ≡ None → ((g : FieldId) → F.place k ≡ Spot.Register g → clears N g ≡ false) → (full F N).place k ≡ F.place k
  unput_place F k h c = ap (λ o. place_after (with_names F N).row_of N o (F.place k)) h ∙ place_kept (F.place k) c

  void_place : (F : Document) (k : NodeId) → is_new N k ≡ false → (void_data F N).place k ≡ F.place k
  void_place F k h = ap (λ b. cond (b && is_put_in_new F N k) (place_after (with_names F N).row_of N (put_of N k) (F.place k)) (F.place k)) h

  row_kept : (s : Spot) (r : NodeId) (c : CellId) → unless_cleared N s ≡ Spot.Row r c → s ≡ Spot.Row r c
  row_kept Spot.Nowhere r c h = h
  row_kept (Spot.Row n d) r c h = h
  row_kept (Spot.Register g) r c h = go (clears N g) h
    where
      go : (b : Bool) → cond b Spot.Nowhere (Spot.Register g) ≡ Spot.Row r c → Spot.Register g ≡ Spot.Row r c
      go true h = cc
      go false h = h

  -- what stands in a row afterwards stood there, or was put there
  pub comes : (b : Bool) (F : Document) (k r : NodeId) (c : CellId) → (carried b F N).place k ≡ Spot.Row r c → (F.place k ≡ Spot.Row r c) ⊎ (put_of N k ≡ Some (To.Cell c))
  comes b F k r c h = go b h
    where
      by_put : (o : Option To) → put_of N k ≡ o → place_after (with_names F N).row_of N o (F.place k) ≡ Spot.Row r c → (F.place k ≡ Spot.Row r c) ⊎ (put_of N k ≡ Some (To.Cell c))
      by_put None q h = inl (row_kept (F.place k) r c h)
      by_put (Some to) q h = inr (q ∙ ap (λ t. Some t) (put_to_cell (with_names F N).row_of to r c h).0)

      by_new : (w : Bool) → cond w (place_after (with_names F N).row_of N (put_of N k) (F.place k)) (F.place k) ≡ Spot.Row r c → (F.place k ≡ Spot.Row r c) ⊎ (put_of N k ≡ Some (To.Cell c))
      by_new true h = by_put (put_of N k) refl h
      by_new false h = inl h

      go : (b : Bool) → (carried b F N).place k ≡ Spot.Row r c → (F.place k ≡ Spot.Row r c) ⊎ (put_of N k ≡ Some (To.Cell c))
      go true h = by_new (is_new N k && is_put_in_new F N k) h
      go false h = by_put (put_of N k) refl h

  stays_held : (o : Option NodeId) → ((k : NodeId) → o ≡ Some k → put_of N k ≡ None) → unless_put N o ≡ o
  stays_held None h = refl
  stays_held (Some k) h = ap (λ p. cond (is_some p) None (Some k)) (h k refl)

  -- a register with an occupant isn't a new node's
  field_old : (F : Document) → IsSoundInForm F → Fits F N → (g : FieldId) (k : NodeId) → F.held g ≡ Some k → is_new N g.node ≡ false
  field_old F s w g k h = not_made F N w g.node (s.held_known k g h).1

-- ## Over a step that passes the change

module _ (D E : Document) (N : Intent) (C : Change) (S : Step) (x : IsExtendedBy D E) (f : Fits D N) (e : Fits E N) (change : IsEmbedding D N C) (step : IsStep D E S)
    (passes : Passes (read_change false C) (read_step false S)) where
  stay : LeavesMentioned D E N
  stay = leaves_mentioned D E N C S x change step passes

  unput_moved : (k : NodeId) → D.place k ≢ E.place k → put_of N k ≡ None
  unput_moved k a = go (put_of N k) refl
    where
      go : (o : Option To) → put_of N k ≡ o → put_of N k ≡ None
      go None h = h
      go (Some to) h = absurd (a (stands_alike D E N x f e stay k (put_reached D E N x f e stay k (ap is_some h))))

  uncleared : (g : FieldId) → D.held g ≢ E.held g → clears N g ≡ false
  uncleared g a = not_true (clears N g) (λ h. a (listed_register D E N C S x change step passes g (register_part change.mentioned N g) refl (ap (λ b. b || holds_mentioned change.mentioned (D.held g)) h)))

  -- what the step moves stands where it stood without the intent
  pub apart : (b : Bool) (k : NodeId) → D.place k ≢ E.place k → ((carried b D N).place k ≡ D.place k) × ((carried b E N).place k ≡ E.place k)
  apart true k a =
      let old : is_new N k ≡ false = not_true (is_new N k) (λ h. a (stands_alike D E N x f e stay k (inl h))) in
      (void_place N D k old, void_place N E k old)
  apart false k a = (
    unput_place N D k (unput_moved k a) (λ g h. uncleared g (λ q. a (h ∙ sym ((x.after.one_held k g).0 (sym q ∙ (x.before.one_held k g).1 h))))),
    unput_place N E k (unput_moved k a) (λ g h. uncleared g (λ q. a ((x.before.one_held k g).0 (q ∙ (x.after.one_held k g).1 h) ∙ sym h))),
  )

  -- what it doesn't move stands in one place after the intent
  pub alike : (b : Bool) (k : NodeId) → D.place k ≡ E.place k → (carried b D N).place k ≡ (carried b E N).place k
  alike true k same = go (is_new N k) refl
    where
      go : (w : Bool) → is_new N k ≡ w → (void_data D N).place k ≡ (void_data E N).place k
      go true h = void_data_alike D E N x f e stay k (inl h)
      go false h = void_place N D k h ∙ same ∙ sym (void_place N E k h)
  alike false k same = go (put_of N k) refl
    where
      go : (o : Option To) → put_of N k ≡ o → (full D N).place k ≡ (full E N).place k
      go None h =
          ap (λ o. place_after (with_names D N).row_of N o (D.place k)) h ∙ ap (unless_cleared N) same
          ∙ sym (ap (λ o. place_after (with_names E N).row_of N o (E.place k)) h)
      go (Some to) h = place_alike D E N x f e stay k (put_reached D E N x f e stay k (ap is_some h))

  -- ## What the step names

  pub known : (k : NodeId) → step.mentioned k ≡ true → IsSome (D.nodes k)
  known k h = let m = (step.which k).0 h in known_climb D E N C S x change step passes m.2 m.0 k m.1.0 m.3

  put_mentioned : (k : NodeId) (to : To) → put_of N k ≡ Some to → IsSome (D.nodes k) → change.mentioned k ≡ true
  put_mentioned k to h old = elim (put_reached D E N x f e stay k (ap is_some h)) [
    | inl new ↦ absurd (true_false new (not_made D N f k old))
    | inr m ↦ (change.which k).1 m
  ]

  abbrev register_mark : FieldId → RegMark
  register_mark g = record { field = g; held = D.held g; how = how_held g (register_part change.mentioned N g) (D.held g); clear = clears N g; fill = comes_in (D.held g) (put_in N g) }

  abbrev register_moved : FieldId → RegStep
  register_moved g = record { field = g; before = D.held g; after = E.held g }

  both_registers : (g : FieldId) (k : NodeId) → D.held g ≡ Some k → step.mentioned k ≡ true → (clears N g || holds_mentioned change.mentioned (D.held g)) ≡ true → registers_pass (register_mark g) (register_moved g)
  both_registers g k h m lists =
      let c : item_of field_cmp (λ (r : RegMark). r.field) C.regs g ≡ Some (register_mark g) = change.regs.at_each g ∙ ap (λ b. cond b (Some (register_mark g)) None) lists in
      let s : item_of field_cmp (λ (r : RegStep). r.field) S.regs g ≡ Some (register_moved g)
      = step.regs.at_each g ∙ ap (λ b. cond b (Some (register_moved g)) None) (or_true (not (same_option same_node (D.held g) (E.held g))) (holds_mentioned step.mentioned (D.held g)) (ap (holds_mentioned step.mentioned) h ∙ m)) in
      passes.regs g (register_mark g) (register_moved g) c s

  named_uncleared : (k : NodeId) (g : FieldId) → step.mentioned k ≡ true → D.place k ≡ Spot.Register g → clears N g ≡ false
  named_uncleared k g m h = not_true (clears N g) (λ w.
      true_false w (both_registers g k ((x.before.one_held k g).1 h) m (ap (λ b. b || holds_mentioned change.mentioned (D.held g)) w)).1)

  -- a node that the step names and the intent puts is put where it stands
  put_there : (k : NodeId) (to : To) → put_of N k ≡ Some to → step.mentioned k ≡ true → (s : Spot) → D.place k ≡ s → spot_of (with_names D N).row_of to ≡ s
  put_there k to h m Spot.Nowhere q =
      let there : change.mentioned k ≡ true = put_mentioned k to h (known k m) in
      let other : same_node k root ≡ false = not_true (same_node k root) (λ w. none_some (ap (put_of N) (same_node-true k root w) ∙ f.itself.root_stays) h) in
      let cl : is_loose change.mentioned D k ≡ true = rw (there, q, other) refl in
      let sl : is_loose step.mentioned D k ≡ true = rw (m, q, other) refl in
      let c : item_of node_cmp (λ (l : Loose). l.node) C.loose k ≡ Some (record { node = k; how = how (put_of N k) To.Nowhere }) = change.loose.at_each k ∙ ap (λ b. cond b (Some (record { node = k; how = how (put_of N k) To.Nowhere })) None) cl in
      let s : item_of node_cmp (λ (l : Loose). l.node) S.loose k ≡ Some (record { node = k; how = cond (is_nowhere (E.place k)) Stay Leave })
      = step.loose.at_each k ∙ ap (λ b. cond b (Some (record { node = k; how = cond (is_nowhere (E.place k)) Stay Leave })) None) sl in
      let p : loose_pass (record { node = k; how = how (put_of N k) To.Nowhere }) (record { node = k; how = cond (is_nowhere (E.place k)) Stay Leave }) = passes.loose k _ _ c s in
      ap (spot_of (with_names D N).row_of) (stays_put to To.Nowhere (λ w. p.1 (ap (λ o. how o To.Nowhere) h ∙ w)))
  put_there k to h m (Spot.Register g) q =
      let held = (x.before.one_held k g).1 q in
      let p = both_registers g k held m (or_true (clears N g) (holds_mentioned change.mentioned (D.held g)) (ap (holds_mentioned change.mentioned) held ∙ put_mentioned k to h (known k m))) in
      ap (spot_of (with_names D N).row_of) (stays_put to (To.Register g) (λ w. p.3 (ap (how_held g (register_part change.mentioned N g)) held ∙ ap (λ o. how o (To.Register g)) h ∙ w)))
  put_there k to h m (Spot.Row r a) q =
      let p = row_part change.mentioned N r in
      let stays = row_stays a p step.mentioned (step.grows r) (rows_do_not_meet D E N C S x change step passes r) in
      let kept = named_kept p step.mentioned (step.grows r) stays a k (shown D x.before k r a q) (put_mentioned k to h (known k m)) m in
      ap (spot_of (with_names D N).row_of) (stays_put to (To.Cell a) (λ w. kept (ap (λ o. how o (To.Cell a)) h ∙ w)))
      ∙ ap (λ o. option_map_or (λ n. Spot.Row n a) (option_or o (new_row_of N a)) Spot.Nowhere) ((x.before.one_row a r).1 (k, x.before.own_cell k r a q))

  -- what the step names stands where it stood before
  pub named : (b : Bool) (k : NodeId) → step.mentioned k ≡ true → (carried b D N).place k ≡ D.place k
  named true k m = void_place N D k (not_made D N f k (known k m))
  named false k m = go (put_of N k) refl
    where
      go : (o : Option To) → put_of N k ≡ o → (full D N).place k ≡ D.place k
      go None h = unput_place N D k h (λ g q. named_uncleared k g m q)
      go (Some to) h = ap (λ o. place_after (with_names D N).row_of N o (D.place k)) h ∙ put_there k to h m (D.place k) refl

  -- ## Registers

  pub held_alike : (b : Bool) (g : FieldId) → D.held g ≡ E.held g → (carried b D N).held g ≡ (carried b E N).held g
  held_alike true g h = ap (λ o. cond (is_new N g.node) (only_new N (put_in N g)) o) h
  held_alike false g h = ap (λ o. option_or (put_in N g) (cond (clears N g) None (unless_put N o))) h

  unfilled : (g : FieldId) → clears N g ≡ false → put_in N g ≡ None
  unfilled g h = go (put_in N g) refl
    where
      go : (o : Option NodeId) → put_in N g ≡ o → put_in N g ≡ None
      go None q = q
      go (Some k) q = absurd (true_false (put_clears N f.itself k g (put_in-has N g k q)) h)

  held_kept : (F : Document) (g : FieldId) → clears N g ≡ false → ((k : NodeId) → F.held g ≡ Some k → put_of N k ≡ None) → (full F N).held g ≡ F.held g
  held_kept F g c h = (λ i. option_or (unfilled g c i) (cond (c i) None (unless_put N (F.held g)))) ∙ stays_held N (F.held g) h

  differing_old : (g : FieldId) → D.held g ≢ E.held g → is_new N g.node ≡ false
  differing_old g a = go (D.held g) refl (E.held g) refl
    where
      go : (o : Option NodeId) → D.held g ≡ o → (p : Option NodeId) → E.held g ≡ p → is_new N g.node ≡ false
      go (Some k) h p q = field_old N D x.before f g k h
      go None h (Some k) q = field_old N E x.after e g k q
      go None h None q = absurd (a (h ∙ sym q))

  pub held_apart : (b : Bool) (g : FieldId) → D.held g ≢ E.held g → ((carried b D N).held g ≡ D.held g) × ((carried b E N).held g ≡ E.held g)
  held_apart true g a =
      let old = differing_old g a in
      (ap (λ b. cond b (only_new N (put_in N g)) (D.held g)) old, ap (λ b. cond b (only_new N (put_in N g)) (E.held g)) old)
  held_apart false g a = (
    held_kept D g (uncleared g a) (λ k h. unput_moved k (λ q. a (h ∙ sym ((x.after.one_held k g).1 (sym q ∙ (x.before.one_held k g).0 h))))),
    held_kept E g (uncleared g a) (λ k h. unput_moved k (λ q. a ((x.before.one_held k g).1 (q ∙ (x.after.one_held k g).0 h) ∙ sym h))),
  )

  held_named : (b : Bool) (g : FieldId) (k : NodeId) → step.mentioned k ≡ true → ((carried b D N).held g ≡ Some k) ↔ (D.held g ≡ Some k)
  held_named false g k m =
      let one = full_one_held D N x.before.one_held f.itself k g in
      ((λ h. (x.before.one_held k g).1 (sym (named false k m) ∙ one.0 h)), (λ h. one.1 (named false k m ∙ (x.before.one_held k g).0 h)))
  held_named true g k m = ((λ h. go (is_new N g.node) h), (λ h. ap (λ b. cond b (only_new N (put_in N g)) (D.held g)) (field_old N D x.before f g k h) ∙ h))
    where
      by_new : (j : NodeId) (b : Bool) → is_new N j ≡ b → cond b (Some j) None ≡ Some k → D.held g ≡ Some k
      by_new j true q h =
          let same : j ≡ k = cc in
          absurd (true_false (ap (is_new N) (sym same) ∙ q) (not_made D N f k (known k m)))
      by_new j false q h = cc

      by_put : (o : Option NodeId) → only_new N o ≡ Some k → D.held g ≡ Some k
      by_put None h = cc
      by_put (Some j) h = by_new j (is_new N j) refl h

      go : (b : Bool) → cond b (only_new N (put_in N g)) (D.held g) ≡ Some k → D.held g ≡ Some k
      go true h = by_put (put_in N g) h
      go false h = h

  -- the step lists the same of a register after the intent
  pub register_across : (b : Bool) (g : FieldId) → step_register g step.mentioned (D.held g) (E.held g) ≡ step_register g step.mentioned ((carried b D N).held g) ((carried b E N).held g)
  register_across b g = go (same_option same_node (D.held g) (E.held g)) refl
    where
      before : Option NodeId
      before = (carried b D N).held g

      after : Option NodeId
      after = (carried b E N).held g

      quiet : (o p : Option NodeId) → o ≡ p → holds_mentioned step.mentioned o ≡ false → step_register g step.mentioned o p ≡ None
      quiet o p h q = λ i. cond (not (held-same o p h i) || q i) (Some (record { field = g; before = o; after = p })) None

      unnamed : holds_mentioned step.mentioned (D.held g) ≡ false → (o : Option NodeId) → before ≡ o → holds_mentioned step.mentioned o ≡ false
      unnamed q None h = refl
      unnamed q (Some k) h = not_true (step.mentioned k) (λ m. true_false (ap (holds_mentioned step.mentioned) ((held_named b g k m).0 h) ∙ m) q)

      held : D.held g ≡ E.held g → (o : Option NodeId) → D.held g ≡ o → holds_mentioned step.mentioned o ≡ true → step_register g step.mentioned (D.held g) (E.held g) ≡ step_register g step.mentioned before after
      held same None h m = cc
      held same (Some k) h m =
          let first : before ≡ D.held g = (held_named b g k m).1 h ∙ sym h in
          let then : after ≡ E.held g = sym (held_alike b g same) ∙ first ∙ same in
          sym (λ i. step_register g step.mentioned (first i) (then i))

      same_there : D.held g ≡ E.held g → (w : Bool) → holds_mentioned step.mentioned (D.held g) ≡ w → step_register g step.mentioned (D.held g) (E.held g) ≡ step_register g step.mentioned before after
      same_there same true q = held same (D.held g) refl q
      same_there same false q = quiet (D.held g) (E.held g) same q ∙ sym (quiet before after (held_alike b g same) (unnamed q before refl))

      go : (w : Bool) → same_option same_node (D.held g) (E.held g) ≡ w → step_register g step.mentioned (D.held g) (E.held g) ≡ step_register g step.mentioned before after
      go true q = same_there (same-held (D.held g) (E.held g) q) (holds_mentioned step.mentioned (D.held g)) refl
      go false q =
          let r = held_apart b g (λ h. true_false (held-same (D.held g) (E.held g) h) q) in
          sym (λ i. step_register g step.mentioned (r.0 i) (r.1 i))

  -- ## Nodes that are nowhere

  named_later : (b : Bool) (k : NodeId) → step.mentioned k ≡ true → (carried b E N).place k ≡ E.place k
  named_later b k m = elim (same_spot (D.place k) (E.place k)) [ inl same ↦ sym (alike b k same) ∙ named b k m ∙ same | inr a ↦ (apart b k a).1 ]

  pub loose_across : (b : Bool) (k : NodeId) → step_loose step.mentioned D E k ≡ step_loose step.mentioned (carried b D N) (carried b E N) k
  loose_across b k = go (step.mentioned k) refl
    where
      loose : Bool → Spot → Spot → Option Loose
      loose w s t = cond (w && is_nowhere s && not (same_node k root)) (Some (record { node = k; how = cond (is_nowhere t) Stay Leave })) None

      go : (w : Bool) → step.mentioned k ≡ w → loose (step.mentioned k) (D.place k) (E.place k) ≡ loose (step.mentioned k) ((carried b D N).place k) ((carried b E N).place k)
      go true m = sym (λ i. loose (step.mentioned k) (named b k m i) (named_later b k m i))
      go false m = ap (λ w. loose w (D.place k) (E.place k)) m ∙ sym (ap (λ w. loose w ((carried b D N).place k) ((carried b E N).place k)) m)
