-- The document after a step is sound, and extends the one over which the step is.
use Rattle.std.proofs.Common.{◌≡◌, ◌≢◌, ◌↔◌, ◌++◌, ◌+◌, ◌-◌, ◌<◌, ◌^◌, ◌⊎◌, Bool, true, false, List, [], ◌∷◌, map, length, take, Option, Some, None, IsSome, IfSome, cond, refl, sym, ap, ◌∙◌, subst, inl, inr, arith, option_map}
use Rattle.std.specs.List.{find}
use Rattle.std.specs.Option.{option_map_or, option_or}
use Rattle.std.proofs.Math.Seq.{take-append_seam}
use Rattle.std.proofs.lemmas.List.{length-append}
use Rattle.st_ids.specs.Listing.{AreDistinct, Has, item_of}
use Rattle.st_ids.specs.Order.{field_cmp, node_cmp, same_cell, same_node}
use Rattle.st_ids.specs.Root.{root}
use Rattle.st_ids.proofs.Listings.{has-item_of, item_of-has}
use Rattle.st_ids.proofs.Orders.{field_cmp_exact, field_cmp_total, node_cmp_exact, node_cmp_total, same_cell-itself, same_cell-true, same_node-itself}
use Rattle.st_ids.specs.declared.names.CellId.{CellId}
use Rattle.st_ids.specs.declared.names.FieldId.{FieldId}
use Rattle.st_ids.specs.declared.names.NodeId.{NodeId}
use Rattle.st_marks.specs.declared.changes.NewNode.{NewNode}
use Rattle.st_marks.specs.declared.intents.Owned.{Owned}
use Rattle.st_marks.specs.declared.marks.How.{How}
use Rattle.st_marks.specs.declared.marks.How.TheVariants.{Stay, Leave}
use Rattle.st_marks.specs.declared.marks.RegStep.{RegStep}
use Rattle.st_marks.specs.declared.marks.RowMarks.{RowMarks}
use Rattle.st_marks.specs.declared.places.Spot.{Spot}
use Rattle.st_marks.specs.declared.schemas.SchemaEntry.{SchemaEntry}
use Rattle.st_marks.specs.declared.schemas.SchemaStep.{SchemaStep}
use Rattle.st_marks.specs.declared.steps.Step.{Step}
use Rattle.st_marks.specs.Document.{CanBeInEffect, Document, IsSoundInForm, NodeType, content, first_of, last_of, owned_cell, revs, slot}
use Rattle.st_marks.specs.Extends.{GainsItems, no_more, item_kept}
use Rattle.st_marks.specs.Intent.{same_option}
use Rattle.st_marks.specs.Listings.{cell_made, cells_after, cells_before, cells_in, cells_made, is_among_cells, one_or_none}
use Rattle.st_marks.specs.Row.{CellMark, Counted, Gap, Touch, Make, Fill, spread}
use Rattle.st_marks.proofs.Climb.{unknown_nowhere}
use Rattle.st_marks.proofs.Members.{all-has, any-has, append_left, append_right, first-has, flat_map-has, has-any, has-flat_map, has-map, list_distinct, map-has, none-has}
use Rattle.st_marks.proofs.Shared.{same-held}
use Rattle.st_normal.specs.Rules.{Entries, HasListedField, IsFound, IsFoundAs, ObeysStepRules, entries_of_step, fields_of, hole_owner, hole_owners, how_over, put_over}
use Rattle.st_puts.proofs.Basics.{is-one, one-is, register-not-nowhere, row-not-nowhere}
use Rattle.st_puts.proofs.FoundPlaces.{filled}
use Rattle.st_puts.proofs.StepPlaces.{same-register}
use Rattle.st_lemmas.proofs.Bools.{true-false}
use Rattle.st_lemmas.proofs.Options.{one_some}
use Rattle.st_normal_step_laws.specs.StepOver.{EndsWithCut, IsOverStep, later, schemas_later}
use Rattle.st_normal_step_laws.proofs.RowsLater.{grew-gains, grew-has, grew-length, grew-once, has-kept, has-made}
use Rattle.st_normal_step_laws.proofs.PlacesLater.{FoundThere, there_row, there_held, there_loose, PlacedLater, by_row, by_register, by_going, by_staying, row_key, reg_key, row-cases, grown, one_mark, found-as, found-held, found-known, is-found, later-placed, put-left, register-place, register-put, row-put, stay-place, unfound-place}

pub made-by : (ms : List CellMark) (c : CellId) → Has (cells_made ms) c → (n : NodeId) × (b : Bool) × Has ms (Make c n b)
made-by ms c h = let y = has-flat_map cell_made ms c h in go y.0 y.1 y.2
  where
    go : (y : CellMark) → Has ms y → Has (cell_made y) c → (n : NodeId) × (b : Bool) × Has ms (Make c n b)
    go Counted i j = absurd j
    go (Gap d) i j = absurd j
    go (Touch d n g) i j = absurd j
    go (Make d n b) i (inl e) = (n, b, subst (λ d. Has ms (Make d n b)) e i)
    go (Make d n b) i (inr j) = absurd j
    go (Fill d n) i j = absurd j

pub makes-cell : (ms : List CellMark) (c : CellId) (n : NodeId) (b : Bool) → Has ms (Make c n b) → Has (cells_made ms) c
makes-cell ms c n b h = flat_map-has cell_made ms (Make c n b) c h (inl refl)

pub none-some : {A : Type 0} {a : A} → None ≡ Some a → ⊥
none-some e = cc

pub unknown : {A : Type 0} (q : Option A) → q ≡ None → IsSome q → ⊥
unknown None e k = let z : ◌≡◌ {A = Bool} false true = k in cc
unknown (Some a) e k = cc

pub is-some : {A : Type 0} (q : Option A) (a : A) → q ≡ Some a → IsSome q
is-some q a e = subst (λ q. IsSome q) (sym e) refl

pub row-not-register : (n : NodeId) (c : CellId) (f : FieldId) → Spot.Row n c ≡ Spot.Register f → ⊥
row-not-register n c f e = cc

-- whether a register's occupant changes
pub over-cases : (r : RegStep) → ((r.before ≡ r.after) × (how_over r ≡ Stay) × (put_over r ≡ [])) ⊎ ((how_over r ≡ Leave) × (put_over r ≡ one_or_none r.after) × (r.before ≢ r.after))
over-cases r = go (same_option same_node r.before r.after) refl
  where
    itself : (q : Option NodeId) → same_option same_node q q ≡ true
    itself None = refl
    itself (Some n) = same_node-itself n

    go : (b : Bool) → same_option same_node r.before r.after ≡ b → ((r.before ≡ r.after) × (how_over r ≡ Stay) × (put_over r ≡ [])) ⊎ ((how_over r ≡ Leave) × (put_over r ≡ one_or_none r.after) × (r.before ≢ r.after))
    go true e = inl (same-held r.before r.after e, ap (λ b. cond b Stay Leave) e, ap (λ b. cond b [] (one_or_none r.after)) e)
    go false e = inr (ap (λ b. cond b Stay Leave) e, ap (λ b. cond b [] (one_or_none r.after)) e, λ q. true-false (itself r.after) (ap (λ o. same_option same_node o r.after) (sym q) ∙ e))

module _ (D : Document) (S : Step) (x : IsSoundInForm D) (w : ObeysStepRules S) (o : IsOverStep D S) where
  abbrev L : Entries
  L = entries_of_step S

  abbrev E : Document
  E = later D S

  -- ## Nodes

  new-not-there : (n : NodeId) → Has L.new n → IsSome (D.nodes n) → ⊥
  new-not-there n h k = unknown (D.nodes n) (o.new_nodes n h) k

  pub node-kept : (n : NodeId) (t : NodeType) → D.nodes n ≡ Some t → E.nodes n ≡ Some t
  node-kept n t e = go (item_of node_cmp (λ (m : NewNode). m.node) S.new n) refl
    where
      go : (q : Option NewNode) → item_of node_cmp (λ (m : NewNode). m.node) S.new n ≡ q → E.nodes n ≡ Some t
      go None f = ap (λ (q : Option NewNode). option_or (option_map (λ (m : NewNode). let t : NodeType = record { ty = m.ty; leaf = m.leaf } in t) q) (D.nodes n)) f ∙ e
      go (Some m) f =
          let i = item_of-has node_cmp node_cmp_total node_cmp_exact (λ (m : NewNode). m.node) S.new n m f in
          absurd (new-not-there n (subst (Has L.new) i.1 (map-has (λ (m : NewNode). m.node) S.new m i.0)) (is-some (D.nodes n) t e))

  pub known-later : (n : NodeId) → IsSome (D.nodes n) → IsSome (E.nodes n)
  known-later n k = go (D.nodes n) refl k
    where
      go : (q : Option NodeType) → D.nodes n ≡ q → IsSome q → IsSome (E.nodes n)
      go None e k = let z : ◌≡◌ {A = Bool} false true = k in cc
      go (Some t) e k = is-some (E.nodes n) t (node-kept n t e)

  pub new-later : (n : NodeId) → Has L.new n → IsSome (E.nodes n)
  new-later n h =
      let m = has-map (λ (m : NewNode). m.node) S.new n h in
      let t : NodeType = record { ty = m.0.ty; leaf = m.0.leaf } in
      subst (λ n. IsSome (E.nodes n)) m.2 (is-some (E.nodes m.0.node) t
      (ap (λ (q : Option NewNode). option_or (option_map (λ (m : NewNode). let t : NodeType = record { ty = m.ty; leaf = m.leaf } in t) q) (D.nodes m.0.node))
      (has-item_of node_cmp node_cmp_total node_cmp_exact (λ (m : NewNode). m.node) S.new m.0 w.rising.new m.1)))

  pub row-field : (r : RowMarks) → Has S.rows r → HasListedField L r.node
  row-field r i = append_left (map row_key S.rows) (map (λ (f : FieldId). f.node) L.registers) r.node (map-has row_key S.rows r i)

  pub reg-field : (r : RegStep) → Has S.regs r → HasListedField L r.field.node
  reg-field r i = append_right (map row_key S.rows) (map (λ (f : FieldId). f.node) L.registers) r.field.node (map-has (λ (f : FieldId). f.node) L.registers r.field (map-has reg_key S.regs r i))

  pub field-cases : (n : NodeId) → HasListedField L n → (n ≡ root) ⊎ Has L.new n ⊎ IsFound L n
  field-cases n h = all-has (λ (n : NodeId). (n ≡ root) ⊎ Has L.new n ⊎ IsFound L n) (fields_of L) n w.common.fields_found h

  field-known : (n : NodeId) → HasListedField L n → IsSome (E.nodes n)
  field-known n h = elim (field-cases n h) [
    | inl e ↦ known-later n (subst (λ n. IsSome (D.nodes n)) (sym e) x.root_known)
    | inr a ↦ elim a [ inl i ↦ new-later n i | inr i ↦ known-later n (found-known D S x w o n i) ]
  ]

  put-known : (n : NodeId) → Has L.put n → IsSome (E.nodes n)
  put-known n h = elim (put-left D S x w o n h) [ inl i ↦ new-later n i | inr i ↦ known-later n (found-known D S x w o n (is-found D S x w o n Leave i)) ]

  -- ## Cells

  pub made-absent : (r : RowMarks) (c : CellId) (n : NodeId) (b : Bool) → Has S.rows r → Has (spread r.marks) (Make c n b) → D.row_of c ≡ None
  made-absent r c n b i j = o.new_cells c (flat_map-has (λ (r : RowMarks). cells_made (spread r.marks)) S.rows r c i (makes-cell (spread r.marks) c n b j))

  pub there-unmade : (k : NodeId) (p : Owned) (r : RowMarks) (n : NodeId) (b : Bool) → Has (D.rows k) p → Has S.rows r → Has (spread r.marks) (Make p.cell n b) → ⊥
  there-unmade k p r n b h i j = none-some (sym (made-absent r p.cell n b i j) ∙ (x.one_row p.cell k).1 (p.node, h))

  -- a cell after was there or is made
  pub cell-cases : (n : NodeId) (p : Owned) → Has (E.rows n) p → Has (D.rows n) p ⊎ ((r : RowMarks) × (b : Bool) × Has S.rows r × (r.node ≡ n) × Has (spread r.marks) (Make p.cell p.node b))
  cell-cases n p h = elim (row-cases D S x w o n) [
    | inl (r, i, e) ↦ elim (grew-has D (grown D S x w o r i) p (subst (λ n. Has (E.rows n) p) (sym e) h)) [
      | inl j ↦ inl (subst (λ n. Has (D.rows n) p) e j)
      | inr a ↦ inr (r, a.0, i, e, a.1)
    ]
    | inr q ↦ inl (subst (λ l. Has l p) q.1 h)
  ]

  pub cell-kept : (n : NodeId) (p : Owned) → Has (D.rows n) p → Has (E.rows n) p
  cell-kept n p h = elim (row-cases D S x w o n) [
    | inl (r, i, e) ↦ subst (λ n. Has (E.rows n) p) e (has-kept D (grown D S x w o r i) p (subst (λ n. Has (D.rows n) p) (sym e) h))
    | inr q ↦ subst (λ l. Has l p) (sym q.1) h
  ]

  pub cell-made-there : (r : RowMarks) (c : CellId) (n : NodeId) (b : Bool) → Has S.rows r → Has (spread r.marks) (Make c n b) → Has (E.rows r.node) (owned_cell c n)
  cell-made-there r c n b i j = has-made D (grown D S x w o r i) c n b j

  among-cell : (cs : List CellId) (c : CellId) → is_among_cells cs c ≡ true → Has cs c
  among-cell cs c e = let r = any-has (λ d. same_cell d c) cs e in subst (Has cs) (same_cell-true r.0 c r.2) r.1

  abbrev makes : CellId → RowMarks → Bool
  makes c r = is_among_cells (cells_made (spread r.marks)) c

  pub rows_of : (c : CellId) (n : NodeId) → (E.row_of c ≡ Some n) ↔ ((m : NodeId) × Has (E.rows n) (owned_cell c m))
  rows_of c n = (there, back)
    where
      kept : (q : Option RowMarks) → find (makes c) S.rows ≡ q → q ≡ None → E.row_of c ≡ D.row_of c
      kept None e f = ap (λ (q : Option RowMarks). option_or (option_map row_key q) (D.row_of c)) e
      kept (Some r) e f = cc

      made : (r : RowMarks) → find (makes c) S.rows ≡ Some r → E.row_of c ≡ Some r.node
      made r e = ap (λ (q : Option RowMarks). option_or (option_map row_key q) (D.row_of c)) e

      maker : (r : RowMarks) → find (makes c) S.rows ≡ Some r → Has S.rows r × (m : NodeId) × (b : Bool) × Has (spread r.marks) (Make c m b)
      maker r e = let f = first-has (makes c) S.rows r e in let k = made-by (spread r.marks) c (among-cell (cells_made (spread r.marks)) c f.1) in (f.0, k.0, k.1, k.2)

      there : E.row_of c ≡ Some n → (m : NodeId) × Has (E.rows n) (owned_cell c m)
      there e = go (find (makes c) S.rows) refl
        where
          go : (q : Option RowMarks) → find (makes c) S.rows ≡ q → (m : NodeId) × Has (E.rows n) (owned_cell c m)
          go None f = let r = (x.one_row c n).0 (sym (kept None f refl) ∙ e) in (r.0, cell-kept n (owned_cell c r.0) r.1)
          go (Some r) f = let k = maker r f in
              let same : r.node ≡ n = one_some r.node n (sym (made r f) ∙ e) in
              (k.1, subst (λ n. Has (E.rows n) (owned_cell c k.1)) same (cell-made-there r c k.1 k.2 k.0 k.3))

      back : (m : NodeId) × Has (E.rows n) (owned_cell c m) → E.row_of c ≡ Some n
      back (m, h) = go (find (makes c) S.rows) refl (cell-cases n (owned_cell c m) h)
        where
          go : (q : Option RowMarks) → find (makes c) S.rows ≡ q → Has (D.rows n) (owned_cell c m) ⊎ ((r : RowMarks) × (b : Bool) × Has S.rows r × (r.node ≡ n) × Has (spread r.marks) (Make c m b)) → E.row_of c ≡ Some n
          go None f (inl i) = kept None f refl ∙ (x.one_row c n).1 (m, i)
          go None f (inr (r, b, i, e, j)) = absurd (true-false (has-any (λ d. same_cell d c) (cells_made (spread r.marks)) c (makes-cell (spread r.marks) c m b j) (same_cell-itself c)) (none-has (makes c) S.rows r f i))
          go (Some r) f (inl i) = let k = maker r f in absurd (there-unmade n (owned_cell c m) r k.1 k.2 i k.0 k.3)
          go (Some r) f (inr (q, b, i, e, j)) = let k = maker r f in
              made r f ∙ ap (λ (r : RowMarks). Some r.node) (one_mark D S x w o r q (Make c k.1 k.2) (Make c m b) c k.0 i k.3 j (inl refl) (inl refl)).0 ∙ ap (λ n. Some n) e

  pub rows_once : (n : NodeId) → AreDistinct (λ (p : Owned). p.cell) (E.rows n)
  rows_once n = elim (row-cases D S x w o n) [
    | inl (r, i, e) ↦ subst (λ n. AreDistinct (λ (p : Owned). p.cell) (E.rows n)) e
        (grew-once D (grown D S x w o r i) (x.once r.node) (list_distinct (λ (r : RowMarks). cells_in (spread r.marks)) (λ (c : CellId). c) S.rows r w.common.cells_once i)
        (λ p m b h j. there-unmade r.node p r m b h i j))
    | inr q ↦ subst (AreDistinct (λ (p : Owned). p.cell)) (sym q.1) (x.once n)
  ]

  pub rows_short : (n : NodeId) → length (E.rows n) < 2 ^ 32
  rows_short n = elim (row-cases D S x w o n) [
    | inl (r, i, e) ↦ subst (λ n. length (E.rows n) < 2 ^ 32) e (subst (λ k. k < 2 ^ 32) (sym (grew-length D (grown D S x w o r i)))
        (all-has (λ (r : RowMarks). (length (cells_before (spread r.marks)) < 2 ^ 32) × (length (cells_after (spread r.marks)) < 2 ^ 32)) S.rows r w.common.short i).1)
    | inr q ↦ subst (λ (l : List Owned). length l < 2 ^ 32) (sym q.1) (x.short n)
  ]

  -- ## Places

  pub filled-there : (r : RowMarks) (c : CellId) (n : NodeId) → Has S.rows r → Has (spread r.marks) (Fill c n) → Has (D.rows r.node) (owned_cell c n)
  filled-there r c n i j =
      let s = filled (content D r.node) (spread r.marks) c n (o.rows r i) j in
      let q = has-map (slot D) (D.rows r.node) _ s in
      subst (Has (D.rows r.node)) (λ i. record { cell = (q.2 i).cell; node = (q.2 i).node }) q.1

  pub owns : (m n : NodeId) (c : CellId) → E.place m ≡ Spot.Row n c → Has (E.rows n) (owned_cell c m)
  owns m n c e = go (later-placed D S x w o m)
    where
      at : (r : RowMarks) (d : CellId) → Has (E.rows r.node) (owned_cell d m) → Spot.Row r.node d ≡ Spot.Row n c → Has (E.rows n) (owned_cell c m)
      at r d h q = let a : r.node ≡ n = cc in let b : d ≡ c = cc in subst (λ n. Has (E.rows n) (owned_cell c m)) a (subst (λ d. Has (E.rows r.node) (owned_cell d m)) b h)

      go : PlacedLater D S m → Has (E.rows n) (owned_cell c m)
      go (by_row r d i (inl j) f) = at r d (cell-made-there r d m true i j) (sym f ∙ e)
      go (by_row r d i (inr j) f) = at r d (cell-kept r.node (owned_cell d m) (filled-there r d m i j)) (sym f ∙ e)
      go (by_register r i j f) = absurd (row-not-register n c r.field (sym e ∙ f))
      go (by_going a i f) = absurd (row-not-nowhere n c (sym e ∙ f))
      go (by_staying a b f) = cell-kept n (owned_cell c m) (x.own_cell m n c (sym f ∙ e))

  pub reg-cases : (f : FieldId) → ((r : RegStep) × Has S.regs r × (r.field ≡ f) × (E.held f ≡ r.after)) ⊎ ((item_of field_cmp reg_key S.regs f ≡ None) × (E.held f ≡ D.held f))
  reg-cases f = go (item_of field_cmp reg_key S.regs f) refl
    where
      go : (q : Option RegStep) → item_of field_cmp reg_key S.regs f ≡ q → ((r : RegStep) × Has S.regs r × (r.field ≡ f) × (E.held f ≡ r.after)) ⊎ ((item_of field_cmp reg_key S.regs f ≡ None) × (E.held f ≡ D.held f))
      go None e = inr (e, ap (λ (q : Option RegStep). option_map_or (λ (r : RegStep). r.after) q (D.held f)) e)
      go (Some r) e = let i = item_of-has field_cmp field_cmp_total field_cmp_exact reg_key S.regs f r e in
          inl (r, i.0, i.1, ap (λ (q : Option RegStep). option_map_or (λ (r : RegStep). r.after) q (D.held f)) e)

  pub held-listed : (r : RegStep) → Has S.regs r → E.held r.field ≡ r.after
  held-listed r i = ap (λ (q : Option RegStep). option_map_or (λ (r : RegStep). r.after) q (D.held r.field)) (has-item_of field_cmp field_cmp_total field_cmp_exact reg_key S.regs r w.rising.regs i)

  pub unlisted-reg : (f : FieldId) → item_of field_cmp reg_key S.regs f ≡ None → (r : RegStep) → Has S.regs r → r.field ≡ f → ⊥
  unlisted-reg f e r i g = none-some (sym e ∙ ap (item_of field_cmp reg_key S.regs) (sym g) ∙ has-item_of field_cmp field_cmp_total field_cmp_exact reg_key S.regs r w.rising.regs i)

  pub held-there : (m : NodeId) (f : FieldId) → E.held f ≡ Some m → E.place m ≡ Spot.Register f
  held-there m f e = elim (reg-cases f) [
    | inl (r, i, g, h) ↦ listed r i g (sym h ∙ e)
    | inr (none, h) ↦ (let p = (x.one_held m f).0 (sym h ∙ e) in
        unfound-place D S x w o m (λ k. let q = found-as D S x w o m k in unlisted none p q.0 q.2) (λ k. register-not-nowhere f (sym p ∙ unknown_nowhere D x m (o.new_nodes m k))) ∙ p)
  ]
    where
      listed : (r : RegStep) → Has S.regs r → r.field ≡ f → r.after ≡ Some m → E.place m ≡ Spot.Register f
      listed r i g h = elim (over-cases r) [
        | inl (same, how, none) ↦ (let b : r.before ≡ Some m = same ∙ h in
            stay-place D S x w o m (subst (IsFoundAs L m) how (found-held D S x w o r m i b)) ∙ (x.one_held m r.field).0 (o.held r i ∙ b) ∙ ap (λ f. Spot.Register f) g)
        | inr (how, all, apart) ↦ register-place D S x w o r m i (subst (λ l. Has l m) (sym all) (is-one r.after m h)) ∙ ap (λ f. Spot.Register f) g
      ]

      unlisted : item_of field_cmp reg_key S.regs f ≡ None → D.place m ≡ Spot.Register f → (h : How) → FoundThere D S m h → ⊥
      unlisted none p h (there_row r c i j e) = row-not-register r.node c f (sym e ∙ p)
      unlisted none p h (there_held r i e g k) = unlisted-reg f none r i (same-register (sym k ∙ p))
      unlisted none p h (there_loose l i e g k t) = register-not-nowhere f (sym p ∙ k)

  pub there-held : (m : NodeId) (f : FieldId) → E.place m ≡ Spot.Register f → E.held f ≡ Some m
  there-held m f e = go (later-placed D S x w o m)
    where
      put : (r : RegStep) → Has S.regs r → Has (put_over r) m → r.field ≡ f → E.held f ≡ Some m
      put r i j g = elim (over-cases r) [
        | inl (same, how, none) ↦ absurd (subst (λ l. Has l m) none j)
        | inr (how, all, apart) ↦ ap E.held (sym g) ∙ held-listed r i ∙ one-is r.after m (subst (λ l. Has l m) all j)
      ]

      stays : (IsFoundAs L m Leave → ⊥) → D.place m ≡ Spot.Register f → E.held f ≡ Some m
      stays unleft p = let b = (x.one_held m f).1 p in elim (reg-cases f) [
        | inr (none, h) ↦ h ∙ b
        | inl (r, i, g, h) ↦ (let c : r.before ≡ Some m = sym (o.held r i) ∙ ap D.held g ∙ b in elim (over-cases r) [
          | inl (same, how, none) ↦ h ∙ sym same ∙ c
          | inr (how, all, apart) ↦ absurd (unleft (subst (IsFoundAs L m) how (found-held D S x w o r m i c)))
        ])
      ]

      go : PlacedLater D S m → E.held f ≡ Some m
      go (by_row r c i j g) = absurd (row-not-register r.node c f (sym g ∙ e))
      go (by_register r i j g) = put r i j (same-register (sym g ∙ e))
      go (by_going a i g) = absurd (register-not-nowhere f (sym e ∙ g))
      go (by_staying a b g) = stays b (sym g ∙ e)

  -- ## Who is there

  hole-of : (ms : List CellMark) (c : CellId) (n : NodeId) → Has ms (Make c n false) → Has (hole_owners ms) n
  hole-of ms c n h = flat_map-has hole_owner ms (Make c n false) n h (inl refl)

  owner-known : (r : RowMarks) (c : CellId) (n : NodeId) (b : Bool) → Has S.rows r → Has (spread r.marks) (Make c n b) → IsSome (E.nodes n)
  owner-known r c n true i j = put-known n (row-put D S x w o r c n i (inl j))
  owner-known r c n false i j = elim (o.owners n (flat_map-has (λ (r : RowMarks). hole_owners (spread r.marks)) S.rows r n i (hole-of (spread r.marks) c n j))) [ inl h ↦ new-later n h | inr h ↦ known-later n h ]

  pub cells_there : (n : NodeId) (p : Owned) → Has (E.rows n) p → IsSome (E.nodes n) × IsSome (E.nodes p.node)
  cells_there n p h = elim (cell-cases n p h) [
    | inl i ↦ (let k = x.cells_known n p i in (known-later n k.0, known-later p.node k.1))
    | inr (r, b, i, e, j) ↦ (subst (λ n. IsSome (E.nodes n)) e (field-known r.node (row-field r i)), owner-known r p.cell p.node b i j)
  ]

  pub held_there : (m : NodeId) (f : FieldId) → E.held f ≡ Some m → IsSome (E.nodes m) × IsSome (E.nodes f.node)
  held_there m f e = go (later-placed D S x w o m)
    where
      p : E.place m ≡ Spot.Register f
      p = held-there m f e

      go : PlacedLater D S m → IsSome (E.nodes m) × IsSome (E.nodes f.node)
      go (by_row r c i j g) = absurd (row-not-register r.node c f (sym g ∙ p))
      go (by_register r i j g) = (put-known m (register-put D S x w o r m i j), subst (λ (f : FieldId). IsSome (E.nodes f.node)) (same-register (sym g ∙ p)) (field-known r.field.node (reg-field r i)))
      go (by_going a i g) = absurd (register-not-nowhere f (sym p ∙ g))
      go (by_staying a b g) = let k = x.held_known m f ((x.one_held m f).1 (sym g ∙ p)) in (known-later m k.0, known-later f.node k.1)

  pub keys_there : (m : NodeId) (f : FieldId) → E.held f ≡ Some m → f.key.0 ≢ []
  keys_there m f e = elim (reg-cases f) [
    | inl (r, i, g, h) ↦ subst (λ (f : FieldId). f.key.0 ≢ []) g (all-has (λ (f : FieldId). f.key.0 ≢ []) L.registers r.field w.common.keys (map-has reg_key S.regs r i))
    | inr (none, h) ↦ x.register_key m f (sym h ∙ e)
  ]

  pub root_stays : E.place root ≡ Spot.Nowhere
  root_stays = unfound-place D S x w o root w.common.root_stays.0 (λ h. new-not-there root h x.root_known) ∙ x.root_nowhere

  -- ## Schemas

  pub schemas-are : (s : SchemaStep) → S.schema ≡ Some s → (front : List SchemaEntry) → D.schemas ≡ front ++ s.cut → E.schemas ≡ front ++ s.add
  schemas-are s e front before =
      let size : length D.schemas - length s.cut ≡ length front = (let f : length D.schemas ≡ length front + length s.cut = ap length before ∙ length-append front s.cut in omega (arith, f)) in
      ap (λ q. schemas_later q D.schemas) e ∙ (λ i. take (size i) (before i) ++ s.add) ∙ ap (λ l. l ++ s.add) (take-append_seam front s.cut)

  pub over-schema : (s : SchemaStep) → S.schema ≡ Some s → EndsWithCut D.schemas s
  over-schema s e = go S.schema e o.schema
    where
      go : (q : Option SchemaStep) → q ≡ Some s → IfSome q (EndsWithCut D.schemas) → EndsWithCut D.schemas s
      go None f h = absurd (none-some f)
      go (Some t) f h = subst (EndsWithCut D.schemas) (one_some t s f) h

  pub entries_fit : CanBeInEffect E.schemas
  entries_fit = go S.schema refl
    where
      go : (q : Option SchemaStep) → S.schema ≡ q → CanBeInEffect E.schemas
      go None e = subst CanBeInEffect (sym (ap (λ q. schemas_later q D.schemas) e)) x.in_effect
      go (Some s) e = let h = over-schema s e in subst CanBeInEffect (sym (schemas-are s e h.0 h.1)) h.3

  pub first_kept : first_of D.schemas ≡ first_of E.schemas
  first_kept = go S.schema refl
    where
      some : (front cut add : List SchemaEntry) (r : _) → last_of (revs front) ≡ Some r → first_of (front ++ cut) ≡ first_of (front ++ add)
      some [] cut add r e = absurd (none-some e)
      some (y ∷ front) cut add r e = refl

      go : (q : Option SchemaStep) → S.schema ≡ q → first_of D.schemas ≡ first_of E.schemas
      go None e = sym (ap (λ q. first_of (schemas_later q D.schemas)) e)
      go (Some s) e = let h = over-schema s e in ap first_of h.1 ∙ some h.0 s.cut s.add s.on h.2 ∙ sym (ap first_of (schemas-are s e h.0 h.1))

  -- ## The document

  gains-same : (os : List Owned) → GainsItems (λ (p q : Owned). p ≡ q) os os
  gains-same [] = no_more
  gains-same (p ∷ os) = item_kept refl (gains-same os)

  pub rows_gain : (n : NodeId) → GainsItems (λ (p q : Owned). p ≡ q) (D.rows n) (E.rows n)
  rows_gain n = elim (row-cases D S x w o n) [
    | inl (r, i, e) ↦ subst (λ n. GainsItems (λ (p q : Owned). p ≡ q) (D.rows n) (E.rows n)) e (grew-gains D (grown D S x w o r i))
    | inr q ↦ subst (GainsItems (λ (p q : Owned). p ≡ q) (D.rows n)) (sym q.1) (gains-same (D.rows n))
  ]
