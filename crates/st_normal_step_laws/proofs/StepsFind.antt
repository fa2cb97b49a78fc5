-- The step from a document to one that extends it finds there what is so.
use Rattle.std.proofs.Common.{◌≡◌, ◌⊎◌, Bool, true, false, List, map, Option, Some, None, IsSome, IfSome, refl, sym, ap, ◌∙◌, subst, inl, inr}
use Rattle.st_ids.specs.Listing.{Has}
use Rattle.st_ids.specs.Order.{node_cmp}
use Rattle.st_ids.proofs.Listings.{has-item_of, item_of-has}
use Rattle.st_ids.proofs.Orders.{node_cmp_exact, node_cmp_total}
use Rattle.st_ids.specs.declared.names.CellId.{CellId}
use Rattle.st_ids.specs.declared.names.NodeId.{NodeId}
use Rattle.st_marks.specs.declared.changes.NewNode.{NewNode}
use Rattle.st_marks.specs.declared.marks.Loose.{Loose}
use Rattle.st_marks.specs.declared.marks.RowMarks.{RowMarks}
use Rattle.st_marks.specs.declared.places.Slot.{Slot}
use Rattle.st_marks.specs.declared.schemas.SchemaStep.{SchemaStep}
use Rattle.st_marks.specs.declared.steps.Step.{Step}
use Rattle.st_marks.specs.Document.{CanBeInEffect, Document, NodeType, content, owned_cell, slot}
use Rattle.st_marks.specs.Extends.{IsExtendedBy}
use Rattle.st_marks.specs.Listings.{cells_before, cells_made, nodes_new}
use Rattle.st_marks.specs.Row.{CellMark, Counted, Gap, Touch, Make, Fill, spread}
use Rattle.st_marks.specs.Step.{IsSchemaStep, IsStep, gained_node}
use Rattle.st_marks.proofs.Later.{has_later}
use Rattle.st_marks.proofs.Members.{has-flat_map, has-map, map-has}
use Rattle.st_normal.specs.Rules.{entries_of_step, found_in, found_loose, found_over, hole_owner, hole_owners, in_rows}
use Rattle.st_normal.specs.declared.entries.Found.{Found}
use Rattle.st_puts.proofs.RowsAsSeen.{step_sees_before}
use Rattle.st_puts.proofs.StepPlaces.{cells-once, found-named, known, loose-place, reg-is, row-look, slot-known}
use Rattle.st_puts.proofs.StepRows.{cell_with, make-step}
use Rattle.st_puts.specs.Seen.{AreAsSeen}
use Rattle.st_rows.proofs.Documents.{in_document}
use Rattle.st_lemmas.proofs.Options.{one_some}
use Rattle.st_marks.proofs.Members.{append_right}
use Rattle.st_normal_step_laws.specs.StepOver.{EndsWithCut, IsOverStep}
use Rattle.st_normal_step_laws.proofs.SoundLater.{made-by, unknown}

module _ (D E : Document) (S : Step) (x : IsExtendedBy D E) (s : IsStep D E S) where
  abbrev m : NodeId → Bool
  m = s.mentioned

  sees : (r : RowMarks) → Has S.rows r → AreAsSeen (content D r.node) (cells_before (spread r.marks))
  sees r i = subst (λ ms. AreAsSeen (content D r.node) (cells_before ms)) (sym (row-look D E S x s r i).0) (step_sees_before m (s.grows r.node))

  loose-known : (l : Loose) → Has S.loose l → IsSome (D.nodes l.node)
  loose-known l i = known D E S x s l.node (found-named D E S x s l.node (map-has (λ (f : Found). f.node) (entries_of_step S).found (record { node = l.node; how = l.how })
      (append_right (in_rows found_in S.rows) _ (record { node = l.node; how = l.how }) (append_right (Rattle.std.specs.List.flat_map found_over S.regs) (found_loose S.loose) (record { node = l.node; how = l.how }) (map-has (λ (l : Loose). let f : Found = record { node = l.node; how = l.how } in f) S.loose l i))))).0

  new-is : (n : NodeId) → Has (nodes_new S.new) n → D.nodes n ≡ None
  new-is n h =
      let k = has-map (λ (k : NewNode). k.node) S.new n h in
      subst (λ n. D.nodes n ≡ None) k.2 (go k.0.node k.0 (D.nodes k.0.node) (E.nodes k.0.node) (sym (s.new.at_each k.0.node) ∙ has-item_of node_cmp node_cmp_total node_cmp_exact (λ (k : NewNode). k.node) S.new k.0 s.new.rising k.1))
    where
      go : (n : NodeId) (k : NewNode) (a b : Option NodeType) → gained_node n a b ≡ Some k → a ≡ None
      go n k None b e = refl
      go n k (Some t) b e = cc

  new-or-known : (n : NodeId) → IsSome (E.nodes n) → Has (nodes_new S.new) n ⊎ IsSome (D.nodes n)
  new-or-known n k = go (D.nodes n) (E.nodes n) refl refl
    where
      go : (a b : Option NodeType) → D.nodes n ≡ a → E.nodes n ≡ b → Has (nodes_new S.new) n ⊎ IsSome (D.nodes n)
      go (Some t) b e f = inr (subst (λ q. IsSome q) (sym e) refl)
      go None None e f = absurd (unknown (E.nodes n) f k)
      go None (Some t) e f =
          let y : NewNode = record { node = n; ty = t.ty; leaf = t.leaf } in
          let i = item_of-has node_cmp node_cmp_total node_cmp_exact (λ (k : NewNode). k.node) S.new n y (s.new.at_each n ∙ (λ i. gained_node n (e i) (f i))) in
          inl (map-has (λ (k : NewNode). k.node) S.new y i.0)

  -- a cell that is made is there after, and not before
  made : (r : RowMarks) (c : CellId) (n : NodeId) (b : Bool) → Has S.rows r → Has (spread r.marks) (Make c n b) → Has (content E r.node) (cell_with c n b) × (Has (map (λ (t : Slot). t.cell) (content D r.node)) c → ⊥)
  made r c n b i j = make-step m (s.grows r.node) (cells-once D E S x s r.node) c n b (subst (λ ms. Has ms (Make c n b)) (row-look D E S x s r i).0 j)

  row-later : (c : CellId) (n : NodeId) → D.row_of c ≡ Some n → E.row_of c ≡ Some n
  row-later c n e = let o = (x.before.one_row c n).0 e in (x.after.one_row c n).1 (o.0, has_later (x.rows n) (owned_cell c o.0) o.1)

  made-absent : (c : CellId) → Has (in_rows cells_made S.rows) c → D.row_of c ≡ None
  made-absent c h = go (D.row_of c) refl
    where
      q : (r : RowMarks) × Has S.rows r × Has (cells_made (spread r.marks)) c
      q = has-flat_map (λ (r : RowMarks). cells_made (spread r.marks)) S.rows c h

      go : (z : Option NodeId) → D.row_of c ≡ z → D.row_of c ≡ None
      go None e = e
      go (Some n) e =
          let w = made-by (spread q.0.marks) c q.2 in
          let t = made q.0 c w.0 w.1 q.1 w.2 in
          let later : E.row_of c ≡ Some q.0.node = in_document E x.after q.0.node c (map-has (λ (t : Slot). t.cell) (content E q.0.node) (cell_with c w.0 w.1) t.0) in
          let same : n ≡ q.0.node = one_some n q.0.node (sym (row-later c n e) ∙ later) in
          let o = (x.before.one_row c q.0.node).0 (e ∙ ap (λ k. Some k) same) in
          absurd (t.1 (map-has (λ (t : Slot). t.cell) (content D q.0.node) (slot D (owned_cell c o.0)) (map-has (slot D) (D.rows q.0.node) (owned_cell c o.0) o.1)))

  hole-of : (ms : List CellMark) (n : NodeId) → Has (hole_owners ms) n → (c : CellId) × Has ms (Make c n false)
  hole-of ms n h = let y = has-flat_map hole_owner ms n h in go y.0 y.1 y.2
    where
      go : (y : CellMark) → Has ms y → Has (hole_owner y) n → (c : CellId) × Has ms (Make c n false)
      go Counted i j = absurd j
      go (Gap d) i j = absurd j
      go (Touch d k g) i j = absurd j
      go (Make d k true) i j = absurd j
      go (Make d k false) i (inl e) = (d, subst (λ k. Has ms (Make d k false)) e i)
      go (Make d k false) i (inr j) = absurd j
      go (Fill d k) i j = absurd j

  hole-known : (n : NodeId) → Has (in_rows hole_owners S.rows) n → Has (nodes_new S.new) n ⊎ IsSome (D.nodes n)
  hole-known n h =
      let q = has-flat_map (λ (r : RowMarks). hole_owners (spread r.marks)) S.rows n h in
      let c = hole-of (spread q.0.marks) n q.2 in
      new-or-known n (slot-known E x.after q.0.node (cell_with c.0 n false) (made q.0 c.0 n false q.1 c.1).0).1

  ends_with_cut : IfSome S.schema (EndsWithCut D.schemas)
  ends_with_cut = go S.schema s.schema
    where
      go : (q : Option SchemaStep) → IsSchemaStep D.schemas E.schemas q → IfSome q (EndsWithCut D.schemas)
      go None h = tt
      go (Some z) h = (h.0, h.1, h.3, subst CanBeInEffect h.2 x.after.in_effect)

  pub finds_what_is_so : IsOverStep D S
  finds_what_is_so = record {
    rows = sees;
    held = λ r i. sym (reg-is D E S x s r i).0;
    loose = λ l i. ((loose-place D E S x s l i).0, loose-known l i);
    new_nodes = new-is;
    new_cells = made-absent;
    owners = hole-known;
    schema = ends_with_cut;
  }
