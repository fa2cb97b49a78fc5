-- What a listing that names more than is asked lists, item by item.
use Rattle.std.proofs.Common.{◌≡◌, ◌<◌, ◌^◌, Bool, true, false, ◌||◌, not, cond, List, length, Option, Some, None, MatchOption, refl, sym, ap, ◌∙◌, subst, IsSome}
use Rattle.std.specs.List.{list_any}
use Rattle.st_ids.specs.Listing.{Has, item_of}
use Rattle.st_ids.specs.Order.{field_cmp, node_cmp, same_node}
use Rattle.st_ids.proofs.Listings.{has-item_of, item_of-has}
use Rattle.st_ids.proofs.Orders.{field_cmp_exact, field_cmp_total, node_cmp_exact, node_cmp_total, same_node-itself, same_node-true}
use Rattle.st_ids.specs.declared.names.FieldId.{FieldId}
use Rattle.st_ids.specs.declared.names.NodeId.{NodeId}
use Rattle.st_kind.specs.Named.{Nodes}
use Rattle.st_marks.specs.declared.changes.NewNode.{NewNode}
use Rattle.st_marks.specs.declared.marks.Loose.{Loose}
use Rattle.st_marks.specs.declared.marks.RegStep.{RegStep}
use Rattle.st_marks.specs.declared.marks.RowMarks.{RowMarks}
use Rattle.st_marks.specs.declared.steps.Step.{Step}
use Rattle.st_marks.specs.Document.{Document, NodeType}
use Rattle.st_marks.specs.Embedding.{is_among, tells}
use Rattle.st_marks.specs.Extends.{IsExtendedBy}
use Rattle.st_marks.specs.Intent.{same_option}
use Rattle.st_marks.specs.Listings.{nodes_new}
use Rattle.st_marks.specs.Register.{holds_mentioned, step_register}
use Rattle.st_marks.specs.Row.{merge, spread, step_row}
use Rattle.st_marks.specs.Step.{gained_node, step_loose}
use Rattle.st_marks.proofs.Members.{any-has, has-any, has-map, map-has}
use Rattle.st_rows.proofs.Documents.{can_hold}
use Rattle.st_rows.proofs.KindLaws.{length-step_row, spread-merge}
use Rattle.st_trim.specs.Trimmed.{ListsStep}
use Rattle.st_trim.specs.inside.Cut.{AreShort}

-- ## Members of lists of nodes

pub among-has : (xs : List NodeId) (n : NodeId) → is_among xs n ≡ true → Has xs n
among-has xs n e = let r = any-has (λ m. same_node m n) xs e in subst (Has xs) (same_node-true r.0 n r.2) r.1

pub has-among : (xs : List NodeId) (n : NodeId) → Has xs n → is_among xs n ≡ true
has-among xs n h = has-any (λ m. same_node m n) xs n h (same_node-itself n)

pub no-truth : {b : Bool} → b ≡ true → b ≡ false → ⊥
no-truth e f = let q : ◌≡◌ {A = Bool} true false = sym e ∙ f in cc

module _ (D E : Document) (K : Nodes) (G : Step) (x : IsExtendedBy D E) (l : ListsStep D E K G) where
  -- ## Rows

  pub row-look : (r : RowMarks) → Has G.rows r → spread r.marks ≡ step_row K (l.grows r.node)
  row-look r i =
      let at = has-item_of node_cmp node_cmp_total node_cmp_exact (λ (r : RowMarks). r.node) G.rows r l.rows_rise i in
      let look : r.marks ≡ merge (step_row K (l.grows r.node)) = subst (λ o. MatchOption o (list_any tells (step_row K (l.grows r.node)) ≡ false) (λ (q : RowMarks). q.marks ≡ merge (step_row K (l.grows r.node)))) at (l.rows r.node) in
      ap spread look ∙ spread-merge (step_row K (l.grows r.node))

  pub row-listed : (n : NodeId) → list_any tells (step_row K (l.grows n)) ≡ true → (r : RowMarks) × Has G.rows r × (r.node ≡ n)
  row-listed n e = go (item_of node_cmp (λ (r : RowMarks). r.node) G.rows n) refl (l.rows n)
    where
      go : (o : Option RowMarks) → item_of node_cmp (λ (r : RowMarks). r.node) G.rows n ≡ o
          → MatchOption o (list_any tells (step_row K (l.grows n)) ≡ false) (λ (q : RowMarks). q.marks ≡ merge (step_row K (l.grows n))) → (r : RowMarks) × Has G.rows r × (r.node ≡ n)
      go None f h = absurd (no-truth e h)
      go (Some r) f h = let q = item_of-has node_cmp node_cmp_total node_cmp_exact (λ (r : RowMarks). r.node) G.rows n r f in (r, q.0, q.1)

  -- each of them is shorter than 2^32
  pub rows_are_short : AreShort G.rows
  rows_are_short r i = subst (λ j. j < 2 ^ 32) (sym (ap length (row-look r i) ∙ length-step_row K (l.grows r.node))) (can_hold E x.after r.node).short

  -- ## Registers

  pub register-look : (r : RegStep) → Has G.regs r → (r.before ≡ D.held r.field) × (r.after ≡ E.held r.field)
  register-look r i =
      let at = has-item_of field_cmp field_cmp_total field_cmp_exact (λ (r : RegStep). r.field) G.regs r l.regs_rise i in
      let look : r ≡ record { field = r.field; before = D.held r.field; after = E.held r.field } = subst (λ o. MatchOption o (step_register r.field K (D.held r.field) (E.held r.field) ≡ None) (λ (q : RegStep). q ≡ record { field = r.field; before = D.held r.field; after = E.held r.field })) at (l.regs r.field) in
      (ap (λ (r : RegStep). r.before) look, ap (λ (r : RegStep). r.after) look)

  pub register-listed : (f : FieldId) → (not (same_option same_node (D.held f) (E.held f)) || holds_mentioned K (D.held f)) ≡ true → (r : RegStep) × Has G.regs r × (r.field ≡ f)
  register-listed f e = go (item_of field_cmp (λ (r : RegStep). r.field) G.regs f) refl (l.regs f)
    where
      tells_it : (b : Bool) (s : RegStep) → b ≡ true → cond {A = Option RegStep} b (Some s) None ≡ None → ⊥
      tells_it true s q h = cc
      tells_it false s q h = cc

      go : (o : Option RegStep) → item_of field_cmp (λ (r : RegStep). r.field) G.regs f ≡ o
          → MatchOption o (step_register f K (D.held f) (E.held f) ≡ None) (λ (q : RegStep). q ≡ record { field = f; before = D.held f; after = E.held f }) → (r : RegStep) × Has G.regs r × (r.field ≡ f)
      go None g h = absurd (tells_it (not (same_option same_node (D.held f) (E.held f)) || holds_mentioned K (D.held f)) (record { field = f; before = D.held f; after = E.held f }) e h)
      go (Some r) g h = let q = item_of-has field_cmp field_cmp_total field_cmp_exact (λ (r : RegStep). r.field) G.regs f r g in (r, q.0, q.1)

  -- ## Nodes that are nowhere, and new ones

  pub loose-look : (m : Loose) → Has G.loose m → step_loose K D E m.node ≡ Some m
  loose-look m i = sym (l.loose.at_each m.node) ∙ has-item_of node_cmp node_cmp_total node_cmp_exact (λ (m : Loose). m.node) G.loose m l.loose.rising i

  pub loose-listed : (n : NodeId) (m : Loose) → step_loose K D E n ≡ Some m → Has G.loose m
  loose-listed n m e = (item_of-has node_cmp node_cmp_total node_cmp_exact (λ (m : Loose). m.node) G.loose n m (l.loose.at_each n ∙ e)).0

  -- a node that is there before isn't new
  pub old-not-new : (n : NodeId) → IsSome (D.nodes n) → is_among (nodes_new G.new) n ≡ false
  old-not-new n k = go (is_among (nodes_new G.new) n) refl
    where
      none : (o : Option NodeType) → IsSome o → (m : NewNode) → gained_node n o (E.nodes n) ≡ Some m → ⊥
      none None k m e = cc
      none (Some t) k m e = cc

      go : (b : Bool) → is_among (nodes_new G.new) n ≡ b → b ≡ false
      go false e = refl
      go true e =
          let r = has-map (λ (m : NewNode). m.node) G.new n (among-has (nodes_new G.new) n e) in
          absurd (none (D.nodes n) k r.0 (subst (λ j. gained_node j (D.nodes j) (E.nodes j) ≡ Some r.0) r.2
          (sym (l.new.at_each r.0.node) ∙ has-item_of node_cmp node_cmp_total node_cmp_exact (λ (m : NewNode). m.node) G.new r.0 l.new.rising r.1)))

  -- and a node that is there after and isn't new was there before
  pub not-new-old : (n : NodeId) → IsSome (E.nodes n) → is_among (nodes_new G.new) n ≡ false → IsSome (D.nodes n)
  not-new-old n k e = go (D.nodes n) refl (E.nodes n) refl k
    where
      go : (o : Option NodeType) → D.nodes n ≡ o → (p : Option NodeType) → E.nodes n ≡ p → IsSome p → IsSome o
      go (Some t) f p g k = refl
      go None f None g k = k
      go None f (Some t) g k =
          let m : NewNode = record { node = n; ty = t.ty; leaf = t.leaf } in
          let q = item_of-has node_cmp node_cmp_total node_cmp_exact (λ (m : NewNode). m.node) G.new n m (l.new.at_each n ∙ (λ i. gained_node n (f i) (g i))) in
          absurd (no-truth (has-among (nodes_new G.new) n (map-has (λ (m : NewNode). m.node) G.new m q.0)) e)
