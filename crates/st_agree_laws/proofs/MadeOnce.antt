-- A change and a step over one document agree: neither names what the other makes.
use Rattle.std.proofs.Common.{◌≡◌, Bool, true, false, ◌&&◌, ◌||◌, not, List, ◌∷◌, ◌++◌, Option, Some, None, cond, refl, sym, ap, ◌∙◌, subst, inl, inr, ◌⊎◌, IsSome, IsTrue}
use Rattle.std.specs.List.{flat_map, list_any}
use Rattle.st_ids.specs.Listing.{Has}
use Rattle.st_ids.specs.Order.{field_cmp, node_cmp, same_node}
use Rattle.st_ids.proofs.Orders.{field_cmp_exact, field_cmp_total, node_cmp_exact, node_cmp_total}
use Rattle.st_ids.specs.declared.names.CellId.{CellId}
use Rattle.st_ids.specs.declared.names.FieldId.{FieldId}
use Rattle.st_ids.specs.declared.names.NodeId.{NodeId}
use Rattle.st_marks.specs.declared.changes.Change.{Change}
use Rattle.st_marks.specs.declared.changes.NewNode.{NewNode}
use Rattle.st_marks.specs.declared.intents.Intent.{Intent}
use Rattle.st_marks.specs.declared.marks.How.TheVariants.{Stay}
use Rattle.st_marks.specs.declared.marks.Loose.{Loose}
use Rattle.st_marks.specs.declared.marks.RegStep.{RegStep}
use Rattle.st_marks.specs.declared.marks.RowMarks.{RowMarks}
use Rattle.st_marks.specs.declared.places.Slot.{Slot}
use Rattle.st_marks.specs.declared.steps.Step.{Step}
use Rattle.st_marks.specs.Document.{Document, NodeType, content, slot}
use Rattle.st_marks.specs.Embedding.{IsEmbedding, tells}
use Rattle.st_marks.specs.Extends.{IsExtendedBy, GainsItems, no_more, item_gained, item_kept}
use Rattle.st_marks.specs.Intent.{Fits, same_option}
use Rattle.st_marks.specs.Register.{holds_mentioned}
use Rattle.st_marks.specs.Row.{CellMark, Counted, Touch, SameCell, spread, step_cell, step_row}
use Rattle.st_marks.specs.Listings.{names_of_step, nodes_in, nodes_loose, nodes_new, nodes_of_rows, one_or_none, listing_before_change, listing_before_step}
use Rattle.st_marks.specs.Step.{IsStep, gained_node}
use Rattle.st_marks.proofs.Later.{node_later}
use Rattle.st_ids.proofs.Listings.{has-item_of}
use Rattle.st_marks.proofs.Members.{has-append, has-flat_map, has-map}
use Rattle.st_lemmas.proofs.Options.{None-IsSome}
use Rattle.st_agree_laws.proofs.NamesApart.{among-has, change_makes_new, change_names_known}
use Rattle.st_puts.proofs.OverDocuments.{climb-known, row-told}

-- ## What the marks of a step name

nodes-step_cell : (m : NodeId → Bool) (c : CellId) (k n : NodeId) (a b : Bool) (xs : List CellMark) → Has (nodes_in (step_cell m c k a b ∷ xs)) n → (k ≡ n) ⊎ Has (nodes_in xs) n
nodes-step_cell m c k n true true xs h = go (m k) h
  where
    go : (z : Bool) → Has (nodes_in (cond z (Touch c k Stay) Counted ∷ xs)) n → (k ≡ n) ⊎ Has (nodes_in xs) n
    go true i = i
    go false i = inr i
nodes-step_cell m c k n true false xs h = h
nodes-step_cell m c k n false true xs h = h
nodes-step_cell m c k n false false xs h = inr h

nodes-step_row : (m : NodeId → Bool) {c d : List Slot} (g : GainsItems SameCell c d) (n : NodeId) → Has (nodes_in (step_row m g)) n → (t : Slot) × Has d t × (t.node ≡ n)
nodes-step_row m no_more n h = absurd h
nodes-step_row m (item_gained {y = t} g) n (inl e) = (t, inl refl, e)
nodes-step_row m (item_gained g) n (inr h) = let r = nodes-step_row m g n h in (r.0, inr r.1, r.2)
nodes-step_row m (item_kept {x = s} {y = t} a g) n h = elim (nodes-step_cell m s.cell s.node n s.full t.full (step_row m g) h) [
  | inl e ↦ (t, inl refl, sym a.1 ∙ e)
  | inr i ↦ (let r = nodes-step_row m g n i in (r.0, inr r.1, r.2))
]

step_some : (m : NodeId → Bool) {c d : List Slot} (g : GainsItems SameCell c d) → list_any tells (step_row m g) ≡ true → (t : Slot) × Has d t
step_some m no_more e = cc
step_some m (item_gained {y = t} g) e = (t, inl refl)
step_some m (item_kept {y = t} a g) e = (t, inl refl)

module _ (D E : Document) (S : Step) (x : IsExtendedBy D E) (step : IsStep D E S) where
  slot_known : (r : NodeId) (t : Slot) → Has (content E r) t → IsSome (E.nodes r) × IsSome (E.nodes t.node)
  slot_known r t h = let o = has-map (slot E) (E.rows r) t h in let k = x.after.cells_known r o.0 o.1 in (k.0, subst (λ (u : Slot). IsSome (E.nodes u.node)) o.2 k.1)

  row_of_step : (r : RowMarks) → Has S.rows r → (spread r.marks ≡ step_row step.mentioned (step.grows r.node)) × (list_any tells (step_row step.mentioned (step.grows r.node)) ≡ true)
  row_of_step r h = row-told r r.node (step_row step.mentioned (step.grows r.node)) (sym (step.rows.at_each r.node) ∙ has-item_of node_cmp node_cmp_total node_cmp_exact (λ (r : RowMarks). r.node) S.rows r step.rows.rising h)

  rows_known : (n : NodeId) → Has (nodes_of_rows S.rows) n → IsSome (E.nodes n)
  rows_known n h = let r = has-flat_map (λ (r : RowMarks). r.node ∷ nodes_in (spread r.marks)) S.rows n h in let w = row_of_step r.0 r.1 in elim r.2 [
    | inl e ↦ (let t = step_some step.mentioned (step.grows r.0.node) w.1 in subst (λ k. IsSome (E.nodes k)) e (slot_known r.0.node t.0 t.1).0)
    | inr i ↦ (let t = nodes-step_row step.mentioned (step.grows r.0.node) n (subst (λ l. Has (nodes_in l) n) w.0 i) in subst (λ k. IsSome (E.nodes k)) t.2 (slot_known r.0.node t.0 t.1).1)
  ]

  reg_of_step : (r : RegStep) → Has S.regs r → (r.before ≡ D.held r.field) × (r.after ≡ E.held r.field) × ((not (same_option same_node (D.held r.field) (E.held r.field)) || holds_mentioned step.mentioned (D.held r.field)) ≡ true)
  reg_of_step r h = told (not (same_option same_node (D.held r.field) (E.held r.field)) || holds_mentioned step.mentioned (D.held r.field)) (record { field = r.field; before = D.held r.field; after = E.held r.field }) (sym (step.regs.at_each r.field) ∙ has-item_of field_cmp field_cmp_total field_cmp_exact (λ (r : RegStep). r.field) S.regs r step.regs.rising h)
    where
      told : (b : Bool) (q : RegStep) → cond b (Some q) None ≡ Some r → (r.before ≡ q.before) × (r.after ≡ q.after) × (b ≡ true)
      told true q e = (ap (at (λ (z : RegStep). z.before) q.before) (sym e), ap (at (λ (z : RegStep). z.after) q.after) (sym e), refl)
        where
          at : (RegStep → Option NodeId) → Option NodeId → Option RegStep → Option NodeId
          at f d None = d
          at f d (Some z) = f z
      told false q e = cc

  field_known : (k : FieldId) → (not (same_option same_node (D.held k) (E.held k)) || holds_mentioned step.mentioned (D.held k)) ≡ true → IsSome (E.nodes k.node)
  field_known k e = go (D.held k) refl (E.held k) refl e
    where
      go : (o : Option NodeId) → D.held k ≡ o → (p : Option NodeId) → E.held k ≡ p → (not (same_option same_node o p) || holds_mentioned step.mentioned o) ≡ true → IsSome (E.nodes k.node)
      go (Some n) f p g q = node_later D E x k.node (x.before.held_known n k f).1
      go None f (Some n) g q = (x.after.held_known n k g).1
      go None f None g q = cc

  one-has : (o : Option NodeId) (n : NodeId) → Has (one_or_none o) n → o ≡ Some n
  one-has None n h = absurd h
  one-has (Some k) n (inl e) = ap (λ y. Some y) e
  one-has (Some k) n (inr h) = absurd h

  regs_known : (n : NodeId) → Has (flat_map (λ (r : RegStep). r.field.node ∷ (one_or_none r.before ++ one_or_none r.after)) S.regs) n → IsSome (E.nodes n)
  regs_known n h = let r = has-flat_map (λ (r : RegStep). r.field.node ∷ (one_or_none r.before ++ one_or_none r.after)) S.regs n h in let w = reg_of_step r.0 r.1 in elim r.2 [
    | inl e ↦ subst (λ k. IsSome (E.nodes k)) e (field_known r.0.field w.2)
    | inr i ↦ elim (has-append (one_or_none r.0.before) (one_or_none r.0.after) n i) [
      | inl j ↦ node_later D E x n (x.before.held_known n r.0.field (sym w.0 ∙ one-has r.0.before n j)).0
      | inr j ↦ (x.after.held_known n r.0.field (sym w.1 ∙ one-has r.0.after n j)).0
    ]
  ]

  loose_known : (n : NodeId) → Has (nodes_loose S.loose) n → IsSome (E.nodes n)
  loose_known n h =
      let o = has-map (λ (l : Loose). l.node) S.loose n h in
      let found = sym (step.loose.at_each o.0.node) ∙ has-item_of node_cmp node_cmp_total node_cmp_exact (λ (l : Loose). l.node) S.loose o.0 step.loose.rising o.1 in
      let k = (step.which o.0.node).0 (said (step.mentioned o.0.node) _ _ _ _ found) in
      node_later D E x n (subst (λ y. IsSome (D.nodes y)) o.2 (climb-known D x.before k.2 k.0 o.0.node k.1.0 k.3))
    where
      said : (a b c : Bool) (l r : Loose) → cond (a && b && c) (Some l) None ≡ Some r → a ≡ true
      said true b c l r e = refl
      said false b c l r e = cc

  -- a node that it makes is the later document's, and not the earlier one's
  new_said : (n : NodeId) → Has (nodes_new S.new) n → (D.nodes n ≡ None) × IsSome (E.nodes n)
  new_said n h =
      let o = has-map (λ (k : NewNode). k.node) S.new n h in
      let found = sym (step.new.at_each o.0.node) ∙ has-item_of node_cmp node_cmp_total node_cmp_exact (λ (k : NewNode). k.node) S.new o.0 step.new.rising o.1 in
      subst (λ y. (D.nodes y ≡ None) × IsSome (E.nodes y)) o.2 (said o.0.node (D.nodes o.0.node) (E.nodes o.0.node) o.0 found)
    where
      said : (y : NodeId) (a b : Option NodeType) (k : NewNode) → gained_node y a b ≡ Some k → (a ≡ None) × IsSome b
      said y None None k e = cc
      said y None (Some t) k e = (refl, refl)
      said y (Some t) b k e = cc

  abbrev in_regs : List NodeId
  in_regs = flat_map (λ (r : RegStep). r.field.node ∷ (one_or_none r.before ++ one_or_none r.after)) S.regs

  named_known : (n : NodeId) → Has (nodes_new S.new ++ nodes_of_rows S.rows ++ in_regs ++ nodes_loose S.loose) n → IsSome (E.nodes n)
  named_known n h = elim (has-append (nodes_new S.new ++ nodes_of_rows S.rows ++ in_regs) (nodes_loose S.loose) n h) [
    | inr k ↦ loose_known n k
    | inl i ↦ elim (has-append (nodes_new S.new ++ nodes_of_rows S.rows) in_regs n i) [
      | inr k ↦ regs_known n k
      | inl j ↦ elim (has-append (nodes_new S.new) (nodes_of_rows S.rows) n j) [ inl k ↦ (new_said n k).1 | inr k ↦ rows_known n k ]
    ]
  ]

  pub step_names_known : (n : NodeId) → IsTrue ((names_of_step S).names_node n) → IsSome (E.nodes n)
  step_names_known n e = named_known n (among-has (nodes_new S.new ++ nodes_of_rows S.rows ++ in_regs ++ nodes_loose S.loose) n e)

  pub step_makes_new : (n : NodeId) → IsTrue ((names_of_step S).makes_node n) → (D.nodes n ≡ None) × IsSome (E.nodes n)
  step_makes_new n e = new_said n (among-has (nodes_new S.new) n e)

-- ## No node is made again

-- the step makes no node that the change names
pub nodes_of_change_old : (D E : Document) (N : Intent) (C : Change) (S : Step) → IsExtendedBy D E → Fits D N → Fits E N → IsEmbedding D N C → IsStep D E S → (n : NodeId)
    → IsTrue ((listing_before_step S).names.makes_node n) → IsTrue ((listing_before_change C).names.names_node n) → ⊥
nodes_of_change_old D E N C S x f g emb step n made named = elim (change_names_known D N C x.before f emb n named) [
  | inl h ↦ None-IsSome (E.nodes n) (g.fresh_nodes n h) (step_makes_new D E S x step n made).1
  | inr h ↦ None-IsSome (D.nodes n) (step_makes_new D E S x step n made).0 h
]

-- the change makes no node that the step names
pub nodes_of_step_old : (D E : Document) (N : Intent) (C : Change) (S : Step) → IsExtendedBy D E → Fits D N → Fits E N → IsEmbedding D N C → IsStep D E S → (n : NodeId)
    → IsTrue ((listing_before_change C).names.makes_node n) → IsTrue ((listing_before_step S).names.names_node n) → ⊥
nodes_of_step_old D E N C S x f g emb step n made named = None-IsSome (E.nodes n) (g.fresh_nodes n (change_makes_new D N C x.before f emb n made)) (step_names_known D E S x step n named)
