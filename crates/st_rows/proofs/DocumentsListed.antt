-- What a whole change and a whole step list of a row is what the row's change and step say.
use Rattle.std.proofs.Common.{◌≡◌, ◌≢◌, inr, inl, true, List, Some, None, cond, IsSome, refl, sym, ap, ◌∙◌, subst}
use Rattle.std.specs.List.{list_any}
use Rattle.st_ids.specs.Listing.{Has}
use Rattle.st_ids.specs.declared.names.NodeId.{NodeId}
use Rattle.st_kind.specs.Named.{Nodes}
use Rattle.st_marks.specs.declared.marks.Mark.{Mark}
use Rattle.st_marks.specs.declared.places.Slot.{Slot}
use Rattle.st_marks.specs.declared.steps.Step.{Step}
use Rattle.st_marks.specs.Document.{Document, content, is_cell}
use Rattle.st_marks.specs.Embedding.{row_marks, tells}
use Rattle.st_marks.specs.Extends.{GainsItems, IsExtendedBy, no_more, item_gained, item_kept}
use Rattle.st_marks.specs.Row.{SameCell, embed_row, merge, spread, step_row}
use Rattle.st_marks.specs.Step.{IsStep}
use Rattle.st_rows.proofs.KindLaws.{same_grown, spread-merge, spread_of}
use Rattle.st_rows.specs.Rows.{NamesMoved}
use Rattle.st_rows.specs.Sequence.{RowLeadsOver, SeqPart, row_change_of}
use Rattle.st_rows.proofs.Documents.{can_hold, is_slot}

pub change_is : (p : SeqPart) (c : List Slot) (n : NodeId) → row_marks n (embed_row p.part c)
    ≡ cond (list_any tells (spread (row_change_of p c).marks)) (Some (record { node = n; marks = (row_change_of p c).marks })) None
change_is p c n = ap (λ xs. cond (list_any tells xs) (Some (record { node = n; marks = merge (embed_row p.part c) })) None) (sym (spread-merge (embed_row p.part c)))

pub step_is : (m : Nodes) (c d : List Slot) (marks : List Mark) (n : NodeId) → RowLeadsOver m c d marks → (g : GainsItems SameCell c d)
    → row_marks n (step_row m g) ≡ cond (list_any tells (spread marks)) (Some (record { node = n; marks = marks })) None
step_is m c d marks n l g =
    let one : step_row m g ≡ step_row m l.step.grows = (same_grown m g l.step.grows l.after.once).0 in
    let says : merge (step_row m g) ≡ marks = ap merge one ∙ sym l.step.says in
    let lists : step_row m g ≡ spread marks = one ∙ sym (spread_of marks (step_row m l.step.grows) l.step.says) in
    λ i. cond (list_any tells (lists i)) (Some (record { node = n; marks = says i })) None

-- a node is named where its cell is full before and not after, or after and not before
pub names_moved : (m : Nodes) {c d : List Slot} (g : GainsItems SameCell c d) → ((s t : Slot) → Has c s → Has d t → SameCell s t → s.full ≢ t.full → m s.node ≡ true) → NamesMoved m g
names_moved m no_more h = tt
names_moved m (item_gained g) h = names_moved m g (λ s t v w same q. h s t v (inr w) same q)
names_moved m (item_kept {x = s} {y = t} same g) h = (λ q. h s t (inl refl) (inl refl) same q, names_moved m g (λ x y v w one q. h x y (inr v) (inr w) one q))

-- a node whose cell is full in one row and empty in the other stands at two places
pub moved_apart : (D E : Document) (n : NodeId) (a b : Slot) → Has (content D n) a → Has (content E n) b → SameCell a b → a.full ≢ b.full → D.place a.node ≢ E.place a.node
moved_apart D E n a b v w same q e =
    let o = is_slot D n a v in
    let p = is_slot E n b w in
    let before : is_cell a.cell (D.place a.node) ≡ a.full = ap (λ (t : Slot). is_cell t.cell (D.place t.node)) (sym o.2) ∙ ap (λ (t : Slot). t.full) o.2 in
    let after : is_cell b.cell (E.place b.node) ≡ b.full = ap (λ (t : Slot). is_cell t.cell (E.place t.node)) (sym p.2) ∙ ap (λ (t : Slot). t.full) p.2 in
    q (sym before ∙ ap (is_cell a.cell) e ∙ (λ i. is_cell (same.0 i) (E.place (same.1 i))) ∙ after)

module _ (D E : Document) (S : Step) (n : NodeId) (s : IsStep D E S) (x : IsExtendedBy D E) where
  moved : (a b : Slot) → Has (content D n) a → Has (content E n) b → SameCell a b → a.full ≢ b.full → s.mentioned a.node ≡ true
  moved a b v w same q =
      let o = is_slot D n a v in
      let known : IsSome (D.nodes a.node) = subst (λ k. IsSome (D.nodes k)) (ap (λ (t : Slot). t.node) o.2) (x.before.cells_known n o.0 o.1).1 in
      (s.which a.node).1 (a.node, (known, inl (moved_apart D E n a b v w same q)), 0, refl)

  -- the step of a whole step leads from the row to the row after it
  pub document_is : RowLeadsOver s.mentioned (content D n) (content E n) (merge (step_row s.mentioned (s.grows n)))
  document_is = record {
    before = can_hold D x.before n;
    after = can_hold E x.after n;
    step = record { grows = s.grows n; says = refl };
    moved = names_moved s.mentioned (s.grows n) moved;
  }
