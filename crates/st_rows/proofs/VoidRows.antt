-- What a void change makes of a row.
use Rattle.std.proofs.Common.{◌≡◌, ◌≢◌, Bool, true, false, ◌&&◌, List, [], ◌∷◌, ◌++◌, Some, None, cond, refl, sym, ap, ◌∙◌, inl, inr}
use Rattle.st_ids.specs.declared.names.CellId.{CellId}
use Rattle.st_ids.specs.declared.names.NodeId.{NodeId}
use Rattle.st_kind.specs.Named.{Nodes}
use Rattle.st_marks.specs.declared.intents.Owned.{Owned}
use Rattle.st_marks.specs.declared.intents.To.{To}
use Rattle.st_marks.specs.declared.places.Slot.{Slot}
use Rattle.st_marks.specs.Row.{CellMark, Counted, Gap, Touch, Make, Fill, RowPart, how, step_row, embed_cell, embed_made, embed_cells, embed_row}
use Rattle.st_marks.specs.How.{is_here}
use Rattle.st_rows.specs.Cells.{effected_mark, effect_row, voided_mark, void_row}
use Rattle.st_rows.specs.Changes.{StandsIn, AreOld, void_part}
use Rattle.st_rows.proofs.RowEffects.{effect_row-embed_row, grown_row}

module _ (placed : Nodes) (p : RowPart) where
  pub void-made : (o : Owned) → (is_here (how (p.target_of o.node) (To.Cell o.cell)) && placed o.node) ≡ is_here (how (cond (placed o.node) (p.target_of o.node) None) (To.Cell o.cell))
  void-made o = elim (placed o.node) as (λ b. (is_here (how (p.target_of o.node) (To.Cell o.cell)) && b) ≡ is_here (how (cond b (p.target_of o.node) None) (To.Cell o.cell))) [
    | true ↦ and-true (is_here (how (p.target_of o.node) (To.Cell o.cell)))
    | false ↦ and-false (is_here (how (p.target_of o.node) (To.Cell o.cell)))
  ]
    where
      and-true : (b : Bool) → (b && true) ≡ b
      and-true true = refl
      and-true false = refl

      and-false : (b : Bool) → (b && false) ≡ false
      and-false true = refl
      and-false false = refl

  void-group : (os : List Owned) (xs ys : List CellMark) → void_row placed xs ≡ effect_row ys → void_row placed (embed_made p os ++ xs) ≡ effect_row (embed_made (void_part placed p) os ++ ys)
  void-group [] xs ys e = e
  void-group (o ∷ os) xs ys e = λ i. Make o.cell o.node (void-made o i) ∷ void-group os xs ys e i

  void-cell : (c : CellId) (n : NodeId) (b : Bool) → placed n ≡ false → voided_mark placed (embed_cell p c n b) ≡ effected_mark (embed_cell (void_part placed p) c n b)
  void-cell c n true e = rw e (elim (p.mentioned n) as (λ b. voided_mark placed (cond b (Touch c n (how (p.target_of n) (To.Cell c))) Counted) ≡ effected_mark (cond b (Touch c n (how None (To.Cell c))) Counted)) [ true ↦ refl | false ↦ refl ])
  void-cell c n false e = rw e (elim (is_here (how (p.target_of n) (To.Cell c))) as (λ b. voided_mark placed (cond b (Fill c n) (Gap c)) ≡ Gap c) [ true ↦ refl | false ↦ refl ])

  void-cells : (c : List Slot) → AreOld placed c → void_row placed (embed_cells p c) ≡ effect_row (embed_cells (void_part placed p) c)
  void-cells [] h = refl
  void-cells (s ∷ c) h = λ i. void-cell s.cell s.node s.full h.0 i ∷ void-group (p.new_cells (Some s.cell)) (embed_cells p c) (embed_cells (void_part placed p) c) (void-cells c h.1) i

  -- a node that stands in the row isn't put
  stays : (c : List Slot) → AreOld placed c → (n : NodeId) → StandsIn n c → cond (placed n) (p.target_of n) None ≢ None → p.mentioned n ≡ true
  stays [] h n w = absurd w
  stays (s ∷ c) h n (inl w) = λ z. absurd (z (ap (λ b. cond b (p.target_of n) None) (sym (ap placed w.0) ∙ h.0)))
  stays (s ∷ c) h n (inr w) = stays c h.1 n w

  -- the law of the effect of a void change
  pub void_row-embed_row : (c : List Slot) → AreOld placed c → void_row placed (embed_row p c) ≡ step_row p.mentioned (grown_row (void_part placed p) c)
  void_row-embed_row c h = void-group (p.new_cells None) (embed_cells p c) (embed_cells (void_part placed p) c) (void-cells c h) ∙ effect_row-embed_row (void_part placed p) c (stays c h)
