-- What the marks of a row of a change say of puts, and which marks tell of a put.
use Rattle.std.proofs.Common.{◌≡◌, Bool, true, false, cond, List, [], ◌∷◌, ◌++◌, Some, None, refl, sym, ap, ◌∙◌, subst, inl, inr}
use Rattle.st_ids.specs.Listing.{Has}
use Rattle.st_ids.specs.declared.names.CellId.{CellId}
use Rattle.st_ids.specs.declared.names.NodeId.{NodeId}
use Rattle.st_marks.specs.declared.intents.Owned.{Owned}
use Rattle.st_marks.specs.declared.intents.To.{To}
use Rattle.st_marks.specs.declared.marks.How.TheVariants.{Here}
use Rattle.st_marks.specs.declared.places.Slot.{Slot}
use Rattle.st_marks.specs.How.{is_here}
use Rattle.st_marks.specs.Row.{CellMark, Counted, Fill, Gap, Make, Touch, RowPart, embed_cell, embed_cells, embed_made, embed_row, how}
use Rattle.st_puts.proofs.OverDocuments.{skip-made}

-- what a mark says of where its node is put
abbrev pub SaysPut : RowPart → CellMark → Type 0
SaysPut p Counted = Unit {0}
SaysPut p (Gap c) = Unit {0}
SaysPut p (Touch c n h) = how (p.target_of n) (To.Cell c) ≡ h
SaysPut p (Make c n b) = is_here (how (p.target_of n) (To.Cell c)) ≡ b
SaysPut p (Fill c n) = is_here (how (p.target_of n) (To.Cell c)) ≡ true

module _ (p : RowPart) where
  cell-says : (c : CellId) (n : NodeId) (b : Bool) → SaysPut p (embed_cell p c n b)
  cell-says c n true = elim (p.mentioned n) as (λ z. SaysPut p (cond z (Touch c n (how (p.target_of n) (To.Cell c))) Counted)) [ true ↦ refl | false ↦ tt ]
  cell-says c n false = elim (is_here (how (p.target_of n) (To.Cell c))) as (λ z. is_here (how (p.target_of n) (To.Cell c)) ≡ z → SaysPut p (cond z (Fill c n) (Gap c))) [ true ↦ (λ e. e) | false ↦ (λ e. tt) ] refl

  made-says : (os : List Owned) (ms : List CellMark) (y : CellMark) → (Has ms y → SaysPut p y) → Has (embed_made p os ++ ms) y → SaysPut p y
  made-says [] ms y rest h = rest h
  made-says (o ∷ os) ms y rest (inl e) = subst (SaysPut p) e refl
  made-says (o ∷ os) ms y rest (inr h) = made-says os ms y rest h

  cells-say : (c : List Slot) (y : CellMark) → Has (embed_cells p c) y → SaysPut p y
  cells-say [] y h = absurd h
  cells-say (s ∷ c) y (inl e) = subst (SaysPut p) e (cell-says s.cell s.node s.full)
  cells-say (s ∷ c) y (inr h) = made-says (p.new_cells (Some s.cell)) (embed_cells p c) y (λ i. cells-say c y i) h

  -- each mark of a row says where its node is put
  pub row-says : (c : List Slot) (y : CellMark) → Has (embed_row p c) y → SaysPut p y
  row-says c y h = made-says (p.new_cells None) (embed_cells p c) y (λ i. cells-say c y i) h

  -- ## Which marks there are

  pub fills : (c : List Slot) (d : CellId) (n : NodeId) → Has c (record { cell = d; node = n; full = false }) → how (p.target_of n) (To.Cell d) ≡ Here → Has (embed_cells p c) (Fill d n)
  fills [] d n h e = absurd h
  fills (s ∷ c) d n (inl q) e = inl ((λ i. embed_cell p (q i).cell (q i).node (q i).full) ∙ ap (λ h. cond (is_here h) (Fill d n) (Gap d)) e)
  fills (s ∷ c) d n (inr h) e = inr (skip-made p (p.new_cells (Some s.cell)) (embed_cells p c) _ (fills c d n h e))

  pub makes : (os : List Owned) (ms : List CellMark) (o : Owned) → Has os o → Has (embed_made p os ++ ms) (Make o.cell o.node (is_here (how (p.target_of o.node) (To.Cell o.cell))))
  makes [] ms o h = absurd h
  makes (q ∷ os) ms o (inl e) = inl (λ i. Make (e i).cell (e i).node (is_here (how (p.target_of (e i).node) (To.Cell (e i).cell))))
  makes (q ∷ os) ms o (inr h) = inr (makes os ms o h)

  pub makes-behind : (c : List Slot) (s : Slot) (o : Owned) → Has c s → Has (p.new_cells (Some s.cell)) o → Has (embed_cells p c) (Make o.cell o.node (is_here (how (p.target_of o.node) (To.Cell o.cell))))
  makes-behind [] s o h i = absurd h
  makes-behind (t ∷ c) s o (inl q) i = inr (makes (p.new_cells (Some t.cell)) (embed_cells p c) o (subst (λ (t : Slot). Has (p.new_cells (Some t.cell)) o) (sym q) i))
  makes-behind (t ∷ c) s o (inr h) i = inr (skip-made p (p.new_cells (Some t.cell)) (embed_cells p c) _ (makes-behind c s o h i))
