-- Marks of cells and owners of a kind, and how many cells a Skip counts.
use Rattle.std.proofs.Common.{◌≤◌, ◌<◌, ◌^◌, ◌++◌, ℕ, suc, Bool, true, false, List, [], ◌∷◌, map, length, Option, None, Some, cond, refl, inl, inr, arith}
use Rattle.std.specs.List.{AllByRecursion}
use Rattle.st_ids.specs.Listing.{Has}
use Rattle.st_ids.specs.declared.names.Atom.{Atom}
use Rattle.st_ids.specs.declared.names.CellId.{CellId}
use Rattle.st_ids.specs.declared.names.NodeId.{NodeId}
use Rattle.st_marks.specs.declared.intents.Owned.{Owned}
use Rattle.st_marks.specs.declared.intents.To.{To}
use Rattle.st_marks.specs.declared.marks.Mark.{Mark}
use Rattle.st_marks.specs.declared.places.Slot.{Slot}
use Rattle.st_marks.specs.Document.{Document, slot}
use Rattle.st_marks.specs.How.{is_here}
use Rattle.st_marks.specs.Row.{CellMark, Counted, Gap, Touch, Make, Fill, RowPart, embed_cell, embed_cells, embed_made, embed_row, how, merge, skip_one}
use Rattle.st_change_laws.specs.Within.{MarkIsWithin}

-- ## Merged marks

-- one cell's mark
abbrev pub CellIsWithin : (Atom → Type 0) → CellMark → Type 0
CellIsWithin A Counted = Unit {0}
CellIsWithin A (Gap c) = A c.0
CellIsWithin A (Touch c n h) = A c.0 × A n.0
CellIsWithin A (Make c n b) = A c.0 × A n.0
CellIsWithin A (Fill c n) = A c.0 × A n.0

-- a mark that counts so many cells at most
abbrev IsWithinAndCounts : (Atom → Type 0) → ℕ → Mark → Type 0
IsWithinAndCounts A b (Mark.Skip k) = k ≤ b
IsWithinAndCounts A b (Mark.Gap c) = A c.0
IsWithinAndCounts A b (Mark.Touch c n h) = A c.0 × A n.0
IsWithinAndCounts A b (Mark.Make c n f) = A c.0 × A n.0
IsWithinAndCounts A b (Mark.Fill c n) = A c.0 × A n.0

module _ (A : Atom → Type 0) where
  counts_more : (b : ℕ) (m : Mark) → IsWithinAndCounts A b m → IsWithinAndCounts A (suc b) m
  counts_more b (Mark.Skip k) h = omega (arith, h)
  counts_more b (Mark.Gap c) h = h
  counts_more b (Mark.Touch c n g) h = h
  counts_more b (Mark.Make c n f) h = h
  counts_more b (Mark.Fill c n) h = h

  all_count_more : (b : ℕ) (ms : List Mark) → AllByRecursion (IsWithinAndCounts A b) ms → AllByRecursion (IsWithinAndCounts A (suc b)) ms
  all_count_more b [] h = tt
  all_count_more b (m ∷ ms) h = (counts_more b m h.0, all_count_more b ms h.1)

  skip_one_within : (b : ℕ) (ms : List Mark) → AllByRecursion (IsWithinAndCounts A b) ms → AllByRecursion (IsWithinAndCounts A (suc b)) (skip_one ms)
  skip_one_within b [] h = (omega arith, tt)
  skip_one_within b (Mark.Skip k ∷ ms) h = let l : suc k ≤ suc b = omega (arith, h.0) in (l, all_count_more b ms h.1)
  skip_one_within b (Mark.Gap c ∷ ms) h = (omega arith, all_count_more b (Mark.Gap c ∷ ms) h)
  skip_one_within b (Mark.Touch c n g ∷ ms) h = (omega arith, all_count_more b (Mark.Touch c n g ∷ ms) h)
  skip_one_within b (Mark.Make c n f ∷ ms) h = (omega arith, all_count_more b (Mark.Make c n f ∷ ms) h)
  skip_one_within b (Mark.Fill c n ∷ ms) h = (omega arith, all_count_more b (Mark.Fill c n ∷ ms) h)

  merge_counts : (ms : List CellMark) → AllByRecursion (CellIsWithin A) ms → AllByRecursion (IsWithinAndCounts A (length ms)) (merge ms)
  merge_counts [] h = tt
  merge_counts (Counted ∷ ms) h = skip_one_within (length ms) (merge ms) (merge_counts ms h.1)
  merge_counts (Gap c ∷ ms) h = (h.0, all_count_more (length ms) (merge ms) (merge_counts ms h.1))
  merge_counts (Touch c n g ∷ ms) h = (h.0, all_count_more (length ms) (merge ms) (merge_counts ms h.1))
  merge_counts (Make c n f ∷ ms) h = (h.0, all_count_more (length ms) (merge ms) (merge_counts ms h.1))
  merge_counts (Fill c n ∷ ms) h = (h.0, all_count_more (length ms) (merge ms) (merge_counts ms h.1))

  short_mark : (b : ℕ) → b < 2 ^ 32 → (m : Mark) → IsWithinAndCounts A b m → MarkIsWithin A m
  short_mark b s (Mark.Skip k) h = omega (arith, s, h)
  short_mark b s (Mark.Gap c) h = h
  short_mark b s (Mark.Touch c n g) h = h
  short_mark b s (Mark.Make c n f) h = h
  short_mark b s (Mark.Fill c n) h = h

  short_marks : (b : ℕ) → b < 2 ^ 32 → (ms : List Mark) → AllByRecursion (IsWithinAndCounts A b) ms → AllByRecursion (MarkIsWithin A) ms
  short_marks b s [] h = tt
  short_marks b s (m ∷ ms) h = (short_mark b s m h.0, short_marks b s ms h.1)

  pub merge_within : (ms : List CellMark) → length ms < 2 ^ 32 → AllByRecursion (CellIsWithin A) ms → AllByRecursion (MarkIsWithin A) (merge ms)
  merge_within ms s h = short_marks (length ms) s (merge ms) (merge_counts ms h)

  -- ## The marks of a row and an intent

  abbrev OwnedIsWithin : Owned → Type 0
  OwnedIsWithin o = A o.cell.0 × A o.node.0

  abbrev SlotIsWithin : Slot → Type 0
  SlotIsWithin s = A s.cell.0 × A s.node.0

  made_within : (p : RowPart) (os : List Owned) (ms : List CellMark) → ((o : Owned) → Has os o → OwnedIsWithin o) → AllByRecursion (CellIsWithin A) ms → AllByRecursion (CellIsWithin A) (embed_made p os ++ ms)
  made_within p [] ms h k = k
  made_within p (o ∷ os) ms h k = (h o (inl refl), made_within p os ms (λ q i. h q (inr i)) k)

  cell_within : (p : RowPart) (c : CellId) (n : NodeId) (b : Bool) → A c.0 × A n.0 → CellIsWithin A (embed_cell p c n b)
  cell_within p c n true h = elim (p.mentioned n) as (λ z. CellIsWithin A (cond z (Touch c n (how (p.target_of n) (To.Cell c))) Counted)) [ true ↦ h | false ↦ tt ]
  cell_within p c n false h = elim (is_here (how (p.target_of n) (To.Cell c))) as (λ z. CellIsWithin A (cond z (Fill c n) (Gap c))) [ true ↦ h | false ↦ h.0 ]

  module _ (p : RowPart) (made : (a : Option CellId) (o : Owned) → Has (p.new_cells a) o → OwnedIsWithin o) where
    cells_within : (c : List Slot) → AllByRecursion SlotIsWithin c → AllByRecursion (CellIsWithin A) (embed_cells p c)
    cells_within [] h = tt
    cells_within (s ∷ c) h = (cell_within p s.cell s.node s.full h.0, made_within p (p.new_cells (Some s.cell)) (embed_cells p c) (made (Some s.cell)) (cells_within c h.1))

    pub row_within : (c : List Slot) → AllByRecursion SlotIsWithin c → AllByRecursion (CellIsWithin A) (embed_row p c)
    row_within c h = made_within p (p.new_cells None) (embed_cells p c) (made None) (cells_within c h)

  pub slots_within : (D : Document) (os : List Owned) → ((o : Owned) → Has os o → OwnedIsWithin o) → AllByRecursion SlotIsWithin (map (slot D) os)
  slots_within D [] h = tt
  slots_within D (o ∷ os) h = (h o (inl refl), slots_within D os (λ q i. h q (inr i)))
