-- Places of the whole list among its blocks.
use Rattle.std.specs.Prelude.{◌≡◌, ◌≤◌, ◌+◌, ℕ, List, ◌∷◌, ◌++◌, Some, length, take, drop, slice_get}
use Rattle.st_marks.specs.declared.places.Slot.{Slot}
use Rattle.st_chunks.specs.Slots.{all_slots}

-- a gap of the whole list is behind so many slots of a block
pub record IsGap (bs : List (List Slot)) (place block offset : ℕ) : Type 0 where
  pub inside : block + 1 ≤ length bs
  pub kept : List Slot
  pub named : slice_get bs block ≡ Some kept
  pub within : offset ≤ length kept
  pub before : length (all_slots (take block bs)) + offset ≡ place

-- the item at a place of the whole list is that behind so many slots of a block
pub record IsItem (bs : List (List Slot)) (place block offset : ℕ) : Type 0 where
  pub inside : block + 1 ≤ length bs
  pub kept : List Slot
  pub named : slice_get bs block ≡ Some kept
  pub within : offset + 1 ≤ length kept
  pub before : length (all_slots (take block bs)) + offset ≡ place

-- of some blocks others are made: a slot is put at a place of the whole list, or some in the place of so many
abbrev pub HasPut : List (List Slot) → ℕ → Slot → List (List Slot) → Type 0
HasPut bs place slot cs = all_slots cs ≡ take place (all_slots bs) ++ (slot ∷ drop place (all_slots bs))

abbrev pub HasSpliced : List (List Slot) → ℕ → ℕ → List Slot → List (List Slot) → Type 0
HasSpliced bs place count with cs = all_slots cs ≡ take place (all_slots bs) ++ (with ++ drop (place + count) (all_slots bs))
