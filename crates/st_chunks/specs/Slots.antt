-- A row of slots that is kept in blocks.
use Rattle.std.specs.Prelude.{◌≡◌, ◌+◌, ◌==◌, ◌&&◌, ℕ, zero, suc, Bool, true, false, not, List, [], ◌∷◌, Some, take, slice_get, if◌then◌else◌}
use Rattle.st_ids.specs.Order.{same_rev}
use Rattle.std.specs.List.{flat_map}
use Rattle.st_marks.specs.declared.places.Slot.{Slot}

-- the slots of some blocks, in order
abbrev pub all_slots : List (List Slot) → List Slot
all_slots bs = flat_map (λ (b : List Slot). b) bs

-- one, or nothing
abbrev pub one_if : Bool → ℕ
one_if true = 1
one_if false = 0

-- how many slots are full
abbrev pub count_full : List Slot → ℕ
count_full [] = 0
count_full (s ∷ c) = one_if s.full + count_full c

-- the slots, with the one at a place full or not
abbrev pub with_full : List Slot → ℕ → Bool → List Slot
with_full [] k b = []
with_full (s ∷ c) zero b = record s { full = b } ∷ c
with_full (s ∷ c) (suc k) b = s ∷ with_full c k b

-- the full slot before which so many full ones stand is at a place
pub record IsFullPlace (c : List Slot) (index place : ℕ) : Type 0 where
  pub slot : Slot
  pub there : slice_get c place ≡ Some slot
  pub full : slot.full ≡ true
  pub before : count_full (take place c) ≡ index

-- ## Chunks

-- a slot goes on from the one before it: both are full or both empty, and their cells, and their nodes, have one revision and
-- numbers that follow each other
abbrev pub goes_on : Slot → Slot → Bool
goes_on s t = (if s.full then t.full else not t.full)
    && (same_rev s.cell.0.rev t.cell.0.rev && (s.cell.0.at + 1 == t.cell.0.at))
    && (same_rev s.node.0.rev t.node.0.rev && (s.node.0.at + 1 == t.node.0.at))

-- how many slots behind one don't go on from the one before them
abbrev pub breaks_after : Slot → List Slot → ℕ
breaks_after s [] = 0
breaks_after s (t ∷ c) = one_if (not (goes_on s t)) + breaks_after t c

-- how many longest runs of slots there are of which each goes on from the one before
abbrev pub chunk_count : List Slot → ℕ
chunk_count [] = 0
chunk_count (s ∷ c) = 1 + breaks_after s c
