-- Where an item of a list stands in the runs that the list is kept as.
use Rattle.std.specs.Prelude.{◌≡◌, ◌<◌, ◌+◌, ℕ, List, Some, length, take, drop, slice_get}
use Rattle.std.specs.List.{flat_map}

-- the item at a place of the whole list is that at the offset in a kept run
pub record StandsAt {R A : Type 0} (items : R → List A) (runs : List R) (place run offset : ℕ) : Type 0 where
  pub kept : R
  pub named : slice_get runs run ≡ Some kept
  pub within : offset < length (items kept)
  pub before : length (flat_map items (take run runs)) + offset ≡ place

-- a list is cut at a place
pub record IsCut {A : Type 0} (whole : List A) (place : ℕ) (front rest : List A) : Type 0 where
  pub kept : front ≡ take place whole
  pub given : rest ≡ drop place whole
