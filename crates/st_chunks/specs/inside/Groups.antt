-- Counts over groups of 64 blocks each. The blocks behind the last group are counted by none.
use Rattle.std.specs.Prelude.{◌≡◌, ◌≤◌, ℕ, zero, suc, List, [], ◌∷◌, length, take, drop}
use Rattle.std.specs.List.{sum_by}
use Rattle.st_marks.specs.declared.places.Slot.{Slot}
use Rattle.st_chunks.specs.declared.group.Group.{Group}
use Rattle.st_chunks.specs.Slots.{all_slots, count_full}

-- a group has the counts of some blocks
pub record IsCountOf (g : Group) (bs : List (List Slot)) : Type 0 where
  pub slots : g.slots ≡ length (all_slots bs)
  pub full : g.full ≡ count_full (all_slots bs)

-- groups have the counts of so many blocks each, from the first on
abbrev pub AreGroups : List Group → List (List Slot) → Type 0
AreGroups [] bs = Unit {0}
AreGroups (g ∷ gs) bs = (64 ≤ length bs) × IsCountOf g (take 64 bs) × AreGroups gs (drop 64 bs)

-- all groups but one do
abbrev pub AreGroupsBut : ℕ → List Group → List (List Slot) → Type 0
AreGroupsBut k [] bs = Unit {0}
AreGroupsBut zero (g ∷ gs) bs = (64 ≤ length bs) × AreGroups gs (drop 64 bs)
AreGroupsBut (suc k) (g ∷ gs) bs = (64 ≤ length bs) × IsCountOf g (take 64 bs) × AreGroupsBut k gs (drop 64 bs)

-- how many slots groups count, and how many full ones
abbrev pub sizes : List Group → ℕ
sizes gs = sum_by (λ (g : Group). g.slots) gs

abbrev pub fulls : List Group → ℕ
fulls gs = sum_by (λ (g : Group). g.full) gs
