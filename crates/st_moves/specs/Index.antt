-- Where the items of a list are, by name.
use Rattle.std.specs.Prelude.{◌≡◌, ℕ, List, option_and_then, slice_get}
use Rattle.std.specs.BTreeMap.{BTreeMap, get}
use Rattle.std.specs.declared.cmp.Ordering.{Ordering}
use Rattle.st_ids.specs.Listing.{item_of}

-- at each name there is the place of the item that the list has first at that name
abbrev pub IsIndex : {K A : Type 0} → (K → K → Ordering) → (A → K) → List A → BTreeMap K ℕ → Type 0
IsIndex {K} R key xs index = (k : K) → option_and_then (slice_get xs) (get R index k) ≡ item_of R key xs k
