-- Words of the private functions behind `Two`.
use Rattle.std.specs.Prelude.{◌≡◌, ℕ, List, Option}
use Rattle.std.specs.List.{flat_map}
use Rattle.st_marks.specs.Listings.{CellView, one_or_none}
use Rattle.st_normal_laws.specs.Two.{IsNamedAt}

-- ## Names by their places

-- the names in a row, by what is named of one cell
abbrev pub keys : {K : Type 0} → (CellView → Option K) → List CellView → List K
keys key xs = flat_map (λ x. one_or_none (key x)) xs

-- what two rows name is at one place
abbrev pub AreInPlace : {K : Type 0} → (CellView → Option K) → List CellView → List CellView → Type 0
AreInPlace {K} key xs ys =
    (k l : ℕ) (c : K) → IsNamedAt key xs k c → IsNamedAt key ys l c → k ≡ l
