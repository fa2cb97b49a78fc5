-- Two lists that rise by name, merged.
use Rattle.std.specs.Prelude.{◌+◌, ◌<◌, ◌∷◌, ◌++◌, List, Option, length}
use Rattle.std.specs.Option.{option_or}
use Rattle.std.specs.declared.cmp.Ordering.{Ordering}
use Rattle.st_ids.specs.Listing.{IsListing, IsRising, item_of}

-- what two lists have at a name: the item of the first, if both have one
abbrev pub of_either : {K A : Type 0} → (K → K → Ordering) → (A → K) → List A → List A → K → Option A
of_either R key xs ys k = option_or (item_of R key xs k) (item_of R key ys k)

-- an item comes first of two lists, of which `us` and `vs` are left: before a listing of these it makes a listing of both
pub record IsNext {K A : Type 0} (R : K → K → Ordering) (key : A → K) (xs ys : List A) (x : A) (us vs : List A) : Type 0 where
  pub first_rises : IsRising R key us
  pub second_rises : IsRising R key vs
  pub fewer : length us + length vs < length xs + length ys
  pub listed : (l : List A) → IsListing R key l (of_either R key us vs) → IsListing R key (x ∷ l) (of_either R key xs ys)

-- with any listing of what is left behind them, the items so far make a listing of both lists
abbrev pub GoesOn : {K A : Type 0} → (K → K → Ordering) → (A → K) → List A → List A → List A → List A → List A → Type 0
GoesOn {A = A} R key xs ys out us vs = (l : List A) → IsListing R key l (of_either R key us vs) → IsListing R key (out ++ l) (of_either R key xs ys)
