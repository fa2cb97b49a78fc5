-- The JSON forms of op-space names.
use Rattle.std.specs.Prelude.{ℕ, ◌<◌, ◌^◌, ℤ, pos, negsuc, Option, Some, None, option_and_then}
use Rattle.std.specs.Option.{option_map}
use Rattle.serde_json.specs.Data.{Data, number, unsigned, array, Items, no_items, item}
use Rattle.serde_json.specs.Find.{as_number, as_u64, as_i64, as_array, of_integer}
use Rattle.st_ids.specs.Numeral.{small}

-- a revision is its number
abbrev pub rev_data : ℤ → Data
rev_data z = number (of_integer z)

-- an atom is the number of its revision and its place
abbrev pub atom_data : ℤ → ℕ → Data
atom_data z n = array (item (rev_data z) (item (number (unsigned n)) no_items))

-- the number that a value is, from -2^63 to 2^63 - 1
abbrev pub rev_number : Data → Option ℤ
rev_number d = option_and_then as_i64 (as_number d)

-- the place that a value is, below 2^32
abbrev pub place_number : Data → Option ℕ
place_number d = option_and_then small (option_and_then as_u64 (as_number d))

abbrev pub two_in : Items → Option (Data × Data)
two_in no_items = None
two_in (item x no_items) = None
two_in (item x (item y no_items)) = Some (x, y)
two_in (item x (item y (item z ds))) = None

-- the two numbers that an array is
abbrev pub atom_numbers : Data → Option (ℤ × ℕ)
atom_numbers d = option_and_then (λ p. option_and_then (λ z. option_map (λ n. (z, n)) (place_number p.1)) (rev_number p.0)) (option_and_then two_in (as_array d))

-- a number from -2^63 to 2^63 - 1
abbrev pub IsShort : ℤ → Type 0
IsShort (pos n) = n < 2 ^ 63
IsShort (negsuc n) = n < 2 ^ 63
