-- What is kept while the text of a live tree is built from the bottom up: the value of each node that is not taken yet,
-- and of each node the registers that hold something.
use Rattle.std.specs.Prelude.{ℕ, Bool, nat_eq, List}
use Rattle.std.specs.List.{list_any}
use Rattle.std.specs.Cmp.Lexicographic.{pointwise}

-- ## Values

-- whether a type is among those whose nodes have a row
abbrev pub is_among : List (List ℕ) → List ℕ → Bool
is_among types ty = list_any (λ t. pointwise nat_eq t ty) types
