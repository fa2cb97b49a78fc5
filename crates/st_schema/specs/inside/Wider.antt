-- Words of the private functions behind `Wider`.
use Rattle.std.specs.Prelude.{ℕ, ◌+◌, List, [], ◌∷◌, Bool, true, false, Result, Ok, Err}
use Rattle.st_schema.specs.declared.names.NotWider.{NotWider}

-- the number after types of which each is wider, the first having the number n, or that of the first that is not
abbrev pub count_wider : ℕ → List Bool → Result ℕ NotWider
count_wider n [] = Ok n
count_wider n (true ∷ vs) = count_wider (n + 1) vs
count_wider n (false ∷ vs) = Err (record { at = n })
