-- Lemmas that several crates above need.
use Rattle.std.proofs.Common.{◌≡◌, ℕ, ◌+◌, Bool, true, false, not, List, [], ◌∷◌, Ok, refl}
use Rattle.std.specs.List.{list_all, position_from}
use Rattle.st_schema.specs.Conforms.{refusal}

pub none_refused : (k : ℕ) (vs : List Bool) → refusal (position_from (λ ok. not ok) k vs) ≡ Ok tt → list_all (λ ok. ok) vs ≡ true
none_refused k [] h = refl
none_refused k (true ∷ vs) h = none_refused (k + 1) vs h
none_refused k (false ∷ vs) h = cc
