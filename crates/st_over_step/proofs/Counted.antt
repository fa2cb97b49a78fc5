-- Counted cells make nothing.
use Rattle.std.proofs.Common.{◌≡◌, ℕ, zero, suc, [], refl}
use Rattle.st_marks.specs.Listings.{cells_made}
use Rattle.st_marks.specs.Row.{counted_cells}
use Rattle.st_normal.specs.Rules.{hole_owners}

pub made_counted : (k : ℕ) → cells_made (counted_cells k []) ≡ []
made_counted zero = refl
made_counted (suc k) = made_counted k

pub holes_counted : (k : ℕ) → hole_owners (counted_cells k []) ≡ []
holes_counted zero = refl
holes_counted (suc k) = holes_counted k
