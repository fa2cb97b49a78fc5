-- Commits whose numbers are below one.
use Rattle.std.proofs.Common.{◌≡◌, ◌<◌, ◌+◌, ℕ, List, [], ◌∷◌, ◌++◌, arith}
use Rattle.std.specs.List.{All}
use Rattle.std.proofs.lemmas.List.Elements.{All-push, All-weaker}
use Rattle.st_window.specs.declared.kept.Kept.{Kept}

-- with the commit of that number they are below the next
pub below_next : (n : ℕ) (ks : List Kept) (k : Kept) → k.n ≡ n → All (λ (x : Kept). x.n < n) ks → All (λ (x : Kept). x.n < n + 1) (ks ++ k ∷ [])
below_next n ks k num below = All-push (λ (x : Kept). x.n < n + 1) ks k (All-weaker (λ (x : Kept). x.n < n) (λ (x : Kept). x.n < n + 1) (λ x less. omega (arith, less)) ks below) (omega (arith, num))
