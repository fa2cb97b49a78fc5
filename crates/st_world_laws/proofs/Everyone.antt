-- All clients of a world.
use Rattle.std.proofs.Common.{◌≡◌, ◌≢◌, ◌<◌, ◌==◌, ℕ, zero, suc, false, List, [], ◌∷◌, length, Some, None, refl, sym, ap, arith}
use Rattle.std.specs.List.{slice_get, slice_set, AllByRecursion}
use Rattle.st_ids.specs.Listing.{Has}
use Rattle.st_marks.proofs.Members.{all-has}
use Rattle.st_lists.proofs.Present.{are_apart}
use Rattle.st_lists.specs.declared.lists.Client.{Client}

-- ## Lists

pub past : {X : Type 0} (xs : List X) (i : ℕ) → i < length xs → slice_get xs i ≡ None → ⊥
past [] i h e = absurd (omega (arith, h))
past (x ∷ xs) zero h e = cc
past (x ∷ xs) (suc i) h e = past xs i (omega (arith, h)) e

pub set_same : {X : Type 0} (xs : List X) (i : ℕ) (x : X) → slice_get xs i ≡ Some x → slice_set xs i x ≡ xs
set_same [] i x e = cc
set_same (y ∷ ys) zero x e = let same : y ≡ x = cc in rw same refl
set_same (y ∷ ys) (suc i) x e = ap (λ l. y ∷ l) (set_same ys i x e)

pub all_get : {X : Type 0} (P : X → Type 0) (xs : List X) (i : ℕ) (x : X) → AllByRecursion P xs → slice_get xs i ≡ Some x → P x
all_get P [] i x p e = cc
all_get P (y ∷ ys) zero x p e = let same : y ≡ x = cc in rw (← same) p.0
all_get P (y ∷ ys) (suc i) x p e = all_get P ys i x p.1 e

pub all_set : {X : Type 0} (P : X → Type 0) (xs : List X) (i : ℕ) (x : X) → AllByRecursion P xs → P x → AllByRecursion P (slice_set xs i x)
all_set P [] i x p q = tt
all_set P (y ∷ ys) zero x p q = (q, p.1)
all_set P (y ∷ ys) (suc i) x p q = (p.0, all_set P ys i x p.1 q)

pub all_as : {X : Type 0} (P Q : X → Type 0) (xs : List X) → ((x : X) → P x → Q x) → AllByRecursion P xs → AllByRecursion Q xs
all_as P Q [] f p = tt
all_as P Q (x ∷ xs) f p = (f x p.0, all_as P Q xs f p.1)

-- ## Sessions

-- of two clients at different places
pub others_apart : (cs : List Client) (d c : Client) → AllByRecursion (λ (x : Client). x.session ≢ d.session) cs → Has cs c → (c.session == d.session) ≡ false
others_apart cs d c apart h = are_apart c.session d.session (λ e. all-has (λ (x : Client). x.session ≢ d.session) cs c apart h (sym e))
