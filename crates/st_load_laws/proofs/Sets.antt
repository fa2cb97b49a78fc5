-- Clients of whom one is another now.
use Rattle.std.proofs.Common.{◌≡◌, ◌≤◌, ◌+◌, ◌*◌, ℕ, zero, suc, List, [], ◌∷◌, ◌++◌, length, map, Some, sym, ap, ◌∙◌, arith}
use Rattle.std.specs.List.{slice_get, slice_set, AllByRecursion}
use Rattle.st_lists.specs.declared.lists.Client.{Client}
use Rattle.st_load_laws.specs.Loaded.{total}

pub all_get : {X : Type 0} (P : X → Type 0) (xs : List X) (i : ℕ) (x : X) → AllByRecursion P xs → slice_get xs i ≡ Some x → P x
all_get P [] i x p e = cc
all_get P (y ∷ ys) zero x p e = let same : y ≡ x = cc in rw (← same) p.0
all_get P (y ∷ ys) (suc i) x p e = all_get P ys i x p.1 e

pub all_set : {X : Type 0} (P : X → Type 0) (xs : List X) (i : ℕ) (x : X) → AllByRecursion P xs → P x → AllByRecursion P (slice_set xs i x)
all_set P [] i x p q = tt
all_set P (y ∷ ys) zero x p q = (q, p.1)
all_set P (y ∷ ys) (suc i) x p q = (p.0, all_set P ys i x p.1 q)

pub all_append : {X : Type 0} (P : X → Type 0) (xs ys : List X) → AllByRecursion P xs → AllByRecursion P ys → AllByRecursion P (xs ++ ys)
all_append P [] ys p q = q
all_append P (x ∷ xs) ys p q = (p.0, all_append P xs ys p.1 q)

pub names_set : {X Y : Type 0} (f : X → Y) (xs : List X) (i : ℕ) (x d : X) → slice_get xs i ≡ Some x → f d ≡ f x → map f (slice_set xs i d) ≡ map f xs
names_set f [] i x d e same = cc
names_set f (y ∷ ys) zero x d e same = let is : y ≡ x = cc in ap (λ z. z ∷ map f ys) (same ∙ sym (ap f is))
names_set f (y ∷ ys) (suc i) x d e same = ap (λ l. f y ∷ l) (names_set f ys i x d e same)

-- what one has more, all have more
pub total_set : (f : Client → ℕ) (cs : List Client) (i : ℕ) (c d : Client) → slice_get cs i ≡ Some c → total f (slice_set cs i d) + f c ≡ total f cs + f d
total_set f [] i c d e = cc
total_set f (y ∷ ys) zero c d e = let is : y ≡ c = cc in let same : f y ≡ f c = ap f is in omega (arith, same)
total_set f (y ∷ ys) (suc i) c d e = let rest = total_set f ys i c d e in omega (arith, rest)

pub total_append : (f : Client → ℕ) (cs ds : List Client) → total f (cs ++ ds) ≡ total f cs + total f ds
total_append f [] ds = omega arith
total_append f (c ∷ cs) ds = let rest = total_append f cs ds in omega (arith, rest)

-- none has more than so many
pub total_most : (f : Client → ℕ) (most : ℕ) (cs : List Client) → ((c : Client) → f c ≤ most) → total f cs ≤ length cs * most
total_most f most [] h = omega arith
total_most f most (c ∷ cs) h =
    let rest = total_most f most cs h in
    let here = h c in
    let e : length (c ∷ cs) * most ≡ most + length cs * most = grind arith in
    omega (arith, rest, here, e)
