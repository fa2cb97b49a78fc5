-- What may be told or not.
use Rattle.std.proofs.Common.{◌≡◌, Bool, true, Option, Some, None, refl, subst}
use Rattle.st_marks.specs.Agree.{SameIfBoth}
use Rattle.st_clash.specs.Owners.{same_if_told}

pub told_same : {A : Type 0} (same : A → A → Bool) → ((a b : A) → same a b ≡ true → a ≡ b) → (o p : Option A) → same_if_told same o p ≡ true → SameIfBoth o p
told_same same exact None p e = tt
told_same same exact (Some a) None e = tt
told_same same exact (Some a) (Some b) e = exact a b e

pub same_told : {A : Type 0} (same : A → A → Bool) → ((a : A) → same a a ≡ true) → (o p : Option A) → SameIfBoth o p → same_if_told same o p ≡ true
same_told same itself None p e = refl
same_told same itself (Some a) None e = refl
same_told same itself (Some a) (Some b) e = subst (λ z. same a z ≡ true) e (itself a)
