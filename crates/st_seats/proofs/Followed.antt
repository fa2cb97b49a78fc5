-- One seat more that went on by a step.
use Rattle.std.proofs.Common.{◌≡◌, ◌==◌, ◌∙◌, ℕ, Bool, true, false, Option, None, Some, refl, sym, subst, inl, inr, arith}
use Rattle.std.proofs.lemmas.Bool.Decides.{nat_tests}
use Rattle.st_marks.specs.declared.steps.Step.{Step}
use Rattle.st_seats.specs.declared.seat.Seat.{Seat}
use Rattle.st_seats.specs.inside.Following.{FollowsBut, IsUnderWay}

-- what holds of one number, and of each other
pub one_and_others : (P : ℕ → Type 0) (k s : ℕ) → P k → ((s == k) ≡ false → P s) → P s
one_and_others P k s one others = go (s == k) refl
  where
    go : (b : Bool) → (s == k) ≡ b → P s
    go true e = let same : s ≡ k = grind (arith, nat_tests) in subst P (sym same) one
    go false e = others e

-- the one that waited
pub one_follows : (l : Bool) (S : Step) (but s : ℕ) (q : Seat) (before waited now waits there next : Option Seat) → IsUnderWay l S but s before waited now → waited ≡ Some q → waits ≡ None → there ≡ Some q → FollowsBut l S but s there next → IsUnderWay l S but s before waits next
one_follows l S but s q before waited now waits there next (inl h) e f g on = inr (f, subst (λ o. FollowsBut l S but s o next) (g ∙ sym e ∙ h.0) on)
one_follows l S but s q before waited now waits there next (inr h) e f g on = let bad : Some q ≡ None = sym e ∙ h.0 in cc

-- another
pub other_stays : (l : Bool) (S : Step) (but s : ℕ) (before waited now waits next : Option Seat) → IsUnderWay l S but s before waited now → waits ≡ waited → next ≡ now → IsUnderWay l S but s before waits next
other_stays l S but s before waited now waits next h e f = subst (λ o. IsUnderWay l S but s before o next) (sym e) (subst (λ o. IsUnderWay l S but s before waited o) (sym f) h)
