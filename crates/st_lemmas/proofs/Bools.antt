-- On truth values.
use Rattle.std.proofs.Common.{◌≡◌, Bool, true, false, sym, ◌∙◌, ◌||◌, refl, ◌&&◌, T, not, ◌⊎◌, inl, inr}

pub true-false : {b : Bool} → b ≡ true → b ≡ false → ⊥
true-false e f = let q : ◌≡◌ {A = Bool} true false = sym e ∙ f in cc

pub or-false : (b : Bool) → (b || false) ≡ b
or-false true = refl
or-false false = refl

pub and-true : (a b : Bool) → (a && b) ≡ true → (a ≡ true) × (b ≡ true)
and-true true b e = (refl, e)
and-true false b e = cc

pub T-true : (b : Bool) → T b → b ≡ true
T-true true h = refl
T-true false h = absurd h

pub not-true : (b : Bool) → not b ≡ true → b ≡ false
not-true true e = cc
not-true false e = refl

pub and-both : (a b : Bool) → a ≡ true → b ≡ true → (a && b) ≡ true
and-both a b e f = rw (e, f) refl

pub or-right : (a b : Bool) → b ≡ true → (a || b) ≡ true
or-right true b e = refl
or-right false b e = e

pub both-ways-same : (a b : Bool) → (a ≡ true → b ≡ true) → (b ≡ true → a ≡ true) → a ≡ b
both-ways-same true true f g = refl
both-ways-same true false f g = sym (f refl)
both-ways-same false true f g = g refl
both-ways-same false false f g = refl

pub or-cases : (a b : Bool) → (a || b) ≡ true → (a ≡ true) ⊎ (b ≡ true)
or-cases true b e = inl refl
or-cases false b e = inr e

pub or-left : (a b : Bool) → a ≡ true → (a || b) ≡ true
or-left true b e = refl
or-left false b e = cc

pub and-first : (a b : Bool) → (a && b) ≡ true → a ≡ true
and-first true b e = refl
and-first false b e = e

pub and-second : (a b : Bool) → (a && b) ≡ true → b ≡ true
and-second true b e = e
and-second false b e = cc

pub refuted-false : (a : Bool) → (a ≡ true → ⊥) → a ≡ false
refuted-false true h = absurd (h refl)
refuted-false false h = refl
