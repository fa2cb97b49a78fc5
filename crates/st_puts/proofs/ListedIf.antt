-- What is listed where a test holds.
use Rattle.std.proofs.Common.{◌≡◌, Bool, true, false, ◌||◌, Option, Some, None, cond, refl, sym}
use Rattle.std.proofs.lemmas.Option.{same_Some}

pub listed-Some : {A : Type 0} (b : Bool) (x y : A) → cond {A = Option A} b (Some x) None ≡ Some y → (y ≡ x) × (b ≡ true)
listed-Some true x y e = (sym (same_Some x y e), refl)
listed-Some false x y e = cc

pub shown-Some : {A : Type 0} (b : Bool) (x y : A) → cond {A = Option A} b (Some x) None ≡ Some y → y ≡ x
shown-Some b x y e = (listed-Some b x y e).0

pub shown-None : {A : Type 0} (b : Bool) (x : A) → cond {A = Option A} b (Some x) None ≡ None → b ≡ false
shown-None true x e = cc
shown-None false x e = refl

pub or_parts : (a b : Bool) → (a || b) ≡ false → (a ≡ false) × (b ≡ false)
or_parts true b e = cc
or_parts false b e = (refl, e)
