-- Tests that hold or don't.
use Rattle.std.proofs.Common.{◌≡◌, Bool, true, false, ◌&&◌, not, refl}

pub and_true : {a b : Bool} → a ≡ true → b ≡ true → (a && b) ≡ true
and_true p q = rw (p, q) refl

pub on : (a : Bool) → a ≡ false → not a ≡ true
on true e = cc
on false e = refl
