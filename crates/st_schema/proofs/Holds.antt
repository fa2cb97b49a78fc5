-- A fact of the value that is there, if one is.
use Rattle.std.proofs.Common.{◌≡◌, Bool, true, false, cond, Option, refl}
use Rattle.st_json.proofs.Rising.{Holds}

pub Holds-cond : {A : Type 0} (P : A → Type 0) (b : Bool) (o p : Option A) → (b ≡ true → Holds P o) → Holds P p → Holds P (cond b o p)
Holds-cond P true o p x y = x refl
Holds-cond P false o p x y = y
