-- What may be told or not.
use Rattle.std.specs.Prelude.{Bool, true, Option, Some, None}

-- the same, where both are told
abbrev pub same_if_told : {A : Type 0} → (A → A → Bool) → Option A → Option A → Bool
same_if_told same None y = true
same_if_told same (Some x) None = true
same_if_told same (Some x) (Some y) = same x y
