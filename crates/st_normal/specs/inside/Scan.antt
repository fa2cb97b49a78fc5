-- Going through a list, one thing at a time.
use Rattle.std.specs.Prelude.{◌≡◌, List, [], ◌∷◌, Option, Some, None}

-- the next thing of what is left, if there is one, and what is left behind it
abbrev pub TakesFirst : {A : Type 0} → Option A → List A → List A → Type 0
TakesFirst None old new = (old ≡ []) × (new ≡ [])
TakesFirst (Some x) old new = old ≡ x ∷ new
