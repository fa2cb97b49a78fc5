-- Two lists, item by item.
use Rattle.std.specs.Prelude.{◌≡◌, List, [], ◌∷◌}

-- the second list has for each item of the first one of the same name, in the same order, which that item becomes
abbrev pub AreListedAs : {K A B : Type 0} → (A → K) → (B → K) → (A → B → Type 0) → List A → List B → Type 0
AreListedAs key name Becomes [] [] = Unit {0}
AreListedAs key name Becomes [] (y ∷ ys) = ⊥
AreListedAs key name Becomes (x ∷ xs) [] = ⊥
AreListedAs key name Becomes (x ∷ xs) (y ∷ ys) = (name y ≡ key x) × Becomes x y × AreListedAs key name Becomes xs ys
