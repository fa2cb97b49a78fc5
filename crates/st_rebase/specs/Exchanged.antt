-- Lists of which each item is exchanged for another of its name.
use Rattle.std.specs.Prelude.{◌≡◌, List, [], ◌∷◌}

-- the second list is the first, with each item exchanged for one of the same name that becomes it
abbrev pub AreExchanged : {K A : Type 0} → (A → K) → (A → A → Type 0) → List A → List A → Type 0
AreExchanged key Becomes [] [] = Unit {0}
AreExchanged key Becomes [] (y ∷ ys) = ⊥
AreExchanged key Becomes (x ∷ xs) [] = ⊥
AreExchanged key Becomes (x ∷ xs) (y ∷ ys) = (key y ≡ key x) × Becomes x y × AreExchanged key Becomes xs ys
