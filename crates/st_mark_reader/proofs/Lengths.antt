-- Items of another number than is asked are nothing.
use Rattle.std.proofs.Common.{◌≡◌, ◌∙◌, ℕ, Bool, List, [], ◌∷◌, length, map, refl, sym, ap, arith, Option, None}
use Rattle.std.specs.Prelude.{◌==◌, String}
use Rattle.std.specs.declared.alloc.Global.{Global}
use Rattle.std.proofs.lemmas.Bool.Decides.{nat_tests}
use Rattle.serde_json.specs.Data.{Data, no_members}
use Rattle.serde_json.specs.View.{items_view, members_view}
use Rattle.serde_json.specs.declared.value.Value.{Value}
use Rattle.st_mark_reader.specs.Reading.{has_names, four_in, six_in}

pub other_than_six : (vs : List Value) → (length vs ≡ 6 → ⊥) → ◌≡◌ {A = Option (Data × Data × Data × Data × Data × Data)} None (six_in (items_view vs))
other_than_six [] h = refl
other_than_six (a ∷ []) h = refl
other_than_six (a ∷ b ∷ []) h = refl
other_than_six (a ∷ b ∷ c ∷ []) h = refl
other_than_six (a ∷ b ∷ c ∷ d ∷ []) h = refl
other_than_six (a ∷ b ∷ c ∷ d ∷ e ∷ []) h = refl
other_than_six (a ∷ b ∷ c ∷ d ∷ e ∷ f ∷ []) h = absurd (h refl)
other_than_six (a ∷ b ∷ c ∷ d ∷ e ∷ f ∷ g ∷ vs) h = refl

pub other_than_four : (vs : List Value) → (length vs ≡ 4 → ⊥) → ◌≡◌ {A = Option (Data × Data × Data × Data)} None (four_in (items_view vs))
other_than_four [] h = refl
other_than_four (a ∷ []) h = refl
other_than_four (a ∷ b ∷ []) h = refl
other_than_four (a ∷ b ∷ c ∷ []) h = refl
other_than_four (a ∷ b ∷ c ∷ d ∷ []) h = absurd (h refl)
other_than_four (a ∷ b ∷ c ∷ d ∷ e ∷ vs) h = refl

-- where no members are left, the names were those of the members exactly where none is left
names_end : {A : Type 0} (f : A → List ℕ) (left : List A) → has_names (map f left) no_members ≡ (length left == 0)
names_end f [] = refl
names_end f (x ∷ xs) = grind (arith, nat_tests)

pub names_ended : {A : Type 0} (f : A → List ℕ) (left : List A) (ms : List (String Global × Value)) (b all : Bool) → ms ≡ [] → b ≡ (length left == 0) → has_names (map f left) (members_view ms) ≡ all → b ≡ all
names_ended f left ms b all none e h = e ∙ sym (names_end f left) ∙ sym (ap (λ (ns : List (String Global × Value)). has_names (map f left) (members_view ns)) none) ∙ h
