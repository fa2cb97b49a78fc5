-- The first narrower type, by counting on.
use Rattle.std.proofs.Common.{◌≡◌, ◌∙◌, ℕ, ◌+◌, ◌≤◌, Bool, true, false, not, List, [], ◌∷◌, ◌++◌, length, Result, Ok, Err, refl, ap, arith, nat_le}
use Rattle.std.proofs.lemmas.List.{length-map}
use borrow.Author.Tests.{leb-true}
use Rattle.st_schema.specs.declared.names.Form.{Form}
use Rattle.std.specs.List.{position_from}
use Rattle.st_schema.specs.Schema.{SchemaView, is_sound, type_names, names_are_sound}
use Rattle.st_schema.specs.Wider.{contains_all, types_widen, none_narrowed, wider_of}
use Rattle.st_schema.specs.inside.Wider.{count_wider}
use Rattle.st_schema.specs.declared.names.NotWider.{NotWider}
use Rattle.st_lemmas.proofs.Bools.{and-true}

-- the answer once the root's list is tested too
abbrev pub settled : Result ℕ NotWider → Bool → Result (Unit {0}) NotWider
settled (Err e) ok = Err e
settled (Ok n) true = Ok tt
settled (Ok n) false = Err (record { at = n })

widened_first : (n : ℕ) (vs : List Bool) (ok : Bool) → settled (count_wider n vs) ok ≡ none_narrowed (position_from (λ ok. not ok) n (vs ++ ok ∷ []))
widened_first n [] true = refl
widened_first n [] false = refl
widened_first n (true ∷ vs) ok = widened_first (n + 1) vs ok
widened_first n (false ∷ vs) ok = refl

pub wider_counted : (old new : SchemaView) (r : Result ℕ NotWider) → r ≡ count_wider 0 (types_widen old.types new.types) → settled r (contains_all new.root old.root) ≡ wider_of old new
wider_counted old new r h = ap (λ r. settled r (contains_all new.root old.root)) h ∙ widened_first 0 (types_widen old.types new.types) (contains_all new.root old.root)

pub few_types : (s : SchemaView) → is_sound s ≡ true → length s.types ≤ 256
few_types s h =
    let few = (and-true (nat_le (length (type_names s.types)) 256) _ (and-true (names_are_sound (type_names s.types)) _ h).0).0 in
    omega (arith, leb-true _ _ few, length-map s.types (λ (d : List ℕ × Form). d.0))
