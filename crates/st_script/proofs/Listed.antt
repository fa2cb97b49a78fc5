-- A member whose name is none of those that an object may have is not there.
use Rattle.std.proofs.Common.{◌≡◌, ◌∙◌, ℕ, true, false, List, Option, Some, None, Ordering, Less, Equal, Greater, refl, sym, ap}
use Rattle.std.specs.Ordering.{nat_cmp, match_ordering, is_eq}
use Rattle.std.specs.Cmp.Lexicographic.{slice_cmp}
use Rattle.std.proofs.lemmas.Map.Text.{is_eq-slice_cmp}
use Rattle.serde_json.specs.Data.{Data, null, boolean, number, string, array, object, Members, no_members, member}
use Rattle.serde_json.specs.Find.{get, get_member}
use Rattle.st_json.specs.Look.{is_listed, keys_listed, has_only}
use Rattle.st_schema.proofs.Forms.{text_same}
use Rattle.st_lemmas.proofs.Bools.{and-true, true-false}

at_other : (o : Ordering) (d : Data) (rest : Option Data) → (o ≡ Equal → ⊥) → rest ≡ None → match_ordering o rest (Some d) rest ≡ None
at_other Less d rest other none = none
at_other Equal d rest other none = absurd (other refl)
at_other Greater d rest other none = none

member-unlisted : (names name : List ℕ) (ms : Members) → is_listed names name ≡ false → keys_listed names ms ≡ true → get_member name ms ≡ None
member-unlisted names name no_members other h = refl
member-unlisted names name (member k d ms) other h =
    let parts = and-true (is_listed names k) (keys_listed names ms) h in
    at_other (slice_cmp nat_cmp name k) d (get_member name ms)
    (λ e. true-false (ap (is_listed names) (same_text e) ∙ parts.0) other) (member-unlisted names name ms other parts.1)
  where
    same_text : slice_cmp nat_cmp name k ≡ Equal → name ≡ k
    same_text e = text_same name k (sym (is_eq-slice_cmp name k) ∙ ap is_eq e)

pub get-unlisted : (names name : List ℕ) (d : Data) → is_listed names name ≡ false → has_only names d ≡ true → get name d ≡ None
get-unlisted names name null other h = refl
get-unlisted names name (boolean b) other h = refl
get-unlisted names name (number n) other h = refl
get-unlisted names name (string s) other h = refl
get-unlisted names name (array ds) other h = refl
get-unlisted names name (object ms) other h = member-unlisted names name ms other h
