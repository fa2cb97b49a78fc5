-- An object whose members have some names is that of these names and its values.
use Rattle.std.proofs.Common.{◌≡◌, ℕ, Bool, true, false, List, [], ◌∷◌, refl, ap}
use Rattle.std.specs.Prelude.{if◌then◌else◌}
use Rattle.serde_json.specs.Data.{Data, null, boolean, number, string, array, object, Members, no_members, member}
use Rattle.st_schema.specs.Schema.{same}
use Rattle.st_schema.proofs.Forms.{text_same}
use Rattle.st_mark_reader.specs.Reading.{has_names, is_named}

abbrev pub first : List Data → Data
first [] = null
first (d ∷ ds) = d

abbrev pub later : List Data → List Data
later [] = []
later (d ∷ ds) = ds

-- the members of these names and values
abbrev pub with_names : List (List ℕ) → List Data → Members
with_names [] ds = no_members
with_names (name ∷ names) ds = member name (first ds) (with_names names (later ds))

abbrev values : Members → List Data
values no_members = []
values (member k d ms) = d ∷ values ms

both : (b : Bool) (c : Bool) → (if b then c else false) ≡ true → (b ≡ true) × (c ≡ true)
both true c e = (refl, e)
both false c e = absurd (cc)

named_members : (names : List (List ℕ)) (ms : Members) → has_names names ms ≡ true → ms ≡ with_names names (values ms)
named_members [] no_members e = refl
named_members [] (member k d ms) e = absurd (cc)
named_members (name ∷ names) no_members e = absurd (cc)
named_members (name ∷ names) (member k d ms) e =
    let p = both (same k name) (has_names names ms) e in
    λ i. member (text_same k name p.0 i) d (named_members names ms p.1 i)

pub named_object : (names : List (List ℕ)) (d : Data) → is_named names d ≡ true → (ds : List Data) × (d ≡ object (with_names names ds))
named_object names null e = absurd (cc)
named_object names (boolean b) e = absurd (cc)
named_object names (number x) e = absurd (cc)
named_object names (string s) e = absurd (cc)
named_object names (array ds) e = absurd (cc)
named_object names (object ms) e = (values ms, ap object (named_members names ms e))
