-- What is looked up in a value, and which names an object may have.
use Rattle.std.specs.Prelude.{ℕ, ◌==◌, nat_eq, List, length, Bool, true, false, not, ◌&&◌, Option, Result, option_map}
use Rattle.std.specs.List.{list_any, slice_split}
use Rattle.std.specs.Option.{ok_or}
use Rattle.std.specs.Cmp.Lexicographic.{pointwise}
use Rattle.serde_json.specs.Data.{Data, null, boolean, number, string, array, object, Members, no_members, member}
use Rattle.serde_json.specs.Find.{as_object, as_array, get_member, get_item}
use Rattle.st_json.specs.declared.fault.Shape.{Shape}

-- the member of an object, or the refusal of what is no object
abbrev pub member_of : List ℕ → Data → Result (Option Data) Shape
member_of name d = ok_or (option_map (get_member name) (as_object d)) (record {})

-- the item of an array, or the refusal of what is no array
abbrev pub item_of : ℕ → Data → Result (Option Data) Shape
item_of place d = ok_or (option_map (get_item place) (as_array d)) (record {})

-- a text is one of the parts that spaces divide
abbrev pub is_part : List ℕ → List ℕ → Bool
is_part parts text = list_any (λ part. pointwise nat_eq part text) (slice_split (λ b. b == 32) parts)

-- a text is one of the names that spaces divide, none of which is empty
abbrev pub is_listed : List ℕ → List ℕ → Bool
is_listed names name = not (length name == 0) && is_part names name

-- each member has one of the names
abbrev pub keys_listed : List ℕ → Members → Bool
keys_listed names no_members = true
keys_listed names (member k d ms) = is_listed names k && keys_listed names ms

-- an object with no members but those of the names
abbrev pub has_only : List ℕ → Data → Bool
has_only names null = false
has_only names (boolean b) = false
has_only names (number n) = false
has_only names (string s) = false
has_only names (array ds) = false
has_only names (object ms) = keys_listed names ms
