-- The order of an object's members.
use Rattle.std.specs.Prelude.{ℕ, List, Bool, true, IsTrue, ⊤}
use Rattle.std.specs.Ordering.{nat_cmp, is_lt}
use Rattle.std.specs.Cmp.Lexicographic.{slice_cmp}
use Rattle.serde_json.specs.Data.{Data, null, boolean, number, string, array, object, Items, no_items, item, Members, no_members, member}

-- a name stands before the first member's, in byte order
abbrev pub is_before : List ℕ → Members → Bool
is_before k no_members = true
is_before k (member l d ms) = is_lt (slice_cmp nat_cmp k l)

-- in each object of the value the names rise in byte order
abbrev mutual
  pub NamesRise : Data → Type 0
  NamesRise null = ⊤
  NamesRise (boolean b) = ⊤
  NamesRise (number n) = ⊤
  NamesRise (string s) = ⊤
  NamesRise (array ds) = ItemsRise ds
  NamesRise (object ms) = MembersRise ms

  pub ItemsRise : Items → Type 0
  ItemsRise no_items = ⊤
  ItemsRise (item d ds) = NamesRise d × ItemsRise ds

  pub MembersRise : Members → Type 0
  MembersRise no_members = ⊤
  MembersRise (member k d ms) = IsTrue (is_before k ms) × NamesRise d × MembersRise ms
