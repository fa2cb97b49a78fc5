-- Values in which each number that is told as negative is so, as in each that is read of a text.
use Rattle.std.specs.Prelude.{pos, negsuc}
use Rattle.serde_json.specs.Data.{Num, unsigned, negative, float, Data, null, boolean, number, string, array, object, Items, no_items, item, Members, no_members, member}

abbrev pub IsSigned : Num → Type 0
IsSigned (unsigned n) = Unit {0}
IsSigned (negative (pos n)) = ⊥
IsSigned (negative (negsuc n)) = Unit {0}
IsSigned (float x) = Unit {0}

abbrev mutual
  pub NumbersAreSigned : Data → Type 0
  NumbersAreSigned null = Unit {0}
  NumbersAreSigned (boolean b) = Unit {0}
  NumbersAreSigned (number x) = IsSigned x
  NumbersAreSigned (string s) = Unit {0}
  NumbersAreSigned (array ds) = ItemsAreSigned ds
  NumbersAreSigned (object ms) = MembersAreSigned ms

  pub ItemsAreSigned : Items → Type 0
  ItemsAreSigned no_items = Unit {0}
  ItemsAreSigned (item d ds) = NumbersAreSigned d × ItemsAreSigned ds

  pub MembersAreSigned : Members → Type 0
  MembersAreSigned no_members = Unit {0}
  MembersAreSigned (member k d ms) = NumbersAreSigned d × MembersAreSigned ms
