-- Lemmas that several crates above need.
use Rattle.std.proofs.Common.{◌≡◌, Some, ℕ, List}
use Rattle.serde_json.specs.Data.{Data, null, boolean, number, string, array, object, Items, Members}
use Rattle.serde_json.specs.Find.{as_array, as_object, as_str}

pub is_array : (d : Data) (ds : Items) → as_array d ≡ Some ds → d ≡ array ds
is_array null ds e = absurd (cc e)
is_array (boolean b) ds e = absurd (cc e)
is_array (number n) ds e = absurd (cc e)
is_array (string s) ds e = absurd (cc e)
is_array (array es) ds e = cc e
is_array (object ms) ds e = absurd (cc e)

pub is_object : (d : Data) (ms : Members) → as_object d ≡ Some ms → d ≡ object ms
is_object null ms e = absurd (cc e)
is_object (boolean b) ms e = absurd (cc e)
is_object (number n) ms e = absurd (cc e)
is_object (string s) ms e = absurd (cc e)
is_object (array es) ms e = absurd (cc e)
is_object (object ns) ms e = cc e

pub is_string : (d : Data) (s : List ℕ) → as_str d ≡ Some s → d ≡ string s
is_string null s e = absurd (cc e)
is_string (boolean b) s e = absurd (cc e)
is_string (number n) s e = absurd (cc e)
is_string (string t) s e = cc e
is_string (array es) s e = absurd (cc e)
is_string (object ms) s e = absurd (cc e)
