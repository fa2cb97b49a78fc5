-- The names of an object's members.
use Rattle.std.proofs.Common.{◌≡◌, ℕ, ◌&&◌, List, [], ◌∷◌, map, Some, String, string_bytes, refl, ap}
use Rattle.std.specs.declared.alloc.Global.{Global}
use Rattle.std.specs.List.{list_all}
use Rattle.serde_json.specs.Data.{Data, null, boolean, number, string, array, object, Members}
use Rattle.serde_json.specs.Find.{as_object}
use Rattle.serde_json.specs.View.{members_view}
use Rattle.serde_json.specs.declared.value.Value.{Value}
use Rattle.st_json.specs.Look.{is_listed, keys_listed, has_only}

pub keys_seen : (names : List ℕ) (es : List (String Global × Value)) → list_all (λ (k : String Global). is_listed names (string_bytes k)) (map (λ (e : String Global × Value). e.0) es) ≡ keys_listed names (members_view es)
keys_seen names [] = refl
keys_seen names (e ∷ es) = ap (λ b. is_listed names (string_bytes e.0) && b) (keys_seen names es)

pub object_only : (names : List ℕ) (d : Data) (ms : Members) → Some ms ≡ as_object d → keys_listed names ms ≡ has_only names d
object_only names null ms h = absurd (cc)
object_only names (boolean b) ms h = absurd (cc)
object_only names (number n) ms h = absurd (cc)
object_only names (string s) ms h = absurd (cc)
object_only names (array ds) ms h = absurd (cc)
object_only names (object os) ms h = let same : ms ≡ os = cc in ap (keys_listed names) same
