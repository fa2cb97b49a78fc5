-- The causes of a refusal have no floating-point number.
use Rattle.std.proofs.Common.{◌≡◌, false, List, [], ◌∷◌, map, refl}
use Rattle.serde_json.specs.View.{items_of}
use Rattle.serde_json.specs.Written.{has_float, items_have_float}
use Rattle.st_compat.specs.RelationText.{cause_data, refuse_data}
use Rattle.st_compat.specs.declared.relation.Cause.{Cause}

causes_plain : (causes : List Cause) → items_have_float (items_of (map cause_data causes)) ≡ false
causes_plain [] = refl
causes_plain (c ∷ cs) = causes_plain cs

pub refusal_plain : (causes : List Cause) → has_float (refuse_data causes) ≡ false
refusal_plain causes = rw (causes_plain causes) refl
