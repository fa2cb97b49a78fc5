-- A key without an index is no path.
use Rattle.std.proofs.Common.{◌≡◌, ◌<◌, List, [], ◌∷◌, ◌++◌, length, Option, None, arith}
use Rattle.std.specs.Option.{option_map}
use Rattle.serde_json.specs.View.{items_view}
use Rattle.serde_json.specs.declared.value.Value.{Value}
use Rattle.st_ids.specs.declared.names.Place.{Place}
use Rattle.st_script.specs.Members.{places_in}

pub odd_end : (front : List Place) (vs : List Value) (all : Option (List Place)) → 0 < length vs → length vs < 2 → option_map (λ (ps : List Place). front ++ ps) (places_in (items_view vs)) ≡ all → None ≡ all
odd_end front [] all some few is = absurd (omega arith)
odd_end front (v ∷ []) all some few is = is
odd_end front (v ∷ w ∷ vs) all some few is = absurd (omega arith)
