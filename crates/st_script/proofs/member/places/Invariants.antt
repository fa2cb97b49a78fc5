-- the places so far, and then those of what is left
use Rattle.std.proofs.Common.{◌≡◌, ◌++◌, List, length}
use Rattle.std.specs.Option.{option_map}
use Rattle.serde_json.specs.View.{items_view}
use Rattle.st_ids.specs.declared.names.Place.{Place}
use Rattle.st_script.specs.Members.{places_in}
use Rattle.st_script.proofs.member.places.Given as goal

abbrev pub invariant-loop-rest : goal.invariant-loop-rest
invariant-loop-rest l = option_map (λ (ps : List Place). l.path ++ ps) (places_in (items_view l.rest)) ≡ places_in (items_view l.items)

abbrev pub decreases-loop-rest : goal.decreases-loop-rest
decreases-loop-rest l = length l.rest
