use Rattle.std.proofs.Common.{arith}
use Rattle.serde_json.specs.View.{items_view}
use Rattle.st_script.specs.Members.{places_in}
use Rattle.st_script.proofs.Places.{odd_end}
use Rattle.st_script.proofs.member.places.Goals as goal

pub returns-in_default-rest : goal.returns-in_default-rest
returns-in_default-rest c =
    odd_end c.loop-rest.path c.loop-rest.rest.now (places_in (items_view c.args.items.now)) (grind (arith, c.in_default-rest.len_at_least)) (grind (arith, c.in_default.len_below)) c.loop-rest.invariant
