use Rattle.std.proofs.Common.{sym, subst}
use Rattle.std.specs.Prelude.{OnOk}
use Rattle.st_join_parts.specs.inside.Clashes.{AddsInTurn, StepsRise}
use Rattle.st_join_parts.proofs.clashes.push_behind.Goals as goal

pub push_ruled-requires : goal.push_ruled-requires
push_ruled-requires c = subst (StepsRise c.args.first.now) (sym c.in_ok-right.ensures) c.requires

pub returns : goal.returns
returns c = subst (λ T. OnOk c.push_ruled.result (AddsInTurn c.args.first.now T c.args.found.now c.push_ruled.new.found)) c.in_ok-right.ensures c.push_ruled.ensures
