use Rattle.std.proofs.Common.{sym, subst}
use Rattle.std.specs.Prelude.{OnOk}
use Rattle.st_marks.specs.declared.steps.Step.{Step}
use Rattle.st_part_rings.specs.Told.{step_of}
use Rattle.st_join_parts.specs.inside.Clashes.{AddsInTurn, StepsRise}
use Rattle.st_join_parts.proofs.Rules.{steps_rise}
use Rattle.st_join_parts.proofs.clashes.push_told.Goals as goal

pub push_behind-requires : goal.push_behind-requires
push_behind-requires c = subst (λ (S : Step). StepsRise S (step_of c.args.then.now)) (sym c.in_ok-left.ensures) (steps_rise c.args.first.now c.args.then.now c.requires)

pub returns : goal.returns
returns c = subst (λ S. OnOk c.push_behind.result (AddsInTurn S (step_of c.args.then.now) c.args.found.now c.push_behind.new.found)) c.in_ok-left.ensures c.push_behind.ensures
