use Rattle.std.proofs.Common.{arith}
use Rattle.st_script.specs.Steps.{step_view}
use Rattle.st_script.specs.declared.answer.Answer.TheVariants as answer
use Rattle.st_run.proofs.Loads.{making_done, making_first, making_goes, making_never, making_on}
use Rattle.st_run.proofs.work.until.Goals as goal

pub making-init : goal.making-init
making-init c = record { so_far = making_first c.args.world.now (step_view c.args.step.now) (answer.No c.args.last); within = omega arith }

pub turn-requires-clause-goes : goal.turn-requires-clause-goes
turn-requires-clause-goes c =
    making_goes c.args.world.now c.making.world (step_view c.args.step.now) (answer.No c.args.last) c.making.turns c.making.invariant.so_far c.making-test.true c.requires.ends

pub returns-then-branch : goal.returns-then-branch
returns-then-branch c =
    making_done c.args.world.now c.making.world c.turn.new.world (step_view c.args.step.now) (answer.No c.args.last) c.making.turns c.in_ok-turn.field-0 c.making.invariant.so_far c.making-test.true c.in_ok-turn.ensures c.if-branch.true

pub making-preserved : goal.making-preserved
making-preserved c =
    let few = c.making-test.true in
    record {
      so_far = making_on c.args.world.now c.making.world c.turn.new.world (step_view c.args.step.now) (answer.No c.args.last) c.making.turns c.in_ok-turn.field-0 c.making.invariant.so_far c.in_ok-turn.ensures c.if-branch.false;
      within = omega (arith, few);
    }

pub unreachable-requires : goal.unreachable-requires
unreachable-requires c =
    making_never c.args.world.now c.making.world (step_view c.args.step.now) (answer.No c.args.last) c.making.turns c.making.invariant.so_far c.making-test.false c.requires.ends
