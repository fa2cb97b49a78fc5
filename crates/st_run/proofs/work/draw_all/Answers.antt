use Rattle.std.proofs.Common.{◌≡◌, ◌+◌, ap, arith}
use Rattle.st_work.specs.declared.work.Work.{Work}
use Rattle.st_run.proofs.Loads.{drawing_done, drawing_first, drawing_goes, drawing_on}
use Rattle.st_run.proofs.work.draw_all.Goals as goal

pub drawing-init : goal.drawing-init
drawing-init c =
    let none : c.new-work.result.made ≡ 0 = ap (λ (g : Work). g.made) c.new-work.ensures in
    record {
      so_far = drawing_first c.args.world.now c.args.seed c.args.steps c.new-work.result c.new-work.ensures;
      few = omega arith;
      within = omega (arith, none);
    }

pub draw_one-requires-clause-goes : goal.draw_one-requires-clause-goes
draw_one-requires-clause-goes c =
    drawing_goes c.args.world.now c.drawing.world c.args.seed c.args.steps c.drawing.work c.drawing.refused c.drawing.invariant.so_far c.drawing-test.true c.requires.few c.requires.under

pub drawing-preserved : goal.drawing-preserved
drawing-preserved c =
    let before = c.drawing.invariant.few in
    let one = c.in_ok-refused.ensures.few in
    let more = c.drawing-test.true in
    let next : c.draw_one.new.work.made ≡ c.drawing.work.made + 1 = ap (λ (g : Work). g.made) c.in_ok-refused.ensures.after in
    record {
      so_far = drawing_on c.args.world.now c.drawing.world c.draw_one.new.world c.args.seed c.args.steps c.drawing.work c.draw_one.new.work c.drawing.refused c.in_ok-refused.field-0 c.drawing.invariant.so_far c.drawing-test.true
          c.in_ok-refused.ensures.after c.in_ok-refused.ensures.made;
      few = omega (arith, before, one, next);
      within = omega (arith, more, next);
    }

pub returns : goal.returns
returns c =
    let whole = c.drawing-test.false in
    let within = c.drawing.invariant.within in
    drawing_done c.args.world.now c.drawing.world c.args.seed c.args.steps c.drawing.work c.drawing.refused c.drawing.invariant.so_far (omega (arith, whole, within))
