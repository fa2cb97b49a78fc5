use Rattle.std.proofs.Common.{cond, None, ap, ◌∙◌}
use Rattle.std.specs.Option.{option_or}
use Rattle.st_marks.specs.Intent.{clears, put_in}
use Rattle.st_doc.proofs.evictions.refill.Goals as goal

pub returns : goal.returns
returns c =
    let N = c.args.intent.now in
    λ f. c.in_ok-fill_all.ensures f ∙ ap (option_or (put_in N f)) (c.clear_all.ensures f ∙ ap (cond (clears N f) None) (c.leave_all.ensures f))
