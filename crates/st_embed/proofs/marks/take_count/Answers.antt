use Rattle.std.proofs.Common.{length, ◌-◌, sym, ap, ◌∙◌}
use Rattle.std.specs.Prelude.{slice_get}
use Rattle.st_embed.proofs.Marking.{count_end, none_end}
use Rattle.st_embed.proofs.marks.take_count.Goals as goal

pub returns-in-None-count_in-clause-marks : goal.returns-in-None-count_in-clause-marks
returns-in-None-count_in-clause-marks c =
    none_end c.args.marks.now c.in-Some.mark (ap (λ l. slice_get l (length l - 1)) (sym c.as_slice.ensures) ∙ sym c.last.ensures.value ∙ sym c.copied.ensures ∙ c.in-Some.is)
    (sym c.count_in.ensures ∙ c.in-None-count_in.is)

pub returns-in-Some-count_in-clause-marks : goal.returns-in-Some-count_in-clause-marks
returns-in-Some-count_in-clause-marks c =
    count_end c.args.marks.now c.pop.new.self c.in-Some.mark c.in-Some-count_in.k
    (ap (λ l. slice_get l (length l - 1)) (sym c.as_slice.ensures) ∙ sym c.last.ensures.value ∙ sym c.copied.ensures ∙ c.in-Some.is)
    (sym c.count_in.ensures ∙ c.in-Some-count_in.is) c.pop.ensures.front
