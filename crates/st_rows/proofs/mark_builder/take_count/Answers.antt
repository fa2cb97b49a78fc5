use Rattle.std.proofs.Common.{length, ◌-◌, sym, ap, ◌∙◌}
use Rattle.std.specs.Prelude.{slice_get}
use Rattle.st_rows.proofs.MergedMarks.{counted_taken, none_taken, none_there}
use Rattle.st_rows.proofs.mark_builder.take_count.Goals as goal

pub returns-in-None-clause-more : goal.returns-in-None-clause-more
returns-in-None-clause-more c = none_there c.args.out.now (ap (λ l. slice_get l (length l - 1)) (sym c.as_slice.ensures) ∙ sym c.last.ensures.value ∙ sym c.copied.ensures ∙ c.in-None.is)

pub returns-in-None-count_of-clause-more : goal.returns-in-None-count_of-clause-more
returns-in-None-count_of-clause-more c = none_taken c.args.out.now c.in-Some.mark c.requires (ap (λ l. slice_get l (length l - 1)) (sym c.as_slice.ensures) ∙ sym c.last.ensures.value ∙ sym c.copied.ensures ∙ c.in-Some.is) (sym c.count_of.ensures ∙ c.in-None-count_of.is)

pub returns-in-Some-count_of-clause-cells : goal.returns-in-Some-count_of-clause-cells
returns-in-Some-count_of-clause-cells c = (counted_taken c.args.out.now c.pop.new.self c.in-Some.mark c.in-Some-count_of.k c.requires (ap (λ l. slice_get l (length l - 1)) (sym c.as_slice.ensures) ∙ sym c.last.ensures.value ∙ sym c.copied.ensures ∙ c.in-Some.is) (sym c.count_of.ensures ∙ c.in-Some-count_of.is) c.pop.ensures.front).0

pub returns-in-Some-count_of-clause-more : goal.returns-in-Some-count_of-clause-more
returns-in-Some-count_of-clause-more c = (counted_taken c.args.out.now c.pop.new.self c.in-Some.mark c.in-Some-count_of.k c.requires (ap (λ l. slice_get l (length l - 1)) (sym c.as_slice.ensures) ∙ sym c.last.ensures.value ∙ sym c.copied.ensures ∙ c.in-Some.is) (sym c.count_of.ensures ∙ c.in-Some-count_of.is) c.pop.ensures.front).1
