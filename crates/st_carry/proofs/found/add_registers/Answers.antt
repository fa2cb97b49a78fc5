use Rattle.std.proofs.Common.{◌||◌, sym, ap, ◌∙◌}
use Rattle.std.specs.BTreeSet.{contains}
use Rattle.st_ids.specs.Order.{node_cmp}
use Rattle.st_lemmas.proofs.Bools.{or-false}
use Rattle.st_marks.specs.declared.marks.RegStep.{RegStep}
use Rattle.st_marks.specs.Embedding.{is_among}
use Rattle.st_marks.specs.Listings.{one_or_none}
use Rattle.st_climb.proofs.GrownSets.{added_more}
use Rattle.st_carry.specs.inside.Standing.{held_by}
use Rattle.st_carry.proofs.found.add_registers.Goals as goal

pub loop-reg-init : goal.loop-reg-init
loop-reg-init c = λ n. sym (or-false (contains node_cmp c.args.set.now n))

pub loop-reg-preserved : goal.loop-reg-preserved
loop-reg-preserved c = λ n.
    added_more (λ (r : RegStep). one_or_none (held_by c.args.after r)) (contains node_cmp c.args.set.now n) (contains node_cmp c.loop-reg.set n) (contains node_cmp c.add_one.new.set n) n
    c.args.regs.now c.loop-reg.reg-index c.reg-item.result c.reg-item.result c.loop-reg-test.true (sym c.reg-item.is)
    (c.loop-reg.invariant n) (c.in_ok-add_one.ensures n ∙ ap (λ o. contains node_cmp c.loop-reg.set n || is_among (one_or_none o) n) c.held_by.ensures)
