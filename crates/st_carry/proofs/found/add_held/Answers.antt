use Rattle.std.proofs.Common.{sym}
use Rattle.std.specs.BTreeSet.{contains}
use Rattle.st_ids.specs.Order.{node_cmp}
use Rattle.st_lemmas.proofs.Bools.{or-false}
use Rattle.st_marks.specs.declared.marks.RegMark.{RegMark}
use Rattle.st_marks.specs.Listings.{one_or_none}
use Rattle.st_climb.proofs.GrownSets.{added_more}
use Rattle.st_carry.proofs.found.add_held.Goals as goal

pub loop-reg-init : goal.loop-reg-init
loop-reg-init c = λ n. sym (or-false (contains node_cmp c.args.set.now n))

pub loop-reg-preserved : goal.loop-reg-preserved
loop-reg-preserved c = λ n.
    added_more (λ (r : RegMark). one_or_none r.held) (contains node_cmp c.args.set.now n) (contains node_cmp c.loop-reg.set n) (contains node_cmp c.add_one.new.set n) n
    c.args.regs.now c.loop-reg.reg-index c.reg-item.result c.reg-item.result c.loop-reg-test.true (sym c.reg-item.is)
    (c.loop-reg.invariant n) (c.in_ok-add_one.ensures n)
