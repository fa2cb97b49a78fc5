use Rattle.std.proofs.Common.{get_or, refl, sym}
use Rattle.std.specs.BTreeSet.{contains}
use Rattle.st_ids.specs.Order.{node_cmp}
use Rattle.st_lemmas.proofs.Bools.{or-false}
use Rattle.st_marks.specs.declared.marks.Loose.{Loose}
use Rattle.st_climb.proofs.GrownSets.{added_mapped}
use Rattle.st_puts.proofs.Firsts.{no_loose}
use Rattle.st_carry.proofs.found.add_loose.Goals as goal

pub loop-one-init : goal.loop-one-init
loop-one-init c = λ n. sym (or-false (contains node_cmp c.args.set.now n))

pub loop-one-preserved : goal.loop-one-preserved
loop-one-preserved c = λ n.
    added_mapped (λ (l : Loose). l.node) (contains node_cmp c.args.set.now n) (contains node_cmp c.loop-one.set n) (contains node_cmp c.add_one.new.set n) n
    c.args.loose.now c.loop-one.one-index no_loose (get_or c.args.loose.now c.loop-one.one-index no_loose) c.loop-one-test.true refl
    (c.loop-one.invariant n) (c.in_ok-add_one.ensures n)
