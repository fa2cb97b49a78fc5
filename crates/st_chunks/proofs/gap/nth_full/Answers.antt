use Rattle.std.proofs.Common.{◌≡◌, ◌≤◌, ap, sym, ◌∙◌, subst, arith}
use Rattle.st_chunks.specs.Slots.{count_full, one_if}
use Rattle.st_chunks.proofs.Counting.{at_most_one}
use Rattle.st_chunks.proofs.Found.{not_past}
use Rattle.st_chunks.proofs.Walks.{full_past, not_yet, one_more}
use Rattle.st_chunks.proofs.gap.nth_full.Goals as goal
use Rattle.st_chunks.proofs.gap.nth_full.Goals.{else-slot-via-then-slot+else-before-index, else-slot-via-else-slot}

pub returns-then-before-index-clause-range : goal.returns-then-before-index-clause-range
returns-then-before-index-clause-range c =
    not_past (count_full c.args.slots.now) c.args.index (full_past _ c.args.slots.now c.loop-i.i c.args.index c.loop-i-test.true c.if-slot.true (sym c.loop-i.invariant.counted ∙ c.if-before-index.true))

pub loop-i-preserved : goal.loop-i-preserved
loop-i-preserved c = record {
  counted = one_more _ c.args.slots.now c.loop-i.i c.loop-i.before c.from-before.result c.loop-i-test.true c.loop-i.invariant.counted (c.from-before.ensures ∙ c.one_if.ensures);
  within = elim c.else-slot.branch [
    | else-slot-via-then-slot+else-before-index w ↦ (
        let s : c.from-before.result ≤ 1 = subst (λ n. n ≤ 1) (sym (c.from-before.ensures ∙ c.one_if.ensures)) (at_most_one _) in
        not_yet c.loop-i.before c.args.index c.from-before.result c.loop-i.invariant.within w.if-before-index.false s)
    | else-slot-via-else-slot w ↦ (
        let z : c.from-before.result ≡ 0 = c.from-before.ensures ∙ c.one_if.ensures ∙ ap one_if w.if-slot.false in
        omega (arith, z, c.loop-i.invariant.within))
  ];
}
