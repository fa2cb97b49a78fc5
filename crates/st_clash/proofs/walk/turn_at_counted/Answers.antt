use Rattle.std.proofs.Common.{◌<◌, ◌≤◌, arith}
use Rattle.st_clash.proofs.RowWalks.{counted_both}
use Rattle.st_clash.proofs.walk.turn_at_counted.Goals.{then-k-j, else-k-j}
use Rattle.st_clash.proofs.walk.turn_at_counted.Goals as goal

pub returns-after-k-j : goal.returns-after-k-j
returns-after-k-j c vs front =
    let e = rw c.in-Counted.is at front in
    let some : 0 < c.if-k-j.met = elim c.if-k-j.branch [ then-k-j w ↦ omega (arith, w.met-is, c.requires) | else-k-j w ↦ omega (arith, w.met-is, e.0) ] in
    let first : c.if-k-j.met ≤ c.args.k = elim c.if-k-j.branch [ then-k-j w ↦ omega (arith, w.met-is) | else-k-j w ↦ omega (arith, w.met-is, w.if-k-j.false) ] in
    let second : c.if-k-j.met ≤ c.in-Counted.j = elim c.if-k-j.branch [ then-k-j w ↦ omega (arith, w.met-is, w.if-k-j.true) | else-k-j w ↦ omega (arith, w.met-is) ] in
    counted_both c.args.k c.in-Counted.j c.if-k-j.met c.args.xs.now c.in-Counted.ys.now vs some first second e.1
