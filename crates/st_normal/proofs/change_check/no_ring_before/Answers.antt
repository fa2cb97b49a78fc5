use Rattle.std.proofs.Common.{◌↔◌, ◌++◌, IsTrue, List, subst}
use Rattle.st_marks.specs.declared.marks.RegMark.{RegMark}
use Rattle.st_marks.specs.declared.marks.RowMarks.{RowMarks}
use Rattle.st_normal.specs.inside.Links.{links_at, links_in, stands_before, up_by}
use Rattle.st_normal.specs.inside.Ring.{HasRing}
use Rattle.st_normal.specs.Rules.{NoRingBeforeChange}
use Rattle.st_normal.proofs.NoRings.{before_change}
use Rattle.st_normal.proofs.Tells.{tells_not}
use Rattle.st_normal.proofs.change_check.no_ring_before.Goals as goal

pub returns : goal.returns
returns c = λ rising once.
    let C = c.args.change.now in
    let R = λ (rows : List RowMarks) (regs : List RegMark). HasRing (up_by (links_in stands_before rows ++ links_at (λ (r : RegMark). r.field) (λ (r : RegMark). r.held) regs)) in
    let a = subst (λ (rows : List RowMarks). IsTrue c.ring_before.result ↔ R rows c.as_slice-2.result.now) c.as_slice.ensures c.ring_before.ensures in
    let b = subst (λ (regs : List RegMark). IsTrue c.ring_before.result ↔ R C.rows regs) c.as_slice-2.ensures a in
    tells_not c.ring_before.result (R C.rows C.regs) (NoRingBeforeChange C) b (before_change C rising once)
