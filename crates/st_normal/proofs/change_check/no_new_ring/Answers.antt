use Rattle.std.proofs.Common.{◌↔◌, ◌++◌, IsTrue, List, subst}
use Rattle.std.specs.List.{filter}
use Rattle.st_marks.specs.declared.marks.RegMark.{RegMark}
use Rattle.st_marks.specs.declared.marks.RowMarks.{RowMarks}
use Rattle.st_normal.specs.inside.Links.{are_new, links_at, links_in, stands_after, up_by}
use Rattle.st_normal.specs.inside.Ring.{HasRing}
use Rattle.st_normal.specs.Rules.{NoRingOfNewNodes}
use Rattle.st_marks.specs.Listings.{held_after, nodes_new}
use Rattle.st_normal.proofs.NoRings.{new_in_new}
use Rattle.st_normal.proofs.Tells.{tells_not}
use Rattle.st_normal.proofs.change_check.no_new_ring.Goals as goal

pub returns : goal.returns
returns c = λ rising once put_once leave unknown.
    let C = c.args.look.now.lists.0.now in
    let R = λ (rows : List RowMarks) (regs : List RegMark). HasRing (up_by (filter (are_new (nodes_new C.new)) (links_in stands_after rows ++ links_at (λ (r : RegMark). r.field) held_after regs))) in
    let a = subst (λ (rows : List RowMarks). IsTrue c.ring_of_new.result ↔ R rows c.as_slice-2.result.now) c.as_slice.ensures c.ring_of_new.ensures in
    let b = subst (λ (regs : List RegMark). IsTrue c.ring_of_new.result ↔ R C.rows regs) c.as_slice-2.ensures a in
    tells_not c.ring_of_new.result (R C.rows C.regs) (NoRingOfNewNodes C) b (new_in_new C rising once put_once leave unknown)
