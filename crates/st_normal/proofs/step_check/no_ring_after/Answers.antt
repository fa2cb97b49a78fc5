use Rattle.std.proofs.Common.{◌↔◌, ◌++◌, IsTrue, List, subst}
use Rattle.st_ids.specs.declared.names.NodeId.{NodeId}
use Rattle.st_marks.specs.declared.marks.RegStep.{RegStep}
use Rattle.st_marks.specs.declared.marks.RowMarks.{RowMarks}
use Rattle.st_marks.specs.Agree.{LeadsUp}
use Rattle.st_normal.specs.inside.Links.{links_at, links_in, stands_after, up_by}
use Rattle.st_normal.specs.inside.Ring.{HasRing}
use Rattle.st_marks.specs.Listings.{Places, listing_after_step}
use Rattle.st_normal.proofs.NoRings.{after_step}
use Rattle.st_normal.proofs.Tells.{tells_not}
use Rattle.st_normal.proofs.step_check.no_ring_after.Goals as goal

pub returns : goal.returns
returns c = λ rising once put_once leave unknown.
    let S = c.args.step.now in
    let R = λ (rows : List RowMarks) (regs : List RegStep). HasRing (up_by (links_in stands_after rows ++ links_at (λ (r : RegStep). r.field) (λ (r : RegStep). r.after) regs)) in
    let a = subst (λ (rows : List RowMarks). IsTrue c.ring_after.result ↔ R rows c.as_slice-2.result.now) c.as_slice.ensures c.ring_after.ensures in
    let b = subst (λ (regs : List RegStep). IsTrue c.ring_after.result ↔ R S.rows regs) c.as_slice-2.ensures a in
    tells_not c.ring_after.result (R S.rows S.regs) ((n : NodeId) → LeadsUp (Places (listing_after_step S)) n n → ⊥) b (after_step S rising once put_once leave unknown)
