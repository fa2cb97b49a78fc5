use Rattle.std.proofs.Common.{◌↔◌, ◌++◌, IsTrue, List, subst}
use Rattle.st_ids.specs.declared.names.NodeId.{NodeId}
use Rattle.st_marks.specs.declared.marks.RegStep.{RegStep}
use Rattle.st_marks.specs.declared.marks.RowMarks.{RowMarks}
use Rattle.st_marks.specs.Agree.{LeadsUp}
use Rattle.st_normal.specs.inside.Links.{links_at, links_in, stands_before, up_by}
use Rattle.st_normal.specs.inside.Ring.{HasRing}
use Rattle.st_marks.specs.Listings.{Places, listing_before_step}
use Rattle.st_normal.proofs.NoRings.{before_step}
use Rattle.st_normal.proofs.Tells.{tells_not}
use Rattle.st_normal.proofs.step_check.no_ring_before.Goals as goal

pub returns : goal.returns
returns c = λ rising once.
    let S = c.args.step.now in
    let R = λ (rows : List RowMarks) (regs : List RegStep). HasRing (up_by (links_in stands_before rows ++ links_at (λ (r : RegStep). r.field) (λ (r : RegStep). r.before) regs)) in
    let a = subst (λ (rows : List RowMarks). IsTrue c.ring_before.result ↔ R rows c.as_slice-2.result.now) c.as_slice.ensures c.ring_before.ensures in
    let b = subst (λ (regs : List RegStep). IsTrue c.ring_before.result ↔ R S.rows regs) c.as_slice-2.ensures a in
    tells_not c.ring_before.result (R S.rows S.regs) ((n : NodeId) → LeadsUp (Places (listing_before_step S)) n n → ⊥) b (before_step S rising once)
