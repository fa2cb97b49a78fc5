use Rattle.std.proofs.Common.{◌≡◌, Bool, true, false}
use Rattle.st_normal.proofs.AboveItself.{all_gone}
use Rattle.st_normal.proofs.rings.scan_ring.Goals as goal

pub returns : goal.returns
returns g c = (λ e. let bad : ◌≡◌ {A = Bool} false true = e in cc, λ r. absurd (all_gone (g.H.Hangs.up c.args.hangs.now) (g.H.Hangs.nodes c.args.hangs.now) (g.H.Hangs.rest c.args.hangs.now c.nodes.place) c.requires c.in_default.ensures c.nodes.invariant r))
