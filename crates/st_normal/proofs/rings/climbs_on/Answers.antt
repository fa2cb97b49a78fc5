use Rattle.std.proofs.Common.{sym, suc}
use Rattle.st_marks.proofs.Climb.{climb_end, climb_more}
use Rattle.st_normal.proofs.AboveItself.{ends_below, goes_on, one_further}
use Rattle.st_normal.proofs.rings.climbs_on.Goals as goal

pub returns-in_default-next-clause-ring : goal.returns-in_default-next-clause-ring
returns-in_default-next-clause-ring g c = λ _. goes_on (g.H.Hangs.up c.args.hangs.now) (g.H.Hangs.nodes c.args.hangs.now) (g.H.Hangs.rest c.args.hangs.now c.climb.place) c.requires c.in_default-next.ensures
    c.climb.invariant.0 c.args.start c.climb.here c.in-Some.above c.climb.invariant.1 c.climb.invariant.2 c.in-Some.ensures

pub climb-preserved : goal.climb-preserved
climb-preserved g c = (
  suc c.climb.invariant.0,
  one_further c.climb.invariant.0 _ (g.H.Hangs.rest c.args.hangs.now c.climb.place) _ _ c.in-Some-next.ensures c.climb.invariant.1,
  climb_more (g.H.Hangs.up c.args.hangs.now) c.climb.invariant.0 c.args.start c.climb.here c.in-Some.above c.climb.invariant.2 (sym c.in-Some.ensures),
)

pub returns-clause-ends : goal.returns-clause-ends
returns-clause-ends g c = λ _. ends_below (g.H.Hangs.up c.args.hangs.now) c.climb.invariant.0 c.args.start c.climb.here c.climb.invariant.2 (climb_end (g.H.Hangs.up c.args.hangs.now) c.climb.here (sym c.in_default.ensures))
