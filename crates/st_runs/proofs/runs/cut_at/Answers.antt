use Rattle.std.proofs.Common.{arith}
use Rattle.st_runs.proofs.Cutting.{runs_apart, runs_cut}
use Rattle.st_runs.proofs.runs.cut_at.Goals as goal
use Rattle.st_runs.proofs.runs.cut_at.Goals.{then-at-gt0+in_ok-push, else-at-gt0}

pub returns-clause-whole : goal.returns-clause-whole
returns-clause-whole g c = elim c.if-at-gt0.branch [
  | then-at-gt0+in_ok-push w ↦ rw (w.runs-is, w.rest-is)
      (runs_cut g.R.Run.items c.args.runs.now.items c.split_off.new.self.items c.in_ok-rest.rest.items w.push.new.self.items
      w.cut_first-front.new.runs.items w.cut_first-front.result c.args.at.run c.in_ok-rest.ensures.items c.in_ok-rest.ensures.tail
      w.cut_first-front.ensures.whole w.in_ok-push.ensures.items)
  | else-at-gt0 w ↦ rw (w.runs-is, w.rest-is)
      (runs_apart g.R.Run.items c.args.runs.now.items c.split_off.new.self.items c.in_ok-rest.rest.items c.args.at.run
      c.in_ok-rest.ensures.items c.in_ok-rest.ensures.tail)
]

pub returns-clause-len : goal.returns-clause-len
returns-clause-len g c = elim c.if-at-gt0.branch [
  | then-at-gt0+in_ok-push w ↦ rw (w.runs-is, w.rest-is)
      (omega (arith, w.in_ok-push.ensures.len, w.cut_first-front.ensures.len, c.in_ok-rest.ensures.len, c.in_ok-rest.ensures.tail_len))
  | else-at-gt0 w ↦ rw (w.runs-is, w.rest-is) (omega (arith, c.in_ok-rest.ensures.len, c.in_ok-rest.ensures.tail_len))
]
