use Rattle.std.proofs.Common.{arith}
use Rattle.st_pieces.proofs.Appending.{appends_on}
use Rattle.st_pieces.proofs.send.write_all.Goals as goal

pub loop-done-preserved : goal.loop-done-preserved
loop-done-preserved g c = record {
  within = omega (arith, c.in_ok-count.ensures.fits, c.loop-done-test.true);
  appended = appends_on _ _ _ c.args.bytes.now c.loop-done.done c.in_ok-count.count c.loop-done.invariant.appended c.in_ok-count.ensures.appends;
  later = omega (arith, c.write.ensures.cause.later);
}
