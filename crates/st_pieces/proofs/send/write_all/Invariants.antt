-- the front of the piece was written
use Rattle.std.proofs.Common.{◌-◌, ◌≤◌, length, take}
use Rattle.st_io.specs.Bytes.{Appends}
use Rattle.st_pieces.proofs.send.write_all.Given as goal

abbrev pub invariant-loop-done : goal.invariant-loop-done
invariant-loop-done g l = record {
  within : l.done ≤ length l.bytes;
  appended : Appends (g.K.Sink.written l.initial.sink) (take l.done l.bytes) (g.K.Sink.written l.sink);
  later : g.K.Sink.faults l.initial.sink ≤ g.K.Sink.faults l.sink;
}

abbrev pub decreases-loop-done : goal.decreases-loop-done
decreases-loop-done g l = length l.initial.bytes - l.done
