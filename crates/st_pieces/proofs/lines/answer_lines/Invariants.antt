-- the lines before what was read and isn't answered are answered
use Rattle.std.proofs.Common.{◌≤◌, ◌≡◌, vec_len}
use Rattle.st_pieces.specs.inside.Placed.{IsPlaced, tail_of, turns_left}
use Rattle.st_pieces.specs.inside.Reached.{IsReached}
use Rattle.st_pieces.proofs.lines.answer_lines.Given as goal

abbrev pub invariant-turns : goal.invariant-turns
invariant-turns g l = record {
  stands : (s : g.R.Responder.State) × g.R.Responder.Stands l.responder l.reading.number s;
  reached : (first : g.R.Responder.State) → g.R.Responder.Stands l.initial.responder 1 first
      → (s : g.R.Responder.State) × g.R.Responder.Stands l.responder l.reading.number s × IsReached g.R.Responder.Takes first (g.S.Source.left l.initial.source) (g.K.Sink.written l.initial.sink)
      s (g.S.Source.left l.source) (g.K.Sink.written l.sink) l.reading.number l.reading.start (tail_of l.reading);
  piece : vec_len l.piece ≡ 65536;
  placed : IsPlaced l.reading;
  read_later : g.S.Source.faults l.initial.source ≤ g.S.Source.faults l.source;
  later : g.K.Sink.faults l.initial.sink ≤ g.K.Sink.faults l.sink;
}

abbrev pub decreases-turns : goal.decreases-turns
decreases-turns g l = turns_left l.reading
