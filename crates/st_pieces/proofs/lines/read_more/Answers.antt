use Rattle.st_pieces.specs.inside.Placed.{tail_of}
use Rattle.st_pieces.proofs.Outcomes.{long_tail_told}
use Rattle.st_pieces.proofs.lines.read_more.Goals as goal

pub returns-then-is_tail_long-clause-ended : goal.returns-then-is_tail_long-clause-ended
returns-then-is_tail_long-clause-ended g c = λ s first input old stands r.
    let n = c.args.reading.now.number in
    let start = c.args.reading.now.start in
    let w = g.K.Sink.written c.args.sink.now in
    let over = c.if-is_tail_long.true in
    long_tail_told g.R.Responder.Takes g.R.Responder.Ends g.R.Responder.Finishes g.R.Responder.Fails first input old s (g.S.Source.left c.args.source.now) w
    (g.K.Sink.written c.send_long.new.sink) n start (tail_of c.args.reading.now) c.send_long.result r
    (c.is_tail_long.ensures.some over) c.requires.unended (c.is_tail_long.ensures.long over) c.send_long.ensures.told
