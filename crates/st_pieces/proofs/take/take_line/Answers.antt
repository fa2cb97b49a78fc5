use Rattle.std.proofs.Common.{◌+◌}
use Rattle.std.proofs.lemmas.Result.{IfErr-weaker, on_ok_weaker}
use Rattle.st_pieces.specs.inside.Sent.{IsReplyEnd}
use Rattle.st_pieces.proofs.Replies.{reply_ended, reply_stands}
use Rattle.st_pieces.proofs.take.take_line.Goals as goal

pub returns-in-Ok-clause-ended : goal.returns-in-Ok-clause-ended
returns-in-Ok-clause-ended g c =
    let n = c.args.number in
    let line = c.args.line.now in
    let old = g.K.Sink.written c.args.sink.now in
    let new = g.K.Sink.written c.send_reply.new.sink in
    IfErr-weaker c.send_reply.result (λ o. IsReplyEnd c.in-Ok.reply n old new o) _
    (λ o h s stands. reply_ended (g.R.Responder.Takes s n line) (g.R.Responder.Ends s n line) (g.R.Responder.Stands c.take.new.self (n + 1))
    c.in-Ok.reply n old new o (c.in-Ok.ensures s stands) h) c.send_reply.ensures.ended

pub returns-in-Ok-clause-stands : goal.returns-in-Ok-clause-stands
returns-in-Ok-clause-stands g c =
    let n = c.args.number in
    let line = c.args.line.now in
    on_ok_weaker c.send_reply.result
    (λ h. reply_stands (g.R.Responder.Takes c.requires.stands.0 n line) (g.R.Responder.Ends c.requires.stands.0 n line) (g.R.Responder.Stands c.take.new.self (n + 1))
    c.in-Ok.reply (g.K.Sink.written c.args.sink.now) (g.K.Sink.written c.send_reply.new.sink) (c.in-Ok.ensures c.requires.stands.0 c.requires.stands.1) h) c.send_reply.ensures.goes
