use Rattle.std.proofs.Common.{◌≡◌, rules, true, false, take, ℕ, ◌+◌, ◌-◌, length, List, subst, drop, drop-drop}
use Rattle.st_pieces.proofs.Cutting.{feed_length}
use Rattle.st_pieces.specs.Lines.{is_long, line_of}
use Rattle.st_pieces.specs.inside.Sent.{IsAnswerTo, IsLineEnd}
use Rattle.st_pieces.specs.inside.Placed.{tail_of}
use Rattle.st_pieces.specs.inside.Reached.{IsReached}
use Rattle.st_pieces.proofs.Outcomes.{line_ended, line_goes, long_told}
use Rattle.st_pieces.proofs.take.take_whole.Goals as goal

pub returns-then-is_long-clause-ended : goal.returns-then-is_long-clause-ended
returns-then-is_long-clause-ended g c = λ s first input old left stands r.
    let tail = tail_of c.args.reading.now in
    let long : is_long c.args.reading.now.number c.args.reading.now.start (line_of (take c.args.at tail) 1) ≡ true = search rules in
    long_told g.R.Responder.Takes g.R.Responder.Ends g.R.Responder.Finishes g.R.Responder.Fails first input old s left
    (g.K.Sink.written c.args.sink.now) (g.K.Sink.written c.send_long.new.sink) c.args.reading.now.number c.args.reading.now.start tail c.args.at c.send_long.result r c.requires.feed long c.send_long.ensures.told

pub returns-in-Err-clause-ended : goal.returns-in-Err-clause-ended
returns-in-Err-clause-ended g c = λ s first input old left stands r.
    let tail = tail_of c.args.reading.now in
    let short : is_long c.args.reading.now.number c.args.reading.now.start (line_of (take c.args.at tail) 1) ≡ false = search rules in
    let from = c.args.reading.now.from in
    let same : take (from + c.args.at - from) (drop from c.deref.result.now) ≡ take c.args.at tail = search rules in
    let ended = subst (λ (l : List ℕ). IsLineEnd (IsAnswerTo (g.R.Responder.Takes s c.args.reading.now.number l) (g.R.Responder.Ends s c.args.reading.now.number l)) (g.R.Responder.Ends s c.args.reading.now.number l) c.args.reading.now.number (g.K.Sink.written c.args.sink.now) (g.K.Sink.written c.take_line.new.sink) c.in-Err.outcome) same (c.in-Err.ensures.ended s stands) in
    line_ended g.R.Responder.Takes g.R.Responder.Ends g.R.Responder.Finishes g.R.Responder.Fails first input old s left
    (g.K.Sink.written c.args.sink.now) (g.K.Sink.written c.take_line.new.sink) c.args.reading.now.number c.args.reading.now.start tail c.args.at c.in-Err.outcome r c.requires.feed short ended

pub returns-clause-goes : goal.returns-clause-goes
returns-clause-goes g c = λ s first input old left stands r.
    let pending = c.args.reading.now.pending.items in
    let from = c.args.reading.now.from in
    let at = c.args.at in
    let n = c.args.reading.now.number in
    let start = c.args.reading.now.start in
    let tail = tail_of c.args.reading.now in
    let goes = c.in-Ok.ensures.goes s stands in
    let v = goes.1 in
    let Reached = IsReached g.R.Responder.Takes first input old v left (g.K.Sink.written c.take_line.new.sink) in
    let short : is_long n start (line_of (take at tail) 1) ≡ false = search rules in
    let same : take (from + at - from) (drop from c.deref.result.now) ≡ take at tail = search rules in
    let takes = subst (λ (l : List ℕ). g.R.Responder.Takes s n l goes.0 v) same goes.2 in
    let next = line_goes g.R.Responder.Takes g.R.Responder.Ends g.R.Responder.Finishes g.R.Responder.Fails first input old s v left
    (g.K.Sink.written c.args.sink.now) (g.K.Sink.written c.take_line.new.sink) n start tail goes.0 at r c.requires.feed short takes goes.4 in
    let size : length (take at tail) ≡ at = feed_length tail at c.requires.feed in
    let moved : drop (at + 1) tail ≡ drop (from + (at + 1)) pending = drop-drop (at + 1) from pending in
    (v, goes.3, subst (λ (t : List ℕ). Reached (n + 1) (start + at + 1) t) moved (subst (λ (k : ℕ). Reached (n + 1) (start + k + 1) (drop (at + 1) tail)) size next))
