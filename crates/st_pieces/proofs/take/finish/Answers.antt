use Rattle.std.proofs.Common.{◌≡◌, arith, ◌<◌, ◌+◌, ◌-◌, ℕ, List, drop, take, length, subst, ap, ◌∙◌}
use Rattle.std.proofs.lemmas.Bool.Decides.{nat_tests}
use Rattle.st_pieces.proofs.Appending.{from_place}
use Rattle.st_pieces.specs.inside.Placed.{tail_of}
use Rattle.st_pieces.specs.inside.Sent.{IsAnswerTo, IsLineEnd}
use Rattle.st_pieces.proofs.Outcomes.{all_empty, all_last, end_told, last_ended}
use Rattle.st_pieces.proofs.take.finish.Goals as goal

pub returns-then-is_empty-clause-told : goal.returns-then-is_empty-clause-told
returns-then-is_empty-clause-told g c = λ s first input old left stands r h.
    let n = c.args.reading.now.number in
    let start = c.args.reading.now.start in
    let tail = tail_of c.args.reading.now in
    let w = g.K.Sink.written c.args.sink.now in
    let same = ap length (from_place c.deref.result.now c.args.reading.now.from ∙ ap (drop c.args.reading.now.from) c.deref.ensures.value) in
    let none : length (take (length c.deref.result.now - c.args.reading.now.from) (drop c.args.reading.now.from c.deref.result.now)) ≡ 0 = grind (arith, nat_tests) in
    let empty : length tail ≡ 0 = omega (arith, same, none) in
    let all = all_empty g.R.Responder.Takes g.R.Responder.Ends g.R.Responder.Finishes g.R.Responder.Fails first input old s left w n start tail r empty h in
    end_told g.R.Responder.Takes g.R.Responder.Ends g.R.Responder.Finishes g.R.Responder.Fails first input old s left w (g.K.Sink.written c.send_end.new.sink) n c.send_end.result all (c.send_end.ensures.told s stands)

pub returns-in-Ok-clause-told : goal.returns-in-Ok-clause-told
returns-in-Ok-clause-told g c = λ s first input old left stands r h.
    let n = c.args.reading.now.number in
    let start = c.args.reading.now.start in
    let tail = tail_of c.args.reading.now in
    let w = g.K.Sink.written c.args.sink.now in
    let u = g.K.Sink.written c.take_line.new.sink in
    let slice = take (length c.deref.result.now - c.args.reading.now.from) (drop c.args.reading.now.from c.deref.result.now) in
    let same : slice ≡ tail = from_place c.deref.result.now c.args.reading.now.from ∙ ap (drop c.args.reading.now.from) c.deref.ensures.value in
    let full : 0 < length slice = grind (arith, nat_tests) in
    let some : 0 < length tail = omega (arith, ap length same, full) in
    let goes = c.in-Ok.ensures.goes s stands in
    let v = goes.1 in
    let takes = subst (λ (l : List ℕ). g.R.Responder.Takes s n l goes.0 v) same goes.2 in
    let all = all_last g.R.Responder.Takes g.R.Responder.Ends g.R.Responder.Finishes g.R.Responder.Fails first input old s v left w u n start tail goes.0 r some c.requires.unended (c.requires.short some) takes goes.4 h in
    end_told g.R.Responder.Takes g.R.Responder.Ends g.R.Responder.Finishes g.R.Responder.Fails first input old v left u (g.K.Sink.written c.send_end-in-Ok.new.sink) (n + 1) c.send_end-in-Ok.result all (c.send_end-in-Ok.ensures.told v goes.3)

pub returns-in-Err-clause-told : goal.returns-in-Err-clause-told
returns-in-Err-clause-told g c = λ s first input old left stands r h.
    let n = c.args.reading.now.number in
    let start = c.args.reading.now.start in
    let tail = tail_of c.args.reading.now in
    let w = g.K.Sink.written c.args.sink.now in
    let u = g.K.Sink.written c.take_line.new.sink in
    let slice = take (length c.deref.result.now - c.args.reading.now.from) (drop c.args.reading.now.from c.deref.result.now) in
    let same : slice ≡ tail = from_place c.deref.result.now c.args.reading.now.from ∙ ap (drop c.args.reading.now.from) c.deref.ensures.value in
    let full : 0 < length slice = grind (arith, nat_tests) in
    let some : 0 < length tail = omega (arith, ap length same, full) in
    let ended = subst (λ (l : List ℕ). IsLineEnd (IsAnswerTo (g.R.Responder.Takes s n l) (g.R.Responder.Ends s n l)) (g.R.Responder.Ends s n l) n w u c.in-Err.outcome) same (c.in-Err.ensures.ended s stands) in
    last_ended g.R.Responder.Takes g.R.Responder.Ends g.R.Responder.Finishes g.R.Responder.Fails first input old s left w u n start tail c.in-Err.outcome r some c.requires.unended (c.requires.short some) ended h
