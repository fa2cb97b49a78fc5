use Rattle.std.proofs.Common.{◌≡◌, ℕ, sym, subst, rules, arith, ap, ◌<◌, ◌++◌, take, length, length-append, length-drop, length-take-le}
use Rattle.std.proofs.lemmas.Bool.Decides.{nat_tests}
use Rattle.st_pieces.specs.inside.Placed.{IsPlaced, tail_of}
use Rattle.st_pieces.proofs.Cutting.{short_within}
use Rattle.st_pieces.proofs.Outcomes.{end_read, nothing_partly, piece_read, reached_as}
use Rattle.st_pieces.proofs.lines.read_piece.Goals as goal

pub returns-then-count-eq0-clause-ended : goal.returns-then-count-eq0-clause-ended
returns-then-count-eq0-clause-ended g c = λ s first input old stands r.
    let n = c.args.reading.now.number in
    let start = c.args.reading.now.start in
    let tail = tail_of c.args.reading.now in
    let w = g.K.Sink.written c.args.sink.now in
    let e = end_read g.R.Responder.Takes g.R.Responder.Ends g.R.Responder.Finishes g.R.Responder.Fails first input old s (g.S.Source.left c.args.source.now) (g.S.Source.left c.read.new.self) w n start c.in-Ok.count tail c.read.new.buf r c.in-Ok.ensures.takes c.if-count-eq0.true in
    let reading = c.args.reading.now in
    let r = reached_as g.R.Responder.Takes g.R.Responder.Ends g.R.Responder.Finishes g.R.Responder.Fails first input old s (g.S.Source.left c.read.new.self) w n reading.number start reading.start tail (tail_of reading) e.0 (search rules) (search rules) (search rules) in
    c.finish.ensures.told s first input old (g.S.Source.left c.read.new.self) stands r e.1

pub returns-then-count-eq0-clause-read_fault : goal.returns-then-count-eq0-clause-read_fault
returns-then-count-eq0-clause-read_fault g c = λ e. absurd (c.finish.ensures.unread cc)

pub returns-in-Ok-keep_more-clause-goes : goal.returns-in-Ok-keep_more-clause-goes
returns-in-Ok-keep_more-clause-goes g c = λ s first input old stands r.
    let n = c.args.reading.now.number in
    let start = c.args.reading.now.start in
    let tail = tail_of c.args.reading.now in
    let w = g.K.Sink.written c.args.sink.now in
    let t : tail_of c.keep_more.new.reading ≡ tail ++ take c.in-Ok.count c.read.new.buf = search rules in
    let piece = piece_read g.R.Responder.Takes g.R.Responder.Ends g.R.Responder.Finishes g.R.Responder.Fails first input old s (g.S.Source.left c.args.source.now) (g.S.Source.left c.read.new.self) w n start c.in-Ok.count tail c.read.new.buf r c.in-Ok.ensures.takes in
    let same : c.keep_more.new.reading.number ≡ n = search rules in
    (s, subst (λ (k : ℕ). g.R.Responder.Stands c.args.responder.now k s) (sym same) stands, reached_as g.R.Responder.Takes g.R.Responder.Ends g.R.Responder.Finishes g.R.Responder.Fails first input old s (g.S.Source.left c.read.new.self) w n _ start _ (tail ++ take c.in-Ok.count c.read.new.buf) _ piece (search rules) (search rules) t)

pub returns-in-Ok-keep_more-clause-less : goal.returns-in-Ok-keep_more-clause-less
returns-in-Ok-keep_more-clause-less g c =
    let before = c.args.reading.now in
    let after = c.keep_more.new.reading in
    let t : tail_of after ≡ tail_of before ++ take c.in-Ok.count c.read.new.buf = search rules in
    let more : length (take c.in-Ok.count c.read.new.buf) ≡ c.in-Ok.count = length-take-le c.in-Ok.count c.read.new.buf c.in-Ok.ensures.fits in
    let sum = length-append (tail_of before) (take c.in-Ok.count c.read.new.buf) in
    let some : 0 < c.in-Ok.count = grind (arith, nat_tests) in
    let placed : IsPlaced after = search rules in
    let same : after.start ≡ before.start = search rules in
    omega (
      arith,
      ap length t,
      more,
      sum,
      some,
      same,
      length-drop before.from before.pending.items,
      length-drop after.from after.pending.items,
      c.requires.place.from,
      c.requires.place.start,
      c.requires.place.within,
      placed.from,
      placed.start,
      placed.within,
    )

pub returns-in-Err-clause-ended : goal.returns-in-Err-clause-ended
returns-in-Err-clause-ended g c = λ s first input old stands r.
    nothing_partly g.R.Responder.Takes g.R.Responder.Ends g.R.Responder.Finishes g.R.Responder.Fails first input old s (g.S.Source.left c.args.source.now) (g.K.Sink.written c.args.sink.now) c.args.reading.now.number c.args.reading.now.start (tail_of c.args.reading.now) r

pub keep_more-requires-clause-within : goal.keep_more-requires-clause-within
keep_more-requires-clause-within g c =
    short_within c.args.reading.now.number c.args.reading.now.start (tail_of c.args.reading.now) c.requires.place.start c.requires.short

pub returns-in-Ok-keep_more-clause-stands : goal.returns-in-Ok-keep_more-clause-stands
returns-in-Ok-keep_more-clause-stands g c =
    let same : c.keep_more.new.reading.number ≡ c.args.reading.now.number = search rules in
    (c.requires.stands.0, subst (λ (k : ℕ). g.R.Responder.Stands c.args.responder.now k c.requires.stands.0) (sym same) c.requires.stands.1)
