use Rattle.std.proofs.lemmas.Result.{IfErr-weaker, on_ok_weaker}
use Rattle.st_pieces.proofs.lines.turn.Goals as goal

pub returns-in-Some-clause-goes : goal.returns-in-Some-clause-goes
returns-in-Some-clause-goes g c =
    on_ok_weaker c.take_whole.result (λ h s first input old stands r. h s first input old (g.S.Source.left c.args.source.now) stands r) c.take_whole.ensures.goes

pub returns-in-Some-clause-ended : goal.returns-in-Some-clause-ended
returns-in-Some-clause-ended g c =
    IfErr-weaker c.take_whole.result _ _ (λ o h s first input old stands r. h s first input old (g.S.Source.left c.args.source.now) stands r) c.take_whole.ensures.ended
