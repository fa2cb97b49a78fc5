use Rattle.std.proofs.Common.{◌≡◌, Bool, true, false, sym, ◌∙◌}
use Rattle.std.proofs.lemmas.Result.{on_ok_weaker}
use Rattle.st_lean.proofs.Laid.{stand_so}
use Rattle.st_carry.proofs.both.carry_thin.Goals as goal

pub returns-then-not-can_be_laid : goal.returns-then-not-can_be_laid
returns-then-not-can_be_laid c = λ D E N x f h short short_later before change step.
    let laid = stand_so false D E N c.args.change.now c.args.step.now (λ C S emb st. c.documents_have_room.ensures D E N C S short_later emb st) change step in
    let q : ◌≡◌ {A = Bool} false true = sym c.if-not-can_be_laid.true ∙ c.can_be_laid.ensures.1 laid in
    cc

pub returns-then-pass : goal.returns-then-pass
returns-then-pass c = on_ok_weaker c.carry_passing.result (λ carried D E N. carried D E N c.args.was.now) c.carry_passing.ensures
