use Rattle.std.proofs.Common.{◌≡◌, Some, None, sym, ◌∙◌, rules}
use Rattle.std.proofs.lemmas.Result.{IfOk-weaker}
use Rattle.st_answers.specs.Trace.{entry_asked}
use Rattle.st_run.proofs.Tracing.{other_refused, text_replied}
use Rattle.st_run.proofs.trace.take_other.Goals as goal

pub returns-in-None : goal.returns-in-None
returns-in-None c =
    let none : entry_asked c.args.line.now ≡ None = search rules in
    IfOk-weaker c.refuse.result _ _
    (λ r told k h w u. other_refused h w k c.args.number c.args.cause c.args.world.now c.args.authors.now c.args.line.now r c.requires.no_step none told) c.refuse.ensures

pub returns-in_ok-text-in-Some : goal.returns-in_ok-text-in-Some
returns-in_ok-text-in-Some c =
    let asks : entry_asked c.args.line.now ≡ Some c.in-Some.n = sym c.in_ok-entry_asked.ensures ∙ c.in-Some.is in
    IfOk-weaker c.tell.result _ _
    (λ r told k h w u. text_replied h w k c.args.number c.in-Some.n c.args.cause c.args.world.now c.tell_entry.new.authors c.args.line.now c.in_ok-text-in-Some.text r c.requires.no_step asks
    (c.in_ok-text-in-Some.ensures.told k h w u) (c.in_ok-text-in-Some.ensures.under_way k h w u) told) c.tell.ensures
