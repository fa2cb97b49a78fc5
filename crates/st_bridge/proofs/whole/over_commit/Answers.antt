use Rattle.std.proofs.Common.{◌≡◌, option_map, subst, sym}
use Rattle.st_lemmas.proofs.Options.{IfOk-along}
use Rattle.st_marks.specs.Step.{IsStep}
use Rattle.st_marks.specs.Verdict.{carried_document}
use Rattle.st_marks.specs.declared.steps.Step.{Step}
use Rattle.st_bridge.specs.inside.Entries.{part_with}
use Rattle.st_bridge.proofs.EntriesOver.{over_change}
use Rattle.st_bridge.proofs.whole.over_commit.Goals as goal

pub returns-in-Some : goal.returns-in-Some
returns-in-Some c = λ D E N v u x f g short later emb rebased step is there.
    let C = c.args.change.now in
    let Y = c.args.rebased.now in
    let S = c.args.step.now in
    let text = c.in-Some.text in
    let over : Step = record S { schema = option_map (part_with (record { rev = C.rev; text = text }) C.base Y.base) S.schema } in
    IfOk-along c.over_schema.result (λ (t : Step). t ≡ over) (IsStep (carried_document v D N) (carried_document u E N))
    (λ t e. subst (IsStep (carried_document v D N) (carried_document u E N)) (sym e) (over_change D E N C Y S text v u c.in-Some.is f g emb rebased step is there)) c.over_schema.ensures
