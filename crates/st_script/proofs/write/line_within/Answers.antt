use Rattle.serde_json.specs.View.{view}
use Rattle.st_script.specs.Steps.{step_view}
use Rattle.st_script.proofs.StepLines.{told_text, told_back, told_again}
use Rattle.st_script.proofs.write.line_within.Goals as goal

pub returns-clause-text : goal.returns-clause-text
returns-clause-text c = told_text c.value_line.result (step_view c.args.step.now) (view c.in_ok-value.value) c.in_ok-value.ensures c.value_line.ensures.text

pub returns-clause-back : goal.returns-clause-back
returns-clause-back c = told_back c.value_line.result (step_view c.args.step.now) (view c.in_ok-value.value) c.requires c.in_ok-value.ensures c.value_line.ensures.back

pub returns-clause-again : goal.returns-clause-again
returns-clause-again c =
    let s = step_view c.args.step.now in
    told_again c.value_line.result s (told_text c.value_line.result s (view c.in_ok-value.value) c.in_ok-value.ensures c.value_line.ensures.text)
    (told_back c.value_line.result s (view c.in_ok-value.value) c.requires c.in_ok-value.ensures c.value_line.ensures.back)
