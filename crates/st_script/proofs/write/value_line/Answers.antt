use Rattle.serde_json.specs.View.{view}
use Rattle.st_script.proofs.StepLines.{text_read}
use Rattle.st_script.proofs.write.value_line.Goals as goal

pub returns-clause-back : goal.returns-clause-back
returns-clause-back c plain low = text_read c.in_ok-line.line (view c.args.value.now) (c.in_ok-line.ensures.text plain) (c.in_ok-line.ensures.reads_back low)
