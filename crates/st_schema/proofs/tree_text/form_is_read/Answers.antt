use Rattle.st_schema.proofs.Shown.{form_read}
use Rattle.st_schema.proofs.tree_text.form_is_read.Goals as goal

pub returns : goal.returns
returns c = form_read
