use Rattle.std.proofs.Common.{◌∙◌, refl}
use Rattle.st_seq.specs.inside.NormalForm.{puts_found}
use Rattle.st_rows.proofs.ListTests.{any_spread}
use Rattle.st_seq.proofs.form.any_puts.Goals as goal

pub returns : goal.returns
returns c = c.some_puts.ensures ∙ any_spread (puts_found c.args.node) refl c.args.marks.now
