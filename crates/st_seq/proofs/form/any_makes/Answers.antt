use Rattle.std.proofs.Common.{◌∙◌, refl}
use Rattle.st_seq.specs.inside.NormalForm.{makes_cell}
use Rattle.st_rows.proofs.ListTests.{any_spread}
use Rattle.st_seq.proofs.form.any_makes.Goals as goal

pub returns : goal.returns
returns c = c.some_makes.ensures ∙ any_spread (makes_cell c.args.cell) refl c.args.marks.now
