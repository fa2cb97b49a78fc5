use Rattle.std.proofs.Common.{◌∙◌, refl}
use Rattle.st_seq.specs.inside.NormalForm.{places}
use Rattle.st_rows.proofs.ListTests.{any_spread}
use Rattle.st_seq.proofs.form.any_places.Goals as goal

pub returns : goal.returns
returns c = c.some_places.ensures ∙ any_spread (places c.args.node) refl c.args.marks.now
