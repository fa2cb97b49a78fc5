-- the form has the fields so far
use Rattle.std.proofs.Common.{◌≡◌, drop}
use Rattle.st_tree.specs.inside.Node.{fields_view}
use Rattle.st_schema.specs.Conforms.{have_rules}
use Rattle.st_schema.proofs.allows.have_rules.Given as goal

abbrev pub invariant-loop-field : goal.invariant-loop-field
invariant-loop-field l = have_rules l.form (fields_view (drop l.field-index l.field-items)) ≡ have_rules l.form (fields_view l.field-items)
