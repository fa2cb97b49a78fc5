-- the key is not among the fields so far
use Rattle.std.proofs.Common.{◌≡◌, drop}
use Rattle.st_tree.specs.inside.Node.{fields_view}
use Rattle.st_schema.specs.Conforms.{has_key}
use Rattle.st_schema.proofs.allows.has_key.Given as goal

abbrev pub invariant-loop-field : goal.invariant-loop-field
invariant-loop-field l = has_key (fields_view (drop l.field-index l.field-items)) l.key.0 ≡ has_key (fields_view l.field-items) l.key.0
