-- the keys so far rise
use Rattle.std.proofs.Common.{◌≡◌, drop, []}
use Rattle.st_tree.specs.inside.Node.{fields_view}
use Rattle.st_tree.specs.Form.{keys_rise}
use Rattle.st_schema.proofs.allows.keys_rise.Given as goal

abbrev pub invariant-loop-field : goal.invariant-loop-field
invariant-loop-field l = keys_rise l.before (fields_view (drop l.field-index l.field-items)) ≡ keys_rise [] (fields_view l.field-items)
