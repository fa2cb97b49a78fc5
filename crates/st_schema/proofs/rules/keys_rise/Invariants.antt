-- the keys so far rise
use Rattle.std.proofs.Common.{◌≡◌, drop, []}
use Rattle.st_schema.specs.Schema.{defs_rise}
use Rattle.st_schema.proofs.rules.keys_rise.Given as goal

abbrev pub invariant-loop-field : goal.invariant-loop-field
invariant-loop-field l = defs_rise l.before (drop l.field-index l.field-items) ≡ defs_rise [] l.field-items
