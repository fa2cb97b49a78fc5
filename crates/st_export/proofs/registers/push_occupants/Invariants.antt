use Rattle.std.proofs.Common.{◌++◌}
use Rattle.st_export.proofs.Together.{AreLeft, occupants}
use Rattle.st_export.proofs.registers.push_occupants.Given as goal

abbrev pub invariant-loop-field : goal.invariant-loop-field
invariant-loop-field l = AreLeft l.node l.nodes.items l.field-iterator (l.initial.nodes.items ++ occupants l.node l.held.entries)
