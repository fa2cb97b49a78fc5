use Rattle.std.proofs.Common.{◌≡◌}
use Rattle.std.specs.Vec.Iter.{into_iter_items}
use Rattle.serde_json.specs.Data.{no_members}
use Rattle.serde_json.specs.View.{members_view}
use Rattle.st_export.proofs.InTurn.{puts}
use Rattle.st_export.proofs.registers.members_of.Given as goal

abbrev pub invariant-loop-value : goal.invariant-loop-value
invariant-loop-value l = puts l.registers (into_iter_items l.value-iterator) (members_view l.members.entries) ≡ puts l.initial.registers (into_iter_items l.initial.value-iterator) no_members
