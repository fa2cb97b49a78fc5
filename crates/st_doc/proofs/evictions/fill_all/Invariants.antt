use Rattle.std.proofs.Common.{◌≡◌, ◌≤◌, drop, length}
use Rattle.std.specs.BTreeMap.{get}
use Rattle.std.specs.Option.{option_or}
use Rattle.st_ids.specs.declared.names.FieldId.{FieldId}
use Rattle.st_ids.specs.Order.{field_cmp}
use Rattle.st_doc.proofs.Evicting.{in_by}
use Rattle.st_doc.proofs.evictions.fill_all.Given as goal

abbrev pub invariant-loop-left : goal.invariant-loop-left
invariant-loop-left l = record {
  within : l.left ≤ length l.puts;
  filled : (f : FieldId) → get field_cmp l.held f ≡ option_or (in_by (drop l.left l.puts) f) (get field_cmp l.initial.held f);
}

abbrev pub decreases-loop-left : goal.decreases-loop-left
decreases-loop-left l = l.left
