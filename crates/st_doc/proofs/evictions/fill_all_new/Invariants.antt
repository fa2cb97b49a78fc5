use Rattle.std.proofs.Common.{◌≡◌, ◌≤◌, drop, length, cond}
use Rattle.std.specs.BTreeMap.{get}
use Rattle.st_ids.specs.declared.names.FieldId.{FieldId}
use Rattle.st_ids.specs.Order.{field_cmp}
use Rattle.st_marks.specs.Intent.{is_new}
use Rattle.st_marks.specs.CarryOut.{only_new}
use Rattle.st_doc.proofs.Evicting.{in_by}
use Rattle.st_doc.proofs.evictions.fill_all_new.Given as goal

abbrev pub invariant-loop-left : goal.invariant-loop-left
invariant-loop-left l = record {
  within : l.left ≤ length l.puts;
  filled : (f : FieldId) → get field_cmp l.held f ≡ cond (is_new l.intent f.node) (only_new l.intent (in_by (drop l.left l.puts) f)) (get field_cmp l.initial.held f);
}

abbrev pub decreases-loop-left : goal.decreases-loop-left
decreases-loop-left l = l.left
