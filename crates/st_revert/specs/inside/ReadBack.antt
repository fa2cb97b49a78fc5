-- The way back over a step, read as a change.
use Rattle.std.specs.Prelude.{Bool, false, not, map, [], None, is_some, if◌then◌else◌}
use Rattle.st_ids.specs.Order.{same_node}
use Rattle.st_ids.specs.declared.names.Rev.{Rev}
use Rattle.st_kind.specs.Named.{Nodes}
use Rattle.st_marks.specs.declared.changes.Change.{Change}
use Rattle.st_marks.specs.declared.marks.How.TheVariants.{Stay, Leave}
use Rattle.st_marks.specs.declared.marks.RegMark.{RegMark}
use Rattle.st_marks.specs.declared.marks.RegStep.{RegStep}
use Rattle.st_marks.specs.declared.steps.Step.{Step}
use Rattle.st_marks.specs.Intent.{same_option}

-- a register: where it differs, its occupant leaves; it is cleared, unless its node goes with the step; and who is there then comes in
abbrev pub mark_back : Nodes → RegStep → RegMark
mark_back new r =
    if same_option same_node r.before r.after
    then record { field = r.field; held = r.before; how = Stay; clear = false; fill = None }
    else record { field = r.field; held = r.before; how = if is_some r.before then Leave else Stay; clear = not (new r.field.node); fill = r.after }

-- the way back T over a step that makes the nodes `new`
abbrev pub read_back : Nodes → Step → Rev → Rev → Bool → Change
read_back new T rev under base = record { rev = rev; under = under; base = base; need = []; new = []; rows = T.rows; regs = map (mark_back new) T.regs; loose = T.loose; schema = None }
