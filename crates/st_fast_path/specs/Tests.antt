-- Whether a change and a step pass each other, tested entry by entry.
use Rattle.std.specs.Prelude.{Bool, true, false, not, ◌&&◌, ◌||◌, is_none, nat_le, length, List}
use Rattle.std.specs.List.{list_all}
use Rattle.std.specs.Option.{option_map_or}
use Rattle.st_ids.specs.Listing.{item_of}
use Rattle.st_ids.specs.Order.{field_cmp, same_node}
use Rattle.st_marks.specs.declared.changes.Change.{Change}
use Rattle.st_marks.specs.declared.marks.How.{How}
use Rattle.st_marks.specs.declared.marks.How.TheVariants.{Stay, Here, Leave}
use Rattle.st_marks.specs.declared.marks.Loose.{Loose}
use Rattle.st_marks.specs.declared.marks.RegMark.{RegMark}
use Rattle.st_marks.specs.declared.marks.RegStep.{RegStep}
use Rattle.st_marks.specs.declared.marks.RowMarks.{RowMarks}
use Rattle.st_marks.specs.declared.steps.Step.{Step}
use Rattle.st_marks.specs.How.{is_stay}
use Rattle.st_marks.specs.Intent.{same_option}
use Rattle.st_marks.specs.Row.{spread}
use Rattle.st_passing.specs.Passing.{do_not_meet}
use Rattle.st_passing.specs.Whole.{row_in}

abbrev pub is_leave : How → Bool
is_leave Stay = false
is_leave Here = false
is_leave Leave = true

-- a row of the change beside the step's, if the step lists it
abbrev pub row_passes : List RowMarks → RowMarks → Bool
row_passes rows r = option_map_or (λ (s : RowMarks). do_not_meet false (spread r.marks) (spread s.marks)) (row_in rows r.node) true

-- a register that both list: the step leaves its occupant there, and the change neither clears nor fills it nor takes the occupant out
abbrev pub registers_pass : RegMark → RegStep → Bool
registers_pass c s = same_option same_node s.before s.after && (not c.clear && (is_none c.fill && not (is_leave c.how)))

-- a register of the change beside the step's, if the step lists it
abbrev pub register_passes : List RegStep → RegMark → Bool
register_passes regs c = option_map_or (registers_pass c) (item_of field_cmp (λ (s : RegStep). s.field) regs c.field) true

-- a node that the change lists as nowhere and one that the step lists so: they are two, or neither comes out
abbrev pub loose_pass : Loose → Loose → Bool
loose_pass c s = not (same_node c.node s.node) || (is_stay s.how && not (is_leave c.how))

abbrev pub all_loose_pass : List Loose → List Loose → Bool
all_loose_pass cs ss = list_all (λ (c : Loose). list_all (loose_pass c) ss) cs

-- one of the two lists few such nodes: each is looked for in the other list
abbrev pub list_few_loose : List Loose → List Loose → Bool
list_few_loose cs ss = nat_le (length cs) 16 || nat_le (length ss) 16

abbrev pub no_schema_parts : Change → Step → Bool
no_schema_parts C S = is_none C.schema && is_none S.schema

-- all of it: the rows last, which take longest
abbrev pub pass_each_other : Change → Step → Bool
pass_each_other C S = no_schema_parts C S && (list_few_loose C.loose S.loose && (all_loose_pass C.loose S.loose
    && (list_all (register_passes S.regs) C.regs && list_all (row_passes S.rows) C.rows)))
