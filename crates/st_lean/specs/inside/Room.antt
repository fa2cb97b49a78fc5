-- Whether a change and a step can be laid beside each other.
use Rattle.std.specs.Prelude.{◌^◌, ◌&&◌, ◌+◌, ℕ, nat_lt, Bool, List, [], ◌∷◌, length}
use Rattle.st_ids.specs.Listing.{IsRising}
use Rattle.st_ids.specs.Order.{field_cmp, node_cmp}
use Rattle.st_marks.specs.declared.changes.Change.{Change}
use Rattle.st_marks.specs.declared.marks.RegMark.{RegMark}
use Rattle.st_marks.specs.declared.marks.RegStep.{RegStep}
use Rattle.st_marks.specs.declared.marks.RowMarks.{RowMarks}
use Rattle.st_marks.specs.declared.steps.Step.{Step}
use Rattle.st_marks.specs.Row.{CellMark, spread}
use Rattle.st_rows.specs.Changes.{may_list}

-- of two rows, what both make and what either finds are fewer than 2^32 cells
abbrev pub has_room_at : List CellMark → List CellMark → Bool
has_room_at xs ys = nat_lt (may_list xs ys) (2 ^ 32) && nat_lt (may_list ys xs) (2 ^ 32)

-- their rows rise by name, and their registers
abbrev pub HaveRisingRows : Change → Step → Type 0
HaveRisingRows C S = IsRising node_cmp (λ (r : RowMarks). r.node) C.rows × IsRising node_cmp (λ (r : RowMarks). r.node) S.rows

abbrev pub HaveRisingRegisters : Change → Step → Type 0
HaveRisingRegisters C S = IsRising field_cmp (λ (r : RegMark). r.field) C.regs × IsRising field_cmp (λ (r : RegStep). r.field) S.regs

-- how many cells rows list, those that they find and those that they make
abbrev pub cells_listed : List RowMarks → ℕ
cells_listed [] = 0
cells_listed (r ∷ rows) = length (spread r.marks) + cells_listed rows
