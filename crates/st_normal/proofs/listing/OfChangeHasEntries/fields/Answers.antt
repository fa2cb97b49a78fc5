use Rattle.std.proofs.Common.{◌++◌, List, map, ap, ◌∙◌}
use Rattle.st_ids.specs.declared.names.FieldId.{FieldId}
use Rattle.st_marks.specs.declared.marks.RegMark.{RegMark}
use Rattle.st_marks.specs.declared.marks.RowMarks.{RowMarks}
use Rattle.st_normal.proofs.listing.OfChangeHasEntries.fields.Goals as goal

pub returns : goal.returns
returns c =
    let of_regs = λ (regs : List RegMark). map (λ (f : FieldId). f.node) (map (λ (r : RegMark). r.field) regs) in
    c.fields_in.ensures ∙ ap (λ (rows : List RowMarks). map (λ (r : RowMarks). r.node) rows ++ of_regs c.as_slice-2.result.now) c.as_slice.ensures
    ∙ ap (λ (regs : List RegMark). map (λ (r : RowMarks). r.node) c.args.self.now.0.now.rows ++ of_regs regs) c.as_slice-2.ensures
