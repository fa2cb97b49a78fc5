use Rattle.std.proofs.Common.{◌||◌, Bool, List, refl, sym, ◌∙◌}
use Rattle.std.specs.BTreeMap.{get}
use Rattle.std.specs.BTreeSet.{contains}
use Rattle.std.specs.List.{list_any}
use Rattle.std.specs.Ordering.{is_eq}
use Rattle.st_ids.specs.Order.{field_cmp, node_cmp}
use Rattle.st_ids.proofs.Orders.{field_cmp_exact, field_cmp_total}
use Rattle.st_ids.specs.declared.names.FieldId.{FieldId}
use Rattle.st_marks.specs.declared.marks.RegMark.{RegMark}
use Rattle.st_marks.specs.declared.marks.RegStep.{RegStep}
use Rattle.st_moves.proofs.Indices.{not_listed}
use Rattle.st_moves.proofs.OrderedNames.{listing}
use Rattle.st_moves.proofs.RowNames.{either_none}
use Rattle.st_over.specs.Across.{register_across}
use Rattle.st_cross.specs.Fields.{register_at}
use Rattle.st_cross.proofs.Fields.{register_named}
use Rattle.st_cross.proofs.registers.registers_across.Goals as goal

pub returns : goal.returns
returns g c =
    let was = c.args.across.now.was in
    let is = c.args.across.now.is in
    let made = contains node_cmp c.args.across.now.made.now in
    let t = get node_cmp c.args.across.now.puts.now in
    let cs = c.args.change.now in
    let ss = c.args.step.now in
    let first : List RegMark → FieldId → Bool = λ regs q. list_any (λ (r : RegMark). is_eq (field_cmp r.field q)) regs in
    let then : List RegStep → FieldId → Bool = λ regs q. list_any (λ (r : RegStep). is_eq (field_cmp r.field q)) regs in
    let look = register_at was is made t cs ss in
    listing field_cmp field_cmp_exact (λ (r : RegStep). r.field) look (register_named was is made t cs ss) c.in_ok-fields.fields.keys c.in_ok-list.list look c.in_ok-list.ensures.ordered c.in_ok-list.ensures.registers
    (λ q there. refl)
    (λ q e.
    let none = either_none (first cs q) (then ss q) (sym (c.in_ok-fields.ensures q ∙ (λ i. first (c.as_slice.ensures i) q || then (c.as_slice-2.ensures i) q)) ∙ e) in
    (λ i. register_across was is made t q (not_listed field_cmp field_cmp_total (λ (r : RegMark). r.field) cs q none.0 i) (not_listed field_cmp field_cmp_total (λ (r : RegStep). r.field) ss q none.1 i)))
