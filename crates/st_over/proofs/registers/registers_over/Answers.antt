use Rattle.std.proofs.Common.{refl, sym, ◌∙◌}
use Rattle.std.specs.BTreeMap.{get}
use Rattle.std.specs.BTreeSet.{contains}
use Rattle.std.specs.List.{list_any}
use Rattle.std.specs.Ordering.{is_eq}
use Rattle.st_ids.specs.Order.{field_cmp, node_cmp}
use Rattle.st_ids.proofs.Orders.{field_cmp_exact, field_cmp_total}
use Rattle.st_marks.specs.declared.marks.RegMark.{RegMark}
use Rattle.st_marks.specs.declared.marks.RegStep.{RegStep}
use Rattle.st_over.specs.inside.Registers.{register_beside, register_listed}
use Rattle.st_moves.proofs.Indices.{not_listed}
use Rattle.st_moves.proofs.OrderedNames.{listing}
use Rattle.st_moves.proofs.RowNames.{either_none}
use Rattle.st_over.proofs.ReadRegisters.{register_named}
use Rattle.st_over.proofs.registers.registers_over.Goals as goal

pub returns : goal.returns
returns c =
    let P = get node_cmp c.args.puts.now in
    let m = contains node_cmp c.args.named.now in
    let cs = c.args.change.now in
    let ss = c.args.step.now in
    let look = register_beside P m cs ss in
    listing field_cmp field_cmp_exact (λ (r : RegMark). r.field) look (register_named P m cs ss) c.in_ok-fields.fields.keys c.in_ok-list.list look c.in_ok-list.ensures.ordered c.in_ok-list.ensures.registers
    (λ q there. refl)
    (λ q e.
    let none = either_none (list_any (λ (r : RegMark). is_eq (field_cmp r.field q)) cs) (list_any (λ (r : RegStep). is_eq (field_cmp r.field q)) ss) (sym (c.in_ok-fields.ensures q) ∙ e) in
    (λ i. register_listed q P m (not_listed field_cmp field_cmp_total (λ (r : RegMark). r.field) cs q none.0 i) (not_listed field_cmp field_cmp_total (λ (r : RegStep). r.field) ss q none.1 i)))
