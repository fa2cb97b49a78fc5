use Rattle.std.proofs.Common.{◌≡◌, ◌∙◌, ◌+◌, arith, List, Bool, sym, ap, subst}
use Rattle.st_schema.specs.Schema.{is_among}
use Rattle.st_compat.specs.inside.Marks.{IsMarkedBelow}
use Rattle.st_compat.proofs.Marking.{name_marked, name_left, list_marked}
use Rattle.st_compat.proofs.Numbers.{name_low}
use Rattle.st_compat.proofs.reached.mark_list.Goals as goal
use Rattle.st_compat.proofs.reached.mark_list.Goals.{then-contains, else-contains}

pub names-preserved : goal.names-preserved
names-preserved c =
    let s = c.args.schema.now in
    let types = c.args.types.now in
    let name = c.in-Some.name.now in
    let old = c.args.marks.now in
    let i = c.names.i in
    let so_far = c.names.invariant.so_far in
    let among : is_among name types ≡ c.contains.result = ap (is_among name) (sym c.as_slice.ensures) ∙ sym c.contains.ensures.value in
    elim c.if-contains.branch [
      | then-contains w ↦ record {
        long = c.if-contains.array_long;
        so_far = subst (λ (m : List Bool). IsMarkedBelow s types old m (i + 1)) (sym w.marks-is) (name_marked s types old c.names.marks i name c.in-Some.ensures (omega (arith, c.names.invariant.long, name_low s i name c.is_kept.ensures c.in-Some.ensures)) (among ∙ w.if-contains.true) so_far);
      }
      | else-contains w ↦ record {
        long = c.if-contains.array_long;
        so_far = subst (λ (m : List Bool). IsMarkedBelow s types old m (i + 1)) (sym w.marks-is) (name_left s types old c.names.marks i name c.in-Some.ensures (among ∙ w.if-contains.false) so_far);
      }
    ]

pub returns : goal.returns
returns c = list_marked c.args.schema.now c.args.types.now c.args.marks.now c.names.marks c.names.i c.in_default.ensures c.names.invariant.so_far
