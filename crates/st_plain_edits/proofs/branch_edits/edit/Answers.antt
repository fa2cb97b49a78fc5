use Rattle.std.proofs.Common.{ap, refl, sym, ◌∙◌}
use Rattle.st_lists.specs.Lines.{branch_place}
use Rattle.st_plain_edits.proofs.NumbersLeft.{left_few}
use Rattle.st_plain_edits.proofs.branch_edits.edit.Goals as goal

pub edit_branch-requires-clause-own : goal.edit_branch-requires-clause-own
edit_branch-requires-clause-own c =
    let can = c.requires.can c.in-Some.place c.in-Some-get_mut.branch.now c.in-Some-get_mut-2.head.now (record {
      found = ap (branch_place c.args.number) (sym c.as_slice.ensures) ∙ sym c.in-Some.ensures;
      branch = sym c.in-Some-get_mut.ensures.value;
      kept = sym c.in-Some-get_mut-2.ensures.value;
    }) in
    can.few

pub edit_branch-requires-clause-sound : goal.edit_branch-requires-clause-sound
edit_branch-requires-clause-sound c =
    let can = c.requires.can c.in-Some.place c.in-Some-get_mut.branch.now c.in-Some-get_mut-2.head.now (record {
      found = ap (branch_place c.args.number) (sym c.as_slice.ensures) ∙ sym c.in-Some.ensures;
      branch = sym c.in-Some-get_mut.ensures.value;
      kept = sym c.in-Some-get_mut-2.ensures.value;
    }) in
    can.sound

pub edit_branch-requires-clause-open : goal.edit_branch-requires-clause-open
edit_branch-requires-clause-open c =
    let can = c.requires.can c.in-Some.place c.in-Some-get_mut.branch.now c.in-Some-get_mut-2.head.now (record {
      found = ap (branch_place c.args.number) (sym c.as_slice.ensures) ∙ sym c.in-Some.ensures;
      branch = sym c.in-Some-get_mut.ensures.value;
      kept = sym c.in-Some-get_mut-2.ensures.value;
    }) in
    can.edited

pub edit_branch-requires-clause-nodes : goal.edit_branch-requires-clause-nodes
edit_branch-requires-clause-nodes c =
    let can = c.requires.can c.in-Some.place c.in-Some-get_mut.branch.now c.in-Some-get_mut-2.head.now (record {
      found = ap (branch_place c.args.number) (sym c.as_slice.ensures) ∙ sym c.in-Some.ensures;
      branch = sym c.in-Some-get_mut.ensures.value;
      kept = sym c.in-Some-get_mut-2.ensures.value;
    }) in
    rw (c.next_names_of-given.ensures c.args.client.now refl refl) (left_few c.args.client.now c.in-Some-get_mut.branch.now.transaction can.left).0

pub edit_branch-requires-clause-cells : goal.edit_branch-requires-clause-cells
edit_branch-requires-clause-cells c =
    let can = c.requires.can c.in-Some.place c.in-Some-get_mut.branch.now c.in-Some-get_mut-2.head.now (record {
      found = ap (branch_place c.args.number) (sym c.as_slice.ensures) ∙ sym c.in-Some.ensures;
      branch = sym c.in-Some-get_mut.ensures.value;
      kept = sym c.in-Some-get_mut-2.ensures.value;
    }) in
    rw (c.next_names_of-given.ensures c.args.client.now refl refl) (left_few c.args.client.now c.in-Some-get_mut.branch.now.transaction can.left).1
