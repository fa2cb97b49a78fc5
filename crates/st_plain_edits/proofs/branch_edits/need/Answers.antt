use Rattle.std.proofs.Common.{ap, sym, ◌∙◌}
use Rattle.st_lists.specs.Lines.{branch_place}
use Rattle.st_plain_edits.proofs.branch_edits.need.Goals as goal

pub need_on_branch-requires-clause-own : goal.need_on_branch-requires-clause-own
need_on_branch-requires-clause-own c =
    let can = c.requires.can c.in-Some.place c.in-Some-get_mut.branch.now c.in-Some-get_mut-2.head.now (record {
      found = ap (branch_place c.args.number) (sym c.as_slice.ensures) ∙ sym c.in-Some.ensures;
      branch = sym c.in-Some-get_mut.ensures.value;
      kept = sym c.in-Some-get_mut-2.ensures.value;
    }) in
    can.few

pub need_on_branch-requires-clause-sound : goal.need_on_branch-requires-clause-sound
need_on_branch-requires-clause-sound c =
    let can = c.requires.can c.in-Some.place c.in-Some-get_mut.branch.now c.in-Some-get_mut-2.head.now (record {
      found = ap (branch_place c.args.number) (sym c.as_slice.ensures) ∙ sym c.in-Some.ensures;
      branch = sym c.in-Some-get_mut.ensures.value;
      kept = sym c.in-Some-get_mut-2.ensures.value;
    }) in
    can.sound

pub need_on_branch-requires-clause-open : goal.need_on_branch-requires-clause-open
need_on_branch-requires-clause-open c =
    let can = c.requires.can c.in-Some.place c.in-Some-get_mut.branch.now c.in-Some-get_mut-2.head.now (record {
      found = ap (branch_place c.args.number) (sym c.as_slice.ensures) ∙ sym c.in-Some.ensures;
      branch = sym c.in-Some-get_mut.ensures.value;
      kept = sym c.in-Some-get_mut-2.ensures.value;
    }) in
    can.edited
