use Rattle.std.proofs.Common.{ap, sym, ◌∙◌}
use Rattle.st_lists.specs.Lines.{branch_place}
use Rattle.st_plain_edits.proofs.branch_edits.commit.Goals as goal

pub commit_on_branch-requires-clause-sound : goal.commit_on_branch-requires-clause-sound
commit_on_branch-requires-clause-sound c =
    let can = c.requires.can c.in-Some.place c.in-Some-get_mut.branch.now c.in-Some-get_mut-2.head.now (record {
      found = ap (branch_place c.args.number) (sym c.as_slice.ensures) ∙ sym c.in-Some.ensures;
      branch = sym c.in-Some-get_mut.ensures.value;
      kept = sym c.in-Some-get_mut-2.ensures.value;
    }) in
    can.0.sound

pub commit_on_branch-requires-clause-fits : goal.commit_on_branch-requires-clause-fits
commit_on_branch-requires-clause-fits c =
    let can = c.requires.can c.in-Some.place c.in-Some-get_mut.branch.now c.in-Some-get_mut-2.head.now (record {
      found = ap (branch_place c.args.number) (sym c.as_slice.ensures) ∙ sym c.in-Some.ensures;
      branch = sym c.in-Some-get_mut.ensures.value;
      kept = sym c.in-Some-get_mut-2.ensures.value;
    }) in
    can.1
