use Rattle.std.proofs.Common.{ap, sym, ◌∙◌}
use Rattle.st_heads.specs.Replicas.{head_of}
use Rattle.st_lists.specs.Lines.{branch_place}
use Rattle.st_plain_branches.proofs.Merged.{head_by, place_there}
use Rattle.st_plain_branches.proofs.branches.merge_into.Goals as goal

pub merge_main-requires-clause-sound : goal.merge_main-requires-clause-sound
merge_main-requires-clause-sound c = (c.requires.can c.args.kept.now.main (ap (head_of c.args.client.now c.args.kept.now) c.if-number-eq0.true)).0

pub returns-in_default-get_mut : goal.returns-in_default-get_mut
returns-in_default-get_mut c p at = absurd (place_there c.args.client.now.branches c.args.number c.in-Some.place (ap (branch_place c.args.number) (sym c.as_slice.ensures) ∙ sym c.in-Some.ensures) (sym c.in_default-get_mut.ensures.value))

pub merge_branch-requires-clause-sound : goal.merge_branch-requires-clause-sound
merge_branch-requires-clause-sound c =
    let head = c.in-Some-get_mut-2.head.now in
    let at = head_by c.args.client.now c.args.kept.now c.args.number c.in-Some.place head c.if-number-eq0.false (ap (branch_place c.args.number) (sym c.as_slice.ensures) ∙ sym c.in-Some.ensures) (sym c.in-Some-get_mut-2.ensures.value) in
    (c.requires.can head at).0
