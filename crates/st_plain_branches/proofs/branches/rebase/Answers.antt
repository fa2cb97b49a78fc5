use Rattle.std.proofs.Common.{ap, sym, ◌∙◌}
use Rattle.st_script.specs.declared.answer.Answer.TheVariants.{Rebase}
use Rattle.st_lists.specs.Lines.{branch_place}
use Rattle.st_plain_branches.proofs.Rebased.{rebased_as}
use Rattle.st_plain_branches.proofs.branches.rebase.Goals as goal

pub over-requires-clause-sound : goal.over-requires-clause-sound
over-requires-clause-sound c =
    let can = c.requires.can c.in-Some.place c.in-Some-get.branch.now c.in-Some-head_of.parent.now (ap (branch_place c.args.number) (sym c.as_slice.ensures) ∙ sym c.in-Some.ensures) (sym c.in-Some-get.ensures) (sym c.in-Some-head_of.ensures) in
    can.0

pub over-requires-clause-fit : goal.over-requires-clause-fit
over-requires-clause-fit c =
    let can = c.requires.can c.in-Some.place c.in-Some-get.branch.now c.in-Some-head_of.parent.now (ap (branch_place c.args.number) (sym c.as_slice.ensures) ∙ sym c.in-Some.ensures) (sym c.in-Some-get.ensures) (sym c.in-Some-head_of.ensures) in
    rw c.as_slice-2.ensures can.1

pub returns-clause-rebased : goal.returns-clause-rebased
returns-clause-rebased c =
    let b = c.in-Some-get.branch.now in
    let at = sym c.in-Some-get.ensures in
    let head = c.in_ok-head.head in
    let void = rw (c.as_slice-3.ensures, c.as_slice-4.ensures) at c.in_ok-void.ensures in
    rebased_as c.args.client.now c.set_ground.new.client c.args.kept.now c.set_ground.new.kept c.args.number c.in-Some.place b c.in-Some-2.ground c.in-Some-head_of.parent.now head (Rebase c.in_ok-void.void)
    (ap (branch_place c.args.number) (sym c.as_slice.ensures) ∙ sym c.in-Some.ensures) at (sym c.is_some.ensures ∙ c.if-is_some.false) (sym c.in_ok-ground.ensures ∙ c.in-Some-2.is) (sym c.in-Some-head_of.ensures) (rw c.as_slice-2.ensures at c.in_ok-head.ensures.carried)
    c.in_ok-head.ensures.no_edit (c.set_ground.ensures.client b at) c.set_ground.ensures.kept (ap (λ r. Rebase r) void)
