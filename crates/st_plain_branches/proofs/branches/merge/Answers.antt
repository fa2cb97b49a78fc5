use Rattle.std.proofs.Common.{None, Some, ap, refl, sym, ◌∙◌}
use Rattle.st_lemmas.proofs.Options.{IfOk-along, one_some}
use Rattle.st_script.specs.declared.answer.Answer.TheVariants.{No}
use Rattle.st_plain_branches.specs.Branches.{HasMerged}
use Rattle.st_lists.specs.Lines.{branch_place}
use Rattle.st_plain_branches.proofs.Merged.{merge_as, parent_few, removed_many, taken_as}
use Rattle.st_plain_branches.proofs.branches.merge.Goals as goal

pub refusal_to_merge-requires-clause-parent : goal.refusal_to_merge-requires-clause-parent
refusal_to_merge-requires-clause-parent c =
    parent_few c.args.client.now c.in-Some-get.branch.now.parent c.in-Some-line_state.parent c.requires.own c.requires.pending (sym c.in-Some-line_state.ensures)

pub returns-in-Some-refusal_to_merge-clause-merged : goal.returns-in-Some-refusal_to_merge-clause-merged
returns-in-Some-refusal_to_merge-clause-merged c =
    let client = c.args.client.now in
    let kept = c.args.kept.now in
    let why = c.in-Some-refusal_to_merge.refusal in
    merge_as client kept c.args.number c.in-Some.place c.in-Some-get.branch.now c.in-Some-line_state.parent (Some why) (λ j b p o. HasMerged client kept j b p o client kept (No why))
    (ap (branch_place c.args.number) (sym c.as_slice.ensures) ∙ sym c.in-Some.ensures) (sym c.in-Some-get.ensures) (sym c.in-Some-line_state.ensures) c.in-Some-refusal_to_merge.ensures (λ p at. (refl, refl, refl))

pub merge_into-requires-clause-heads : goal.merge_into-requires-clause-heads
merge_into-requires-clause-heads c =
    rw (c.take_branch-branch.ensures.client, c.take_branch-branch.ensures.kept) (removed_many c.args.kept.now.branches c.args.client.now.branches c.in-Some.place c.requires.heads)

pub merge_into-requires-clause-can : goal.merge_into-requires-clause-can
merge_into-requires-clause-can c p at =
    let here = rw (c.take_branch-branch.ensures.client, c.take_branch-branch.ensures.kept) at at in
    rw c.as_slice-2.ensures (c.requires.can c.in-Some.place c.take_branch-branch.result p (ap (branch_place c.args.number) (sym c.as_slice.ensures) ∙ sym c.in-Some.ensures) c.take_branch-branch.ensures.branch here)

pub returns-clause-merged : goal.returns-clause-merged
returns-clause-merged c =
    let client = c.args.client.now in
    let kept = c.args.kept.now in
    let i = c.in-Some.place in
    let x = c.in-Some-get.branch.now in
    let y = c.take_branch-branch.result in
    let at = sym c.in-Some-get.ensures in
    let same = one_some y x (sym c.take_branch-branch.ensures.branch ∙ at) in
    let d = c.merge_into.new.client in
    let l = c.merge_into.new.kept in
    IfOk-along c.merge_into.result _ _ (λ a told.
    merge_as client kept c.args.number i x c.in-Some-line_state.parent None (λ j b p o. HasMerged client kept j b p o d l a)
    (ap (branch_place c.args.number) (sym c.as_slice.ensures) ∙ sym c.in-Some.ensures) at (sym c.in-Some-line_state.ensures) c.in_default-refusal_to_merge.ensures
    (taken_as client c.take_branch-branch.new.client d kept c.take_branch-branch.new.kept l i x y c.as_slice-2.result.now a c.take_branch-branch.ensures.client c.take_branch-branch.ensures.kept c.as_slice-2.ensures same told)) c.merge_into.ensures
