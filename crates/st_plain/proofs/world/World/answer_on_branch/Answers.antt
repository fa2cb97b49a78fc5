use Rattle.std.proofs.Common.{ap, refl, subst, sym}
use Rattle.st_script.specs.Header.{header_view}
use Rattle.st_script.specs.Steps.{act_view, edit_view}
use Rattle.st_script.specs.Steps as act
use Rattle.st_world.specs.World.{IsActOf}
use Rattle.st_plain.proofs.Choosing.{as_act, as_whole}
use Rattle.st_plain.proofs.Stepping.{sound_later}
use Rattle.st_plain.proofs.world.World.answer_on_branch.Goals as goal

pub returns-in-Edit-clause-next : goal.returns-in-Edit-clause-next
returns-in-Edit-clause-next c =
    as_act (header_view c.args.self.now.header) c.args.self.now.lists (act.edit (edit_view c.in-Edit.edit)) (act_view c.args.act.now) c.args.i c.args.number c.edit_branch.new.self.lists c.edit_branch.result (ap act_view c.in-Edit.is) c.edit_branch.ensures.next

pub returns-in_ok-answer-in-Show-clause-next : goal.returns-in_ok-answer-in-Show-clause-next
returns-in_ok-answer-in-Show-clause-next c = λ q l at line.
    subst (λ z. IsActOf (header_view c.args.self.now.header) c.args.self.now.lists z c.args.i q c.args.number l c.args.self.now.lists c.in_ok-answer-in-Show.answer) (sym (ap act_view c.in-Show.is)) (refl, c.in_ok-answer-in-Show.ensures q l at line)

pub returns-in_ok-answer-in-Show-clause-sound : goal.returns-in_ok-answer-in-Show-clause-sound
returns-in_ok-answer-in-Show-clause-sound c = sound_later c.args.self.now.steps c.args.self.now c.requires.sound

pub returns-in-Join-clause-next : goal.returns-in-Join-clause-next
returns-in-Join-clause-next c = as_whole (header_view c.args.self.now.header) c.args.self.now.lists c.args.i c.args.number c.answer_at.new.self.lists c.args.act.now c.in-Join.is c.answer_at.result c.answer_at.ensures.next

pub returns-in-DropBranch-clause-next : goal.returns-in-DropBranch-clause-next
returns-in-DropBranch-clause-next c = λ q l at line.
    subst (λ z. IsActOf (header_view c.args.self.now.header) c.args.self.now.lists z c.args.i q c.args.number l c.drop_branch.new.self.lists c.drop_branch.result) (sym (ap act_view c.in-DropBranch.is)) (c.drop_branch.ensures.next q l at line)
