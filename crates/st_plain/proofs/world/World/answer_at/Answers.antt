use Rattle.std.proofs.Common.{ap, refl, subst, sym}
use Rattle.st_script.specs.Header.{header_view}
use Rattle.st_script.specs.Steps.{act_view}
use Rattle.st_script.specs.Steps as act
use Rattle.st_lists.specs.Lines.{main_line}
use Rattle.st_world.specs.World.{IsActOf}
use Rattle.st_plain.proofs.Choosing.{on_main_line}
use Rattle.st_plain.proofs.Stepping.{sound_later}
use Rattle.st_plain.proofs.world.World.answer_at.Goals as goal

pub returns-in-Fork-clause-next : goal.returns-in-Fork-clause-next
returns-in-Fork-clause-next c = on_main_line (header_view c.args.self.now.header) c.args.self.now.lists act.fork (act_view c.args.act.now) c.args.i c.fork.new.self.lists c.fork.result (ap act_view c.in-Fork.is) c.fork.ensures.next

pub returns-in-Rebase-clause-next : goal.returns-in-Rebase-clause-next
returns-in-Rebase-clause-next c = on_main_line (header_view c.args.self.now.header) c.args.self.now.lists act.rebase (act_view c.args.act.now) c.args.i c.rebase.new.self.lists c.rebase.result (ap act_view c.in-Rebase.is) c.rebase.ensures.next

pub returns-in-Merge-clause-next : goal.returns-in-Merge-clause-next
returns-in-Merge-clause-next c = on_main_line (header_view c.args.self.now.header) c.args.self.now.lists act.merge (act_view c.args.act.now) c.args.i c.merge.new.self.lists c.merge.result (ap act_view c.in-Merge.is) c.merge.ensures.next

pub returns-in-DropBranch-clause-next : goal.returns-in-DropBranch-clause-next
returns-in-DropBranch-clause-next c = λ q at.
    subst (λ z. IsActOf (header_view c.args.self.now.header) c.args.self.now.lists z c.args.i q 0 (main_line q) c.drop_branch.new.self.lists c.drop_branch.result) (sym (ap act_view c.in-DropBranch.is)) (c.drop_branch.ensures.next q (main_line q) at refl)

pub returns-in_ok-answer-in-Show-clause-next : goal.returns-in_ok-answer-in-Show-clause-next
returns-in_ok-answer-in-Show-clause-next c = λ q at.
    subst (λ z. IsActOf (header_view c.args.self.now.header) c.args.self.now.lists z c.args.i q 0 (main_line q) c.args.self.now.lists c.in_ok-answer-in-Show.answer) (sym (ap act_view c.in-Show.is)) (refl, c.in_ok-answer-in-Show.ensures q (main_line q) at refl)

pub returns-in_ok-answer-in-Show-clause-sound : goal.returns-in_ok-answer-in-Show-clause-sound
returns-in_ok-answer-in-Show-clause-sound c = sound_later c.args.self.now.steps c.args.self.now c.requires.sound

pub returns-in_ok-answer-in-Pending-clause-next : goal.returns-in_ok-answer-in-Pending-clause-next
returns-in_ok-answer-in-Pending-clause-next c = λ q at.
    subst (λ z. IsActOf (header_view c.args.self.now.header) c.args.self.now.lists z c.args.i q 0 (main_line q) c.args.self.now.lists c.in_ok-answer-in-Pending.answer) (sym (ap act_view c.in-Pending.is)) (refl, c.in_ok-answer-in-Pending.ensures q at)

pub returns-in_ok-answer-in-Pending-clause-sound : goal.returns-in_ok-answer-in-Pending-clause-sound
returns-in_ok-answer-in-Pending-clause-sound c = sound_later c.args.self.now.steps c.args.self.now c.requires.sound
