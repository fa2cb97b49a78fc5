use Rattle.std.proofs.Common.{◌≡◌, true, false, ap, is_some, subst, sym, ◌∙◌}
use Rattle.st_lists.specs.Lines.{Line, line_of}
use Rattle.st_script.specs.Header.{header_view}
use Rattle.st_script.specs.Steps.{step_view}
use Rattle.st_script.specs.declared.answer.Answer.TheVariants.{No}
use Rattle.st_script.specs.declared.refusal.Refusal.TheVariants.{NoBranch, NotConnected}
use Rattle.st_world.specs.World.{ByConnected, IsActOf, branch_at, needs_connection}
use Rattle.st_plain.proofs.Choosing.{no_line, some_line}
use Rattle.st_plain.proofs.Stepping.{by_connected, is_there, next_none, next_present, not_connected, on_line, on_no_line, sound_later}
use Rattle.st_plain.proofs.world.World.answer.Goals as goal

pub returns-in_default-clause-next : goal.returns-in_default-clause-next
returns-in_default-clause-next c =
    next_none (header_view c.args.self.now.header) c.args.self.now.lists (step_view c.args.step.now) c.answer_none.new.self.lists c.in_ok-answer.answer (sym c.in_default.ensures)
    c.in_ok-answer.ensures.next

pub returns-then-not-has_line-clause-next : goal.returns-then-not-has_line-clause-next
returns-then-not-has_line-clause-next c =
    let h = header_view c.args.self.now.header in
    let w = c.args.self.now.lists in
    let s = step_view c.args.step.now in
    let k = branch_at s.branch s.act in
    next_present h w s c.in-Some.i w (No NoBranch) (sym c.in-Some.ensures)
    (λ q at.
    let there : is_some (line_of q k) ≡ false = sym (ap (λ n. is_some (line_of q n)) c.branch_of-number.ensures) ∙ sym (c.has_line.ensures q at) ∙ c.if-not-has_line.true in
    on_no_line w (λ (x : Line). ByConnected (needs_connection s.act) q.connected w w (No NoBranch) (IsActOf h w s.act c.in-Some.i q k x w (No NoBranch))) (line_of q k) (no_line (line_of q k) there))

pub returns-then-not-has_line-clause-sound : goal.returns-then-not-has_line-clause-sound
returns-then-not-has_line-clause-sound c = sound_later c.args.self.now.steps c.args.self.now c.requires.sound

pub returns-then-is_out-clause-next : goal.returns-then-is_out-clause-next
returns-then-is_out-clause-next c =
    let h = header_view c.args.self.now.header in
    let w = c.args.self.now.lists in
    let s = step_view c.args.step.now in
    let k = branch_at s.branch s.act in
    next_present h w s c.in-Some.i w (No NotConnected) (sym c.in-Some.ensures)
    (λ q at.
    let there : is_some (line_of q k) ≡ true = sym (ap (λ n. is_some (line_of q n)) c.branch_of-number.ensures) ∙ sym (c.has_line.ensures q at) ∙ c.if-not-has_line.false in
    let l = some_line (line_of q k) there in
    on_line w w (No NotConnected) (λ (x : Line). ByConnected (needs_connection s.act) q.connected w w (No NotConnected) (IsActOf h w s.act c.in-Some.i q k x w (No NotConnected))) (line_of q k) l.0 l.1
    (not_connected (needs_connection s.act) q.connected w (IsActOf h w s.act c.in-Some.i q k l.0 w (No NotConnected)) (sym (c.is_out.ensures q at) ∙ c.if-is_out.true)))

pub returns-then-is_out-clause-sound : goal.returns-then-is_out-clause-sound
returns-then-is_out-clause-sound c = sound_later c.args.self.now.steps c.args.self.now c.requires.sound

pub answer_on-requires-clause-connected : goal.answer_on-requires-clause-connected
answer_on-requires-clause-connected c = λ needs q at. is_there (needs_connection (step_view c.args.step.now).act) q.connected needs (sym (c.is_out.ensures q at) ∙ c.if-is_out.false)

pub returns-clause-next : goal.returns-clause-next
returns-clause-next c =
    let h = header_view c.args.self.now.header in
    let w = c.args.self.now.lists in
    let s = step_view c.args.step.now in
    let k = branch_at s.branch s.act in
    let v = c.answer_on.new.self.lists in
    let a = c.in_ok-answer-2.answer in
    next_present h w s c.in-Some.i v a (sym c.in-Some.ensures)
    (λ q at.
    let there : is_some (line_of q k) ≡ true = sym (ap (λ n. is_some (line_of q n)) c.branch_of-number.ensures) ∙ sym (c.has_line.ensures q at) ∙ c.if-not-has_line.false in
    let l = some_line (line_of q k) there in
    on_line w v a (λ (x : Line). ByConnected (needs_connection s.act) q.connected w v a (IsActOf h w s.act c.in-Some.i q k x v a)) (line_of q k) l.0 l.1
    (by_connected (needs_connection s.act) q.connected w v a (IsActOf h w s.act c.in-Some.i q k l.0 v a) (sym (c.is_out.ensures q at) ∙ c.if-is_out.false)
    (subst (λ n. IsActOf h w s.act c.in-Some.i q n l.0 v a) c.branch_of-number.ensures (c.in_ok-answer-2.ensures.next q l.0 at (ap (λ n. line_of q n) c.branch_of-number.ensures ∙ l.1)))))
