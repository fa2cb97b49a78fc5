use Rattle.std.proofs.Common.{ap, sym, ◌&&◌, ◌∙◌}
use Rattle.st_marks.specs.Row.{spread}
use Rattle.st_seq.specs.inside.NormalForm.{are_allowed}
use Rattle.st_seq.proofs.Forms.{allowed_on}
use Rattle.st_seq.proofs.form.Made.are_allowed.Goals as goal

pub marks-preserved : goal.marks-preserved
marks-preserved c =
    let made = c.args.self.now in
    let all = spread made.marks.now in
    c.marks.invariant
    ∙ ap (λ l. are_allowed made.rev made.row.now all (spread l)) c.in-Some.ensures
    ∙ allowed_on made.rev made.row.now all c.in-Some.mark c.in-Some.others.now
    ∙ ap (λ b. b && are_allowed made.rev made.row.now all (spread c.in-Some.others.now)) (sym c.is_allowed.ensures ∙ c.if-not-is_allowed.false)
