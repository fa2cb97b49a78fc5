use Rattle.std.proofs.Common.{◌≡◌, ◌+◌, ◌∷◌, [], length, arith, ap, ◌∙◌}
use Rattle.st_marks.specs.declared.marks.Mark.{Mark}
use Rattle.st_marks.specs.Row.{spread}
use Rattle.st_rows.proofs.MergedMarks.{length-counted}
use Rattle.st_rows.proofs.mark_builder.push.Goals as goal

pub push_count-requires-clause-room : goal.push_count-requires-clause-room
push_count-requires-clause-room c =
    let l : length (spread (c.args.mark ∷ [])) ≡ c.in-Skip.k + 0 = ap (λ (m : Mark). length (spread (m ∷ []))) c.in-Skip.is ∙ length-counted c.in-Skip.k [] in
    omega (arith, c.requires.room)
