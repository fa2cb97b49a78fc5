use Rattle.std.proofs.Common.{◌≡◌, ◌↔◌, IsTrue, ◌+◌, ◌∷◌, false, true, drop, subst, arith}
use Rattle.std.proofs.lemmas.Grind.{common_steps}
use Rattle.st_marks.specs.declared.marks.Mark.{Mark}
use Rattle.st_marks.specs.Row.{merge, spread}
use Rattle.st_normal.proofs.Merged.{is_merged, merged_alone, may_not_stand}
use Rattle.st_normal.proofs.row_rules.is_merged.Goals as goal

pub returns-then-not-may_skip : goal.returns-then-not-may_skip
returns-then-not-may_skip c =
    let ms = c.args.marks.now in
    let rest = drop (c.loop-mark.mark-index + 1) ms in
    let e : is_merged c.loop-mark.behind_skip (Mark.Skip c.in-Skip.count ∷ rest) ≡ false =
    may_not_stand c.loop-mark.behind_skip c.may_skip.result c.in-Skip.count rest c.may_skip.ensures c.if-not-may_skip.true in
    let f : is_merged false ms ≡ false = grind (arith, common_steps) in
    subst (λ b. IsTrue b ↔ (ms ≡ merge (spread ms))) f (merged_alone ms)

pub returns : goal.returns
returns c =
    let ms = c.args.marks.now in
    let f : is_merged false ms ≡ true = grind (arith, common_steps) in
    subst (λ b. IsTrue b ↔ (ms ≡ merge (spread ms))) f (merged_alone ms)
