use Rattle.std.proofs.Common.{◌≡◌, Option, Some, None, cond, sym, ap, ◌∙◌}
use Rattle.st_lemmas.proofs.Options.{IfOk-along}
use Rattle.st_marks.specs.declared.schemas.SchemaStep.{SchemaStep}
use Rattle.st_listings.proofs.Settling.{settle_is}
use Rattle.st_listings.specs.Schemas.{settle}
use Rattle.st_listings.proofs.schemas.settle.Goals as goal

pub returns-then-are_empty : goal.returns-then-are_empty
returns-then-are_empty c =
    let front = c.shared_front-front.result.0 in
    let last = c.shared_front-front.result.1 in
    let goes = c.split_at.result.1.now in
    let comes = c.split_at-2.result.1.now in
    sym (settle_is c.args.on last c.args.cut.now c.args.add.now goes comes front c.shared_front-front.ensures.settling c.shared_front-front.ensures.ends c.split_at.ensures.back c.split_at-2.ensures.back
    ∙ ap (λ b. cond b None (Some (record { on = last; cut = goes; add = comes }))) (sym c.are_empty.ensures ∙ c.if-are_empty.true))

pub returns-else-are_empty : goal.returns-else-are_empty
returns-else-are_empty c =
    let front = c.shared_front-front.result.0 in
    let last = c.shared_front-front.result.1 in
    let goes = c.split_at.result.1.now in
    let comes = c.split_at-2.result.1.now in
    IfOk-along c.behind.result (λ (s : Option SchemaStep). s ≡ Some (record { on = last; cut = goes; add = comes })) (λ (s : Option SchemaStep). s ≡ settle c.args.on c.args.cut.now c.args.add.now)
    (λ s h. h ∙ sym (settle_is c.args.on last c.args.cut.now c.args.add.now goes comes front c.shared_front-front.ensures.settling c.shared_front-front.ensures.ends c.split_at.ensures.back c.split_at-2.ensures.back
    ∙ ap (λ b. cond b None (Some (record { on = last; cut = goes; add = comes }))) (sym c.are_empty.ensures ∙ c.if-are_empty.false))) c.behind.ensures
