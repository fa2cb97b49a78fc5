use Rattle.std.proofs.Common.{◌≡◌, ◌||◌, ◌∙◌, ap, sym}
use Rattle.st_marks.specs.Embedding.{is_among}
use Rattle.st_marks.specs.Listings.{nodes_loose}
use Rattle.st_lemmas.proofs.Bools.{or-left}
use Rattle.st_author_over.proofs.Found.{finds_parts}
use Rattle.st_author_over.proofs.look.finds_anywhere.Goals as goal

pub returns-then-finds_somewhere : goal.returns-then-finds_somewhere
returns-then-finds_somewhere c = c.if-finds_somewhere.true ∙ sym (finds_parts c.args.step.now c.args.node ∙ or-left _ _ (sym c.finds_somewhere.ensures ∙ c.if-finds_somewhere.true))

pub returns-else-finds_somewhere : goal.returns-else-finds_somewhere
returns-else-finds_somewhere c =
    let n = c.args.node in
    let loose : c.is_loose.result ≡ is_among (nodes_loose c.args.step.now.loose) n = c.is_loose.ensures ∙ ap (λ l. is_among (nodes_loose l) n) c.as_slice.ensures in
    loose ∙ sym (finds_parts c.args.step.now n ∙ ap (λ b. b || is_among (nodes_loose c.args.step.now.loose) n) (sym c.finds_somewhere.ensures ∙ c.if-finds_somewhere.false))
