use Rattle.std.proofs.Common.{◌||◌, ap, ◌∙◌}
use Rattle.st_marks.specs.Embedding.{is_among}
use Rattle.st_marks.specs.Listings.{nodes_new}
use Rattle.st_part_rings.proofs.links.nodes_made.Goals as goal

pub returns : goal.returns
returns c = λ n. c.in_ok-add_new.ensures n ∙ ap (λ b. b || is_among (nodes_new c.args.second.now) n) (c.in_ok-made.ensures n)
