use Rattle.std.proofs.Common.{ap, ◌∙◌}
use Rattle.st_marks.specs.Embedding.{is_among}
use Rattle.st_marks.specs.Listings.{nodes_new}
use Rattle.st_over.proofs.Shown.{shown}
use Rattle.st_carry.proofs.over.over_data.Goals as goal

pub over_known-requires-clause-made : goal.over_known-requires-clause-made
over_known-requires-clause-made g c = λ n. c.in_ok-made.ensures n ∙ ap (λ l. is_among (nodes_new l) n) c.as_slice.ensures

pub over_known-requires-clause-known : goal.over_known-requires-clause-known
over_known-requires-clause-known g c = λ D N x f r n. c.in_ok-puts.ensures D N x f (shown g.R.Reading.listed D N c.args.change.now r) n
