use Rattle.std.proofs.Common.{◌≡◌, drop}
use Rattle.st_marks.specs.Embedding.{is_among}
use Rattle.st_marks.specs.Listings.{nodes_loose}
use Rattle.st_author_over.proofs.look.is_loose.Given as goal

abbrev pub invariant-loop-one : goal.invariant-loop-one
invariant-loop-one l = is_among (nodes_loose (drop l.one-index l.loose)) l.node ≡ is_among (nodes_loose l.loose) l.node
