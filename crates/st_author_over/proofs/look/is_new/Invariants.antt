use Rattle.std.proofs.Common.{◌≡◌, drop}
use Rattle.st_marks.specs.Embedding.{is_among}
use Rattle.st_marks.specs.Listings.{nodes_new}
use Rattle.st_author_over.proofs.look.is_new.Given as goal

abbrev pub invariant-loop-one : goal.invariant-loop-one
invariant-loop-one l = is_among (nodes_new (drop l.one-index l.new)) l.node ≡ is_among (nodes_new l.new) l.node
