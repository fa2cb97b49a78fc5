use Rattle.std.proofs.Common.{◌≡◌, drop}
use Rattle.st_marks.specs.Embedding.{is_among}
use Rattle.st_marks.specs.Row.{spread}
use Rattle.st_author_over.specs.inside.Seen.{found_names}
use Rattle.st_author_over.proofs.look.finds_in_row.Given as goal

abbrev pub invariant-loop-mark : goal.invariant-loop-mark
invariant-loop-mark l = is_among (found_names (spread (drop l.mark-index l.marks))) l.node ≡ is_among (found_names (spread l.marks)) l.node
