use Rattle.std.proofs.Common.{◌≡◌, drop}
use Rattle.st_marks.specs.Embedding.{is_among}
use Rattle.st_normal.specs.Rules.{in_rows}
use Rattle.st_author_over.specs.inside.Seen.{found_names}
use Rattle.st_author_over.proofs.look.finds_in_rows.Given as goal

abbrev pub invariant-loop-row : goal.invariant-loop-row
invariant-loop-row l = is_among (in_rows found_names (drop l.row-index l.rows)) l.node ≡ is_among (in_rows found_names l.rows) l.node
