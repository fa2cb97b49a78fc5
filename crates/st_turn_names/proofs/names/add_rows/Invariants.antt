use Rattle.std.proofs.Common.{◌≡◌, ◌++◌, ◌∷◌, take}
use Rattle.std.specs.List.{flat_map}
use Rattle.st_marks.specs.declared.marks.RowMarks.{RowMarks}
use Rattle.st_marks.specs.Listings.{nodes_in}
use Rattle.st_marks.specs.Row.{spread}
use Rattle.st_turn_names.proofs.names.add_rows.Given as goal

abbrev pub invariant-loop-row : goal.invariant-loop-row
invariant-loop-row l = l.names ≡ l.initial.names ++ flat_map (λ (r : RowMarks). r.node ∷ nodes_in (spread r.marks)) (take l.row-index l.rows)
