use Rattle.std.proofs.Common.{◌≡◌, ◌+◌, ◌++◌, option_map, length, map}
use Rattle.st_marks.specs.Row.{spread}
use Rattle.st_marks.specs.Listings.{cells_before}
use Rattle.st_rows.specs.Merged.{IsMerged}
use Rattle.st_rows.specs.Heads.{marks_left}
use Rattle.st_rows.proofs.merge_walk.write_pieces.Given as goal

abbrev pub invariant-cells : goal.invariant-cells
invariant-cells g l = record {
  merged : IsMerged l.out;
  whole : spread l.out ++ map (g.T.Table.cell l.table) (g.W.Walk.pieces (marks_left l.x_left l.x_rest) (marks_left l.y_left l.y_rest)) ≡ map (g.T.Table.cell l.table) (g.W.Walk.pieces (spread l.first) (spread l.then));
  place : l.found + length (cells_before (marks_left l.y_left l.y_rest)) ≡ length (cells_before (spread l.then));
  apart : g.W.Walk.difference (spread l.first) (spread l.then) ≡ option_map (λ k. l.found + k) (g.W.Walk.difference (marks_left l.x_left l.x_rest) (marks_left l.y_left l.y_rest));
}

abbrev pub decreases-cells : goal.decreases-cells
decreases-cells g l = length (marks_left l.x_left l.x_rest) + length (marks_left l.y_left l.y_rest)
