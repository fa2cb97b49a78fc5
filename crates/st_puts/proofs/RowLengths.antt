-- How many cells a change lists of a row: those that the row has after the intent.
use Rattle.std.proofs.Common.{◌≡◌, ◌+◌, ◌++◌, Bool, List, [], ◌∷◌, None, Some, map, length, arith, length-append}
use Rattle.st_ids.specs.declared.names.NodeId.{NodeId}
use Rattle.st_marks.specs.CarryOut.{full, with_groups}
use Rattle.st_marks.specs.Document.{Document, content, slot}
use Rattle.st_marks.specs.Embedding.{row_part}
use Rattle.st_marks.specs.Intent.{group_at}
use Rattle.st_marks.specs.Row.{CellMark, RowPart, embed_cells, embed_made, embed_row}
use Rattle.st_marks.specs.declared.intents.Intent.{Intent}
use Rattle.st_marks.specs.declared.intents.Owned.{Owned}

pub made_listed : (p : RowPart) (os : List Owned) (xs : List CellMark) → length (embed_made p os ++ xs) ≡ length os + length xs
made_listed p [] xs = omega arith
made_listed p (o ∷ os) xs = omega (arith, made_listed p os xs)

module _ (D : Document) (N : Intent) (m : NodeId → Bool) (n : NodeId) where
  abbrev p : RowPart
  p = row_part m N n

  found_listed : (os : List Owned) → length (embed_cells p (map (slot D) os)) ≡ length (with_groups N n os)
  found_listed [] = omega arith
  found_listed (o ∷ os) =
      let made = made_listed p (group_at N n (Some o.cell)) (embed_cells p (map (slot D) os)) in
      omega (arith, made, length-append (group_at N n (Some o.cell)) (with_groups N n os), found_listed os)

  pub row_listed : length (embed_row p (content D n)) ≡ length ((full D N).rows n)
  row_listed =
      let made = made_listed p (group_at N n None) (embed_cells p (content D n)) in
      omega (arith, made, length-append (group_at N n None) (with_groups N n (D.rows n)), found_listed (D.rows n))
