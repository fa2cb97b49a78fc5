-- The length of a row after a change: that of its marks.
use Rattle.std.proofs.Common.{◌≡◌, ◌+◌, ◌++◌, Bool, List, [], ◌∷◌, map, length, None, Some, refl, arith}
use Rattle.st_ids.specs.declared.names.NodeId.{NodeId}
use Rattle.st_marks.specs.declared.intents.Intent.{Intent}
use Rattle.st_marks.specs.declared.intents.Owned.{Owned}
use Rattle.st_marks.specs.CarryOut.{full, with_groups}
use Rattle.st_marks.specs.Document.{Document, content, slot}
use Rattle.st_marks.specs.Embedding.{row_part}
use Rattle.st_marks.specs.Intent.{group_at}
use Rattle.st_marks.specs.Row.{CellMark, RowPart, embed_cells, embed_made, embed_row}
use Rattle.st_lemmas.proofs.Lists.{length-append}

made-length : (p : RowPart) (os : List Owned) (ms : List CellMark) → length (embed_made p os ++ ms) ≡ length os + length ms
made-length p [] ms = omega arith
made-length p (q ∷ os) ms = omega (arith, made-length p os ms)

module _ (D : Document) (N : Intent) (m : NodeId → Bool) where
  abbrev part : NodeId → RowPart
  part n = row_part m N n

  cells-length : (n : NodeId) (os : List Owned) → length (embed_cells (part n) (map (slot D) os)) ≡ length (with_groups N n os)
  cells-length n [] = refl
  cells-length n (p ∷ os) = let a = made-length (part n) (group_at N n (Some p.cell)) (embed_cells (part n) (map (slot D) os)) in let b = length-append (group_at N n (Some p.cell)) (with_groups N n os) in omega (arith, a, b, cells-length n os)

  pub row-length : (n : NodeId) → length (embed_row (part n) (content D n)) ≡ length ((full D N).rows n)
  row-length n = let a = made-length (part n) (group_at N n None) (embed_cells (part n) (content D n)) in let b = length-append (group_at N n None) (with_groups N n (D.rows n)) in let c = cells-length n (D.rows n) in omega (arith, a, b, c)
