-- A change lists few cells of each row, where the intent leaves rows short.
use Rattle.std.proofs.Common.{◌≡◌, ◌<◌, ◌^◌, List, Some, length, sym, ap, ◌∙◌, arith}
use Rattle.std.specs.List.{list_any}
use Rattle.st_ids.proofs.Listings.{has-item_of}
use Rattle.st_ids.proofs.Orders.{node_cmp_total, node_cmp_exact}
use Rattle.st_ids.specs.Listing.{Has}
use Rattle.st_ids.specs.Order.{node_cmp}
use Rattle.st_marks.proofs.Members.{has-all}
use Rattle.st_marks.specs.CarryOut.{full}
use Rattle.st_marks.specs.Document.{Document, HasShortRows, content}
use Rattle.st_marks.specs.Embedding.{IsEmbedding, row_marks, row_part, tells}
use Rattle.st_marks.specs.Row.{CellMark, embed_row, merge, spread}
use Rattle.st_marks.specs.declared.changes.Change.{Change}
use Rattle.st_marks.specs.declared.intents.Intent.{Intent}
use Rattle.st_marks.specs.declared.marks.RowMarks.{RowMarks}
use Rattle.st_rows.proofs.KindLaws.{spread-merge}
use Rattle.st_puts.proofs.RowLengths.{row_listed}
use Rattle.st_effect.specs.Short.{HasShortRowsListed}
use Rattle.st_puts.proofs.ListedIf.{shown-Some}

pub change_short : (D : Document) (N : Intent) (C : Change) → HasShortRows (full D N) → IsEmbedding D N C → HasShortRowsListed C
change_short D N C short e = has-all (λ (r : RowMarks). length (spread r.marks) < 2 ^ 32) C.rows row_short
  where
    row_short : (r : RowMarks) → Has C.rows r → length (spread r.marks) < 2 ^ 32
    row_short r h =
        let cells : List CellMark = embed_row (row_part e.mentioned N r.node) (content D r.node) in
        let listed : row_marks r.node cells ≡ Some r = sym (e.rows.at_each r.node) ∙ has-item_of node_cmp node_cmp_total node_cmp_exact (λ (q : RowMarks). q.node) C.rows r e.rows.rising h in
        let is : r ≡ record { node = r.node; marks = merge cells } = shown-Some (list_any tells cells) (record { node = r.node; marks = merge cells }) r listed in
        let long : length (spread r.marks) ≡ length ((full D N).rows r.node) =
        ap (λ (q : RowMarks). length (spread q.marks)) is ∙ ap length (spread-merge cells) ∙ row_listed D N e.mentioned r.node in
        let few = short r.node in
        omega (arith, long, few)
