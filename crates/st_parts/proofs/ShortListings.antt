-- A listing of a change lists few cells of each row, where the intent leaves rows short.
use Rattle.std.proofs.Common.{◌≡◌, ◌<◌, ◌^◌, false, List, Option, MatchOption, length, ap, ◌∙◌, subst, arith}
use Rattle.std.specs.List.{list_any}
use Rattle.st_ids.specs.Listing.{Has}
use Rattle.st_ids.specs.Order.{node_cmp}
use Rattle.st_ids.proofs.Listings.{has-item_of}
use Rattle.st_ids.proofs.Orders.{node_cmp_exact, node_cmp_total}
use Rattle.st_kind.specs.Named.{Nodes}
use Rattle.st_marks.specs.declared.changes.Change.{Change}
use Rattle.st_marks.specs.declared.intents.Intent.{Intent}
use Rattle.st_marks.specs.declared.marks.RowMarks.{RowMarks}
use Rattle.st_marks.specs.CarryOut.{full}
use Rattle.st_marks.specs.Document.{Document, HasShortRows, content}
use Rattle.st_marks.specs.Embedding.{row_part, tells}
use Rattle.st_marks.specs.Row.{CellMark, embed_row, merge, spread}
use Rattle.st_marks.proofs.Members.{has-all}
use Rattle.st_rows.proofs.KindLaws.{spread-merge}
use Rattle.st_puts.proofs.RowLengths.{row_listed}
use Rattle.st_parts.specs.Short.{HasShortRowsListed}
use Rattle.st_parts.specs.TrimmedChange.{ListsChange}

-- what is listed of a row is what the intent says of it
pub row_is : (D : Document) (N : Intent) (K : Nodes) (G : Change) → ListsChange D N K G → (r : RowMarks) → Has G.rows r → spread r.marks ≡ embed_row (row_part K N r.node) (content D r.node)
row_is D N K G l r h =
    let cells : List CellMark = embed_row (row_part K N r.node) (content D r.node) in
    let listed = has-item_of node_cmp node_cmp_total node_cmp_exact (λ (q : RowMarks). q.node) G.rows r l.rows_rise h in
    ap spread (subst (λ (o : Option RowMarks). MatchOption o (list_any tells cells ≡ false) (λ q. q.marks ≡ merge cells)) listed (l.rows r.node)) ∙ spread-merge cells

pub listing_short : (D : Document) (N : Intent) (K : Nodes) (G : Change) → HasShortRows (full D N) → ListsChange D N K G → HasShortRowsListed G
listing_short D N K G short l = has-all (λ (r : RowMarks). length (spread r.marks) < 2 ^ 32) G.rows row_short
  where
    row_short : (r : RowMarks) → Has G.rows r → length (spread r.marks) < 2 ^ 32
    row_short r h =
        let long : length (spread r.marks) ≡ length ((full D N).rows r.node) = ap length (row_is D N K G l r h) ∙ row_listed D N K r.node in
        let few = short r.node in
        omega (arith, long, few)
