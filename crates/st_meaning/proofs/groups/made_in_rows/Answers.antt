use Rattle.std.proofs.Common.{◌++◌, ◌∙◌, [], unwrap_or, sym, ap}
use Rattle.std.specs.BTreeMap.{is_at}
use Rattle.std.specs.Map.{lookup}
use Rattle.st_doc.specs.Doc.{document_of}
use Rattle.st_marks.specs.Row.{spread}
use Rattle.st_meaning.specs.InOrder.{place_cmp}
use Rattle.st_meaning.specs.inside.Made.{at_place, cells_at, made_from, made_in_row}
use Rattle.st_meaning.proofs.Loops.{flat_more}
use Rattle.st_meaning.proofs.groups.made_in_rows.Goals as goal

pub loop-row-init : goal.loop-row-init
loop-row-init c = λ n a. ap (λ es. unwrap_or (lookup (is_at (place_cmp (n, a))) es) []) c.new-cells.ensures.empty

pub loop-row-preserved : goal.loop-row-preserved
loop-row-preserved c = λ n a.
    flat_more (made_in_row (document_of c.args.doc.now) n a) (cells_at c.loop-row.cells n a) (cells_at c.keep_row.new.cells n a) c.args.rows.now c.loop-row.row-index c.row-item.result c.row-item.result c.loop-row-test.true (sym c.row-item.is)
    (c.loop-row.invariant n a) (c.in_ok-keep_row.ensures n a ∙ (λ i. cells_at c.loop-row.cells n a ++ at_place c.row-item.result.node n a (made_from (c.cells.ensures i) 0 (spread (c.as_slice.ensures i)))))
