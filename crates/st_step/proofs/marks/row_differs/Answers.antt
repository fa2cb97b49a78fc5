use Rattle.std.proofs.Common.{sym, ap, ◌∙◌, ◌||◌, refl, get_or}
use Rattle.std.specs.List.{list_any}
use Rattle.std.proofs.lemmas.List.Folds.{list_any_at}
use Rattle.st_lemmas.proofs.FirstItems.{any_more}
use Rattle.st_doc.specs.Doc.{document_of}
use Rattle.st_doc.proofs.Look.{no_cell}
use Rattle.st_step.specs.inside.Marks.{differs}
use Rattle.st_step.proofs.marks.row_differs.Goals as goal

pub returns-then-differs : goal.returns-then-differs
returns-then-differs c =
    let p = differs (document_of c.args.doc.now) (document_of c.args.later.now) in
    let os = c.cells-owned-items.result.now in
    sym (list_any_at p os c.loop-owned.owned-index no_cell c.loop-owned-test.true (sym c.if-differs.ensures)) ∙ ap (list_any p) c.cells-owned-items.ensures

pub loop-owned-preserved : goal.loop-owned-preserved
loop-owned-preserved c =
    let p = differs (document_of c.args.doc.now) (document_of c.args.later.now) in
    let os = c.cells-owned-items.result.now in
    any_more p os c.loop-owned.owned-index no_cell (get_or os c.loop-owned.owned-index no_cell) c.loop-owned-test.true refl
    ∙ (λ i. c.loop-owned.invariant i || sym c.if-differs.ensures i)
