use Rattle.std.proofs.Common.{◌≡◌, ◌↔◌, ◌∙◌, IsTrue, None, [], ap, subst, sym, unwrap_or}
use Rattle.std.specs.BTreeMap.{get}
use Rattle.st_ids.specs.Order.{node_cmp}
use Rattle.st_marks.specs.Listings.{cells_before, marks_of}
use Rattle.st_marks.specs.Row.{spread}
use Rattle.st_puts.specs.Seen.{AreAsSeen}
use Rattle.st_author_laws.specs.Back.{row_back}
use Rattle.st_author_over.specs.inside.Seen.{row_seen}
use Rattle.st_author_over.proofs.SidesOfRows.{back-empty}
use Rattle.st_author_over.proofs.seen.BeforeFindsRowMarks.finds.Goals as goal

pub returns-in-None : goal.returns-in-None
returns-in-None c =
    let F = c.args.self.now.forest.now in
    let S = c.args.self.now.step.now in
    let r = c.args.row.now in
    let none : get node_cmp F.rows r.node ≡ None = sym c.in-None.ensures.value in
    let empty : row_seen F S r.node ≡ [] = ap (λ o. row_back (unwrap_or o []) (marks_of S.rows r.node)) none ∙ back-empty (marks_of S.rows r.node) in
    subst (λ d. IsTrue c.finds_none.result ↔ AreAsSeen d (cells_before (spread r.marks))) (sym empty) c.finds_none.ensures
