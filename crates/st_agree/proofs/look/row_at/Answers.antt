use Rattle.std.proofs.Common.{◌≡◌, rules, slice_get, sym, ◌∙◌}
use Rattle.std.proofs.lemmas.List.Sorted.{answers_always}
use Rattle.std.specs.Option.{option_copied}
use Rattle.st_ids.specs.Order.{node_cmp}
use Rattle.st_ids.proofs.Orders.{node_cmp_exact, node_cmp_total}
use Rattle.st_marks.specs.declared.marks.RowMarks.{RowMarks}
use Rattle.st_clash.proofs.ItemSearch.{copied_at, searched}
use Rattle.st_agree.proofs.look.row_at.Goals as goal

pub returns-in-Ok : goal.returns-in-Ok
returns-in-Ok c =
    let facts = c.binary_search_by_key.ensures in
    let position = facts.position (λ (r : RowMarks). r.node) (answers_always _ _ _ (λ f a r g called. search rules)) in
    let found = searched node_cmp node_cmp_total node_cmp_exact (λ (r : RowMarks). r.node) c.args.rows.now c.args.node c.binary_search_by_key.result c.requires facts.bound position in
    let copied : option_copied c.get.result ≡ slice_get c.args.rows.now c.in-Ok.at = copied_at c.args.rows.now c.in-Ok.at c.get.result c.in-Ok.ensures.bound c.get.ensures.lookup.0 c.get.ensures.lookup.1 in
    copied ∙ rw c.in-Ok.is at found

pub returns-in-Err : goal.returns-in-Err
returns-in-Err c =
    let facts = c.binary_search_by_key.ensures in
    let position = facts.position (λ (r : RowMarks). r.node) (answers_always _ _ _ (λ f a r g called. search rules)) in
    let found = searched node_cmp node_cmp_total node_cmp_exact (λ (r : RowMarks). r.node) c.args.rows.now c.args.node c.binary_search_by_key.result c.requires facts.bound position in
    sym (rw c.in-Err.is at found)
