use Rattle.std.proofs.Common.{cond, Some, None, refl, sym, ap, ◌∙◌, inl, take}
use Rattle.std.specs.BTreeMap.{get, is_at}
use Rattle.std.specs.Map.{lookup}
use Rattle.std.specs.Option.{option_or}
use Rattle.std.specs.Ordering.{is_eq}
use Rattle.std.proofs.lemmas.List.{take_all}
use Rattle.st_ids.specs.Order.{node_cmp}
use Rattle.st_ids.proofs.Orders.{node_cmp_total}
use Rattle.st_marks.specs.declared.marks.RowMarks.{RowMarks}
use Rattle.st_moves.proofs.Indices.{indexed_all, indexed_more}
use Rattle.st_moves.proofs.index.index_rows.Goals as goal

pub loop-at-init : goal.loop-at-init
loop-at-init c = λ k. inl (ap (lookup (is_at (node_cmp k))) c.new-index.ensures.empty, refl)

pub loop-at-preserved : goal.loop-at-preserved
loop-at-preserved c = λ k.
    indexed_more node_cmp node_cmp_total (λ (r : RowMarks). r.node) c.args.items.now c.loop-at.at c.index-items-at.result k (get node_cmp c.loop-at.index k) (get node_cmp c.keep.new.index k) c.loop-at-test.true (sym c.index-items-at.is)
    (c.loop-at.invariant k) (c.in_ok-keep.ensures k
    ∙ ap (λ (r : RowMarks). option_or (get node_cmp c.loop-at.index k) (cond (is_eq (node_cmp r.node k)) (Some c.loop-at.at) None)) (sym c.index-items-at.is))

pub returns : goal.returns
returns c = λ k.
    indexed_all node_cmp node_cmp_total (λ (r : RowMarks). r.node) c.args.items.now (take c.loop-at.at c.args.items.now) k (get node_cmp c.loop-at.index k)
    (take_all c.loop-at.at c.args.items.now c.loop-at-test.false) (c.loop-at.invariant k)
