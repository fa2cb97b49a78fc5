use Rattle.std.proofs.Common.{◌≡◌, List, sym, ap, ◌∙◌, subst, IfOk}
use Rattle.std.specs.BTreeMap.{get, is_at}
use Rattle.std.specs.BTreeSet.{contains}
use Rattle.std.specs.List.{list_any}
use Rattle.st_ids.specs.Order.{node_cmp}
use Rattle.st_marks.specs.declared.marks.Mark.{Mark}
use Rattle.st_marks.specs.Row.{spread}
use Rattle.st_reading.specs.Bridge.{crossed_row}
use Rattle.st_rows.specs.Merged.{IsMerged}
use Rattle.st_cross.proofs.Fields.{placed_all, placed_none}
use Rattle.st_cross.proofs.rows.marks_of.Goals as goal

pub returns-then-contains : goal.returns-then-contains
returns-then-contains g c =
    subst (λ p. IfOk c.marks_placed.result (λ (ms : List Mark). IsMerged ms × (spread ms ≡ crossed_row g.R.Reading.listed c.args.across.now.was c.args.across.now.is p (get node_cmp c.args.across.now.puts.now) (spread c.args.change.now) (spread c.args.step.now))))
    (placed_all (contains node_cmp c.args.across.now.made.now) c.args.node (sym c.contains.ensures ∙ c.if-contains.true)) c.marks_placed.ensures

pub returns-else-contains : goal.returns-else-contains
returns-else-contains g c =
    subst (λ p. IfOk c.marks_placed-else-contains.result (λ (ms : List Mark). IsMerged ms × (spread ms ≡ crossed_row g.R.Reading.listed c.args.across.now.was c.args.across.now.is p (get node_cmp c.args.across.now.puts.now) (spread c.args.change.now) (spread c.args.step.now))))
    (placed_none (contains node_cmp c.args.across.now.made.now) (contains node_cmp c.new.result) c.args.node (sym c.contains.ensures ∙ c.if-contains.false) (λ k. ap (list_any (is_at (node_cmp k))) c.new.ensures.empty)) c.marks_placed-else-contains.ensures
