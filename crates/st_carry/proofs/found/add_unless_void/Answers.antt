use Rattle.std.proofs.Common.{◌||◌, ◌&&◌, not, sym, ap, ◌∙◌}
use Rattle.std.specs.BTreeSet.{contains}
use Rattle.st_ids.specs.Order.{node_cmp}
use Rattle.st_marks.specs.Embedding.{is_among}
use Rattle.st_cross_laws.specs.Crossed.{found_by_change}
use Rattle.st_carry.proofs.NodesRead.{unless_true}
use Rattle.st_carry.proofs.found.add_unless_void.Goals as goal

pub returns-then-void : goal.returns-then-void
returns-then-void c = λ n.
    unless_true (contains node_cmp c.args.set.now n)
    ∙ ap (λ b. contains node_cmp c.args.set.now n || (not b && is_among (found_by_change c.args.change.now) n)) (sym c.if-void.true)
