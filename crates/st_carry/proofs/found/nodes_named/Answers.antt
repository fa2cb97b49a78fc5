use Rattle.std.proofs.Common.{◌||◌, ◌&&◌, not, ap, ◌∙◌}
use Rattle.std.specs.BTreeSet.{contains}
use Rattle.st_ids.specs.Order.{node_cmp}
use Rattle.st_marks.specs.Embedding.{is_among}
use Rattle.st_marks.specs.Listings.{nodes_new}
use Rattle.st_cross_laws.specs.Crossed.{found_by_change, found_by_step}
use Rattle.st_carry.proofs.NodesRead.{named_then}
use Rattle.st_carry.proofs.found.nodes_named.Goals as goal

pub returns : goal.returns
returns c = λ n.
    named_then (contains node_cmp c.in_ok-set.set n) (contains node_cmp c.add_step.new.set n) (contains node_cmp c.add_unless_void.new.set n)
    (is_among (nodes_new c.args.change.now.new) n) (is_among (found_by_step c.args.step.now) n) (not (c.args.was && c.args.is) && is_among (found_by_change c.args.change.now) n)
    (c.in_ok-set.ensures n ∙ ap (λ l. is_among (nodes_new l) n) c.as_slice.ensures) (c.in_ok-add_step.ensures n)
    (c.in_ok-add_unless_void.ensures n ∙ ap (λ b. contains node_cmp c.add_step.new.set n || (not b && is_among (found_by_change c.args.change.now) n)) c.are_both.ensures)
