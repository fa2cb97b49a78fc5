use Rattle.std.proofs.Common.{ap, sym, ◌∙◌}
use Rattle.st_rows.proofs.RisingNodes.{rising, rising_behind}
use Rattle.st_seq.proofs.new_nodes.is_rising.Goals as goal

pub nodes-preserved : goal.nodes-preserved
nodes-preserved c = c.nodes.invariant ∙ ap rising c.in-Some.ensures ∙ rising_behind c.in-Some.node c.in-Some.others.now (sym c.is_below.ensures ∙ c.if-not-is_below.false)
