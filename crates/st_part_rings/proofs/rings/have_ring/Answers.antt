use Rattle.std.proofs.Common.{◌≡◌, Bool, true, false, arith}
use Rattle.std.specs.BTreeMap.{get}
use Rattle.st_ids.specs.Order.{node_cmp}
use Rattle.st_ids.specs.Root.{root}
use Rattle.st_part_rings.proofs.UpTables.{all_gone, gone_more}
use Rattle.st_part_rings.proofs.rings.have_ring.Goals as goal

pub nodes-preserved : goal.nodes-preserved
nodes-preserved c = record {
  within = omega (arith, c.nodes-test.true);
  ended = c.in_ok-closes_ring.ensures.ended c.if-branch.false;
  gone = gone_more (get node_cmp c.args.up.now) c.args.links.now c.nodes.at (record { node = root; up = root }) c.nodes-test.true (c.in_ok-closes_ring.ensures.ends c.if-branch.false) c.nodes.invariant.gone;
}

pub returns : goal.returns
returns c = (λ e. let bad : ◌≡◌ {A = Bool} false true = e in cc, λ r. absurd (all_gone (get node_cmp c.args.up.now) c.args.links.now c.nodes.at c.requires c.nodes-test.false c.nodes.invariant.gone r))
