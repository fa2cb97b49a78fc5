use Rattle.std.specs.BTreeSet.{contains}
use Rattle.st_ids.specs.Order.{node_cmp}
use Rattle.st_carry.proofs.NodesRead.{placed_then}
use Rattle.st_carry.proofs.found.add_placed.Goals as goal

pub returns : goal.returns
returns c = λ n.
    placed_then c.args.after c.args.rows.now c.args.regs.now n (contains node_cmp c.args.set.now n) (contains node_cmp c.add_rows.new.set n) (contains node_cmp c.add_registers.new.set n)
    (c.in_ok-add_rows.ensures n) (c.in_ok-add_registers.ensures n)
