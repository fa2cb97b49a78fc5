use Rattle.std.specs.BTreeMap.{get}
use Rattle.st_ids.specs.Order.{atom_cmp}
use Rattle.st_seq.proofs.NamedCells.{named_on}
use Rattle.st_seq.proofs.name_clashes.by_name.Goals as goal

pub loop-name-preserved : goal.loop-name-preserved
loop-name-preserved c = λ a. named_on c.args.names.now c.loop-name.name-index _ a (get atom_cmp c.keep.new.names a) (get atom_cmp c.loop-name.map a) c.loop-name-test.true (c.loop-name.invariant a) (c.in_ok-keep.ensures a)
