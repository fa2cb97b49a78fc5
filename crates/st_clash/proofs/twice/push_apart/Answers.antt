use Rattle.std.proofs.Common.{None, get_or, refl}
use Rattle.std.specs.BTreeMap.{get}
use Rattle.st_ids.specs.Order.{cell_cmp}
use Rattle.st_clash.specs.declared.seen.Seen.{Seen}
use Rattle.st_clash.specs.inside.Seen.{apart_cell}
use Rattle.st_clash.proofs.LeastFields.{flat_more}
use Rattle.st_clash.proofs.twice.push_apart.Goals as goal

blank : Seen
blank = record { cell = record { 0 = record { rev = record { session = 0; num = 0 }; at = 0 } }; row = record { 0 = record { rev = record { session = 0; num = 0 }; at = 0 } }; place = 0; owner = None }

pub loop-seen-preserved : goal.loop-seen-preserved
unfolding blank
loop-seen-preserved c =
    flat_more (apart_cell (get cell_cmp c.args.table.now)) c.args.bad.now c.loop-seen.bad c.push_if_apart.new.bad c.args.list.now c.loop-seen.seen-index
    blank (get_or c.args.list.now c.loop-seen.seen-index blank) c.loop-seen-test.true refl c.loop-seen.invariant c.in_ok-push_if_apart.ensures
