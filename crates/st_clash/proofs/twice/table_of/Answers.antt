use Rattle.std.proofs.Common.{None, get_or, refl}
use Rattle.std.specs.BTreeMap.{get}
use Rattle.st_ids.specs.Order.{cell_cmp}
use Rattle.st_clash.specs.declared.seen.Seen.{Seen}
use Rattle.st_clash.proofs.Tables.{table_more}
use Rattle.st_clash.proofs.twice.table_of.Goals as goal

blank : Seen
blank = record { cell = record { 0 = record { rev = record { session = 0; num = 0 }; at = 0 } }; row = record { 0 = record { rev = record { session = 0; num = 0 }; at = 0 } }; place = 0; owner = None }

pub loop-seen-preserved : goal.loop-seen-preserved
unfolding blank
loop-seen-preserved c =
    table_more c.args.list.now c.loop-seen.seen-index blank (get_or c.args.list.now c.loop-seen.seen-index blank) (get cell_cmp c.loop-seen.table) (get cell_cmp c.keep.new.table)
    c.loop-seen-test.true refl c.in_ok-keep.ensures c.loop-seen.invariant
