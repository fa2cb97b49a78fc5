use Rattle.std.proofs.Common.{get_or, refl}
use Rattle.st_puts.proofs.Firsts.{no_loose}
use Rattle.st_part_listings.specs.Together.{goes_of, known_by, loose_behind}
use Rattle.st_part_listings.proofs.ListLoops.{filtered_more}
use Rattle.st_part_listings.proofs.nodes.all_behind.Goals as goal

pub loop-one-preserved : goal.loop-one-preserved
loop-one-preserved c =
    filtered_more (loose_behind (goes_of c.args.tables.now) (known_by c.args.tables.now)) c.args.loose.now c.loop-one.one-index no_loose (get_or c.args.loose.now c.loop-one.one-index no_loose) c.one_behind.result c.loop-one.list c.push_if_some.new.list
    c.loop-one-test.true refl c.one_behind.ensures c.in_ok-push_if_some.ensures c.loop-one.invariant
