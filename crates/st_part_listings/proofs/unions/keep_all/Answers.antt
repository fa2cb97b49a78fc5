use Rattle.std.proofs.Common.{sym}
use Rattle.std.specs.BTreeMap.{get}
use Rattle.st_lemmas.proofs.Options.{option_or-None}
use Rattle.st_part_listings.proofs.MapListings.{kept_more}
use Rattle.st_part_listings.proofs.unions.keep_all.Goals as goal

pub loop-item-init : goal.loop-item-init
loop-item-init g c = λ q. sym (option_or-None (get g.K.Ord.cmp c.args.map.now q))

pub loop-item-preserved : goal.loop-item-preserved
loop-item-preserved g c = λ q.
    kept_more g.K.Ord.cmp g.met.K.Ord.total g.T.Named.key (get g.K.Ord.cmp c.args.map.now q) (get g.K.Ord.cmp c.loop-item.map q) (get g.K.Ord.cmp c.keep_copy.new.map q)
    c.args.items.now c.loop-item.item-index c.item-item.result q c.loop-item-test.true (sym c.item-item.is) (c.loop-item.invariant q) (c.in_ok-keep_copy.ensures q)
