use Rattle.std.proofs.Common.{◌≡◌, take}
use Rattle.std.specs.BTreeMap.{get}
use Rattle.std.specs.Option.{option_or}
use Rattle.st_ids.specs.Listing.{item_of}
use Rattle.st_part_listings.proofs.unions.keep_all.Given as goal

abbrev pub invariant-loop-item : goal.invariant-loop-item
invariant-loop-item g l = (q : _) → get g.K.Ord.cmp l.map q ≡ option_or (get g.K.Ord.cmp l.initial.map q) (item_of g.K.Ord.cmp g.T.Named.key (take l.item-index l.items) q)
