use Rattle.std.proofs.Common.{◌≡◌, ◌++◌, take}
use Rattle.st_ids.specs.Listing.{item_of}
use Rattle.std.specs.List.{flat_map}
use Rattle.st_ids.specs.Order.{cell_cmp}
use Rattle.st_clash.specs.declared.seen.Seen.{Seen}
use Rattle.st_clash.specs.inside.Seen.{apart_cell}
use Rattle.st_clash.proofs.search.push_by_search.Given as goal

abbrev pub invariant-loop-seen : goal.invariant-loop-seen
invariant-loop-seen l = l.bad ≡ l.initial.bad ++ flat_map (apart_cell (item_of cell_cmp (λ (s : Seen). s.cell) l.others)) (take l.seen-index l.list)
