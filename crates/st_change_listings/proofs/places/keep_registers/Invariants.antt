use Rattle.std.proofs.Common.{◌≡◌, take}
use Rattle.std.specs.BTreeMap.{get}
use Rattle.std.specs.List.{flat_map}
use Rattle.std.specs.Option.{option_or}
use Rattle.st_ids.specs.Order.{node_cmp}
use Rattle.st_ids.specs.declared.names.NodeId.{NodeId}
use Rattle.st_puts.specs.inside.First.{first_at}
use Rattle.st_change_listings.specs.Places.{stood_in_register}
use Rattle.st_change_listings.proofs.places.keep_registers.Given as goal

abbrev pub invariant-loop-reg : goal.invariant-loop-reg
invariant-loop-reg l = (n : NodeId) → get node_cmp l.spots n ≡ option_or (get node_cmp l.initial.spots n) (first_at (flat_map stood_in_register (take l.reg-index l.regs)) n)
