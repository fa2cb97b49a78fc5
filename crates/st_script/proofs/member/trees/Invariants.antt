-- the trees so far, and then those of what is left
use Rattle.std.proofs.Common.{◌≡◌, ◌++◌, drop, map, List}
use Rattle.std.specs.Option.{option_map}
use Rattle.serde_json.specs.View.{items_view}
use Rattle.st_tree.specs.Node.{Node, view}
use Rattle.st_script.specs.Members.{trees_in}
use Rattle.st_script.proofs.member.trees.Given as goal

abbrev pub invariant-loop-value : goal.invariant-loop-value
invariant-loop-value l = option_map (λ (ts : List Node). map view l.trees ++ ts) (trees_in (items_view (drop l.value-index l.values))) ≡ trees_in (items_view l.values)
