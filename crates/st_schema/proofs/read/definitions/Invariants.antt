-- the definitions so far, and then those of what is left
use Rattle.std.proofs.Common.{◌≡◌, ◌++◌, drop, List, ℕ}
use Rattle.std.specs.Option.{option_map}
use Rattle.serde_json.specs.View.{items_view}
use Rattle.st_schema.specs.Reading.{definitions_in}
use Rattle.st_schema.specs.declared.names.Form.{Form}
use Rattle.st_schema.proofs.read.definitions.Given as goal

abbrev pub invariant-loop-item : goal.invariant-loop-item
invariant-loop-item l = option_map (λ (ds : List (List ℕ × Form)). l.definitions ++ ds) (definitions_in (items_view (drop l.item-index l.item-items))) ≡ definitions_in (items_view l.item-items)
