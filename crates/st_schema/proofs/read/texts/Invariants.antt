-- the texts so far, and then those of what is left
use Rattle.std.proofs.Common.{◌≡◌, ◌++◌, drop, List, ℕ}
use Rattle.std.specs.Option.{option_map}
use Rattle.serde_json.specs.View.{items_view}
use Rattle.st_schema.specs.Reading.{texts_in}
use Rattle.st_schema.proofs.read.texts.Given as goal

abbrev pub invariant-loop-item : goal.invariant-loop-item
invariant-loop-item l = option_map (λ (ts : List (List ℕ)). l.texts ++ ts) (texts_in (items_view (drop l.item-index l.item-items))) ≡ texts_in (items_view l.item-items)
