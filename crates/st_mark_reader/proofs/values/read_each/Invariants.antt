-- the items so far, and then those of what is left
use Rattle.std.proofs.Common.{◌≡◌, ◌++◌, drop}
use Rattle.std.specs.Option.{option_map}
use Rattle.serde_json.specs.View.{items_view}
use Rattle.st_mark_reader.specs.Reading.{each_of}
use Rattle.st_mark_reader.proofs.values.read_each.Given as goal

abbrev pub invariant-loop-value : goal.invariant-loop-value
invariant-loop-value g l = option_map (λ xs. l.items ++ xs) (each_of (g.R.ReadItem.of l.reader) (items_view (drop l.value-index l.values))) ≡ each_of (g.R.ReadItem.of l.reader) (items_view l.values)
