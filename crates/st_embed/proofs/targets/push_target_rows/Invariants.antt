use Rattle.std.proofs.Common.{◌≡◌, ◌++◌, take, option_and_then}
use Rattle.std.specs.BTreeMap.{get}
use Rattle.std.specs.List.{filter_map}
use Rattle.st_ids.specs.Order.{cell_cmp}
use Rattle.st_marks.specs.declared.intents.Put.{Put}
use Rattle.st_marks.specs.Intent.{cell_of}
use Rattle.st_embed.proofs.targets.push_target_rows.Given as goal

abbrev pub invariant-loop-put : goal.invariant-loop-put
invariant-loop-put l = l.names ≡ l.initial.names ++ filter_map (λ (p : Put). option_and_then (get cell_cmp l.rows) (cell_of p.to)) (take l.put-index l.puts)
