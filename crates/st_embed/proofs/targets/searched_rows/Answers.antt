use Rattle.std.proofs.Common.{◌++◌, ◌∙◌, option_and_then}
use Rattle.std.specs.List.{filter_map}
use Rattle.st_marks.specs.declared.intents.Put.{Put}
use Rattle.st_marks.specs.Intent.{cell_of}
use Rattle.st_embed.proofs.targets.searched_rows.Goals as goal

pub returns : goal.returns
returns c =
    c.in_ok-push_target_rows.ensures
    ∙ (λ i. c.new-names.ensures i ++ filter_map (λ (p : Put). option_and_then (λ d. c.in_ok-rows.ensures d i) (cell_of p.to)) (c.as_slice.ensures i))
