use Rattle.std.proofs.Common.{◌≡◌, ◌-◌, length, slice_get, Some, option_map, ap, ◌∙◌}
use Rattle.st_marks.specs.declared.schemas.SchemaEntry.{SchemaEntry}
use Rattle.st_forest.proofs.Entries.{last_entry}
use Rattle.st_author_over.proofs.schemas.last_rev.Goals as goal

pub returns : goal.returns
returns c =
    let entries = c.args.entries.now in
    let there : Some c.in_ok-last.field-0.now ≡ slice_get entries (length entries - 1) = c.in_ok-last.ensures.value in
    ap (option_map (λ (e : SchemaEntry). e.rev)) there ∙ last_entry entries
