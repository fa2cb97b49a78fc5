-- Which schemas a step takes out of effect.
use Rattle.std.specs.Prelude.{◌&&◌, Bool, false, not, List, Option, None, Some}
use Rattle.std.specs.List.{list_any}
use Rattle.st_ids.specs.Order.{same_rev}
use Rattle.st_ids.specs.declared.names.Rev.{Rev}
use Rattle.st_marks.specs.declared.schemas.SchemaEntry.{SchemaEntry}
use Rattle.st_marks.specs.declared.schemas.SchemaStep.{SchemaStep}

-- whether the entry of a revision is in a list
abbrev pub has_rev : List SchemaEntry → Rev → Bool
has_rev entries u = list_any (λ (e : SchemaEntry). same_rev e.rev u) entries

-- whether a change of the schemas in effect takes that of a revision out, and doesn't bring it in again
abbrev pub takes_out : Option SchemaStep → Rev → Bool
takes_out None u = false
takes_out (Some s) u = has_rev s.cut u && not (has_rev s.add u)
