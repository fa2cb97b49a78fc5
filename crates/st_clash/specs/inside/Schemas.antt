-- Schema entries that can be in effect where a change and a step stand, told from the two alone.
use Rattle.std.specs.Prelude.{Bool, ◌&&◌, ◌||◌, not, ℕ, List, if◌then◌else◌}
use Rattle.std.specs.Bool.{beq}
use Rattle.std.specs.List.{list_any}
use Rattle.std.specs.Option.{option_map_or}
use Rattle.st_ids.specs.Order.{same_rev}
use Rattle.st_ids.specs.Root.{opening}
use Rattle.st_ids.specs.declared.names.Rev.{Rev}
use Rattle.st_marks.specs.declared.changes.Change.{Change}
use Rattle.st_marks.specs.declared.schemas.SchemaEntry.{SchemaEntry}
use Rattle.st_marks.specs.declared.schemas.SchemaStep.{SchemaStep}
use Rattle.st_marks.specs.Document.{last_of}

-- whether one of some entries has the revision
abbrev pub has_rev : List SchemaEntry → Rev → Bool
has_rev entries r = list_any (λ (e : SchemaEntry). same_rev e.rev r) entries

-- whether a revision is surely in effect before a step: the opening's, the last that both lists share, or one that goes
abbrev pub is_known : SchemaStep → Rev → Bool
is_known s r = same_rev r opening || same_rev r s.on || has_rev s.cut r

-- whether a revision that isn't told may be in effect before and after a step
abbrev pub may_be_between : SchemaStep → Rev → Bool
may_be_between s r = not (same_rev s.on opening) && not (has_rev s.add r)

-- the revision of the last entry before a step
abbrev pub last_before : SchemaStep → Rev
last_before s = option_map_or (λ (e : SchemaEntry). e.rev) (last_of s.cut) s.on

-- whether a change of data under a schema, with or without its base, suits a step
abbrev pub suits_data : SchemaStep → Rev → Bool → Bool
suits_data s u b = if b then is_known s u || may_be_between s u else not (is_known s u)

-- whether a change of schema does
abbrev pub suits_schema : SchemaStep → Rev → Rev → Bool → Bool
suits_schema s r u b = not (is_known s r) && not (has_rev s.add r) && beq b (same_rev (last_before s) u)

-- whether a change does
abbrev pub suits_part : SchemaStep → Change → Bool
suits_part s C = option_map_or (λ (t : List ℕ). suits_schema s C.rev C.under C.base) C.schema (suits_data s C.under C.base)

-- whether a change suits a step that leaves the schemas as they are
abbrev pub suits_alone : Change → Bool
suits_alone C = option_map_or (λ (t : List ℕ). not (same_rev C.rev opening) && not (C.base && same_rev C.under C.rev)) C.schema (C.base || not (same_rev C.under opening))
