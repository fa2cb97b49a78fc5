-- How a step changes the list of schemas, where a change of schema comes before it and after it.
use Rattle.std.specs.Prelude.{Bool, true, false, List, [], ◌∷◌, ◌++◌}
use Rattle.st_marks.specs.declared.schemas.SchemaEntry.{SchemaEntry}
use Rattle.st_marks.specs.declared.schemas.SchemaStep.{SchemaStep}
use Rattle.st_marks.specs.Document.{Document}

-- some entries, and behind them one more where it is sound
abbrev pub entries_with : SchemaEntry → Bool → List SchemaEntry → List SchemaEntry
entries_with x true es = es ++ x ∷ []
entries_with x false es = es

-- what goes and what comes, with the entry at the end of each where it is sound there
abbrev pub part_with : SchemaEntry → Bool → Bool → SchemaStep → SchemaStep
part_with x before after s = record { on = s.on; cut = entries_with x before s.cut; add = entries_with x after s.add }

-- a document with one entry more where it is sound
abbrev pub document_with : SchemaEntry → Bool → Document → Document
document_with x sound D = record D { schemas = entries_with x sound D.schemas }
