use Rattle.std.proofs.Common.{◌∙◌, Some, ap, subst}
use Rattle.st_edits.proofs.SchemaTexts.{schema_back}
use Rattle.st_schema.specs.Reading.{schema_of_text}
use Rattle.st_schema_texts.specs.Reading.{IsSchemaOf}
use Rattle.st_run.proofs.tree.arrays_of.Goals as goal

pub returns : goal.returns
returns c =
    let s = c.in-Some.schema in
    let is : IsSchemaOf c.args.text.now (Some s) = subst (IsSchemaOf c.args.text.now) c.in-Some.is c.in_ok-schema.ensures in
    (s, ap schema_of_text is.1 ∙ schema_back s is.0, c.in_ok-known.ensures.arrays)
