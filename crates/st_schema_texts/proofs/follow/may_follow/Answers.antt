use Rattle.std.proofs.Common.{subst}
use Rattle.st_schema_texts.specs.Reading.{IsSchemaOf}
use Rattle.st_schema_texts.proofs.Once.{follows}
use Rattle.st_schema_texts.proofs.follow.may_follow.Goals as goal

pub returns-in-Some : goal.returns-in-Some
returns-in-Some c =
    let is = subst (IsSchemaOf c.args.text.now) c.in-Some.is c.in_ok-read_schema.ensures in
    follows c.args.schema.now c.in-Some.view c.args.text.now c.wider.result c.is_ok.result is c.wider.ensures c.is_ok.ensures.value
