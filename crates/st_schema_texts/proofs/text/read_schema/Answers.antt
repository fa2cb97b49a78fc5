use Rattle.st_schema_texts.proofs.Once.{not_json}
use Rattle.st_schema_texts.proofs.text.read_schema.Goals as goal

pub returns-in-None : goal.returns-in-None
returns-in-None c = not_json c.args.text.now (c.in_ok-value_of.ensures.none c.in-None.is)
