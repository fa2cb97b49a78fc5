use Rattle.std.proofs.Common.{◌++◌}
use Rattle.st_author_over.proofs.EntriesInParts.{schema_is_new}
use Rattle.st_author_over.proofs.schemas.brings_new_entry.Goals as goal

pub returns-in-Some : goal.returns-in-Some
returns-in-Some c = schema_is_new (c.args.entries.now.front.now ++ c.args.entries.now.behind.now) c.args.schema.now _ c.args.rev c.has_rev_in.result c.in-Some.is c.has_rev_in.ensures
