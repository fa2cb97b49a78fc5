use Rattle.std.proofs.Common.{◌++◌}
use Rattle.st_author_over.proofs.EntriesInParts.{base_of_data}
use Rattle.st_author_over.proofs.schemas.has_base.Goals as goal

pub returns-in-None : goal.returns-in-None
returns-in-None c = base_of_data (c.args.entries.now.front.now ++ c.args.entries.now.behind.now) c.args.schema.now c.args.under c.has_rev_in.result c.in-None.is c.has_rev_in.ensures
