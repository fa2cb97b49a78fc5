use Rattle.std.proofs.Common.{subst, sym}
use Rattle.st_schema_texts.specs.Known.{AreRead}
use Rattle.st_schema_texts.proofs.Knowing.{put_read, seen_stays}
use Rattle.st_schema_texts.proofs.known.KnownSchemas.keep.Goals as goal

pub invariant_of-self : goal.invariant_of-self
invariant_of-self c = subst AreRead (sym c.in_err-insert.ensures.err) c.self.invariant

pub invariant_of-self-2 : goal.invariant_of-self-2
invariant_of-self-2 c = put_read c.self.inside.schemas.entries c.insert.new.self.entries c.args.text c.args.schema c.in_ok-insert.ensures.updates.0 c.requires.schema c.self.invariant

pub returns-clause-stays : goal.returns-clause-stays
returns-clause-stays c = seen_stays c.self.inside.schemas.entries c.insert.new.self.entries c.args.text c.args.schema c.in_ok-insert.ensures.updates.0 c.args.self.now c.self.view_is c.requires.new
