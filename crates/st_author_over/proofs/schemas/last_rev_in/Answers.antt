use Rattle.std.proofs.Common.{◌∙◌, sym}
use Rattle.st_author_over.proofs.EntriesInParts.{last_behind, last_behind_none}
use Rattle.st_author_over.proofs.schemas.last_rev_in.Goals as goal

pub returns-in-None : goal.returns-in-None
returns-in-None c = let e = c.args.entries.now in c.last_rev-in-None.ensures ∙ sym (last_behind_none e.front.now e.behind.now (sym c.last_rev.ensures ∙ c.in-None.is))

pub returns-in_default : goal.returns-in_default
returns-in_default c = let e = c.args.entries.now in c.last_rev.ensures ∙ sym (last_behind e.front.now e.behind.now (λ n. c.in_default.not-None (c.last_rev.ensures ∙ n)))
