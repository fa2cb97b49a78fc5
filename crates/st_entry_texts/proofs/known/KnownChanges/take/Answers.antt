use Rattle.std.proofs.Common.{◌∙◌, ap}
use Rattle.st_entry_texts.specs.KnownChanges.{told_at}
use Rattle.st_entry_texts.proofs.Noting.{left}
use Rattle.st_entry_texts.proofs.known.KnownChanges.take.Goals as goal

pub returns-clause-told : goal.returns-clause-told
returns-clause-told c = c.told_at.ensures ∙ ap (told_at c.args.reference) c.remove-known.ensures.value

pub returns-clause-rest : goal.returns-clause-rest
returns-clause-rest c = left c.args.self.now (record { map = c.remove-known.new.self }) c.args.rev c.remove-known.ensures.updates.0
