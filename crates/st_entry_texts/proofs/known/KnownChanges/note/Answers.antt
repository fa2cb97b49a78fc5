use Rattle.st_entry_texts.proofs.Noting.{noted, noted_there}
use Rattle.st_entry_texts.proofs.known.KnownChanges.note.Goals as goal

pub returns-clause-there : goal.returns-clause-there
returns-clause-there c = noted_there c.make_room.new.self (record { map = c.insert.new.self }) c.args.change.rev _ c.in_ok-insert.ensures.updates.0

pub returns-clause-others : goal.returns-clause-others
returns-clause-others c = noted c.make_room.new.self (record { map = c.insert.new.self }) c.args.change.rev c.args.self.now _ c.in_ok-insert.ensures.updates.0 c.make_room.ensures
