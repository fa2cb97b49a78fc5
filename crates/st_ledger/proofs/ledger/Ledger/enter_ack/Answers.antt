use Rattle.std.proofs.Common.{refl}
use Rattle.st_ledger.proofs.MoreEntries.{told_entered}
use Rattle.st_ledger.proofs.ledger.Ledger.enter_ack.Goals as goal

pub returns : goal.returns
returns c = λ log stands on. told_entered c.args.self.now _ c.args.session c.args.reference log stands on refl refl refl refl refl c.in_ok-note_reference.ensures
