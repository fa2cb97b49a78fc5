use Rattle.std.proofs.Common.{sym}
use Rattle.st_plain.proofs.Everyone.{kept_none}
use Rattle.st_plain.proofs.Pendings.{kept_sound, pending_fit, told_at}
use Rattle.st_plain.proofs.world.World.pending.Goals as goal

pub returns-in_default : goal.returns-in_default
returns-in_default c = λ q at. absurd (kept_none _ _ _ _ _ q c.requires.kept at (sym c.in_default.ensures))

pub told-requires-clause-sound : goal.told-requires-clause-sound
told-requires-clause-sound c = kept_sound c.args.self.now c.args.i c.in-Some-get.client.now c.in-Some.kept.now c.requires (sym c.in-Some-get.ensures) (sym c.in-Some.ensures)

pub told-requires-clause-fit : goal.told-requires-clause-fit
told-requires-clause-fit c = pending_fit c.args.self.now c.args.i c.in-Some-get.client.now c.in-Some.kept.now c.requires (sym c.in-Some-get.ensures) (sym c.in-Some.ensures)

pub returns : goal.returns
returns c = told_at c.args.self.now c.args.i c.in-Some-get.client.now c.in-Some.kept.now c.requires (sym c.in-Some-get.ensures) (sym c.in-Some.ensures) c.told.result c.told.ensures
