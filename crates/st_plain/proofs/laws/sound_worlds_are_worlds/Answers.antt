use Rattle.st_plain.proofs.Standing.{stands_for_world}
use Rattle.st_plain.proofs.laws.sound_worlds_are_worlds.Goals as goal

pub returns : goal.returns
returns c = stands_for_world
