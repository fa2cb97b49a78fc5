use Rattle.st_world_laws.proofs.Going.{begun_sound}
use Rattle.st_world_laws.proofs.laws.opened_worlds_are_worlds.Goals as goal

pub returns : goal.returns
returns c = begun_sound
