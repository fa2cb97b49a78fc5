use Rattle.st_lists.specs.Names.{names_made}
use Rattle.st_replay.proofs.RoomForNames.{names_few}
use Rattle.st_replay.proofs.enter.number_commit.Goals as goal

pub few_names-names-requires : goal.few_names-names-requires
few_names-names-requires c = names_few c.args.log.now (names_made c.args.intent.now) c.requires.room
