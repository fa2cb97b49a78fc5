use Rattle.st_push.proofs.ExtensionsBeside.{extends_beside}
use Rattle.st_push.proofs.laws.extends_beside.Goals as goal

pub returns : goal.returns
returns c = extends_beside
