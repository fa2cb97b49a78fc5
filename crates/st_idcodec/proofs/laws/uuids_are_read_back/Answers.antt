use Rattle.st_idcodec.proofs.TextsOfUuids.{read_back}
use Rattle.st_idcodec.proofs.laws.uuids_are_read_back.Goals as goal

pub returns : goal.returns
returns c = read_back
