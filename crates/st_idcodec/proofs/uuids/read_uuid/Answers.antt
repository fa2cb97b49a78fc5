use Rattle.st_idcodec.proofs.TextsOfUuids.{number_of}
use Rattle.st_idcodec.proofs.uuids.read_uuid.Goals as goal

pub returns : goal.returns
returns c = number_of c.args.text.now c.in_ok-parsed_uuid.field-0 c.as_u128.result c.of_version_4.result c.in_ok-parsed_uuid.ensures c.as_u128.ensures c.of_version_4.ensures
