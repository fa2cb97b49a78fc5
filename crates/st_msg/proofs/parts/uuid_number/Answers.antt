use Rattle.st_msg.proofs.Back.{number_is}
use Rattle.st_msg.proofs.parts.uuid_number.Goals as goal

pub returns : goal.returns
returns c = number_is c.args.text.now c.in_ok-parsed_uuid.field-0 c.as_u128.result c.if_wide.result c.in_ok-parsed_uuid.ensures c.as_u128.ensures c.if_wide.ensures
