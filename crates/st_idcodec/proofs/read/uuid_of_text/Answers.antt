use Rattle.st_idcodec.proofs.Parsing.{text_read}
use Rattle.st_idcodec.proofs.read.uuid_of_text.Goals as goal

pub returns : goal.returns
returns c = text_read c.args.text.now c.in_ok-parsed_uuid.field-0 c.as_u128.result c.with_text.result c.in_ok-parsed_uuid.ensures c.as_u128.ensures c.with_text.ensures
