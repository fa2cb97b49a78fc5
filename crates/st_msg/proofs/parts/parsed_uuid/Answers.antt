use Rattle.std.proofs.Common.{sym}
use Rattle.st_idcodec.proofs.Parsing.{none_parsed}
use Rattle.st_msg.proofs.parts.parsed_uuid.Goals as goal

pub returns-in-Err : goal.returns-in-Err
returns-in-Err c = sym (none_parsed _ c.in-Err.ensures.ok.1)
