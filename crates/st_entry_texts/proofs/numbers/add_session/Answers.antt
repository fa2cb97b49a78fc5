use Rattle.st_clusters.specs.Ids.{ids_of}
use Rattle.st_entry_texts.proofs.StandIns.{no_refusal}
use Rattle.st_entry_texts.proofs.numbers.add_session.Goals as goal

pub unreachable-requires : goal.unreachable-requires
unreachable-requires c = no_refusal (ids_of c.args.ids.now) c.requires.stand_ins c.requires.few c.sessions.result.now c.sessions.ensures c.uuid_of-uuid.result c.uuid_of-uuid.ensures c.in-Err-Fault.field-0 c.in-Err-Fault.field-0-0 c.in-Err-Fault.field-0-is c.in-Err-Fault.ensures.refused
