-- What holds of the lists of a sound world, and that each step leads on from it.
use Rattle.st_plain.specs.Replicas.{IsSound}
use Rattle.st_script.specs.Header.{header_view}
use Rattle.st_script.specs.declared.answer.Answer.{Answer}
use Rattle.st_lists.specs.declared.lists.WorldState.{WorldState}
use Rattle.st_plain.specs.declared.world.World.{World}
use Rattle.st_world_laws.proofs.Agreed.{knows_more}
use Rattle.st_plain.proofs.Everyone.{clients_of}
use Rattle.st_plain_schemas.specs.Schemas.{HasReading}
use Rattle.st_world_laws.specs.Worlds.{Any, IsWorld}
use Rattle.st_world.specs.World.{IsNext}
use Rattle.st_script.specs.Steps.{StepView}
use Rattle.st_script.specs.Steps as step
use Rattle.st_world_laws.proofs.Leading.{AllLead, leads_on}

-- it holds of those of a sound world
pub lists_sound : (w : World) → IsSound w → IsWorld (header_view w.header) w.lists
lists_sound w s = record {
  header = s.header;
  clients = clients_of (header_view w.header) w.lists.log w.lists.clients w.kept s.kept;
  sessions = s.sessions;
  given = s.given;
  log = s.log;
  log_fit = s.log_fit;
  log_new = s.log_new;
  schema = knows_more (header_view w.header) (HasReading w.schemas) Any w.lists.log w.lists.clients (λ r text k. tt) s.schema;
  few_names = s.few_names;
  own_ids = s.own_ids;
  ranges = s.ranges;
}

pub has_next : (w : World) (s : StepView) (sound : IsSound w) → AllLead (header_view w.header) w.lists (lists_sound w sound) → (v : WorldState) × (a : Answer) × IsNext (header_view w.header) w.lists s v a
has_next w s sound all = let r = leads_on (header_view w.header) w.lists (lists_sound w sound) all s in (r.0, r.1, r.2)
