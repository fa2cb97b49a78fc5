-- What each world keeps to which steps lead, so that the text of each entry of its log is read as the entry's message.
use Rattle.std.specs.Prelude.{◌+◌, ℕ, List, [], ◌∷◌, Option, length}
use Rattle.std.specs.List.{AllByRecursion}
use Rattle.serde_json.specs.Data.{Data}
use Rattle.st_carried_ids.specs.CarriedIds.{CarryIds}
use Rattle.st_commit_laws.specs.Tellable.{CommitsAreTellable}
use Rattle.st_lists.specs.declared.lists.Body.{Body}
use Rattle.st_lists.specs.declared.lists.Body.TheVariants.{Join, Leave, Ack, Commit}
use Rattle.st_lists.specs.declared.lists.Client.{Client}
use Rattle.st_lists.specs.declared.lists.Entry.{Entry}
use Rattle.st_lists.specs.declared.lists.WorldState.{WorldState}
use Rattle.st_marks.specs.Document.{Document}
use Rattle.st_marks.specs.declared.verdicts.Verdict.{Verdict}
use Rattle.st_msg.specs.Messages.{MessageView, message_data}
use Rattle.st_script.specs.Header.{HeaderView}
use Rattle.st_script.specs.StepText.{IsUuid}
use Rattle.st_texts.specs.Texts.{IsMessageOf}
use Rattle.st_valid_laws.specs.Taking.{IsTaken}
use Rattle.st_world_messages.specs.Order.{SendsInOrder}

-- a UUID that an entry tells is one that a text can tell
abbrev pub TellsUuid : Body → Type 0
TellsUuid (Join uuid) = IsUuid uuid
TellsUuid Leave = Unit {0}
TellsUuid (Ack reference) = Unit {0}
TellsUuid (Commit reference ids N) = Unit {0}

-- so it is of each entry of the log, and of each client's own
pub record AreUuids (w : WorldState) : Type 0 where
  pub log : AllByRecursion (λ (e : Entry). TellsUuid e.body) w.log
  pub clients : AllByRecursion (λ (c : Client). IsUuid c.uuid) w.clients

-- a world to which so many steps lead: all comes in order, the id of each commit is carried, and each commit and each UUID can be
-- told
pub record SendsTexts (h : HeaderView) (steps : ℕ) (w : WorldState) : Type 0 where
  pub order : SendsInOrder h steps w
  pub ids : CarryIds w
  pub told : CommitsAreTellable w
  pub uuids : AreUuids w

-- ## Messages that are replayed

-- values, one after the other, are taken as messages behind a log, each with some verdict, and the log goes on so
pub data AreTaken (O : Document) : List Entry → List Data → List Entry → Type 0 where
  all_taken : {log : List Entry} → AreTaken O log [] log
  one_taken : {log later end : List Entry} (d : Data) {ds : List Data} (n : ℕ) (void : Option Verdict) → IsTaken O log d later n void → AreTaken O later ds end → AreTaken O log (d ∷ ds) end

-- these are the messages of the entries of a log from a place on, each as a value
pub data AreMessagesFrom (O : Document) (log : List Entry) : ℕ → List Data → Type 0 where
  no_more_messages : AreMessagesFrom O log (length log) []
  one_message : {i : ℕ} (v : MessageView) {ds : List Data} → IsMessageOf O log (i + 1) v → AreMessagesFrom O log (i + 1) ds → AreMessagesFrom O log i (message_data v ∷ ds)
