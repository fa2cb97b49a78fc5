-- The message of an entry, as it is judged beside the log before it.
use Rattle.std.specs.Prelude.{◌≡◌, ◌+◌, ℕ, List, Some, slice_get, take}
use Rattle.st_lists.specs.Log.{minimum}
use Rattle.st_lists.specs.declared.lists.Body.{Body}
use Rattle.st_lists.specs.declared.lists.Body.TheVariants.{Join, Leave, Ack, Commit}
use Rattle.st_lists.specs.declared.lists.Entry.{Entry}
use Rattle.st_marks.specs.declared.changes.Change.{Change}
use Rattle.st_marks.specs.declared.intents.Intent.{Intent}
use Rattle.st_marks.specs.Document.{Document}
use Rattle.st_marks.specs.Embedding.{IsEmbedding}
use Rattle.st_marks.specs.Run.{Run}
use Rattle.st_valid.specs.Author.{author_list}
use Rattle.st_valid.specs.declared.message.Message.{Message}
use Rattle.st_valid.specs.declared.message.Said.{Said}
use Rattle.st_valid.specs.declared.message.Said.TheVariants as said

-- ## The message

-- the change that an intent was in the document over which its author wrote it
pub record IsWrittenAs (O : Document) (log : List Entry) (session reference : ℕ) (N : Intent) (C : Change) : Type 0 where
  pub author : Document
  pub stands : Run O (author_list log session reference) author
  pub embeds : IsEmbedding author N C

-- what an entry says, over the log before it
abbrev pub SaysAs : Document → List Entry → ℕ → Body → Said → Type 0
SaysAs O log session (Join uuid) says = says ≡ said.Join uuid
SaysAs O log session Leave says = says ≡ said.Leave
SaysAs O log session (Ack reference) says = says ≡ said.Ack reference
SaysAs O log session (Commit reference ids N) says = (C : Change) × IsWrittenAs O log session reference N C × (says ≡ said.Commit reference ids (Some C))

-- the message of the entry at a place: it has the number, the minimum of the log up to it, and its session
pub record IsMessageAt (O : Document) (log : List Entry) (i : ℕ) (m : Message) : Type 0 where
  pub entry : Entry
  pub there : slice_get log i ≡ Some entry
  pub number : m.n ≡ i + 1
  pub min : m.min ≡ minimum (take (i + 1) log)
  pub session : m.session ≡ entry.session
  pub says : SaysAs O (take i log) entry.session entry.body m.said
