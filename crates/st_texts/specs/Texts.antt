-- The text of an entry of a log.
use Rattle.std.specs.Prelude.{◌≡◌, ◌<◌, ◌-◌, ℕ, List, Some, slice_get, take}
use Rattle.serde_json.specs.Written.{compact_text}
use Rattle.st_change_writer.specs.Told.{change_data}
use Rattle.st_clusters.specs.declared.ids.IdRange.{IdRange}
use Rattle.st_lists.specs.Log.{minimum}
use Rattle.st_lists.specs.declared.lists.Body.{Body}
use Rattle.st_lists.specs.declared.lists.Body.TheVariants as body
use Rattle.st_lists.specs.declared.lists.Entry.{Entry}
use Rattle.st_marks.specs.Document.{Document}
use Rattle.st_marks.specs.Embedding.{IsEmbedding}
use Rattle.st_marks.specs.Run.{Run}
use Rattle.st_marks.specs.declared.changes.Change.{Change}
use Rattle.st_marks.specs.declared.intents.Intent.{Intent}
use Rattle.st_msg.specs.Messages.{Ack, Commit, Join, Leave, MessageView, SaidView, message_data}
use Rattle.st_texts.specs.Names.{names_seen}
use Rattle.st_valid.specs.Author.{author_list}

-- what the message of a commit says, over the log before it: the commit's change, in the document over which the author wrote it,
-- with the numbers that the author saw
pub record IsCommitSaid (O : Document) (log : List Entry) (session reference : ℕ) (ids : IdRange) (N : Intent) (said : SaidView) : Type 0 where
  pub author : Document
  pub stands : Run O (author_list log session reference) author
  pub change : Change
  pub embeds : IsEmbedding author N change
  pub is : said ≡ Commit reference ids (change_data (names_seen log session reference ids) change)

-- what the message of an entry says
abbrev pub IsSaid : Document → List Entry → ℕ → Body → SaidView → Type 0
IsSaid O log session (body.Join uuid) said = said ≡ Join uuid
IsSaid O log session body.Leave said = said ≡ Leave
IsSaid O log session (body.Ack reference) said = said ≡ Ack reference
IsSaid O log session (body.Commit reference ids N) said = IsCommitSaid O log session reference ids N said

-- the message of the entry with a number: it has the number, the minimum of the log up to it, and its session
pub record IsMessageOf (O : Document) (log : List Entry) (n : ℕ) (m : MessageView) : Type 0 where
  pub counted : 0 < n
  pub entry : Entry
  pub there : slice_get log (n - 1) ≡ Some entry
  pub number : m.n ≡ n
  pub min : m.min ≡ minimum (take n log)
  pub session : m.session ≡ entry.session
  pub said : IsSaid O (take (n - 1) log) entry.session entry.body m.said

-- its text
abbrev pub IsTextOf : Document → List Entry → ℕ → List ℕ → Type 0
IsTextOf O log n text = (m : MessageView) × IsMessageOf O log n m × (text ≡ compact_text (message_data m))
