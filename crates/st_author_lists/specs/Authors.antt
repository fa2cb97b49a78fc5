-- Over what each commit was written: the document to which its author's list leads.
use Rattle.std.specs.Prelude.{◌≡◌, ℕ, ◌≤◌, List, [], ◌∷◌, ◌++◌, length, slice_get, take, Some}
use Rattle.std.specs.List.{AllByRecursion}
use Rattle.st_marks.specs.declared.changes.Change.{Change}
use Rattle.st_marks.specs.declared.intents.Intent.{Intent}
use Rattle.st_marks.specs.Document.{Document, IsSoundInForm}
use Rattle.st_marks.specs.Embedding.{IsEmbedding}
use Rattle.st_marks.specs.Intent.{Fits}
use Rattle.st_marks.specs.Run.{Run}
use Rattle.st_log_laws.specs.Turns.{FitInTurn}
use Rattle.st_script.specs.Header.{HeaderView}
use Rattle.st_lists.specs.Log.{commits_of_text}
use Rattle.st_lists.specs.declared.lists.Body.{Body}
use Rattle.st_lists.specs.declared.lists.Body.TheVariants.{Join, Leave, Ack, Commit}
use Rattle.st_lists.specs.declared.lists.Client.{Client}
use Rattle.st_lists.specs.declared.lists.Entry.{Entry}
use Rattle.st_lists.specs.declared.lists.WorldState.{WorldState}
use Rattle.st_valid.specs.Author.{author_list}
use Rattle.st_world.specs.World.{opening_document}

-- a commit that a session writes at a reference, behind others of its own that wait: the log reaches the reference, and the
-- author's list at it, those that wait and then the commit can be carried out in turn
pub record FitsAuthor (O : Document) (log : List Entry) (session reference : ℕ) (before : List Intent) (N : Intent) : Type 0 where
  pub within : reference ≤ length log
  pub fit : FitInTurn O ((author_list log session reference ++ before) ++ N ∷ [])

-- a text of a session is one, if it is a commit
abbrev pub IsAuthored : Document → List Entry → ℕ → List Intent → Body → Type 0
IsAuthored O log session before (Join uuid) = Unit {0}
IsAuthored O log session before Leave = Unit {0}
IsAuthored O log session before (Ack reference) = Unit {0}
IsAuthored O log session before (Commit reference ids N) = FitsAuthor O log session reference before N

-- so is each of the texts of a session that wait, behind those before it
abbrev pub AreAuthored : Document → List Entry → ℕ → List Intent → List Body → Type 0
AreAuthored O log session before [] = Unit {0}
AreAuthored O log session before (text ∷ texts) = IsAuthored O log session before text × AreAuthored O log session (before ++ commits_of_text text) texts

-- so is each entry of a log, over the entries before it
abbrev pub IsLogAuthored : Document → List Entry → Type 0
IsLogAuthored O log = (i : ℕ) (e : Entry) → slice_get log i ≡ Some e → IsAuthored O (take i log) e.session [] e.body

-- each commit of the log, and each that waits in a client's queue, fits the document of its author's list
pub record FitAuthors (h : HeaderView) (w : WorldState) : Type 0 where
  pub log : IsLogAuthored (opening_document h) w.log
  pub waiting : AllByRecursion (λ (c : Client). AreAuthored (opening_document h) w.log c.session [] c.queue) w.clients

-- where an intent was written: some commits lead to the document of its author, which it fits, and there it is this change
pub record IsWritten (O : Document) (Ns : List Intent) (N : Intent) : Type 0 where
  pub author : Document
  pub stands : Run O Ns author
  pub sound : IsSoundInForm author
  pub fits : Fits author N
  pub change : Change
  pub embeds : IsEmbedding author N change
