-- What is kept of the authors of a log's commits.
use Rattle.std.specs.Prelude.{◌≡◌, ◌≤◌, ◌+◌, ℕ, List, [], ◌∷◌, ◌++◌, Option, Some, slice_get, take}
use Rattle.std.specs.BTreeMap.{get}
use Rattle.std.specs.Ordering.{nat_cmp}
use Rattle.st_author_docs.specs.Authors.{IsAuthorOf}
use Rattle.st_clusters.specs.declared.ids.IdRange.{IdRange}
use Rattle.st_doc.specs.Doc.{document_of}
use Rattle.st_known_changes.specs.Known.{IsChangeOver}
use Rattle.st_lists.specs.declared.lists.Body.TheVariants.{Commit}
use Rattle.st_lists.specs.declared.lists.Entry.{Entry}
use Rattle.st_log_laws.specs.Turns.{FitInTurn}
use Rattle.st_marks.specs.Document.{Document, IsSoundInForm}
use Rattle.st_marks.specs.declared.changes.Change.{Change}
use Rattle.st_marks.specs.declared.intents.Intent.{Intent}
use Rattle.st_valid.specs.Author.{author_list}
use Rattle.st_entry_texts.specs.Numbered.{IsNumberedTo}
use Rattle.st_entry_texts.specs.declared.entry.Author.{Author}
use Rattle.st_entry_texts.specs.declared.entry.Authors.{Authors}

-- what is kept is that of a session, in a log that opens with a document
pub record IsAuthor (O : Document) (log : List Entry) (session : ℕ) (a : Author) : Type 0 where
  pub doc : IsAuthorOf O log session a.doc
  pub numbers : IsNumberedTo log a.numbers.read a.numbers

-- it is no further than a reference, and went through no more than so many entries
pub record CanTell (before reference : ℕ) (a : Author) : Type 0 where
  pub at : a.doc.at ≤ reference
  pub seen : a.doc.seen ≤ before
  pub read : a.numbers.read ≤ reference

-- it may go on to a reference, behind so many entries: over some document with which the log opens, the commits of the author's
-- list there can be carried out in turn
pub record MayTell (log : List Entry) (before session reference : ℕ) (a : Author) : Type 0 where
  pub opening : Document
  pub is : IsAuthor opening log session a
  pub fit : FitInTurn opening (author_list (take before log) session reference)

-- it may tell a commit there: that can be carried out behind the author's list, and a change that is known of it is that over the
-- list
pub record MayTellCommit (O : Document) (log : List Entry) (before session reference : ℕ) (N : Intent) (known : Option Change) (a : Author) : Type 0 where
  pub is : IsAuthor O log session a
  pub fit : FitInTurn O (author_list (take before log) session reference ++ N ∷ [])
  pub told : (C : Change) → known ≡ Some C → IsChangeOver O (author_list (take before log) session reference) N C

-- what is kept by each session is its own, in a log that opens with the document that is kept
pub record AreAuthorsOf (log : List Entry) (x : Authors) : Type 0 where
  pub sound : IsSoundInForm (document_of x.opening)
  pub each : (session : ℕ) (a : Author) → get nat_cmp x.map session ≡ Some a → IsAuthor (document_of x.opening) log session a

-- each commit of a log refers to entries before it, and can be carried out behind the commits over which its author wrote it
pub record FitsWhereWritten (O : Document) (log : List Entry) (i : ℕ) (session reference : ℕ) (N : Intent) : Type 0 where
  pub known : reference ≤ i
  pub fit : FitInTurn O (author_list (take i log) session reference ++ N ∷ [])

abbrev pub FitWhereWritten : Document → List Entry → Type 0
FitWhereWritten O log = (i : ℕ) (e : Entry) (reference : ℕ) (ids : IdRange) (N : Intent) → slice_get log i ≡ Some e → e.body ≡ Commit reference ids N
    → FitsWhereWritten O log i e.session reference N
