-- What is kept of a session's author: the document at a reference, and the one over which the session writes.
use Rattle.std.specs.Prelude.{◌≡◌, ◌≤◌, ℕ, List, [], length, take, drop, MatchOption, unwrap_or}
use Rattle.st_marks.specs.declared.intents.Intent.{Intent}
use Rattle.st_marks.specs.Document.{Document, IsSoundInForm}
use Rattle.st_marks.specs.Run.{Run}
use Rattle.st_log_laws.specs.Turns.{FitInTurn}
use Rattle.st_doc.specs.Doc.{document_of}
use Rattle.st_doc.specs.declared.doc.Doc.{Doc}
use Rattle.st_lists.specs.Log.{commits_by, commits_in}
use Rattle.st_lists.specs.declared.lists.Entry.{Entry}
use Rattle.st_valid.specs.Author.{author_list}
use Rattle.st_author_docs.specs.declared.author_doc.AuthorDoc.{AuthorDoc}

-- some commits lead from a document to what is kept, which is sound
pub record LeadsTo (O : Document) (Ns : List Intent) (d : Doc) : Type 0 where
  pub ran : Run O Ns (document_of d)
  pub sound : IsSoundInForm (document_of d)

-- the document over which the session writes is its head where that is there, and else the base
abbrev pub written_over : AuthorDoc → Doc
written_over a = unwrap_or a.head a.base

-- what is kept is that of a session in a log which opens with a document: of the entries that it went through, the base has
-- the commits up to its reference, and the head those of the author's list. There is a head, unless the session has no commit
-- among the entries after the reference
pub record IsAuthorOf (O : Document) (log : List Entry) (session : ℕ) (a : AuthorDoc) : Type 0 where
  pub passed : a.at ≤ a.seen
  pub within : a.seen ≤ length log
  pub base : LeadsTo O (commits_in (take a.at log)) a.base
  pub head : MatchOption a.head (commits_by session (drop a.at (take a.seen log)) ≡ [])
      (LeadsTo O (author_list (take a.seen log) session a.at))

-- it can go to a reference: over some document with which the log opens, the commits of the author's list there can be carried
-- out in turn
pub record CanGoTo (log : List Entry) (session : ℕ) (a : AuthorDoc) (reference : ℕ) : Type 0 where
  pub opening : Document
  pub is : IsAuthorOf opening log session a
  pub fit : FitInTurn opening (author_list log session reference)
