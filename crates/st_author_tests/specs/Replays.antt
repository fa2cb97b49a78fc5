-- What a plain replay has done.
use Rattle.std.specs.Prelude.{ℕ, List}
use Rattle.st_doc.specs.Doc.{document_of}
use Rattle.st_doc.specs.declared.doc.Doc.{Doc}
use Rattle.st_lists.specs.declared.lists.Entry.{Entry}
use Rattle.st_log_laws.specs.Turns.{FitInTurn}
use Rattle.st_marks.specs.Document.{Document}
use Rattle.st_marks.specs.declared.intents.Intent.{Intent}
use Rattle.st_valid.specs.Author.{author_list}
use Rattle.st_author_docs.specs.Authors.{LeadsTo}

-- commits that fit in turn lead from a document to another
pub record IsReplay (O : Document) (Ns : List Intent) (d : Doc) : Type 0 where
  pub fit : FitInTurn O Ns
  pub leads : LeadsTo O Ns d

abbrev pub HasReplayed : Doc → List Intent → Doc → Type 0
HasReplayed a Ns b = IsReplay (document_of a) Ns b

abbrev pub IsReplayOf : Document → List Entry → ℕ → ℕ → Doc → Type 0
IsReplayOf O log session reference d = IsReplay O (author_list log session reference) d
