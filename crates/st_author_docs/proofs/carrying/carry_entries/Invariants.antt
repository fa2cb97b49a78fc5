use Rattle.std.proofs.Common.{drop, take}
use Rattle.st_marks.specs.Document.{IsSoundInForm}
use Rattle.st_marks.specs.Run.{Run}
use Rattle.st_log_laws.specs.Turns.{FitInTurn}
use Rattle.st_doc.specs.Doc.{document_of}
use Rattle.st_lists.specs.Log.{commits_in}
use Rattle.st_author_docs.proofs.carrying.carry_entries.Given as goal

-- the commits so far are carried out, and those that are left fit
abbrev pub invariant-loop-entry : goal.invariant-loop-entry
invariant-loop-entry l = record {
  run : Run (document_of l.initial.doc) (commits_in (take l.entry-index l.entries)) (document_of l.doc);
  sound : IsSoundInForm (document_of l.doc);
  fit : FitInTurn (document_of l.doc) (commits_in (drop l.entry-index l.entries));
}
