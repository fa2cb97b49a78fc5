use Rattle.std.proofs.Common.{drop, take}
use Rattle.st_marks.specs.Document.{IsSoundInForm}
use Rattle.st_log_laws.specs.Turns.{FitInTurn}
use Rattle.st_doc.specs.Doc.{document_of}
use Rattle.st_heads.specs.Heads.{HasCarried}
use Rattle.st_heads.proofs.heads.Head.extend.Given as goal

abbrev pub invariant-loop-intent : goal.invariant-loop-intent
invariant-loop-intent l = record {
  carried : HasCarried l.initial.self (take l.intent-index l.intents) l.self;
  sound : IsSoundInForm (document_of l.self.doc);
  fit : FitInTurn (document_of l.self.doc) (drop l.intent-index l.intents);
}
