-- the texts so far, and then those of what is left
use Rattle.std.proofs.Common.{drop}
use Rattle.st_marks.specs.Document.{IsSoundInForm}
use Rattle.st_log_laws.specs.Turns.{FitInTurn}
use Rattle.st_doc.specs.Doc.{document_of}
use Rattle.st_plain_log.proofs.TextsInTurn.{GoesOn}
use Rattle.st_plain_log.proofs.texts.carry_all.Given as goal

abbrev pub invariant-loop-intent : goal.invariant-loop-intent
invariant-loop-intent l = record {
  goes_on : GoesOn (document_of l.initial.doc) l.intents (document_of l.doc) (drop l.intent-index l.intents) l.texts;
  sound : IsSoundInForm (document_of l.doc);
  fit : FitInTurn (document_of l.doc) (drop l.intent-index l.intents);
}
