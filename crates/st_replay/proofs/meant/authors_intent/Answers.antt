use Rattle.st_doc.specs.Doc.{document_of}
use Rattle.st_lemmas.proofs.Bools.{true-false}
use Rattle.st_replay.proofs.MeantIntents.{meant_none, meant_some}
use Rattle.st_replay.proofs.meant.authors_intent.Goals as goal

pub returns-then-is_known-clause-some : goal.returns-then-is_known-clause-some
returns-then-is_known-clause-some c = meant_some (document_of c.args.doc.now) c.args.log.now c.args.session c.args.reference c.args.change.now c.intent.result (c.is_known.ensures.0 c.if-is_known.true) c.intent.ensures.some

pub returns-then-is_known-clause-none : goal.returns-then-is_known-clause-none
returns-then-is_known-clause-none c = meant_none (document_of c.args.doc.now) c.args.log.now c.args.session c.args.reference c.args.change.now c.intent.result c.intent.ensures.none

pub returns-else-is_known-clause-none : goal.returns-else-is_known-clause-none
returns-else-is_known-clause-none c = λ none O ran context. true-false (c.is_known.ensures.1 context.under) c.if-is_known.false
