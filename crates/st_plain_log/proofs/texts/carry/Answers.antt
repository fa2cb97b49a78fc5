use Rattle.st_doc.specs.Doc.{document_of}
use Rattle.st_plain_log.proofs.TextsInTurn.{run_one}
use Rattle.st_plain_log.proofs.texts.carry.Goals as goal

pub returns-clause-after : goal.returns-clause-after
returns-clause-after c = run_one (document_of c.args.doc.now) (document_of c.carry.new.self) c.args.intent.now c.in_ok-carry.field-0 c.in_ok-carry.ensures.verdict c.in_ok-carry.ensures.after
