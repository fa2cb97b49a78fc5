use Rattle.st_doc.specs.Doc.{document_of}
use Rattle.st_plain_log.proofs.Receiving.{both_carried}
use Rattle.st_plain_log.proofs.log_steps.receive_last.Goals as goal

pub returns-clause-same : goal.returns-clause-same
returns-clause-same c =
    both_carried (document_of c.args.kept.now.main.doc) (document_of c.args.kept.now.received) (document_of c.carry.new.self) (document_of c.carry-2.new.self) c.args.intent.now
    c.in_ok-carry.field-0 c.in_ok-verdict.verdict c.requires.same c.in_ok-carry.ensures.verdict c.in_ok-verdict.ensures.verdict c.in_ok-carry.ensures.after c.in_ok-verdict.ensures.after
