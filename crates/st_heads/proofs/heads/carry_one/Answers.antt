use Rattle.st_doc.specs.Doc.{document_of}
use Rattle.st_heads.proofs.Runs.{one_carried}
use Rattle.st_heads.proofs.heads.carry_one.Goals as goal

pub returns-clause-run : goal.returns-clause-run
returns-clause-run c =
    let D = document_of c.args.doc.now in
    let E = document_of c.carry.new.self in
    let o = c.outcome_of.ensures in
    one_carried D E c.args.intent.now c.in_ok-verdict.verdict c.in_ok-back.back c.outcome_of.result c.in_ok-verdict.ensures.verdict c.in_ok-verdict.ensures.after c.in_ok-back.ensures o.void o.back
