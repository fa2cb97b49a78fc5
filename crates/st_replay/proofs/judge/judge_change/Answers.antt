use Rattle.st_doc.specs.Doc.{document_of}
use Rattle.st_replay.proofs.ChangesJudged.{judged, turned_down}
use Rattle.st_replay.proofs.judge.judge_change.Goals as goal

pub returns-in-Ok-Some-clause-passed : goal.returns-in-Ok-Some-clause-passed
returns-in-Ok-Some-clause-passed c =
    let a = c.args in
    judged (document_of a.doc.now) a.log.now a.session a.reference a.change.now a.makers.now c.in-Ok-Some.intent c.if_kept.result c.in-Ok-Some.field-0 c.in-Ok-Some.field-0-is c.in-Ok-Some.ensures.some c.requires.sound c.if_kept.ensures.same c.if_kept.ensures.kept

pub returns-in-Ok-Some-clause-refused : goal.returns-in-Ok-Some-clause-refused
returns-in-Ok-Some-clause-refused c =
    let a = c.args in
    turned_down (document_of a.doc.now) a.log.now a.session a.reference a.change.now a.makers.now c.in-Ok-Some.intent c.if_kept.result c.in-Ok-Some.field-0 c.in-Ok-Some.field-0-is c.in-Ok-Some.ensures.some c.if_kept.ensures.cause c.if_kept.ensures.refused
