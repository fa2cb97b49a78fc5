use Rattle.std.proofs.Common.{◌≡◌, ◌↔◌, true, List, subst, sym}
use Rattle.st_lemmas.proofs.Options.{IfOk-along}
use Rattle.st_doc.specs.Doc.{document_of}
use Rattle.st_marks.specs.Document.{Document}
use Rattle.st_marks.specs.declared.intents.Intent.{Intent}
use Rattle.st_makers.specs.Makers.{KnowsMakers}
use Rattle.st_keeps.specs.Moves.{HomesLeftWell}
use Rattle.st_keeps.specs.inside.Tests.{homes_left_well}
use Rattle.st_keeps.proofs.Homes.{all_leave_well}
use Rattle.st_keeps.proofs.leaving.leaves_homes_well.Goals as goal

pub returns : goal.returns
returns c =
    let makers = c.args.makers.now in
    let U = c.args.schema.now in
    let D = document_of c.args.doc.now in
    let N = c.args.intent.now in
    IfOk-along c.homes_left_well.result (λ b. b ≡ homes_left_well makers U D N) (λ b. (O : Document) (log : List Intent) → KnowsMakers O log makers → (b ≡ true) ↔ HomesLeftWell O log U D N)
    (λ b e O log knows. subst (λ b. (b ≡ true) ↔ HomesLeftWell O log U D N) (sym e) (all_leave_well O log U D N makers knows)) c.homes_left_well.ensures
