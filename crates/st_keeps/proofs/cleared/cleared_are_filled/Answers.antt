use Rattle.std.proofs.Common.{◌≡◌, ◌↔◌, true, List, subst, sym}
use Rattle.st_lemmas.proofs.Options.{IfOk-along}
use Rattle.st_doc.specs.Doc.{document_of}
use Rattle.st_marks.specs.Document.{Document}
use Rattle.st_marks.specs.declared.intents.Intent.{Intent}
use Rattle.st_makers.specs.Makers.{KnowsMakers}
use Rattle.st_keeps.specs.Moves.{ClearedAreFilled}
use Rattle.st_keeps.specs.inside.Tests.{are_filled}
use Rattle.st_keeps.proofs.Fillings.{all_filled}
use Rattle.st_keeps.proofs.cleared.cleared_are_filled.Goals as goal

pub returns : goal.returns
returns c =
    let makers = c.args.makers.now in
    let U = c.args.schema.now in
    let D = document_of c.args.doc.now in
    let N = c.args.intent.now in
    IfOk-along c.are_filled.result (λ b. b ≡ are_filled makers U D N) (λ b. (O : Document) (log : List Intent) → KnowsMakers O log makers → (b ≡ true) ↔ ClearedAreFilled O log U D N)
    (λ b e O log knows. subst (λ b. (b ≡ true) ↔ ClearedAreFilled O log U D N) (sym e) (all_filled O log makers knows U D N)) c.are_filled.ensures
