use Rattle.std.proofs.Common.{◌≡◌, true, ◌↔◌}
use Rattle.st_lemmas.proofs.Options.{IfOk-along}
use Rattle.st_doc.specs.Doc.{document_of}
use Rattle.st_kept_fields.specs.Fields.{GoWell}
use Rattle.st_kept_fields.specs.inside.Tests.{all_go_well}
use Rattle.st_kept_fields.proofs.Told.{puts_tell}
use Rattle.st_kept_fields.proofs.fields.go_well.Goals as goal

pub returns : goal.returns
returns c =
    let s = c.args.schema.now in
    let D = document_of c.args.doc.now in
    let N = c.args.intent.now in
    IfOk-along c.all_go_well.result (λ b. b ≡ all_go_well s D N) (λ b. (b ≡ true) ↔ GoWell s D N) (λ b e. puts_tell b s D N e) c.all_go_well.ensures
