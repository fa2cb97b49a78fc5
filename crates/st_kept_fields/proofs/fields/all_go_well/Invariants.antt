use Rattle.std.proofs.Common.{◌≡◌, drop}
use Rattle.std.specs.List.{list_all}
use Rattle.st_marks.specs.declared.intents.Put.{Put}
use Rattle.st_marks.specs.CarryOut.{with_names}
use Rattle.st_marks.specs.Intent.{put_of}
use Rattle.st_doc.specs.Doc.{document_of}
use Rattle.st_kept_fields.specs.inside.Tests.{put_goes_well, all_go_well}
use Rattle.st_kept_fields.proofs.fields.all_go_well.Given as goal

abbrev pub invariant-loop-put : goal.invariant-loop-put
invariant-loop-put l =
    list_all (λ (p : Put). put_goes_well l.schema (with_names (document_of l.doc) l.intent) p.node (put_of l.intent p.node)) (drop l.put-index l.put-items)
    ≡ all_go_well l.schema (document_of l.doc) l.intent
