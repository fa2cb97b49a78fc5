use Rattle.std.proofs.Common.{◌≡◌, drop}
use Rattle.std.specs.List.{list_all}
use Rattle.st_doc.specs.Doc.{document_of}
use Rattle.st_marks.specs.declared.intents.Put.{Put}
use Rattle.st_makers.specs.Makers.{home_told}
use Rattle.st_keeps.specs.inside.Tests.{homes_left_well, leaves_home}
use Rattle.st_keeps.proofs.leaving.homes_left_well.Given as goal

-- what is left decides
abbrev pub invariant-loop-put : goal.invariant-loop-put
invariant-loop-put l =
    list_all (λ (p : Put). leaves_home l.schema (document_of l.doc) l.intent p.node (home_told l.makers p.node)) (drop l.put-index l.put-items)
    ≡ homes_left_well l.makers l.schema (document_of l.doc) l.intent
