use Rattle.std.proofs.Common.{◌≡◌, drop}
use Rattle.std.specs.List.{list_all}
use Rattle.st_doc.specs.Doc.{document_of}
use Rattle.st_keeps.specs.inside.Tests.{are_filled, is_filled}
use Rattle.st_keeps.proofs.cleared.are_filled.Given as goal

-- what is left decides
abbrev pub invariant-loop-field : goal.invariant-loop-field
invariant-loop-field l =
    list_all (is_filled l.makers l.schema (document_of l.doc) l.intent) (drop l.field-index l.field-items) ≡ are_filled l.makers l.schema (document_of l.doc) l.intent
