use Rattle.std.proofs.Common.{◌≡◌, ◌++◌, take}
use Rattle.std.specs.List.{filter_map}
use Rattle.st_doc.specs.Doc.{document_of}
use Rattle.st_step.specs.inside.Sources.{changed_owner}
use Rattle.st_step.proofs.sources.push_owners.Given as goal

abbrev pub invariant-loop-field : goal.invariant-loop-field
invariant-loop-field l = l.names ≡ l.initial.names ++ filter_map (changed_owner (document_of l.doc) (document_of l.later)) (take l.field-index l.fields)
