use Rattle.std.proofs.Common.{◌≡◌, ◌++◌, take}
use Rattle.std.specs.List.{filter_map}
use Rattle.st_marks.specs.declared.intents.Put.{Put}
use Rattle.st_doc.specs.Doc.{document_of}
use Rattle.st_heads.specs.inside.GoingBack.{entered_field}
use Rattle.st_heads.proofs.back.push_entered.Given as goal

abbrev pub invariant-loop-put : goal.invariant-loop-put
invariant-loop-put l = l.fields ≡ l.initial.fields ++ filter_map (λ (p : Put). entered_field (document_of l.doc) p.node p.to) (take l.put-index l.puts)
