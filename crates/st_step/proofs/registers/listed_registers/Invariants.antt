use Rattle.std.proofs.Common.{◌≡◌, ◌++◌}
use Rattle.std.specs.List.{filter_map}
use Rattle.std.specs.BTreeSet.{contains}
use Rattle.st_ids.specs.Order.{node_cmp}
use Rattle.st_ids.specs.declared.names.FieldId.{FieldId}
use Rattle.st_marks.specs.Register.{step_register}
use Rattle.st_doc.specs.Doc.{document_of}
use Rattle.st_step.proofs.registers.listed_registers.Given as goal

-- what is listed, and what is left to be gone through
abbrev pub invariant-loop-field : goal.invariant-loop-field
invariant-loop-field l =
    l.list ++ filter_map (λ (f : FieldId). step_register f (contains node_cmp l.mentioned) ((document_of l.doc).held f) ((document_of l.later).held f)) l.field-iterator
    ≡ filter_map (λ (f : FieldId). step_register f (contains node_cmp l.mentioned) ((document_of l.doc).held f) ((document_of l.later).held f)) l.fields.keys
