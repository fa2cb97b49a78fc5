use Rattle.std.proofs.Common.{◌≡◌, ◌||◌}
use Rattle.std.specs.BTreeSet.{contains}
use Rattle.std.specs.List.{list_any}
use Rattle.st_ids.specs.Order.{field_cmp}
use Rattle.st_ids.specs.declared.names.FieldId.{FieldId}
use Rattle.st_doc.specs.Doc.{document_of}
use Rattle.st_embed.specs.inside.Standing.{is_register_of}
use Rattle.st_embed.proofs.sets.add_registers_of.Given as goal

-- what is in the set, and what is left to be gone through
abbrev pub invariant-loop-node : goal.invariant-loop-node
invariant-loop-node l = (f : FieldId) → (contains field_cmp l.set f || list_any (λ m. is_register_of f ((document_of l.doc).place m)) l.node-iterator)
    ≡ (contains field_cmp l.initial.set f || list_any (λ m. is_register_of f ((document_of l.doc).place m)) l.nodes.keys)
