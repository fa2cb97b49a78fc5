use Rattle.std.proofs.Common.{◌≡◌, ◌||◌}
use Rattle.std.specs.BTreeSet.{contains}
use Rattle.std.specs.List.{list_any}
use Rattle.st_ids.specs.Order.{node_cmp}
use Rattle.st_ids.specs.declared.names.NodeId.{NodeId}
use Rattle.st_doc.specs.Doc.{document_of}
use Rattle.st_embed.specs.inside.Standing.{is_row_of}
use Rattle.st_embed.proofs.sets.add_rows_of.Given as goal

-- what is in the set, and what is left to be gone through
abbrev pub invariant-loop-node : goal.invariant-loop-node
invariant-loop-node l = (n : NodeId) → (contains node_cmp l.set n || list_any (λ m. is_row_of n ((document_of l.doc).place m)) l.node-iterator)
    ≡ (contains node_cmp l.initial.set n || list_any (λ m. is_row_of n ((document_of l.doc).place m)) l.nodes.keys)
