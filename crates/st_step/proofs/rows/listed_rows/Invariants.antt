use Rattle.std.proofs.Common.{◌≡◌, ◌++◌}
use Rattle.std.specs.List.{filter_map}
use Rattle.std.specs.BTreeSet.{contains}
use Rattle.st_ids.specs.Order.{node_cmp}
use Rattle.st_step.specs.inside.Marks.{row_in}
use Rattle.st_doc.specs.Doc.{document_of}
use Rattle.st_step.proofs.rows.listed_rows.Given as goal

-- what is listed, and what is left to be gone through
abbrev pub invariant-loop-node : goal.invariant-loop-node
invariant-loop-node l =
    l.list ++ filter_map (row_in (contains node_cmp l.mentioned) (document_of l.doc) (document_of l.later)) l.node-iterator
    ≡ filter_map (row_in (contains node_cmp l.mentioned) (document_of l.doc) (document_of l.later)) l.nodes.keys
