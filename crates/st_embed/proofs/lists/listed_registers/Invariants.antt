use Rattle.std.proofs.Common.{◌≡◌, ◌++◌}
use Rattle.std.specs.List.{filter_map}
use Rattle.std.specs.BTreeSet.{contains}
use Rattle.st_ids.specs.Order.{node_cmp}
use Rattle.st_doc.specs.Doc.{document_of}
use Rattle.st_embed.specs.inside.Wants.{register_in}
use Rattle.st_embed.proofs.lists.listed_registers.Given as goal

-- what is listed, and what is left to be gone through
abbrev pub invariant-loop-field : goal.invariant-loop-field
invariant-loop-field l = l.list ++ filter_map (register_in l.wants (contains node_cmp l.mentioned) (document_of l.doc)) l.field-iterator ≡ filter_map (register_in l.wants (contains node_cmp l.mentioned) (document_of l.doc)) l.fields.keys
