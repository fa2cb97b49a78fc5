-- the nodes so far are allowed
use Rattle.std.proofs.Common.{◌≡◌, not, drop}
use Rattle.std.specs.List.{position_from}
use Rattle.st_doc.specs.Doc.{document_of}
use Rattle.st_edits.specs.Resolve.{none_refused, has_type, nodes_allowed}
use Rattle.st_resolve.proofs.rules.nodes_allowed.Given as goal

abbrev pub invariant-loop-i : goal.invariant-loop-i
invariant-loop-i l = none_refused (position_from (λ n. not (has_type (document_of l.doc) l.rule.types n)) l.i (drop l.i l.nodes)) ≡ nodes_allowed (document_of l.doc) l.rule l.nodes
