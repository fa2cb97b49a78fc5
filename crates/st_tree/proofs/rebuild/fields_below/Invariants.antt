-- what is taken and what is still to take make the whole
use Rattle.std.proofs.Common.{◌≡◌, ◌++◌, map, length}
use Rattle.st_tree.specs.inside.Node.{field_view}
use Rattle.st_tree.specs.inside.Rebuilt.{fields_of_node, fields_of_others, named_field, waiting_view}
use Rattle.st_tree.proofs.rebuild.fields_below.Given as goal

abbrev pub invariant-loop-placed : goal.invariant-loop-placed
invariant-loop-placed l = record {
  fields : map field_view l.fields ++ map named_field (fields_of_node l.node (waiting_view l.waiting)) ≡ map named_field (fields_of_node l.node (waiting_view l.initial.waiting));
  rest : fields_of_others l.node (waiting_view l.waiting) ≡ fields_of_others l.node (waiting_view l.initial.waiting);
}

abbrev pub decreases-loop-placed : goal.decreases-loop-placed
decreases-loop-placed l = length (waiting_view l.waiting)
