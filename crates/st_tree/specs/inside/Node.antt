-- Words of the private functions behind `Node`.
use Rattle.std.specs.Prelude.{List, map}
use Rattle.st_tree.specs.declared.tree.Field.{Field, fold-Field}
use Rattle.st_tree.specs.Node.{FieldNode, field_step, fields_of, tree_step, Fields, Node}

abbrev pub field_view : Field → FieldNode
field_view = fold-Field FieldNode Node field_step tree_step

abbrev pub fields_view : List Field → Fields
fields_view fs = fields_of (map field_view fs)
