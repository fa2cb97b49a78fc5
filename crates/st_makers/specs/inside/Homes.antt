-- What is said of homes while commits and registers are gone through.
use Rattle.std.specs.Prelude.{◌&&◌, Bool, false, List, Option, cond, option_map, unwrap_or}
use Rattle.std.specs.List.{find}
use Rattle.std.specs.Option.{option_map_or}
use Rattle.st_ids.specs.Order.{same_node, same_rev}
use Rattle.st_ids.specs.Root.{opening}
use Rattle.st_ids.specs.declared.names.FieldId.{FieldId}
use Rattle.st_ids.specs.declared.names.NodeId.{NodeId}
use Rattle.st_ids.specs.declared.names.Rev.{Rev}
use Rattle.st_marks.specs.Document.{Document}
use Rattle.st_marks.specs.Intent.{register_of}
use Rattle.st_marks.specs.declared.intents.Put.{Put}

-- a node's home after puts of a revision's commit: of a node of the revision that is put, the register into which it is put
-- first, if it is one; of any other node, its home before
abbrev pub home_after : Rev → List Put → Option FieldId → NodeId → Option FieldId
home_after rev puts before n =
    cond (same_rev rev n.0.rev) (unwrap_or (option_map (λ (p : Put). register_of p.to) (find (λ (p : Put). same_node p.node n) puts)) before) before

-- whether a node is the opening's and stands in a register
abbrev pub stands_in : Document → NodeId → FieldId → Bool
stands_in D n f = option_map_or (λ m. same_rev m.0.rev opening && same_node m n) (D.held f) false
