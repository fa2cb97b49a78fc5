-- A tree that the schema allows is of the form of trees.
use Rattle.std.proofs.Common.{◌≡◌, ℕ, true, List, Ok, sym}
use Rattle.st_tree.specs.Form.{has_form}
use Rattle.st_tree.specs.Node.{Node, view}
use Rattle.st_schema.specs.Conforms.{allows_of, verdicts}
use Rattle.st_schema.specs.Schema.{SchemaView}
use Rattle.st_schema.proofs.AllowedForm.{conforming_formed}
use Rattle.st_doc_tests.proofs.given.start.Goals as goal
use Rattle.st_schema.proofs.Shared.{none_refused}

formed : (s : SchemaView) (types : List (List ℕ)) (t : Node) → allows_of s types t ≡ Ok tt → has_form t ≡ true
formed s types t h = conforming_formed s types t (none_refused 0 (verdicts s types t) h)

pub start-requires-clause-form : goal.start-requires-clause-form
start-requires-clause-form c = formed c.args.schema.now c.root.result.now (view c.args.tree.now) (sym c.in-Ok.ensures)
