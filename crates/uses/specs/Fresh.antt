-- Names that a commit has still to give.
use Rattle.std.specs.Prelude.{◌≡◌, ◌≤◌, ℕ, None}
use Rattle.st_tree.specs.Preorder.{cell_named, node_named}
use Rattle.st_marks.specs.Document.{Document}
use Rattle.st_edits.specs.declared.names.NameCounters.{NameCounters}

-- no node and no cell of a document has a name that the commit has still to give
pub record AreFresh (D : Document) (given : NameCounters) : Type 0 where
  pub nodes : (k : ℕ) → given.nodes ≤ k → D.nodes (node_named given.rev k) ≡ None
  pub cells : (k : ℕ) → given.cells ≤ k → D.row_of (cell_named given.rev k) ≡ None
