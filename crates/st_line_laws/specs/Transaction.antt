-- The edits of a transaction, one after the other.
use Rattle.std.specs.Prelude.{◌≡◌, ◌≤◌, ℕ, List, [], ◌∷◌, Option, Some, None, Ok}
use Rattle.serde_json.specs.Data.{Data}
use Rattle.st_ids.specs.declared.names.Rev.{Rev}
use Rattle.st_tree.specs.Preorder.{cell_named, node_named}
use Rattle.st_tree.specs.declared.edit.Edit.{Edit}
use Rattle.st_schema.specs.Schema.{SchemaView}
use Rattle.st_marks.specs.declared.intents.Intent.{Intent}
use Rattle.st_marks.specs.CarryOut.{full}
use Rattle.st_marks.specs.Document.{Document, HasShortRows}
use Rattle.st_edits.specs.Resolve.{resolve}
use Rattle.st_edits.specs.declared.names.NameCounters.{NameCounters}
use Rattle.st_schema_laws.specs.Edits.{tree_after_edit}
use Rattle.st_lists.specs.Open.{IsWithPart, with_open}

-- the tree after some edits, one after the other
abbrev pub tree_after_edits : List Edit → Data → Data
tree_after_edits [] d = d
tree_after_edits (e ∷ es) d = tree_after_edits es (tree_after_edit e d)

-- what an edit means in a document, as a part of the commit of a revision, with names that are not there yet
pub record IsMeantBy (D : Document) (s : SchemaView) (rev : Rev) (edit : Edit) (M : Intent) : Type 0 where
  pub given : NameCounters
  pub of_commit : given.rev ≡ rev
  pub new_nodes : (k : ℕ) → given.nodes ≤ k → D.nodes (node_named given.rev k) ≡ None
  pub new_cells : (k : ℕ) → given.cells ≤ k → D.row_of (cell_named given.rev k) ≡ None
  pub resolved : resolve D s given edit ≡ Ok M
  pub short : HasShortRows (full D M)

-- a transaction over D goes on by edits, from what was edited before them to what was edited after them: each edit is
-- resolved in the document that shows those before it, and is joined to them
pub data AreEditedIn (D : Document) (s : SchemaView) (rev : Rev) : Option Intent → List Edit → Option Intent → Type 0 where
  no_more : {joined : Option Intent} → AreEditedIn D s rev joined [] joined
  one_more : {before after : Option Intent} {edit : Edit} {edits : List Edit} (M K : Intent) → IsMeantBy (with_open D before) s rev edit M → IsWithPart before M K
      → AreEditedIn D s rev (Some K) edits after → AreEditedIn D s rev before (edit ∷ edits) after
