-- Which names an intent makes, where its names are counted on.
use Rattle.std.specs.Prelude.{◌≡◌, ◌<◌, ◌≤◌, ℕ, ◌+◌, true}
use Rattle.st_ids.specs.Listing.{Has}
use Rattle.st_ids.specs.declared.names.NodeId.{NodeId}
use Rattle.st_tree.specs.Preorder.{cell_named, node_named}
use Rattle.st_tree.specs.declared.edit.Edit.{Edit}
use Rattle.st_marks.specs.declared.intents.Intent.{Intent}
use Rattle.st_marks.specs.declared.intents.Owned.{Owned}
use Rattle.st_marks.specs.Intent.{group_cells, is_new}
use Rattle.st_edits.specs.declared.names.NameCounters.{NameCounters}

-- the names that an intent makes are among the next ones, so many nodes and so many cells, and a commit that had room before
-- has room for them
pub record IsCountedFrom (G : NameCounters) (node_count cell_count : ℕ) (N : Intent) : Type 0 where
  pub nodes : (n : NodeId) → is_new N n ≡ true → (k : ℕ) × (n ≡ node_named G.rev k) × (G.nodes ≤ k) × (k < G.nodes + node_count)
  pub cells : (o : Owned) → Has (group_cells N) o → (k : ℕ) × (o.cell ≡ cell_named G.rev k) × (G.cells ≤ k) × (k < G.cells + cell_count)
  pub room : G.nodes + G.cells ≤ 2048 → (G.nodes + node_count) + (G.cells + cell_count) ≤ 2048

-- how many numbers of cells an edit gives that its intent has no cell for: an item that is set needs none
abbrev pub cells_unused : Edit → ℕ
cells_unused (Edit.Insert at key index items) = 0
cells_unused (Edit.Remove at key index count) = 0
cells_unused (Edit.Move at key index count to to_key to_index) = 0
cells_unused (Edit.Put at key item) = 1
cells_unused (Edit.Clear at key) = 0
cells_unused (Edit.Need at) = 0
