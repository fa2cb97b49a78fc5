-- What any edit means fits the document where it was resolved.
use Rattle.std.proofs.Common.{◌≡◌, ◌≤◌, ℕ, true, None, Ok}
use Rattle.st_tree.specs.Node.{trees_view, view}
use Rattle.st_tree.specs.Preorder.{cell_named, node_named}
use Rattle.st_tree.specs.declared.edit.Edit.{Edit}
use Rattle.st_schema.specs.Schema.{SchemaView, is_sound}
use Rattle.st_marks.specs.declared.intents.Intent.{Intent}
use Rattle.st_marks.specs.Document.{Document, IsSoundInForm}
use Rattle.st_marks.specs.Intent.{Fits}
use Rattle.st_edits.specs.declared.names.NameCounters.{NameCounters}
use Rattle.st_edits.specs.Resolve.{resolve}
use Rattle.st_edits.proofs.Fits.{clear_fits, need_fits, remove_fits}
use Rattle.st_edits.proofs.MoveFits.{move_fits}
use Rattle.st_edits.proofs.NewFits.{insert_fits, put_fits}

pub resolved_fits : (D : Document) (s : SchemaView) (G : NameCounters) (edit : Edit) (N : Intent) → IsSoundInForm D → is_sound s ≡ true
    → ((k : ℕ) → G.nodes ≤ k → D.nodes (node_named G.rev k) ≡ None) → ((k : ℕ) → G.cells ≤ k → D.row_of (cell_named G.rev k) ≡ None)
    → resolve D s G edit ≡ Ok N → Fits D N
resolved_fits D s G (Edit.Insert at key index items) N sound schema nodes cells e = insert_fits D s G at key index (trees_view items) N sound nodes cells e
resolved_fits D s G (Edit.Remove at key index count) N sound schema nodes cells e = remove_fits D s G at key index count N sound e
resolved_fits D s G (Edit.Move at key index count to to_key to_index) N sound schema nodes cells e = move_fits D s G at key index count to to_key to_index N sound schema cells e
resolved_fits D s G (Edit.Put at key item) N sound schema nodes cells e = put_fits D s G at key (view item) N sound schema nodes cells e
resolved_fits D s G (Edit.Clear at key) N sound schema nodes cells e = clear_fits D s G at key N sound schema e
resolved_fits D s G (Edit.Need at) N sound schema nodes cells e = need_fits D G at N sound e
