-- What is shown after any edit.
use Rattle.std.proofs.Common.{◌≡◌, ℕ, Bool, true, List, Ok}
use Rattle.serde_json.specs.Data.{Data}
use Rattle.st_tree.specs.Node.{trees_view, view}
use Rattle.st_tree.specs.declared.edit.Edit.{Edit}
use Rattle.st_schema.specs.Schema.{SchemaView, is_sound}
use Rattle.st_marks.specs.declared.intents.Intent.{Intent}
use Rattle.st_marks.specs.declared.verdicts.Verdict.{Verdict}
use Rattle.st_marks.specs.Document.{Document, IsSoundInForm}
use Rattle.st_ids.specs.Root.{root}
use Rattle.st_marks.specs.CarryOut.{full}
use Rattle.st_marks.specs.Verdict.{IsVerdict}
use Rattle.st_marks.specs.LiveTree.{Shows}
use Rattle.st_edits.specs.Resolve.{resolve}
use Rattle.st_edits.specs.declared.names.NameCounters.{NameCounters}
use Rattle.st_edits.proofs.MoveFits.{CellsFresh}
use Rattle.st_edits.proofs.NewFits.{NodesFresh}
use Rattle.st_schema_laws.specs.Edited.{TellsRows}
use Rattle.st_schema_laws.specs.Edits.{tree_after_edit}
use Rattle.st_schema_laws.specs.Typed.{IsAsTyped}
use Rattle.st_schema_laws.proofs.Cleared.{clearing_seen, clearing_verdict, needing_seen, needing_verdict}
use Rattle.st_schema_laws.proofs.Filled.{setting_seen, setting_verdict}
use Rattle.st_schema_laws.proofs.Inserted.{insertion_seen, insertion_verdict}
use Rattle.st_schema_laws.proofs.Moves.{move_seen, move_verdict}
use Rattle.st_schema_laws.proofs.Removed.{removal_seen, removal_verdict}

pub any_verdict : (D : Document) (s : SchemaView) (G : NameCounters) (edit : Edit) (N : Intent) → IsSoundInForm D → is_sound s ≡ true → NodesFresh D G → CellsFresh D G → resolve D s G edit ≡ Ok N → IsVerdict D N Verdict.Sound
any_verdict D s G (Edit.Insert at key index items) N sound schema nodes cells e = insertion_verdict D s G at key index (trees_view items) N sound nodes cells e
any_verdict D s G (Edit.Remove at key index count) N sound schema nodes cells e = removal_verdict D s G at key index count N sound e
any_verdict D s G (Edit.Move at key index count to to_key to_index) N sound schema nodes cells e = move_verdict D s G at key index count to to_key to_index N sound schema cells e
any_verdict D s G (Edit.Put at key item) N sound schema nodes cells e = setting_verdict D s G at key (view item) N sound schema nodes cells e
any_verdict D s G (Edit.Clear at key) N sound schema nodes cells e = clearing_verdict D s G at key N sound e
any_verdict D s G (Edit.Need at) N sound schema nodes cells e = needing_verdict D G at N sound e

pub any_seen : (is_array : List ℕ → Bool) (D : Document) (s : SchemaView) (G : NameCounters) (edit : Edit) (N : Intent) (d : Data) → IsSoundInForm D → is_sound s ≡ true → TellsRows is_array s → IsAsTyped is_array D → NodesFresh D G → CellsFresh D G
    → resolve D s G edit ≡ Ok N → Shows is_array D root d → Shows is_array (full D N) root (tree_after_edit edit d)
any_seen is_array D s G (Edit.Insert at key index items) N d sound schema tells typed nodes cells e shows = insertion_seen D s G at key index (trees_view items) N sound nodes cells e is_array schema tells d shows
any_seen is_array D s G (Edit.Remove at key index count) N d sound schema tells typed nodes cells e shows = removal_seen is_array D s G at key index count N d sound schema tells e shows
any_seen is_array D s G (Edit.Move at key index count to to_key to_index) N d sound schema tells typed nodes cells e shows =
    move_seen D s G at key index count to to_key to_index N sound schema cells e is_array tells typed d shows
any_seen is_array D s G (Edit.Put at key item) N d sound schema tells typed nodes cells e shows = setting_seen D s G at key (view item) N sound schema nodes cells e is_array tells d shows
any_seen is_array D s G (Edit.Clear at key) N d sound schema tells typed nodes cells e shows = clearing_seen is_array D s G at key N d sound schema tells e shows
any_seen is_array D s G (Edit.Need at) N d sound schema tells typed nodes cells e shows = needing_seen is_array D G at N d sound e shows
