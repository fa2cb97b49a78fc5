-- What any edit means agrees with the schema, and so keeps conformity wherever it comes.
use Rattle.std.proofs.Common.{◌≡◌, true, Option, Some, Ok}
use Rattle.st_ids.specs.declared.names.CellId.{CellId}
use Rattle.st_ids.specs.declared.names.FieldId.{FieldId}
use Rattle.st_ids.specs.declared.names.NodeId.{NodeId}
use Rattle.st_tree.specs.Node.{trees_view, view}
use Rattle.st_tree.specs.declared.edit.Edit.{Edit}
use Rattle.st_schema.specs.Schema.{SchemaView, is_sound}
use Rattle.st_marks.specs.declared.intents.Intent.{Intent}
use Rattle.st_marks.specs.declared.verdicts.Verdict.{Verdict}
use Rattle.st_marks.specs.Document.{Document, IsSoundInForm}
use Rattle.st_marks.specs.Intent.{Fits}
use Rattle.st_marks.specs.Verdict.{carried_document}
use Rattle.st_edits.specs.Resolve.{resolve}
use Rattle.st_edits.specs.declared.names.NameCounters.{NameCounters}
use Rattle.st_edits.proofs.MoveFits.{CellsFresh}
use Rattle.st_edits.proofs.NewFits.{NodesFresh}
use Rattle.st_schema_laws.specs.Conforming.{IsConforming}
use Rattle.st_schema_laws.specs.Agreeing.{KeepsSchema, TellsHomes}
use Rattle.st_schema_laws.proofs.Kept.{HasNodes, carried_conforms}
use Rattle.st_schema_laws.proofs.Elsewhere.{agrees_there}
use Rattle.st_schema_laws.proofs.Simple.{remove_agrees, need_agrees, clear_agrees, move_agrees}
use Rattle.st_schema_laws.proofs.NewTrees.{insert_agrees, put_agrees}

module _ (s : SchemaView) (home : NodeId → Option FieldId) (D : Document) (G : NameCounters) (N : Intent) (sound : IsSoundInForm D) (schema : is_sound s ≡ true) (here : IsConforming s home D) (nodes : NodesFresh D G) (cells : CellsFresh D G) (own : TellsHomes home N) where
  pub resolved_agrees : (edit : Edit) → resolve D s G edit ≡ Ok N → KeepsSchema s home D N
  resolved_agrees (Edit.Insert at key index items) e = insert_agrees s home D G at key index (trees_view items) N sound schema nodes cells own e
  resolved_agrees (Edit.Remove at key index count) e = remove_agrees s home D G at key index count N sound here e
  resolved_agrees (Edit.Move at key index count to to_key to_index) e = move_agrees s home D G at key index count to to_key to_index N sound schema here cells e
  resolved_agrees (Edit.Put at key item) e = put_agrees s home D G at key (view item) N sound schema nodes cells own e
  resolved_agrees (Edit.Clear at key) e = clear_agrees s home D G at key N e
  resolved_agrees (Edit.Need at) e = need_agrees s home D G at N e

  -- carried out in another document that has the same old names
  pub kept_elsewhere : (edit : Edit) (E : Document) (v : Verdict) → resolve D s G edit ≡ Ok N → IsSoundInForm E → Fits E N → IsConforming s home E → HasNodes D E
      → ((c : CellId) (n : NodeId) → D.row_of c ≡ Some n → E.row_of c ≡ Some n) → IsConforming s home (carried_document v E N)
  kept_elsewhere edit E v e there fits conforming same_nodes same_cells =
      carried_conforms s home E N there fits conforming (agrees_there s home D E N (resolved_agrees edit e) same_nodes same_cells fits.fresh_nodes fits.fresh_cells) v
