-- What an edit means, wherever it is resolved.
use Rattle.std.proofs.Common.{◌≡◌, true, ℕ, length, None, Result, Ok, List, subst, sym}
use Rattle.st_ids.specs.declared.names.Key.{Key}
use Rattle.st_ids.specs.declared.names.Place.{Place}
use Rattle.st_tree.specs.Node.{Node, Nodes, nodes_of, first, no_nodes}
use Rattle.st_tree.specs.declared.edit.EditFault.{EditFault}
use Rattle.st_schema.specs.Schema.{SchemaView, is_sound}
use Rattle.st_marks.specs.declared.intents.Intent.{Intent}
use Rattle.st_marks.specs.declared.verdicts.Verdict.{Verdict}
use Rattle.st_marks.specs.Document.{Document, IsSoundInForm}
use Rattle.st_marks.specs.Intent.{Fits}
use Rattle.st_marks.specs.Verdict.{IsVerdict}
use Rattle.st_edits.specs.declared.names.NameCounters.{NameCounters}
use Rattle.st_edits.specs.Given.{IsCountedFrom}
use Rattle.st_edits.specs.Resolve.{insert, remove, move, put, clear, need, resolve}
use Rattle.st_edits.proofs.Fits.{clear_fits, need_fits, remove_fits}
use Rattle.st_edits.proofs.Given.{clear_counted, insert_counted, move_counted, need_counted, put_counted, remove_counted}
use Rattle.st_edits.proofs.MoveFits.{CellsFresh, move_fits}
use Rattle.st_edits.proofs.NewFits.{NodesFresh, insert_fits, put_fits}
use Rattle.st_schema_laws.proofs.Cleared.{clearing_verdict, needing_verdict}
use Rattle.st_schema_laws.proofs.Filled.{setting_verdict}
use Rattle.st_schema_laws.proofs.Inserted.{insertion_verdict}
use Rattle.st_schema_laws.proofs.Moves.{move_verdict}
use Rattle.st_schema_laws.proofs.Removed.{removal_verdict}
use Rattle.st_schema_laws.specs.Agreeing.{TellsHomes}
use Rattle.st_tree.specs.declared.edit.Edit.{Edit}
use Rattle.st_tree.specs.declared.edit.Edit.TheVariants as tree_edit
use Rattle.st_schema_laws.specs.AgreeingInEffect.{AgreesInLine, ConformsInEffect, Told}
use Rattle.st_edits.specs.InEffect.{schema_in_effect}
use Rattle.st_schema_laws.proofs.SchemasKept.{edit_agrees}
use Rattle.st_schema_laws.proofs.Read.{read_as_told}
use Rattle.st_world_laws.proofs.Trees.{tree_from, tree_seen, trees_from, trees_seen}
use Rattle.st_script.specs.Steps.{EditView, edit_view}
use Rattle.st_script.specs.Steps as step
use Rattle.st_script.specs.declared.step.EditAct.{EditAct}
use Rattle.st_script.specs.declared.step.EditAct.TheVariants as edits
use Rattle.st_world.specs.declared.edit_word.EditWord.{EditWord}
use Rattle.st_world.specs.Edits.{edit_of}
use Rattle.st_world.specs.World.{cells_given, intent_of, word_of}
use Rattle.st_edits.specs.InEffect.{last_in_effect}
use Rattle.st_world_laws.proofs.Meanings.{clear_of, insert_of, move_of, need_of, put_of, remove_of}

-- an intent that an edit means fits the document and is sound there, is made under the last schema in effect with the names
-- that were given, and agrees with that schema by whatever is told, if this is told of it
pub record IsMeant (D : Document) (G : NameCounters) (word : EditWord) (N : Intent) : Type 0 where
  pub fits : Fits D N
  pub rev : N.rev ≡ G.rev
  pub under : N.under ≡ last_in_effect D
  pub no_schema : N.schema ≡ None
  pub verdict : IsVerdict D N Verdict.Sound
  pub counted : IsCountedFrom G (length N.new) (cells_given word N) N
  pub agrees : (T : Told) → ConformsInEffect T D → TellsHomes T.home N → T.under N.rev ≡ N.under → AgreesInLine T D N

abbrev pub IsMeaning : Document → NameCounters → EditWord → Result Intent EditFault → Type 0
IsMeaning D G word r = (N : Intent) → r ≡ Ok N → IsMeant D G word N

-- a document in which a client edits: it is sound in form, and has none of the names that may be given
pub record IsEditable (D : Document) (G : NameCounters) : Type 0 where
  pub sound : IsSoundInForm D
  pub nodes : NodesFresh D G
  pub cells : CellsFresh D G

module _ (D : Document) (G : NameCounters) (at : IsEditable D G) (schema : is_sound (schema_in_effect D) ≡ true) where
  abbrev s : SchemaView
  s = schema_in_effect D

  -- by the schema in effect, which is the one that is told
  as_told : (edit : Edit) (N : Intent) → resolve D s G edit ≡ Ok N → (T : Told) → ConformsInEffect T D → TellsHomes T.home N → T.under N.rev ≡ N.under → AgreesInLine T D N
  as_told edit N e T here tells under = edit_agrees T D at.sound here G at.nodes at.cells edit N tells under (subst (λ v. resolve D v G edit ≡ Ok N) (read_as_told T D at.sound here) e)

  insert_means : (path : List Place) (key : Key) (index : ℕ) (trees : Nodes) → IsMeaning D G EditWord.Insert (insert D s G path key index trees)
  insert_means path key index trees N e =
      let m = insert_of D s G path key index trees N e in
      record {
        fits = insert_fits D s G path key index trees N at.sound at.nodes at.cells e;
        rev = m.0;
        under = m.2;
        no_schema = m.1;
        verdict = insertion_verdict D s G path key index trees N at.sound at.nodes at.cells e;
        counted = insert_counted D s G path key index trees N e;
        agrees = as_told (tree_edit.Insert path key index (trees_from trees)) N (subst (λ ts. insert D s G path key index ts ≡ Ok N) (sym (trees_seen trees)) e);
      }

  remove_means : (path : List Place) (key : Key) (index count : ℕ) → IsMeaning D G EditWord.Remove (remove D s G path key index count)
  remove_means path key index count N e =
      let m = remove_of D s G path key index count N e in
      record {
        fits = remove_fits D s G path key index count N at.sound e;
        rev = m.0;
        under = m.2;
        no_schema = m.1;
        verdict = removal_verdict D s G path key index count N at.sound e;
        counted = remove_counted D s G path key index count N e;
        agrees = as_told (tree_edit.Remove path key index count) N e;
      }

  move_means : (path : List Place) (key : Key) (index count : ℕ) (to : List Place) (to_key : Key) (to_index : ℕ) → IsMeaning D G EditWord.Move (move D s G path key index count to to_key to_index)
  move_means path key index count to to_key to_index N e =
      let m = move_of D s G path key index count to to_key to_index N e in
      record {
        fits = move_fits D s G path key index count to to_key to_index N at.sound schema at.cells e;
        rev = m.0;
        under = m.2;
        no_schema = m.1;
        verdict = move_verdict D s G path key index count to to_key to_index N at.sound schema at.cells e;
        counted = move_counted D s G path key index count to to_key to_index N e;
        agrees = as_told (tree_edit.Move path key index count to to_key to_index) N e;
      }

  put_means : (path : List Place) (key : Key) (t : Node) → IsMeaning D G EditWord.Set (put D s G path key (first t no_nodes))
  put_means path key t N e =
      let m = put_of D s G path key (first t no_nodes) N e in
      record {
        fits = put_fits D s G path key t N at.sound schema at.nodes at.cells e;
        rev = m.0;
        under = m.2;
        no_schema = m.1;
        verdict = setting_verdict D s G path key t N at.sound schema at.nodes at.cells e;
        counted = put_counted D s G path key t N e;
        agrees = as_told (tree_edit.Put path key (tree_from t)) N (subst (λ x. put D s G path key (first x no_nodes) ≡ Ok N) (sym (tree_seen t)) e);
      }

  clear_means : (path : List Place) (key : Key) → IsMeaning D G EditWord.Clear (clear D s G path key)
  clear_means path key N e =
      let m = clear_of D s G path key N e in
      record {
        fits = clear_fits D s G path key N at.sound schema e;
        rev = m.0;
        under = m.2;
        no_schema = m.1;
        verdict = clearing_verdict D s G path key N at.sound e;
        counted = clear_counted D s G path key N e;
        agrees = as_told (tree_edit.Clear path key) N e;
      }

  pub need_means : (path : List Place) → IsMeaning D G EditWord.Need (need D G path)
  need_means path N e =
      let m = need_of D G path N e in
      record {
        fits = need_fits D G path N at.sound e;
        rev = m.0;
        under = m.2;
        no_schema = m.1;
        verdict = needing_verdict D G path N at.sound e;
        counted = need_counted D G path N e;
        agrees = as_told (tree_edit.Need path) N e;
      }

  pub edit_means : (e : EditView) → IsMeaning D G (word_of e) (intent_of D s G e)
  edit_means (step.insert path key index items) = insert_means path key index (nodes_of items)
  edit_means (step.remove path key index count) = remove_means path key index count
  edit_means (step.move path key index count to to_key to_index) = move_means path key index count to to_key to_index
  edit_means (step.set path key item) = put_means path key item
  edit_means (step.clear path key) = clear_means path key

  -- the edit of a tree that an act is means the act's intent
  pub resolved_means : (e : EditAct) → IsMeaning D G (word_of (edit_view e)) (resolve D s G (edit_of e))
  resolved_means (edits.Insert path key index items) = edit_means (edit_view (edits.Insert path key index items))
  resolved_means (edits.Remove path key index count) = edit_means (edit_view (edits.Remove path key index count))
  resolved_means (edits.Move path key index count to to_key to_index) = edit_means (edit_view (edits.Move path key index count to to_key to_index))
  resolved_means (edits.Set path key item) = edit_means (edit_view (edits.Set path key item))
  resolved_means (edits.Clear path key) = edit_means (edit_view (edits.Clear path key))
