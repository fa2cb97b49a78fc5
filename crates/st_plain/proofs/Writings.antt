-- What a client shows where it is about to write.
use Rattle.std.proofs.Common.{◌≡◌, ℕ, true, false, Ok, Some, None, Option, is_some, refl, sym, ap, ◌∙◌, subst}
use Rattle.std.specs.BTreeMap.{get}
use Rattle.std.specs.List.{slice_get}
use Rattle.std.specs.Option.{option_and_then}
use Rattle.std.specs.Prelude.{option_map}
use Rattle.st_ids.specs.Order.{rev_cmp}
use Rattle.st_edits.specs.InEffect.{last_in_effect, schema_in_effect}
use Rattle.st_edits.specs.Resolve.{resolve}
use Rattle.st_edits.specs.declared.names.NameCounters.{NameCounters}
use Rattle.st_heads.specs.declared.replica.Replica.{Replica}
use Rattle.st_known_changes.specs.Writing.{IsWriting}
use Rattle.st_lists.specs.Clients.{joined_of, place_of}
use Rattle.st_lists.specs.Lines.{main_line}
use Rattle.st_lists.specs.declared.lists.Client.{Client}
use Rattle.st_lists.specs.declared.lists.Transaction.{Transaction}
use Rattle.st_lists.specs.declared.lists.WorldState.{WorldState}
use Rattle.st_marks.specs.Document.{Document, IsSoundInForm}
use Rattle.st_marks.specs.Intent.{Fits}
use Rattle.st_marks.specs.declared.intents.Intent.{Intent}
use Rattle.st_plain_schemas.specs.declared.known.KnownSchema.{KnownSchema}
use Rattle.st_schema.specs.Schema.{SchemaView}
use Rattle.st_script.specs.Header.{HeaderView, header_view}
use Rattle.st_script.specs.Steps.{StepView, edit_view}
use Rattle.st_script.specs.Steps as step
use Rattle.st_script.specs.declared.step.EditAct.{EditAct}
use Rattle.st_script.specs.declared.step.EditAct.TheVariants as edits
use Rattle.st_world.specs.Edits.{edit_of}
use Rattle.st_world.specs.World.{HasShown, intent_of, next_names, opening_document}
use Rattle.st_plain.specs.Replicas.{IsSound}
use Rattle.st_plain.specs.Stands.{Stands}
use Rattle.st_plain.specs.declared.world.World.{World}
use Rattle.st_plain.proofs.Acting.{edit_meant, one_at, shown, shown_of}
use Rattle.st_plain.proofs.BranchShown.{IsShownBy, schema_by_head, shown_doc_sound}

-- an edit means the same in the words of the world's steps
means : (D : Document) (s : SchemaView) (G : NameCounters) (e : EditAct) → intent_of D s G (edit_view e) ≡ resolve D s G (edit_of e)
means D s G (edits.Insert at key index items) = refl
means D s G (edits.Remove at key index count) = refl
means D s G (edits.Move at key index count to to_key to_index) = refl
means D s G (edits.Set at key item) = refl
means D s G (edits.Clear at key) = refl

-- none is there, where there isn't some
pub is_none : (o : Option Transaction) → is_some o ≡ false → o ≡ None
is_none None e = refl
is_none (Some t) e = cc

module _ (w : World) (i : ℕ) (c : Client) (k : Replica) (s : IsSound w) (at_c : slice_get w.lists.clients i ≡ Some c) (at_k : slice_get w.kept i ≡ Some k) (F : Document) (shows : IsShownBy k.main F) where
  abbrev h : HeaderView
  h = header_view w.header

  is_shown : F ≡ shown_of c k
  is_shown = shows (joined_of c) (one_at w i c k s at_c at_k).kept.edited

  shown_there : HasShown (opening_document h) w.lists.log (main_line c) F
  shown_there = subst (HasShown (opening_document h) w.lists.log (main_line c)) (sym is_shown) (shown w i c k s at_c at_k)

  pub sound_there : IsSoundInForm F
  sound_there = shown_doc_sound w i c k 0 k.main F s at_c at_k refl shows

  module _ (x : KnownSchema) (found : Some x ≡ get rev_cmp w.schemas (last_in_effect F)) (none : c.transaction ≡ None) where
    in_effect : x.schema ≡ schema_in_effect F
    in_effect = schema_by_head w i c k s at_c at_k 0 (main_line c) k.main refl refl F shows x found

    -- what the edit means fits
    pub fits_there : (G : NameCounters) → G ≡ next_names c None → (e : EditAct) (N : Intent) → intent_of F x.schema G (edit_view e) ≡ Ok N → Fits F N
    fits_there G names e N meant =
        let all : intent_of F (schema_in_effect F) (next_names c c.transaction) (edit_view e) ≡ Ok N = subst (λ o. intent_of F (schema_in_effect F) (next_names c o) (edit_view e) ≡ Ok N) (sym none)
        (subst (λ g. intent_of F (schema_in_effect F) g (edit_view e) ≡ Ok N) names (subst (λ z. intent_of F z G (edit_view e) ≡ Ok N) in_effect meant)) in
        let here : resolve (shown_of c k) (schema_in_effect (shown_of c k)) (next_names c c.transaction) (edit_of e) ≡ Ok N =
        subst (λ E. resolve E (schema_in_effect E) (next_names c c.transaction) (edit_of e) ≡ Ok N) is_shown (sym (means F (schema_in_effect F) (next_names c c.transaction) e) ∙ all) in
        subst (λ E. Fits E N) (sym is_shown) (edit_meant w i c k s at_c at_k e N here).fits

    writes : (x' : StepView) (e : EditAct) (G : NameCounters) → place_of x'.client w.lists.clients ≡ Some i → x'.act ≡ step.edit (edit_view e) → x'.branch ≡ 0 → c.connected ≡ true → G ≡ next_names c None
        → IsWriting h w.lists x' c.received F x.schema G (edit_view e)
    writes x' e G place act main on names = record {
      place = i;
      client = c;
      named = ap (option_and_then (λ j. option_map (λ (q : Client). (j, q)) (slice_get w.lists.clients j))) place ∙ ap (option_map (λ (q : Client). (i, q))) at_c;
      act = act;
      main = main;
      connected = on;
      none = none;
      reference = refl;
      shown = shown_there;
      in_effect = in_effect;
      names = names;
    }

    pub writes_there : (x' : StepView) (e : EditAct) (G : NameCounters) → place_of x'.client w.lists.clients ≡ Some i → x'.act ≡ step.edit (edit_view e) → x'.branch ≡ 0 → c.connected ≡ true → G ≡ next_names c None
        → (n : ℕ) (g : HeaderView) (v : WorldState) → Stands n w g v → IsWriting g v x' c.received F x.schema G (edit_view e)
    writes_there x' e G place act main on names n g v st =
        subst (λ (z : HeaderView). IsWriting z v x' c.received F x.schema G (edit_view e)) st.header
        (subst (λ (z : WorldState). IsWriting h z x' c.received F x.schema G (edit_view e)) st.lists (writes x' e G place act main on names))
