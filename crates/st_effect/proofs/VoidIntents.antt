-- What a void intent leaves as it is, and what the step from there to the document after it names.
use Rattle.std.proofs.Common.{◌≡◌, ◌≢◌, ℕ, Bool, true, false, ◌&&◌, List, [], ◌∷◌, Option, Some, None, cond, refl, sym, ap, ◌∙◌, inl, inr, ◌⊎◌, IsSome, IfSome}
use Rattle.std.specs.List.{list_any}
use Rattle.std.specs.Option.{option_or, option_map_or}
use Rattle.st_ids.specs.declared.names.FieldId.{FieldId}
use Rattle.st_ids.specs.declared.names.NodeId.{NodeId}
use Rattle.st_kind.specs.Named.{Nodes, either}
use Rattle.st_lemmas.proofs.Bools.{or-left, true-false}
use Rattle.st_lemmas.proofs.Options.{option_or-None}
use Rattle.st_marks.specs.declared.changes.Change.{Change}
use Rattle.st_marks.specs.declared.changes.NewNode.{NewNode}
use Rattle.st_marks.specs.declared.intents.Intent.{Intent}
use Rattle.st_marks.specs.declared.places.Slot.{Slot}
use Rattle.st_marks.specs.CarryOut.{is_put_in_new, place_after, void, void_data, with_names}
use Rattle.st_marks.specs.Document.{Document, IsSoundInForm, content}
use Rattle.st_marks.specs.Embedding.{IsEmbedding, row_part, tells}
use Rattle.st_marks.specs.Extends.{GainsItems, no_more, item_gained, item_kept}
use Rattle.st_marks.specs.Intent.{Fits, is_new, new_type, put_in, put_of}
use Rattle.st_marks.specs.Row.{SameCell, embed_row, step_cell, step_row}
use Rattle.st_marks.specs.Listings.{nodes_new}
use Rattle.st_marks.specs.Step.{IsChanged}
use Rattle.st_marks.proofs.Shared.{not_made}
use Rattle.st_register.specs.Register.{only_made}
use Rattle.st_register.proofs.Documents.{void_is as register_void}
use Rattle.st_rows.specs.Sequence.{ListsNew, row_part_of}
use Rattle.st_rows.proofs.Documents.{part_fits}
use Rattle.st_rows.proofs.DocumentsAfter.{void_is as row_void}
use Rattle.st_rows.proofs.Existence.{lists_new}
use Rattle.st_trim.specs.Covers.{CoversStep}
use Rattle.st_trim.specs.Evicted.{in_cleared}
use Rattle.st_trim.proofs.Effects.{effect_covers, telling_mentioned}
use Rattle.st_effect.proofs.RowsListed.{silent_part}
use Rattle.st_puts.proofs.ListedIf.{or_parts}

-- ## A step that tells nothing

same_full : (m : Nodes) (s t : Slot) (a b : Bool) → tells (step_cell m s.cell s.node a b) ≡ false → b ≡ a
same_full m s t true true e = refl
same_full m s t true false e = cc
same_full m s t false true e = cc
same_full m s t false false e = refl

silent_same : (m : Nodes) {c d : List Slot} (g : GainsItems SameCell c d) → list_any tells (step_row m g) ≡ false → d ≡ c
silent_same m no_more h = refl
silent_same m (item_gained g) h = cc
silent_same m (item_kept {x = s} {y = t} a g) h =
    let p = or_parts (tells (step_cell m s.cell s.node s.full t.full)) (list_any tells (step_row m g)) h in
    λ i. record { cell = sym a.0 i; node = sym a.1 i; full = same_full m s t s.full t.full p.0 i } ∷ silent_same m g p.1 i

-- ## What stays

module _ (D : Document) (N : Intent) (f : Fits D N) where
  pub void_place : (n : NodeId) → is_new N n ≡ false → (void D N).place n ≡ D.place n
  void_place n e = go N.schema
    where
      go : (q : Option (List ℕ)) → (option_map_or (λ _. D) q (void_data D N)).place n ≡ D.place n
      go None = ap (λ b. cond (b && is_put_in_new D N n) (place_after (with_names D N).row_of N (put_of N n) (D.place n)) (D.place n)) e
      go (Some t) = refl

  pub void_nodes : (n : NodeId) → (void D N).nodes n ≡ option_or (D.nodes n) (new_type N n)
  void_nodes n = go N.schema f.itself.schema_alone
    where
      go : (q : Option (List ℕ)) → IfSome q (λ _. (N.new ≡ []) × (N.groups ≡ []) × (N.clear ≡ []) × (N.put ≡ []) × (N.need ≡ [])) → (option_map_or (λ _. D) q (void_data D N)).nodes n ≡ option_or (D.nodes n) (new_type N n)
      go None h = refl
      go (Some t) h = sym (ap (λ (new : List NewNode). option_or (D.nodes n) (new_type (record N { new = new }) n)) h.0 ∙ option_or-None (D.nodes n))

  pub void_schemas : D.schemas ≡ (void D N).schemas
  void_schemas = go N.schema
    where
      go : (q : Option (List ℕ)) → D.schemas ≡ (option_map_or (λ _. D) q (void_data D N)).schemas
      go None = refl
      go (Some t) = refl

-- ## What is named

module _ (D : Document) (N : Intent) (C : Change) (x : IsSoundInForm D) (f : Fits D N) (emb : IsEmbedding D N C) where
  abbrev named : Nodes
  named = either emb.mentioned (in_cleared D N)

  listed : ListsNew N (nodes_new C.new)
  listed = lists_new D N C emb

  row_stays : (n : NodeId) → IsSome (D.nodes n) → emb.mentioned n ≡ false → content (void D N) n ≡ content D n
  row_stays n known e =
      let s = silent_part (row_part_of emb.mentioned (nodes_new C.new) N n) true (content D n) (part_fits D N emb.mentioned (nodes_new C.new) n x f listed (λ k h. (emb.which k).1 h)) (quiet (list_any tells (embed_row (row_part emb.mentioned N n) (content D n))) refl) in
      row_void D N n x f emb.mentioned (nodes_new C.new) listed ∙ silent_same emb.mentioned s.0 s.1
    where
      quiet : (b : Bool) → list_any tells (embed_row (row_part emb.mentioned N n) (content D n)) ≡ b → b ≡ false
      quiet true h = absurd (true-false (telling_mentioned D N C x f emb n known h) e)
      quiet false h = refl

  register_stays : (k : FieldId) → is_new N k.node ≡ false → (void D N).held k ≡ D.held k
  register_stays k e = register_void D N emb.mentioned k f ∙ ap (λ b. cond b (only_made (is_new N) (put_in N k)) (D.held k)) e

  changed_named : (n : NodeId) → IsChanged D (void D N) n → named n ≡ true
  changed_named n (known, why) = go (emb.mentioned n) refl why
    where
      old : is_new N n ≡ false
      old = not_made D N f n known

      go : (b : Bool) → emb.mentioned n ≡ b → (D.place n ≢ (void D N).place n) ⊎ (content D n ≢ content (void D N) n) ⊎ ((k : FieldId) × (k.node ≡ n) × (D.held k ≢ (void D N).held k)) → named n ≡ true
      go true e w = or-left (emb.mentioned n) (in_cleared D N n) e
      go false e (inl apart) = absurd (apart (sym (void_place D N f n old)))
      go false e (inr (inl apart)) = absurd (apart (sym (row_stays n known e)))
      go false e (inr (inr w)) = absurd (w.2 (sym (register_stays w.0 (ap (is_new N) w.1 ∙ old))))

  pub void_covers : CoversStep D (void D N) named
  void_covers = record { closed = (effect_covers D N C x f emb).closed; changed = changed_named }
