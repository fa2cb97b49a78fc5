-- Over documents: a step that moves nothing that the intent mentions leaves its rows.
use Rattle.std.proofs.Common.{◌≡◌, ◌≢◌, ◌↔◌, Bool, true, false, List, ◌++◌, map, Option, Some, None, refl, sym, ap, ◌∙◌, subst, inl, inr, IsSome, is_some, option_and_then, zero}
use Rattle.std.specs.List.{filter_map}
use Rattle.st_ids.specs.Listing.{Has}
use Rattle.st_ids.specs.declared.names.FieldId.{FieldId}
use Rattle.st_ids.specs.declared.names.NodeId.{NodeId}
use Rattle.st_kind.specs.Named.{Nodes}
use Rattle.st_marks.specs.declared.changes.Change.{Change}
use Rattle.st_marks.specs.declared.intents.Group.{Group}
use Rattle.st_marks.specs.declared.intents.Intent.{Intent}
use Rattle.st_marks.specs.declared.intents.Put.{Put}
use Rattle.st_marks.specs.declared.intents.To.{To}
use Rattle.st_marks.specs.declared.places.Slot.{Slot}
use Rattle.st_marks.specs.declared.places.Spot.{Spot}
use Rattle.st_marks.specs.Document.{Document, NodeType, content, owned_cell, slot}
use Rattle.st_marks.specs.Embedding.{IsEmbedding, IsMentionedByIntent, named_by_intent, row_part}
use Rattle.st_marks.specs.Extends.{GainsItems, IsExtendedBy, no_more, item_gained, item_kept}
use Rattle.st_marks.specs.How.{is_here}
use Rattle.st_marks.specs.Intent.{Fits, Owns, cell_of, put_of}
use Rattle.st_marks.specs.Row.{SameCell, how}
use Rattle.st_marks.proofs.Climb.{shown, stands}
use Rattle.st_marks.proofs.Later.{has_later}
use Rattle.st_marks.proofs.Lookups.{made_there, put-has}
use Rattle.st_marks.proofs.Members.{all-has, append_left, has-map, map-has}
use Rattle.st_puts.proofs.PutsOfIntents.{is_here-put}
use Rattle.st_rows.specs.Changes.{NoGroupAtGained}
use Rattle.st_rows.specs.Sequence.{cells_of}
use Rattle.st_rows.proofs.DocumentsListed.{moved_apart}
use Rattle.st_rows.proofs.GainedCells.{AllGained, cell_there, gained_new}
use Rattle.st_reading.proofs.DocumentRowsOver.{slots_once}
use Rattle.st_reading.proofs.DocumentRowsOver.{groups_are_old}
use Rattle.st_passing.specs.Staying.{IsLeft}
use Rattle.st_passing.specs.Whole.{LeavesMentioned}
use Rattle.st_passing.proofs.Mentions.{earlier, later}

bool_same : (a b : Bool) → (a ≡ true → b ≡ true) → (b ≡ true → a ≡ true) → a ≡ b
bool_same true b f g = sym (f refl)
bool_same false true f g = g refl
bool_same false false f g = refl

not_true : (a : Bool) → (a ≡ true → ⊥) → a ≡ false
not_true true f = absurd (f refl)
not_true false f = refl

kept_node : (D E : Document) → IsExtendedBy D E → (s : NodeId) → IsSome (D.nodes s) → IsSome (E.nodes s)
kept_node D E x s h = go (D.nodes s) refl h
  where
    go : (o : Option NodeType) → D.nodes s ≡ o → IsSome o → IsSome (E.nodes s)
    go None e h = let q : ◌≡◌ {A = Bool} false true = h in cc
    go (Some t) e h = ap is_some (x.nodes s t e)

module _ (D E : Document) (N : Intent) (x : IsExtendedBy D E) (f : Fits D N) (e : Fits E N) (stay : LeavesMentioned D E N) (C : Change) (emb : IsEmbedding D N C) (m : Nodes) (w : (i : NodeId) → (m i ≡ true) ↔ IsMentionedByIntent E N i) where
  same_m : (n : NodeId) → m n ≡ emb.mentioned n
  same_m n = bool_same (m n) (emb.mentioned n) (λ h. (emb.which n).1 (earlier D E N x f e stay n ((w n).0 h))) (λ h. (w n).1 (later D E N x f e stay (kept_node D E x) n ((emb.which n).0 h)))

  put_named : (n : NodeId) (to : To) → put_of N n ≡ Some to → Has (named_by_intent D N) n
  put_named n to h =
      let puts : List NodeId = map (λ (p : Put). p.node) N.put in
      let groups : List NodeId = map (λ (g : Group). g.node) N.groups in
      let targets : List NodeId = filter_map (λ (p : Put). option_and_then D.row_of (cell_of p.to)) N.put in
      let clears : List NodeId = map (λ (k : FieldId). k.node) N.clear in
      append_left (puts ++ N.need ++ groups ++ targets) clears n (append_left (puts ++ N.need ++ groups) targets n (append_left (puts ++ N.need) groups n (append_left puts N.need n
      (map-has (λ (p : Put). p.node) N.put (record { node = n; to = to }) (put-has N n to h)))))

  -- a node that the step moves
  moved_unnamed : (n : NodeId) → D.place n ≢ E.place n → emb.mentioned n ≡ false
  moved_unnamed n a = not_true (emb.mentioned n) (λ h. a (stay n ((emb.which n).0 h)))

  moved_unput : (n : NodeId) → IsSome (D.nodes n) → D.place n ≢ E.place n → put_of N n ≡ None
  moved_unput n old a = go (put_of N n) refl
    where
      go : (o : Option To) → put_of N n ≡ o → put_of N n ≡ None
      go None h = h
      go (Some to) h = absurd (a (stay n (n, put_named n to h, old, zero, refl)))

  owner_old : (r : NodeId) (s : Slot) → Has (content D r) s → IsSome (D.nodes s.node)
  owner_old r s i = let o = has-map (slot D) (D.rows r) s i in subst (λ (t : Slot). IsSome (D.nodes t.node)) o.2 (x.before.cells_known r o.0 o.1).1

  row_of_slot : (r : NodeId) (t : Slot) → Has (content E r) t → E.row_of t.cell ≡ Some r
  row_of_slot r t i =
      let o = has-map (slot E) (E.rows r) t i in
      subst (λ (u : Slot). E.row_of u.cell ≡ Some r) o.2 ((x.after.one_row o.0.cell r).1 (o.0.node, o.1))

  -- a cell that the step makes
  made_unnamed : (r : NodeId) (t : Slot) → (Has (cells_of (content D r)) t.cell → ⊥) → Has (content E r) t → t.full ≡ true → m t.node ≡ false
  made_unnamed r t free i full = not_true (m t.node) (λ h.
      let there : E.place t.node ≡ Spot.Row r t.cell = stands E x.after t.node r t.cell (subst (Has (content E r)) (λ j. record { cell = t.cell; node = t.node; full = full j }) i) in
      let was : D.place t.node ≡ Spot.Row r t.cell = stay t.node (earlier D E N x f e stay t.node ((w t.node).0 h)) ∙ there in
      free (map-has (λ (s : Slot). s.cell) (content D r) (record { cell = t.cell; node = t.node; full = true }) (shown D x.before t.node r t.cell was)))

  made_unfilled : (r : NodeId) (t : Slot) → (Has (cells_of (content D r)) t.cell → ⊥) → Has (content E r) t → is_here (how (put_of N t.node) (To.Cell t.cell)) ≡ false
  made_unfilled r t free i = go (put_of N t.node) refl
    where
      none_some : {A : Type 0} (o : Option A) (a : A) → o ≡ None → o ≡ Some a → ⊥
      none_some o a p q = let b : ◌≡◌ {A = Bool} false true = ap is_some (sym p ∙ q) in cc

      same_row : (k : NodeId) → E.row_of t.cell ≡ Some k → k ≡ r
      same_row k h = let b : Some k ≡ Some r = sym h ∙ row_of_slot r t i in cc

      owned : Owns D N t.node t.cell → ⊥
      owned (inl h) =
          let there : E.row_of t.cell ≡ Some h.0 = (x.after.one_row t.cell h.0).1 (t.node, has_later (x.rows h.0) (owned_cell t.cell t.node) h.1) in
          free (subst (λ k. Has (cells_of (content D k)) t.cell) (same_row h.0 there) (cell_there D h.0 (owned_cell t.cell t.node) h.1))
      owned (inr h) = none_some (E.row_of t.cell) r (e.fresh_cells t.cell (made_there N _ h)) (row_of_slot r t i)

      go : (o : Option To) → put_of N t.node ≡ o → is_here (how (put_of N t.node) (To.Cell t.cell)) ≡ false
      go None h = ap (λ k. is_here (how k (To.Cell t.cell))) h
      go (Some To.Nowhere) h = ap (λ k. is_here (how k (To.Cell t.cell))) h
      go (Some (To.Register k)) h = ap (λ k. is_here (how k (To.Cell t.cell))) h
      go (Some (To.Cell c)) h = not_true (is_here (how (put_of N t.node) (To.Cell t.cell))) (λ q.
          let at : put_of N t.node ≡ Some (To.Cell t.cell) = is_here-put (put_of N t.node) (To.Cell t.cell) q in
          owned (all-has _ N.put (record { node = t.node; to = To.Cell t.cell }) f.puts_known (put-has N t.node (To.Cell t.cell) at)).1)

  left_there : (r : NodeId) {c d : List Slot} (g : GainsItems SameCell c d) → ((s : Slot) → Has c s → Has (content D r) s) → ((t : Slot) → Has d t → Has (content E r) t)
      → AllGained (λ t. (Has (cells_of (content D r)) t.cell → ⊥) × Has (content E r) t) g → NoGroupAtGained (row_part emb.mentioned N r) g → IsLeft (row_part emb.mentioned N r) m g
  left_there r no_more a b o k = tt
  left_there r (item_gained {y = t} g) a b o k = (made_unnamed r t o.0.0 o.0.1, (λ _. made_unfilled r t o.0.0 o.0.1), k.0, left_there r g a (λ u i. b u (inr i)) o.1 k.1)
  left_there r (item_kept {x = s} {y = t} same g) a b o k = (
    same_m s.node,
    (λ z. let apart = moved_apart D E r s t (a s (inl refl)) (b t (inl refl)) same z in (moved_unnamed s.node apart, moved_unput s.node (owner_old r s (a s (inl refl))) apart)),
    left_there r g (λ u i. a u (inr i)) (λ u i. b u (inr i)) o k,
  )

  pub row_left_there : (r : NodeId) (g : GainsItems SameCell (content D r) (content E r)) → IsLeft (row_part emb.mentioned N r) m g
  row_left_there r g = left_there r g (λ s i. i) (λ t i. i) (gained_new g (slots_once E (E.rows r) (x.after.once r))) (groups_are_old D E N x f e emb.mentioned r g)
