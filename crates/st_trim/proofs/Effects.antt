-- What an intent that is carried out whole changes: nodes that it mentions, and the occupants that it evicts.
use Rattle.std.proofs.Common.{◌≡◌, ◌≢◌, zero, Bool, true, false, ◌||◌, List, [], ◌∷◌, ◌++◌, map, Option, Some, None, option_and_then, cond, refl, sym, ap, ◌∙◌, subst, inl, inr, ◌⊎◌, IsSome, is_some}
use Rattle.std.proofs.lemmas.Option.{same_Some}
use Rattle.std.specs.List.{filter_map, list_any}
use Rattle.std.specs.Option.{option_or}
use Rattle.st_ids.specs.Listing.{Has}
use Rattle.st_ids.specs.Order.{same_field}
use Rattle.st_ids.proofs.Orders.{same_field-true}
use Rattle.st_ids.specs.declared.names.CellId.{CellId}
use Rattle.st_ids.specs.declared.names.FieldId.{FieldId}
use Rattle.st_ids.specs.declared.names.NodeId.{NodeId}
use Rattle.st_kind.specs.Named.{Nodes, either}
use Rattle.st_marks.specs.declared.changes.Change.{Change}
use Rattle.st_marks.specs.declared.intents.Group.{Group}
use Rattle.st_marks.specs.declared.intents.Intent.{Intent}
use Rattle.st_marks.specs.declared.intents.Owned.{Owned}
use Rattle.st_marks.specs.declared.intents.Put.{Put}
use Rattle.st_marks.specs.declared.intents.To.{To}
use Rattle.st_marks.specs.declared.marks.How.TheVariants.{Here, Leave}
use Rattle.st_marks.specs.declared.places.Slot.{Slot}
use Rattle.st_marks.specs.declared.places.Spot.{Spot}
use Rattle.st_marks.specs.CarryOut.{full, place_after, unless_put, with_names}
use Rattle.st_marks.specs.Document.{Document, IsSoundInForm, content, node_of, owned_cell, slot}
use Rattle.st_marks.specs.Embedding.{IsEmbedding, named_by_intent, row_part, tells}
use Rattle.st_marks.specs.Intent.{Fits, cell_of, clears, put_in, put_of}
use Rattle.st_marks.specs.Row.{CellMark, Counted, Gap, Touch, Fill, RowPart, embed_cell, embed_cells, embed_made, embed_row, how, same_to}
use Rattle.st_marks.specs.How.{is_here}
use Rattle.st_marks.specs.Step.{IsChanged}
use Rattle.st_marks.proofs.Climb.{stands}
use Rattle.st_marks.proofs.Lookups.{group_at-group, put-has, put_clears, put_in-has}
use Rattle.st_marks.proofs.Members.{any-has, append_left, append_right, has-filter_map, has-map, map-has}
use Rattle.st_rows.specs.Changes.{carried_cells, carried_row, full_after, made_cells}
use Rattle.st_rows.proofs.DocumentsAfter.{whole_is}
use Rattle.st_rows.proofs.RowRebases.{same_put}
use Rattle.st_mention_laws.specs.Closed.{IsClosedIn}
use Rattle.st_mention_laws.proofs.ClosedSets.{mentions_closed}
use Rattle.st_trim.specs.Covers.{CoversStep}
use Rattle.st_trim.specs.Evicted.{in_cleared, is_cleared_spot}

-- ## Why a row tells something

abbrev Why : RowPart → List Slot → Type 0
Why p c = ((s : Slot) × Has c s × (s.full ≡ true) × (p.mentioned s.node ≡ true)) ⊎ ((s : Slot) × Has c s × (is_here (how (p.target_of s.node) (To.Cell s.cell)) ≡ true)) ⊎ ((a : Option CellId) × (o : Owned) × Has (p.new_cells a) o)

module _ (p : RowPart) where
  later : (s : Slot) (c : List Slot) → Why p c → Why p (s ∷ c)
  later s c (inl w) = inl (w.0, inr w.1, w.2, w.3)
  later s c (inr (inl w)) = inr (inl (w.0, inr w.1, w.2))
  later s c (inr (inr w)) = inr (inr w)

  why-made : (c : List Slot) (a : Option CellId) (os : List Owned) (xs : List CellMark) → p.new_cells a ≡ os → list_any tells (embed_made p os ++ xs) ≡ true → (list_any tells xs ≡ true → Why p c) → Why p c
  why-made c a [] xs e h rest = rest h
  why-made c a (o ∷ os) xs e h rest = inr (inr (a, o, subst (λ l. Has l o) (sym e) (inl refl)))

  why-cell : (s : Slot) (c : List Slot) (b : Bool) → s.full ≡ b → (xs : List CellMark) → (tells (embed_cell p s.cell s.node b) || list_any tells xs) ≡ true → (list_any tells xs ≡ true → Why p (s ∷ c)) → Why p (s ∷ c)
  why-cell s c true e xs h rest = go (p.mentioned s.node) refl h
    where
      go : (z : Bool) → p.mentioned s.node ≡ z → (tells (cond z (Touch s.cell s.node (how (p.target_of s.node) (To.Cell s.cell))) Counted) || list_any tells xs) ≡ true → Why p (s ∷ c)
      go true f q = inl (s, inl refl, e, f)
      go false f q = rest q
  why-cell s c false e xs h rest = go (is_here (how (p.target_of s.node) (To.Cell s.cell))) refl h
    where
      go : (z : Bool) → is_here (how (p.target_of s.node) (To.Cell s.cell)) ≡ z → (tells (cond z (Fill s.cell s.node) (Gap s.cell)) || list_any tells xs) ≡ true → Why p (s ∷ c)
      go true f q = inr (inl (s, inl refl, f))
      go false f q = rest q

  why-cells : (c : List Slot) → list_any tells (embed_cells p c) ≡ true → Why p c
  why-cells [] h = cc
  why-cells (s ∷ c) h = why-cell s c s.full refl (embed_made p (p.new_cells (Some s.cell)) ++ embed_cells p c) h (λ q. why-made (s ∷ c) (Some s.cell) (p.new_cells (Some s.cell)) (embed_cells p c) refl q (λ r. later s c (why-cells c r)))

  pub why-row : (c : List Slot) → list_any tells (embed_row p c) ≡ true → Why p c
  why-row c h = why-made c None (p.new_cells None) (embed_cells p c) refl h (why-cells c)

  -- ## A row that tells nothing stays as it is

  or_parts : (a b : Bool) → (a || b) ≡ false → (a ≡ false) × (b ≡ false)
  or_parts true b e = cc
  or_parts false b e = (refl, e)

  quiet-made : (os : List Owned) (xs : List CellMark) (c d : List Slot) → list_any tells (embed_made p os ++ xs) ≡ false → (list_any tells xs ≡ false → c ≡ d) → made_cells p os ++ c ≡ d
  quiet-made [] xs c d h rest = rest h
  quiet-made (o ∷ os) xs c d h rest = cc

  stays : (s : Slot) → (s.full ≡ true → p.target_of s.node ≢ None → p.mentioned s.node ≡ true) → tells (embed_cell p s.cell s.node s.full) ≡ false → full_after (p.target_of s.node) s.cell s.full ≡ s.full
  stays s k h = go s.full refl h (p.target_of s.node) refl
    where
      go : (b : Bool) → s.full ≡ b → tells (embed_cell p s.cell s.node b) ≡ false → (g : Option To) → p.target_of s.node ≡ g → full_after g s.cell b ≡ b
      go b e q None f = refl
      go true e q (Some to) f = let m = k e (λ z. let y : ◌≡◌ {A = Option To} (Some to) None = sym f ∙ z in cc) in let bad : ◌≡◌ {A = Bool} true false = sym (ap (λ z. tells (cond z (Touch s.cell s.node (how (p.target_of s.node) (To.Cell s.cell))) Counted)) m) ∙ q in cc
      go false e q (Some to) f = away (same_to to (To.Cell s.cell)) refl
        where
          away : (z : Bool) → same_to to (To.Cell s.cell) ≡ z → z ≡ false
          away true y = let bad : ◌≡◌ {A = Bool} true false = sym (ap (λ b. tells (cond (is_here (cond b Here Leave)) (Fill s.cell s.node) (Gap s.cell))) y) ∙ ap (λ o. tells (cond (is_here (how o (To.Cell s.cell))) (Fill s.cell s.node) (Gap s.cell))) (sym f) ∙ q in cc
          away false y = refl

  quiet-cells : (c : List Slot) → ((s : Slot) → Has c s → s.full ≡ true → p.target_of s.node ≢ None → p.mentioned s.node ≡ true) → list_any tells (embed_cells p c) ≡ false → carried_cells p c ≡ c
  quiet-cells [] k h = refl
  quiet-cells (s ∷ c) k h =
      let q = or_parts (tells (embed_cell p s.cell s.node s.full)) (list_any tells (embed_made p (p.new_cells (Some s.cell)) ++ embed_cells p c)) h in
      λ i. record s { full = stays s (k s (inl refl)) q.0 i } ∷ quiet-made (p.new_cells (Some s.cell)) (embed_cells p c) (carried_cells p c) c q.1 (λ r. quiet-cells c (λ t j. k t (inr j)) r) i

  pub quiet-carried : (c : List Slot) → ((s : Slot) → Has c s → s.full ≡ true → p.target_of s.node ≢ None → p.mentioned s.node ≡ true) → list_any tells (embed_row p c) ≡ false → carried_row p c ≡ c
  quiet-carried c k h = quiet-made (p.new_cells None) (embed_cells p c) (carried_cells p c) c h (λ r. quiet-cells c k r)

-- ## What is changed is mentioned or evicted

module _ (D : Document) (N : Intent) (C : Change) (x : IsSoundInForm D) (f : Fits D N) (emb : IsEmbedding D N C) where
  is_mentioned : (s : NodeId) → Has (named_by_intent D N) s → IsSome (D.nodes s) → emb.mentioned s ≡ true
  is_mentioned s h k = (emb.which s).1 (s, h, k, zero, refl)

  abbrev puts : List NodeId
  puts = map (λ (p : Put). p.node) N.put

  abbrev of_groups : List NodeId
  of_groups = map (λ (g : Group). g.node) N.groups

  abbrev of_targets : List NodeId
  of_targets = filter_map (λ (p : Put). option_and_then D.row_of (cell_of p.to)) N.put

  abbrev of_clears : List NodeId
  of_clears = map (λ (k : FieldId). k.node) N.clear

  put_mentioned : (n : NodeId) (to : To) → put_of N n ≡ Some to → IsSome (D.nodes n) → emb.mentioned n ≡ true
  put_mentioned n to e = is_mentioned n (append_left (puts ++ N.need ++ of_groups ++ of_targets) of_clears n (append_left (puts ++ N.need ++ of_groups) of_targets n (append_left (puts ++ N.need) of_groups n (append_left puts N.need n (map-has (λ (p : Put). p.node) N.put (record { node = n; to = to }) (put-has N n to e))))))

  group_mentioned : (g : Group) → Has N.groups g → IsSome (D.nodes g.node) → emb.mentioned g.node ≡ true
  group_mentioned g h = is_mentioned g.node (append_left (puts ++ N.need ++ of_groups ++ of_targets) of_clears g.node (append_left (puts ++ N.need ++ of_groups) of_targets g.node (append_right (puts ++ N.need) of_groups g.node (map-has (λ (g : Group). g.node) N.groups g h))))

  target_mentioned : (k : NodeId) (c : CellId) (r : NodeId) → put_of N k ≡ Some (To.Cell c) → D.row_of c ≡ Some r → IsSome (D.nodes r) → emb.mentioned r ≡ true
  target_mentioned k c r e h = is_mentioned r (append_left (puts ++ N.need ++ of_groups ++ of_targets) of_clears r (append_right (puts ++ N.need ++ of_groups) of_targets r (has-filter_map (λ (p : Put). option_and_then D.row_of (cell_of p.to)) N.put (record { node = k; to = To.Cell c }) r (put-has N k (To.Cell c) e) h)))

  clear_mentioned : (k : FieldId) → clears N k ≡ true → IsSome (D.nodes k.node) → emb.mentioned k.node ≡ true
  clear_mentioned k e h = let r = any-has (λ g. same_field g k) N.clear e in is_mentioned k.node (append_right (puts ++ N.need ++ of_groups ++ of_targets) of_clears k.node (subst (λ (g : FieldId). Has of_clears g.node) (same_field-true r.0 k r.2) (map-has (λ (g : FieldId). g.node) N.clear r.0 r.1))) h

  here_put : (g : Option To) (c : CellId) → is_here (how g (To.Cell c)) ≡ true → g ≡ Some (To.Cell c)
  here_put None c e = cc
  here_put (Some to) c e = go (same_to to (To.Cell c)) refl e
    where
      go : (b : Bool) → same_to to (To.Cell c) ≡ b → is_here (cond b Here Leave) ≡ true → Some to ≡ Some (To.Cell c)
      go true h q = ap (λ (t : To). Some t) (same_put to c h)
      go false h q = cc

  slot_of : (n : NodeId) (s : Slot) → Has (content D n) s → (D.row_of s.cell ≡ Some n) × IsSome (D.nodes s.node)
  slot_of n s h =
      let o = has-map (slot D) (D.rows n) s h in
      ((x.one_row s.cell n).1 (o.0.node, subst (λ a. Has (D.rows n) (owned_cell a o.0.node)) (ap (λ (t : Slot). t.cell) o.2) o.1), subst (λ (t : Slot). IsSome (D.nodes t.node)) o.2 (x.cells_known n o.0 o.1).1)

  -- a row that tells something is that of a mentioned node
  pub telling_mentioned : (n : NodeId) → IsSome (D.nodes n) → list_any tells (embed_row (row_part emb.mentioned N n) (content D n)) ≡ true → emb.mentioned n ≡ true
  telling_mentioned n known e = go (why-row (row_part emb.mentioned N n) (content D n) e)
    where
      go : Why (row_part emb.mentioned N n) (content D n) → emb.mentioned n ≡ true
      go (inl w) = mentions_closed D N emb.mentioned emb.which w.0.node n w.3 (ap node_of (stands D x w.0.node n w.0.cell (subst (λ (b : Bool). Has (content D n) (record { cell = w.0.cell; node = w.0.node; full = b })) w.2 w.1)))
      go (inr (inl w)) = target_mentioned w.0.node w.0.cell n (here_put (put_of N w.0.node) w.0.cell w.2) (slot_of n w.0 w.1).0 known
      go (inr (inr w)) = let g = group_at-group N n w.0 w.1 w.2 in subst (λ k. emb.mentioned k ≡ true) g.node (group_mentioned g.group g.listed (subst (λ k. IsSome (D.nodes k)) (sym g.node) known))

  -- what the step of the effect names, at least
  abbrev pub named : Nodes
  named = either emb.mentioned (in_cleared D N)

  or_first : (a b : Bool) → a ≡ true → (a || b) ≡ true
  or_first a b e = ap (λ z. z || b) e

  or_second : (a b : Bool) → b ≡ true → (a || b) ≡ true
  or_second true b e = refl
  or_second false b e = e

  or_cases : (a b : Bool) → (a || b) ≡ true → (a ≡ true) ⊎ (b ≡ true)
  or_cases true b e = inl refl
  or_cases false b e = inr e

  named_closed : IsClosedIn D named
  named_closed n p e up = or_first (emb.mentioned p) (in_cleared D N p) (elim (or_cases (emb.mentioned n) (in_cleared D N n) e) [
    | inl h ↦ mentions_closed D N emb.mentioned emb.which n p h up
    | inr h ↦ evicted (D.place n) refl h up
  ])
    where
      evicted : (s : Spot) → D.place n ≡ s → is_cleared_spot N s ≡ true → node_of s ≡ Some p → emb.mentioned p ≡ true
      evicted Spot.Nowhere q h u = cc
      evicted (Spot.Row r c) q h u = cc
      evicted (Spot.Register k) q h u =
          let same : k.node ≡ p = same_Some k.node p u in
          subst (λ y. emb.mentioned y ≡ true) same (clear_mentioned k h (x.held_known n k ((x.one_held n k).1 q)).1)

  -- the row of a node that isn't mentioned stays
  row_stays : (n : NodeId) → IsSome (D.nodes n) → emb.mentioned n ≡ false → content (full D N) n ≡ content D n
  row_stays n known e = whole_is D N n x f emb.mentioned [] ∙ quiet-carried (row_part emb.mentioned N n) (content D n) (λ s h q g. put s g (slot_of n s h).1) (quiet (list_any tells (embed_row (row_part emb.mentioned N n) (content D n))) refl)
    where
      put : (s : Slot) → put_of N s.node ≢ None → IsSome (D.nodes s.node) → emb.mentioned s.node ≡ true
      put s g k = go (put_of N s.node) refl
        where
          go : (o : Option To) → put_of N s.node ≡ o → emb.mentioned s.node ≡ true
          go None q = absurd (g q)
          go (Some to) q = put_mentioned s.node to q k

      quiet : (b : Bool) → list_any tells (embed_row (row_part emb.mentioned N n) (content D n)) ≡ b → b ≡ false
      quiet true h = let bad : ◌≡◌ {A = Bool} false true = sym e ∙ telling_mentioned n known h in cc
      quiet false h = refl

  -- so does a register of such a node
  register_stays : (k : FieldId) → IsSome (D.nodes k.node) → emb.mentioned k.node ≡ false → (full D N).held k ≡ D.held k
  register_stays k known e = go (clears N k) refl
    where
      not_cleared : clears N k ≡ true → ⊥
      not_cleared h = let bad : ◌≡◌ {A = Bool} false true = sym e ∙ clear_mentioned k h known in cc

      no_fill : clears N k ≡ false → (o : Option NodeId) → put_in N k ≡ o → o ≡ None
      no_fill h None q = refl
      no_fill h (Some n) q = let bad : ◌≡◌ {A = Bool} false true = sym h ∙ put_clears N f.itself n k (put_in-has N k n q) in cc

      stays_held : (o : Option NodeId) → D.held k ≡ o → unless_put N o ≡ o
      stays_held None q = refl
      stays_held (Some n) q = unput (put_of N n) refl
        where
          unput : (g : Option To) → put_of N n ≡ g → cond (is_some g) None (Some n) ≡ Some n
          unput None r = refl
          unput (Some to) r = let there = x.held_known n k q in let bad : ◌≡◌ {A = Bool} false true = sym e ∙ mentions_closed D N emb.mentioned emb.which n k.node (put_mentioned n to r there.0) (ap node_of ((x.one_held n k).0 q)) in cc

      go : (b : Bool) → clears N k ≡ b → (full D N).held k ≡ D.held k
      go true h = absurd (not_cleared h)
      go false h = (λ i. option_or (no_fill h (put_in N k) refl i) (cond (h i) None (unless_put N (D.held k)))) ∙ stays_held (D.held k) refl

  -- what is changed is mentioned, or evicted
  changed_named : (n : NodeId) → IsChanged D (full D N) n → named n ≡ true
  changed_named n (known, why) = go (emb.mentioned n) refl why
    where
      unmoved : emb.mentioned n ≡ false → in_cleared D N n ≡ false → D.place n ≡ (full D N).place n
      unmoved e h = unput (put_of N n) refl (D.place n) refl
        where
          unput : (o : Option To) → put_of N n ≡ o → (s : Spot) → D.place n ≡ s → s ≡ place_after (with_names D N).row_of N o s
          unput (Some to) q s p = let bad : ◌≡◌ {A = Bool} false true = sym e ∙ put_mentioned n to q known in cc
          unput None q Spot.Nowhere p = refl
          unput None q (Spot.Row r c) p = refl
          unput None q (Spot.Register k) p = sym (ap (λ b. cond b Spot.Nowhere (Spot.Register k)) (sym (ap (is_cleared_spot N) p) ∙ h))

      go : (b : Bool) → emb.mentioned n ≡ b → (D.place n ≢ (full D N).place n) ⊎ (content D n ≢ content (full D N) n) ⊎ ((k : FieldId) × (k.node ≡ n) × (D.held k ≢ (full D N).held k)) → named n ≡ true
      go true e w = or_first (emb.mentioned n) (in_cleared D N n) e
      go false e (inl apart) = or_second (emb.mentioned n) (in_cleared D N n) (evicted (in_cleared D N n) refl)
        where
          evicted : (b : Bool) → in_cleared D N n ≡ b → b ≡ true
          evicted true h = refl
          evicted false h = absurd (apart (unmoved e h))
      go false e (inr (inl apart)) = absurd (apart (sym (row_stays n known e)))
      go false e (inr (inr w)) = absurd (w.2 (sym (register_stays w.0 (subst (λ y. IsSome (D.nodes y)) (sym w.1) known) (ap emb.mentioned w.1 ∙ e))))

  pub effect_covers : CoversStep D (full D N) named
  effect_covers = record { closed = named_closed; changed = changed_named }
