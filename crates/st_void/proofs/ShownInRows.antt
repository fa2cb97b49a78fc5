-- A row of a change shows who stands in the row before, and who stands there after.
use Rattle.std.proofs.Common.{◌≡◌, Bool, true, false, ◌||◌, ◌&&◌, not, List, [], ◌∷◌, ◌++◌, Option, Some, None, cond, refl, sym, ap, ◌∙◌, inl, inr, ◌⊎◌}
use Rattle.std.specs.List.{list_any}
use Rattle.st_ids.specs.Listing.{Has}
use Rattle.st_ids.specs.Order.{same_node}
use Rattle.st_ids.specs.declared.names.CellId.{CellId}
use Rattle.st_ids.specs.declared.names.NodeId.{NodeId}
use Rattle.st_ids.proofs.Orders.{same_node-itself, same_node-true}
use Rattle.st_lemmas.proofs.Bools.{and-true, or-cases, or-right}
use Rattle.st_marks.specs.declared.intents.Owned.{Owned}
use Rattle.st_marks.specs.declared.intents.To.{To}
use Rattle.st_marks.specs.declared.marks.How.TheVariants.{Here, Leave}
use Rattle.st_marks.specs.declared.places.Slot.{Slot}
use Rattle.st_marks.specs.Embedding.{tells}
use Rattle.st_marks.specs.How.{is_here, is_leave}
use Rattle.st_marks.specs.Row.{CellMark, Counted, Gap, Touch, Make, Fill, RowPart, embed_cell, embed_cells, embed_made, embed_row, how, same_to}
use Rattle.st_marks.proofs.Members.{append_left, append_right, has-append}
use Rattle.st_rows.specs.Changes.{carried_cells, carried_row, full_after, made_cells}
use Rattle.st_void.specs.declared.standing.When.{When}
use Rattle.st_void.specs.Standing.{stands}

-- a cell that is full with its owner
abbrev pub full_cell : CellId → NodeId → Slot
full_cell a n = record { cell = a; node = n; full = true }

-- a node is full in some cell of a row
abbrev pub IsIn : NodeId → List Slot → Type 0
IsIn n c = (a : CellId) × Has c (full_cell a n)

module _ (p : RowPart) (n : NodeId) where
  later : (s : Slot) (c : List Slot) → IsIn n c → IsIn n (s ∷ c)
  later s c w = (w.0, inr w.1)

  behind : (b c : List Slot) → IsIn n c → IsIn n (b ++ c)
  behind b c w = (w.0, append_right b c (full_cell w.0 n) w.1)

  -- ## Before

  none-made : (os : List Owned) (xs : List CellMark) → list_any (stands When.Before n) (embed_made p os ++ xs) ≡ list_any (stands When.Before n) xs
  none-made [] xs = refl
  none-made (o ∷ os) xs = none-made os xs

  -- what is said of a cell that is full before
  seen_before : (a : CellId) (m : NodeId) → stands When.Before n (embed_cell p a m true) ≡ (p.mentioned m && same_node m n)
  seen_before a m = go (p.mentioned m)
    where
      go : (b : Bool) → stands When.Before n (cond b (Touch a m (how (p.target_of m) (To.Cell a))) Counted) ≡ (b && same_node m n)
      go true = refl
      go false = refl

  empty_before : (a : CellId) (m : NodeId) → stands When.Before n (embed_cell p a m false) ≡ false
  empty_before a m = go (is_here (how (p.target_of m) (To.Cell a)))
    where
      go : (b : Bool) → stands When.Before n (cond b (Fill a m) (Gap a)) ≡ false
      go true = refl
      go false = refl

  found_before : (c : List Slot) → list_any (stands When.Before n) (embed_cells p c) ≡ true → IsIn n c
  found_before [] e = cc
  found_before (s ∷ c) e = go s.full refl e (λ h. later s c (found_before c (sym (none-made (p.new_cells (Some s.cell)) (embed_cells p c)) ∙ h)))
    where
      go : (b : Bool) → s.full ≡ b → (stands When.Before n (embed_cell p s.cell s.node b) || list_any (stands When.Before n) (embed_made p (p.new_cells (Some s.cell)) ++ embed_cells p c)) ≡ true
          → (list_any (stands When.Before n) (embed_made p (p.new_cells (Some s.cell)) ++ embed_cells p c) ≡ true → IsIn n (s ∷ c)) → IsIn n (s ∷ c)
      go false f h on = on (sym (ap (λ z. z || list_any (stands When.Before n) (embed_made p (p.new_cells (Some s.cell)) ++ embed_cells p c)) (empty_before s.cell s.node)) ∙ h)
      go true f h on = at (stands When.Before n (embed_cell p s.cell s.node true)) refl h
        where
          at : (z : Bool) → stands When.Before n (embed_cell p s.cell s.node true) ≡ z → (z || list_any (stands When.Before n) (embed_made p (p.new_cells (Some s.cell)) ++ embed_cells p c)) ≡ true → IsIn n (s ∷ c)
          at false g h = on h
          at true g h = (s.cell, inl (λ i. record { cell = s.cell; node = same_node-true s.node n (and-true (p.mentioned s.node) (same_node s.node n) (sym (seen_before s.cell s.node) ∙ g)).1 i; full = f i }))

  pub before_found : (c : List Slot) → list_any (stands When.Before n) (embed_row p c) ≡ true → IsIn n c
  before_found c e = found_before c (sym (none-made (p.new_cells None) (embed_cells p c)) ∙ e)

  shown_before : (c : List Slot) (a : CellId) → p.mentioned n ≡ true → Has c (full_cell a n) → list_any (stands When.Before n) (embed_cells p c) ≡ true
  shown_before [] a m h = absurd h
  shown_before (s ∷ c) a m (inl e) =
      let q : stands When.Before n (embed_cell p s.cell s.node s.full) ≡ true = (λ i. stands When.Before n (embed_cell p (e i).cell (e i).node (e i).full)) ∙ seen_before a n ∙ (λ i. m i && same_node-itself n i) in
      ap (λ z. z || list_any (stands When.Before n) (embed_made p (p.new_cells (Some s.cell)) ++ embed_cells p c)) q
  shown_before (s ∷ c) a m (inr h) = or-right (stands When.Before n (embed_cell p s.cell s.node s.full)) (list_any (stands When.Before n) (embed_made p (p.new_cells (Some s.cell)) ++ embed_cells p c)) (none-made (p.new_cells (Some s.cell)) (embed_cells p c) ∙ shown_before c a m h)

  pub before_shown : (c : List Slot) → p.mentioned n ≡ true → IsIn n c → list_any (stands When.Before n) (embed_row p c) ≡ true
  before_shown c m w = none-made (p.new_cells None) (embed_cells p c) ∙ shown_before c w.0 m w.1

  -- ## After

  -- what is said of a cell is who is in it after, where its node is mentioned if it is full before
  full_if_stands : (a : CellId) (m : NodeId) (b : Bool) → stands When.After n (embed_cell p a m b) ≡ true → (m ≡ n) × (full_after (p.target_of m) a b ≡ true)
  full_if_stands a m true e = go (p.mentioned m) (p.target_of m) e
    where
      put : (z : Bool) → (same_node m n && not (is_leave (cond z Here Leave))) ≡ true → (m ≡ n) × (z ≡ true)
      put true e = (same_node-true m n (and-true (same_node m n) true e).0, refl)
      put false e = let bad = (and-true (same_node m n) false e).1 in cc

      go : (b : Bool) (o : Option To) → stands When.After n (cond b (Touch a m (how o (To.Cell a))) Counted) ≡ true → (m ≡ n) × (full_after o a true ≡ true)
      go false o e = cc
      go true None e = (same_node-true m n (and-true (same_node m n) true e).0, refl)
      go true (Some to) e = put (same_to to (To.Cell a)) e
  full_if_stands a m false e = go (p.target_of m) e
    where
      put : (z : Bool) → stands When.After n (cond (is_here (cond z Here Leave)) (Fill a m) (Gap a)) ≡ true → (m ≡ n) × (z ≡ true)
      put true e = (same_node-true m n e, refl)
      put false e = cc

      go : (o : Option To) → stands When.After n (cond (is_here (how o (To.Cell a))) (Fill a m) (Gap a)) ≡ true → (m ≡ n) × (full_after o a false ≡ true)
      go None e = cc
      go (Some to) e = put (same_to to (To.Cell a)) e

  stands_if_full : (a : CellId) (b : Bool) → (b ≡ true → p.mentioned n ≡ true) → full_after (p.target_of n) a b ≡ true → stands When.After n (embed_cell p a n b) ≡ true
  stands_if_full a true k e = (λ i. stands When.After n (cond (k refl i) (Touch a n (how (p.target_of n) (To.Cell a))) Counted)) ∙ go (p.target_of n) e
    where
      go : (o : Option To) → full_after o a true ≡ true → (same_node n n && not (is_leave (how o (To.Cell a)))) ≡ true
      go None e = λ i. same_node-itself n i && true
      go (Some to) e = λ i. same_node-itself n i && not (is_leave (cond (e i) Here Leave))
  stands_if_full a false k e = go (p.target_of n) e
    where
      go : (o : Option To) → full_after o a false ≡ true → stands When.After n (cond (is_here (how o (To.Cell a))) (Fill a n) (Gap a)) ≡ true
      go None e = cc
      go (Some to) e = (λ i. stands When.After n (cond (is_here (cond (e i) Here Leave)) (Fill a n) (Gap a))) ∙ same_node-itself n

  here_made : (o : Owned) → (same_node o.node n && is_here (how (p.target_of o.node) (To.Cell o.cell))) ≡ true → (o.node ≡ n) × (is_here (how (p.target_of o.node) (To.Cell o.cell)) ≡ true)
  here_made o e = let b = and-true (same_node o.node n) (is_here (how (p.target_of o.node) (To.Cell o.cell))) e in (same_node-true o.node n b.0, b.1)

  found_made : (os : List Owned) (xs : List CellMark) → list_any (stands When.After n) (embed_made p os ++ xs) ≡ true → IsIn n (made_cells p os) ⊎ (list_any (stands When.After n) xs ≡ true)
  found_made [] xs e = inr e
  found_made (o ∷ os) xs e = elim (or-cases (same_node o.node n && is_here (how (p.target_of o.node) (To.Cell o.cell))) (list_any (stands When.After n) (embed_made p os ++ xs)) e) [
    | inl h ↦ let b = here_made o h in inl (o.cell, inl (λ i. record { cell = o.cell; node = b.0 i; full = b.1 i }))
    | inr h ↦ elim (found_made os xs h) [ inl w ↦ inl (w.0, inr w.1) | inr r ↦ inr r ]
  ]

  found_after : (c : List Slot) → list_any (stands When.After n) (embed_cells p c) ≡ true → IsIn n (carried_cells p c)
  found_after [] e = cc
  found_after (s ∷ c) e = elim (or-cases (stands When.After n (embed_cell p s.cell s.node s.full)) (list_any (stands When.After n) (embed_made p (p.new_cells (Some s.cell)) ++ embed_cells p c)) e) [
    | inl h ↦ let b = full_if_stands s.cell s.node s.full h in (s.cell, inl (λ i. record { cell = s.cell; node = b.0 i; full = b.1 i }))
    | inr h ↦ elim (found_made (p.new_cells (Some s.cell)) (embed_cells p c) h) [
      | inl w ↦ (w.0, inr (append_left (made_cells p (p.new_cells (Some s.cell))) (carried_cells p c) (full_cell w.0 n) w.1))
      | inr r ↦ let w = found_after c r in (w.0, inr (append_right (made_cells p (p.new_cells (Some s.cell))) (carried_cells p c) (full_cell w.0 n) w.1))
    ]
  ]

  pub after_found : (c : List Slot) → list_any (stands When.After n) (embed_row p c) ≡ true → IsIn n (carried_row p c)
  after_found c e = elim (found_made (p.new_cells None) (embed_cells p c) e) [
    | inl w ↦ (w.0, append_left (made_cells p (p.new_cells None)) (carried_cells p c) (full_cell w.0 n) w.1)
    | inr r ↦ behind (made_cells p (p.new_cells None)) (carried_cells p c) (found_after c r)
  ]

  shown_made : (os : List Owned) (xs : List CellMark) (a : CellId) → Has (made_cells p os) (full_cell a n) → list_any (stands When.After n) (embed_made p os ++ xs) ≡ true
  shown_made [] xs a h = absurd h
  shown_made (o ∷ os) xs a (inl e) =
      let q : (same_node o.node n && is_here (how (p.target_of o.node) (To.Cell o.cell))) ≡ true = (λ i. same_node (e i).node n && (e i).full) ∙ (λ i. same_node-itself n i && true) in
      ap (λ z. z || list_any (stands When.After n) (embed_made p os ++ xs)) q
  shown_made (o ∷ os) xs a (inr h) = or-right (same_node o.node n && is_here (how (p.target_of o.node) (To.Cell o.cell))) (list_any (stands When.After n) (embed_made p os ++ xs)) (shown_made os xs a h)

  not_made : (os : List Owned) (xs : List CellMark) → list_any (stands When.After n) xs ≡ true → list_any (stands When.After n) (embed_made p os ++ xs) ≡ true
  not_made [] xs e = e
  not_made (o ∷ os) xs e = or-right (same_node o.node n && is_here (how (p.target_of o.node) (To.Cell o.cell))) (list_any (stands When.After n) (embed_made p os ++ xs)) (not_made os xs e)

  -- the node is mentioned if it is in the row
  abbrev pub IsMentionedIn : List Slot → Type 0
  IsMentionedIn c = (s : Slot) → Has c s → s.node ≡ n → s.full ≡ true → p.mentioned n ≡ true

  shown_after : (c : List Slot) (a : CellId) → IsMentionedIn c → Has (carried_cells p c) (full_cell a n) → list_any (stands When.After n) (embed_cells p c) ≡ true
  shown_after [] a k h = absurd h
  shown_after (s ∷ c) a k (inl e) =
      let node : s.node ≡ n = ap (λ (t : Slot). t.node) e in
      let full : full_after (p.target_of n) s.cell s.full ≡ true = (λ i. full_after (p.target_of (sym node i)) s.cell s.full) ∙ ap (λ (t : Slot). t.full) e in
      let q : stands When.After n (embed_cell p s.cell s.node s.full) ≡ true = ap (λ m. stands When.After n (embed_cell p s.cell m s.full)) node ∙ stands_if_full s.cell s.full (λ f. k s (inl refl) node f) full in
      ap (λ z. z || list_any (stands When.After n) (embed_made p (p.new_cells (Some s.cell)) ++ embed_cells p c)) q
  shown_after (s ∷ c) a k (inr h) = or-right (stands When.After n (embed_cell p s.cell s.node s.full)) (list_any (stands When.After n) (embed_made p (p.new_cells (Some s.cell)) ++ embed_cells p c)) (elim (has-append (made_cells p (p.new_cells (Some s.cell))) (carried_cells p c) (full_cell a n) h) [
    | inl w ↦ shown_made (p.new_cells (Some s.cell)) (embed_cells p c) a w
    | inr w ↦ not_made (p.new_cells (Some s.cell)) (embed_cells p c) (shown_after c a (λ t j. k t (inr j)) w)
  ])

  pub after_shown : (c : List Slot) → IsMentionedIn c → IsIn n (carried_row p c) → list_any (stands When.After n) (embed_row p c) ≡ true
  after_shown c k w = elim (has-append (made_cells p (p.new_cells None)) (carried_cells p c) (full_cell w.0 n) w.1) [
    | inl h ↦ shown_made (p.new_cells None) (embed_cells p c) w.0 h
    | inr h ↦ not_made (p.new_cells None) (embed_cells p c) (shown_after c w.0 k h)
  ]

  -- a row that shows the node is listed
  pub told_before : (xs : List CellMark) → list_any (stands When.Before n) xs ≡ true → list_any tells xs ≡ true
  told_before [] e = e
  told_before (Counted ∷ xs) e = told_before xs e
  told_before (Gap c ∷ xs) e = told_before xs e
  told_before (Touch c m h ∷ xs) e = refl
  told_before (Make c m b ∷ xs) e = refl
  told_before (Fill c m ∷ xs) e = refl

  pub told_after : (xs : List CellMark) → list_any (stands When.After n) xs ≡ true → list_any tells xs ≡ true
  told_after [] e = e
  told_after (Counted ∷ xs) e = told_after xs e
  told_after (Gap c ∷ xs) e = told_after xs e
  told_after (Touch c m h ∷ xs) e = refl
  told_after (Make c m b ∷ xs) e = refl
  told_after (Fill c m ∷ xs) e = refl
