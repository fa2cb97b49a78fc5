-- A row of two changes of one commit in turn.
use Rattle.std.proofs.Common.{◌≡◌, ◌≢◌, Bool, true, false, List, [], ◌∷◌, ◌++◌, Option, Some, None, MatchOption, cond, refl, sym, ap, ◌∙◌, inl, inr}
use Rattle.std.specs.List.{list_any}
use Rattle.st_ids.specs.declared.names.CellId.{CellId}
use Rattle.st_ids.specs.declared.names.NodeId.{NodeId}
use Rattle.st_marks.specs.declared.intents.Owned.{Owned}
use Rattle.st_marks.specs.declared.intents.To.{To}
use Rattle.st_marks.specs.declared.marks.How.TheVariants.{Stay, Here, Leave}
use Rattle.st_marks.specs.declared.marks.RowMarks.{RowMarks}
use Rattle.st_marks.specs.declared.places.Slot.{Slot}
use Rattle.st_marks.specs.Embedding.{row_marks, tells}
use Rattle.st_marks.specs.How.{is_here}
use Rattle.st_marks.specs.Row.{CellMark, Counted, Gap, Touch, Make, Fill, RowPart, embed_cell, embed_cells, embed_made, embed_row, how, merge, same_to, spread}
use Rattle.st_rows.specs.Changes.{AreJoined, StandsIn, carried_cells, carried_row, full_after, made_cells}
use Rattle.st_rows.specs.Cells.{join_row, joined_mark}
use Rattle.st_rows.proofs.RowJoins.{join_row-embed_row}
use Rattle.st_rows.proofs.KindLaws.{spread-merge}
use Rattle.st_parts.specs.Joined.{row_joined}
use Rattle.st_puts.proofs.ListedIf.{or_parts, shown-None, shown-Some}

-- ## What tells nothing

-- a cell of a change that tells nothing: it is counted, or empty and stays so
found_quiet : (q : RowPart) (c : CellId) (n : NodeId) → tells (embed_cell q c n true) ≡ false → embed_cell q c n true ≡ Counted
found_quiet q c n h = go (q.mentioned n) h
  where
    go : (b : Bool) → tells (cond b (Touch c n (how (q.target_of n) (To.Cell c))) Counted) ≡ false → cond b (Touch c n (how (q.target_of n) (To.Cell c))) Counted ≡ Counted
    go true h = cc
    go false h = refl

empty_quiet : (q : RowPart) (c : CellId) (n : NodeId) → tells (embed_cell q c n false) ≡ false → embed_cell q c n false ≡ Gap c
empty_quiet q c n h = go (is_here (how (q.target_of n) (To.Cell c))) h
  where
    go : (b : Bool) → tells (cond b (Fill c n) (Gap c)) ≡ false → cond b (Fill c n) (Gap c) ≡ Gap c
    go true h = cc
    go false h = refl

made_none : (p : RowPart) (os : List Owned) (xs : List CellMark) → list_any tells (embed_made p os ++ xs) ≡ false → (embed_made p os ++ xs ≡ xs) × (list_any tells xs ≡ false)
made_none p [] xs h = (refl, h)
made_none p (o ∷ os) xs h = cc

-- one cell that both find, before others
paired : (x : CellMark) (xs ys : List CellMark) (q : RowPart) (c : CellId) (n : NodeId) (b : Bool) → join_row (x ∷ xs) (embed_cell q c n b ∷ ys) ≡ joined_mark x (embed_cell q c n b) ∷ join_row xs ys
paired x xs ys q c n true = go (q.mentioned n)
  where
    go : (b : Bool) → join_row (x ∷ xs) (cond b (Touch c n (how (q.target_of n) (To.Cell c))) Counted ∷ ys) ≡ joined_mark x (cond b (Touch c n (how (q.target_of n) (To.Cell c))) Counted) ∷ join_row xs ys
    go true = refl
    go false = refl
paired x xs ys q c n false = go (is_here (how (q.target_of n) (To.Cell c)))
  where
    go : (b : Bool) → join_row (x ∷ xs) (cond b (Fill c n) (Gap c) ∷ ys) ≡ joined_mark x (cond b (Fill c n) (Gap c)) ∷ join_row xs ys
    go true = refl
    go false = refl

-- ## The second tells nothing

module _ (p q : RowPart) where
  made_stays : (c : CellId) (n : NodeId) (b : Bool) → tells (embed_cell q c n b) ≡ false → joined_mark (Make c n b) (embed_cell q c n b) ≡ Make c n b
  made_stays c n true h = ap (joined_mark (Make c n true)) (found_quiet q c n h)
  made_stays c n false h = ap (joined_mark (Make c n false)) (empty_quiet q c n h)

  full_cell : (c : CellId) (n : NodeId) (g : Option To) (m : Bool) → (g ≢ None → m ≡ true) → tells (embed_cell q c n (full_after g c true)) ≡ false
      → joined_mark (cond m (Touch c n (how g (To.Cell c))) Counted) (embed_cell q c n (full_after g c true)) ≡ cond m (Touch c n (how g (To.Cell c))) Counted
  full_cell c n None true k h = ap (joined_mark (Touch c n Stay)) (found_quiet q c n h)
  full_cell c n None false k h = ap (joined_mark Counted) (found_quiet q c n h)
  full_cell c n (Some to) m k h = go (same_to to (To.Cell c)) m (k (λ z. cc)) h
    where
      go : (b m : Bool) → m ≡ true → tells (embed_cell q c n b) ≡ false → joined_mark (cond m (Touch c n (cond b Here Leave)) Counted) (embed_cell q c n b) ≡ cond m (Touch c n (cond b Here Leave)) Counted
      go true true e h = ap (joined_mark (Touch c n Here)) (found_quiet q c n h)
      go false true e h = ap (joined_mark (Touch c n Leave)) (empty_quiet q c n h)
      go b false e h = cc

  empty_cell : (c : CellId) (n : NodeId) (g : Option To) → tells (embed_cell q c n (full_after g c false)) ≡ false
      → joined_mark (cond (is_here (how g (To.Cell c))) (Fill c n) (Gap c)) (embed_cell q c n (full_after g c false)) ≡ cond (is_here (how g (To.Cell c))) (Fill c n) (Gap c)
  empty_cell c n None h = ap (joined_mark (Gap c)) (empty_quiet q c n h)
  empty_cell c n (Some to) h = go (same_to to (To.Cell c)) h
    where
      go : (b : Bool) → tells (embed_cell q c n b) ≡ false → joined_mark (cond (is_here (cond b Here Leave)) (Fill c n) (Gap c)) (embed_cell q c n b) ≡ cond (is_here (cond b Here Leave)) (Fill c n) (Gap c)
      go true h = ap (joined_mark (Fill c n)) (found_quiet q c n h)
      go false h = ap (joined_mark (Gap c)) (empty_quiet q c n h)

  one_cell : (c : CellId) (n : NodeId) (b : Bool) → (b ≡ true → p.target_of n ≢ None → p.mentioned n ≡ true) → tells (embed_cell q c n (full_after (p.target_of n) c b)) ≡ false
      → joined_mark (embed_cell p c n b) (embed_cell q c n (full_after (p.target_of n) c b)) ≡ embed_cell p c n b
  one_cell c n true k h = full_cell c n (p.target_of n) (p.mentioned n) (k refl) h
  one_cell c n false k h = empty_cell c n (p.target_of n) h

  made_kept : (os : List Owned) (xs : List CellMark) (d : List Slot) → list_any tells (embed_cells q (made_cells p os ++ d)) ≡ false
      → (list_any tells (embed_cells q d) ≡ false) × (join_row (embed_made p os ++ xs) (embed_cells q (made_cells p os ++ d)) ≡ embed_made p os ++ join_row xs (embed_cells q d))
  made_kept [] xs d h = (h, refl)
  made_kept (o ∷ os) xs d h =
      let b = is_here (how (p.target_of o.node) (To.Cell o.cell)) in
      let r = or_parts (tells (embed_cell q o.cell o.node b)) (list_any tells (embed_made q (q.new_cells (Some o.cell)) ++ embed_cells q (made_cells p os ++ d))) h in
      let s = made_none q (q.new_cells (Some o.cell)) (embed_cells q (made_cells p os ++ d)) r.1 in
      let t = made_kept os xs d s.1 in (
        t.0,
        paired (Make o.cell o.node b) (embed_made p os ++ xs) (embed_made q (q.new_cells (Some o.cell)) ++ embed_cells q (made_cells p os ++ d)) q o.cell o.node b
            ∙ (λ i. made_stays o.cell o.node b r.0 i ∷ (ap (join_row (embed_made p os ++ xs)) s.0 ∙ t.1) i),
      )

  cells_kept : (c : List Slot) → ((n : NodeId) → StandsIn n c → p.target_of n ≢ None → p.mentioned n ≡ true) → list_any tells (embed_cells q (carried_cells p c)) ≡ false
      → join_row (embed_cells p c) (embed_cells q (carried_cells p c)) ≡ embed_cells p c
  cells_kept [] k h = refl
  cells_kept (s ∷ c) k h =
      let b = full_after (p.target_of s.node) s.cell s.full in
      let rest = made_cells p (p.new_cells (Some s.cell)) ++ carried_cells p c in
      let r = or_parts (tells (embed_cell q s.cell s.node b)) (list_any tells (embed_made q (q.new_cells (Some s.cell)) ++ embed_cells q rest)) h in
      let u = made_none q (q.new_cells (Some s.cell)) (embed_cells q rest) r.1 in
      let t = made_kept (p.new_cells (Some s.cell)) (embed_cells p c) (carried_cells p c) u.1 in
      paired (embed_cell p s.cell s.node s.full) (embed_made p (p.new_cells (Some s.cell)) ++ embed_cells p c) (embed_made q (q.new_cells (Some s.cell)) ++ embed_cells q rest) q s.cell s.node b
      ∙ (λ i. one_cell s.cell s.node s.full (λ e. k s.node (inl (refl, e))) r.0 i ∷ (ap (join_row (embed_made p (p.new_cells (Some s.cell)) ++ embed_cells p c)) u.0 ∙ t.1 ∙ ap (λ l. embed_made p (p.new_cells (Some s.cell)) ++ l) (cells_kept c (λ n w. k n (inr w)) t.0)) i)

  pub only_first_joined : (c : List Slot) → ((n : NodeId) → StandsIn n c → p.target_of n ≢ None → p.mentioned n ≡ true) → list_any tells (embed_row q (carried_row p c)) ≡ false
      → join_row (embed_row p c) (embed_row q (carried_row p c)) ≡ embed_row p c
  only_first_joined c k h =
      let u = made_none q (q.new_cells None) (embed_cells q (carried_row p c)) h in
      let t = made_kept (p.new_cells None) (embed_cells p c) (carried_cells p c) u.1 in
      ap (join_row (embed_row p c)) u.0 ∙ t.1 ∙ ap (λ l. embed_made p (p.new_cells None) ++ l) (cells_kept c k t.0)

-- ## The first tells nothing

module _ (p q : RowPart) where
  -- what is found by both is as the second says
  second_says : (c : CellId) (n : NodeId) (b : Bool) (y : CellMark) → tells (embed_cell p c n b) ≡ false → joined_mark (embed_cell p c n b) y ≡ y
  second_says c n true y h = ap (λ x. joined_mark x y) (found_quiet p c n h)
  second_says c n false y h = ap (λ x. joined_mark x y) (empty_quiet p c n h)

  then_alone : (os : List Owned) (xs ys : List CellMark) → join_row xs (embed_made q os ++ ys) ≡ embed_made q os ++ join_row xs ys
  then_alone [] xs ys = refl
  then_alone (o ∷ os) xs ys = ap (λ l. Make o.cell o.node (is_here (how (q.target_of o.node) (To.Cell o.cell))) ∷ l) (then_alone os xs ys)

  no_made : (os : List Owned) (xs : List CellMark) (d : List Slot) → list_any tells (embed_made p os ++ xs) ≡ false → (embed_made p os ++ xs ≡ xs) × (list_any tells xs ≡ false) × (made_cells p os ++ d ≡ d)
  no_made [] xs d h = (refl, h, refl)
  no_made (o ∷ os) xs d h = cc

  cells_said : (c : List Slot) → list_any tells (embed_cells p c) ≡ false → join_row (embed_cells p c) (embed_cells q (carried_cells p c)) ≡ embed_cells q (carried_cells p c)
  cells_said [] h = refl
  cells_said (s ∷ c) h =
      let b = full_after (p.target_of s.node) s.cell s.full in
      let r = or_parts (tells (embed_cell p s.cell s.node s.full)) (list_any tells (embed_made p (p.new_cells (Some s.cell)) ++ embed_cells p c)) h in
      let u = no_made (p.new_cells (Some s.cell)) (embed_cells p c) (carried_cells p c) r.1 in
      paired (embed_cell p s.cell s.node s.full) (embed_made p (p.new_cells (Some s.cell)) ++ embed_cells p c) (embed_made q (q.new_cells (Some s.cell)) ++ embed_cells q (made_cells p (p.new_cells (Some s.cell)) ++ carried_cells p c)) q s.cell s.node b
      ∙ (λ i. second_says s.cell s.node s.full (embed_cell q s.cell s.node b) r.0 i
      ∷ (ap (λ l. join_row l (embed_made q (q.new_cells (Some s.cell)) ++ embed_cells q (made_cells p (p.new_cells (Some s.cell)) ++ carried_cells p c))) u.0
      ∙ then_alone (q.new_cells (Some s.cell)) (embed_cells p c) (embed_cells q (made_cells p (p.new_cells (Some s.cell)) ++ carried_cells p c))
      ∙ ap (λ l. embed_made q (q.new_cells (Some s.cell)) ++ l) (ap (λ d. join_row (embed_cells p c) (embed_cells q d)) u.2 ∙ cells_said c u.1 ∙ ap (embed_cells q) (sym u.2))) i)

  pub only_second_joined : (c : List Slot) → list_any tells (embed_row p c) ≡ false → join_row (embed_row p c) (embed_row q (carried_row p c)) ≡ embed_row q (carried_row p c)
  only_second_joined c h =
      let u = no_made (p.new_cells None) (embed_cells p c) (carried_cells p c) h in
      ap (λ l. join_row l (embed_row q (carried_row p c))) u.0
      ∙ then_alone (q.new_cells None) (embed_cells p c) (embed_cells q (carried_row p c))
      ∙ ap (λ l. embed_made q (q.new_cells None) ++ l) (ap (λ d. join_row (embed_cells p c) (embed_cells q d)) u.2 ∙ cells_said c u.1 ∙ ap (embed_cells q) (sym u.2))

  -- a row that tells nothing in either tells nothing joined
  pub none_joined : (c : List Slot) → list_any tells (embed_row p c) ≡ false → list_any tells (embed_row q (carried_row p c)) ≡ false → list_any tells (join_row (embed_row p c) (embed_row q (carried_row p c))) ≡ false
  none_joined c h k = ap (list_any tells) (only_second_joined c h) ∙ k

-- ## What is listed

pub row_joined-listed : (p q j : RowPart) (c : List Slot) (n : NodeId) → AreJoined p q c j → ((n : NodeId) → StandsIn n c → p.target_of n ≢ None → p.mentioned n ≡ true) → ((n : NodeId) → StandsIn n (carried_row p c) → q.target_of n ≢ None → q.mentioned n ≡ true)
    → (a b : Option RowMarks) → row_marks n (embed_row p c) ≡ a → row_marks n (embed_row q (carried_row p c)) ≡ b
    → MatchOption (row_joined n a b) (list_any tells (embed_row j c) ≡ false) (λ r. r.marks ≡ merge (embed_row j c))
row_joined-listed p q j c n both pm qm a b e f = go a b e f
  where
    xs : List CellMark
    xs = embed_row p c

    law : join_row (embed_row p c) (embed_row q (carried_row p c)) ≡ embed_row j c
    law = join_row-embed_row p q j c both pm qm

    go : (a b : Option RowMarks) → row_marks n (embed_row p c) ≡ a → row_marks n (embed_row q (carried_row p c)) ≡ b → MatchOption (row_joined n a b) (list_any tells (embed_row j c) ≡ false) (λ r. r.marks ≡ merge (embed_row j c))
    go None None e f =
        ap (list_any tells) (sym law) ∙ none_joined p q c (shown-None (list_any tells (embed_row p c)) (record { node = n; marks = merge (embed_row p c) }) e) (shown-None (list_any tells (embed_row q (carried_row p c))) (record { node = n; marks = merge (embed_row q (carried_row p c)) }) f)
    go (Some r) None e f =
        let quiet = shown-None (list_any tells (embed_row q (carried_row p c))) (record { node = n; marks = merge (embed_row q (carried_row p c)) }) f in
        ap (λ (z : RowMarks). z.marks) (shown-Some (list_any tells (embed_row p c)) (record { node = n; marks = merge (embed_row p c) }) r e) ∙ ap merge (sym (only_first_joined p q c pm quiet) ∙ law)
    go None (Some r) e f =
        let quiet = shown-None (list_any tells (embed_row p c)) (record { node = n; marks = merge (embed_row p c) }) e in
        ap (λ (z : RowMarks). z.marks) (shown-Some (list_any tells (embed_row q (carried_row p c))) (record { node = n; marks = merge (embed_row q (carried_row p c)) }) r f) ∙ ap merge (sym (only_second_joined p q c quiet) ∙ law)
    go (Some r) (Some u) e f =
        let first : spread r.marks ≡ embed_row p c = ap (λ (z : RowMarks). spread z.marks) (shown-Some (list_any tells (embed_row p c)) (record { node = n; marks = merge (embed_row p c) }) r e) ∙ spread-merge (embed_row p c) in
        let second : spread u.marks ≡ embed_row q (carried_row p c) = ap (λ (z : RowMarks). spread z.marks) (shown-Some (list_any tells (embed_row q (carried_row p c))) (record { node = n; marks = merge (embed_row q (carried_row p c)) }) u f) ∙ spread-merge (embed_row q (carried_row p c)) in
        ap merge ((λ i. join_row (first i) (second i)) ∙ law)
