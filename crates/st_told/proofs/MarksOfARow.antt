-- What the marks of a row tell of the part of an intent that they embed.
use Rattle.std.proofs.Common.{◌≡◌, refl, sym, ap, ◌∙◌, subst, Bool, true, false, List, [], ◌∷◌, ◌++◌, Option, Some, None, inl, inr, ◌⊎◌, if◌then◌else◌}
use Rattle.std.specs.List.{list_any}
use Rattle.st_ids.specs.Listing.{Has}
use Rattle.st_ids.specs.declared.names.CellId.{CellId}
use Rattle.st_ids.specs.declared.names.NodeId.{NodeId}
use Rattle.st_ids.proofs.Orders.{same_cell-true, same_field-true}
use Rattle.st_marks.specs.declared.intents.Owned.{Owned}
use Rattle.st_marks.specs.declared.intents.To.{To}
use Rattle.st_marks.specs.declared.marks.How.{How}
use Rattle.st_marks.specs.declared.marks.How.TheVariants.{Here, Leave}
use Rattle.st_marks.specs.declared.marks.Mark.{Mark}
use Rattle.st_marks.specs.declared.marks.RowMarks.{RowMarks}
use Rattle.st_marks.specs.declared.places.Slot.{Slot}
use Rattle.st_marks.specs.Embedding.{row_marks, tells}
use Rattle.st_marks.specs.How.{is_here}
use Rattle.st_marks.specs.Row.{CellMark, Counted, Gap, Touch, Make, Fill, RowPart, embed_cell, embed_made, embed_cells, embed_row, how, merge, same_to, skip_one, spread}
use Rattle.st_marks.proofs.Members.{append_left, append_right, has-any}

-- ## Merged and laid out again

spread-skip_one : (ms : List Mark) → spread (skip_one ms) ≡ Counted ∷ spread ms
spread-skip_one [] = refl
spread-skip_one (Mark.Skip k ∷ ms) = refl
spread-skip_one (Mark.Gap c ∷ ms) = refl
spread-skip_one (Mark.Touch c n x ∷ ms) = refl
spread-skip_one (Mark.Make c n b ∷ ms) = refl
spread-skip_one (Mark.Fill c n ∷ ms) = refl

spread-merge : (cells : List CellMark) → spread (merge cells) ≡ cells
spread-merge [] = refl
spread-merge (Counted ∷ ms) = spread-skip_one (merge ms) ∙ ap (λ l. Counted ∷ l) (spread-merge ms)
spread-merge (Gap c ∷ ms) = ap (λ l. Gap c ∷ l) (spread-merge ms)
spread-merge (Touch c n h ∷ ms) = ap (λ l. Touch c n h ∷ l) (spread-merge ms)
spread-merge (Make c n b ∷ ms) = ap (λ l. Make c n b ∷ l) (spread-merge ms)
spread-merge (Fill c n ∷ ms) = ap (λ l. Fill c n ∷ l) (spread-merge ms)

abbrev marks_of : Option RowMarks → List Mark
marks_of None = []
marks_of (Some r) = r.marks

merged : (n : NodeId) (a b : Bool) (xs ys : List Mark) → a ≡ true
    → ◌≡◌ {A = Option RowMarks} (if a then Some (record { node = n; marks = xs }) else None) (if b then Some (record { node = n; marks = ys }) else None) → xs ≡ ys
merged n true true xs ys t e = ap marks_of e
merged n true false xs ys t e = cc
merged n false b xs ys t e = cc

-- two rows that are listed alike are alike, cell by cell
pub rows_alike : (n : NodeId) (xs ys : List CellMark) → list_any tells xs ≡ true → row_marks n xs ≡ row_marks n ys → xs ≡ ys
rows_alike n xs ys t e = sym (spread-merge xs) ∙ ap spread (merged n (list_any tells xs) (list_any tells ys) (merge xs) (merge ys) t e) ∙ spread-merge ys

-- ## Made cells first

abbrev first_made : List CellMark → List CellMark
first_made [] = []
first_made (Counted ∷ ms) = []
first_made (Gap c ∷ ms) = []
first_made (Touch c n h ∷ ms) = []
first_made (Make c n b ∷ ms) = Make c n b ∷ first_made ms
first_made (Fill c n ∷ ms) = []

abbrev past_made : List CellMark → List CellMark
past_made [] = []
past_made (Counted ∷ ms) = Counted ∷ ms
past_made (Gap c ∷ ms) = Gap c ∷ ms
past_made (Touch c n h ∷ ms) = Touch c n h ∷ ms
past_made (Make c n b ∷ ms) = past_made ms
past_made (Fill c n ∷ ms) = Fill c n ∷ ms

full_first : (b : Bool) (c : CellId) (n : NodeId) (h : How) (ms : List CellMark) → first_made ((if b then Touch c n h else Counted) ∷ ms) ≡ []
full_first true c n h ms = refl
full_first false c n h ms = refl

empty_first : (b : Bool) (c : CellId) (n : NodeId) (ms : List CellMark) → first_made ((if b then Fill c n else Gap c) ∷ ms) ≡ []
empty_first true c n ms = refl
empty_first false c n ms = refl

cell_first : (p : RowPart) (c : CellId) (n : NodeId) (full : Bool) (ms : List CellMark) → first_made (embed_cell p c n full ∷ ms) ≡ []
cell_first p c n true ms = full_first (p.mentioned n) c n (how (p.target_of n) (To.Cell c)) ms
cell_first p c n false ms = empty_first (is_here (how (p.target_of n) (To.Cell c))) c n ms

full_past : (b : Bool) (c : CellId) (n : NodeId) (h : How) (ms : List CellMark) → past_made ((if b then Touch c n h else Counted) ∷ ms) ≡ (if b then Touch c n h else Counted) ∷ ms
full_past true c n h ms = refl
full_past false c n h ms = refl

empty_past : (b : Bool) (c : CellId) (n : NodeId) (ms : List CellMark) → past_made ((if b then Fill c n else Gap c) ∷ ms) ≡ (if b then Fill c n else Gap c) ∷ ms
empty_past true c n ms = refl
empty_past false c n ms = refl

cell_past : (p : RowPart) (c : CellId) (n : NodeId) (full : Bool) (ms : List CellMark) → past_made (embed_cell p c n full ∷ ms) ≡ embed_cell p c n full ∷ ms
cell_past p c n true ms = full_past (p.mentioned n) c n (how (p.target_of n) (To.Cell c)) ms
cell_past p c n false ms = empty_past (is_here (how (p.target_of n) (To.Cell c))) c n ms

cells_first : (p : RowPart) (c : List Slot) → first_made (embed_cells p c) ≡ []
cells_first p [] = refl
cells_first p (s ∷ c) = cell_first p s.cell s.node s.full (embed_made p (p.new_cells (Some s.cell)) ++ embed_cells p c)

cells_past : (p : RowPart) (c : List Slot) → past_made (embed_cells p c) ≡ embed_cells p c
cells_past p [] = refl
cells_past p (s ∷ c) = cell_past p s.cell s.node s.full (embed_made p (p.new_cells (Some s.cell)) ++ embed_cells p c)

made_first : (p : RowPart) (os : List Owned) (c : List Slot) → first_made (embed_made p os ++ embed_cells p c) ≡ embed_made p os
made_first p [] c = cells_first p c
made_first p (o ∷ os) c = rw (made_first p os c) refl

made_past : (p : RowPart) (os : List Owned) (c : List Slot) → past_made (embed_made p os ++ embed_cells p c) ≡ embed_cells p c
made_past p [] c = cells_past p c
made_past p (o ∷ os) c = made_past p os c

-- the made cells before others, and the others
pub split : (p q : RowPart) (os ps : List Owned) (c : List Slot) → embed_made p os ++ embed_cells p c ≡ embed_made q ps ++ embed_cells q c
    → (embed_made p os ≡ embed_made q ps) × (embed_cells p c ≡ embed_cells q c)
split p q os ps c e = (
  sym (made_first p os c) ∙ ap first_made e ∙ made_first q ps c,
  sym (made_past p os c) ∙ ap past_made e ∙ made_past q ps c,
)

-- ## What is alike at each cell

head_is : (x y : CellMark) (xs ys : List CellMark) → x ∷ xs ≡ y ∷ ys → x ≡ y
head_is x y xs ys e = cc

tail_is : (x y : CellMark) (xs ys : List CellMark) → x ∷ xs ≡ y ∷ ys → xs ≡ ys
tail_is x y xs ys e = cc

abbrev pub AlikeAt : RowPart → RowPart → Slot → Type 0
AlikeAt p q s = (embed_cell p s.cell s.node s.full ≡ embed_cell q s.cell s.node s.full)
    × (embed_made p (p.new_cells (Some s.cell)) ≡ embed_made q (q.new_cells (Some s.cell)))

alike_by : (p q : RowPart) (t s : Slot) (Later : Type 0) → (t ≡ s) ⊎ Later → embed_cell p t.cell t.node t.full ≡ embed_cell q t.cell t.node t.full
    → embed_made p (p.new_cells (Some t.cell)) ≡ embed_made q (q.new_cells (Some t.cell)) → (Later → AlikeAt p q s) → AlikeAt p q s
alike_by p q t s Later (inl i) first made later = subst (AlikeAt p q) i (first, made)
alike_by p q t s Later (inr i) first made later = later i

pub cells_alike : (p q : RowPart) (c : List Slot) → embed_cells p c ≡ embed_cells q c → (s : Slot) → Has c s → AlikeAt p q s
cells_alike p q [] e s h = absurd h
cells_alike p q (t ∷ c) e s h =
    let rest = split p q (p.new_cells (Some t.cell)) (q.new_cells (Some t.cell)) c (tail_is _ _ _ _ e) in
    alike_by p q t s (Has c s) h (head_is _ _ _ _ e) rest.0 (cells_alike p q c rest.1 s)

-- ## Cells that are made

abbrev owned_in : List CellMark → List Owned
owned_in [] = []
owned_in (Counted ∷ ms) = owned_in ms
owned_in (Gap c ∷ ms) = owned_in ms
owned_in (Touch c n h ∷ ms) = owned_in ms
owned_in (Make c n b ∷ ms) = record { cell = c; node = n } ∷ owned_in ms
owned_in (Fill c n ∷ ms) = owned_in ms

owned_back : (p : RowPart) (os : List Owned) → owned_in (embed_made p os) ≡ os
owned_back p [] = refl
owned_back p (o ∷ os) = ap (λ l. o ∷ l) (owned_back p os)

pub made_same : (p q : RowPart) (os ps : List Owned) → embed_made p os ≡ embed_made q ps → os ≡ ps
made_same p q os ps e = sym (owned_back p os) ∙ ap owned_in e ∙ owned_back q ps

abbrev flag_of : CellMark → Bool
flag_of Counted = false
flag_of (Gap c) = false
flag_of (Touch c n h) = false
flag_of (Make c n b) = b
flag_of (Fill c n) = false

pub made_flags : (p q : RowPart) (os : List Owned) → embed_made p os ≡ embed_made q os → (o : Owned) → Has os o
    → is_here (how (p.target_of o.node) (To.Cell o.cell)) ≡ is_here (how (q.target_of o.node) (To.Cell o.cell))
made_flags p q [] e o h = absurd h
made_flags p q (k ∷ os) e o (inl i) =
    subst (λ (o : Owned). is_here (how (p.target_of o.node) (To.Cell o.cell)) ≡ is_here (how (q.target_of o.node) (To.Cell o.cell))) i (ap flag_of (head_is _ _ _ _ e))
made_flags p q (k ∷ os) e o (inr i) = made_flags p q os (tail_is _ _ _ _ e) o i

-- ## What tells

pub made-tells : (p : RowPart) (os : List Owned) (o : Owned) → Has os o → list_any tells (embed_made p os) ≡ true
made-tells p [] o h = absurd h
made-tells p (k ∷ os) o h = refl

made-has : (p : RowPart) (os : List Owned) (o : Owned) → Has os o → Has (embed_made p os) (Make o.cell o.node (is_here (how (p.target_of o.node) (To.Cell o.cell))))
made-has p [] o h = absurd h
made-has p (k ∷ os) o (inl i) = inl (ap (λ (o : Owned). Make o.cell o.node (is_here (how (p.target_of o.node) (To.Cell o.cell)))) i)
made-has p (k ∷ os) o (inr i) = inr (made-has p os o i)

cell-has : (p : RowPart) (c : List Slot) (s : Slot) → Has c s → Has (embed_cells p c) (embed_cell p s.cell s.node s.full)
cell-has p [] s h = absurd h
cell-has p (t ∷ c) s (inl i) = inl (ap (λ (s : Slot). embed_cell p s.cell s.node s.full) i)
cell-has p (t ∷ c) s (inr i) = inr (append_right (embed_made p (p.new_cells (Some t.cell))) (embed_cells p c) _ (cell-has p c s i))

after-has : (p : RowPart) (c : List Slot) (s : Slot) (o : Owned) → Has c s → Has (p.new_cells (Some s.cell)) o
    → Has (embed_cells p c) (Make o.cell o.node (is_here (how (p.target_of o.node) (To.Cell o.cell))))
after-has p [] s o h g = absurd h
after-has p (t ∷ c) s o (inl i) g =
    inr (append_left (embed_made p (p.new_cells (Some t.cell))) (embed_cells p c) _ (made-has p (p.new_cells (Some t.cell)) o (subst (λ (u : Slot). Has (p.new_cells (Some u.cell)) o) (sym i) g)))
after-has p (t ∷ c) s o (inr i) g = inr (append_right (embed_made p (p.new_cells (Some t.cell))) (embed_cells p c) _ (after-has p c s o i g))

-- a row tells where one of its cells does, or where one is made
pub cell_tells : (p : RowPart) (c : List Slot) (s : Slot) → Has c s → tells (embed_cell p s.cell s.node s.full) ≡ true → list_any tells (embed_row p c) ≡ true
cell_tells p c s h t = has-any tells (embed_row p c) _ (append_right (embed_made p (p.new_cells None)) (embed_cells p c) _ (cell-has p c s h)) t

pub start_tells : (p : RowPart) (c : List Slot) (o : Owned) → Has (p.new_cells None) o → list_any tells (embed_row p c) ≡ true
start_tells p c o h = has-any tells (embed_row p c) _ (append_left (embed_made p (p.new_cells None)) (embed_cells p c) _ (made-has p (p.new_cells None) o h)) refl

pub after_tells : (p : RowPart) (c : List Slot) (s : Slot) (o : Owned) → Has c s → Has (p.new_cells (Some s.cell)) o → list_any tells (embed_row p c) ≡ true
after_tells p c s o h g = has-any tells (embed_row p c) _ (append_right (embed_made p (p.new_cells None)) (embed_cells p c) _ (after-has p c s o h g)) refl

-- ## What becomes of a node

same_to-true : (to here : To) → same_to to here ≡ true → to ≡ here
same_to-true To.Nowhere To.Nowhere e = refl
same_to-true To.Nowhere (To.Cell d) e = cc
same_to-true To.Nowhere (To.Register g) e = cc
same_to-true (To.Cell c) To.Nowhere e = cc
same_to-true (To.Cell c) (To.Cell d) e = ap (λ c. To.Cell c) (same_cell-true c d e)
same_to-true (To.Cell c) (To.Register g) e = cc
same_to-true (To.Register f) To.Nowhere e = cc
same_to-true (To.Register f) (To.Cell d) e = cc
same_to-true (To.Register f) (To.Register g) e = ap (λ f. To.Register f) (same_field-true f g e)

-- who is set where it stands is put there
pub here-put : (o : Option To) (here : To) → is_here (how o here) ≡ true → o ≡ Some here
here-put None here e = cc
here-put (Some to) here e = by (same_to to here) refl e
  where
    by : (b : Bool) → same_to to here ≡ b → is_here (if b then Here else Leave) ≡ true → Some to ≡ Some here
    by true s e = ap (λ t. Some t) (same_to-true to here s)
    by false s e = cc

-- who leaves is put
pub leave-put : (o : Option To) (here : To) → how o here ≡ Leave → (to : To) × (o ≡ Some to)
leave-put None here e = cc
leave-put (Some to) here e = (to, refl)

-- a cell that shows a node as set tells that it is put there
pub full_here : (p : RowPart) (c : CellId) (n : NodeId) → embed_cell p c n true ≡ Touch c n Here → is_here (how (p.target_of n) (To.Cell c)) ≡ true
full_here p c n e = by (p.mentioned n) e
  where
    by : (b : Bool) → (if b then Touch c n (how (p.target_of n) (To.Cell c)) else Counted) ≡ Touch c n Here → is_here (how (p.target_of n) (To.Cell c)) ≡ true
    by true e = ap is_here (how_is e)
      where
        how_is : Touch c n (how (p.target_of n) (To.Cell c)) ≡ Touch c n Here → how (p.target_of n) (To.Cell c) ≡ Here
        how_is e = cc
    by false e = cc

pub empty_here : (p : RowPart) (c : CellId) (n : NodeId) → embed_cell p c n false ≡ Fill c n → is_here (how (p.target_of n) (To.Cell c)) ≡ true
empty_here p c n e = by (is_here (how (p.target_of n) (To.Cell c))) e
  where
    by : (b : Bool) → (if b then Fill c n else Gap c) ≡ Fill c n → b ≡ true
    by true e = refl
    by false e = cc

pub full_leave : (p : RowPart) (c : CellId) (n : NodeId) → embed_cell p c n true ≡ Touch c n Leave → how (p.target_of n) (To.Cell c) ≡ Leave
full_leave p c n e = by (p.mentioned n) e
  where
    by : (b : Bool) → (if b then Touch c n (how (p.target_of n) (To.Cell c)) else Counted) ≡ Touch c n Leave → how (p.target_of n) (To.Cell c) ≡ Leave
    by true e = cc
    by false e = cc
