-- A row and two listings, side by side.
use Rattle.std.proofs.Common.{◌≡◌, ◌≢◌, ◌&&◌, ◌-◌, ℕ, zero, suc, arith, Bool, true, false, not, List, [], ◌∷◌, refl, sym, ap, ◌∙◌}
use Rattle.st_ids.specs.Order.{same_cell, same_node}
use Rattle.st_ids.proofs.Orders.{same_cell-itself, same_cell-true, same_node-itself, same_node-true}
use Rattle.st_ids.specs.declared.names.CellId.{CellId}
use Rattle.st_ids.specs.declared.names.NodeId.{NodeId}
use Rattle.st_marks.specs.declared.places.Slot.{Slot}
use Rattle.st_marks.specs.Listings.{cells_before}
use Rattle.st_marks.specs.Row.{CellMark, Counted, Gap, Touch, Make, Fill, counted_cells}
use Rattle.st_puts.specs.Seen.{AreAsSeen}
use Rattle.st_author_laws.specs.Back.{row_back}
use Rattle.st_author_over.specs.inside.Side.{before, is_empty, is_make, sees, sees_back, sees_row}
use Rattle.st_lemmas.proofs.Bools.{and-true, and-both}

-- ## Turns

pub back-empty : (ys : List CellMark) → row_back [] ys ≡ []
back-empty [] = refl
back-empty (y ∷ ys) = refl

pub back-make : (s : Slot) (d : List Slot) (y : CellMark) (ys : List CellMark) → is_make y ≡ true → row_back (s ∷ d) (y ∷ ys) ≡ row_back d ys
back-make s d Counted ys e = cc
back-make s d (Gap c) ys e = cc
back-make s d (Touch c n h) ys e = cc
back-make s d (Make c n b) ys e = refl
back-make s d (Fill c n) ys e = cc

pub back-cell : (s : Slot) (d : List Slot) (y : CellMark) (ys : List CellMark) → is_make y ≡ false → row_back (s ∷ d) (y ∷ ys) ≡ before s y ∷ row_back d ys
back-cell s d Counted ys e = refl
back-cell s d (Gap c) ys e = refl
back-cell s d (Touch c n h) ys e = refl
back-cell s d (Make c n b) ys e = cc
back-cell s d (Fill c n) ys e = refl

pub sees-make : (c : List Slot) (x : CellMark) (xs : List CellMark) → is_make x ≡ true → sees_row c (x ∷ xs) ≡ sees_row c xs
sees-make c Counted xs e = cc
sees-make c (Gap a) xs e = cc
sees-make c (Touch a n h) xs e = cc
sees-make c (Make a n b) xs e = refl
sees-make c (Fill a n) xs e = cc

pub sees-none : (x : CellMark) (xs : List CellMark) → is_make x ≡ false → sees_row [] (x ∷ xs) ≡ false
sees-none Counted xs e = refl
sees-none (Gap a) xs e = refl
sees-none (Touch a n h) xs e = refl
sees-none (Make a n b) xs e = cc
sees-none (Fill a n) xs e = refl

pub sees-cell : (s : Slot) (c : List Slot) (x : CellMark) (xs : List CellMark) → is_make x ≡ false → sees_row (s ∷ c) (x ∷ xs) ≡ (sees s x && sees_row c xs)
sees-cell s c Counted xs e = refl
sees-cell s c (Gap a) xs e = refl
sees-cell s c (Touch a n h) xs e = refl
sees-cell s c (Make a n b) xs e = cc
sees-cell s c (Fill a n) xs e = refl

-- ## What is found

not-is : (b : Bool) → not b ≡ true → false ≡ b
not-is true e = cc
not-is false e = refl

is-not : (b : Bool) → false ≡ b → not b ≡ true
is-not true e = cc
is-not false e = refl

same-cell : (a b : CellId) → a ≡ b → same_cell a b ≡ true
same-cell a b e = ap (same_cell a) (sym e) ∙ same_cell-itself a

same-node : (a b : NodeId) → a ≡ b → same_node a b ≡ true
same-node a b e = ap (same_node a) (sym e) ∙ same_node-itself a

pub sees-seen : (c : List Slot) (xs : List CellMark) → sees_row c xs ≡ true → AreAsSeen c (cells_before xs)
sees-seen [] [] e = tt
sees-seen (s ∷ c) [] e = cc
sees-seen [] (Make a n b ∷ xs) e = sees-seen [] xs e
sees-seen (s ∷ c) (Make a n b ∷ xs) e = sees-seen (s ∷ c) xs e
sees-seen [] (Counted ∷ xs) e = cc
sees-seen [] (Gap a ∷ xs) e = cc
sees-seen [] (Touch a n h ∷ xs) e = cc
sees-seen [] (Fill a n ∷ xs) e = cc
sees-seen (s ∷ c) (Counted ∷ xs) e = let p = and-true _ _ e in ((sym p.0, tt, tt), sees-seen c xs p.1)
sees-seen (s ∷ c) (Gap a ∷ xs) e = let p = and-true _ _ e in let q = and-true _ _ p.0 in ((not-is s.full q.0, same_cell-true a s.cell q.1, tt), sees-seen c xs p.1)
sees-seen (s ∷ c) (Touch a n h ∷ xs) e = let p = and-true _ _ e in let q = and-true _ _ p.0 in let r = and-true _ _ q.1 in ((sym q.0, same_cell-true a s.cell r.0, same_node-true n s.node r.1), sees-seen c xs p.1)
sees-seen (s ∷ c) (Fill a n ∷ xs) e = let p = and-true _ _ e in let q = and-true _ _ p.0 in let r = and-true _ _ q.1 in ((not-is s.full q.0, same_cell-true a s.cell r.0, same_node-true n s.node r.1), sees-seen c xs p.1)

pub seen-sees : (c : List Slot) (xs : List CellMark) → AreAsSeen c (cells_before xs) → sees_row c xs ≡ true
seen-sees [] [] e = refl
seen-sees (s ∷ c) [] e = absurd e
seen-sees [] (Make a n b ∷ xs) e = seen-sees [] xs e
seen-sees (s ∷ c) (Make a n b ∷ xs) e = seen-sees (s ∷ c) xs e
seen-sees [] (Counted ∷ xs) e = absurd e
seen-sees [] (Gap a ∷ xs) e = absurd e
seen-sees [] (Touch a n h ∷ xs) e = absurd e
seen-sees [] (Fill a n ∷ xs) e = absurd e
seen-sees (s ∷ c) (Counted ∷ xs) e = and-both _ _ (sym e.0.0) (seen-sees c xs e.1)
seen-sees (s ∷ c) (Gap a ∷ xs) e = and-both _ _ (and-both _ _ (is-not s.full e.0.0) (same-cell a s.cell e.0.1)) (seen-sees c xs e.1)
seen-sees (s ∷ c) (Touch a n h ∷ xs) e = and-both _ _ (and-both _ _ (sym e.0.0) (and-both _ _ (same-cell a s.cell e.0.1) (same-node n s.node e.0.2))) (seen-sees c xs e.1)
seen-sees (s ∷ c) (Fill a n ∷ xs) e = and-both _ _ (and-both _ _ (is-not s.full e.0.0) (and-both _ _ (same-cell a s.cell e.0.1) (same-node n s.node e.0.2))) (seen-sees c xs e.1)

pub counted-less : (k : ℕ) (ms : List CellMark) → k ≢ 0 → counted_cells k ms ≡ Counted ∷ counted_cells (k - 1) ms
counted-less zero ms e = absurd (e refl)
counted-less (suc k) ms e = ap (λ (j : ℕ). Counted ∷ counted_cells j ms) (let q : k ≡ suc k - 1 = omega arith in q)

pub none-left : (d : List Slot) (ys xs : List CellMark) → d ≡ [] → xs ≡ [] → sees_back d ys xs ≡ true
none-left d ys xs e f = (λ i. sees_row (row_back (e i) ys) (f i)) ∙ ap is_empty (back-empty ys)

pub none-there : (d : List Slot) (ys xs : List CellMark) (x : CellMark) (ws : List CellMark) → d ≡ [] → is_make x ≡ false → xs ≡ x ∷ ws → sees_back d ys xs ≡ false
none-there d ys xs x ws e m f = (λ i. sees_row (row_back (e i) ys) (f i)) ∙ ap (λ c. sees_row c (x ∷ ws)) (back-empty ys) ∙ sees-none x ws m
