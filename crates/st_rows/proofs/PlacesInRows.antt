-- Marks that list a row, place by place.
use Rattle.std.proofs.Common.{◌≡◌, ◌≢◌, ◌+◌, ℕ, Bool, true, false, List, [], ◌∷◌, ◌++◌, Option, Some, None, cond, refl, sym, ap, ◌∙◌, subst, inl, inr, ◌⊎◌, option_map}
use Rattle.std.specs.List.{flat_map}
use Rattle.st_ids.specs.Listing.{AreDistinct, Has}
use Rattle.st_ids.specs.Order.{same_cell}
use Rattle.st_ids.proofs.Orders.{same_cell-true, same_cell-itself, same_node-true}
use Rattle.st_ids.specs.declared.names.CellId.{CellId}
use Rattle.st_ids.specs.declared.names.NodeId.{NodeId}
use Rattle.st_marks.specs.declared.intents.Owned.{Owned}
use Rattle.st_marks.specs.declared.intents.To.{To}
use Rattle.st_marks.specs.declared.places.Slot.{Slot}
use Rattle.st_marks.specs.Row.{CellMark, Counted, Gap, Touch, Make, Fill, RowPart, how, embed_cell, embed_made, embed_cells}
use Rattle.st_marks.specs.How.{is_here}
use Rattle.st_marks.specs.Listings.{cell_view, cells_before}
use Rattle.st_rows.specs.Views.{row_views}
use Rattle.st_rows.specs.Differences.{agree, first_difference, view_before}
use Rattle.st_rows.specs.Changes.{StandsIn}
use Rattle.st_rows.proofs.KindLaws.{not_again}
use Rattle.st_rows.specs.Heads.{is_made}
use Rattle.st_rows.specs.Sequence.{cells_of, standing_nodes}
use Rattle.st_rows.proofs.RowRetreats.{stands_not, stand_others}
use Rattle.st_rows.proofs.Differences.{bools-same}
use Rattle.st_lemmas.proofs.Bools.{and-true}

-- what a mark says of a cell is true of it
abbrev pub Says : Slot → CellMark → Type 0
Says s Counted = s.full ≡ true
Says s (Gap a) = (s.cell ≡ a) × (s.full ≡ false)
Says s (Touch a n h) = (s.cell ≡ a) × (s.node ≡ n) × (s.full ≡ true)
Says s (Make a n b) = ⊥
Says s (Fill a n) = (s.cell ≡ a) × (s.node ≡ n) × (s.full ≡ false)

-- the marks list the row
pub data Lays : List Slot → List CellMark → Type 0 where
  end : Lays [] []
  made : {a : CellId} {n : NodeId} {b : Bool} {c : List Slot} {xs : List CellMark} → Lays c xs → Lays c (Make a n b ∷ xs)
  found : {s : Slot} {x : CellMark} {c : List Slot} {xs : List CellMark} → Says s x → Lays c xs → Lays (s ∷ c) (x ∷ xs)

-- ## From the search for a difference

says_seen : (s : Slot) (x : CellMark) → is_made x ≡ false → agree (cell_view s.cell s.node s.full) (view_before x) ≡ true → Says s x
says_seen s Counted m e = let p = and-true _ _ (and-true _ _ e).0 in bools-same s.full true p.0
says_seen s (Gap a) m e = let p = and-true _ _ (and-true _ _ e).0 in (same_cell-true s.cell a p.1, bools-same s.full false p.0)
says_seen s (Touch a n h) m e = let q = and-true _ _ e in let p = and-true _ _ q.0 in (same_cell-true s.cell a p.1, same_node-true s.node n q.1, bools-same s.full true p.0)
says_seen s (Make a n b) m e = cc
says_seen s (Fill a n) m e = let q = and-true _ _ e in let p = and-true _ _ q.0 in (same_cell-true s.cell a p.1, same_node-true s.node n q.1, bools-same s.full false p.0)

none_more : (b : Bool) (o : Option ℕ) → cond b (option_map (λ k. k + 1) o) (Some 0) ≡ None → (b ≡ true) × (o ≡ None)
none_more true None e = (refl, refl)
none_more true (Some k) e = cc
none_more false o e = cc

pub none_lays : (c : List Slot) (xs : List CellMark) → first_difference (row_views c) (cells_before xs) ≡ None → Lays c xs
none_lays [] [] e = end
none_lays (s ∷ c) [] e = cc
none_lays c (Make a n b ∷ xs) e = made (none_lays c xs e)
none_lays [] (Counted ∷ xs) e = cc
none_lays [] (Gap a ∷ xs) e = cc
none_lays [] (Touch a n h ∷ xs) e = cc
none_lays [] (Fill a n ∷ xs) e = cc
none_lays (s ∷ c) (Counted ∷ xs) e = let r = none_more _ _ e in found (says_seen s Counted refl r.0) (none_lays c xs r.1)
none_lays (s ∷ c) (Gap a ∷ xs) e = let r = none_more _ _ e in found (says_seen s (Gap a) refl r.0) (none_lays c xs r.1)
none_lays (s ∷ c) (Touch a n h ∷ xs) e = let r = none_more _ _ e in found (says_seen s (Touch a n h) refl r.0) (none_lays c xs r.1)
none_lays (s ∷ c) (Fill a n ∷ xs) e = let r = none_more _ _ e in found (says_seen s (Fill a n) refl r.0) (none_lays c xs r.1)

-- ## A cell and its mark

abbrev pub FoundAt : {c : List Slot} {xs : List CellMark} → Lays c xs → Slot → CellMark → Type 0
FoundAt end t y = ⊥
FoundAt (made l) t y = FoundAt l t y
FoundAt (found {s} {x} h l) t y = ((s ≡ t) × (x ≡ y)) ⊎ FoundAt l t y

pub found_says : {c : List Slot} {xs : List CellMark} (l : Lays c xs) (t : Slot) (y : CellMark) → FoundAt l t y → Says t y
found_says end t y w = absurd w
found_says (made l) t y w = found_says l t y w
found_says (found {s} {x} h l) t y (inl w) = subst (λ z. Says t z) w.1 (subst (λ z. Says z x) w.0 h)
found_says (found h l) t y (inr w) = found_says l t y w

pub found_slot : {c : List Slot} {xs : List CellMark} (l : Lays c xs) (t : Slot) (y : CellMark) → FoundAt l t y → Has c t
found_slot end t y w = absurd w
found_slot (made l) t y w = found_slot l t y w
found_slot (found h l) t y (inl w) = inl w.0
found_slot (found h l) t y (inr w) = inr (found_slot l t y w)

pub found_mark : {c : List Slot} {xs : List CellMark} (l : Lays c xs) (t : Slot) (y : CellMark) → FoundAt l t y → Has xs y
found_mark end t y w = absurd w
found_mark (made l) t y w = inr (found_mark l t y w)
found_mark (found h l) t y (inl w) = inl w.1
found_mark (found h l) t y (inr w) = inr (found_mark l t y w)

-- a mark that makes no cell is of a cell of the row
pub has_slot : {c : List Slot} {xs : List CellMark} (l : Lays c xs) (y : CellMark) → is_made y ≡ false → Has xs y → (t : Slot) × FoundAt l t y
has_slot end y m w = absurd w
has_slot (made {a} {n} {b} l) y m (inl e) = let q : ◌≡◌ {A = Bool} true false = ap is_made e ∙ m in cc
has_slot (made l) y m (inr w) = has_slot l y m w
has_slot (found {s} h l) y m (inl e) = (s, inl (refl, e))
has_slot (found h l) y m (inr w) = let r = has_slot l y m w in (r.0, inr r.1)

-- a cell of the row has a mark
pub has_mark : {c : List Slot} {xs : List CellMark} (l : Lays c xs) (t : Slot) → Has c t → (y : CellMark) × FoundAt l t y
has_mark end t w = absurd w
has_mark (made l) t w = has_mark l t w
has_mark (found {x} h l) t (inl e) = (x, inl (e, refl))
has_mark (found h l) t (inr w) = let r = has_mark l t w in (r.0, inr r.1)

pub in_cells : (c : List Slot) (t : Slot) → Has c t → Has (cells_of c) t.cell
in_cells [] t w = absurd w
in_cells (s ∷ c) t (inl e) = inl (ap (λ (x : Slot). x.cell) e)
in_cells (s ∷ c) t (inr w) = inr (in_cells c t w)

-- one cell has one mark
pub one_cell : {c : List Slot} {xs : List CellMark} (l : Lays c xs) → AreDistinct (λ (s : Slot). s.cell) c → (t u : Slot) (y z : CellMark) → FoundAt l t y → FoundAt l u z → t.cell ≡ u.cell → y ≡ z
one_cell end o t u y z v w e = absurd v
one_cell (made l) o t u y z v w e = one_cell l o t u y z v w e
one_cell (found h l) o t u y z (inl v) (inl w) e = sym v.1 ∙ w.1
one_cell (found {s} {c = c} h l) o t u y z (inl v) (inr w) e = absurd (not_again c s.cell o.0 (subst (Has (cells_of c)) (sym e ∙ ap (λ (x : Slot). x.cell) (sym v.0)) (in_cells c u (found_slot l u z w))))
one_cell (found {s} {c = c} h l) o t u y z (inr v) (inl w) e = absurd (not_again c s.cell o.0 (subst (Has (cells_of c)) (e ∙ ap (λ (x : Slot). x.cell) (sym w.0)) (in_cells c t (found_slot l t y v))))
one_cell (found h l) o t u y z (inr v) (inr w) e = one_cell l o.1 t u y z v w e

pub in_row : (c : List Slot) (t : Slot) → Has c t → t.full ≡ true → StandsIn t.node c
in_row [] t w e = absurd w
in_row (s ∷ c) t (inl q) e = inl (ap (λ (x : Slot). x.node) q, ap (λ (x : Slot). x.full) q ∙ e)
in_row (s ∷ c) t (inr w) e = inr (in_row c t w e)

-- one node that stands in the row has one mark
pub one_stands : {c : List Slot} {xs : List CellMark} (l : Lays c xs) → AreDistinct (λ (n : NodeId). n) (standing_nodes c) → (t u : Slot) (y z : CellMark) → FoundAt l t y → FoundAt l u z → t.full ≡ true → u.full ≡ true → t.node ≡ u.node → y ≡ z
one_stands end o t u y z v w p q e = absurd v
one_stands (made l) o t u y z v w p q e = one_stands l o t u y z v w p q e
one_stands (found h l) o t u y z (inl v) (inl w) p q e = sym v.1 ∙ w.1
one_stands (found {s} {c = c} h l) o t u y z (inl v) (inr w) p q e =
    absurd (stands_not c s.node ((stand_others s c o).0 (ap (λ (x : Slot). x.full) v.0 ∙ p)) (subst (λ n. StandsIn n c) (sym e ∙ ap (λ (x : Slot). x.node) (sym v.0)) (in_row c u (found_slot l u z w) q)))
one_stands (found {s} {c = c} h l) o t u y z (inr v) (inl w) p q e =
    absurd (stands_not c s.node ((stand_others s c o).0 (ap (λ (x : Slot). x.full) w.0 ∙ q)) (subst (λ n. StandsIn n c) (e ∙ ap (λ (x : Slot). x.node) (sym w.0)) (in_row c t (found_slot l t y v) p)))
one_stands (found {s} {c = c} h l) o t u y z (inr v) (inr w) p q e = one_stands l (stand_others s c o).1 t u y z v w p q e

-- ## The groups of new cells

-- the cells that are made at the front
abbrev pub lead : List CellMark → List Owned
lead [] = []
lead (Counted ∷ xs) = []
lead (Gap a ∷ xs) = []
lead (Touch a n h ∷ xs) = []
lead (Make a n b ∷ xs) = record { cell = a; node = n } ∷ lead xs
lead (Fill a n ∷ xs) = []

-- all cells that are made
abbrev pub makes : List CellMark → List Owned
makes [] = []
makes (Counted ∷ xs) = makes xs
makes (Gap a ∷ xs) = makes xs
makes (Touch a n h ∷ xs) = makes xs
makes (Make a n b ∷ xs) = record { cell = a; node = n } ∷ makes xs
makes (Fill a n ∷ xs) = makes xs

-- the cells that are made after a cell of the row
abbrev pub behind : {c : List Slot} {xs : List CellMark} → Lays c xs → CellId → List Owned
behind end a = []
behind (made l) a = behind l a
behind (found {s} {xs = xs} h l) a = cond (same_cell s.cell a) (lead xs) (behind l a)

no_lead : (s : Slot) (x : CellMark) (xs : List CellMark) → Says s x → lead (x ∷ xs) ≡ []
no_lead s Counted xs h = refl
no_lead s (Gap a) xs h = refl
no_lead s (Touch a n k) xs h = refl
no_lead s (Make a n b) xs h = absurd h
no_lead s (Fill a n) xs h = refl

no_make : (s : Slot) (x : CellMark) (xs : List CellMark) → Says s x → makes (x ∷ xs) ≡ makes xs
no_make s Counted xs h = refl
no_make s (Gap a) xs h = refl
no_make s (Touch a n k) xs h = refl
no_make s (Make a n b) xs h = absurd h
no_make s (Fill a n) xs h = refl

-- the part makes these cells after those of the row
abbrev pub Groups : RowPart → {c : List Slot} {xs : List CellMark} → Lays c xs → Type 0
Groups p end = Unit {0}
Groups p (made l) = Groups p l
Groups p (found {s} {xs = xs} h l) = (p.new_cells (Some s.cell) ≡ lead xs) × Groups p l

pub groups_of : (p : RowPart) {c : List Slot} {xs : List CellMark} (l : Lays c xs) → AreDistinct (λ (s : Slot). s.cell) c → ((a : CellId) → Has (cells_of c) a → p.new_cells (Some a) ≡ behind l a) → Groups p l
groups_of p end o h = tt
groups_of p (made l) o h = groups_of p l o h
groups_of p (found {s} {c = c} {xs = xs} k l) o h = (
  h s.cell (inl refl) ∙ ap (λ b. cond b (lead xs) (behind l s.cell)) (same_cell-itself s.cell),
  groups_of p l o.1 (λ a w. h a (inr w) ∙ elim (same_cell s.cell a) as (λ b. same_cell s.cell a ≡ b → cond b (lead xs) (behind l a) ≡ behind l a) [
    | true ↦ (λ e. absurd (not_again c s.cell o.0 (subst (Has (cells_of c)) (sym (same_cell-true s.cell a e)) w)))
    | false ↦ (λ e. refl)
  ] refl),
)

pub behind_cell : {c : List Slot} {xs : List CellMark} (l : Lays c xs) (a : CellId) → behind l a ≢ [] → Has (cells_of c) a
behind_cell end a h = absurd (h refl)
behind_cell (made l) a h = behind_cell l a h
behind_cell (found {s} {c = c} {xs = xs} k l) a h = elim (same_cell s.cell a) as (λ b. same_cell s.cell a ≡ b → (cond b (lead xs) (behind l a) ≢ []) → (s.cell ≡ a) ⊎ Has (cells_of c) a) [
  | true ↦ (λ e q. inl (same_cell-true s.cell a e))
  | false ↦ (λ e q. inr (behind_cell l a q))
] refl h

-- the marks are those of a part that says the same of each cell
pub embeds : (p : RowPart) {c : List Slot} {xs : List CellMark} (l : Lays c xs) → Groups p l → ((t : Slot) (y : CellMark) → FoundAt l t y → embed_cell p t.cell t.node t.full ≡ y) → ((a : CellId) (n : NodeId) (b : Bool) → Has xs (Make a n b) → is_here (how (p.target_of n) (To.Cell a)) ≡ b)
    → embed_made p (lead xs) ++ embed_cells p c ≡ xs
embeds p end g f m = refl
embeds p (made {a} {n} {b} l) g f m = λ i. Make a n (m a n b (inl refl) i) ∷ embeds p l g f (λ a' n' b' w. m a' n' b' (inr w)) i
embeds p (found {s} {x} {c} {xs} h l) g f m =
    ap (λ os. embed_made p os ++ embed_cells p (s ∷ c)) (no_lead s x xs h)
    ∙ (λ i. f s x (inl (refl, refl)) i ∷ ((λ j. embed_made p (g.0 j) ++ embed_cells p c) ∙ embeds p l g.1 (λ t y w. f t y (inr w)) (λ a n b w. m a n b (inr w))) i)

pub makes_them : (p : RowPart) {c : List Slot} {xs : List CellMark} (l : Lays c xs) → Groups p l → lead xs ++ flat_map (λ (s : Slot). p.new_cells (Some s.cell)) c ≡ makes xs
makes_them p end g = refl
makes_them p (made {a} {n} l) g = ap (λ os. record { cell = a; node = n } ∷ os) (makes_them p l g)
makes_them p (found {s} {x} {c} {xs} h l) g =
    ap (λ os. os ++ flat_map (λ (t : Slot). p.new_cells (Some t.cell)) (s ∷ c)) (no_lead s x xs h)
    ∙ (λ i. g.0 i ++ flat_map (λ (t : Slot). p.new_cells (Some t.cell)) c) ∙ makes_them p l g.1 ∙ sym (no_make s x xs h)

pub has_makes : (xs : List CellMark) (o : Owned) → Has (makes xs) o → (b : Bool) × Has xs (Make o.cell o.node b)
has_makes [] o w = absurd w
has_makes (Counted ∷ xs) o w = let r = has_makes xs o w in (r.0, inr r.1)
has_makes (Gap a ∷ xs) o w = let r = has_makes xs o w in (r.0, inr r.1)
has_makes (Touch a n h ∷ xs) o w = let r = has_makes xs o w in (r.0, inr r.1)
has_makes (Make a n b ∷ xs) o (inl e) = (b, inl (ap (λ (x : Owned). Make x.cell x.node b) e))
has_makes (Make a n b ∷ xs) o (inr w) = let r = has_makes xs o w in (r.0, inr r.1)
has_makes (Fill a n ∷ xs) o w = let r = has_makes xs o w in (r.0, inr r.1)
