-- The names of a row's marks: where what is named is shown, and what is shown is named.
use Rattle.std.proofs.Common.{◌≡◌, ◌≢◌, ℕ, zero, suc, ◌+◌, Bool, true, false, List, [], ◌∷◌, ◌++◌, Option, Some, None, cond, refl, sym, ap, ◌∙◌, subst, arith, inl, inr, slice_get}
use Rattle.std.proofs.lemmas.Option.{same_Some}
use Rattle.st_ids.specs.Listing.{AreDistinct, Has}
use Rattle.st_ids.specs.declared.names.Atom.{Atom}
use Rattle.st_ids.specs.declared.names.CellId.{CellId}
use Rattle.st_ids.specs.declared.names.NodeId.{NodeId}
use Rattle.st_marks.specs.Listings.{CellView, cell_view, cells_before, cells_in, cells_made, counted_view, empty_view}
use Rattle.st_marks.specs.Row.{CellMark, Counted, Gap, Touch, Make, Fill}
use Rattle.st_marks.proofs.Members.{all-has, append_right, first-has}
use Rattle.st_seq.specs.NamedApart.{first_named, found_at, made_at, named_before, same_atom, standing_at, stands_at}
use Rattle.st_seq.specs.declared.name_clashes.NamedAt.{NamedAt}
use Rattle.st_seq.proofs.NamedCells.{moved_on, same_atom-itself, same_atom-true}

abbrev pub cell_named : Atom → CellId
cell_named a = record { 0 = a }

abbrev pub node_named : Atom → NodeId
node_named a = record { 0 = a }

-- a cell is shown so many places on, with some owner or none
pub record IsShownAt (X : List CellView) (k left : ℕ) (a : Atom) (i : ℕ) : Type 0 where
  pub at : left ≡ k + i
  pub owner : Option NodeId
  pub full : Bool
  pub shown : slice_get X i ≡ Some (record { cell = Some (cell_named a); node = owner; full = full })

further : (X : List CellView) (v : CellView) (k left : ℕ) (a : Atom) → ((i : ℕ) × IsShownAt X (suc k) left a i) → (i : ℕ) × IsShownAt (v ∷ X) k left a i
further X v k left a r = (suc r.0, record { at = r.1.at ∙ moved_on k r.0; owner = r.1.owner; full = r.1.full; shown = r.1.shown })

at_once : (X : List CellView) (v : CellView) (k : ℕ) (a : Atom) (o : Option NodeId) (b : Bool) (e : NamedAt) → found_at a k ≡ e → v ≡ record { cell = Some (cell_named a); node = o; full = b } → (i : ℕ) × IsShownAt (v ∷ X) k e.left e.name i
at_once X v k a o b e q same = subst (λ (x : NamedAt). (i : ℕ) × IsShownAt (v ∷ X) k x.left x.name i) q (0, record { at = omega arith; owner = o; full = b; shown = ap (λ z. Some z) same })

-- a cell that is found is shown where it is found
pub found_shown : (k : ℕ) (xs : List CellMark) (e : NamedAt) → Has (named_before k xs) e → e.made ≡ false → (i : ℕ) × IsShownAt (cells_before xs) k e.left e.name i
found_shown k [] e h m = absurd h
found_shown k (Counted ∷ xs) e h m = further (cells_before xs) counted_view k e.left e.name (found_shown (suc k) xs e h m)
found_shown k (Gap c ∷ xs) e (inl q) m = at_once (cells_before xs) (empty_view c) k c.0 None false e q refl
found_shown k (Gap c ∷ xs) e (inr h) m = further (cells_before xs) (empty_view c) k e.left e.name (found_shown (suc k) xs e h m)
found_shown k (Touch c n w ∷ xs) e (inl q) m = at_once (cells_before xs) (cell_view c n true) k c.0 (Some n) true e q refl
found_shown k (Touch c n w ∷ xs) e (inr h) m = further (cells_before xs) (cell_view c n true) k e.left e.name (found_shown (suc k) xs e h m)
found_shown k (Make c n b ∷ xs) e (inl q) m = let z : ◌≡◌ {A = Bool} true false = ap (λ (x : NamedAt). x.made) q ∙ m in cc
found_shown k (Make c n b ∷ xs) e (inr h) m = found_shown k xs e h m
found_shown k (Fill c n ∷ xs) e (inl q) m = at_once (cells_before xs) (cell_view c n false) k c.0 (Some n) false e q refl
found_shown k (Fill c n ∷ xs) e (inr h) m = further (cells_before xs) (cell_view c n false) k e.left e.name (found_shown (suc k) xs e h m)

-- a cell that is made is one of those that the marks make
pub made_listed : (k : ℕ) (xs : List CellMark) (e : NamedAt) → Has (named_before k xs) e → e.made ≡ true → Has (cells_made xs) (cell_named e.name)
made_listed k [] e h m = absurd h
made_listed k (Counted ∷ xs) e h m = made_listed (suc k) xs e h m
made_listed k (Gap c ∷ xs) e (inl q) m = let z : ◌≡◌ {A = Bool} false true = ap (λ (x : NamedAt). x.made) q ∙ m in cc
made_listed k (Gap c ∷ xs) e (inr h) m = made_listed (suc k) xs e h m
made_listed k (Touch c n w ∷ xs) e (inl q) m = let z : ◌≡◌ {A = Bool} false true = ap (λ (x : NamedAt). x.made) q ∙ m in cc
made_listed k (Touch c n w ∷ xs) e (inr h) m = made_listed (suc k) xs e h m
made_listed k (Make c n b ∷ xs) e (inl q) m = inl (ap (λ (x : NamedAt). cell_named x.name) q)
made_listed k (Make c n b ∷ xs) e (inr h) m = inr (made_listed k xs e h m)
made_listed k (Fill c n ∷ xs) e (inl q) m = let z : ◌≡◌ {A = Bool} false true = ap (λ (x : NamedAt). x.made) q ∙ m in cc
made_listed k (Fill c n ∷ xs) e (inr h) m = made_listed (suc k) xs e h m

-- a cell that is named is one of those in the marks
pub named_listed : (k : ℕ) (xs : List CellMark) (e : NamedAt) → Has (named_before k xs) e → Has (cells_in xs) (cell_named e.name)
named_listed k [] e h = absurd h
named_listed k (Counted ∷ xs) e h = named_listed (suc k) xs e h
named_listed k (Gap c ∷ xs) e (inl q) = inl (ap (λ (x : NamedAt). cell_named x.name) q)
named_listed k (Gap c ∷ xs) e (inr h) = inr (named_listed (suc k) xs e h)
named_listed k (Touch c n w ∷ xs) e (inl q) = inl (ap (λ (x : NamedAt). cell_named x.name) q)
named_listed k (Touch c n w ∷ xs) e (inr h) = inr (named_listed (suc k) xs e h)
named_listed k (Make c n b ∷ xs) e (inl q) = inl (ap (λ (x : NamedAt). cell_named x.name) q)
named_listed k (Make c n b ∷ xs) e (inr h) = inr (named_listed k xs e h)
named_listed k (Fill c n ∷ xs) e (inl q) = inl (ap (λ (x : NamedAt). cell_named x.name) q)
named_listed k (Fill c n ∷ xs) e (inr h) = inr (named_listed (suc k) xs e h)

abbrev pub Names : ℕ → List CellMark → CellId → Type 0
Names k xs c = (e : NamedAt) × Has (named_before k xs) e × (cell_named e.name ≡ c)

pub listed_named : (k : ℕ) (xs : List CellMark) (c : CellId) → Has (cells_in xs) c → Names k xs c
listed_named k [] c h = absurd h
listed_named k (Counted ∷ xs) c h = listed_named (suc k) xs c h
listed_named k (Gap d ∷ xs) c (inl q) = (found_at d.0 k, inl refl, q)
listed_named k (Gap d ∷ xs) c (inr h) = let r = listed_named (suc k) xs c h in (r.0, inr r.1, r.2)
listed_named k (Touch d n w ∷ xs) c (inl q) = (found_at d.0 k, inl refl, q)
listed_named k (Touch d n w ∷ xs) c (inr h) = let r = listed_named (suc k) xs c h in (r.0, inr r.1, r.2)
listed_named k (Make d n b ∷ xs) c (inl q) = (made_at d.0 k, inl refl, q)
listed_named k (Make d n b ∷ xs) c (inr h) = let r = listed_named k xs c h in (r.0, inr r.1, r.2)
listed_named k (Fill d n ∷ xs) c (inl q) = (found_at d.0 k, inl refl, q)
listed_named k (Fill d n ∷ xs) c (inr h) = let r = listed_named (suc k) xs c h in (r.0, inr r.1, r.2)

abbrev pub Makes : ℕ → List CellMark → CellId → Type 0
Makes k xs c = (e : NamedAt) × Has (named_before k xs) e × (cell_named e.name ≡ c) × (e.made ≡ true)

pub listed_made : (k : ℕ) (xs : List CellMark) (c : CellId) → Has (cells_made xs) c → Makes k xs c
listed_made k [] c h = absurd h
listed_made k (Counted ∷ xs) c h = listed_made (suc k) xs c h
listed_made k (Gap d ∷ xs) c h = let r = listed_made (suc k) xs c h in (r.0, inr r.1, r.2, r.3)
listed_made k (Touch d n w ∷ xs) c h = let r = listed_made (suc k) xs c h in (r.0, inr r.1, r.2, r.3)
listed_made k (Make d n b ∷ xs) c (inl q) = (made_at d.0 k, inl refl, q, refl)
listed_made k (Make d n b ∷ xs) c (inr h) = let r = listed_made k xs c h in (r.0, inr r.1, r.2, r.3)
listed_made k (Fill d n ∷ xs) c h = let r = listed_made (suc k) xs c h in (r.0, inr r.1, r.2, r.3)

cell_at : Option CellView → Option CellId
cell_at None = None
cell_at (Some v) = v.cell

onward : (k i : ℕ) (a : Atom) (A : List NamedAt) → Has A (found_at a (suc k + i)) → Has A (found_at a (k + suc i))
onward k i a A h = subst (λ j. Has A (found_at a j)) (moved_on k i) h

here : (k : ℕ) (d c : CellId) → ◌≡◌ {A = Option CellId} (Some d) (Some c) → found_at d.0 k ≡ found_at c.0 (k + 0)
here k d c q = let z : k ≡ k + 0 = omega arith in λ i. found_at (same_Some d c q i).0 (z i)

-- a cell that is shown is found where it is shown
pub shown_found : (k : ℕ) (xs : List CellMark) (i : ℕ) (c : CellId) (o : Option NodeId) (b : Bool) → slice_get (cells_before xs) i ≡ Some (record { cell = Some c; node = o; full = b }) → Has (named_before k xs) (found_at c.0 (k + i))
unfolding cell_at
shown_found k [] zero c o b e = cc
shown_found k [] (suc i) c o b e = cc
shown_found k (Counted ∷ xs) zero c o b e = let z : None ≡ Some c = ap cell_at e in cc
shown_found k (Counted ∷ xs) (suc i) c o b e = onward k i c.0 (named_before (suc k) xs) (shown_found (suc k) xs i c o b e)
shown_found k (Gap d ∷ xs) zero c o b e = inl (here k d c (ap cell_at e))
shown_found k (Gap d ∷ xs) (suc i) c o b e = inr (onward k i c.0 (named_before (suc k) xs) (shown_found (suc k) xs i c o b e))
shown_found k (Touch d n w ∷ xs) zero c o b e = inl (here k d c (ap cell_at e))
shown_found k (Touch d n w ∷ xs) (suc i) c o b e = inr (onward k i c.0 (named_before (suc k) xs) (shown_found (suc k) xs i c o b e))
shown_found k (Make d n w ∷ xs) i c o b e = inr (shown_found k xs i c o b e)
shown_found k (Fill d n ∷ xs) zero c o b e = inl (here k d c (ap cell_at e))
shown_found k (Fill d n ∷ xs) (suc i) c o b e = inr (onward k i c.0 (named_before (suc k) xs) (shown_found (suc k) xs i c o b e))

-- ## Nodes that stand in the row

pub record StandsShown (X : List CellView) (k : ℕ) (e : NamedAt) (i : ℕ) : Type 0 where
  pub at : e.left ≡ k + i
  pub found : e.made ≡ false
  pub cell : CellId
  pub shown : slice_get X i ≡ Some (cell_view cell (node_named e.name) true)

behind : (X : List CellView) (v : CellView) (k : ℕ) (e : NamedAt) → ((i : ℕ) × StandsShown X (suc k) e i) → (i : ℕ) × StandsShown (v ∷ X) k e i
behind X v k e r = (suc r.0, record { at = r.1.at ∙ moved_on k r.0; found = r.1.found; cell = r.1.cell; shown = r.1.shown })

-- a node that is named where it stands is shown there, in a cell that is named
pub stands_shown : (k : ℕ) (xs : List CellMark) (e : NamedAt) → Has (standing_at k (cells_before xs)) e → (i : ℕ) × StandsShown (cells_before xs) k e i
stands_shown k [] e h = absurd h
stands_shown k (Counted ∷ xs) e h = behind (cells_before xs) counted_view k e (stands_shown (suc k) xs e h)
stands_shown k (Gap c ∷ xs) e h = behind (cells_before xs) (empty_view c) k e (stands_shown (suc k) xs e h)
stands_shown k (Touch c n w ∷ xs) e (inl q) = subst (λ (x : NamedAt). (i : ℕ) × StandsShown (cell_view c n true ∷ cells_before xs) k x i) q (0, record { at = omega arith; found = refl; cell = c; shown = refl })
stands_shown k (Touch c n w ∷ xs) e (inr h) = behind (cells_before xs) (cell_view c n true) k e (stands_shown (suc k) xs e h)
stands_shown k (Make c n b ∷ xs) e h = stands_shown k xs e h
stands_shown k (Fill c n ∷ xs) e h = behind (cells_before xs) (cell_view c n false) k e (stands_shown (suc k) xs e h)

-- a node that is shown in a full cell is named where it stands
pub shown_stands : (k : ℕ) (X : List CellView) (i : ℕ) (c : CellId) (n : NodeId) → slice_get X i ≡ Some (cell_view c n true) → Has (standing_at k X) (found_at n.0 (k + i))
shown_stands k [] zero c n e = cc
shown_stands k [] (suc i) c n e = cc
shown_stands k (s ∷ X) zero c n e = subst (λ (v : CellView). Has (stands_at v.full v.node k ++ standing_at (suc k) X) (found_at n.0 (k + 0))) (sym (same_Some s (cell_view c n true) e)) (inl (let z : k ≡ k + 0 = omega arith in λ i. found_at n.0 (z i)))
shown_stands k (s ∷ X) (suc i) c n e = append_right (stands_at s.full s.node k) (standing_at (suc k) X) (found_at n.0 (k + suc i)) (onward k i n.0 (standing_at (suc k) X) (shown_stands (suc k) X i c n e))

-- ## What is named first

pub first_found : (A : List NamedAt) (e : NamedAt) (a : Atom) → Has A e → e.name ≡ a → (x : NamedAt) × (first_named A a ≡ Some x)
first_found [] e a h q = absurd h
first_found (y ∷ A) e a h q = go (same_atom y.name a) refl h (λ w. first_found A e a w q)
  where
    go : (b : Bool) → same_atom y.name a ≡ b → Has (y ∷ A) e → (Has A e → (x : NamedAt) × (first_named A a ≡ Some x)) → (x : NamedAt) × (cond b (Some y) (first_named A a) ≡ Some x)
    go true t w rest = (y, refl)
    go false t (inl s) rest = let z : ◌≡◌ {A = Bool} false true = sym t ∙ ap (λ (x : NamedAt). same_atom x.name a) s ∙ ap (λ u. same_atom u a) q ∙ same_atom-itself a in cc
    go false t (inr w) rest = rest w

pub first_is : (A : List NamedAt) (a : Atom) (x : NamedAt) → first_named A a ≡ Some x → Has A x × (x.name ≡ a)
first_is A a x e = let r = first-has (λ (y : NamedAt). same_atom y.name a) A x e in (r.0, same_atom-true x.name a r.1)

pub one_named : (A : List NamedAt) → AreDistinct (λ (e : NamedAt). e.name) A → (x e : NamedAt) → Has A x → Has A e → x.name ≡ e.name → x ≡ e
one_named [] o x e h w s = absurd h
one_named (y ∷ A) o x e (inl p) (inl q) s = sym p ∙ q
one_named (y ∷ A) o x e (inl p) (inr w) s = absurd (all-has (λ (z : NamedAt). z.name ≢ y.name) A e o.0 w (sym s ∙ sym (ap (λ (z : NamedAt). z.name) p)))
one_named (y ∷ A) o x e (inr h) (inl q) s = absurd (all-has (λ (z : NamedAt). z.name ≢ y.name) A x o.0 h (s ∙ sym (ap (λ (z : NamedAt). z.name) q)))
one_named (y ∷ A) o x e (inr h) (inr w) s = one_named A o.1 x e h w s

-- of an item of a list of names that are there once, the first of its name is itself
pub first_itself : (A : List NamedAt) (e : NamedAt) → AreDistinct (λ (x : NamedAt). x.name) A → Has A e → (a : Atom) → e.name ≡ a → first_named A a ≡ Some e
first_itself A e o h a q =
    let f = first_found A e a h q in
    let x = first_is A a f.0 f.1 in
    f.1 ∙ ap (λ z. Some z) (one_named A o f.0 e x.0 h (x.1 ∙ sym q))
