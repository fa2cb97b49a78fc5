-- Rows of two pairs of documents between which one step leads.
use Rattle.std.proofs.Common.{◌≡◌, ◌≢◌, ◌⊎◌, ℕ, zero, suc, Bool, true, false, List, [], ◌∷◌, slice_get, Option, Some, None, cond, refl, sym, ap, ◌∙◌, subst, inl, inr}
use Rattle.std.specs.List.{AllZip}
use Rattle.st_ids.specs.Listing.{AreDistinct, Has}
use Rattle.st_ids.specs.declared.names.CellId.{CellId}
use Rattle.st_ids.specs.declared.names.NodeId.{NodeId}
use Rattle.st_lemmas.proofs.Bools.{true-false}
use Rattle.st_lemmas.proofs.Options.{one_some}
use Rattle.st_marks.specs.declared.marks.How.TheVariants.{Stay}
use Rattle.st_marks.specs.declared.places.Slot.{Slot}
use Rattle.st_marks.specs.Agree.{IsSameView, SameIfBoth}
use Rattle.st_marks.specs.Extends.{GainsItems, no_more, item_gained, item_kept}
use Rattle.st_marks.specs.Listings.{CellView, cells_before}
use Rattle.st_marks.specs.Row.{CellMark, Counted, Gap, Touch, Make, Fill, SameCell, step_cell, step_row}
use Rattle.st_marks.proofs.Members.{all-has, has-all}
use Rattle.st_puts.specs.Seen.{AreAsSeen, IfTold, IsAsSeen}
use Rattle.st_three_laws.proofs.RowsTold.{AreAlike, head-same, made-not, nil-not, tail-same}

-- ## Lists side by side

pub zip-join : {A B C : Type 0} (P : A → B → Type 0) (Q : C → B → Type 0) (R : A → C → Type 0) (xs : List A) (ys : List B) (zs : List C) → ((x : A) (y : B) (z : C) → P x y → Q z y → R x z) → AllZip P xs ys → AllZip Q zs ys → AllZip R xs zs
zip-join P Q R [] [] [] k p q = tt
zip-join P Q R [] [] (z ∷ zs) k p q = absurd q
zip-join P Q R [] (y ∷ ys) zs k p q = absurd p
zip-join P Q R (x ∷ xs) [] zs k p q = absurd p
zip-join P Q R (x ∷ xs) (y ∷ ys) [] k p q = absurd q
zip-join P Q R (x ∷ xs) (y ∷ ys) (z ∷ zs) k p q = (k x y z p.0 q.0, zip-join P Q R xs ys zs k p.1 q.1)

pub zip-flip : {A B : Type 0} (P : A → B → Type 0) (xs : List A) (ys : List B) → AllZip P xs ys → AllZip (λ y x. P x y) ys xs
zip-flip P [] [] z = tt
zip-flip P [] (y ∷ ys) z = absurd z
zip-flip P (x ∷ xs) [] z = absurd z
zip-flip P (x ∷ xs) (y ∷ ys) z = (z.0, zip-flip P xs ys z.1)

pub zip-each : {A B : Type 0} (P Q : A → B → Type 0) (xs : List A) (ys : List B) → ((x : A) (y : B) → Has xs x → Has ys y → P x y → Q x y) → AllZip P xs ys → AllZip Q xs ys
zip-each P Q [] [] h z = tt
zip-each P Q [] (y ∷ ys) h z = absurd z
zip-each P Q (x ∷ xs) [] h z = absurd z
zip-each P Q (x ∷ xs) (y ∷ ys) h z = (h x y (inl refl) (inl refl) z.0, zip-each P Q xs ys (λ x y i j. h x y (inr i) (inr j)) z.1)

some-item : {A : Type 0} {x y : A} → Some x ≡ Some y → x ≡ y
some-item {x} {y} e = one_some x y e

pub zip-at : {A B : Type 0} (P : A → B → Type 0) (xs : List A) (ys : List B) (k : ℕ) (x : A) → AllZip P xs ys → slice_get xs k ≡ Some x → (y : B) × (slice_get ys k ≡ Some y) × Has xs x × Has ys y × P x y
zip-at P [] [] k x z e = cc
zip-at P [] (y ∷ ys) k x z e = absurd z
zip-at P (w ∷ xs) [] k x z e = absurd z
zip-at P (w ∷ xs) (y ∷ ys) zero x z e = (y, refl, inl (some-item e), inl refl, subst (λ x. P x y) (some-item e) z.0)
zip-at P (w ∷ xs) (y ∷ ys) (suc k) x z e = let r = zip-at P xs ys k x z.1 e in (r.0, r.1, inr r.2, inr r.3, r.4)

get-has : {A : Type 0} (xs : List A) (k : ℕ) (x : A) → slice_get xs k ≡ Some x → Has xs x
get-has [] k x e = cc
get-has (y ∷ xs) zero x e = inl (some-item e)
get-has (y ∷ xs) (suc k) x e = inr (get-has xs k x e)

pub has-get : {A : Type 0} (xs : List A) (x : A) → Has xs x → (k : ℕ) × (slice_get xs k ≡ Some x)
has-get [] x h = absurd h
has-get (y ∷ xs) x (inl e) = (zero, ap (λ v. Some v) e)
has-get (y ∷ xs) x (inr h) = let r = has-get xs x h in (suc r.0, r.1)

pub one-index : (xs : List Slot) (k l : ℕ) (s t : Slot) → AreDistinct (λ (u : Slot). u.cell) xs → slice_get xs k ≡ Some s → slice_get xs l ≡ Some t → s.cell ≡ t.cell → k ≡ l
one-index [] k l s t o e f same = cc
one-index (u ∷ xs) zero zero s t o e f same = refl
one-index (u ∷ xs) zero (suc l) s t o e f same = absurd (all-has (λ (v : Slot). v.cell ≢ u.cell) xs t o.0 (get-has xs l t f) (sym same ∙ ap (λ (v : Slot). v.cell) (sym (some-item e))))
one-index (u ∷ xs) (suc k) zero s t o e f same = absurd (all-has (λ (v : Slot). v.cell ≢ u.cell) xs s o.0 (get-has xs k s e) (same ∙ ap (λ (v : Slot). v.cell) (sym (some-item f))))
one-index (u ∷ xs) (suc k) (suc l) s t o e f same = ap suc (one-index xs k l s t o.1 e f same)

-- ## Back over a step with the same marks

pub rows-back : (m l : NodeId → Bool) (P Q R : Slot → Slot → Type 0) {c d e f : List Slot} (g : GainsItems SameCell c d) (h : GainsItems SameCell e f) → step_row m g ≡ step_row l h
    → ((s t r q : Slot) → Has c s → Has d t → Has e r → Has f q → SameCell s t → SameCell r q → P s r → Q t q → R s r)
    → AllZip P c e → AllZip Q d f → AllZip R c e
rows-back m l P Q R no_more no_more e k p q = tt
rows-back m l P Q R no_more (item_gained h) e k p q = absurd (nil-not e)
rows-back m l P Q R no_more (item_kept b h) e k p q = absurd (nil-not e)
rows-back m l P Q R (item_gained g) no_more e k p q = absurd (nil-not (sym e))
rows-back m l P Q R (item_kept a g) no_more e k p q = absurd (nil-not (sym e))
rows-back m l P Q R (item_gained g) (item_gained h) e k p q = rows-back m l P Q R g h (tail-same e) (λ s t r v i j o n. k s t r v i (inr j) o (inr n)) p q.1
rows-back m l P Q R (item_gained {y = t} g) (item_kept {x = r} {y = v} b h) e k p q = absurd (made-not l r.cell r.node r.full v.full t.cell t.node t.full (head-same e))
rows-back m l P Q R (item_kept {x = s} {y = t} a g) (item_gained {y = v} h) e k p q = absurd (made-not m s.cell s.node s.full t.full v.cell v.node v.full (sym (head-same e)))
rows-back m l P Q R (item_kept {x = s} {y = t} a g) (item_kept {x = r} {y = v} b h) e k p q = (
  k s t r v (inl refl) (inl refl) (inl refl) (inl refl) a b p.0 q.0,
  rows-back m l P Q R g h (tail-same e) (λ s t r v i j o n. k s t r v (inr i) (inr j) (inr o) (inr n)) p.1 q.1,
)

-- ## Of the cells after a step, those that were there before

abbrev pub pick : List CellMark → List Slot → List Slot
pick [] e = []
pick (m ∷ ms) [] = []
pick (Make c n b ∷ ms) (y ∷ e) = pick ms e
pick (Counted ∷ ms) (y ∷ e) = y ∷ pick ms e
pick (Gap c ∷ ms) (y ∷ e) = y ∷ pick ms e
pick (Touch c n h ∷ ms) (y ∷ e) = y ∷ pick ms e
pick (Fill c n ∷ ms) (y ∷ e) = y ∷ pick ms e

pick-kept : (m : NodeId → Bool) (c : CellId) (n : NodeId) (a b : Bool) (ms : List CellMark) (y : Slot) (e : List Slot) → pick (step_cell m c n a b ∷ ms) (y ∷ e) ≡ y ∷ pick ms e
pick-kept m c n true true ms y e = elim (m n) as (λ v. pick (cond v (Touch c n Stay) Counted ∷ ms) (y ∷ e) ≡ y ∷ pick ms e) [ true ↦ refl | false ↦ refl ]
pick-kept m c n true false ms y e = refl
pick-kept m c n false true ms y e = refl
pick-kept m c n false false ms y e = refl

pub pick-has : (ms : List CellMark) (e : List Slot) (s : Slot) → Has (pick ms e) s → Has e s
pick-has [] e s h = absurd h
pick-has (Make c n b ∷ ms) [] s h = absurd h
pick-has (Counted ∷ ms) [] s h = absurd h
pick-has (Gap c ∷ ms) [] s h = absurd h
pick-has (Touch c n g ∷ ms) [] s h = absurd h
pick-has (Fill c n ∷ ms) [] s h = absurd h
pick-has (Make c n b ∷ ms) (y ∷ e) s h = inr (pick-has ms e s h)
pick-has (Counted ∷ ms) (y ∷ e) s (inl k) = inl k
pick-has (Counted ∷ ms) (y ∷ e) s (inr h) = inr (pick-has ms e s h)
pick-has (Gap c ∷ ms) (y ∷ e) s (inl k) = inl k
pick-has (Gap c ∷ ms) (y ∷ e) s (inr h) = inr (pick-has ms e s h)
pick-has (Touch c n g ∷ ms) (y ∷ e) s (inl k) = inl k
pick-has (Touch c n g ∷ ms) (y ∷ e) s (inr h) = inr (pick-has ms e s h)
pick-has (Fill c n ∷ ms) (y ∷ e) s (inl k) = inl k
pick-has (Fill c n ∷ ms) (y ∷ e) s (inr h) = inr (pick-has ms e s h)

pub pick-once : (ms : List CellMark) (e : List Slot) → AreDistinct (λ (u : Slot). u.cell) e → AreDistinct (λ (u : Slot). u.cell) (pick ms e)
pick-once [] e d = tt
pick-once (Make c n b ∷ ms) [] d = tt
pick-once (Counted ∷ ms) [] d = tt
pick-once (Gap c ∷ ms) [] d = tt
pick-once (Touch c n g ∷ ms) [] d = tt
pick-once (Fill c n ∷ ms) [] d = tt
pick-once (Make c n b ∷ ms) (y ∷ e) d = pick-once ms e d.1
pick-once (Counted ∷ ms) (y ∷ e) d = (has-all (λ (u : Slot). u.cell ≢ y.cell) (pick ms e) (λ u h. all-has (λ (u : Slot). u.cell ≢ y.cell) e u d.0 (pick-has ms e u h)), pick-once ms e d.1)
pick-once (Gap c ∷ ms) (y ∷ e) d = (has-all (λ (u : Slot). u.cell ≢ y.cell) (pick ms e) (λ u h. all-has (λ (u : Slot). u.cell ≢ y.cell) e u d.0 (pick-has ms e u h)), pick-once ms e d.1)
pick-once (Touch c n g ∷ ms) (y ∷ e) d = (has-all (λ (u : Slot). u.cell ≢ y.cell) (pick ms e) (λ u h. all-has (λ (u : Slot). u.cell ≢ y.cell) e u d.0 (pick-has ms e u h)), pick-once ms e d.1)
pick-once (Fill c n ∷ ms) (y ∷ e) d = (has-all (λ (u : Slot). u.cell ≢ y.cell) (pick ms e) (λ u h. all-has (λ (u : Slot). u.cell ≢ y.cell) e u d.0 (pick-has ms e u h)), pick-once ms e d.1)

pub rows-under : (m : NodeId → Bool) (P Q : Slot → Slot → Type 0) {c d : List Slot} (g : GainsItems SameCell c d) (e : List Slot)
    → ((s t y : Slot) → Has c s → Has d t → SameCell s t → P t y → Q s y) → AllZip P d e → AllZip Q c (pick (step_row m g) e)
rows-under m P Q no_more e k z = tt
rows-under m P Q (item_gained g) [] k z = absurd z
rows-under m P Q (item_gained g) (y ∷ e) k z = rows-under m P Q g e (λ s t y i j. k s t y i (inr j)) z.1
rows-under m P Q (item_kept a g) [] k z = absurd z
rows-under m P Q (item_kept {x = s} {y = t} {xs = c} a g) (y ∷ e) k z = subst (AllZip Q (s ∷ c)) (sym (pick-kept m s.cell s.node s.full t.full (step_row m g) y e))
    (k s t y (inl refl) (inl refl) a z.0, rows-under m P Q g e (λ s t y i j. k s t y (inr i) (inr j)) z.1)

-- ## What a step tells of a cell before

-- a view of a cell, which is so; the name is told of an empty cell or of one whose node is named, and the owner where it is named or filled
pub record IsTold (Named Filled : Slot → Type 0) (s : Slot) (x : CellView) : Type 0 where
  pub seen : IsAsSeen s x
  pub cell : (c : CellId) → x.cell ≡ Some c → (s.full ≡ false) ⊎ ((s.full ≡ true) × Named s)
  pub node : (n : NodeId) → x.node ≡ Some n → ((s.full ≡ true) × Named s) ⊎ ((s.full ≡ false) × Filled s)

none-is : {A B : Type 0} {a : A} → None ≡ Some a → B
none-is e = cc

pub told-before : (m : NodeId → Bool) (Filled : Slot → Type 0) {c d : List Slot} (g : GainsItems SameCell c d)
    → ((s t : Slot) → Has d t → SameCell s t → t.full ≡ true → Filled s) → ((s t : Slot) → Has c s → Has d t → SameCell s t → s.full ≡ true → t.full ≡ false → m s.node ≡ true)
    → AllZip (IsTold (λ s. m s.node ≡ true) Filled) c (cells_before (step_row m g))
told-before m Filled no_more q l = tt
told-before m Filled (item_gained g) q l = told-before m Filled g (λ s t i. q s t (inr i)) (λ s t h i. l s t h (inr i))
told-before m Filled (item_kept {x = s} {y = t} {xs = c} same g) q l = go s.full t.full refl refl (told-before m Filled g (λ s t i. q s t (inr i)) (λ s t h i. l s t (inr h) (inr i)))
  where
    go : (a b : Bool) → s.full ≡ a → t.full ≡ b → AllZip (IsTold (λ s. m s.node ≡ true) Filled) c (cells_before (step_row m g)) → AllZip (IsTold (λ s. m s.node ≡ true) Filled) (s ∷ c) (cells_before (step_cell m s.cell s.node a b ∷ step_row m g))
    go true true f k rest = at (m s.node) refl
      where
        at : (v : Bool) → m s.node ≡ v → AllZip (IsTold (λ s. m s.node ≡ true) Filled) (s ∷ c) (cells_before (cond v (Touch s.cell s.node Stay) Counted ∷ step_row m g))
        at true p = (record { seen = (sym f, refl, refl); cell = λ _ _. inr (f, p); node = λ _ _. inl (f, p) }, rest)
        at false p = (record { seen = (sym f, tt, tt); cell = λ _ e. none-is e; node = λ _ e. none-is e }, rest)
    go true false f k rest = let p = l s t (inl refl) (inl refl) same f k in (record { seen = (sym f, refl, refl); cell = λ _ _. inr (f, p); node = λ _ _. inl (f, p) }, rest)
    go false true f k rest = (record { seen = (sym f, refl, refl); cell = λ _ _. inl f; node = λ _ _. inr (f, q s t (inl refl) same k) }, rest)
    go false false f k rest = (record { seen = (sym f, refl, tt); cell = λ _ _. inl f; node = λ _ e. none-is e }, rest)

-- ## Cells of two documents, each of which a step tells of

pub record AreBoth (Named Filled Known Full : Slot → Type 0) (s r : Slot) : Type 0 where
  pub full : s.full ≡ r.full
  pub empty : s.full ≡ false → s.cell ≡ r.cell
  pub named : s.full ≡ true → Named s → Known r → SameCell s r
  pub filled : s.full ≡ false → Filled s → Full r → s.node ≡ r.node

pub alike-both : (Named Filled Known Full : Slot → Type 0) (s e r : Slot) → AreAlike Named Filled s e → AreAlike Known Full r e → AreBoth Named Filled Known Full s r
alike-both Named Filled Known Full s e r p q = record {
  full = same;
  empty = λ f. p.empty f ∙ sym (q.empty (sym same ∙ f));
  named = λ f n k. let v = p.named f n in let w = q.named (sym same ∙ f) k in (v.0 ∙ sym w.0, v.1 ∙ sym w.1);
  filled = λ f n k. p.filled f n ∙ sym (q.filled (sym same ∙ f) k);
}
  where
    same : s.full ≡ r.full
    same = p.full ∙ sym q.full

pub told-is : {A : Type 0} (o : Option A) (k l : A) → o ≡ Some k → IfTold o l → k ≡ l
told-is None k l e h = none-is e
told-is (Some j) k l e h = one_some k j (sym e) ∙ h

same-views : (Named Filled Known Full : Slot → Type 0) (s r : Slot) (x y : CellView) → IsTold Named Filled s x → IsTold Known Full r y → AreBoth Named Filled Known Full s r → IsSameView x y
same-views Named Filled Known Full s r x y p q b = record { full = p.seen.0 ∙ b.full ∙ sym q.seen.0; cell = cells x.cell y.cell refl refl; node = nodes x.node y.node refl refl }
  where
    cells : (o w : Option CellId) → x.cell ≡ o → y.cell ≡ w → SameIfBoth o w
    cells None w e f = tt
    cells (Some c) None e f = tt
    cells (Some c) (Some d) e f = told-is x.cell c s.cell e p.seen.1 ∙ at (p.cell c e) (q.cell d f) ∙ sym (told-is y.cell d r.cell f q.seen.1)
      where
        at : (s.full ≡ false) ⊎ ((s.full ≡ true) × Named s) → (r.full ≡ false) ⊎ ((r.full ≡ true) × Known r) → s.cell ≡ r.cell
        at (inl h) k = b.empty h
        at (inr h) (inl k) = absurd (true-false h.0 (b.full ∙ k))
        at (inr h) (inr k) = (b.named h.0 h.1 k.1).0

    nodes : (o w : Option NodeId) → x.node ≡ o → y.node ≡ w → SameIfBoth o w
    nodes None w e f = tt
    nodes (Some c) None e f = tt
    nodes (Some c) (Some d) e f = told-is x.node c s.node e p.seen.2 ∙ at (p.node c e) (q.node d f) ∙ sym (told-is y.node d r.node f q.seen.2)
      where
        at : ((s.full ≡ true) × Named s) ⊎ ((s.full ≡ false) × Filled s) → ((r.full ≡ true) × Known r) ⊎ ((r.full ≡ false) × Full r) → s.node ≡ r.node
        at (inl h) (inl k) = (b.named h.0 h.1 k.1).1
        at (inl h) (inr k) = absurd (true-false h.0 (b.full ∙ k.0))
        at (inr h) (inl k) = absurd (true-false k.0 (sym b.full ∙ h.0))
        at (inr h) (inr k) = b.filled h.0 h.1 k.1

pub views-same : (Named Filled Known Full : Slot → Type 0) (c e : List Slot) (xs ys : List CellView) → AllZip (IsTold Named Filled) c xs → AllZip (IsTold Known Full) e ys → AllZip (AreBoth Named Filled Known Full) c e → AllZip IsSameView xs ys
views-same Named Filled Known Full [] [] [] [] p q b = tt
views-same Named Filled Known Full [] [] [] (y ∷ ys) p q b = absurd q
views-same Named Filled Known Full [] [] (x ∷ xs) ys p q b = absurd p
views-same Named Filled Known Full [] (r ∷ e) xs ys p q b = absurd b
views-same Named Filled Known Full (s ∷ c) [] xs ys p q b = absurd b
views-same Named Filled Known Full (s ∷ c) (r ∷ e) [] ys p q b = absurd p
views-same Named Filled Known Full (s ∷ c) (r ∷ e) (x ∷ xs) [] p q b = absurd q
views-same Named Filled Known Full (s ∷ c) (r ∷ e) (x ∷ xs) (y ∷ ys) p q b = (same-views Named Filled Known Full s r x y p.0 q.0 b.0, views-same Named Filled Known Full c e xs ys p.1 q.1 b.1)

-- each view is of a cell
pub seen-has : (c : List Slot) (xs : List CellView) (v : CellView) → AreAsSeen c xs → Has xs v → (s : Slot) × Has c s × IsAsSeen s v
seen-has [] [] v z h = absurd h
seen-has [] (x ∷ xs) v z h = absurd z
seen-has (s ∷ c) [] v z h = absurd h
seen-has (s ∷ c) (x ∷ xs) v z (inl e) = (s, inl refl, subst (IsAsSeen s) e z.0)
seen-has (s ∷ c) (x ∷ xs) v z (inr h) = let r = seen-has c xs v z.1 h in (r.0, inr r.1, r.2)
