-- One row that the second of two parts sees, pulled back before the first.
use Rattle.std.proofs.Common.{◌≡◌, ◌≢◌, ◌≤◌, ◌++◌, ℕ, zero, suc, Bool, true, false, List, [], ◌∷◌, map, length, slice_get, Option, Some, None, cond, refl, sym, ap, ◌∙◌, subst, inl, inr, arith}
use Rattle.std.specs.List.{AllZip, filter, flat_map}
use Rattle.st_ids.specs.Listing.{AreDistinct, Has}
use Rattle.st_ids.specs.declared.names.CellId.{CellId}
use Rattle.st_ids.specs.declared.names.NodeId.{NodeId}
use Rattle.st_marks.specs.declared.marks.How.TheVariants.{Stay}
use Rattle.st_marks.specs.declared.places.Slot.{Slot}
use Rattle.st_marks.specs.Agree.{IsSameView, SameIfBoth}
use Rattle.st_marks.specs.Extends.{GainsItems, no_more, item_gained, item_kept}
use Rattle.st_marks.specs.Listings.{CellView, cell_view, cells_after, cells_before, counted_view, empty_view, nodes_standing, one_or_none}
use Rattle.st_marks.specs.Row.{CellMark, Counted, Gap, Touch, Make, Fill, SameCell, step_cell, step_row}
use Rattle.st_marks.proofs.Members.{all-has, has-all, has-append}
use Rattle.st_puts.specs.Seen.{AreAsSeen, IfTold, IsAsSeen}
use Rattle.st_puts.proofs.Basics.{one-is}
use Rattle.st_normal_laws.specs.Seed.{cells_named}
use Rattle.st_part_pair_laws.specs.inside.PartBack.{back_cells}

-- ## Parts of lists

-- some items of a list, in its order
abbrev pub IsPartOf : {A : Type 0} → List A → List A → Type 0
IsPartOf {A} xs ys = GainsItems (λ (a b : A). a ≡ b) xs ys

pub part-has : {A : Type 0} {xs ys : List A} → IsPartOf xs ys → (a : A) → Has xs a → Has ys a
part-has no_more a h = absurd h
part-has (item_gained g) a h = inr (part-has g a h)
part-has (item_kept e g) a (inl q) = inl (sym e ∙ q)
part-has (item_kept e g) a (inr h) = inr (part-has g a h)

pub part-once : {A : Type 0} {xs ys : List A} → IsPartOf xs ys → AreDistinct (λ (a : A). a) ys → AreDistinct (λ (a : A). a) xs
part-once no_more d = tt
part-once (item_gained g) d = part-once g d.1
part-once (item_kept {x = x} {y = y} {xs = xs} {ys = ys} e g) d = (has-all (λ z. z ≢ x) xs (λ z h q. all-has (λ z. z ≢ y) ys z d.0 (part-has g z h) (q ∙ e)), part-once g d.1)

part-more : {A : Type 0} (zs : List A) {xs ys : List A} → IsPartOf xs ys → IsPartOf xs (zs ++ ys)
part-more [] g = g
part-more (z ∷ zs) g = item_gained (part-more zs g)

part-both : {A : Type 0} (zs : List A) {xs ys : List A} → IsPartOf xs ys → IsPartOf (zs ++ xs) (zs ++ ys)
part-both [] g = g
part-both (z ∷ zs) g = item_kept refl (part-both zs g)

pub part-itself : {A : Type 0} (xs : List A) → IsPartOf xs xs
part-itself [] = no_more
part-itself (x ∷ xs) = item_kept refl (part-itself xs)

pub part-append : {A : Type 0} {xs ys us vs : List A} → IsPartOf xs ys → IsPartOf us vs → IsPartOf (xs ++ us) (ys ++ vs)
part-append no_more k = k
part-append (item_gained g) k = item_gained (part-append g k)
part-append (item_kept e g) k = item_kept e (part-append g k)

pub part-sifted : {A B C : Type 0} (p : A → Bool) (f : B → List C) (g : A → B) (xs : List A) → IsPartOf (flat_map f (map g (filter p xs))) (flat_map f (map g xs))
part-sifted p f g [] = no_more
part-sifted p f g (x ∷ xs) = elim (p x) as (λ b. IsPartOf (flat_map f (map g (cond b (x ∷ filter p xs) (filter p xs)))) (flat_map f (map g (x ∷ xs)))) [
  | true ↦ part-both (f (g x)) (part-sifted p f g xs)
  | false ↦ part-more (f (g x)) (part-sifted p f g xs)
]

-- ## What is pulled back is a part of what is seen

pub back-nodes : (xs : List CellMark) (ys : List CellView) → IsPartOf (nodes_standing (back_cells xs ys)) (nodes_standing ys)
back-nodes [] [] = no_more
back-nodes [] (y ∷ ys) = part-more (cond y.full (one_or_none y.node) []) (back-nodes [] ys)
back-nodes (x ∷ xs) [] = no_more
back-nodes (Counted ∷ xs) (y ∷ ys) = part-both (cond y.full (one_or_none y.node) []) (back-nodes xs ys)
back-nodes (Gap c ∷ xs) (y ∷ ys) = part-more (cond y.full (one_or_none y.node) []) (back-nodes xs ys)
back-nodes (Touch c n h ∷ xs) (y ∷ ys) = part-more (cond y.full (one_or_none y.node) []) (back-nodes xs ys)
back-nodes (Make c n b ∷ xs) (y ∷ ys) = part-more (cond y.full (one_or_none y.node) []) (back-nodes xs ys)
back-nodes (Fill c n ∷ xs) (y ∷ ys) = part-more (cond y.full (one_or_none y.node) []) (back-nodes xs ys)

pub back-cells : (xs : List CellMark) (ys : List CellView) → IsPartOf (cells_named (back_cells xs ys)) (cells_named ys)
back-cells [] [] = no_more
back-cells [] (y ∷ ys) = part-more (one_or_none y.cell) (back-cells [] ys)
back-cells (x ∷ xs) [] = no_more
back-cells (Counted ∷ xs) (y ∷ ys) = part-both (one_or_none y.cell) (back-cells xs ys)
back-cells (Gap c ∷ xs) (y ∷ ys) = part-more (one_or_none y.cell) (back-cells xs ys)
back-cells (Touch c n h ∷ xs) (y ∷ ys) = part-more (one_or_none y.cell) (back-cells xs ys)
back-cells (Make c n b ∷ xs) (y ∷ ys) = part-more (one_or_none y.cell) (back-cells xs ys)
back-cells (Fill c n ∷ xs) (y ∷ ys) = part-more (one_or_none y.cell) (back-cells xs ys)

pub back-length : (xs : List CellMark) (ys : List CellView) → length (back_cells xs ys) ≤ length ys
back-length [] ys = omega arith
back-length (x ∷ xs) [] = omega arith
back-length (Counted ∷ xs) (y ∷ ys) = omega (arith, back-length xs ys)
back-length (Gap c ∷ xs) (y ∷ ys) = omega (arith, back-length xs ys)
back-length (Touch c n h ∷ xs) (y ∷ ys) = omega (arith, back-length xs ys)
back-length (Make c n b ∷ xs) (y ∷ ys) = omega (arith, back-length xs ys)
back-length (Fill c n ∷ xs) (y ∷ ys) = omega (arith, back-length xs ys)

not-empty : {x : CellView} {xs : List CellView} → x ∷ xs ≡ [] → ⊥
not-empty e = cc

-- of a row of which nothing is found, nothing is pulled back
pub back-none : (xs : List CellMark) (ys : List CellView) (v : CellView) → cells_before xs ≡ [] → Has (back_cells xs ys) v → ⊥
back-none [] ys v e h = h
back-none (x ∷ xs) [] v e h = h
back-none (Counted ∷ xs) (y ∷ ys) v e h = not-empty e
back-none (Gap c ∷ xs) (y ∷ ys) v e h = not-empty e
back-none (Touch c n g ∷ xs) (y ∷ ys) v e h = not-empty e
back-none (Make c n b ∷ xs) (y ∷ ys) v e h = back-none xs ys v e h
back-none (Fill c n ∷ xs) (y ∷ ys) v e h = not-empty e

-- nor of one of which nothing is seen
pub back-some : (xs : List CellMark) (ys : List CellView) (v : CellView) → Has (back_cells xs ys) v → (y : CellView) × Has ys y
back-some [] ys v h = absurd h
back-some (x ∷ xs) [] v h = absurd h
back-some (x ∷ xs) (y ∷ ys) v h = (y, inl refl)

-- ## It agrees with what the first finds

pub back-same : (xs : List CellMark) (ys : List CellView) → AllZip IsSameView (cells_after xs) ys → AllZip IsSameView (cells_before xs) (back_cells xs ys)
back-same [] ys z = tt
back-same (Counted ∷ xs) [] z = absurd z
back-same (Counted ∷ xs) (y ∷ ys) z = (z.0, back-same xs ys z.1)
back-same (Gap c ∷ xs) [] z = absurd z
back-same (Gap c ∷ xs) (y ∷ ys) z = (record { full = refl; cell = tt; node = tt }, back-same xs ys z.1)
back-same (Touch c n h ∷ xs) [] z = absurd z
back-same (Touch c n h ∷ xs) (y ∷ ys) z = (record { full = refl; cell = tt; node = tt }, back-same xs ys z.1)
back-same (Make c n b ∷ xs) [] z = absurd z
back-same (Make c n b ∷ xs) (y ∷ ys) z = back-same xs ys z.1
back-same (Fill c n ∷ xs) [] z = absurd z
back-same (Fill c n ∷ xs) (y ∷ ys) z = (record { full = refl; cell = tt; node = tt }, back-same xs ys z.1)

-- ## Where it tells something, the first tells nothing

-- at a place of the row the first leaves a cell whose names it doesn't tell, and the second sees this of it
abbrev pub IsSeenCounted : List CellMark → List CellView → (CellView → Type 0) → Type 0
IsSeenCounted xs ys P = (k : ℕ) × (y : CellView) × (slice_get (cells_after xs) k ≡ Some counted_view) × (slice_get ys k ≡ Some y) × P y

pub back-named : (xs : List CellMark) (ys : List CellView) (c : CellId) → Has (cells_named (back_cells xs ys)) c → IsSeenCounted xs ys (λ y. y.cell ≡ Some c)
back-named [] ys c h = absurd h
back-named (x ∷ xs) [] c h = absurd h
back-named (Counted ∷ xs) (y ∷ ys) c h = elim (has-append (one_or_none y.cell) (cells_named (back_cells xs ys)) c h) [
  | inl i ↦ (zero, y, refl, refl, one-is y.cell c i)
  | inr i ↦ (let r = back-named xs ys c i in (suc r.0, r.1, r.2, r.3, r.4))
]
back-named (Gap d ∷ xs) (y ∷ ys) c h = let r = back-named xs ys c h in (suc r.0, r.1, r.2, r.3, r.4)
back-named (Touch d n g ∷ xs) (y ∷ ys) c h = let r = back-named xs ys c h in (suc r.0, r.1, r.2, r.3, r.4)
back-named (Make d n b ∷ xs) (y ∷ ys) c h = let r = back-named xs ys c h in (suc r.0, r.1, r.2, r.3, r.4)
back-named (Fill d n ∷ xs) (y ∷ ys) c h = let r = back-named xs ys c h in (suc r.0, r.1, r.2, r.3, r.4)

none-some : {n : NodeId} → None ≡ Some n → ⊥
none-some e = cc

false-true : false ≡ true → ⊥
false-true e = cc

-- at a place of the row the first leaves a cell whose owner it doesn't tell, and the second tells that it is this one
abbrev pub IsOwnerOpen : List CellMark → List CellView → NodeId → (CellView → Type 0) → Type 0
IsOwnerOpen xs ys n P = (k : ℕ) × (w : CellView) × (y : CellView) × (slice_get (cells_after xs) k ≡ Some w) × (w.node ≡ None) × (slice_get ys k ≡ Some y) × (y.node ≡ Some n) × P y

pub back-told : (xs : List CellMark) (ys : List CellView) (v : CellView) (n : NodeId) → Has (back_cells xs ys) v → v.node ≡ Some n → IsOwnerOpen xs ys n (λ y. v.full ≡ true → y.full ≡ true)
back-told [] ys v n h e = absurd h
back-told (x ∷ xs) [] v n h e = absurd h
back-told (Counted ∷ xs) (y ∷ ys) v n (inl q) e = (zero, counted_view, y, refl, refl, refl, ap (λ (x : CellView). x.node) q ∙ e, λ f. ap (λ (x : CellView). x.full) q ∙ f)
back-told (Counted ∷ xs) (y ∷ ys) v n (inr h) e = let r = back-told xs ys v n h e in (suc r.0, r.1, r.2, r.3, r.4, r.5, r.6, r.7)
back-told (Gap c ∷ xs) (y ∷ ys) v n (inl q) e = (zero, empty_view c, y, refl, refl, refl, ap (λ (x : CellView). x.node) q ∙ e, λ f. absurd (false-true (ap (λ (x : CellView). x.full) q ∙ f)))
back-told (Gap c ∷ xs) (y ∷ ys) v n (inr h) e = let r = back-told xs ys v n h e in (suc r.0, r.1, r.2, r.3, r.4, r.5, r.6, r.7)
back-told (Touch c m g ∷ xs) (y ∷ ys) v n (inl q) e = absurd (none-some (ap (λ (x : CellView). x.node) q ∙ e))
back-told (Touch c m g ∷ xs) (y ∷ ys) v n (inr h) e = let r = back-told xs ys v n h e in (suc r.0, r.1, r.2, r.3, r.4, r.5, r.6, r.7)
back-told (Make c m b ∷ xs) (y ∷ ys) v n h e = let r = back-told xs ys v n h e in (suc r.0, r.1, r.2, r.3, r.4, r.5, r.6, r.7)
back-told (Fill c m ∷ xs) (y ∷ ys) v n (inl q) e = absurd (none-some (ap (λ (x : CellView). x.node) q ∙ e))
back-told (Fill c m ∷ xs) (y ∷ ys) v n (inr h) e = let r = back-told xs ys v n h e in (suc r.0, r.1, r.2, r.3, r.4, r.5, r.6, r.7)

-- ## After the first the row is as the second sees it

told-same : {A : Type 0} (a : A) (o : Option A) → SameIfBoth (Some a) o → IfTold o a
told-same a None h = tt
told-same a (Some b) h = sym h

view-seen : (t : Slot) (y : CellView) (c : CellId) (n : NodeId) (b : Bool) → c ≡ t.cell → n ≡ t.node → t.full ≡ b → IsSameView (cell_view c n b) y → IsAsSeen t y
view-seen t y c n b e f g z = (sym z.full ∙ sym g, subst (IfTold y.cell) e (told-same c y.cell z.cell), subst (IfTold y.node) f (told-same n y.node z.node))

pub later-seen : (m : NodeId → Bool) {c d : List Slot} (g : GainsItems SameCell c d) (ys : List CellView)
    → AreAsSeen c (back_cells (step_row m g) ys) → AllZip IsSameView (cells_after (step_row m g)) ys → AreAsSeen d ys
later-seen m no_more [] h z = tt
later-seen m no_more (y ∷ ys) h z = absurd z
later-seen m (item_gained {y = t} g) [] h z = absurd z
later-seen m (item_gained {y = t} g) (y ∷ ys) h z = (view-seen t y t.cell t.node t.full refl refl refl z.0, later-seen m g ys h z.1)
later-seen m (item_kept {x = s} {y = t} {xs = c} {ys = d} same g) ys h z = go s.full t.full refl refl ys h z (λ ys h z. later-seen m g ys h z)
  where
    go : (a b : Bool) → s.full ≡ a → t.full ≡ b → (ys : List CellView)
        → AreAsSeen (s ∷ c) (back_cells (step_cell m s.cell s.node a b ∷ step_row m g) ys) → AllZip IsSameView (cells_after (step_cell m s.cell s.node a b ∷ step_row m g)) ys
        → ((ys : List CellView) → AreAsSeen c (back_cells (step_row m g) ys) → AllZip IsSameView (cells_after (step_row m g)) ys → AreAsSeen d ys) → AreAsSeen (t ∷ d) ys
    go true true e f ys h z rest = at (m s.node) ys h z
      where
        at : (b : Bool) (ys : List CellView) → AreAsSeen (s ∷ c) (back_cells (cond b (Touch s.cell s.node Stay) Counted ∷ step_row m g) ys)
            → AllZip IsSameView (cells_after (cond b (Touch s.cell s.node Stay) Counted ∷ step_row m g)) ys → AreAsSeen (t ∷ d) ys
        at true [] h z = absurd z
        at true (y ∷ ys) h z = (view-seen t y s.cell s.node true same.0 same.1 f z.0, rest ys h.1 z.1)
        at false [] h z = absurd z
        at false (y ∷ ys) h z = ((h.0.0 ∙ e ∙ sym f, subst (IfTold y.cell) same.0 h.0.1, subst (IfTold y.node) same.1 h.0.2), rest ys h.1 z.1)
    go true false e f [] h z rest = absurd z
    go true false e f (y ∷ ys) h z rest = (view-seen t y s.cell s.node false same.0 same.1 f z.0, rest ys h.1 z.1)
    go false true e f [] h z rest = absurd z
    go false true e f (y ∷ ys) h z rest = (view-seen t y s.cell s.node true same.0 same.1 f z.0, rest ys h.1 z.1)
    go false false e f [] h z rest = absurd z
    go false false e f (y ∷ ys) h z rest = ((sym z.0.full ∙ sym f, subst (IfTold y.cell) same.0 (told-same s.cell y.cell z.0.cell), subst (IfTold y.node) same.1 h.0.2), rest ys h.1 z.1)
