-- The cells and nodes that listings name, mark by mark, and the first that is named apart.
use Rattle.std.proofs.Common.{◌≡◌, ◌≢◌, ◌⊎◌, inl, inr, ◌+◌, ◌<◌, ◌≤◌, ◌==◌, min, ℕ, zero, suc, Bool, true, false, ◌&&◌, not, List, [], ◌∷◌, ◌++◌, Option, Some, None, cond, length, take, drop, get_or, refl, sym, ap, ◌∙◌, arith, subst}
use Rattle.std.specs.Option.{option_or, option_map_or}
use Rattle.std.proofs.lemmas.Bool.Decides.{nat_tests}
use Rattle.std.proofs.lemmas.List.{take_more, get_or_default, take-append-drop}
use Rattle.st_ids.specs.Listing.{Has}
use Rattle.st_ids.specs.Order.{same_cell, lesser}
use Rattle.st_ids.proofs.Orders.{same_cell-itself, same_cell-true}
use Rattle.st_ids.specs.declared.names.Atom.{Atom}
use Rattle.st_ids.specs.declared.names.CellId.{CellId}
use Rattle.st_marks.proofs.MarkLengths.{spread-append, before_more, after_more, after-append as cells_after-append, before-append as cells_before-append}
use Rattle.st_marks.specs.declared.marks.Mark.{Mark}
use Rattle.st_marks.specs.declared.places.Slot.{Slot}
use Rattle.st_marks.specs.Row.{CellMark, Counted, Gap, Touch, Make, Fill, counted_cells, spread}
use Rattle.st_marks.specs.Listings.{CellView, cells_after, cells_before, cell_view}
use Rattle.st_rows.specs.Views.{row_views}
use Rattle.st_seq.specs.NamedApart.{stands_at, standing_at, found_at, made_at, named_before, named_after, named_in_row, first_named, same_atom, CantBoth, NamedApart, named_apart}
use Rattle.st_seq.specs.inside.NamedApart.{clash_with, first_clash, IsPlace}
use Rattle.st_seq.specs.declared.name_clashes.NamedAt.{NamedAt}
use Rattle.st_rows.proofs.MarkByMark.{more_cells}

-- ## Marks one after another

pub none_left : (n : ℕ) → n ≡ 0 + n
none_left n = omega arith

pub moved_on : (k n : ℕ) → suc k + n ≡ k + suc n
moved_on k n = omega arith

named_before-append : (k : ℕ) (xs ys : List CellMark) → named_before k (xs ++ ys) ≡ named_before k xs ++ named_before (k + length (cells_before xs)) ys
named_before-append k [] ys = ap (λ j. named_before j ys) (omega arith)
named_before-append k (Counted ∷ xs) ys = named_before-append (suc k) xs ys ∙ ap (λ j. named_before (suc k) xs ++ named_before j ys) (moved_on k (length (cells_before xs)))
named_before-append k (Gap c ∷ xs) ys = ap (λ l. found_at c.0 k ∷ l) (named_before-append (suc k) xs ys ∙ ap (λ j. named_before (suc k) xs ++ named_before j ys) (moved_on k (length (cells_before xs))))
named_before-append k (Touch c n h ∷ xs) ys = ap (λ l. found_at c.0 k ∷ l) (named_before-append (suc k) xs ys ∙ ap (λ j. named_before (suc k) xs ++ named_before j ys) (moved_on k (length (cells_before xs))))
named_before-append k (Make c n b ∷ xs) ys = ap (λ l. made_at c.0 k ∷ l) (named_before-append k xs ys)
named_before-append k (Fill c n ∷ xs) ys = ap (λ l. found_at c.0 k ∷ l) (named_before-append (suc k) xs ys ∙ ap (λ j. named_before (suc k) xs ++ named_before j ys) (moved_on k (length (cells_before xs))))

named_after-append : (k : ℕ) (xs ys : List CellMark) → named_after k (xs ++ ys) ≡ named_after k xs ++ named_after (k + length (cells_after xs)) ys
named_after-append k [] ys = ap (λ j. named_after j ys) (omega arith)
named_after-append k (Counted ∷ xs) ys = named_after-append (suc k) xs ys ∙ ap (λ j. named_after (suc k) xs ++ named_after j ys) (moved_on k (length (cells_after xs)))
named_after-append k (Gap c ∷ xs) ys = ap (λ l. found_at c.0 k ∷ l) (named_after-append (suc k) xs ys ∙ ap (λ j. named_after (suc k) xs ++ named_after j ys) (moved_on k (length (cells_after xs))))
named_after-append k (Touch c n h ∷ xs) ys = ap (λ l. found_at c.0 k ∷ l) (named_after-append (suc k) xs ys ∙ ap (λ j. named_after (suc k) xs ++ named_after j ys) (moved_on k (length (cells_after xs))))
named_after-append k (Make c n b ∷ xs) ys = ap (λ l. found_at c.0 k ∷ l) (named_after-append (suc k) xs ys ∙ ap (λ j. named_after (suc k) xs ++ named_after j ys) (moved_on k (length (cells_after xs))))
named_after-append k (Fill c n ∷ xs) ys = ap (λ l. found_at c.0 k ∷ l) (named_after-append (suc k) xs ys ∙ ap (λ j. named_after (suc k) xs ++ named_after j ys) (moved_on k (length (cells_after xs))))

named_in_row-append : (k : ℕ) (c d : List Slot) → named_in_row k (c ++ d) ≡ named_in_row k c ++ named_in_row (k + length c) d
named_in_row-append k [] d = ap (λ j. named_in_row j d) (omega arith)
named_in_row-append k (s ∷ c) d = ap (λ l. found_at s.cell.0 k ∷ l) (named_in_row-append (suc k) c d ∙ ap (λ j. named_in_row (suc k) c ++ named_in_row j d) (moved_on k (length c)))

-- counted cells have no names
pub counted-before : (j k : ℕ) → named_before k (counted_cells j []) ≡ []
counted-before zero k = refl
counted-before (suc j) k = counted-before j (suc k)

pub counted-after : (j k : ℕ) → named_after k (counted_cells j []) ≡ []
counted-after zero k = refl
counted-after (suc j) k = counted-after j (suc k)

pub before_on : (ms : List Mark) (i left : ℕ) (d : Mark) (out new one : List NamedAt) → i < length ms → out ≡ named_before 0 (spread (take i ms)) → left ≡ length (cells_before (spread (take i ms)))
    → named_before left (spread (get_or ms i d ∷ [])) ≡ one → new ≡ out ++ one → new ≡ named_before 0 (spread (take (i + 1) ms))
before_on ms i left d out new one l o a e n =
    n ∙ (λ j. o j ++ sym e j) ∙ ap (λ k. named_before 0 (spread (take i ms)) ++ named_before k (spread (get_or ms i d ∷ []))) (a ∙ none_left (length (cells_before (spread (take i ms)))))
    ∙ sym (named_before-append 0 (spread (take i ms)) (spread (get_or ms i d ∷ [])))
    ∙ ap (named_before 0) (sym (more_cells ms i (get_or ms i d) l (get_or_default ms i (get_or ms i d) d l)))

pub after_on : (ms : List Mark) (i left : ℕ) (d : Mark) (out new one : List NamedAt) → i < length ms → out ≡ named_after 0 (spread (take i ms)) → left ≡ length (cells_after (spread (take i ms)))
    → named_after left (spread (get_or ms i d ∷ [])) ≡ one → new ≡ out ++ one → new ≡ named_after 0 (spread (take (i + 1) ms))
after_on ms i left d out new one l o a e n =
    n ∙ (λ j. o j ++ sym e j) ∙ ap (λ k. named_after 0 (spread (take i ms)) ++ named_after k (spread (get_or ms i d ∷ []))) (a ∙ none_left (length (cells_after (spread (take i ms)))))
    ∙ sym (named_after-append 0 (spread (take i ms)) (spread (get_or ms i d ∷ [])))
    ∙ ap (named_after 0) (sym (more_cells ms i (get_or ms i d) l (get_or_default ms i (get_or ms i d) d l)))

taken : (c : List Slot) (i : ℕ) → i < length c → length (take i c) ≡ i
taken [] i l = absurd (omega (arith, l))
taken (s ∷ c) zero l = refl
taken (s ∷ c) (suc i) l = ap suc (taken c i (omega (arith, l)))

pub row_on : (c : List Slot) (i left : ℕ) (d : Slot) (out new : List NamedAt) → i < length c → out ≡ named_in_row 0 (take i c) → left ≡ i → new ≡ out ++ found_at (get_or c i d).cell.0 left ∷ [] → new ≡ named_in_row 0 (take (i + 1) c)
row_on c i left d out new l o a n =
    let more : take (i + 1) c ≡ take i c ++ get_or c i d ∷ [] = take_more c i (get_or c i d) l ∙ ap (λ y. take i c ++ y ∷ []) (get_or_default c i (get_or c i d) d l) in
    n ∙ (λ j. o j ++ found_at (get_or c i d).cell.0 (a j) ∷ [])
    ∙ ap (λ k. named_in_row 0 (take i c) ++ found_at (get_or c i d).cell.0 k ∷ []) (sym (taken c i l) ∙ none_left (length (take i c)))
    ∙ sym (named_in_row-append 0 (take i c) (get_or c i d ∷ []))
    ∙ ap (named_in_row 0) (sym more)

pub left_before : (ms : List Mark) (i left one : ℕ) (d : Mark) → i < length ms → left ≡ length (cells_before (spread (take i ms))) → one ≡ length (cells_before (spread (get_or ms i d ∷ []))) → left + one ≡ length (cells_before (spread (take (i + 1) ms)))
left_before ms i left one d l a e = (λ j. a j + e j) ∙ sym (before_more ms i (get_or ms i d) l (get_or_default ms i (get_or ms i d) d l))

pub left_after : (ms : List Mark) (i left one : ℕ) (d : Mark) → i < length ms → left ≡ length (cells_after (spread (take i ms))) → one ≡ length (cells_after (spread (get_or ms i d ∷ []))) → left + one ≡ length (cells_after (spread (take (i + 1) ms)))
left_after ms i left one d l a e = (λ j. a j + e j) ∙ sym (after_more ms i (get_or ms i d) l (get_or_default ms i (get_or ms i d) d l))

-- marks in front list no more than all
one_more_left : (a b c : ℕ) → a ≡ b + c → suc a ≡ suc b + c
one_more_left a b c e = omega (arith, e)

before-append : (xs ys : List CellMark) → length (cells_before (xs ++ ys)) ≡ length (cells_before xs) + length (cells_before ys)
before-append [] ys = none_left (length (cells_before ys))
before-append (Counted ∷ xs) ys = one_more_left _ _ _ (before-append xs ys)
before-append (Gap c ∷ xs) ys = one_more_left _ _ _ (before-append xs ys)
before-append (Touch c n h ∷ xs) ys = one_more_left _ _ _ (before-append xs ys)
before-append (Make c n b ∷ xs) ys = before-append xs ys
before-append (Fill c n ∷ xs) ys = one_more_left _ _ _ (before-append xs ys)

after-append : (xs ys : List CellMark) → length (cells_after (xs ++ ys)) ≡ length (cells_after xs) + length (cells_after ys)
after-append [] ys = none_left (length (cells_after ys))
after-append (Counted ∷ xs) ys = one_more_left _ _ _ (after-append xs ys)
after-append (Gap c ∷ xs) ys = one_more_left _ _ _ (after-append xs ys)
after-append (Touch c n h ∷ xs) ys = one_more_left _ _ _ (after-append xs ys)
after-append (Make c n b ∷ xs) ys = one_more_left _ _ _ (after-append xs ys)
after-append (Fill c n ∷ xs) ys = one_more_left _ _ _ (after-append xs ys)

pub front_before : (ms : List Mark) (i most : ℕ) → length (cells_before (spread ms)) < most → length (cells_before (spread (take i ms))) < most
front_before ms i most h =
    let e : length (cells_before (spread ms)) ≡ length (cells_before (spread (take i ms))) + length (cells_before (spread (drop i ms))) =
    ap (λ l. length (cells_before (spread l))) (sym (take-append-drop i ms)) ∙ ap (λ l. length (cells_before l)) (spread-append (take i ms) (drop i ms)) ∙ before-append (spread (take i ms)) (spread (drop i ms)) in
    omega (arith, e, h)

pub front_after : (ms : List Mark) (i most : ℕ) → length (cells_after (spread ms)) < most → length (cells_after (spread (take i ms))) < most
front_after ms i most h =
    let e : length (cells_after (spread ms)) ≡ length (cells_after (spread (take i ms))) + length (cells_after (spread (drop i ms))) =
    ap (λ l. length (cells_after (spread l))) (sym (take-append-drop i ms)) ∙ ap (λ l. length (cells_after l)) (spread-append (take i ms) (drop i ms)) ∙ after-append (spread (take i ms)) (spread (drop i ms)) in
    omega (arith, e, h)

-- ## Nodes that stand

both_lists : (xs ys zs : List NamedAt) → (xs ++ ys) ++ zs ≡ xs ++ (ys ++ zs)
both_lists [] ys zs = refl
both_lists (x ∷ xs) ys zs = ap (λ l. x ∷ l) (both_lists xs ys zs)

pub with_none : (xs : List NamedAt) → xs ++ [] ≡ xs
with_none [] = refl
with_none (x ∷ xs) = ap (λ l. x ∷ l) (with_none xs)

standing_at-append : (k : ℕ) (X Y : List CellView) → standing_at k (X ++ Y) ≡ standing_at k X ++ standing_at (k + length X) Y
standing_at-append k [] Y = ap (λ j. standing_at j Y) (omega arith)
standing_at-append k (s ∷ X) Y =
    ap (λ l. stands_at s.full s.node k ++ l) (standing_at-append (suc k) X Y ∙ ap (λ j. standing_at (suc k) X ++ standing_at j Y) (moved_on k (length X)))
    ∙ sym (both_lists (stands_at s.full s.node k) (standing_at (suc k) X) (standing_at (k + suc (length X)) Y))

-- counted cells name no node
pub counted-standing_before : (j k : ℕ) → standing_at k (cells_before (counted_cells j [])) ≡ []
counted-standing_before zero k = refl
counted-standing_before (suc j) k = counted-standing_before j (suc k)

pub counted-standing_after : (j k : ℕ) → standing_at k (cells_after (counted_cells j [])) ≡ []
counted-standing_after zero k = refl
counted-standing_after (suc j) k = counted-standing_after j (suc k)

standing_on : (X Y : List CellView) (left : ℕ) (out new one : List NamedAt) → out ≡ standing_at 0 X → left ≡ length X → standing_at left Y ≡ one → new ≡ out ++ one → new ≡ standing_at 0 (X ++ Y)
standing_on X Y left out new one o a e n =
    n ∙ (λ j. o j ++ sym e j) ∙ ap (λ k. standing_at 0 X ++ standing_at k Y) (a ∙ none_left (length X)) ∙ sym (standing_at-append 0 X Y)

pub standing_before_on : (ms : List Mark) (i left : ℕ) (d : Mark) (out new one : List NamedAt) → i < length ms → out ≡ standing_at 0 (cells_before (spread (take i ms))) → left ≡ length (cells_before (spread (take i ms)))
    → standing_at left (cells_before (spread (get_or ms i d ∷ []))) ≡ one → new ≡ out ++ one → new ≡ standing_at 0 (cells_before (spread (take (i + 1) ms)))
standing_before_on ms i left d out new one l o a e n =
    standing_on (cells_before (spread (take i ms))) (cells_before (spread (get_or ms i d ∷ []))) left out new one o a e n
    ∙ ap (standing_at 0) (sym (cells_before-append (spread (take i ms)) (spread (get_or ms i d ∷ []))) ∙ ap cells_before (sym (more_cells ms i (get_or ms i d) l (get_or_default ms i (get_or ms i d) d l))))

pub standing_after_on : (ms : List Mark) (i left : ℕ) (d : Mark) (out new one : List NamedAt) → i < length ms → out ≡ standing_at 0 (cells_after (spread (take i ms))) → left ≡ length (cells_after (spread (take i ms)))
    → standing_at left (cells_after (spread (get_or ms i d ∷ []))) ≡ one → new ≡ out ++ one → new ≡ standing_at 0 (cells_after (spread (take (i + 1) ms)))
standing_after_on ms i left d out new one l o a e n =
    standing_on (cells_after (spread (take i ms))) (cells_after (spread (get_or ms i d ∷ []))) left out new one o a e n
    ∙ ap (standing_at 0) (sym (cells_after-append (spread (take i ms)) (spread (get_or ms i d ∷ []))) ∙ ap cells_after (sym (more_cells ms i (get_or ms i d) l (get_or_default ms i (get_or ms i d) d l))))

row_seen-append : (c d : List Slot) → row_views (c ++ d) ≡ row_views c ++ row_views d
row_seen-append [] d = refl
row_seen-append (s ∷ c) d = ap (λ l. cell_view s.cell s.node s.full ∷ l) (row_seen-append c d)

row_seen_length : (c : List Slot) → length (row_views c) ≡ length c
row_seen_length [] = refl
row_seen_length (s ∷ c) = ap suc (row_seen_length c)

pub standing_row_on : (c : List Slot) (i left : ℕ) (d : Slot) (out new one : List NamedAt) → i < length c → out ≡ standing_at 0 (row_views (take i c)) → left ≡ i → standing_at left (row_views (get_or c i d ∷ [])) ≡ one → new ≡ out ++ one
    → new ≡ standing_at 0 (row_views (take (i + 1) c))
standing_row_on c i left d out new one l o a e n =
    standing_on (row_views (take i c)) (row_views (get_or c i d ∷ [])) left out new one o (a ∙ sym (taken c i l) ∙ sym (row_seen_length (take i c))) e n
    ∙ ap (standing_at 0) (sym (row_seen-append (take i c) (get_or c i d ∷ [])) ∙ ap row_views (sym (take_more c i (get_or c i d) l ∙ ap (λ y. take i c ++ y ∷ []) (get_or_default c i (get_or c i d) d l))))

-- ## By name

pub same_atom-itself : (a : Atom) → same_atom a a ≡ true
unfolding same_atom same_cell
same_atom-itself a = same_cell-itself (record { 0 = a })

pub same_atom-true : (a b : Atom) → same_atom a b ≡ true → a ≡ b
unfolding same_atom same_cell
same_atom-true a b e = ap (λ (c : CellId). c.0) (same_cell-true (record { 0 = a }) (record { 0 = b }) e)

pub kept_new : (o : Option NamedAt) (e : NamedAt) (a : Atom) → (e.name ≡ a → o ≡ None) → cond (same_atom e.name a) (Some e) o ≡ option_or o (cond (same_atom e.name a) (Some e) None)
kept_new o e a h = elim (same_atom e.name a) as (λ b. same_atom e.name a ≡ b → cond b (Some e) o ≡ option_or o (cond b (Some e) None)) [
  | true ↦ λ t. ap (λ p. option_or p (Some e)) (sym (h (same_atom-true e.name a t)))
  | false ↦ λ t. alone o
] refl
  where
    alone : (o : Option NamedAt) → o ≡ option_or o None
    alone None = refl
    alone (Some x) = refl

pub kept_old : (m : Atom → Option NamedAt) (e x : NamedAt) (a : Atom) → m e.name ≡ Some x → m a ≡ option_or (m a) (cond (same_atom e.name a) (Some e) None)
kept_old m e x a h = elim (same_atom e.name a) as (λ b. same_atom e.name a ≡ b → m a ≡ option_or (m a) (cond b (Some e) None)) [
  | true ↦ λ t. there (m a) (ap m (sym (same_atom-true e.name a t)) ∙ h)
  | false ↦ λ t. alone (m a)
] refl
  where
    alone : (o : Option NamedAt) → o ≡ option_or o None
    alone None = refl
    alone (Some x) = refl

    there : (o : Option NamedAt) → o ≡ Some x → o ≡ option_or o (Some e)
    there None f = cc
    there (Some y) f = refl

first_named-append : (xs ys : List NamedAt) (a : Atom) → first_named (xs ++ ys) a ≡ option_or (first_named xs a) (first_named ys a)
first_named-append [] ys a = refl
first_named-append (x ∷ xs) ys a = elim (same_atom x.name a) as (λ b. cond b (Some x) (first_named (xs ++ ys) a) ≡ option_or (cond b (Some x) (first_named xs a)) (first_named ys a)) [
  | true ↦ refl
  | false ↦ first_named-append xs ys a
]

pub named_on : (ns : List NamedAt) (i : ℕ) (d : NamedAt) (a : Atom) (new old : Option NamedAt) → i < length ns → old ≡ first_named (take i ns) a → new ≡ option_or old (first_named (get_or ns i d ∷ []) a) → new ≡ first_named (take (i + 1) ns) a
named_on ns i d a new old l o e =
    e ∙ ap (λ p. option_or p (first_named (get_or ns i d ∷ []) a)) o
    ∙ sym (first_named-append (take i ns) (get_or ns i d ∷ []) a)
    ∙ ap (λ xs. first_named xs a) (sym (take_more ns i (get_or ns i d) l ∙ ap (λ y. take i ns ++ y ∷ []) (get_or_default ns i (get_or ns i d) d l)))

-- ## The first clash

pub lesser-none : (o : Option ℕ) → lesser o None ≡ o
lesser-none None = refl
lesser-none (Some a) = refl

pub lesser-assoc : (a b c : Option ℕ) → lesser (lesser a b) c ≡ lesser a (lesser b c)
lesser-assoc None b c = refl
lesser-assoc (Some x) None c = refl
lesser-assoc (Some x) (Some y) None = refl
lesser-assoc (Some x) (Some y) (Some z) = ap (λ (n : ℕ). Some n) (omega arith)

clash-append : (A xs ys : List NamedAt) → first_clash A (xs ++ ys) ≡ lesser (first_clash A xs) (first_clash A ys)
clash-append A [] ys = refl
clash-append A (f ∷ xs) ys = ap (lesser (clash_with f (first_named A f.name))) (clash-append A xs ys) ∙ sym (lesser-assoc (clash_with f (first_named A f.name)) (first_clash A xs) (first_clash A ys))

pub clash_on : (A ns : List NamedAt) (i : ℕ) (d : NamedAt) (new old : Option ℕ) (o : Option NamedAt) → i < length ns → old ≡ first_clash A (take i ns) → o ≡ first_named A (get_or ns i d).name → new ≡ lesser old (clash_with (get_or ns i d) o) → new ≡ first_clash A (take (i + 1) ns)
clash_on A ns i d new old o l h n e =
    e ∙ (λ j. lesser (h j) (clash_with (get_or ns i d) (n j)))
    ∙ ap (lesser (first_clash A (take i ns))) (sym (lesser-none (clash_with (get_or ns i d) (first_named A (get_or ns i d).name))))
    ∙ sym (clash-append A (take i ns) (get_or ns i d ∷ []))
    ∙ ap (first_clash A) (sym (take_more ns i (get_or ns i d) l ∙ ap (λ y. take i ns ++ y ∷ []) (get_or_default ns i (get_or ns i d) d l)))

-- what the search tells of one cell
abbrev pub ClashTold : NamedAt → Option NamedAt → Option ℕ → Type 0
ClashTold f None o = o ≡ None
ClashTold f (Some e) None = CantBoth e f → ⊥
ClashTold f (Some e) (Some k) = CantBoth e f × (k ≡ min e.left f.left)

told-clash : (f : NamedAt) (o : Option NamedAt) → ClashTold f o (clash_with f o)
told-clash f None = refl
told-clash f (Some e) = by e.made refl f.made refl
  where
    place : (e.left == f.left) ≡ true → e.left ≡ f.left
    place t = grind (arith, nat_tests, t)

    apart : (e.left == f.left) ≡ false → e.left ≢ f.left
    apart t s = grind (arith, nat_tests, t, s)

    both : (b : Bool) → (e.left == f.left) ≡ b → e.made ≡ false → f.made ≡ false → ClashTold f (Some e) (cond b None (Some (min e.left f.left)))
    both true t p q = λ h. h p q (place t)
    both false t p q = ((λ _ _. apart t), refl)

    by : (a : Bool) → e.made ≡ a → (b : Bool) → f.made ≡ b → ClashTold f (Some e) (cond (not a && (not b && (e.left == f.left))) None (Some (min e.left f.left)))
    by true p b q = ((λ z. let bad : ◌≡◌ {A = Bool} true false = sym p ∙ z in cc), refl)
    by false p true q = ((λ _ z. let bad : ◌≡◌ {A = Bool} true false = sym q ∙ z in cc), refl)
    by false p false q = both (e.left == f.left) refl p q

-- what the search tells of all
abbrev pub AllTold : List NamedAt → List NamedAt → Option ℕ → Type 0
AllTold A B None = (f e : NamedAt) → Has B f → first_named A f.name ≡ Some e → CantBoth e f → ⊥
AllTold A B (Some k) = NamedApart A B k × ((f e : NamedAt) → Has B f → first_named A f.name ≡ Some e → CantBoth e f → k ≤ min e.left f.left)

less : (a b : ℕ) → (a ≤ b) ⊎ (b ≤ a)
less zero b = inl (omega arith)
less (suc a) zero = inr (omega arith)
less (suc a) (suc b) = elim (less a b) [ inl h ↦ inl (omega (arith, h)) | inr h ↦ inr (omega (arith, h)) ]

which : (a b : ℕ) → (min a b ≡ a) ⊎ (min a b ≡ b)
which a b = elim (less a b) [ inl h ↦ inl (omega (arith, h)) | inr h ↦ inr (omega (arith, h)) ]

apart_here : (A B : List NamedAt) (e f : NamedAt) → first_named A f.name ≡ Some e → Has B f → CantBoth e f → NamedApart A B (min e.left f.left)
apart_here A B e f n h c = named_apart e f n h c (min e.left f.left) (which e.left f.left)

apart_behind : (A : List NamedAt) (g : NamedAt) (B : List NamedAt) (k : ℕ) → NamedApart A B k → NamedApart A (g ∷ B) k
apart_behind A g B _ (named_apart e f n h c k w) = named_apart e f n (inr h) c k w

same_named : (A : List NamedAt) (f x g e : NamedAt) → first_named A f.name ≡ Some x → f ≡ g → first_named A g.name ≡ Some e → x ≡ e
same_named A f x g e n z m =
    let both : ◌≡◌ {A = Option NamedAt} (Some x) (Some e) = sym n ∙ ap (λ (y : NamedAt). first_named A y.name) z ∙ m in
    ap (λ (o : Option NamedAt). option_map_or (λ (y : NamedAt). y) o x) both

own : (A : List NamedAt) (f x g e : NamedAt) → first_named A f.name ≡ Some x → f ≡ g → first_named A g.name ≡ Some e → CantBoth e g → CantBoth x f
own A f x g e n z m c =
    let one = same_named A f x g e n z m in
    subst (λ (y : NamedAt). CantBoth y f) (sym one) (subst (λ (y : NamedAt). CantBoth e y) (sym z) c)

place : (A : List NamedAt) (f x g e : NamedAt) → first_named A f.name ≡ Some x → f ≡ g → first_named A g.name ≡ Some e → (j : ℕ) → j ≡ min x.left f.left → j ≤ min e.left g.left
place A f x g e n z m j t =
    let one = same_named A f x g e n z m in
    let same : j ≡ min e.left g.left = t ∙ (λ i. min (one i).left (z i).left) in
    omega (arith, same)

lesser_of : (A B : List NamedAt) (j k : ℕ) → NamedApart A B j → NamedApart A B k → NamedApart A B (min j k)
lesser_of A B j k p q = elim (which j k) [ inl e ↦ subst (NamedApart A B) (sym e) p | inr e ↦ subst (NamedApart A B) (sym e) q ]

tell_more : (A : List NamedAt) (f : NamedAt) (B : List NamedAt) (o : Option NamedAt) → first_named A f.name ≡ o → (p q : Option ℕ) → ClashTold f o p → AllTold A B q → AllTold A (f ∷ B) (lesser p q)
tell_more A f B None n None None t a = λ g e h m c. elim h [
  | inl z ↦ (let bad : ◌≡◌ {A = Option NamedAt} None (Some e) = sym n ∙ ap (λ (x : NamedAt). first_named A x.name) z ∙ m in cc)
  | inr z ↦ a g e z m c
]
tell_more A f B None n None (Some k) t a = (
  apart_behind A f B k a.0,
  λ g e h m c. elim h [
    | inl z ↦ (let bad : ◌≡◌ {A = Option NamedAt} None (Some e) = sym n ∙ ap (λ (x : NamedAt). first_named A x.name) z ∙ m in cc)
    | inr z ↦ a.1 g e z m c
  ],
)
tell_more A f B None n (Some j) q t a = cc
tell_more A f B (Some x) n None None t a = λ g e h m c. elim h [
  | inl z ↦ t (own A f x g e n z m c)
  | inr z ↦ a g e z m c
]
tell_more A f B (Some x) n None (Some k) t a = (
  apart_behind A f B k a.0,
  λ g e h m c. elim h [
    | inl z ↦ absurd (t (own A f x g e n z m c))
    | inr z ↦ a.1 g e z m c
  ],
)
tell_more A f B (Some x) n (Some j) None t a = (
  subst (NamedApart A (f ∷ B)) (sym t.1) (apart_here A (f ∷ B) x f n (inl refl) t.0),
  λ g e h m c. elim h [
    | inl z ↦ place A f x g e n z m j t.1
    | inr z ↦ absurd (a g e z m c)
  ],
)
tell_more A f B (Some x) n (Some j) (Some k) t a = (
  lesser_of A (f ∷ B) j k (subst (NamedApart A (f ∷ B)) (sym t.1) (apart_here A (f ∷ B) x f n (inl refl) t.0)) (apart_behind A f B k a.0),
  λ g e h m c. elim h [
    | inl z ↦ (let w = place A f x g e n z m j t.1 in omega (arith, w))
    | inr z ↦ (let w = a.1 g e z m c in omega (arith, w))
  ],
)

all_told : (A B : List NamedAt) → AllTold A B (first_clash A B)
all_told A [] = λ f e h. absurd h
all_told A (f ∷ B) = tell_more A f B (first_named A f.name) refl (clash_with f (first_named A f.name)) (first_clash A B) (told-clash f (first_named A f.name)) (all_told A B)

-- no clash is found exactly where no cell is named apart
pub none_named_apart : (A B : List NamedAt) → first_clash A B ≡ None → (k : ℕ) → NamedApart A B k → ⊥
none_named_apart A B h _ (named_apart e f n g c k w) = subst (AllTold A B) h (all_told A B) f e g n c

-- and else the first place at which one is
pub first_named_apart : (A B : List NamedAt) (k : ℕ) → first_clash A B ≡ Some k → NamedApart A B k × ((j : ℕ) → j < k → NamedApart A B j → ⊥)
first_named_apart A B k h =
    let t = subst (AllTold A B) h (all_told A B) in
    (t.0, λ j l a. below t.1 j l a)
  where
    below : ((f e : NamedAt) → Has B f → first_named A f.name ≡ Some e → CantBoth e f → k ≤ min e.left f.left) → (j : ℕ) → j < k → NamedApart A B j → ⊥
    below t _ l (named_apart e f n g c j (inl w)) = let z = t f e g n c in absurd (omega (arith, z, l, w))
    below t _ l (named_apart e f n g c j (inr w)) = let z = t f e g n c in absurd (omega (arith, z, l, w))

-- the lesser of two first places is the first at which either is so
pub lesser_place : (D E : ℕ → Type 0) (a b : Option ℕ) → IsPlace D a → IsPlace E b → IsPlace (λ k. D k ⊎ E k) (lesser a b)
lesser_place D E None None p q = λ k w. elim w [ inl u ↦ p k u | inr u ↦ q k u ]
lesser_place D E None (Some b) p q = (inr q.0, λ j l w. elim w [ inl u ↦ p j u | inr u ↦ q.1 j l u ])
lesser_place D E (Some a) None p q = (inl p.0, λ j l w. elim w [ inl u ↦ p.1 j l u | inr u ↦ q j u ])
lesser_place D E (Some a) (Some b) p q = (
  elim (which a b) [ inl u ↦ inl (subst D (sym u) p.0) | inr u ↦ inr (subst E (sym u) q.0) ],
  λ j l w. elim w [ inl u ↦ p.1 j (omega (arith, l)) u | inr u ↦ q.1 j (omega (arith, l)) u ],
)

searched : (A B : List NamedAt) (o : Option ℕ) → first_clash A B ≡ o → IsPlace (NamedApart A B) o
searched A B None e = none_named_apart A B e
searched A B (Some k) e = first_named_apart A B k e

-- the search finds the first place at which something is named apart
pub clash_place : (A B : List NamedAt) → IsPlace (NamedApart A B) (first_clash A B)
clash_place A B = searched A B (first_clash A B) refl
