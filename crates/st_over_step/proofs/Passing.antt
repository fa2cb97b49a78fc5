-- Going along a row.
use Rattle.std.proofs.Common.{◌≡◌, ◌+◌, ℕ, zero, suc, Bool, List, [], ◌∷◌, ◌++◌, Option, Some, None, IsTrue, drop, slice_get, refl, sym, ap, ◌∙◌, subst, append_assoc, true, false, not, ◌↔◌, ◌<◌, ◌-◌, length, take, get_or, arith}
use Rattle.std.proofs.lemmas.List.{append-nil, take-append-drop}
use Rattle.std.specs.Option.{is_some}
use Rattle.st_lemmas.proofs.Bools.{true-false}
use Rattle.st_lemmas.proofs.FirstItems.{take_one}
use Rattle.st_lemmas.proofs.Lists.{drop-slice_get}
use Rattle.st_marks.specs.declared.marks.Mark.{Mark}
use Rattle.st_marks.specs.Listings.{cells_before, counted_view}
use Rattle.st_marks.specs.Row.{counted_cells, spread}
use Rattle.st_marks.proofs.MarkLengths.{before-append, spread-append}
use Rattle.st_marks.specs.declared.places.Slot.{Slot}
use Rattle.st_marks.specs.Listings.{CellView}
use Rattle.st_puts.specs.Seen.{AreAsSeen, IsAsSeen}
use Rattle.st_over_step.specs.inside.Passing.{Passes}

drop-none : {X : Type 0} (xs : List X) (i : ℕ) → slice_get xs i ≡ None → drop i xs ≡ []
drop-none [] zero e = refl
drop-none [] (suc i) e = refl
drop-none (x ∷ xs) zero e = cc
drop-none (x ∷ xs) (suc i) e = drop-none xs i e

-- ## No cell

pub passes_nothing : (c : List Slot) (p : ℕ) → Passes c p [] (Some p)
passes_nothing c p more = (λ h. h, λ h. h)

-- ## One cell

pub passes_one : (c : List Slot) (p : ℕ) (s : Slot) (x : CellView) → Some s ≡ slice_get c p → IsAsSeen s x → Passes c p (x ∷ []) (Some (p + 1))
passes_one c p s x at seen more =
    let e = drop-slice_get c p s (sym at) in
    (λ h. (subst (λ l. AreAsSeen l (x ∷ more)) e h).1, λ h. subst (λ l. AreAsSeen l (x ∷ more)) (sym e) (seen, h))

pub passes_no_other : (c : List Slot) (p : ℕ) (s : Slot) (x : CellView) → Some s ≡ slice_get c p → (IsAsSeen s x → ⊥) → Passes c p (x ∷ []) None
passes_no_other c p s x at not_seen more h = not_seen (subst (λ l. AreAsSeen l (x ∷ more)) (drop-slice_get c p s (sym at)) h).0

passes_no_end : (c : List Slot) (p : ℕ) (x : CellView) → None ≡ slice_get c p → Passes c p (x ∷ []) None
passes_no_end c p x at more h = subst (λ l. AreAsSeen l (x ∷ more)) (drop-none c p (sym at)) h

pub passes_none : (c : List Slot) (p : ℕ) (x : CellView) (found : Option Slot) (o : Option ℕ) → found ≡ slice_get c p → found ≡ None → o ≡ None → Passes c p (x ∷ []) o
passes_none c p x found o at gone none = subst (Passes c p (x ∷ [])) (sym none) (passes_no_end c p x (sym gone ∙ at))

pub passes_there : (c : List Slot) (p : ℕ) (x : CellView) (found : Option Slot) (s : Slot) (r : Bool) → found ≡ slice_get c p → found ≡ Some s → IsTrue r ↔ IsAsSeen s x → r ≡ true → Passes c p (x ∷ []) (Some (p + 1))
passes_there c p x found s r at is seen t = passes_one c p s x (sym is ∙ at) (seen.0 t)

pub passes_other : (c : List Slot) (p : ℕ) (x : CellView) (found : Option Slot) (s : Slot) (r : Bool) → found ≡ slice_get c p → found ≡ Some s → IsTrue r ↔ IsAsSeen s x → r ≡ false → Passes c p (x ∷ []) None
passes_other c p x found s r at is seen f = passes_no_other c p s x (sym is ∙ at) (λ y. true-false (seen.1 y) f)

-- ## More cells

passes_on : (c : List Slot) (p q : ℕ) (xs ys : List CellView) (o : Option ℕ) → Passes c p xs (Some q) → Passes c q ys o → Passes c p (xs ++ ys) o
passes_on c p q xs ys None f g = λ more h. g more ((f (ys ++ more)).0 (subst (AreAsSeen (drop p c)) (append_assoc xs ys more) h))
passes_on c p q xs ys (Some r) f g = λ more. (
  λ h. (g more).0 ((f (ys ++ more)).0 (subst (AreAsSeen (drop p c)) (append_assoc xs ys more) h)),
  λ h. subst (AreAsSeen (drop p c)) (sym (append_assoc xs ys more)) ((f (ys ++ more)).1 ((g more).1 h)),
)

passes_never : (c : List Slot) (p : ℕ) (xs ys : List CellView) → Passes c p xs None → Passes c p (xs ++ ys) None
passes_never c p xs ys f more h = f (ys ++ more) (subst (AreAsSeen (drop p c)) (append_assoc xs ys more) h)

-- ## Counted cells

counted_split : (k n : ℕ) → cells_before (counted_cells (k + n) []) ≡ cells_before (counted_cells k []) ++ cells_before (counted_cells n [])
counted_split zero n = let e : 0 + n ≡ n = omega arith in ap (λ j. cells_before (counted_cells j [])) e
counted_split (suc k) n = let e : suc k + n ≡ suc (k + n) = omega arith in ap (λ j. cells_before (counted_cells j [])) e ∙ ap (λ l. counted_view ∷ l) (counted_split k n)

pub one_counted : (c : List Slot) (p k at : ℕ) (o : Option ℕ) (next : ℕ) → Passes c p (cells_before (counted_cells k [])) (Some at) → Passes c at (counted_view ∷ []) o → o ≡ Some next → Passes c p (cells_before (counted_cells (k + 1) [])) (Some next)
one_counted c p k at o next so_far one is =
    subst (λ l. Passes c p l (Some next)) (sym (counted_split k 1)) (passes_on c p at (cells_before (counted_cells k [])) (counted_view ∷ []) (Some next) so_far (subst (Passes c at (counted_view ∷ [])) is one))

pub none_counted : (c : List Slot) (p k n at : ℕ) (o q : Option ℕ) → k < n → Passes c p (cells_before (counted_cells k [])) (Some at) → Passes c at (counted_view ∷ []) o → o ≡ None → q ≡ None → Passes c p (cells_before (counted_cells n [])) q
none_counted c p k n at o q less so_far one none is =
    let first : Passes c p (cells_before (counted_cells k []) ++ counted_view ∷ []) None = passes_on c p at (cells_before (counted_cells k [])) (counted_view ∷ []) None so_far (subst (Passes c at (counted_view ∷ [])) none one) in
    let e : n ≡ (k + 1) + (n - (k + 1)) = omega (arith, less) in
    let all : cells_before (counted_cells n []) ≡ (cells_before (counted_cells k []) ++ counted_view ∷ []) ++ cells_before (counted_cells (n - (k + 1)) []) =
    ap (λ j. cells_before (counted_cells j [])) e ∙ counted_split (k + 1) (n - (k + 1)) ∙ ap (λ l. l ++ cells_before (counted_cells (n - (k + 1)) [])) (counted_split k 1) in
    subst (Passes c p (cells_before (counted_cells n []))) (sym is) (subst (λ l. Passes c p l None) (sym all) (passes_never c p _ _ first))

-- ## Marks

said_more : (ms : List Mark) (i : ℕ) (d m : Mark) → i < length ms → get_or ms i d ≡ m → cells_before (spread (take (i + 1) ms)) ≡ cells_before (spread (take i ms)) ++ cells_before (spread (m ∷ []))
said_more ms i d m l at = ap (λ y. cells_before (spread y)) (take_one ms i d m l at) ∙ ap cells_before (spread-append (take i ms) (m ∷ [])) ∙ before-append (spread (take i ms)) (spread (m ∷ []))

pub one_mark : (c : List Slot) (ms : List Mark) (i at : ℕ) (d m : Mark) (o : Option ℕ) (next : ℕ) → i < length ms → get_or ms i d ≡ m → Passes c 0 (cells_before (spread (take i ms))) (Some at)
    → Passes c at (cells_before (spread (m ∷ []))) o → o ≡ Some next → Passes c 0 (cells_before (spread (take (i + 1) ms))) (Some next)
one_mark c ms i at d m o next l is so_far one e =
    subst (λ y. Passes c 0 y (Some next)) (sym (said_more ms i d m l is)) (passes_on c 0 at (cells_before (spread (take i ms))) (cells_before (spread (m ∷ []))) (Some next) so_far (subst (Passes c at (cells_before (spread (m ∷ [])))) e one))

pub no_mark : (c : List Slot) (ms : List Mark) (i at : ℕ) (d m : Mark) (o q : Option ℕ) → i < length ms → get_or ms i d ≡ m → Passes c 0 (cells_before (spread (take i ms))) (Some at)
    → Passes c at (cells_before (spread (m ∷ []))) o → o ≡ None → q ≡ None → Passes c 0 (cells_before (spread ms)) q
no_mark c ms i at d m o q l is so_far one none gone =
    let first : Passes c 0 (cells_before (spread (take (i + 1) ms))) None =
    subst (λ y. Passes c 0 y None) (sym (said_more ms i d m l is)) (passes_on c 0 at (cells_before (spread (take i ms))) (cells_before (spread (m ∷ []))) None so_far (subst (Passes c at (cells_before (spread (m ∷ [])))) none one)) in
    let all : cells_before (spread ms) ≡ cells_before (spread (take (i + 1) ms)) ++ cells_before (spread (drop (i + 1) ms)) =
    ap (λ y. cells_before (spread y)) (sym (take-append-drop (i + 1) ms)) ∙ ap cells_before (spread-append (take (i + 1) ms) (drop (i + 1) ms)) ∙ before-append (spread (take (i + 1) ms)) (spread (drop (i + 1) ms)) in
    subst (Passes c 0 (cells_before (spread ms))) (sym gone) (subst (λ y. Passes c 0 y None) (sym all) (passes_never c 0 _ _ first))

-- ## All cells

pub never_seen : (c : List Slot) (xs : List CellView) → Passes c 0 xs None → AreAsSeen c xs → ⊥
never_seen c xs f h = f [] (subst (AreAsSeen c) (sym (append-nil xs)) h)

pub wholly_seen : (c : List Slot) (q : ℕ) (xs : List CellView) (o : Option Slot) (b : Bool) → Passes c 0 xs (Some q) → o ≡ slice_get c q → is_some o ≡ not b → IsTrue b ↔ AreAsSeen c xs
wholly_seen c q xs o b f at is = (
  λ t. subst (AreAsSeen c) (append-nil xs) ((f []).1 (subst (λ l. AreAsSeen l []) (sym (drop-none c q (sym at ∙ gone o (is ∙ ap not t)))) tt)),
  λ h. left o refl ((f []).0 (subst (AreAsSeen c) (sym (append-nil xs)) h)),
)
  where
    denied : (x : Bool) → not x ≡ false → x ≡ true
    denied true f = refl
    denied false f = cc

    gone : (r : Option Slot) → is_some r ≡ false → r ≡ None
    gone None t = refl
    gone (Some s) t = cc

    left : (r : Option Slot) → o ≡ r → AreAsSeen (drop q c) [] → b ≡ true
    left None e h = denied b (sym is ∙ ap is_some e)
    left (Some s) e h = absurd (subst (λ l. AreAsSeen l []) (drop-slice_get c q s (sym at ∙ e)) h)
