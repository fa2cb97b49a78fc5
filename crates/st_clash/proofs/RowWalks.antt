-- Two listings of one row, walked side by side.
use Rattle.std.proofs.Common.{◌≡◌, ◌↔◌, ℕ, zero, suc, ◌-◌, ◌<◌, ◌≤◌, Bool, true, false, ◌&&◌, List, [], ◌∷◌, Option, Some, None, length, refl, sym, ap, ◌∙◌, subst, arith}
use Rattle.std.specs.Bool.{beq}
use Rattle.std.specs.List.{AllZip}
use Rattle.st_ids.specs.Order.{same_cell, same_node}
use Rattle.st_ids.proofs.Orders.{same_cell-itself, same_cell-true, same_node-itself, same_node-true}
use Rattle.st_lemmas.proofs.Bools.{and-both, and-true}
use Rattle.st_marks.specs.Agree.{IsSameView}
use Rattle.st_marks.specs.declared.marks.Mark.{Mark}
use Rattle.st_marks.specs.Listings.{CellView, counted_view}
use Rattle.st_ids.specs.declared.names.NodeId.{NodeId}
use Rattle.st_clash.specs.Owners.{same_if_told}
use Rattle.st_clash.proofs.OwnersTold.{same_told, told_same}
use Rattle.st_clash.specs.declared.walk.Shown.{Shown}
use Rattle.st_clash.specs.Views.{same_view, same_views}
use Rattle.st_clash.specs.inside.Walk.{shown_view, views_left}

-- ## Views that are the same

beq_true : (a b : Bool) → beq a b ≡ true → a ≡ b
beq_true true true e = refl
beq_true true false e = cc
beq_true false true e = cc
beq_true false false e = refl

beq_itself : (a b : Bool) → a ≡ b → beq a b ≡ true
beq_itself true true e = refl
beq_itself true false e = cc
beq_itself false true e = cc
beq_itself false false e = refl

view_same : (s t : CellView) → same_view s t ≡ true → IsSameView s t
view_same s t e =
    let p = and-true (beq s.full t.full && same_if_told same_cell s.cell t.cell) (same_if_told same_node s.node t.node) e in
    let q = and-true (beq s.full t.full) (same_if_told same_cell s.cell t.cell) p.0 in
    record { full = beq_true s.full t.full q.0; cell = told_same same_cell same_cell-true s.cell t.cell q.1; node = told_same same_node same_node-true s.node t.node p.1 }

same_seen : (s t : CellView) → IsSameView s t → same_view s t ≡ true
same_seen s t v = and-both _ _ (and-both _ _ (beq_itself s.full t.full v.full) (same_told same_cell same_cell-itself s.cell t.cell v.cell)) (same_told same_node same_node-itself s.node t.node v.node)

pub views_same : (xs ys : List CellView) → (same_views xs ys ≡ true) ↔ AllZip IsSameView xs ys
views_same [] [] = (λ e. tt, λ z. refl)
views_same [] (y ∷ ys) = (λ e. cc, λ z. absurd z)
views_same (x ∷ xs) [] = (λ e. cc, λ z. absurd z)
views_same (x ∷ xs) (y ∷ ys) = let rest = views_same xs ys in (
  λ e. let p = and-true (same_view x y) (same_views xs ys) e in (view_same x y p.0, rest.0 p.1),
  λ z. and-both (same_view x y) (same_views xs ys) (same_seen x y z.0) (rest.1 z.1),
)

-- ## Counted cells

pub views_counted : (k : ℕ) (ms : List Mark) → 0 < k → views_left k ms ≡ counted_view ∷ views_left (k - 1) ms
views_counted zero ms p = absurd (omega (arith, p))
views_counted (suc k) ms p = let e : suc k - 1 ≡ k = omega arith in ap (λ j. counted_view ∷ views_left j ms) (sym e)

-- counted cells of both, so many of which are met
pub counted_met : (m j k : ℕ) (ms ns : List Mark) → m ≤ j → m ≤ k → same_views (views_left j ms) (views_left k ns) ≡ same_views (views_left (j - m) ms) (views_left (k - m) ns)
counted_met zero j k ms ns p q = let e : j - 0 ≡ j = omega arith in let f : k - 0 ≡ k = omega arith in λ i. same_views (views_left (sym e i) ms) (views_left (sym f i) ns)
counted_met (suc m) zero k ms ns p q = absurd (omega (arith, p))
counted_met (suc m) (suc j) zero ms ns p q = absurd (omega (arith, q))
counted_met (suc m) (suc j) (suc k) ms ns p q =
    let e : suc j - suc m ≡ j - m = omega arith in
    let f : suc k - suc m ≡ k - m = omega arith in
    counted_met m j k ms ns (omega (arith, p)) (omega (arith, q)) ∙ (λ i. same_views (views_left (sym e i) ms) (views_left (sym f i) ns))

pub counted_length : (m k : ℕ) (ms : List Mark) → 0 < m → m ≤ k → length (views_left (k - m) ms) < length (views_left k ms)
counted_length zero k ms p q = absurd (omega (arith, p))
counted_length (suc zero) k ms p q =
    let e : 0 < k = omega (arith, q) in
    let one : length (views_left k ms) ≡ suc (length (views_left (k - 1) ms)) = ap length (views_counted k ms e) in
    omega (arith, one)
counted_length (suc (suc m)) k ms p q =
    let e : 0 < k = omega (arith, q) in
    let f : (k - 1) - suc m ≡ k - suc (suc m) = omega arith in
    let rest : length (views_left (k - suc (suc m)) ms) < length (views_left (k - 1) ms) = subst (λ j. length (views_left j ms) < length (views_left (k - 1) ms)) f (counted_length (suc m) (k - 1) ms (omega arith) (omega (arith, q))) in
    let one : length (views_left k ms) ≡ suc (length (views_left (k - 1) ms)) = ap length (views_counted k ms e) in
    omega (arith, rest, one)

-- ## Turns

pub counted_both : (k j m : ℕ) (ms ns : List Mark) (vs : List CellView) → 0 < m → m ≤ k → m ≤ j → vs ≡ views_left j ns
    → (same_views (views_left k ms) vs ≡ same_views (views_left (k - m) ms) (views_left (j - m) ns)) × (length (views_left (k - m) ms) < length (views_left k ms))
counted_both k j m ms ns vs p q r e = (ap (same_views (views_left k ms)) e ∙ counted_met m k j ms ns q r, counted_length m k ms p q)

seen_full : (s : Shown) (vs us : List CellView) → s.full ≡ true → same_views (counted_view ∷ vs) (shown_view s ∷ us) ≡ same_views vs us
seen_full s vs us e = ap (λ b. (beq true b && true && true) && same_views vs us) e

seen_empty : (s : Shown) (vs us : List CellView) → s.full ≡ false → same_views (counted_view ∷ vs) (shown_view s ∷ us) ≡ false
seen_empty s vs us e = ap (λ b. (beq true b && true && true) && same_views vs us) e

full_seen : (s : Shown) (vs us : List CellView) → s.full ≡ true → same_views (shown_view s ∷ vs) (counted_view ∷ us) ≡ same_views vs us
full_seen s vs us e = (λ i. (beq (e i) true && true && told s.node) && same_views vs us) ∙ ap (λ b. (true && true && b) && same_views vs us) (untold s.node)
  where
    told : Option NodeId → Bool
    told o = same_if_told same_node o None

    untold : (o : Option NodeId) → told o ≡ true
    untold None = refl
    untold (Some n) = refl

empty_seen : (s : Shown) (vs us : List CellView) → s.full ≡ false → same_views (shown_view s ∷ vs) (counted_view ∷ us) ≡ false
empty_seen s vs us e = ap (λ b. (beq b true && true && same_if_told same_node s.node None) && same_views vs us) e

pub counted_named : (k : ℕ) (ms ns : List Mark) (s : Shown) (vs : List CellView) → 0 < k → vs ≡ shown_view s ∷ views_left 0 ns → s.full ≡ true
    → (same_views (views_left k ms) vs ≡ same_views (views_left (k - 1) ms) (views_left 0 ns)) × (length (views_left (k - 1) ms) < length (views_left k ms))
counted_named k ms ns s vs p e f = (
  (λ i. same_views (views_counted k ms p i) (e i)) ∙ seen_full s (views_left (k - 1) ms) (views_left 0 ns) f,
  counted_length 1 k ms (omega arith) (omega (arith, p)),
)

pub counted_unlike : (k : ℕ) (ms ns : List Mark) (s : Shown) (vs : List CellView) → 0 < k → vs ≡ shown_view s ∷ views_left 0 ns → s.full ≡ false → same_views (views_left k ms) vs ≡ false
counted_unlike k ms ns s vs p e f = (λ i. same_views (views_counted k ms p i) (e i)) ∙ seen_empty s (views_left (k - 1) ms) (views_left 0 ns) f

pub counted_alone : (k : ℕ) (ms : List Mark) (vs : List CellView) → 0 < k → vs ≡ [] → same_views (views_left k ms) vs ≡ false
counted_alone k ms vs p e = λ i. same_views (views_counted k ms p i) (e i)

pub named_counted : (k : ℕ) (ms ns : List Mark) (s : Shown) (vs : List CellView) → 0 < k → vs ≡ views_left k ns → s.full ≡ true
    → (same_views (shown_view s ∷ views_left 0 ms) vs ≡ same_views (views_left 0 ms) (views_left (k - 1) ns)) × (length (views_left 0 ms) < length (shown_view s ∷ views_left 0 ms))
named_counted k ms ns s vs p e f = (ap (same_views (shown_view s ∷ views_left 0 ms)) (e ∙ views_counted k ns p) ∙ full_seen s (views_left 0 ms) (views_left (k - 1) ns) f, omega arith)

pub named_unlike : (k : ℕ) (ms ns : List Mark) (s : Shown) (vs : List CellView) → 0 < k → vs ≡ views_left k ns → s.full ≡ false → same_views (shown_view s ∷ views_left 0 ms) vs ≡ false
named_unlike k ms ns s vs p e f = ap (same_views (shown_view s ∷ views_left 0 ms)) (e ∙ views_counted k ns p) ∙ empty_seen s (views_left 0 ms) (views_left (k - 1) ns) f

pub named_both : (ms ns : List Mark) (s t : Shown) (vs : List CellView) → vs ≡ shown_view t ∷ views_left 0 ns → same_view (shown_view s) (shown_view t) ≡ true
    → (same_views (shown_view s ∷ views_left 0 ms) vs ≡ same_views (views_left 0 ms) (views_left 0 ns)) × (length (views_left 0 ms) < length (shown_view s ∷ views_left 0 ms))
named_both ms ns s t vs e f = (ap (same_views (shown_view s ∷ views_left 0 ms)) e ∙ ap (λ b. b && same_views (views_left 0 ms) (views_left 0 ns)) f, omega arith)

pub named_apart : (ms ns : List Mark) (s t : Shown) (vs : List CellView) → vs ≡ shown_view t ∷ views_left 0 ns → same_view (shown_view s) (shown_view t) ≡ false → same_views (shown_view s ∷ views_left 0 ms) vs ≡ false
named_apart ms ns s t vs e f = ap (same_views (shown_view s ∷ views_left 0 ms)) e ∙ ap (λ b. b && same_views (views_left 0 ms) (views_left 0 ns)) f

pub named_alone : (ms : List Mark) (s : Shown) (vs : List CellView) → vs ≡ [] → same_views (shown_view s ∷ views_left 0 ms) vs ≡ false
named_alone ms s vs e = ap (same_views (shown_view s ∷ views_left 0 ms)) e

pub end_counted : (k : ℕ) (ns : List Mark) (vs : List CellView) → 0 < k → vs ≡ views_left k ns → same_views [] vs ≡ false
end_counted k ns vs p e = ap (same_views []) (e ∙ views_counted k ns p)
