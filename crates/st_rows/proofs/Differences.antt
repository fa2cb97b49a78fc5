-- The first difference of two listings.
use Rattle.std.proofs.Common.{◌≡◌, ◌<◌, ◌+◌, ℕ, zero, suc, Bool, true, false, ◌&&◌, List, [], ◌∷◌, Option, Some, None, option_map, cond, refl, sym, ap, ◌∙◌, arith, subst}
use Rattle.std.specs.Prelude.{Result, Ok, Err}
use Rattle.st_ids.specs.Order.{same_cell, same_node}
use Rattle.st_ids.proofs.Orders.{same_cell-true, same_cell-itself, same_node-true, same_node-itself}
use Rattle.st_ids.specs.declared.fault.Or.{Or}
use Rattle.st_ids.specs.declared.fault.Or.TheVariants.{Fault, NoMemory}
use Rattle.st_kind.specs.Refused.{IsApartWhere, IsFirstPlace}
use Rattle.st_kind.specs.declared.apart.Apart.{Apart}
use Rattle.st_marks.specs.Agree.{SameIfBoth, IsSameView}
use Rattle.st_marks.specs.Listings.{CellView}
use Rattle.st_rows.specs.Views.{DifferAt}
use Rattle.st_rows.specs.Differences.{agree, agree_if_named, same_bool, first_difference, IsApart}
use Rattle.st_lemmas.proofs.Bools.{and-second, and-first}

-- ## One cell

told-same : {A : Type 0} (same : A → A → Bool) → ((a b : A) → same a b ≡ true → a ≡ b) → (x y : Option A) → agree_if_named same x y ≡ true → SameIfBoth x y
told-same same h None y e = tt
told-same same h (Some x) None e = tt
told-same same h (Some x) (Some y) e = h x y e

same-told : {A : Type 0} (same : A → A → Bool) → ((a : A) → same a a ≡ true) → (x y : Option A) → SameIfBoth x y → agree_if_named same x y ≡ true
same-told same h None y e = refl
same-told same h (Some x) None e = refl
same-told same h (Some x) (Some y) e = ap (same x) (sym e) ∙ h x

pub bools-same : (a b : Bool) → same_bool a b ≡ true → a ≡ b
bools-same true b e = sym e
bools-same false true e = let z : ◌≡◌ {A = Bool} false true = e in cc
bools-same false false e = refl

same-bools : (a b : Bool) → a ≡ b → same_bool a b ≡ true
same-bools true b e = sym e
same-bools false true e = let z : ◌≡◌ {A = Bool} false true = e in cc
same-bools false false e = refl

agree-same : (s t : CellView) → agree s t ≡ true → IsSameView s t
agree-same s t e =
    let front = and-first (same_bool s.full t.full && agree_if_named same_cell s.cell t.cell) (agree_if_named same_node s.node t.node) e in
    record {
      full = bools-same s.full t.full (and-first (same_bool s.full t.full) (agree_if_named same_cell s.cell t.cell) front);
      cell = told-same same_cell same_cell-true s.cell t.cell (and-second (same_bool s.full t.full) (agree_if_named same_cell s.cell t.cell) front);
      node = told-same same_node same_node-true s.node t.node (and-second (same_bool s.full t.full && agree_if_named same_cell s.cell t.cell) (agree_if_named same_node s.node t.node) e);
    }

same-agree : (s t : CellView) → IsSameView s t → agree s t ≡ true
same-agree s t h = λ i. (same-bools s.full t.full h.full i && same-told same_cell same_cell-itself s.cell t.cell h.cell i) && same-told same_node same_node-itself s.node t.node h.node i

-- ## The first place

-- what a search answers is the first place at which there is a difference
abbrev pub Tells : List CellView → List CellView → Option ℕ → Type 0
Tells xs ys None = (k : ℕ) → DifferAt xs ys k → ⊥
Tells xs ys (Some k) = IsFirstPlace (DifferAt xs ys) k

one_further : (s t : CellView) (ss ts : List CellView) → IsSameView s t → (o : Option ℕ) → Tells ss ts o → Tells (s ∷ ss) (t ∷ ts) (option_map (λ k. k + 1) o)
one_further s t ss ts e None h = go
  where
    go : (k : ℕ) → DifferAt (s ∷ ss) (t ∷ ts) k → ⊥
    go zero d = d e
    go (suc k) d = h k d
one_further s t ss ts e (Some k) h = (subst (DifferAt (s ∷ ss) (t ∷ ts)) next h.0, before)
  where
    next : suc k ≡ k + 1
    next = omega arith

    before : (j : ℕ) → j < k + 1 → DifferAt (s ∷ ss) (t ∷ ts) j → ⊥
    before zero l d = d e
    before (suc j) l d = h.1 j (omega (arith, l)) d

pub first_difference-tells : (xs ys : List CellView) → Tells xs ys (first_difference xs ys)
first_difference-tells [] [] = none
  where
    none : (k : ℕ) → DifferAt [] [] k → ⊥
    none zero d = d
    none (suc k) d = d
first_difference-tells [] (t ∷ ts) = (tt, λ j l. absurd (omega (arith, l)))
first_difference-tells (s ∷ ss) [] = (tt, λ j l. absurd (omega (arith, l)))
first_difference-tells (s ∷ ss) (t ∷ ts) = elim (agree s t) as (λ b. agree s t ≡ b → Tells (s ∷ ss) (t ∷ ts) (cond b (option_map (λ k. k + 1) (first_difference ss ts)) (Some 0))) [
  | true ↦ (λ e. one_further s t ss ts (agree-same s t e) (first_difference ss ts) (first_difference-tells ss ts))
  | false ↦ (λ e. ((λ h. let z : ◌≡◌ {A = Bool} false true = sym e ∙ same-agree s t h in cc), λ j l. absurd (omega (arith, l))))
] refl

-- a refusal by the search is one by the differences
pub apart_where : {T : Type 0} (xs ys : List CellView) (r : Result T (Or Apart)) → IsApart (first_difference xs ys) r → IsApartWhere r (DifferAt xs ys)
apart_where xs ys (Ok v) h = subst (Tells xs ys) h (first_difference-tells xs ys)
apart_where xs ys (Err (Fault a)) h = subst (Tells xs ys) h (first_difference-tells xs ys)
apart_where xs ys (Err NoMemory) h = tt
