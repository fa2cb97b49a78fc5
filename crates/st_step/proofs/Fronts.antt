-- The longest front that two lists of schema entries share.
use Rattle.std.proofs.Common.{◌≡◌, ◌≢◌, ℕ, zero, suc, ◌+◌, ◌<◌, ◌≤◌, nat_eq, ◌&&◌, true, false, List, [], ◌∷◌, ◌++◌, length, take, drop, slice_get, Option, Some, None, IsSome, option_map, refl, sym, ap, ◌∙◌, subst, arith}
use Rattle.std.proofs.lemmas.Bool.Decides.{nat_tests}
use Rattle.std.proofs.lemmas.List.{take_all, take-append-drop, take_more_same}
use Rattle.std.proofs.lemmas.Option.{get_or_from_slice_get, slice_get_within}
use Rattle.std.specs.List.{last_or}
use Rattle.std.specs.Cmp.Lexicographic.{bytes_decides}
use Rattle.st_ids.specs.Order.{same_rev}
use Rattle.st_ids.specs.declared.names.Rev.{Rev}
use Rattle.st_ids.proofs.Orders.{same_rev-itself, same_rev-true}
use Rattle.st_later.specs.inside.Extending.{same_entry, same_text}
use Rattle.st_lemmas.proofs.Bools.{and-both, and-true, true-false}
use Rattle.st_marks.specs.declared.schemas.SchemaEntry.{SchemaEntry}
use Rattle.st_marks.specs.declared.schemas.SchemaStep.{SchemaStep}
use Rattle.st_marks.specs.Document.{first_of, last_of, revs}
use Rattle.st_marks.specs.Step.{IsSchemaStep}
use Rattle.st_step.specs.inside.Schemas.{IsSharedFront, agree}

-- ## Entries that agree

entry-true : (a b : SchemaEntry) → same_entry a b ≡ true → a ≡ b
entry-true a b e =
    let parts = and-true (same_rev a.rev b.rev) (same_text a.text b.text) e in
    let p : a.rev ≡ b.rev = same_rev-true a.rev b.rev parts.0 in
    let q : a.text ≡ b.text = (bytes_decides a.text b.text).0 parts.1 in
    λ i. record { rev = p i; text = q i }

entry-itself : (a : SchemaEntry) → same_entry a a ≡ true
entry-itself a = and-both (same_rev a.rev a.rev) (same_text a.text a.text) (same_rev-itself a.rev) ((bytes_decides a.text a.text).1 refl)

agree-true : (o p : Option SchemaEntry) → agree o p ≡ true → (e : SchemaEntry) × (o ≡ Some e) × (p ≡ Some e)
agree-true None p e = cc
agree-true (Some x) None e = cc
agree-true (Some x) (Some y) e = (x, refl, ap (λ z. Some z) (sym (entry-true x y e)))

agree-itself : (o p : Option SchemaEntry) (e : SchemaEntry) → o ≡ Some e → p ≡ Some e → agree o p ≡ true
agree-itself o p e f g = (λ i. agree (f i) (g i)) ∙ entry-itself e

-- ## The front grows

-- so many entries at the front are the same
pub record IsFront (before after : List SchemaEntry) (k : ℕ) : Type 0 where
  pub shared : take k before ≡ take k after
  pub within_before : k ≤ length before
  pub within_after : k ≤ length after

pub no_front : (before after : List SchemaEntry) → IsFront before after 0
no_front before after = record { shared = refl; within_before = omega arith; within_after = omega arith }

pub front_more : (before after : List SchemaEntry) (k : ℕ) → agree (slice_get before k) (slice_get after k) ≡ true → IsFront before after k → IsFront before after (k + 1)
front_more before after k a f =
    let r = agree-true (slice_get before k) (slice_get after k) a in
    let inside : k < length before = slice_get_within before k r.0 r.1 in
    let inside_after : k < length after = slice_get_within after k r.0 r.2 in
    record {
      shared = take_more_same before after k r.0 inside inside_after f.shared (get_or_from_slice_get before k r.0 r.0 r.1 ∙ sym (get_or_from_slice_get after k r.0 r.0 r.2));
      within_before = omega (arith, inside);
      within_after = omega (arith, inside_after);
    }

pub agree_within : (before after : List SchemaEntry) (k : ℕ) → agree (slice_get before k) (slice_get after k) ≡ true → k < length before
agree_within before after k a = let r = agree-true (slice_get before k) (slice_get after k) a in slice_get_within before k r.0 r.1

pub front_ends : (before after : List SchemaEntry) (k : ℕ) → agree (slice_get before k) (slice_get after k) ≡ false → IsFront before after k → IsSharedFront before after k
front_ends before after k a f = record { shared = f.shared; within_before = f.within_before; within_after = f.within_after; longest = a }

-- ## What follows it

first_drop : (xs : List SchemaEntry) (k : ℕ) → first_of (drop k xs) ≡ slice_get xs k
first_drop [] zero = refl
first_drop [] (suc k) = refl
first_drop (x ∷ xs) zero = refl
first_drop (x ∷ xs) (suc k) = first_drop xs k

past : (xs : List SchemaEntry) (k : ℕ) → slice_get xs k ≡ None → length xs ≤ k
past [] k e = omega arith
past (x ∷ xs) zero e = cc
past (x ∷ xs) (suc k) e = omega (arith, past xs k e)

last_there : (r : Rev) (rs : List Rev) → IsSome (last_or (Some r) rs)
last_there r [] = refl
last_there r (q ∷ rs) = last_there q rs

module _ (before after : List SchemaEntry) (begun : IsSome (first_of before)) (alike : first_of before ≡ first_of after) (k : ℕ) (f : IsSharedFront before after k) where
  -- the front has an entry
  has_last : (o : Option SchemaEntry) → first_of before ≡ o → (j : ℕ) → j ≡ k → (xs : List SchemaEntry) → xs ≡ before → IsSome (last_of (revs (take j xs)))
  has_last None is j e xs is_xs = absurd (let bad : false ≡ true = subst IsSome is begun in cc)
  has_last (Some x) is zero e xs is_xs = absurd (true-false (agree-itself (slice_get before k) (slice_get after k) x
      (subst (λ i. slice_get before i ≡ Some x) e (sym (first_drop before 0) ∙ is))
      (subst (λ i. slice_get after i ≡ Some x) e (sym (first_drop after 0) ∙ sym alike ∙ is))) f.longest)
  has_last (Some x) is (suc j) e [] is_xs = absurd (let bad : None ≡ Some x = ap first_of is_xs ∙ is in cc)
  has_last (Some x) is (suc j) e (y ∷ xs) is_xs = last_there y.rev (revs (take j xs))

  pub last_is : IsSome (last_of (revs (take k before)))
  last_is = has_last (first_of before) refl k refl before refl

  pub same_lists : k ≡ length before → k ≡ length after → before ≡ after
  same_lists e g = sym (take_all k before (omega (arith, e))) ∙ f.shared ∙ take_all k after (omega (arith, g))

  differ : (k ≡ length before → k ≡ length after → ⊥) → first_of (drop k before) ≢ first_of (drop k after)
  differ more e = go (slice_get before k) refl
    where
      same : slice_get before k ≡ slice_get after k
      same = sym (first_drop before k) ∙ e ∙ first_drop after k

      go : (o : Option SchemaEntry) → slice_get before k ≡ o → ⊥
      go (Some x) is = true-false (agree-itself (slice_get before k) (slice_get after k) x is (sym same ∙ is)) f.longest
      go None is = more (omega (arith, past before k is, f.within_before)) (omega (arith, past after k (sym same ∙ is), f.within_after))

  pub step_is : (k ≡ length before → k ≡ length after → ⊥) → (o : Option Rev) → last_of (revs (take k before)) ≡ o
      → IsSchemaStep before after (option_map (λ (r : Rev). record { on = r; cut = drop k before; add = drop k after }) o)
  step_is more None is = absurd (let bad : false ≡ true = subst IsSome is last_is in cc)
  step_is more (Some r) is = (
    take k before,
    sym (take-append-drop k before),
    sym (take-append-drop k after) ∙ ap (λ l. l ++ drop k after) (sym f.shared),
    is,
    differ more,
  )

  apart : (nat_eq k (length before) && nat_eq k (length after)) ≡ false → k ≡ length before → k ≡ length after → ⊥
  apart e p q = true-false (and-both (nat_eq k (length before)) (nat_eq k (length after)) (same (length before) p) (same (length after) q)) e
    where
      same : (n : ℕ) → k ≡ n → nat_eq k n ≡ true
      same n p = grind (arith, nat_tests, p)

  pub whole_is : (nat_eq k (length before) && nat_eq k (length after)) ≡ true → before ≡ after
  whole_is e = let parts = and-true (nat_eq k (length before)) (nat_eq k (length after)) e in same_lists (told (length before) parts.0) (told (length after) parts.1)
    where
      told : (n : ℕ) → nat_eq k n ≡ true → k ≡ n
      told n p = grind (arith, nat_tests, p)

  pub behind_is : (nat_eq k (length before) && nat_eq k (length after)) ≡ false → (s : Option SchemaStep)
      → s ≡ option_map (λ (r : Rev). record { on = r; cut = drop k before; add = drop k after }) (last_of (revs (take k before))) → IsSchemaStep before after s
  behind_is e s is = subst (IsSchemaStep before after) (sym is) (step_is (apart e) (last_of (revs (take k before))) refl)
