-- Free numbers that go round, and UUIDs of version 4.
use Rattle.std.proofs.Common.{◌≡◌, ◌⊎◌, inl, inr, ◌<◌, ◌≤◌, ◌+◌, ◌-◌, ◌/◌, ◌%◌, ◌^◌, ℕ, true, false, Bool, ap, arith}
use Rattle.std.proofs.lemmas.Bool.{cases_lt}
use Rattle.std.proofs.lemmas.Bool.Decides.{nat_tests}
use Rattle.std.specs.Prelude.{nat_lt, ◌||◌}
use Rattle.st_clusters.specs.Free.{is_v4, free_number, uuid_of, ahead, free_after, spans_meet}

pub ahead_is : (a b : ℕ) → a < 2 ^ 122 → b < 2 ^ 122 → ((a ≤ b) × (ahead a b ≡ b - a)) ⊎ ((b < a) × (ahead a b ≡ b + 2 ^ 122 - a))
unfolding ahead
ahead_is a b ha hb = elim (cases_lt b a) [
  | inl l ↦ inr (l, omega arith)
  | inr g ↦ inl (g, omega arith)
]

pub after_ahead : (a b : ℕ) → a < 2 ^ 122 → b < 2 ^ 122 → free_after a (ahead a b) ≡ b
unfolding free_after
after_ahead a b ha hb = elim (ahead_is a b ha hb) [
  | inl h ↦ let e : ahead a b ≡ b - a = h.1 in omega (arith, e)
  | inr h ↦ let e : ahead a b ≡ b + 2 ^ 122 - a = h.1 in omega (arith, e)
]

after_is : (a n : ℕ) → a < 2 ^ 122 → n < 2 ^ 122 → ((a + n < 2 ^ 122) × (free_after a n ≡ a + n)) ⊎ ((2 ^ 122 ≤ a + n) × (free_after a n ≡ a + n - 2 ^ 122))
unfolding free_after
after_is a n ha hn = elim (cases_lt (a + n) (2 ^ 122)) [
  | inl l ↦ inl (l, omega arith)
  | inr g ↦ inr (g, omega arith)
]

pub after_low : (a n : ℕ) → free_after a n < 2 ^ 122
unfolding free_after
after_low a n = omega arith

pub ahead_after : (a n : ℕ) → a < 2 ^ 122 → n < 2 ^ 122 → ahead a (free_after a n) ≡ n
ahead_after a n ha hn = elim (after_is a n ha hn) [
  | inl h ↦ let e : free_after a n ≡ a + n = h.1 in
      elim (ahead_is a (free_after a n) ha (after_low a n)) [
        | inl k ↦ omega (arith, k.1, e)
        | inr k ↦ omega (arith, k.0, k.1, e, h.0)
      ]
  | inr h ↦ let e : free_after a n ≡ a + n - 2 ^ 122 = h.1 in
      elim (ahead_is a (free_after a n) ha (after_low a n)) [
        | inl k ↦ omega (arith, k.0, k.1, e, h.0)
        | inr k ↦ omega (arith, k.0, k.1, e, h.0)
      ]
]

same_test : (m n : ℕ) → (m < 2 ^ 32 → n < 2 ^ 32) → (n < 2 ^ 32 → m < 2 ^ 32) → nat_lt m (2 ^ 32) ≡ nat_lt n (2 ^ 32)
same_test m n there back = elim (cases_lt m (2 ^ 32)) [
  | inl l ↦ let also : n < 2 ^ 32 = there l in
      let one : nat_lt m (2 ^ 32) ≡ true = grind (arith, nat_tests, l) in
      let two : nat_lt n (2 ^ 32) ≡ true = grind (arith, nat_tests, also) in
      cc (one, two)
  | inr g ↦ elim (cases_lt n (2 ^ 32)) [
    | inl k ↦ let less : m < 2 ^ 32 = back k in absurd (omega (arith, less, g))
    | inr k ↦
        let one : nat_lt m (2 ^ 32) ≡ false = grind (arith, nat_tests, g) in
        let two : nat_lt n (2 ^ 32) ≡ false = grind (arith, nat_tests, k) in
        cc (one, two)
  ]
]

closer : (a b x : ℕ) → a < 2 ^ 122 → b < 2 ^ 122 → x < 2 ^ 122 → ahead a x ≤ ahead b x → ahead b x < 2 ^ 32 → ahead b a < 2 ^ 32
closer a b x ha hb hx less far = elim (ahead_is a x ha hx) [
  | inl p ↦ elim (ahead_is b x hb hx) [
    | inl q ↦ elim (ahead_is b a hb ha) [ inl r ↦ omega (arith, p.0, p.1, q.0, q.1, r.0, r.1) | inr r ↦ omega (arith, p.0, p.1, q.0, q.1, r.0, r.1) ]
    | inr q ↦ elim (ahead_is b a hb ha) [ inl r ↦ omega (arith, p.0, p.1, q.0, q.1, r.0, r.1) | inr r ↦ omega (arith, p.0, p.1, q.0, q.1, r.0, r.1) ]
  ]
  | inr p ↦ elim (ahead_is b x hb hx) [
    | inl q ↦ elim (ahead_is b a hb ha) [ inl r ↦ omega (arith, p.0, p.1, q.0, q.1, r.0, r.1) | inr r ↦ omega (arith, p.0, p.1, q.0, q.1, r.0, r.1) ]
    | inr q ↦ elim (ahead_is b a hb ha) [ inl r ↦ omega (arith, p.0, p.1, q.0, q.1, r.0, r.1) | inr r ↦ omega (arith, p.0, p.1, q.0, q.1, r.0, r.1) ]
  ]
]

-- two spans that have a number meet
pub both_meet : (a b x : ℕ) → a < 2 ^ 122 → b < 2 ^ 122 → x < 2 ^ 122 → ahead a x < 2 ^ 32 → ahead b x < 2 ^ 32 → spans_meet a b ≡ true
both_meet a b x ha hb hx near far = elim (cases_lt (ahead a x) (ahead b x)) [
  | inl l ↦ let meets : ahead b a < 2 ^ 32 = closer a b x ha hb hx (omega (arith, l)) far in grind (arith, nat_tests, meets)
  | inr g ↦ let meets : ahead a b < 2 ^ 32 = closer b a x hb ha hx g near in grind (arith, nat_tests, meets)
]

-- of two spans that begin before a number, or the numbers go round between, the later one is nearer
pub nearer_below : (a b x : ℕ) → a < 2 ^ 122 → b < 2 ^ 122 → x < 2 ^ 122 → a ≤ x → (b ≤ a) ⊎ (x < b) → ahead a x ≤ ahead b x
nearer_below a b x ha hb hx below (inl less) = elim (ahead_is a x ha hx) [
  | inl p ↦ elim (ahead_is b x hb hx) [ inl q ↦ omega (arith, p.0, p.1, q.0, q.1, less) | inr q ↦ omega (arith, p.0, p.1, q.0, q.1, less) ]
  | inr p ↦ absurd (omega (arith, p.0, below))
]
nearer_below a b x ha hb hx below (inr more) = elim (ahead_is a x ha hx) [
  | inl p ↦ elim (ahead_is b x hb hx) [ inl q ↦ omega (arith, p.0, p.1, q.0, q.1, more) | inr q ↦ omega (arith, p.0, p.1, q.0, q.1, more) ]
  | inr p ↦ absurd (omega (arith, p.0, below))
]

pub nearer_round : (a b x : ℕ) → a < 2 ^ 122 → b < 2 ^ 122 → x < 2 ^ 122 → x < a → x < b → b ≤ a → ahead a x ≤ ahead b x
nearer_round a b x ha hb hx above also less = elim (ahead_is a x ha hx) [
  | inl p ↦ absurd (omega (arith, p.0, above))
  | inr p ↦ elim (ahead_is b x hb hx) [ inl q ↦ absurd (omega (arith, q.0, also)) | inr q ↦ omega (arith, p.0, p.1, q.0, q.1, less) ]
]

-- one span has the last number of another exactly where it begins in that one
ends_within : (a b : ℕ) → a < 2 ^ 122 → b < 2 ^ 122 → nat_lt (ahead b a) (2 ^ 32) ≡ nat_lt (ahead a (free_after b (2 ^ 32 - 1))) (2 ^ 32)
ends_within a b ha hb =
    let low : free_after b (2 ^ 32 - 1) < 2 ^ 122 = after_low b (2 ^ 32 - 1) in
    elim (after_is b (2 ^ 32 - 1) hb (omega arith)) [
      | inl e ↦ elim (ahead_is b a hb ha) [
        | inl p ↦ elim (ahead_is a (free_after b (2 ^ 32 - 1)) ha low) [ inl q ↦ same_test (ahead b a) (ahead a (free_after b (2 ^ 32 - 1))) (λ h. omega (arith, e.0, e.1, p.0, p.1, q.0, q.1, h)) (λ h. omega (arith, e.0, e.1, p.0, p.1, q.0, q.1, h)) | inr q ↦ same_test (ahead b a) (ahead a (free_after b (2 ^ 32 - 1))) (λ h. omega (arith, e.0, e.1, p.0, p.1, q.0, q.1, h)) (λ h. omega (arith, e.0, e.1, p.0, p.1, q.0, q.1, h)) ]
        | inr p ↦ elim (ahead_is a (free_after b (2 ^ 32 - 1)) ha low) [ inl q ↦ same_test (ahead b a) (ahead a (free_after b (2 ^ 32 - 1))) (λ h. omega (arith, e.0, e.1, p.0, p.1, q.0, q.1, h)) (λ h. omega (arith, e.0, e.1, p.0, p.1, q.0, q.1, h)) | inr q ↦ same_test (ahead b a) (ahead a (free_after b (2 ^ 32 - 1))) (λ h. omega (arith, e.0, e.1, p.0, p.1, q.0, q.1, h)) (λ h. omega (arith, e.0, e.1, p.0, p.1, q.0, q.1, h)) ]
      ]
      | inr e ↦ elim (ahead_is b a hb ha) [
        | inl p ↦ elim (ahead_is a (free_after b (2 ^ 32 - 1)) ha low) [ inl q ↦ same_test (ahead b a) (ahead a (free_after b (2 ^ 32 - 1))) (λ h. omega (arith, e.0, e.1, p.0, p.1, q.0, q.1, h)) (λ h. omega (arith, e.0, e.1, p.0, p.1, q.0, q.1, h)) | inr q ↦ same_test (ahead b a) (ahead a (free_after b (2 ^ 32 - 1))) (λ h. omega (arith, e.0, e.1, p.0, p.1, q.0, q.1, h)) (λ h. omega (arith, e.0, e.1, p.0, p.1, q.0, q.1, h)) ]
        | inr p ↦ elim (ahead_is a (free_after b (2 ^ 32 - 1)) ha low) [ inl q ↦ same_test (ahead b a) (ahead a (free_after b (2 ^ 32 - 1))) (λ h. omega (arith, e.0, e.1, p.0, p.1, q.0, q.1, h)) (λ h. omega (arith, e.0, e.1, p.0, p.1, q.0, q.1, h)) | inr q ↦ same_test (ahead b a) (ahead a (free_after b (2 ^ 32 - 1))) (λ h. omega (arith, e.0, e.1, p.0, p.1, q.0, q.1, h)) (λ h. omega (arith, e.0, e.1, p.0, p.1, q.0, q.1, h)) ]
      ]
    ]

-- a span meets another exactly where it has the first number of that one, or the last
pub meets_by_ends : (a b : ℕ) → a < 2 ^ 122 → b < 2 ^ 122 → spans_meet a b ≡ (nat_lt (ahead a b) (2 ^ 32) || nat_lt (ahead a (free_after b (2 ^ 32 - 1))) (2 ^ 32))
meets_by_ends a b ha hb = ap (λ (t : Bool). nat_lt (ahead a b) (2 ^ 32) || t) (ends_within a b ha hb)

-- ## UUIDs

pub free_low : (u : ℕ) → u < 2 ^ 128 → free_number u < 2 ^ 122
unfolding free_number
free_low u h = omega arith

pub uuid_of_free : (u : ℕ) → u < 2 ^ 128 → is_v4 u ≡ true → uuid_of (free_number u) ≡ u
unfolding uuid_of free_number is_v4
uuid_of_free u h v4 =
    let version : u / 2 ^ 76 % 16 ≡ 4 = grind (arith, nat_tests, v4) in
    let variant : u / 2 ^ 62 % 4 ≡ 2 = grind (arith, nat_tests, v4) in
    omega (arith, version, variant)

pub free_of_uuid : (f : ℕ) → f < 2 ^ 122 → free_number (uuid_of f) ≡ f
unfolding uuid_of free_number
free_of_uuid f h = omega arith

pub uuid_is_v4 : (f : ℕ) → f < 2 ^ 122 → is_v4 (uuid_of f) ≡ true
unfolding uuid_of is_v4
uuid_is_v4 f h = grind (arith, nat_tests)
