-- Lists of commits that are ahead of a session: where they begin and end, and one more.
use Rattle.std.proofs.Common.{◌≡◌, ◌≤◌, ◌<◌, ℕ, Bool, true, false, cond, max, nat_lt, List, [], ◌∷◌, ◌++◌, filter, refl, ap, subst, arith, ◌⊎◌, inl, inr}
use Rattle.std.proofs.lemmas.Bool.Decides.{nat_tests}
use Rattle.std.proofs.lemmas.Bool.{cases_lt}
use Rattle.st_ids.specs.Listing.{Has}
use Rattle.st_ids.proofs.Shared.{filtered, filter-has}
use Rattle.st_lists.specs.declared.lists.Entry.{Entry}
use Rattle.st_marks.specs.Document.{Document}
use Rattle.st_marks.proofs.Members.{append_left, append_right, has-append}
use Rattle.st_ahead.specs.Lags.{AreAhead, IsAhead, IsOfAnother, RiseAbove}
use Rattle.st_ahead.specs.inside.Lists.{ahead_above}
use Rattle.st_ahead.specs.declared.lag.Ahead.{Ahead}

-- ## Numbers that rise

-- the first is the least
least_first : (n : ℕ) (xs : List Ahead) (x : Ahead) → RiseAbove n xs → Has xs x → n < x.n
least_first n [] x rise h = absurd h
least_first n (y ∷ ys) x rise (inl e) = subst (λ (z : Ahead). n < z.n) e rise.0
least_first n (y ∷ ys) x rise (inr h) = let a = rise.0 in let b : y.n < x.n = least_first y.n ys x rise.1 h in omega (arith, a, b)

rise_lower : (n m : ℕ) (xs : List Ahead) → n < m → RiseAbove m xs → RiseAbove n xs
rise_lower n m [] h rise = tt
rise_lower n m (x ∷ xs) h rise = (omega (arith, h, rise.0), rise.1)

passed_rise : (p : Ahead → Bool) (n : ℕ) (xs : List Ahead) → RiseAbove n xs → RiseAbove n (filter p xs)
passed_rise p n [] rise = tt
passed_rise p n (x ∷ xs) rise = go (p x) (passed_rise p x.n xs rise.1)
  where
    go : (b : Bool) → RiseAbove x.n (filter p xs) → RiseAbove n (cond b (x ∷ filter p xs) (filter p xs))
    go true later = (rise.0, later)
    go false later = rise_lower n x.n (filter p xs) rise.0 later

-- those above a number rise from it
above_rise : (n m : ℕ) (xs : List Ahead) → RiseAbove n xs → RiseAbove m (ahead_above m xs)
above_rise n m [] rise = tt
above_rise n m (x ∷ xs) rise = go (nat_lt m x.n) refl (above_rise x.n m xs rise.1)
  where
    go : (b : Bool) → nat_lt m x.n ≡ b → RiseAbove m (ahead_above m xs) → RiseAbove m (cond b (x ∷ ahead_above m xs) (ahead_above m xs))
    go true is later = let above : m < x.n = grind (arith, nat_tests) in (above, passed_rise (λ (y : Ahead). nat_lt m y.n) x.n xs rise.1)
    go false is later = later

-- more behind them
pub rise_on : (n m : ℕ) (xs ys : List Ahead) → n ≤ m → RiseAbove n xs → ((x : Ahead) → Has xs x → x.n ≤ m) → RiseAbove m ys → RiseAbove n (xs ++ ys)
rise_on n m [] [] up rise low more = tt
rise_on n m [] (y ∷ ys) up rise low more = (omega (arith, up, more.0), more.1)
rise_on n m (x ∷ xs) ys up rise low more = (rise.0, rise_on x.n m xs ys (low x (inl refl)) rise.1 (λ y h. low y (inr h)) more)

module _ (l : Bool) (O : Document) (log : List Entry) (session : ℕ) where
  -- ## Where they begin

  -- a session that has received more
  pub begin_later : (behind last reference : ℕ) (xs : List Ahead) → behind ≤ reference → AreAhead l O log session behind last xs → AreAhead l O log session reference (max last reference) (ahead_above reference xs)
  begin_later behind last reference xs up h = record {
    rise = above_rise behind reference xs h.rise;
    each = λ x i. let a = h.each x (filtered passes xs x i).0 in (omega (arith, a.0), a.1);
    all = all;
  }
    where
      passes : Ahead → Bool
      passes x = nat_lt reference x.n

      all : (n : ℕ) → reference < n → n ≤ max last reference → IsOfAnother log session n → (x : Ahead) × Has (ahead_above reference xs) x × (x.n ≡ n)
      all n above within o =
          let x = h.all n (omega (arith, up, above)) (omega (arith, above, within)) o in
          let high : reference < x.0.n = omega (arith, above, x.2) in
          let yes : nat_lt reference x.0.n ≡ true = grind (arith, nat_tests) in
          (x.0, filter-has passes xs x.0 x.1 yes, x.2)

  -- behind the first one
  pub first_goes : (behind last : ℕ) (x : Ahead) (xs : List Ahead) → AreAhead l O log session behind last (x ∷ xs) → AreAhead l O log session x.n last xs
  first_goes behind last x xs h = record { rise = h.rise.1; each = λ y i. h.each y (inr i); all = all }
    where
      all : (n : ℕ) → x.n < n → n ≤ last → IsOfAnother log session n → (y : Ahead) × Has xs y × (y.n ≡ n)
      all n above within o = go (h.all n (omega (arith, h.rise.0, above)) within o)
        where
          go : (y : Ahead) × Has (x ∷ xs) y × (y.n ≡ n) → (y : Ahead) × Has xs y × (y.n ≡ n)
          go (y, inl e, q) = let same : x.n ≡ y.n = ap (λ (z : Ahead). z.n) e in absurd (omega (arith, same, q, above))
          go (y, inr i, q) = (y, i, q)

  -- no commit of another stands before the first one
  pub none_before : (behind last : ℕ) (x : Ahead) (xs : List Ahead) → AreAhead l O log session behind last (x ∷ xs) → (k : ℕ) → behind < k → k < x.n → IsOfAnother log session k → ⊥
  none_before behind last x xs h k above before o = go (h.all k above (let a = (h.each x (inl refl)).0 in omega (arith, a, before)) o)
    where
      go : (y : Ahead) × Has (x ∷ xs) y × (y.n ≡ k) → ⊥
      go (y, inl e, q) = let same : x.n ≡ y.n = ap (λ (z : Ahead). z.n) e in omega (arith, same, q, before)
      go (y, inr i, q) = let later : x.n < y.n = least_first x.n xs y h.rise.1 i in omega (arith, later, q, before)

  -- ## Where they end

  -- none of them is there
  pub none_ahead : (behind last : ℕ) → ((k : ℕ) → behind < k → k ≤ last → IsOfAnother log session k → ⊥) → AreAhead l O log session behind last []
  none_ahead behind last none = record { rise = tt; each = λ x h. absurd h; all = λ n above within o. absurd (none n above within o) }

  -- up to a later number, where no other one stands between
  pub end_later : (behind last later : ℕ) (xs : List Ahead) → last ≤ later → ((k : ℕ) → last < k → k ≤ later → IsOfAnother log session k → ⊥) → AreAhead l O log session behind last xs → AreAhead l O log session behind later xs
  end_later behind last later xs up none h = record { rise = h.rise; each = λ x i. let a = h.each x i in (omega (arith, a.0, up), a.1); all = all }
    where
      all : (n : ℕ) → behind < n → n ≤ later → IsOfAnother log session n → (x : Ahead) × Has xs x × (x.n ≡ n)
      all n above within o = elim (cases_lt last n) [
        | inl past ↦ absurd (none n past within o)
        | inr there ↦ h.all n above there o
      ]

  -- more of them
  pub more_ahead : (behind last later : ℕ) (xs ys : List Ahead) → behind ≤ last → last ≤ later → AreAhead l O log session behind last xs → AreAhead l O log session last later ys → AreAhead l O log session behind later (xs ++ ys)
  more_ahead behind last later xs ys up on h g = record { rise = rise_on behind last xs ys up h.rise (λ x i. (h.each x i).0) g.rise; each = each; all = all }
    where
      each : (x : Ahead) → Has (xs ++ ys) x → (x.n ≤ later) × IsAhead l O log session x
      each x i = go (has-append xs ys x i)
        where
          go : Has xs x ⊎ Has ys x → (x.n ≤ later) × IsAhead l O log session x
          go (inl j) = let a = h.each x j in (omega (arith, a.0, on), a.1)
          go (inr j) = g.each x j

      all : (n : ℕ) → behind < n → n ≤ later → IsOfAnother log session n → (x : Ahead) × Has (xs ++ ys) x × (x.n ≡ n)
      all n above within o = elim (cases_lt last n) [
        | inl past ↦ let x = g.all n past within o in (x.0, append_right xs ys x.0 x.1, x.2)
        | inr there ↦ let x = h.all n above there o in (x.0, append_left xs ys x.0 x.1, x.2)
      ]

  -- one of them alone
  pub one_ahead : (behind : ℕ) (x : Ahead) → behind < x.n → IsAhead l O log session x → ((k : ℕ) → behind < k → k < x.n → IsOfAnother log session k → ⊥) → AreAhead l O log session behind x.n (x ∷ [])
  one_ahead behind x above is none = record { rise = (above, tt); each = each; all = all }
    where
      each : (y : Ahead) → Has (x ∷ []) y → (y.n ≤ x.n) × IsAhead l O log session y
      each y (inl e) = let same : x.n ≡ y.n = ap (λ (z : Ahead). z.n) e in (omega (arith, same), subst (IsAhead l O log session) e is)
      each y (inr h) = absurd h

      all : (n : ℕ) → behind < n → n ≤ x.n → IsOfAnother log session n → (y : Ahead) × Has (x ∷ []) y × (y.n ≡ n)
      all n up within o = elim (cases_lt n x.n) [
        | inl low ↦ absurd (none n up low o)
        | inr there ↦ (x, inl refl, omega (arith, within, there))
      ]
