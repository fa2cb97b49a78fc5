-- The minimum of a log with one more entry is the least known reference of the sessions that are connected then.
use Rattle.std.proofs.Common.{◌≡◌, ◌≤◌, ◌+◌, ◌==◌, ℕ, Bool, true, false, cond, not, min, max, nat_le, List, [], ◌∷◌, length, length-append, refl, sym, ap, ◌∙◌, subst, arith, ◌⊎◌, inl, inr}
use Rattle.std.specs.List.{fold}
use Rattle.std.proofs.lemmas.Bool.Decides.{nat_tests}
use Rattle.std.proofs.lemmas.List.Sums.{fold_push}
use Rattle.st_ids.specs.Listing.{Has}
use Rattle.st_lemmas.proofs.Bools.{true-false}
use Rattle.st_marks.proofs.Members.{any-has, has-any}
use Rattle.st_lists.specs.Known.{known_so_far}
use Rattle.st_lists.specs.Log.{connected_after, connected_by, is_connected, known_reference, log_with, minimum, reference_in, with_reference}
use Rattle.st_lists.specs.declared.lists.Body.{Body}
use Rattle.st_lists.specs.declared.lists.Body.TheVariants.{Join, Leave, Ack}
use Rattle.st_lists.specs.declared.lists.Entry.{Entry}
use Rattle.st_lists.proofs.Logs.{last_entry}
use Rattle.st_lists.proofs.Minima.{connected_entry}
use Rattle.st_ledger.specs.Stands.{StandsFor}
use Rattle.st_ledger.specs.inside.Least.{least_after, least_of, least_without}
use Rattle.st_ledger.specs.declared.ledger.Ledger.{Ledger}

-- ## The least number of the items that count

abbrev least : {X : Type 0} → (X → Bool) → (X → ℕ) → ℕ → X → ℕ
least p g m x = cond (p x) (min m (g x)) m

at_start : {X : Type 0} (p : X → Bool) (g : X → ℕ) (n : ℕ) (xs : List X) → fold (least p g) n xs ≤ n
at_start p g n [] = omega arith
at_start {X} p g n (x ∷ xs) = go (p x) (at_start p g (least p g n x) xs)
  where
    go : (b : Bool) → fold (least p g) (least p g n x) xs ≤ cond b (min n (g x)) n → fold (least p g) (least p g n x) xs ≤ n
    go true h = omega (arith, h)
    go false h = h

counted : (b : Bool) (n k : ℕ) → b ≡ true → cond b (min n k) n ≤ k
counted true n k is = omega arith
counted false n k is = absurd (cc)

at_item : {X : Type 0} (p : X → Bool) (g : X → ℕ) (n : ℕ) (xs : List X) (x : X) → Has xs x → p x ≡ true → fold (least p g) n xs ≤ g x
at_item p g n [] x h on = absurd h
at_item p g n (y ∷ ys) x (inl e) on =
    let first : least p g n y ≤ g y = counted (p y) n (g y) (ap p e ∙ on) in
    let rest : fold (least p g) (least p g n y) ys ≤ least p g n y = at_start p g (least p g n y) ys in
    let same : g y ≡ g x = ap g e in
    omega (arith, first, rest, same)
at_item p g n (y ∷ ys) x (inr i) on = at_item p g (least p g n y) ys x i on

-- it is the start, or the number of an item that counts
abbrev IsOne : {X : Type 0} (p : X → Bool) (g : X → ℕ) (n : ℕ) (xs : List X) → ℕ → Type 0
IsOne {X} p g n xs k = (k ≡ n) ⊎ ((x : X) × Has xs x × (p x ≡ true) × (k ≡ g x))

is_one : {X : Type 0} (p : X → Bool) (g : X → ℕ) (n : ℕ) (xs : List X) → IsOne p g n xs (fold (least p g) n xs)
is_one p g n [] = inl refl
is_one {X} p g n (y ∷ ys) = go (is_one p g (least p g n y) ys) (p y) refl (nat_le n (g y)) refl
  where
    k : ℕ
    k = fold (least p g) (least p g n y) ys

    go : IsOne p g (least p g n y) ys (fold (least p g) (least p g n y) ys) → (b : Bool) → p y ≡ b → (c : Bool) → nat_le n (g y) ≡ c → IsOne p g n (y ∷ ys) (fold (least p g) (least p g n y) ys)
    go (inr w) b e c f = inr (w.0, inr w.1, w.2, w.3)
    go (inl same) false e c f = inl (same ∙ ap (λ b. cond b (min n (g y)) n) e)
    go (inl same) true e true f = let first : min n (g y) ≡ n = grind (arith, nat_tests) in inl (same ∙ ap (λ b. cond b (min n (g y)) n) e ∙ first)
    go (inl same) true e false f = let second : min n (g y) ≡ g y = grind (arith, nat_tests) in inr (y, inl refl, e, same ∙ ap (λ b. cond b (min n (g y)) n) e ∙ second)

-- ## The minimum of a log

abbrev is_on : List Entry → Entry → Bool
is_on log e = is_connected e.session log

abbrev known_of : List Entry → Entry → ℕ
known_of log e = known_reference e.session log

minimum_low : (log : List Entry) → minimum log ≤ length log
minimum_low log = at_start (is_on log) (known_of log) (length log) log

minimum_each : (log : List Entry) (s : ℕ) → is_connected s log ≡ true → minimum log ≤ known_reference s log
minimum_each log s on =
    let x = connected_entry s log on in
    let low : minimum log ≤ known_reference x.0.session log = at_item (is_on log) (known_of log) (length log) log x.0 x.1 (ap (λ t. is_connected t log) x.2 ∙ on) in
    let same : known_reference x.0.session log ≡ known_reference s log = ap (λ t. known_reference t log) x.2 in
    omega (arith, low, same)

-- a number that is at most each known reference is at most the minimum
minimum_most : (log : List Entry) (m : ℕ) → m ≤ length log → ((s : ℕ) → is_connected s log ≡ true → m ≤ known_reference s log) → m ≤ minimum log
minimum_most log m low each = go (is_one (is_on log) (known_of log) (length log) log)
  where
    go : IsOne (is_on log) (known_of log) (length log) log (minimum log) → m ≤ minimum log
    go (inl e) = omega (arith, e, low)
    go (inr w) = omega (arith, each w.0.session w.2, w.3)

-- ## With one more entry

module _ (l : Ledger) (s : ℕ) (body : Body) (log : List Entry) (stands : StandsFor l log) where
  abbrev longer : List Entry
  longer = log_with log s body

  abbrev others : ℕ → Bool
  others t = not (t == s)

  abbrev known : ℕ → ℕ
  known t = known_so_far l.known t

  n : length longer ≡ l.entries + 1
  n = omega (arith, length-append log (last_entry log s body ∷ []), stands.entries)

  known_now : (t : ℕ) → known_reference t longer ≡ cond (s == t) (max (known t) (reference_in (length log + 1) body)) (known t)
  known_now t = fold_push (with_reference t) 0 log (last_entry log s body) ∙ ap (λ k. cond (s == t) (max k (reference_in (length log + 1) body)) k) (sym (stands.known t))

  on_now : (t : ℕ) → is_connected t longer ≡ cond (s == t) (connected_after (is_connected t log) body) (is_connected t log)
  on_now t = fold_push (connected_by t) false log (last_entry log s body)

  own : (s == s) ≡ true
  own = grind (arith, nat_tests)

  known_own : known_reference s longer ≡ max (known s) (reference_in (length log + 1) body)
  known_own = known_now s ∙ ap (λ b. cond b (max (known s) (reference_in (length log + 1) body)) (known s)) own

  on_own : is_connected s longer ≡ connected_after (is_connected s log) body
  on_own = on_now s ∙ ap (λ b. cond b (connected_after (is_connected s log) body) (is_connected s log)) own

  apart : (t : ℕ) → not (t == s) ≡ true → (s == t) ≡ false
  apart t e = go (s == t) refl
    where
      go : (b : Bool) → (s == t) ≡ b → b ≡ false
      go false f = refl
      go true f = let same : s ≡ t = grind (arith, nat_tests) in absurd (true-false e (ap not (ap (λ k. k == s) (sym same) ∙ own)))

  known_other : (t : ℕ) → not (t == s) ≡ true → known_reference t longer ≡ known t
  known_other t e = known_now t ∙ ap (λ b. cond b (max (known t) (reference_in (length log + 1) body)) (known t)) (apart t e)

  on_other : (t : ℕ) → not (t == s) ≡ true → is_connected t longer ≡ is_connected t log
  on_other t e = on_now t ∙ ap (λ b. cond b (connected_after (is_connected t log) body) (is_connected t log)) (apart t e)

  -- of the sessions but that one
  abbrev rest : ℕ
  rest = least_without l.connected l.known s (l.entries + 1)

  rest_low : rest ≤ l.entries + 1
  rest_low = at_start others known (l.entries + 1) l.connected

  rest_each : (t : ℕ) → not (t == s) ≡ true → is_connected t longer ≡ true → rest ≤ known_reference t longer
  rest_each t e on =
      let x = any-has (λ (k : ℕ). k == t) l.connected (stands.connected.each t ∙ sym (on_other t e) ∙ on) in
      let q : (x.0 == t) ≡ true = x.2 in
      let same : x.0 ≡ t = grind (arith, nat_tests) in
      let there : Has l.connected t = subst (Has l.connected) same x.1 in
      omega (arith, at_item others known (l.entries + 1) l.connected t there e, known_other t e)

  rest_most : minimum longer ≤ rest
  rest_most = go (is_one others known (l.entries + 1) l.connected)
    where
      go : IsOne others known (l.entries + 1) l.connected (least_without l.connected l.known s (l.entries + 1)) → minimum (log_with log s body) ≤ least_without l.connected l.known s (l.entries + 1)
      go (inl e) = omega (arith, e, minimum_low longer, n)
      go (inr w) =
          let itself : (w.0 == w.0) ≡ true = grind (arith, nat_tests) in
          let on : is_connected w.0 log ≡ true = sym (stands.connected.each w.0) ∙ has-any (λ (k : ℕ). k == w.0) l.connected w.0 w.1 itself in
          omega (arith, minimum_each longer w.0 (on_other w.0 w.2 ∙ on), known_other w.0 w.2, w.3)

  -- that one too
  pub least_of_all : (on : Bool) (reference : ℕ) → on ≡ connected_after (is_connected s log) body → reference ≡ reference_in (length log + 1) body
      → least_after l.connected l.known s on reference (l.entries + 1) ≡ minimum (log_with log s body)
  least_of_all false reference is told = omega (arith, rest_most, minimum_most longer rest (omega (arith, rest_low, n)) each)
    where
      each : (t : ℕ) → is_connected t longer ≡ true → rest ≤ known_reference t longer
      each t on = go (not (t == s)) refl
        where
          go : (b : Bool) → not (t == s) ≡ b → rest ≤ known_reference t longer
          go true e = rest_each t e on
          go false e = absurd (off (t == s) refl e)
            where
              off : (b : Bool) → (t == s) ≡ b → not b ≡ false → ⊥
              off false f e = cc
              off true f e = let same : t ≡ s = grind (arith, nat_tests) in true-false on (ap (λ k. is_connected k longer) same ∙ on_own ∙ sym is)
  least_of_all true reference is told =
      let mine : known_reference s longer ≡ max (known s) reference = known_own ∙ ap (max (known s)) (sym told) in
      let high : minimum longer ≤ known_reference s longer = minimum_each longer s (on_own ∙ sym is) in
      omega (arith, mine, high, rest_most, minimum_most longer (min rest (max (known s) reference)) (omega (arith, rest_low, n)) each)
    where
      each : (t : ℕ) → is_connected t longer ≡ true → min rest (max (known s) reference) ≤ known_reference t longer
      each t on = go (not (t == s)) refl
        where
          go : (b : Bool) → not (t == s) ≡ b → min rest (max (known s) reference) ≤ known_reference t longer
          go true e = omega (arith, rest_each t e on)
          go false e = same (t == s) refl e
            where
              same : (b : Bool) → (t == s) ≡ b → not b ≡ false → min rest (max (known s) reference) ≤ known_reference t longer
              same false f e = cc
              same true f e =
                  let is_s : t ≡ s = grind (arith, nat_tests) in
                  let mine : known_reference t longer ≡ max (known s) reference = ap (λ k. known_reference k longer) is_s ∙ known_own ∙ ap (max (known s)) (sym told) in
                  omega (arith, mine)

-- ## The log as it is

module _ (l : Ledger) (log : List Entry) (stands : StandsFor l log) where
  abbrev now : ℕ
  now = least_of l.connected l.known l.entries

  abbrev each_one : ℕ → Bool
  each_one t = true

  abbrev of_each : ℕ → ℕ
  of_each t = known_so_far l.known t

  now_most : minimum log ≤ now
  now_most = go (is_one each_one of_each l.entries l.connected)
    where
      go : IsOne each_one of_each l.entries l.connected (least_of l.connected l.known l.entries) → minimum log ≤ least_of l.connected l.known l.entries
      go (inl e) = omega (arith, e, minimum_low log, stands.entries)
      go (inr w) =
          let itself : (w.0 == w.0) ≡ true = grind (arith, nat_tests) in
          let on : is_connected w.0 log ≡ true = sym (stands.connected.each w.0) ∙ has-any (λ (k : ℕ). k == w.0) l.connected w.0 w.1 itself in
          omega (arith, minimum_each log w.0 on, stands.known w.0, w.3)

  now_each : (t : ℕ) → is_connected t log ≡ true → now ≤ known_reference t log
  now_each t on =
      let x = any-has (λ (k : ℕ). k == t) l.connected (stands.connected.each t ∙ on) in
      let q : (x.0 == t) ≡ true = x.2 in
      let same : x.0 ≡ t = grind (arith, nat_tests) in
      let there : Has l.connected t = subst (Has l.connected) same x.1 in
      omega (arith, at_item each_one of_each l.entries l.connected t there refl, stands.known t)

  pub least_is : least_of l.connected l.known l.entries ≡ minimum log
  least_is = omega (arith, now_most, minimum_most log now (omega (arith, at_start each_one of_each l.entries l.connected, stands.entries)) now_each)

pub least_now : (l : Ledger) (log : List Entry) → StandsFor l log → least_of l.connected l.known l.entries ≡ minimum log
least_now l log stands = least_is l log stands

-- ## What is said

pub least_joined : (l : Ledger) (s uuid : ℕ) (log : List Entry) → StandsFor l log → least_after l.connected l.known s true (l.entries + 1) (l.entries + 1) ≡ minimum (log_with log s (Join uuid))
least_joined l s uuid log stands = least_of_all l s (Join uuid) log stands true (l.entries + 1) refl (ap (λ k. k + 1) stands.entries)

pub least_left : (l : Ledger) (s : ℕ) (log : List Entry) → StandsFor l log → least_after l.connected l.known s false 0 (l.entries + 1) ≡ minimum (log_with log s Leave)
least_left l s log stands = least_of_all l s Leave log stands false 0 refl refl

pub least_told : (l : Ledger) (s reference : ℕ) (on : Bool) (log : List Entry) → StandsFor l log → on ≡ is_connected s log → least_after l.connected l.known s on reference (l.entries + 1) ≡ minimum (log_with log s (Ack reference))
least_told l s reference on log stands is = least_of_all l s (Ack reference) log stands on reference is refl
