-- For what a log has room, by its ledger.
use Rattle.std.proofs.Common.{◌≡◌, ◌≢◌, ◌≤◌, ◌<◌, ◌+◌, ◌-◌, ◌^◌, ◌==◌, ◌&&◌, ℕ, zero, suc, Bool, true, false, cond, not, is_some, min, max, nat_le, nat_lt, List, [], ◌∷◌, ◌++◌, length, length-append, Some, None, refl, sym, ap, ◌∙◌, subst, arith, inl, inr}
use Rattle.std.specs.List.{fold}
use Rattle.std.proofs.lemmas.Bool.Decides.{nat_tests}
use Rattle.st_ids.specs.Listing.{AreDistinct, Has}
use Rattle.st_marks.proofs.Contained.{no_longer}
use Rattle.st_marks.proofs.Members.{any-has, append_left, append_right, has-any, has-append, distinct-append}
use Rattle.st_lists.specs.Limits.{log_limit_passed}
use Rattle.st_lists.specs.Log.{commits_in, is_connected, sessions_in}
use Rattle.st_lists.specs.Names.{names_in}
use Rattle.st_lists.specs.declared.lists.Entry.{Entry}
use Rattle.st_lists.proofs.Minima.{connected_entry}
use Rattle.st_valid.specs.Room.{connected_among, connected_in, has_room_for_entry, has_room_for_names}
use Rattle.st_ledger.specs.Stands.{StandsFor}
use Rattle.st_ledger.specs.declared.ledger.Ledger.{Ledger}

-- ## Entries and names

less : (n : ℕ) → not (nat_le 65535 n) ≡ nat_lt n 65535
less n = go (nat_le 65535 n) (nat_lt n 65535) refl refl
  where
    go : (a b : Bool) → nat_le 65535 n ≡ a → nat_lt n 65535 ≡ b → not a ≡ b
    go true false e f = refl
    go false true e f = refl
    go true true e f = absurd (let up : 65535 ≤ n = grind (arith, nat_tests) in let low : n < 65535 = grind (arith, nat_tests) in omega (arith, up, low))
    go false false e f = absurd (let low : n < 65535 = grind (arith, nat_tests) in let up : 65535 ≤ n = grind (arith, nat_tests) in omega (arith, up, low))

within : (n : ℕ) → not (nat_lt 131072 n) ≡ nat_le n 131072
within n = go (nat_lt 131072 n) (nat_le n 131072) refl refl
  where
    go : (a b : Bool) → nat_lt 131072 n ≡ a → nat_le n 131072 ≡ b → not a ≡ b
    go true false e f = refl
    go false true e f = refl
    go true true e f = absurd (let up : 131072 < n = grind (arith, nat_tests) in let low : n ≤ 131072 = grind (arith, nat_tests) in omega (arith, up, low))
    go false false e f = absurd (let low : n ≤ 131072 = grind (arith, nat_tests) in let up : 131072 < n = grind (arith, nat_tests) in omega (arith, up, low))

some_or_none : {A : Type 0} (b : Bool) (x : A) → not (is_some (cond b (Some x) None)) ≡ not b
some_or_none true x = refl
some_or_none false x = refl

some_in_turn : {A : Type 0} (a b : Bool) (x y : A) → not (is_some (cond a (Some x) (cond b (Some y) None))) ≡ (not a && not b)
some_in_turn true b x y = refl
some_in_turn false true x y = refl
some_in_turn false false x y = refl

pub entry_of_ledger : (l : Ledger) (log : List Entry) → StandsFor l log → nat_lt l.entries 65535 ≡ has_room_for_entry log
entry_of_ledger l log stands = ap (λ n. nat_lt n 65535) stands.entries ∙ sym (some_or_none (nat_le 65535 (length log)) _ ∙ less (length log))

-- a count that stops at the greatest number is few where the count is
few : (n : ℕ) → nat_le (min n (2 ^ 64 - 1)) 2048 ≡ nat_le n 2048
few n = go (nat_le n 2048) refl
  where
    go : (b : Bool) → nat_le n 2048 ≡ b → nat_le (min n (2 ^ 64 - 1)) 2048 ≡ b
    go true e = let low : n ≤ 2048 = grind (arith, nat_tests) in let least : min n (2 ^ 64 - 1) ≤ 2048 = omega (arith, low) in grind (arith, nat_tests)
    go false e = let high : 2048 < n = grind (arith, nat_tests) in let most : 2048 < min n (2 ^ 64 - 1) = omega (arith, high) in grind (arith, nat_tests)

pub names_of_ledger : (l : Ledger) (names made : ℕ) (log : List Entry) → StandsFor l log → made ≡ min names (2 ^ 64 - 1)
    → (nat_le made 2048 && (nat_lt l.entries 65535 && nat_le (l.names + made) 131072)) ≡ has_room_for_names log names
names_of_ledger l names made log stands is = go (nat_le names 2048) refl
  where
    limit : not (is_some (log_limit_passed log names)) ≡ (nat_lt (length log) 65535 && nat_le (names_in (commits_in log) + names) 131072)
    limit = some_in_turn (nat_le 65535 (length log)) (nat_lt 131072 (names_in (commits_in log) + names)) _ _ ∙ ap (λ b. b && not (nat_lt 131072 (names_in (commits_in log) + names))) (less (length log))
        ∙ ap (λ b. nat_lt (length log) 65535 && b) (within (names_in (commits_in log) + names))

    go : (b : Bool) → nat_le names 2048 ≡ b → (nat_le made 2048 && (nat_lt l.entries 65535 && nat_le (l.names + made) 131072)) ≡ (nat_le names 2048 && not (is_some (log_limit_passed log names)))
    go false e =
        let made_few : nat_le made 2048 ≡ false = ap (λ n. nat_le n 2048) is ∙ few names ∙ e in
        ap (λ b. b && (nat_lt l.entries 65535 && nat_le (l.names + made) 131072)) made_few ∙ sym (ap (λ b. b && not (is_some (log_limit_passed log names))) e)
    go true e =
        let low : names ≤ 2048 = grind (arith, nat_tests) in
        let same : made ≡ names = omega (arith, is, low) in
        ap (λ n. nat_le n 2048 && (nat_lt l.entries 65535 && nat_le (l.names + n) 131072)) same
        ∙ ap (λ n. nat_le names 2048 && (nat_lt n 65535 && nat_le (l.names + names) 131072)) stands.entries
        ∙ ap (λ n. nat_le names 2048 && (nat_lt (length log) 65535 && nat_le (n + names) 131072)) stands.names
        ∙ ap (λ b. nat_le names 2048 && b) (sym limit)

-- ## Sessions that are connected

abbrev numbers_to : ℕ → List Entry → List ℕ
numbers_to zero log = []
numbers_to (suc k) log = numbers_to k log ++ cond (is_connected (suc k) log) (suc k ∷ []) []

counted : (k : ℕ) (log : List Entry) → length (numbers_to k log) ≡ connected_among k log
counted zero log = refl
counted (suc k) log = length-append (numbers_to k log) (cond (is_connected (suc k) log) (suc k ∷ []) []) ∙ ap (λ n. n + length (cond (is_connected (suc k) log) (suc k ∷ []) [])) (counted k log) ∙ ap (λ n. connected_among k log + n) (one (is_connected (suc k) log))
  where
    one : (b : Bool) → length (cond b (suc k ∷ []) []) ≡ cond b 1 0
    one true = refl
    one false = refl

numbers_low : (k : ℕ) (log : List Entry) (s : ℕ) → Has (numbers_to k log) s → (s ≤ k) × (is_connected s log ≡ true)
numbers_low zero log s h = absurd h
numbers_low (suc k) log s h = elim (has-append (numbers_to k log) (cond (is_connected (suc k) log) (suc k ∷ []) []) s h) [
  | inl i ↦ (let r = numbers_low k log s i in (omega (arith, r.0), r.1))
  | inr i ↦ last (is_connected (suc k) log) refl i
]
  where
    last : (b : Bool) → is_connected (suc k) log ≡ b → Has (cond b (suc k ∷ []) []) s → (s ≤ suc k) × (is_connected s log ≡ true)
    last true e (inl q) = (omega (arith, q), subst (λ t. is_connected t log ≡ true) q e)
    last true e (inr q) = absurd q
    last false e q = absurd q

numbers_have : (k : ℕ) (log : List Entry) (s : ℕ) → 1 ≤ s → s ≤ k → is_connected s log ≡ true → Has (numbers_to k log) s
numbers_have zero log s some low on = absurd (omega (arith, some, low))
numbers_have (suc k) log s some low on = go (nat_le s k) refl (λ l. numbers_have k log s some l on)
  where
    go : (b : Bool) → nat_le s k ≡ b → (s ≤ k → Has (numbers_to k log) s) → Has (numbers_to k log ++ cond (is_connected (suc k) log) (suc k ∷ []) []) s
    go true e before = append_left (numbers_to k log) (cond (is_connected (suc k) log) (suc k ∷ []) []) s (before (let l : s ≤ k = grind (arith, nat_tests) in l))
    go false e before =
        let high : k < s = grind (arith, nat_tests) in
        let same : suc k ≡ s = omega (arith, high, low) in
        let here : is_connected (suc k) log ≡ true = subst (λ t. is_connected t log ≡ true) (sym same) on in
        append_right (numbers_to k log) (cond (is_connected (suc k) log) (suc k ∷ []) []) s (subst (λ b. Has (cond b (suc k ∷ []) []) s) (sym here) (inl same))

numbers_once : (k : ℕ) (log : List Entry) → AreDistinct (λ (s : ℕ). s) (numbers_to k log)
numbers_once zero log = tt
numbers_once (suc k) log = distinct-append (λ (s : ℕ). s) (numbers_to k log) (cond (is_connected (suc k) log) (suc k ∷ []) []) (numbers_once k log) (single (is_connected (suc k) log)) (λ x y h i. apart (is_connected (suc k) log) x y (numbers_low k log x h).0 i)
  where
    single : (b : Bool) → AreDistinct (λ (s : ℕ). s) (cond b (suc k ∷ []) [])
    single true = (tt, tt)
    single false = tt

    apart : (b : Bool) (x y : ℕ) → x ≤ k → Has (cond b (suc k ∷ []) []) y → y ≢ x
    apart true x y low (inl q) e = absurd (omega (arith, low, q, e))
    apart true x y low (inr q) e = absurd q
    apart false x y low q e = absurd q

pub session_low : (log : List Entry) (e : Entry) (n : ℕ) → Has log e → e.session ≤ fold (λ most (e : Entry). max most e.session) n log
session_low [] e n h = absurd h
session_low (x ∷ xs) e n (inl q) =
    let same : x.session ≡ e.session = ap (λ (y : Entry). y.session) q in
    omega (arith, same, least_of_rest (max n x.session) xs)
  where
    least_of_rest : (m : ℕ) (es : List Entry) → m ≤ fold (λ most (e : Entry). max most e.session) m es
    least_of_rest m [] = omega arith
    least_of_rest m (y ∷ ys) = omega (arith, least_of_rest (max m y.session) ys)
session_low (x ∷ xs) e n (inr h) = session_low xs e (max n x.session) h

pub connected_counted : (l : Ledger) (log : List Entry) → StandsFor l log → length l.connected ≡ connected_in log
connected_counted l log stands =
    let up = no_longer (λ (s : ℕ). s) l.connected (numbers_to (sessions_in log) log) stands.connected.once there in
    let down = no_longer (λ (s : ℕ). s) (numbers_to (sessions_in log) log) l.connected (numbers_once (sessions_in log) log) back in
    omega (arith, up, down, counted (sessions_in log) log)
  where
    there : (s : ℕ) → Has l.connected s → Has (numbers_to (sessions_in log) log) s
    there s h =
        let itself : (s == s) ≡ true = grind (arith, nat_tests) in
        let on : is_connected s log ≡ true = sym (stands.connected.each s) ∙ has-any (λ (t : ℕ). t == s) l.connected s h itself in
        let x = connected_entry s log on in
        numbers_have (sessions_in log) log s (stands.connected.some s h) (omega (arith, session_low log x.0 0 x.1, x.2)) on

    back : (s : ℕ) → Has (numbers_to (sessions_in log) log) s → Has l.connected s
    back s h =
        let x = any-has (λ (t : ℕ). t == s) l.connected (stands.connected.each s ∙ (numbers_low (sessions_in log) log s h).1) in
        let q : (x.0 == s) ≡ true = x.2 in
        let same : x.0 ≡ s = grind (arith, nat_tests) in
        subst (Has l.connected) same x.1

pub sessions_of_ledger : (l : Ledger) (log : List Entry) → StandsFor l log → nat_lt (length l.connected) 64 ≡ nat_lt (connected_in log) 64
sessions_of_ledger l log stands = ap (λ n. nat_lt n 64) (connected_counted l log stands)

-- ## The order

pub order_of_ledger : (l : Ledger) (n : ℕ) (log : List Entry) → StandsFor l log → (n == l.entries + 1) ≡ (n == length log + 1)
order_of_ledger l n log stands = ap (λ k. n == k + 1) stands.entries
