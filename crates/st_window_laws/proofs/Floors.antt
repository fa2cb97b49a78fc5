-- The minimum never falls as entries come, and so the floor doesn't.
use Rattle.std.proofs.Common.{◌≡◌, ◌≤◌, ◌<◌, ◌+◌, ◌==◌, ℕ, Bool, true, false, cond, min, max, List, [], ◌∷◌, ◌++◌, length, length-append, take, Some, refl, sym, ap, ◌∙◌, subst, arith, inl, inr}
use Rattle.std.specs.List.{fold, slice_get}
use Rattle.std.proofs.lemmas.List.{length-take}
use Rattle.std.proofs.lemmas.List.Sums.{fold_push}
use Rattle.std.proofs.lemmas.Option.{slice_get_within}
use Rattle.st_ids.specs.Listing.{Has}
use Rattle.st_lists.specs.Log.{connected_after, connected_by, floor, is_connected, known_reference, log_with, minimum, reference_in, with_reference}
use Rattle.st_lists.specs.declared.lists.Body.{Body}
use Rattle.st_lists.specs.declared.lists.Body.TheVariants.{Join, Leave, Ack, Commit}
use Rattle.st_lists.specs.declared.lists.Entry.{Entry}
use Rattle.st_lists.proofs.Logs.{last_entry, take-get}
use Rattle.st_lists.proofs.Minima.{connected_entry}

-- ## The least number of the items that count

abbrev least : {X : Type 0} → (X → Bool) → (X → ℕ) → ℕ → X → ℕ
least p g m x = cond (p x) (min m (g x)) m

-- it is at most the start, and at most the number of each item that counts
at_start : {X : Type 0} (p : X → Bool) (g : X → ℕ) (n : ℕ) (xs : List X) → fold (least p g) n xs ≤ n
at_start p g n [] = omega arith
at_start {X} p g n (x ∷ xs) = go (p x) (at_start p g (least p g n x) xs)
  where
    go : (b : Bool) → fold (least p g) (least p g n x) xs ≤ cond b (min n (g x)) n → fold (least p g) (least p g n x) xs ≤ n
    go true h = omega (arith, h)
    go false h = h

counted : (b : Bool) (n k : ℕ) → b ≡ true → cond b (min n k) n ≤ k
counted true n k is = omega arith
counted false n k is = absurd (cc)

at_item : {X : Type 0} (p : X → Bool) (g : X → ℕ) (n : ℕ) (xs : List X) (x : X) → Has xs x → p x ≡ true → fold (least p g) n xs ≤ g x
at_item p g n [] x h on = absurd h
at_item p g n (y ∷ ys) x (inl e) on =
    let first : least p g n y ≤ g y = counted (p y) n (g y) (ap p e ∙ on) in
    let rest : fold (least p g) (least p g n y) ys ≤ least p g n y = at_start p g (least p g n y) ys in
    let same : g y ≡ g x = ap g e in
    omega (arith, first, rest, same)
at_item p g n (y ∷ ys) x (inr i) on = at_item p g (least p g n y) ys x i on

-- and it is the greatest such
at_most_least : {X : Type 0} (p : X → Bool) (g : X → ℕ) (m n : ℕ) (xs : List X) → m ≤ n → ((x : X) → Has xs x → p x ≡ true → m ≤ g x) → m ≤ fold (least p g) n xs
at_most_least p g m n [] low each = low
at_most_least {X} p g m n (x ∷ xs) low each = at_most_least p g m (least p g n x) xs (go (p x) refl) (λ y h. each y (inr h))
  where
    go : (b : Bool) → p x ≡ b → m ≤ cond b (min n (g x)) n
    go true is = let here : m ≤ g x = each x (inl refl) is in omega (arith, here, low)
    go false is = low

-- ## The minimum

abbrev is_on : List Entry → Entry → Bool
is_on log e = is_connected e.session log

abbrev known_of : List Entry → Entry → ℕ
known_of log e = known_reference e.session log

pub minimum_within : (log : List Entry) → minimum log ≤ length log
minimum_within log = at_start (is_on log) (known_of log) (length log) log

-- no session that is connected has a lower known reference
least_known : (log : List Entry) (s : ℕ) → is_connected s log ≡ true → minimum log ≤ known_reference s log
least_known log s on =
    let x = connected_entry s log on in
    let low : minimum log ≤ known_reference x.0.session log = at_item (is_on log) (known_of log) (length log) log x.0 x.1 (ap (λ t. is_connected t log) x.2 ∙ on) in
    let same : known_reference x.0.session log ≡ known_reference s log = ap (λ t. known_reference t log) x.2 in
    omega (arith, low, same)

-- what is no more than the new entry's number, and than what was known of a session that was connected, is no more than what is
-- known of it now, if it is connected now
known_now : (own : Bool) (body : Body) (n known m : ℕ) (before : Bool) → m ≤ n → (before ≡ true → m ≤ known)
    → cond own (connected_after before body) before ≡ true → m ≤ cond own (max known (reference_in n body)) known
known_now false body n known m before low old on = old on
known_now true (Join uuid) n known m before low old on = omega (arith, low)
known_now true Leave n known m before low old on = absurd (cc)
known_now true (Ack reference) n known m before low old on = let was : m ≤ known = old on in omega (arith, was)
known_now true (Commit reference ids intent) n known m before low old on = let was : m ≤ known = old on in omega (arith, was)

pub minimum_rises : (log : List Entry) (e : Entry) → e.n ≡ length log + 1 → minimum log ≤ minimum (log ++ e ∷ [])
minimum_rises log e num = at_most_least (is_on longer) (known_of longer) (minimum log) (length longer) longer start each
  where
    longer : List Entry
    longer = log ++ e ∷ []

    start : minimum log ≤ length longer
    start = omega (arith, minimum_within log, length-append log (e ∷ []))

    low : minimum log ≤ e.n
    low = omega (arith, minimum_within log, num)

    each : (x : Entry) → Has longer x → is_connected x.session longer ≡ true → minimum log ≤ known_reference x.session longer
    each x h on =
        let s = x.session in
        let known : known_reference s longer ≡ with_reference s (known_reference s log) e = fold_push (with_reference s) 0 log e in
        let there : is_connected s longer ≡ connected_by s (is_connected s log) e = fold_push (connected_by s) false log e in
        subst (λ (r : ℕ). minimum log ≤ r) (sym known)
        (known_now (e.session == s) e.body e.n (known_reference s log) (minimum log) (is_connected s log) low (least_known log s) (sym there ∙ on))

pub minimum_entered : (log : List Entry) (session : ℕ) (body : Body) → minimum log ≤ minimum (log_with log session body)
minimum_entered log session body = minimum_rises log (last_entry log session body) refl

-- ## The floor

pub floor_rises : (history i : ℕ) (log : List Entry) (e : Entry) → slice_get log i ≡ Some e → e.n ≡ i + 1 → floor history log i ≤ floor history log (i + 1)
floor_rises history i log e there num =
    let inside : i < length log = slice_get_within log i e there in
    let size : length (take i log) ≡ i = omega (arith, length-take i log, inside) in
    let up : minimum (take i log) ≤ minimum (take i log ++ e ∷ []) = minimum_rises (take i log) e (omega (arith, num, size)) in
    let same : minimum (take (i + 1) log) ≡ minimum (take i log ++ e ∷ []) = ap minimum (take-get log i e there) in
    omega (arith, up, same)

pub floor_within : (history i : ℕ) (log : List Entry) → floor history log i ≤ i
floor_within history i log =
    let low : minimum (take i log) ≤ length (take i log) = minimum_within (take i log) in
    omega (arith, low, length-take i log)
