-- Where the clients that are connected are the sessions that are, the minimum is the least known reference of those clients.
use Rattle.std.proofs.Common.{◌≡◌, ◌≤◌, ◌<◌, ◌+◌, ◌-◌, ◌==◌, ℕ, zero, suc, Bool, true, false, cond, min, nat_le, List, [], ◌∷◌, ◌++◌, length, length-append, filter, take, Option, Some, unwrap_or, refl, sym, ap, ◌∙◌, arith, ◌⊎◌, inl, inr}
use Rattle.std.specs.List.{fold, slice_get}
use Rattle.std.proofs.lemmas.Bool.Decides.{nat_tests}
use Rattle.std.proofs.lemmas.List.{take-append-le, take_all}
use Rattle.st_ids.proofs.Shared.{filtered, filter-has}
use Rattle.st_ids.specs.Listing.{Has}
use Rattle.st_lists.specs.Known.{AreConnected, AreKnown, AreMinima, known_so_far}
use Rattle.st_lists.specs.Log.{connected_after, connected_by, floor, is_connected, known_reference, log_with, minimum}
use Rattle.st_lists.specs.declared.lists.Body.{Body}
use Rattle.st_lists.specs.declared.lists.Client.{Client}
use Rattle.st_lists.specs.declared.lists.Entry.{Entry}
use Rattle.st_lists.proofs.Logs.{last_entry}

-- ## The least of a start and the numbers of items

abbrev lower : {X : Type 0} → (X → ℕ) → ℕ → X → ℕ
lower g m x = min m (g x)

least_start : {X : Type 0} (g : X → ℕ) (n : ℕ) (xs : List X) → fold (lower g) n xs ≤ n
least_start g n [] = omega arith
least_start g n (x ∷ xs) = omega (arith, least_start g (min n (g x)) xs)

least_item : {X : Type 0} (g : X → ℕ) (n : ℕ) (xs : List X) (x : X) → Has xs x → fold (lower g) n xs ≤ g x
least_item g n [] x h = absurd h
least_item g n (y ∷ ys) x (inl e) = omega (arith, least_start g (min n (g y)) ys, ap g e)
least_item g n (y ∷ ys) x (inr i) = least_item g (min n (g y)) ys x i

-- it is the start, or the number of an item
least_one : {X : Type 0} (g : X → ℕ) (n : ℕ) (xs : List X) → (fold (lower g) n xs ≡ n) ⊎ ((x : X) × Has xs x × (fold (lower g) n xs ≡ g x))
least_one g n [] = inl refl
least_one {X} g n (y ∷ ys) = go (least_one g (min n (g y)) ys) (nat_le n (g y)) refl
  where
    go : ((fold (lower g) (min n (g y)) ys ≡ min n (g y)) ⊎ ((x : X) × Has ys x × (fold (lower g) (min n (g y)) ys ≡ g x))) → (b : Bool) → nat_le n (g y) ≡ b
        → (fold (lower g) n (y ∷ ys) ≡ n) ⊎ ((x : X) × Has (y ∷ ys) x × (fold (lower g) n (y ∷ ys) ≡ g x))
    go (inr w) b e = inr (w.0, inr w.1, w.2)
    go (inl same) true e = let first : min n (g y) ≡ n = grind (arith, nat_tests) in inl (same ∙ first)
    go (inl same) false e = let second : min n (g y) ≡ g y = grind (arith, nat_tests) in inr (y, inl refl, same ∙ second)

-- where each number of the second is one of the first, the least of the first isn't greater
least_of_more : {X Y : Type 0} (g : X → ℕ) (f : Y → ℕ) (n : ℕ) (xs : List X) (ys : List Y) → ((y : Y) → Has ys y → (x : X) × Has xs x × (g x ≡ f y)) → fold (lower g) n xs ≤ fold (lower f) n ys
least_of_more {X} {Y} g f n xs ys among = go (least_one f n ys)
  where
    go : ((fold (lower f) n ys ≡ n) ⊎ ((y : Y) × Has ys y × (fold (lower f) n ys ≡ f y))) → fold (lower g) n xs ≤ fold (lower f) n ys
    go (inl e) = omega (arith, least_start g n xs, e)
    go (inr w) = let x = among w.0 w.1 in omega (arith, least_item g n xs x.0 x.1, x.2, w.2)

-- those that count are those that pass the test
counted : {X : Type 0} (p : X → Bool) (g : X → ℕ) (n : ℕ) (xs : List X) → fold (λ m x. cond (p x) (min m (g x)) m) n xs ≡ fold (lower g) n (filter p xs)
counted p g n [] = refl
counted {X} p g n (x ∷ xs) = go (p x) refl (λ m. counted p g m xs)
  where
    go : (b : Bool) → p x ≡ b → ((m : ℕ) → fold (λ m y. cond (p y) (min m (g y)) m) m xs ≡ fold (lower g) m (filter p xs)) → fold (λ m y. cond (p y) (min m (g y)) m) (cond b (min n (g x)) n) xs ≡ fold (lower g) n (cond b (x ∷ filter p xs) (filter p xs))
    go true e rest = rest (min n (g x))
    go false e rest = rest n

-- ## Sessions that are connected

-- one that is connected has an entry
connected_from : (session : ℕ) (before : Bool) (log : List Entry) → fold (connected_by session) before log ≡ true → (before ≡ true) ⊎ ((e : Entry) × Has log e × (e.session ≡ session))
connected_from session before [] h = inl h
connected_from session before (e ∷ es) h = go (e.session == session) refl (connected_from session (connected_by session before e) es h)
  where
    go : (b : Bool) → (e.session == session) ≡ b → ((connected_by session before e ≡ true) ⊎ ((x : Entry) × Has es x × (x.session ≡ session))) → (before ≡ true) ⊎ ((x : Entry) × Has (e ∷ es) x × (x.session ≡ session))
    go b is (inr w) = inr (w.0, inr w.1, w.2)
    go true is (inl q) = let same : e.session ≡ session = grind (arith, nat_tests) in inr (e, inl refl, same)
    go false is (inl q) = inl (sym (ap (λ b. cond b (connected_after before e.body) before) is) ∙ q)

pub connected_entry : (session : ℕ) (log : List Entry) → is_connected session log ≡ true → (e : Entry) × Has log e × (e.session ≡ session)
connected_entry session log h = go (connected_from session false log h)
  where
    go : ((false ≡ true) ⊎ ((e : Entry) × Has log e × (e.session ≡ session))) → (e : Entry) × Has log e × (e.session ≡ session)
    go (inl q) = absurd (cc)
    go (inr w) = w

-- ## The minimum

pub minimum_of_clients : (log : List Entry) (clients : List Client) → AreConnected log clients → fold (λ least (c : Client). cond c.connected (min least (known_reference c.session log)) least) (length log) clients ≡ minimum log
minimum_of_clients log clients w = counted (λ (c : Client). c.connected) by_client (length log) clients ∙ both ∙ sym (counted is_on by_entry (length log) log)
  where
    is_on : Entry → Bool
    is_on e = is_connected e.session log

    by_client : Client → ℕ
    by_client c = known_reference c.session log

    by_entry : Entry → ℕ
    by_entry e = known_reference e.session log

    there : List Client
    there = filter (λ (c : Client). c.connected) clients

    client_of : (e : Entry) → Has (filter is_on log) e → (c : Client) × Has there c × (by_client c ≡ by_entry e)
    client_of e i =
        let on = filtered is_on log e i in
        let c = w.no_other e.session on.1 in
        let mine : c.0.connected ≡ true = sym (w.each c.0 c.1) ∙ ap (λ s. is_connected s log) c.2 ∙ on.1 in
        (c.0, filter-has (λ (c : Client). c.connected) clients c.0 c.1 mine, ap (λ s. known_reference s log) c.2)

    entry_of : (c : Client) → Has there c → (e : Entry) × Has (filter is_on log) e × (by_entry e ≡ by_client c)
    entry_of c i =
        let on = filtered (λ (c : Client). c.connected) clients c i in
        let mine : is_connected c.session log ≡ true = w.each c on.0 ∙ on.1 in
        let e = connected_entry c.session log mine in
        (e.0, filter-has is_on log e.0 e.1 (ap (λ s. is_connected s log) e.2 ∙ mine), ap (λ s. known_reference s log) e.2)

    low : fold (lower by_client) (length log) there ≤ fold (lower by_entry) (length log) (filter is_on log)
    low = least_of_more by_client by_entry (length log) there (filter is_on log) client_of

    high : fold (lower by_entry) (length log) (filter is_on log) ≤ fold (lower by_client) (length log) there
    high = least_of_more by_entry by_client (length log) (filter is_on log) there entry_of

    both : fold (lower by_client) (length log) there ≡ fold (lower by_entry) (length log) (filter is_on log)
    both = omega (arith, low, high)

-- by the references that are kept
least_same : (f g : ℕ → ℕ) → ((s : ℕ) → f s ≡ g s) → (n : ℕ) (clients : List Client) → fold (λ least (c : Client). cond c.connected (min least (f c.session)) least) n clients ≡ fold (λ least (c : Client). cond c.connected (min least (g c.session)) least) n clients
least_same f g same n [] = refl
least_same f g same n (c ∷ cs) =
    ap (λ m. fold (λ least (x : Client). cond x.connected (min least (f x.session)) least) (cond c.connected (min n m) n) cs) (same c.session) ∙ least_same f g same (cond c.connected (min n (g c.session)) n) cs

pub minimum_kept : (log : List Entry) (clients : List Client) (known : _) → AreKnown log known → AreConnected log clients
    → fold (λ least (c : Client). cond c.connected (min least (known_so_far known c.session)) least) (length log) clients ≡ minimum log
minimum_kept log clients known knows w = least_same (known_so_far known) (λ s. known_reference s log) knows (length log) clients ∙ minimum_of_clients log clients w

-- ## The minima after each entry

-- one more
get_front : {X : Type 0} (xs : List X) (x : X) (i : ℕ) → i < length xs → slice_get (xs ++ x ∷ []) i ≡ slice_get xs i
get_front [] x i h = absurd (omega (arith, h))
get_front (y ∷ ys) x zero h = refl
get_front (y ∷ ys) x (suc i) h = get_front ys x i (omega (arith, h))

get_last : {X : Type 0} (xs : List X) (x : X) → slice_get (xs ++ x ∷ []) (length xs) ≡ Some x
get_last [] x = refl
get_last (y ∷ ys) x = get_last ys x

pub minima_more : (log : List Entry) (minima : List ℕ) (session : ℕ) (body : Body) (m : ℕ) → m ≡ minimum (log_with log session body) → AreMinima log minima → AreMinima (log_with log session body) (minima ++ m ∷ [])
minima_more log minima session body m is w = record { size = size; each = λ i h. go i h (nat_le (i + 1) (length log)) refl }
  where
    longer : List Entry
    longer = log_with log session body

    more : length longer ≡ length log + 1
    more = omega (arith, length-append log (last_entry log session body ∷ []))

    size : length (minima ++ m ∷ []) ≡ length longer
    size = omega (arith, length-append minima (m ∷ []), w.size, more)

    go : (i : ℕ) → i < length longer → (b : Bool) → nat_le (i + 1) (length log) ≡ b → slice_get (minima ++ m ∷ []) i ≡ Some (minimum (take (i + 1) longer))
    go i h true e =
        let within : i + 1 ≤ length log = grind (arith, nat_tests) in
        get_front minima m i (omega (arith, within, w.size)) ∙ w.each i (omega (arith, within)) ∙ ap (λ es. Some (minimum es)) (sym (take-append-le (i + 1) log (last_entry log session body ∷ []) within))
    go i h false e =
        let past : length log < i + 1 = grind (arith, nat_tests) in
        let last : i ≡ length minima = omega (arith, past, h, more, w.size) in
        let whole : length longer ≤ i + 1 = omega (arith, past, more) in
        ap (slice_get (minima ++ m ∷ [])) last ∙ get_last minima m ∙ ap Some (is ∙ ap minimum (sym (take_all (i + 1) longer whole)))

-- the minimum after so many entries
pub floor_kept : (history : ℕ) (log : List Entry) (minima : List ℕ) (received least : ℕ) → AreMinima log minima → received ≤ length log → (received ≡ 0 → least ≡ 0) → (0 < received → least ≡ unwrap_or (slice_get minima (received - 1)) 0)
    → least - history ≡ floor history log received
floor_kept history log minima zero least w within first later = ap (λ n. n - history) (first refl)
floor_kept history log minima (suc i) least w within first later =
    let back : suc i - 1 ≡ i = omega arith in
    let on : i + 1 ≡ suc i = omega arith in
    ap (λ n. n - history) (later (omega arith) ∙ ap (λ n. unwrap_or (slice_get minima n) 0) back ∙ ap (λ (o : Option ℕ). unwrap_or o 0) (w.each i (omega (arith, within))) ∙ ap (λ n. minimum (take n log)) on)
