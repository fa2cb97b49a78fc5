-- A log with one more entry, and how many sessions are connected.
use Rattle.std.proofs.Common.{◌≡◌, ◌≢◌, ◌≤◌, ◌<◌, ◌+◌, ◌==◌, ℕ, zero, suc, Bool, true, false, cond, max, min, List, [], ◌∷◌, ◌++◌, length, map, take, Some, refl, sym, ap, ◌∙◌, subst, arith, ◌⊎◌, inl, inr}
use Rattle.std.specs.List.{AllByRecursion, fold, remove, slice_get, slice_set}
use Rattle.std.proofs.lemmas.Bool.Decides.{nat_tests}
use Rattle.std.proofs.lemmas.List.{length-map, take-append-le, take_all}
use Rattle.std.proofs.lemmas.List.Sums.{fold_push}
use Rattle.std.proofs.lemmas.Option.{slice_get_within}
use Rattle.st_ids.specs.Listing.{AreDistinct, Has}
use Rattle.st_marks.proofs.Contained.{no_longer}
use Rattle.st_marks.proofs.Members.{all-has, has-all, map-has}
use Rattle.st_lists.specs.Known.{AreConnected}
use Rattle.st_lists.specs.Log.{is_connected, known_reference, log_with, minimum, reference_in, sessions_in, with_reference}
use Rattle.st_lists.specs.declared.lists.Body.{Body}
use Rattle.st_lists.specs.declared.lists.Client.{Client}
use Rattle.st_lists.specs.declared.lists.Entry.{Entry}
use Rattle.st_lists.proofs.Logs.{last_entry}
use Rattle.st_lists.proofs.Minima.{connected_entry}
use Rattle.st_lists.proofs.Present.{rest_cases, rest_there, session_of, set_cases}
use Rattle.st_valid.specs.Room.{connected_among, connected_in}
use Rattle.st_world_messages.specs.Order.{EachBehind}

-- ## One more entry

-- an item of a list with one more at its end is one of the list, or that one
get_more : {X : Type 0} (xs : List X) (x : X) (i : ℕ) (y : X) → slice_get (xs ++ x ∷ []) i ≡ Some y → (slice_get xs i ≡ Some y) ⊎ ((i ≡ length xs) × (x ≡ y))
get_more [] x zero y e = let same : x ≡ y = cc in inr (refl, same)
get_more [] x (suc i) y e = cc
get_more (z ∷ zs) x zero y e = inl e
get_more (z ∷ zs) x (suc i) y e = elim (get_more zs x i y e) [ inl q ↦ inl q | inr q ↦ inr (ap (λ n. suc n) q.0, q.1) ]

-- what holds of each entry, and of one more behind them
pub each_more : (Q : List Entry → Entry → Type 0) (log : List Entry) (session : ℕ) (body : Body) → EachBehind Q log → Q log (last_entry log session body) → EachBehind Q (log_with log session body)
each_more Q log session body all last i e at = elim (get_more log x i e at) [ inl q ↦ before q | inr q ↦ here q.0 q.1 ]
  where
    x : Entry
    x = last_entry log session body

    before : slice_get log i ≡ Some e → Q (take i (log ++ x ∷ [])) e
    before q = subst (λ l. Q l e) (sym (take-append-le i log (x ∷ []) (omega (arith, slice_get_within log i e q)))) (all i e q)

    here : i ≡ length log → x ≡ e → Q (take i (log ++ x ∷ [])) e
    here size same =
        let whole : take i (log ++ x ∷ []) ≡ log = take-append-le i log (x ∷ []) (omega (arith, size)) ∙ take_all i log (omega (arith, size)) in
        subst (λ (y : Entry). Q (take i (log ++ x ∷ [])) y) same (subst (λ l. Q l x) (sym whole) last)

pub nothing_yet : (Q : List Entry → Entry → Type 0) → EachBehind Q []
nothing_yet Q i e at = cc

-- what is known of a session after an entry
pub known_after : (log : List Entry) (session : ℕ) (body : Body) (t : ℕ) → known_reference t (log_with log session body) ≡ cond (session == t) (max (known_reference t log) (reference_in (length log + 1) body)) (known_reference t log)
known_after log session body t = fold_push (with_reference t) 0 log (last_entry log session body)

-- of another it stays
pub known_beside : (log : List Entry) (session : ℕ) (body : Body) (t : ℕ) → (session == t) ≡ false → known_reference t (log_with log session body) ≡ known_reference t log
known_beside log session body t apart = known_after log session body t ∙ ap (λ b. cond b (max (known_reference t log) (reference_in (length log + 1) body)) (known_reference t log)) apart

-- its own is the greater of both
pub known_own : (log : List Entry) (session : ℕ) (body : Body) → known_reference session (log_with log session body) ≡ max (known_reference session log) (reference_in (length log + 1) body)
known_own log session body = known_after log session body session ∙ ap (λ b. cond b (max (known_reference session log) (reference_in (length log + 1) body)) (known_reference session log)) (itself session)
  where
    itself : (n : ℕ) → (n == n) ≡ true
    itself n = grind (arith, nat_tests)

-- none has received more than there is
pub known_within : (log : List Entry) (session : ℕ) (body : Body) → ((t : ℕ) → known_reference t log ≤ length log) → reference_in (length log + 1) body ≤ length log + 1 → (t : ℕ) → known_reference t (log_with log session body) ≤ length log + 1
known_within log session body all low t = go (session == t) (known_after log session body t)
  where
    go : (b : Bool) → known_reference t (log_with log session body) ≡ cond b (max (known_reference t log) (reference_in (length log + 1) body)) (known_reference t log) → known_reference t (log_with log session body) ≤ length log + 1
    go true e = omega (arith, e, all t, low)
    go false e = omega (arith, e, all t)

-- ## The minimum

abbrev least : {X : Type 0} → (X → Bool) → (X → ℕ) → ℕ → X → ℕ
least p g m x = cond (p x) (min m (g x)) m

at_start : {X : Type 0} (p : X → Bool) (g : X → ℕ) (n : ℕ) (xs : List X) → fold (least p g) n xs ≤ n
at_start p g n [] = omega arith
at_start {X} p g n (x ∷ xs) = go (p x) (at_start p g (least p g n x) xs)
  where
    go : (b : Bool) → fold (least p g) (least p g n x) xs ≤ cond b (min n (g x)) n → fold (least p g) (least p g n x) xs ≤ n
    go true h = omega (arith, h)
    go false h = h

counted : (b : Bool) (n k : ℕ) → b ≡ true → cond b (min n k) n ≤ k
counted true n k is = omega arith
counted false n k is = absurd (cc)

at_item : {X : Type 0} (p : X → Bool) (g : X → ℕ) (n : ℕ) (xs : List X) (x : X) → Has xs x → p x ≡ true → fold (least p g) n xs ≤ g x
at_item p g n [] x h on = absurd h
at_item p g n (y ∷ ys) x (inl e) on =
    let first : least p g n y ≤ g y = counted (p y) n (g y) (ap p e ∙ on) in
    let rest : fold (least p g) (least p g n y) ys ≤ least p g n y = at_start p g (least p g n y) ys in
    let same : g y ≡ g x = ap g e in
    omega (arith, first, rest, same)
at_item p g n (y ∷ ys) x (inr i) on = at_item p g (least p g n y) ys x i on

-- no session that is connected has a lower known reference
pub least_known : (log : List Entry) (s : ℕ) → is_connected s log ≡ true → minimum log ≤ known_reference s log
least_known log s on =
    let x = connected_entry s log on in
    let low : minimum log ≤ known_reference x.0.session log = at_item (λ (e : Entry). is_connected e.session log) (λ (e : Entry). known_reference e.session log) (length log) log x.0 x.1 (ap (λ t. is_connected t log) x.2 ∙ on) in
    let same : known_reference x.0.session log ≡ known_reference s log = ap (λ t. known_reference t log) x.2 in
    omega (arith, low, same)

-- ## Sessions that are connected

-- which of the first so many sessions are
abbrev on_among : ℕ → List Entry → List ℕ
on_among zero log = []
on_among (suc s) log = cond (is_connected (suc s) log) (suc s ∷ on_among s log) (on_among s log)

on_size : (n : ℕ) (log : List Entry) → length (on_among n log) ≡ connected_among n log
on_size zero log = refl
on_size (suc n) log = go (is_connected (suc n) log) (on_size n log)
  where
    go : (b : Bool) → length (on_among n log) ≡ connected_among n log → length (cond b (suc n ∷ on_among n log) (on_among n log)) ≡ connected_among n log + cond b 1 0
    go true rest = omega (arith, rest)
    go false rest = omega (arith, rest)

record IsOn (n : ℕ) (log : List Entry) (s : ℕ) : Type 0 where
  low : s ≤ n
  on : is_connected s log ≡ true

on_is : (n : ℕ) (log : List Entry) (s : ℕ) → Has (on_among n log) s → IsOn n log s
on_is zero log s i = absurd i
on_is (suc n) log s i = go (is_connected (suc n) log) refl (on_is n log s) i
  where
    later : IsOn n log s → IsOn (suc n) log s
    later x = record { low = omega (arith, x.low); on = x.on }

    go : (b : Bool) → is_connected (suc n) log ≡ b → (Has (on_among n log) s → IsOn n log s) → Has (cond b (suc n ∷ on_among n log) (on_among n log)) s → IsOn (suc n) log s
    go true e rest (inl same) = record { low = omega (arith, same); on = ap (λ t. is_connected t log) (sym same) ∙ e }
    go true e rest (inr j) = later (rest j)
    go false e rest j = later (rest j)

on_once : (n : ℕ) (log : List Entry) → AreDistinct (λ (k : ℕ). k) (on_among n log)
on_once zero log = tt
on_once (suc n) log = go (is_connected (suc n) log) (on_once n log)
  where
    apart : (s : ℕ) → Has (on_among n log) s → s ≢ suc n
    apart s i e = let x = on_is n log s i in absurd (omega (arith, x.low, e))

    go : (b : Bool) → AreDistinct (λ (k : ℕ). k) (on_among n log) → AreDistinct (λ (k : ℕ). k) (cond b (suc n ∷ on_among n log) (on_among n log))
    go true rest = (has-all (λ (s : ℕ). s ≢ suc n) (on_among n log) apart, rest)
    go false rest = rest

-- they are no more than clients that have them
pub connected_few : (log : List Entry) (cs : List Client) → ((s : ℕ) → is_connected s log ≡ true → (c : Client) × Has cs c × (c.session ≡ s)) → connected_in log ≤ length cs
connected_few log cs each =
    let n = sessions_in log in
    let few = no_longer (λ (k : ℕ). k) (on_among n log) (map session_of cs) (on_once n log) (λ s i. let x = each s (on_is n log s i).on in subst (Has (map session_of cs)) x.2 (map-has session_of cs x.0 x.1)) in
    omega (arith, few, on_size n log, length-map cs session_of)

rest_size : {X : Type 0} (xs : List X) (i : ℕ) (x : X) → slice_get xs i ≡ Some x → length xs ≡ length (remove xs i) + 1
rest_size [] i x e = cc
rest_size (y ∷ ys) zero x e = omega arith
rest_size (y ∷ ys) (suc i) x e = omega (arith, rest_size ys i x e)

-- where one client isn't connected, they are fewer
pub connected_fewer : (log : List Entry) (cs : List Client) (i : ℕ) (c : Client) → slice_get cs i ≡ Some c → Has cs c → c.connected ≡ false → AreConnected log cs → connected_in log < length cs
connected_fewer log cs i c at here off w =
    let few = connected_few log (remove cs i) others in
    omega (arith, few, rest_size cs i c at)
  where
    others : (s : ℕ) → is_connected s log ≡ true → (d : Client) × Has (remove cs i) d × (d.session ≡ s)
    others s on =
        let x = w.no_other s on in
        let apart : x.0.session ≢ c.session = λ e. let bad : true ≡ false = sym on ∙ ap (λ t. is_connected t log) (sym x.2 ∙ e) ∙ w.each c here ∙ off in cc in
        (x.0, rest_there session_of cs i c x.0 at x.1 apart, x.2)

-- ## All clients but one

pub all_but_set : (P Q : Client → Type 0) (cs : List Client) (i : ℕ) (c c' : Client) → AreDistinct session_of cs → slice_get cs i ≡ Some c → ((d : Client) → d.session ≢ c.session → P d → Q d) → Q c' → AllByRecursion P cs → AllByRecursion Q (slice_set cs i c')
all_but_set P Q cs i c c' once at others own all = has-all Q (slice_set cs i c') (λ d h. elim (set_cases session_of cs i c c' d once at h) [ inl e ↦ subst Q e own | inr z ↦ others d z.1 (all-has P cs d all z.0) ])

pub all_but_gone : (P Q : Client → Type 0) (cs : List Client) (i : ℕ) (c : Client) → AreDistinct session_of cs → slice_get cs i ≡ Some c → ((d : Client) → d.session ≢ c.session → P d → Q d) → AllByRecursion P cs → AllByRecursion Q (remove cs i)
all_but_gone P Q cs i c once at others all = has-all Q (remove cs i) (λ d h. let z = rest_cases session_of cs i c d once at h in others d z.1 (all-has P cs d all z.0))

pub set_size : {X : Type 0} (xs : List X) (i : ℕ) (x : X) → length (slice_set xs i x) ≡ length xs
set_size [] i x = refl
set_size (y ∷ ys) zero x = refl
set_size (y ∷ ys) (suc i) x = ap (λ n. suc n) (set_size ys i x)
