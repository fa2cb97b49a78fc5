-- Who is there: lists in which one item changes or goes, the sessions of a log, and the clients that are connected.
use Rattle.std.proofs.Common.{◌≡◌, ◌≢◌, ◌≤◌, ◌==◌, ℕ, zero, suc, Bool, true, false, cond, max, List, [], ◌∷◌, ◌++◌, length, Some, refl, sym, ap, ◌∙◌, subst, arith, ◌⊎◌, inl, inr}
use Rattle.std.specs.List.{AllByRecursion, fold, remove, slice_get, slice_set}
use Rattle.std.proofs.lemmas.Bool.Decides.{nat_tests}
use Rattle.std.proofs.lemmas.List.Sums.{fold-append}
use Rattle.st_ids.specs.Listing.{AreDistinct, Has}
use Rattle.st_ids.proofs.Shared.{at_has}
use Rattle.st_marks.proofs.Members.{all-has, append_left, append_right, distinct-append, has-append}
use Rattle.st_lists.specs.Known.{AreConnected}
use Rattle.st_lists.specs.Log.{connected_after, connected_by, is_connected, is_text, log_with, sessions_in}
use Rattle.st_lists.specs.declared.lists.Body.{Body}
use Rattle.st_lists.specs.declared.lists.Body.TheVariants.{Join, Leave, Ack, Commit}
use Rattle.st_lists.specs.declared.lists.Client.{Client}
use Rattle.st_lists.specs.declared.lists.Entry.{Entry}
use Rattle.st_lists.proofs.Logs.{last_entry}

-- ## One item changes

module _ {X K : Type 0} (key : X → K) where
  pub set_cases : (xs : List X) (i : ℕ) (x x' y : X) → AreDistinct key xs → slice_get xs i ≡ Some x → Has (slice_set xs i x') y → (x' ≡ y) ⊎ (Has xs y × (key y ≢ key x))
  set_cases [] i x x' y d at h = cc
  set_cases (z ∷ zs) zero x x' y d at (inl e) = inl e
  set_cases (z ∷ zs) zero x x' y d at (inr h) = let same : z ≡ x = cc in inr (inr h, λ e. all-has (λ w. key w ≢ key z) zs y d.0 h (e ∙ ap key (sym same)))
  set_cases (z ∷ zs) (suc i) x x' y d at (inl e) = inr (inl e, λ q. all-has (λ w. key w ≢ key z) zs x d.0 (at_has zs i x at) (sym q ∙ ap key (sym e)))
  set_cases (z ∷ zs) (suc i) x x' y d at (inr h) = elim (set_cases zs i x x' y d.1 at h) [ inl e ↦ inl e | inr w ↦ inr (inr w.0, w.1) ]

  pub set_there : (xs : List X) (i : ℕ) (x x' y : X) → slice_get xs i ≡ Some x → Has xs y → (key y ≢ key x) → Has (slice_set xs i x') y
  set_there [] i x x' y at h apart = absurd h
  set_there (z ∷ zs) zero x x' y at (inl e) apart = let same : z ≡ x = cc in absurd (apart (ap key (sym e ∙ same)))
  set_there (z ∷ zs) zero x x' y at (inr h) apart = inr h
  set_there (z ∷ zs) (suc i) x x' y at (inl e) apart = inl e
  set_there (z ∷ zs) (suc i) x x' y at (inr h) apart = inr (set_there zs i x x' y at h apart)

  pub distinct_set : (xs : List X) (i : ℕ) (x x' : X) → slice_get xs i ≡ Some x → key x' ≡ key x → AreDistinct key xs → AreDistinct key (slice_set xs i x')
  distinct_set [] i x x' at same d = tt
  distinct_set (z ∷ zs) zero x x' at same d = let here : z ≡ x = cc in (subst (λ k. AllByRecursion (λ w. key w ≢ k) zs) (ap key here ∙ sym same) d.0, d.1)
  distinct_set (z ∷ zs) (suc i) x x' at same d = (apart zs i at d.0, distinct_set zs i x x' at same d.1)
    where
      apart : (ys : List X) (j : ℕ) → slice_get ys j ≡ Some x → AllByRecursion (λ w. key w ≢ key z) ys → AllByRecursion (λ w. key w ≢ key z) (slice_set ys j x')
      apart [] j at p = tt
      apart (y ∷ ys) zero at p = let here : y ≡ x = cc in (λ e. p.0 (ap key here ∙ sym same ∙ e), p.1)
      apart (y ∷ ys) (suc j) at p = (p.0, apart ys j at p.1)

  pub distinct_more : (xs : List X) (x : X) → AreDistinct key xs → ((y : X) → Has xs y → key y ≢ key x) → AreDistinct key (xs ++ x ∷ [])
  distinct_more xs x d apart = distinct-append key xs (x ∷ []) d (tt, tt) (λ y z h j e. last y z h j e)
    where
      last : (y z : X) → Has xs y → Has (x ∷ []) z → key z ≢ key y
      last y z h (inl same) e = apart y h (sym e ∙ ap key (sym same))
      last y z h (inr j) e = absurd j

  -- ## One item goes

  pub rest_cases : (xs : List X) (i : ℕ) (x y : X) → AreDistinct key xs → slice_get xs i ≡ Some x → Has (remove xs i) y → Has xs y × (key y ≢ key x)
  rest_cases [] i x y d at h = cc
  rest_cases (z ∷ zs) zero x y d at h = let same : z ≡ x = cc in (inr h, λ e. all-has (λ w. key w ≢ key z) zs y d.0 h (e ∙ ap key (sym same)))
  rest_cases (z ∷ zs) (suc i) x y d at (inl e) = (inl e, λ q. all-has (λ w. key w ≢ key z) zs x d.0 (at_has zs i x at) (sym q ∙ ap key (sym e)))
  rest_cases (z ∷ zs) (suc i) x y d at (inr h) = let w = rest_cases zs i x y d.1 at h in (inr w.0, w.1)

  pub rest_there : (xs : List X) (i : ℕ) (x y : X) → slice_get xs i ≡ Some x → Has xs y → (key y ≢ key x) → Has (remove xs i) y
  rest_there [] i x y at h apart = absurd h
  rest_there (z ∷ zs) zero x y at (inl e) apart = let same : z ≡ x = cc in absurd (apart (ap key (sym e ∙ same)))
  rest_there (z ∷ zs) zero x y at (inr h) apart = h
  rest_there (z ∷ zs) (suc i) x y at (inl e) apart = inl e
  rest_there (z ∷ zs) (suc i) x y at (inr h) apart = inr (rest_there zs i x y at h apart)

  pub distinct_rest : (xs : List X) (i : ℕ) → AreDistinct key xs → AreDistinct key (remove xs i)
  distinct_rest [] zero d = tt
  distinct_rest [] (suc i) d = tt
  distinct_rest (z ∷ zs) zero d = d.1
  distinct_rest (z ∷ zs) (suc i) d = (all_rest (λ w. key w ≢ key z) zs i d.0, distinct_rest zs i d.1)
    where
      all_rest : (P : X → Type 0) (ys : List X) (j : ℕ) → AllByRecursion P ys → AllByRecursion P (remove ys j)
      all_rest P [] zero p = tt
      all_rest P [] (suc j) p = tt
      all_rest P (y ∷ ys) zero p = p.1
      all_rest P (y ∷ ys) (suc j) p = (p.0, all_rest P ys j p.1)

pub set_here : {X : Type 0} (xs : List X) (i : ℕ) (x x' : X) → slice_get xs i ≡ Some x → Has (slice_set xs i x') x'
set_here [] i x x' at = cc
set_here (z ∷ zs) zero x x' at = inl refl
set_here (z ∷ zs) (suc i) x x' at = inr (set_here zs i x x' at)

-- what holds of all holds of those that stay
pub all_rest : {X : Type 0} (P : X → Type 0) (xs : List X) (i : ℕ) → AllByRecursion P xs → AllByRecursion P (remove xs i)
all_rest P [] zero p = tt
all_rest P [] (suc i) p = tt
all_rest P (x ∷ xs) zero p = p.1
all_rest P (x ∷ xs) (suc i) p = (p.0, all_rest P xs i p.1)

pub rest_fewer : {X : Type 0} (xs : List X) (i : ℕ) → length (remove xs i) ≤ length xs
rest_fewer [] zero = omega arith
rest_fewer [] (suc i) = omega arith
rest_fewer (x ∷ xs) zero = omega arith
rest_fewer (x ∷ xs) (suc i) = omega (arith, rest_fewer xs i)

-- ## The sessions of a log

abbrev higher : ℕ → Entry → ℕ
higher most e = max most e.session

most_start : (n : ℕ) (es : List Entry) → n ≤ fold higher n es
most_start n [] = omega arith
most_start n (e ∷ es) = omega (arith, most_start (max n e.session) es)

most_item : (n : ℕ) (es : List Entry) (e : Entry) → Has es e → e.session ≤ fold higher n es
most_item n [] e h = absurd h
most_item n (x ∷ es) e (inl same) = omega (arith, most_start (max n x.session) es, ap (λ (y : Entry). y.session) same)
most_item n (x ∷ es) e (inr h) = most_item (max n x.session) es e h

-- an entry's session is one of those given so far
pub session_given : (log : List Entry) (e : Entry) → Has log e → e.session ≤ sessions_in log
session_given log e h = most_item 0 log e h

pub sessions_entered : (log : List Entry) (session : ℕ) (body : Body) → sessions_in (log_with log session body) ≡ max (sessions_in log) session
sessions_entered log session body = fold-append higher 0 log (last_entry log session body ∷ [])

-- ## Who is connected

-- an entry of a session says whether it is connected, and nothing of others
connected_same : (session : ℕ) (log : List Entry) (body : Body) → is_connected session (log_with log session body) ≡ connected_after (is_connected session log) body
connected_same session log body =
    fold-append (connected_by session) false log (last_entry log session body ∷ []) ∙ ap (λ b. cond b (connected_after (is_connected session log) body) (is_connected session log)) (itself session)
  where
    itself : (n : ℕ) → (n == n) ≡ true
    itself n = grind (arith, nat_tests)

connected_other : (session other : ℕ) (log : List Entry) (body : Body) → (session == other) ≡ false → is_connected other (log_with log session body) ≡ is_connected other log
connected_other session other log body apart =
    fold-append (connected_by other) false log (last_entry log session body ∷ []) ∙ ap (λ b. cond b (connected_after (is_connected other log) body) (is_connected other log)) apart

are_same : (n m : ℕ) → (n == m) ≡ true → n ≡ m
are_same n m e = grind (arith, nat_tests)

pub are_apart : (n m : ℕ) → m ≢ n → (n == m) ≡ false
are_apart n m apart = go (n == m) refl
  where
    go : (b : Bool) → (n == m) ≡ b → (n == m) ≡ false
    go false e = e
    go true e = absurd (apart (sym (are_same n m e)))

pub not_same : (n m : ℕ) → (n == m) ≡ false → m ≢ n
not_same n m e same = let back : n ≡ m = sym same in grind (arith, nat_tests)

-- a text leaves it connected or not
pub text_stays : (b : Bool) (text : Body) → is_text text ≡ true → connected_after b text ≡ b
text_stays b (Join uuid) h = cc
text_stays b Leave h = cc
text_stays b (Ack reference) h = refl
text_stays b (Commit reference ids intent) h = refl

abbrev pub session_of : Client → ℕ
session_of c = c.session

module _ (log : List Entry) (clients : List Client) (i : ℕ) (c : Client) (at : slice_get clients i ≡ Some c) (distinct : AreDistinct session_of clients) (w : AreConnected log clients) where
  -- a client has an entry, and is now so
  pub connected_goes : (c' : Client) (body : Body) → c'.session ≡ c.session → connected_after c.connected body ≡ c'.connected → AreConnected (log_with log c.session body) (slice_set clients i c')
  connected_goes c' body session now = record {
    each = λ x h. each x (set_cases session_of clients i c c' x distinct at h);
    no_other = λ s h. no_other s (c.session == s) refl h;
  }
    where
      mine : is_connected c.session (log_with log c.session body) ≡ c'.connected
      mine = connected_same c.session log body ∙ ap (λ b. connected_after b body) (w.each c (at_has clients i c at)) ∙ now

      each : (x : Client) → (c' ≡ x) ⊎ (Has clients x × (x.session ≢ c.session)) → is_connected x.session (log_with log c.session body) ≡ x.connected
      each x (inl e) = subst (λ (y : Client). is_connected y.session (log_with log c.session body) ≡ y.connected) e (ap (λ s. is_connected s (log_with log c.session body)) session ∙ mine)
      each x (inr q) = connected_other c.session x.session log body (are_apart c.session x.session q.1) ∙ w.each x q.0

      no_other : (s : ℕ) (b : Bool) → (c.session == s) ≡ b → is_connected s (log_with log c.session body) ≡ true → (x : Client) × Has (slice_set clients i c') x × (x.session ≡ s)
      no_other s true e h = (c', set_here clients i c c' at, session ∙ are_same c.session s e)
      no_other s false e h =
          let x = w.no_other s (sym (connected_other c.session s log body e) ∙ h) in
          (x.0, set_there session_of clients i c c' x.0 at x.1 (λ q. not_same c.session s e (sym x.2 ∙ q)), x.2)

  -- it changes with no entry
  pub connected_stays : (c' : Client) → c'.session ≡ c.session → c'.connected ≡ c.connected → AreConnected log (slice_set clients i c')
  connected_stays c' session same = record {
    each = λ x h. each x (set_cases session_of clients i c c' x distinct at h);
    no_other = λ s h. no_other s (c.session == s) refl (w.no_other s h);
  }
    where
      each : (x : Client) → (c' ≡ x) ⊎ (Has clients x × (x.session ≢ c.session)) → is_connected x.session log ≡ x.connected
      each x (inl e) = subst (λ (y : Client). is_connected y.session log ≡ y.connected) e (ap (λ s. is_connected s log) session ∙ w.each c (at_has clients i c at) ∙ sym same)
      each x (inr q) = w.each x q.0

      no_other : (s : ℕ) (b : Bool) → (c.session == s) ≡ b → (x : Client) × Has clients x × (x.session ≡ s) → (x : Client) × Has (slice_set clients i c') x × (x.session ≡ s)
      no_other s true e x = (c', set_here clients i c c' at, session ∙ are_same c.session s e)
      no_other s false e x = (x.0, set_there session_of clients i c c' x.0 at x.1 (λ q. not_same c.session s e (sym x.2 ∙ q)), x.2)

  -- it goes
  pub connected_left : AreConnected (log_with log c.session Leave) (remove clients i)
  connected_left = record {
    each = λ x h. let q = rest_cases session_of clients i c x distinct at h in connected_other c.session x.session log Leave (are_apart c.session x.session q.1) ∙ w.each x q.0;
    no_other = λ s h. no_other s (c.session == s) refl h;
  }
    where
      no_other : (s : ℕ) (b : Bool) → (c.session == s) ≡ b → is_connected s (log_with log c.session Leave) ≡ true → (x : Client) × Has (remove clients i) x × (x.session ≡ s)
      no_other s true e h = let bad : false ≡ true = sym (connected_same c.session log Leave) ∙ ap (λ n. is_connected n (log_with log c.session Leave)) (are_same c.session s e) ∙ h in absurd (cc)
      no_other s false e h =
          let x = w.no_other s (sym (connected_other c.session s log Leave e) ∙ h) in
          (x.0, rest_there session_of clients i c x.0 at x.1 (λ q. not_same c.session s e (sym x.2 ∙ q)), x.2)

-- a client comes, with a session of its own
pub connected_joined : (log : List Entry) (clients : List Client) (c : Client) (uuid : ℕ) → ((x : Client) → Has clients x → x.session ≢ c.session) → c.connected ≡ true → AreConnected log clients → AreConnected (log_with log c.session (Join uuid)) (clients ++ c ∷ [])
connected_joined log clients c uuid apart on w = record {
  each = λ x h. each x (has-append clients (c ∷ []) x h);
  no_other = λ s h. no_other s (c.session == s) refl h;
}
  where
    each : (x : Client) → Has clients x ⊎ Has (c ∷ []) x → is_connected x.session (log_with log c.session (Join uuid)) ≡ x.connected
    each x (inl h) = connected_other c.session x.session log (Join uuid) (are_apart c.session x.session (apart x h)) ∙ w.each x h
    each x (inr (inl e)) = subst (λ (y : Client). is_connected y.session (log_with log c.session (Join uuid)) ≡ y.connected) e (connected_same c.session log (Join uuid) ∙ sym on)
    each x (inr (inr h)) = absurd h

    no_other : (s : ℕ) (b : Bool) → (c.session == s) ≡ b → is_connected s (log_with log c.session (Join uuid)) ≡ true → (x : Client) × Has (clients ++ c ∷ []) x × (x.session ≡ s)
    no_other s true e h = (c, append_right clients (c ∷ []) c (inl refl), are_same c.session s e)
    no_other s false e h =
        let x = w.no_other s (sym (connected_other c.session s log (Join uuid) e) ∙ h) in
        (x.0, append_left clients (c ∷ []) x.0 x.1, x.2)
