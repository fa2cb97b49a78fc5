-- What is known of a valid commit, for the seats.
use Rattle.std.proofs.Common.{◌≡◌, ◌≤◌, ◌<◌, ◌+◌, ◌-◌, ◌==◌, ℕ, Bool, true, false, cond, max, min, nat_le, nat_lt, fold, List, [], ◌∷◌, ◌++◌, length, length-append, take, Some, None, refl, sym, ap, ◌∙◌, subst, arith, inl, inr}
use Rattle.std.specs.Option.{option_map_or}
use Rattle.std.proofs.lemmas.Bool.Decides.{nat_tests}
use Rattle.std.proofs.lemmas.List.{take_all}
use Rattle.std.proofs.lemmas.List.Sums.{fold_push}
use Rattle.st_lemmas.proofs.Bools.{and-first, and-second}
use Rattle.st_clusters.specs.declared.ids.IdRange.{IdRange}
use Rattle.st_ids.specs.Listing.{Has}
use Rattle.st_lists.specs.declared.lists.Body.{Body}
use Rattle.st_lists.specs.declared.lists.Body.TheVariants.{Commit, Join}
use Rattle.st_lists.specs.declared.lists.Entry.{Entry}
use Rattle.st_lists.specs.Log.{floor, is_connected, known_reference, log_with, minimum, reference_in, with_reference}
use Rattle.st_lists.proofs.Logs.{by_own_text, entered_commits, last_entry}
use Rattle.st_lists.proofs.Minima.{connected_entry}
use Rattle.st_log_laws.specs.Turns.{FitInTurn}
use Rattle.st_log_laws.proofs.Turns.{rest}
use Rattle.st_marks.specs.declared.changes.Change.{Change}
use Rattle.st_marks.specs.declared.intents.Intent.{Intent}
use Rattle.st_marks.specs.Document.{Document}
use Rattle.st_seats.specs.Seats.{AreAllWritten, IsComing}
use Rattle.st_valid.specs.Author.{author_list}
use Rattle.st_valid.specs.Order.{is_in_order}
use Rattle.st_valid.specs.References.{is_within, reference_said}
use Rattle.st_valid.specs.declared.message.Message.{Message}
use Rattle.st_valid.specs.declared.message.ReplayCause.TheVariants as cause
use Rattle.st_valid.specs.declared.message.Said.{Said}
use Rattle.st_valid.specs.declared.message.Said.TheVariants as said
use Rattle.st_valid.proofs.AuthorsLists.{author_grows}
use Rattle.st_valid_laws.specs.Messages.{IsBodyOf, IsValidLog, no_message, one_message_more}
use Rattle.st_valid_laws.proofs.Standing.{AllStand, all_stand}
use Rattle.st_valid_laws.proofs.ValidLogs.{have_own_revisions}
use Rattle.st_manager.specs.Taking.{IsKnownAs}
use Rattle.st_manager.specs.Told.{IsNextTold, IsSoundTold, IsTrunk, Told}

-- ## References

-- what a valid message tells of its session's reference isn't above its own number
reference_low : (O : Document) (log : List Entry) (s n : ℕ) (says : Said) (body : Body) → n ≡ length log + 1 → option_map_or (is_within log n) (reference_said says) true ≡ true → IsBodyOf O log s says body → reference_in (length log + 1) body ≤ length log + 1
reference_low O log s n (said.Join uuid) body e w is = subst (λ b. reference_in (length log + 1) b ≤ length log + 1) (sym is) (omega arith)
reference_low O log s n said.Leave body e w is = subst (λ b. reference_in (length log + 1) b ≤ length log + 1) (sym is) (omega arith)
reference_low O log s n (said.Ack reference) body e w is =
    let low : nat_lt reference n ≡ true = and-second (nat_le (minimum log) reference) (nat_lt reference n) w in
    let below : reference < n = grind (arith, nat_tests) in
    subst (λ b. reference_in (length log + 1) b ≤ length log + 1) (sym is) (omega (arith, below, e))
reference_low O log s n (said.Commit reference ids None) body e w is = absurd is
reference_low O log s n (said.Commit reference ids (Some C)) body e w is =
    let low : nat_lt reference n ≡ true = and-second (nat_le (minimum log) reference) (nat_lt reference n) w in
    let below : reference < n = grind (arith, nat_tests) in
    subst (λ b. reference_in (length log + 1) b ≤ length log + 1) (sym is.1) (omega (arith, below, e))

pub number_of : (log : List Entry) (m : Message) → is_in_order log m ≡ true → m.n ≡ length log + 1
number_of log m h = grind (arith, nat_tests)

-- known references are those of entries that came
pub known_low : {O : Document} {log : List Entry} → IsValidLog O log → (s : ℕ) → known_reference s log ≤ length log
known_low no_message s = omega arith
known_low {O} (one_message_more {log} before m valid body is) s =
    let size : length (log_with log m.session body) ≡ length log + 1 = size_more log m.session body in
    let now : known_reference s (log_with log m.session body) ≡ cond (m.session == s) (max (known_reference s log) (reference_in (length log + 1) body)) (known_reference s log) = fold_push (with_reference s) 0 log (last_entry log m.session body) in
    let low = known_low before s in
    let own = reference_low O log m.session m.n m.said body (number_of log m (valid cause.Sequence)) (and-first (option_map_or (is_within log m.n) (reference_said m.said) true) _ (valid cause.Window)) is in
    go (m.session == s) size now low own
  where
    size_more : (xs : List Entry) (t : ℕ) (b : Body) → length (log_with xs t b) ≡ length xs + 1
    size_more xs t b = length-append xs (last_entry xs t b ∷ [])

    go : (b : Bool) → length (log_with log m.session body) ≡ length log + 1 → known_reference s (log_with log m.session body) ≡ cond b (max (known_reference s log) (reference_in (length log + 1) body)) (known_reference s log)
        → known_reference s log ≤ length log → reference_in (length log + 1) body ≤ length log + 1 → known_reference s (log_with log m.session body) ≤ length (log_with log m.session body)
    go true size now low own = omega (arith, size, now, low, own)
    go false size now low own = omega (arith, size, now, low)

-- ## The minimum is at most each known reference of a session that is connected

module _ (p : Entry → Bool) (k : Entry → ℕ) where
  abbrev least_with : ℕ → Entry → ℕ
  least_with least e = cond (p e) (min least (k e)) least

  not_above : (n : ℕ) (e : Entry) → least_with n e ≤ n
  not_above n e = go (p e)
    where
      go : (b : Bool) → cond b (min n (k e)) n ≤ n
      go true = omega arith
      go false = omega arith

  fold_below : (es : List Entry) (n : ℕ) → fold least_with n es ≤ n
  fold_below [] n = omega arith
  fold_below (e ∷ es) n = omega (arith, fold_below es (least_with n e), not_above n e)

  fold_low : (es : List Entry) (n : ℕ) (e : Entry) → Has es e → p e ≡ true → fold least_with n es ≤ k e
  fold_low [] n e h on = absurd h
  fold_low (x ∷ es) n e (inl q) on =
      let here : least_with n x ≤ k e = subst (λ y. least_with n y ≤ k e) (sym q) (let a : least_with n e ≡ min n (k e) = ap (λ b. cond b (min n (k e)) n) on in omega (arith, a)) in
      omega (arith, fold_below es (least_with n x), here)
  fold_low (x ∷ es) n e (inr h) on = fold_low es (least_with n x) e h on

pub minimum_low : (log : List Entry) (s : ℕ) → is_connected s log ≡ true → minimum log ≤ known_reference s log
minimum_low log s on =
    let e = connected_entry s log on in
    subst (λ t. minimum log ≤ known_reference t log) e.2 (fold_low (λ x. is_connected x.session log) (λ x. known_reference x.session log) log (length log) e.0 e.1 (ap (λ t. is_connected t log) e.2 ∙ on))

pub floor_low : (history : ℕ) (log : List Entry) (s : ℕ) → is_connected s log ≡ true → floor history log (length log) ≤ known_reference s log
floor_low history log s on =
    let all : take (length log) log ≡ log = take_all (length log) log (omega arith) in
    let low = minimum_low log s on in
    let same : floor history log (length log) ≡ minimum log - history = ap (λ (es : List Entry). minimum es - history) all in
    omega (arith, same, low)

-- ## What is told is written in turn

pub all_written : (t : Told) (session : ℕ) → IsSoundTold t → AreAllWritten t.opening t.log session
all_written t session s =
    let all = all_stand t.opening s.sound s.made s.names s.valid in
    record {
      written = record { sound = s.sound; commits = all.whole.fit; author = λ r low. (all.authors session r low).fit; own = λ e M h is. have_own_revisions s.valid e h M is };
      within = known_low s.valid;
    }

-- ## A commit that is known

module _ (t u : Told) (session reference : ℕ) (ids : IdRange) (N : Intent) (s : IsSoundTold t) (z : IsSoundTold u) (n : IsNextTold t session (Commit reference ids N) u) where
  valid_after : IsValidLog t.opening (log_with t.log session (Commit reference ids N))
  valid_after = subst (IsValidLog t.opening) n.log (subst (λ O. IsValidLog O u.log) n.opening z.valid)

  pub coming : (l : Bool) (C : Change) (T : Document) → IsTrunk t T → reference ≤ length t.log → known_reference session t.log ≤ reference
      → (k : IsKnownAs l t session reference ids C N) → IsComing l t.opening t.log session reference k.author T N C
  coming l C T to_trunk within low k = record {
    to_author = k.to_author;
    to_trunk = to_trunk;
    fits_author = author_fits.0;
    fits_trunk = trunk_fits.0;
    short_author = author_fits.1;
    short_trunk = trunk_fits.1;
    change = k.change;
  }
    where
      all : AllStand t.opening (log_with t.log session (Commit reference ids N))
      all = all_stand t.opening s.sound s.made s.names valid_after

      trunk_fits : FitInTurn T (N ∷ [])
      trunk_fits = rest (N ∷ []) to_trunk (subst (FitInTurn t.opening) (entered_commits t.log session (Commit reference ids N)) all.whole.fit)

      known_now : known_reference session (log_with t.log session (Commit reference ids N)) ≤ reference
      known_now =
          let now : known_reference session (log_with t.log session (Commit reference ids N)) ≡ cond (session == session) (max (known_reference session t.log) reference) (known_reference session t.log) = fold_push (with_reference session) 0 t.log (last_entry t.log session (Commit reference ids N)) in
          let itself : (session == session) ≡ true = grind (arith, nat_tests) in
          omega (arith, now ∙ ap (λ b. cond b (max (known_reference session t.log) reference) (known_reference session t.log)) itself, low)

      author_fits : FitInTurn k.author (N ∷ [])
      author_fits = rest (N ∷ []) k.to_author (subst (FitInTurn t.opening)
          (author_grows t.log (last_entry t.log session (Commit reference ids N) ∷ []) session reference within ∙ ap (λ Ns. author_list t.log session reference ++ Ns) (by_own_text t.log session (Commit reference ids N)))
          (all.authors session reference known_now).fit)

-- its reference isn't below the known one, and is of an entry that came
pub reference_between : (l : Bool) (t : Told) (session reference : ℕ) (ids : IdRange) (C : Change) (N : Intent) → IsKnownAs l t session reference ids C N → (known_reference session t.log ≤ reference) × (reference ≤ length t.log)
reference_between l t session reference ids C N k = go k.message.said refl k.says
  where
    m : Message
    m = k.message

    go : (says : Said) → m.said ≡ says → IsBodyOf t.opening t.log session m.said (Commit reference ids N) → (known_reference session t.log ≤ reference) × (reference ≤ length t.log)
    go says e is = both says e (subst (λ q. IsBodyOf t.opening t.log session q (Commit reference ids N)) e is)
      where
        both : (q : Said) → m.said ≡ q → IsBodyOf t.opening t.log session q (Commit reference ids N) → (known_reference session t.log ≤ reference) × (reference ≤ length t.log)
        both (said.Join uuid) e is = let bad : Commit reference ids N ≡ Join uuid = is in cc
        both said.Leave e is = cc
        both (said.Ack r) e is = cc
        both (said.Commit r is_ids None) e is = absurd is
        both (said.Commit r is_ids (Some K)) e is =
            let same : reference ≡ r = let q = is.1 in cc in
            let back : option_map_or (nat_le (known_reference m.session t.log)) (Some r) true ≡ true = subst (λ q. option_map_or (nat_le (known_reference m.session t.log)) (reference_said q) true ≡ true) e (k.valid cause.RefBack) in
            let window : is_within t.log m.n r ≡ true = subst (λ q. option_map_or (is_within t.log m.n) (reference_said q) true ≡ true) e (and-first (option_map_or (is_within t.log m.n) (reference_said m.said) true) _ (k.valid cause.Window)) in
            let up : nat_le (known_reference m.session t.log) r ≡ true = back in
            let low : nat_lt r m.n ≡ true = and-second (nat_le (minimum t.log) r) (nat_lt r m.n) window in
            let above : known_reference m.session t.log ≤ r = grind (arith, nat_tests) in
            let below : r < m.n = grind (arith, nat_tests) in
            let number : m.n ≡ length t.log + 1 = number_of t.log m (k.valid cause.Sequence) in
            let own : known_reference m.session t.log ≡ known_reference session t.log = ap (λ x. known_reference x t.log) k.of in
            (omega (arith, above, own, same), omega (arith, below, number, same))
