-- Seats behind an entry that is no commit.
use Rattle.std.proofs.Common.{◌≡◌, ◌≤◌, ◌+◌, ◌==◌, ℕ, Bool, true, false, cond, max, List, [], ◌∷◌, ◌++◌, length, length-append, drop, Option, Some, None, refl, sym, ap, ◌∙◌, subst, arith}
use Rattle.std.specs.List.{cons_option}
use Rattle.std.proofs.lemmas.Bool.Decides.{nat_tests}
use Rattle.std.proofs.lemmas.List.{append-nil, take_all, drop_all}
use Rattle.std.proofs.lemmas.List.Sums.{fold_push}
use Rattle.st_lists.specs.declared.lists.Body.{Body}
use Rattle.st_lists.specs.declared.lists.Body.TheVariants.{Ack, Join}
use Rattle.st_lists.specs.declared.lists.Entry.{Entry}
use Rattle.st_lists.specs.Log.{commit_in, commits_by, commits_in, connected_after, connected_by, is_connected, known_reference, log_with, reference_in, with_reference}
use Rattle.st_lists.proofs.Logs.{by_none, entered_commits, entered_front, entered_rest, last_entry}
use Rattle.st_log_laws.proofs.Turns.{turn_extends}
use Rattle.st_marks.specs.Document.{Document, IsSoundInForm}
use Rattle.st_marks.specs.Run.{Run}
use Rattle.st_marks.proofs.Turns.{extends_itself}
use Rattle.st_read_laws.specs.Reading.{IsStepRead}
use Rattle.st_rebaser.specs.InTurn.{none_judged, none_shown}
use Rattle.st_seats.specs.Seats.{AreAllWritten, HasSeat, HaveSeats, IsSeatAt, StandInTurn}
use Rattle.st_seats.specs.inside.Seating.{IsSeatOf}
use Rattle.st_seats.specs.declared.seat.Seat.{Seat}

module _ (l : Bool) (O : Document) (log : List Entry) (session : ℕ) (body : Body) (none : commit_in body ≡ None) where
  abbrev longer : List Entry
  longer = log_with log session body

  abbrev last : Entry
  last = last_entry log session body

  same_commits : commits_in log ≡ commits_in longer
  same_commits = sym (entered_commits log session body ∙ ap (λ o. commits_in log ++ cons_option o []) none ∙ append-nil (commits_in log))

  -- what a session sent is what it sent, up to each reference
  same_sent : (s k : ℕ) → k ≤ length log → commits_by s (drop k log) ≡ commits_by s (drop k longer)
  same_sent s k within = sym (entered_rest log session body s k within ∙ ap (λ Ns. commits_by s (drop k log) ++ Ns) (by_none s last [] none) ∙ append-nil (commits_by s (drop k log)))

  -- a seat stays where it was
  pub seat_stays : (s k : ℕ) (q : Seat) → k ≤ length log → IsSeatAt l O log s k q → IsSeatAt l O longer s k q
  seat_stays s k q within h = record {
    at = h.at;
    base = h.base;
    author = h.author;
    trunk = h.trunk;
    to_base = subst (λ (es : List Entry). Run O (commits_in es) h.base) (sym (entered_front log session body k within)) h.to_base;
    sent = subst (λ Ns. StandInTurn l h.base Ns q.sent h.author) (same_sent s k within) h.sent;
    to_trunk = subst (λ Ns. Run O Ns h.trunk) same_commits h.to_trunk;
    extends = h.extends;
    bridge = h.bridge;
  }

  known_now : (s : ℕ) → known_reference s longer ≡ cond (session == s) (max (known_reference s log) (reference_in (length log + 1) body)) (known_reference s log)
  known_now s = fold_push (with_reference s) 0 log last

  on_now : (s : ℕ) → is_connected s longer ≡ cond (session == s) (connected_after (is_connected s log) body) (is_connected s log)
  on_now s = fold_push (connected_by s) false log last

  itself : (session == session) ≡ true
  itself = grind (arith, nat_tests)

  pub known_own : known_reference session longer ≡ max (known_reference session log) (reference_in (length log + 1) body)
  known_own = known_now session ∙ ap (λ b. cond b (max (known_reference session log) (reference_in (length log + 1) body)) (known_reference session log)) itself

  pub on_own : is_connected session longer ≡ connected_after (is_connected session log) body
  on_own = on_now session ∙ ap (λ b. cond b (connected_after (is_connected session log) body) (is_connected session log)) itself

  -- that of another session
  other_stays : (s : ℕ) (o : Option Seat) → (session == s) ≡ false → known_reference s log ≤ length log → HasSeat l O log s o → HasSeat l O longer s o
  other_stays s None e within gone = on_now s ∙ ap (λ b. cond b (connected_after (is_connected s log) body) (is_connected s log)) e ∙ gone
  other_stays s (Some q) e within has = (
    on_now s ∙ ap (λ b. cond b (connected_after (is_connected s log) body) (is_connected s log)) e ∙ has.0,
    subst (λ k. IsSeatAt l O longer s k q) (sym (known_now s ∙ ap (λ b. cond b (max (known_reference s log) (reference_in (length log + 1) body)) (known_reference s log)) e)) (seat_stays s (known_reference s log) q within has.1),
  )

  -- all of them, where the session of the entry has its own
  pub seats_stay : (old new : ℕ → Option Seat) → ((s : ℕ) → known_reference s log ≤ length log) → HaveSeats l O log old → HasSeat l O longer session (new session) → ((s : ℕ) → (s == session) ≡ false → new s ≡ old s)
      → HaveSeats l O longer new
  seats_stay old new within before own others s = go (s == session) refl
    where
      turned : (s == session) ≡ false → (session == s) ≡ false
      turned e = go (session == s) refl
        where
          go : (b : Bool) → (session == s) ≡ b → (session == s) ≡ false
          go false q = q
          go true q = let same : session ≡ s = grind (arith, nat_tests) in let there : (s == session) ≡ true = grind (arith, nat_tests) in cc

      go : (b : Bool) → (s == session) ≡ b → HasSeat l O longer s (new s)
      go true e = let same : session ≡ s = grind (arith, nat_tests) in subst (λ t. HasSeat l O longer t (new t)) same own
      go false e = subst (HasSeat l O longer s) (sym (others s e)) (other_stays s (old s) (turned e) (within s) (before s))

-- ## A session joins

pub seats_with : (l : Bool) (O T : Document) (log : List Entry) (session uuid : ℕ) (q : Seat) (old new : ℕ → Option Seat) → AreAllWritten O log session → Run O (commits_in log) T
    → q.reference ≡ length log + 1 → q.sent ≡ record { changes = []; verdicts = [] } → ((m : Bool) (D : Document) → IsStepRead m D D q.bridge) → HaveSeats l O log old
    → new session ≡ Some q → ((s : ℕ) → (s == session) ≡ false → new s ≡ old s) → HaveSeats l O (log_with log session (Join uuid)) new
seats_with l O T log session uuid q old new all to_trunk at none bridge before own others =
    seats_stay l O log session (Join uuid) refl old new all.within before (subst (HasSeat l O longer session) (sym own) (on_own l O log session (Join uuid) refl, seat)) others
  where
    longer : List Entry
    longer = log_with log session (Join uuid)

    known : known_reference session longer ≡ length log + 1
    known = let low = all.within session in let e = known_own l O log session (Join uuid) refl in omega (arith, low, e)

    trunk : Run O (commits_in longer) T
    trunk = subst (λ Ns. Run O Ns T) (same_commits l O log session (Join uuid) refl) to_trunk

    sound : IsSoundInForm T
    sound = (turn_extends all.written.sound all.written.commits to_trunk).after

    size : length longer ≡ length log + 1
    size = length-append log (last_entry log session (Join uuid) ∷ [])

    seat : IsSeatAt l O longer session (known_reference session longer) q
    seat = record {
      at = at ∙ sym known;
      base = T;
      author = T;
      trunk = T;
      to_base = subst (λ (es : List Entry). Run O (commits_in es) T) (sym (take_all (known_reference session longer) longer (omega (arith, known, size)))) trunk;
      sent = subst (λ (es : List Entry). StandInTurn l T (commits_by session es) q.sent T) (sym (drop_all (known_reference session longer) longer (omega (arith, known, size))))
          (subst (λ t. StandInTurn l T [] t T) (sym none) (record { shown = none_shown; judged = none_judged }));
      to_trunk = trunk;
      extends = extends_itself T sound;
      bridge = bridge l T;
    }

-- ## One tells what it has received

pub seats_told : (l : Bool) (O : Document) (log : List Entry) (session reference : ℕ) (old new : ℕ → Option Seat) → AreAllWritten O log session → is_connected session log ≡ true
    → known_reference session log ≤ reference → reference ≤ length log → HaveSeats l O log old → IsSeatOf l O log session reference (new session) → ((s : ℕ) → (s == session) ≡ false → new s ≡ old s)
    → HaveSeats l O (log_with log session (Ack reference)) new
seats_told l O log session reference old new all on up within before own others =
    seats_stay l O log session (Ack reference) refl old new all.within before (subst (HasSeat l O longer session) (sym own.1) (on_own l O log session (Ack reference) refl ∙ on, seat)) others
  where
    longer : List Entry
    longer = log_with log session (Ack reference)

    known : known_reference session longer ≡ reference
    known = let e = known_own l O log session (Ack reference) refl in omega (arith, up, e)

    seat : IsSeatAt l O longer session (known_reference session longer) own.0
    seat = subst (λ k. IsSeatAt l O longer session k own.0) (sym known) (seat_stays l O log session (Ack reference) refl session reference own.0 within own.2)
