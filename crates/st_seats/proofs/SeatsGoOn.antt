-- Seats, as a session commits.
use Rattle.std.proofs.Common.{◌≡◌, ◌≤◌, ◌==◌, ℕ, Bool, true, false, cond, max, List, [], ◌∷◌, ◌++◌, length, drop, Option, Some, None, MatchOption, refl, sym, ap, ◌∙◌, subst, arith}
use Rattle.std.proofs.lemmas.Bool.Decides.{nat_tests}
use Rattle.std.proofs.lemmas.List.{append-nil}
use Rattle.std.proofs.lemmas.List.Sums.{fold_push}
use Rattle.st_clusters.specs.declared.ids.IdRange.{IdRange}
use Rattle.st_lists.specs.declared.lists.Body.TheVariants.{Commit}
use Rattle.st_lists.specs.declared.lists.Entry.{Entry}
use Rattle.st_lists.specs.Log.{commits_by, commits_in, connected_by, is_connected, known_reference, log_with, with_reference}
use Rattle.st_lists.proofs.Logs.{by_other, by_own_text, entered_commits, entered_front, entered_rest, last_entry}
use Rattle.st_marks.specs.declared.intents.Intent.{Intent}
use Rattle.st_marks.specs.declared.steps.Step.{Step}
use Rattle.st_marks.specs.declared.verdicts.Verdict.{Verdict}
use Rattle.st_marks.specs.CarryOut.{full}
use Rattle.st_marks.specs.Document.{Document, HasShortRows, IsSoundInForm}
use Rattle.st_marks.specs.Intent.{Fits}
use Rattle.st_marks.specs.Extends.{IsExtendedBy}
use Rattle.st_marks.specs.Run.{Run, done, next}
use Rattle.st_marks.specs.Verdict.{IsVerdict, carried_document}
use Rattle.st_marks.proofs.OneVerdict.{carried_extends, one_run, run_then}
use Rattle.st_log_laws.proofs.Turns.{turn_extends}
use Rattle.st_seats.specs.inside.Following.{FollowsBut, FollowsStep}
use Rattle.st_seats.specs.inside.Seating.{IsSeatOf}
use Rattle.st_marks.proofs.Turns.{extends_on}
use Rattle.st_push.proofs.ListsPushed.{runs}
use Rattle.st_read_laws.specs.Reading.{IsRead, IsStepRead}
use Rattle.st_rebaser.specs.declared.rebaser.Effected.{Effected}
use Rattle.st_seats.specs.Seats.{AreAllWritten, HasSeat, HaveSeats, IsComing, IsEntered, IsSeatAt, IsTaken, StandInTurn}
use Rattle.st_marks.specs.declared.changes.Change.{Change}
use Rattle.st_seats.specs.declared.seat.Seat.{Seat}

module _ (l : Bool) (O : Document) (log : List Entry) (session reference : ℕ) (ids : IdRange) (N : Intent) where
  abbrev longer : List Entry
  longer = log_with log session (Commit reference ids N)

  abbrev last : Entry
  last = last_entry log session (Commit reference ids N)

  trunk_runs : (T : Document) (v : Verdict) → Run O (commits_in log) T → IsVerdict T N v → Run O (commits_in longer) (carried_document v T N)
  trunk_runs T v r is = subst (λ Ns. Run O Ns (carried_document v T N)) (sym (entered_commits log session (Commit reference ids N))) (run_then r (next v is done))

  -- that of the session, which has the commit behind those that it sent
  pub took : (q p : Seat) (C : Change) (u : Verdict) → reference ≤ length log → (s : IsSeatAt l O log session reference q) → p.reference ≡ q.reference
      → IsTaken l s.base s.author s.trunk (commits_by session (drop reference log)) N C u p → IsSeatAt l O longer session reference p
  took q p C u within s same t = record {
    at = same ∙ s.at;
    base = s.base;
    author = carried_document t.before s.author N;
    trunk = carried_document u s.trunk N;
    to_base = subst (λ (es : List Entry). Run O (commits_in es) s.base) (sym (entered_front log session (Commit reference ids N) reference within)) s.to_base;
    sent = subst (λ Ns. StandInTurn l s.base Ns p.sent (carried_document t.before s.author N)) (sym own) t.sent;
    to_trunk = trunk_runs s.trunk u s.to_trunk t.verdict;
    extends = t.extends;
    bridge = t.bridge;
  }
    where
      own : commits_by session (drop reference longer) ≡ commits_by session (drop reference log) ++ N ∷ []
      own = entered_rest log session (Commit reference ids N) session reference within ∙ ap (λ Ns. commits_by session (drop reference log) ++ Ns) (by_own_text log session (Commit reference ids N))

  -- the commit where it comes, and the seat with it
  pub committed : (A T : Document) (q p : Seat) (C X : Change) (u : Verdict) (e : Effected) → reference ≤ length log → IsSeatAt l O log session reference q → IsComing l O log session reference A T N C → p.reference ≡ q.reference
      → ((B D E : Document) (Ns : List Intent) (M : Intent) → IsSoundInForm D → IsExtendedBy D E → Fits D M → Fits E M → HasShortRows (full D M) → HasShortRows (full E M) → IsRead l D M C
      → StandInTurn l B Ns q.sent D → IsStepRead l D E q.bridge → IsTaken l B D E Ns M X u p)
      → ((D : Document) (M : Intent) → IsSoundInForm D → Fits D M → HasShortRows (full D M) → IsRead l D M X → IsVerdict D M e.verdict × IsStepRead l D (carried_document e.verdict D M) e.step)
      → IsEntered l T N X e × IsSeatAt l O longer session reference p
  committed A T q p C X u e within s coming same taken effect =
      let author : A ≡ s.author = one_run coming.to_author (run_then s.to_base (runs s.sent.shown)) in
      let trunk : T ≡ s.trunk = one_run coming.to_trunk s.to_trunk in
      let fits = subst (λ D. Fits D N) trunk coming.fits_trunk in
      let short = subst (λ D. HasShortRows (full D N)) trunk coming.short_trunk in
      let t = taken s.base s.author s.trunk (commits_by session (drop reference log)) N s.extends.before s.extends (subst (λ D. Fits D N) author coming.fits_author) fits
      (subst (λ D. HasShortRows (full D N)) author coming.short_author) short (subst (λ D. IsRead l D N C) author coming.change) s.sent s.bridge in
      let does = effect s.trunk N s.extends.after fits short t.change in (
        subst (λ D. IsEntered l D N X e) (sym trunk) (record { verdict = does.0; change = t.change; step = does.1 }),
        took q p X u within s same t,
      )

  -- what a seat becomes that follows a step of the trunk
  abbrev pub Follows : Step → Seat → Seat → Type 0
  Follows S q p = (p.reference ≡ q.reference) × (p.sent ≡ q.sent) × ((A T U : Document) → IsExtendedBy A T → IsExtendedBy T U → IsStepRead l A T q.bridge → IsStepRead l T U S → IsStepRead l A U p.bridge)

  -- that of another session
  pub followed : (s k : ℕ) (q p : Seat) (T : Document) (S : Step) (v : Verdict) → (session == s) ≡ false → k ≤ length log → IsSeatAt l O log s k q → Run O (commits_in log) T → IsVerdict T N v
      → IsExtendedBy T (carried_document v T N) → IsStepRead l T (carried_document v T N) S → Follows S q p → IsSeatAt l O longer s k p
  followed s k q p T S v other within h to_trunk is x step f =
      let same : h.trunk ≡ T = one_run h.to_trunk to_trunk in
      let up : IsExtendedBy h.author T = subst (IsExtendedBy h.author) same h.extends in
      record {
        at = f.0 ∙ h.at;
        base = h.base;
        author = h.author;
        trunk = carried_document v T N;
        to_base = subst (λ (es : List Entry). Run O (commits_in es) h.base) (sym (entered_front log session (Commit reference ids N) k within)) h.to_base;
        sent = subst (λ t. StandInTurn l h.base (commits_by s (drop k longer)) t h.author) (sym f.1) (subst (λ Ns. StandInTurn l h.base Ns q.sent h.author) (sym own) h.sent);
        to_trunk = trunk_runs T v to_trunk is;
        extends = extends_on h.author T (carried_document v T N) up x;
        bridge = f.2 h.author T (carried_document v T N) up x (subst (λ D. IsStepRead l h.author D q.bridge) same h.bridge) step;
      }
    where
      own : commits_by s (drop k longer) ≡ commits_by s (drop k log)
      own = entered_rest log session (Commit reference ids N) s k within ∙ ap (λ Ns. commits_by s (drop k log) ++ Ns) (by_other s last [] other) ∙ append-nil (commits_by s (drop k log))

  known_now : (s : ℕ) → known_reference s longer ≡ cond (session == s) (max (known_reference s log) reference) (known_reference s log)
  known_now s = fold_push (with_reference s) 0 log last

  on_now : (s : ℕ) → is_connected s longer ≡ cond (session == s) (is_connected s log) (is_connected s log)
  on_now s = fold_push (connected_by s) false log last

  itself : (session == session) ≡ true
  itself = grind (arith, nat_tests)

  -- all of them
  pub seats_go_on : (old new : ℕ → Option Seat) (p : Seat) (T : Document) (S : Step) (v : Verdict) → ((s : ℕ) → HasSeat l O log s (old s)) → ((s : ℕ) → known_reference s log ≤ length log)
      → is_connected session log ≡ true → known_reference session log ≤ reference → Run O (commits_in log) T → IsVerdict T N v → IsExtendedBy T (carried_document v T N) → IsStepRead l T (carried_document v T N) S
      → new session ≡ Some p → IsSeatAt l O longer session reference p
      → ((s : ℕ) → (session == s) ≡ false → MatchOption (old s) (new s ≡ None) (λ q. (r : Seat) × (new s ≡ Some r) × Follows S q r))
      → (s : ℕ) → HasSeat l O longer s (new s)
  seats_go_on old new p T S v before within on low to_trunk is x step mine seat others s = go (session == s) refl
    where
      as_other : (session == s) ≡ false → (o : Option Seat) → HasSeat l O log s o → MatchOption o (new s ≡ None) (λ q. (r : Seat) × (new s ≡ Some r) × Follows S q r) → HasSeat l O longer s (new s)
      as_other e None none gone = subst (HasSeat l O longer s) (sym gone) (on_now s ∙ ap (λ b. cond b (is_connected s log) (is_connected s log)) e ∙ none)
      as_other e (Some q) has stays =
          let known : known_reference s longer ≡ known_reference s log = known_now s ∙ ap (λ b. cond b (max (known_reference s log) reference) (known_reference s log)) e in
          subst (HasSeat l O longer s) (sym stays.1) (
            on_now s ∙ ap (λ b. cond b (is_connected s log) (is_connected s log)) e ∙ has.0,
            subst (λ k. IsSeatAt l O longer s k stays.0) (sym known) (followed s (known_reference s log) q stays.0 T S v e (within s) has.1 to_trunk is x step stays.2),
          )

      own : session ≡ s → HasSeat l O longer s (new s)
      own e = subst (λ t. HasSeat l O longer t (new t)) e (subst (HasSeat l O longer session) (sym mine) (
        on_now session ∙ ap (λ b. cond b (is_connected session log) (is_connected session log)) itself ∙ on,
        subst (λ k. IsSeatAt l O longer session k p) (sym known) seat,
      ))
        where
          known : known_reference session longer ≡ reference
          known = known_now session ∙ ap (λ b. cond b (max (known_reference session log) reference) (known_reference session log)) itself ∙ omega (arith, low)

      go : (b : Bool) → (session == s) ≡ b → HasSeat l O longer s (new s)
      go true e = own (let same : session ≡ s = grind (arith, nat_tests) in same)
      go false e = as_other e (old s) (before s) (others s e)

-- a session that is connected has a seat
pub seat_of : (l : Bool) (O : Document) (log : List Entry) (session : ℕ) (o : Option Seat) → is_connected session log ≡ true → HasSeat l O log session o → IsSeatOf l O log session (known_reference session log) o
seat_of l O log session None on gone = let bad : false ≡ true = sym gone ∙ on in cc
seat_of l O log session (Some q) on has = (q, refl, has.1)

-- that of one session took the commit, and the others follow
pub all_take : (l : Bool) (O T : Document) (log : List Entry) (session reference : ℕ) (ids : IdRange) (N : Intent) (C : Change) (e : Effected) (old mid new : ℕ → Option Seat)
    → AreAllWritten O log session → is_connected session log ≡ true → known_reference session log ≤ reference → HaveSeats l O log old → Run O (commits_in log) T → Fits T N → HasShortRows (full T N) → IsEntered l T N C e
    → IsSeatOf l O (log_with log session (Commit reference ids N)) session reference (mid session) → ((t : ℕ) → (t == session) ≡ false → mid t ≡ old t) → ((t : ℕ) → FollowsBut l e.step session t (mid t) (new t))
    → HaveSeats l O (log_with log session (Commit reference ids N)) new
all_take l O T log session reference ids N C e old mid new all on up seats to_trunk fits short entered own others follow =
    seats_go_on l O log session reference ids N old new own.0 T e.step e.verdict seats all.within on up to_trunk entered.verdict (carried_extends T N e.verdict (turn_extends all.written.sound all.written.commits to_trunk).after fits short entered.verdict) entered.step
    ((follow session).0 itself ∙ own.1) own.2 (λ t apart. shaped t (old t) (subst (λ o. FollowsStep l e.step o (new t)) (others t (turned t apart)) ((follow t).1 (turned t apart))))
  where
    itself : (session == session) ≡ true
    itself = grind (arith, nat_tests)

    shaped : (t : ℕ) (o : Option Seat) → FollowsStep l e.step o (new t) → MatchOption o (new t ≡ None) (λ q. (r : Seat) × (new t ≡ Some r) × Follows l O log session reference ids N e.step q r)
    shaped t None gone = gone
    shaped t (Some q) h = (h.0, h.1, (h.2, h.3, h.4))

    turned : (t : ℕ) → (session == t) ≡ false → (t == session) ≡ false
    turned t e = go (t == session) refl
      where
        go : (b : Bool) → (t == session) ≡ b → (t == session) ≡ false
        go false q = q
        go true q = let same : t ≡ session = grind (arith, nat_tests) in let there : (session == t) ≡ true = grind (arith, nat_tests) in cc

pub only_seat : (q p : Seat) → Some q ≡ Some p → q ≡ p
only_seat q p e = cc
