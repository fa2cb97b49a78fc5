-- A commit that is known enters, part by part.
use Rattle.std.proofs.Common.{◌≡◌, ◌≤◌, ◌<◌, ◌+◌, ◌-◌, ◌^◌, ℕ, Bool, true, false, min, List, [], ◌∷◌, ◌++◌, length, length-append, take, Some, refl, sym, ap, ◌∙◌, subst, arith}
use Rattle.std.specs.BTreeMap.{get}
use Rattle.std.specs.List.{All}
use Rattle.std.specs.Ordering.{nat_cmp}
use Rattle.std.proofs.lemmas.List.{take_all}
use Rattle.st_clusters.specs.declared.ids.IdRange.{IdRange}
use Rattle.st_forest.specs.Stands.{StandsFor}
use Rattle.st_ledger.specs.Stands.{StandsFor as IsLedgerOf}
use Rattle.st_lists.specs.declared.lists.Body.TheVariants.{Commit}
use Rattle.st_lists.specs.declared.lists.Entry.{Entry}
use Rattle.st_lists.specs.Log.{floor, is_connected, known_reference, log_with, minimum}
use Rattle.st_lists.specs.Names.{names_made}
use Rattle.st_lists.proofs.Logs.{last_entry}
use Rattle.st_log_laws.specs.Turns.{FitInTurn, HasRoom}
use Rattle.st_marks.specs.declared.changes.Change.{Change}
use Rattle.st_marks.specs.declared.intents.Intent.{Intent}
use Rattle.st_marks.specs.declared.verdicts.Verdict.{Verdict}
use Rattle.st_marks.specs.Document.{Document}
use Rattle.st_marks.specs.Extends.{IsExtendedBy}
use Rattle.st_marks.specs.Verdict.{IsVerdict, carried_document}
use Rattle.st_read_laws.specs.Reading.{IsRead, IsStepRead}
use Rattle.st_seats.specs.Seats.{AreAllWritten, HaveSeats, IsComing, IsEntered, StandInTurn}
use Rattle.st_valid.specs.Ids.{is_next_range}
use Rattle.st_valid.specs.Room.{has_room_for_names, names_of_change}
use Rattle.st_valid_laws.proofs.ValidLogs.{few_entries}
use Rattle.st_window.specs.declared.kept.Kept.{Kept}
use Rattle.st_window.specs.Window.{WindowView, kept_above}
use Rattle.st_window_laws.specs.Windows.{IsWindowOf}
use Rattle.st_window_laws.proofs.Floors.{floor_within, minimum_entered}
use Rattle.st_window_laws.proofs.Windowed.{numbers_within, risen, taken}
use Rattle.st_manager.specs.Stands.{Stands}
use Rattle.st_manager.specs.Taking.{IsKnownAs, IsKnownTaken}
use Rattle.st_manager.specs.Told.{IsNextTold, IsSoundTold, Told, local_list}
use Rattle.st_manager.specs.inside.Receiving.{IsUnderWay, received}
use Rattle.st_manager.specs.declared.manager.Manager.{Manager}
use Rattle.st_manager.specs.declared.receiving.Passed.{Passed}
use Rattle.st_manager.proofs.Going.{told_goes_on}
use Rattle.st_manager.proofs.HeadGone.{HasGoneOn, head_gone}
use Rattle.st_manager.proofs.KnownCommits.{all_written, coming, floor_low, reference_between}
use Rattle.st_manager.proofs.ValidCommits.{IsCounted, known_counts}

module _ {R : Type 0} (l : Bool) (t u : Told) (session reference : ℕ) (ids : IdRange) (C X : Change) (N : Intent) (M W : Manager R) (p : Passed) where
  -- what the parts' calls promise makes a commit that is under way
  pub under_way : (names : ℕ) (own : Bool) → Stands l t M → IsKnownAs l t session reference ids C N → IsNextTold t session (Commit reference ids N) u → HasRoom u.opening (local_list u)
      → (names_of_change C < 2 ^ 32 → names ≡ names_of_change C)
      → ((log : List Entry) (K : Intent) → IsLedgerOf M.ledger log → is_connected session log ≡ true → is_next_range log session ids ≡ true → has_room_for_names log names ≡ true → C.rev ≡ K.rev → names ≡ names_made K
      → IsLedgerOf W.ledger (log_with log session (Commit reference ids K)))
      → ((O A T : Document) (log : List Entry) (js : IdRange) (K : Intent) → AreAllWritten O log session → IsWindowOf l O log M.window → M.window.floor ≤ known_reference session log → is_connected session log ≡ true
      → known_reference session log ≤ reference → reference ≤ length log → HaveSeats l O log (λ s. get nat_cmp M.seats s) → IsComing l O log session reference A T K C
      → IsEntered l T K X p.effected × HaveSeats l O (log_with log session (Commit reference js K)) (λ s. get nat_cmp W.seats s))
      → ((own ≡ true) → M.own ≡ Some session) → ((own ≡ false) → M.own ≡ Some session → ⊥)
      → ((D E : Document) → StandsFor M.trunk D → IsExtendedBy D E → IsStepRead l D E p.effected.step → StandsFor W.trunk E)
      → (own ≡ true → (D E : Document) (K : Intent) (Ns : List Intent) (w : Verdict) → StandInTurn l D (K ∷ Ns) M.pending E → IsVerdict D K w → StandInTurn l (carried_document w D K) Ns W.pending E × IsStepRead l E E p.local)
      → (own ≡ false → (D E Z : Document) (Ns : List Intent) → IsExtendedBy D E → FitInTurn D Ns → FitInTurn E Ns → StandInTurn l D Ns M.pending Z → IsStepRead l D E p.effected.step
      → (Y : Document) × StandInTurn l E Ns W.pending Y × IsExtendedBy Z Y × IsStepRead l Z Y p.local)
      → W.window ≡ M.window → W.own ≡ M.own → W.history ≡ M.history → W.number ≡ M.number → IsUnderWay l t u session reference ids N W X p
  under_way names own s k n room counts noted take is_own not_own tables by_own by_other window same_own same_history same_number = record {
    before = s.told;
    after = z;
    next = n;
    trunk = s.head.document;
    to_trunk = s.head.to_document;
    entered = went.0;
    ledger = subst (IsLedgerOf W.ledger) (sym n.log) (noted t.log N s.ledger known.enters.connected known.enters.next
        (subst (λ x. has_room_for_names t.log x ≡ true) (sym many) known.enters.room) rev many);
    head = head.head;
    seats = subst (λ O. HaveSeats l O u.log (λ x. get nat_cmp W.seats x)) (sym n.opening) (subst (λ es. HaveSeats l t.opening es (λ x. get nat_cmp W.seats x)) (sym n.log) went.1);
    floor_before = ap (λ (w : WindowView). w.floor) window ∙ s.floor;
    window = subst (IsWindowOf l t.opening t.log) (sym window) s.window;
    own = same_own ∙ s.own ∙ sym n.own;
    history = same_history ∙ s.history ∙ sym n.history;
    number = same_number ∙ s.number;
    local = head.step;
  }
    where
      z : IsSoundTold u
      z = told_goes_on l t u session reference ids C N s.told k n room

      known : IsCounted t.log session ids C N
      known = known_counts l t session reference ids C N s.told k

      many : names ≡ names_made N
      many = counts known.few ∙ known.names

      rev : C.rev ≡ N.rev
      rev = ap (λ (K : Change). K.rev) k.change.2 ∙ k.change.1.rev

      between : (known_reference session t.log ≤ reference) × (reference ≤ length t.log)
      between = reference_between l t session reference ids C N k

      went : IsEntered l s.head.document N X p.effected × HaveSeats l t.opening (log_with t.log session (Commit reference ids N)) (λ x. get nat_cmp W.seats x)
      went = take t.opening k.author s.head.document t.log ids N (all_written t session s.told) s.window
          (subst (λ x. x ≤ known_reference session t.log) (sym s.floor) (floor_low t.history t.log session known.enters.connected)) known.enters.connected between.0 between.1 s.seats
          (coming t u session reference ids N s.told z n l C s.head.document s.head.to_document between.1 between.0 k)

      head : HasGoneOn l t u W.trunk W.pending (received p)
      head = head_gone l t u session reference ids N p.effected.verdict M.trunk M.pending s.told z n s.head went.0.verdict own p.effected.step W.trunk W.pending (received p)
          (λ e. sym s.own ∙ is_own e) (λ e q. not_own e (s.own ∙ q)) went.0.step tables by_own by_other

  -- with the window that keeps it, what is kept is what was told with it
  pub kept_on : IsUnderWay l t u session reference ids N M X p → (n m f : ℕ) (k : Kept)
      → n ≡ min (M.number + 1) (2 ^ 32 - 1) → ((log : List Entry) → IsLedgerOf M.ledger log → m ≡ minimum log)
      → k ≡ record { n = n; ids = ids; change = X; step = p.effected.step; verdict = p.effected.verdict }
      → f ≡ m - M.history → (M.window.floor < k.n → All (λ (x : Kept). x.n < k.n) M.window.kept → M.window.floor ≤ f → W.window ≡ record { floor = f; kept = kept_above f (M.window.kept ++ k ∷ []) })
      → W ≡ record M { window = W.window; number = n; minimum = m; spent = false } → IsKnownTaken l t u N (received p) × Stands l u W
  kept_on w n m f k number least is less keeps new = (
    record { verdict = record { document = w.trunk; ran = w.to_trunk; verdict = p.effected.verdict; is = w.entered.verdict; told = refl }; step = w.local },
    subst (λ V. Stands l u V) (sym new) (record {
      told = w.after;
      live = refl;
      ledger = w.ledger;
      head = w.head;
      seats = w.seats;
      floor = ap (λ (v : WindowView). v.floor) kept ∙ floor_now;
      window = subst (IsWindowOf l u.opening u.log) (sym kept) rises;
      own = w.own;
      history = w.history;
      number = place ∙ size;
      minimum = now;
    }),
  )
    where
      few : length t.log ≤ 65535
      few = few_entries w.before.valid

      place : n ≡ length t.log + 1
      place = omega (arith, number, w.number, few)

      size : length t.log + 1 ≡ length u.log
      size = sym (ap length w.next.log ∙ length-append t.log (last_entry t.log session (Commit reference ids N) ∷ []))

      now : m ≡ minimum u.log
      now = least u.log w.ledger

      numbered : k.n ≡ length t.log + 1
      numbered = ap (λ (x : Kept). x.n) is ∙ place

      low : M.window.floor ≤ length t.log
      low = subst (λ x. x ≤ length t.log) (sym w.floor_before) (floor_within t.history (length t.log) t.log)

      history : M.history ≡ t.history
      history = w.history ∙ w.next.history

      before : M.window.floor ≡ minimum t.log - t.history
      before = w.floor_before ∙ ap (λ (es : List Entry). minimum es - t.history) (take_all (length t.log) t.log (omega arith))

      up : M.window.floor ≤ m - M.history
      up =
          let more : minimum t.log ≤ minimum (log_with t.log session (Commit reference ids N)) = minimum_entered t.log session (Commit reference ids N) in
          let same : m ≡ minimum (log_with t.log session (Commit reference ids N)) = now ∙ ap minimum w.next.log in
          omega (arith, before, more, same, history)

      all : All (λ (x : Kept). x.n < k.n) M.window.kept
      all j d inside = omega (arith, numbers_within l t.opening t.log M.window w.window j d inside, numbered)

      kept : W.window ≡ record { floor = m - M.history; kept = kept_above (m - M.history) (M.window.kept ++ k ∷ []) }
      kept = subst (λ x. W.window ≡ record { floor = x; kept = kept_above x (M.window.kept ++ k ∷ []) }) less (keeps (omega (arith, low, numbered)) all (subst (λ x. M.window.floor ≤ x) (sym less) up))

      takes : IsWindowOf l t.opening (log_with t.log session (Commit reference k.ids N)) (record { floor = M.window.floor; kept = M.window.kept ++ k ∷ [] })
      takes = taken l t.opening w.trunk t.log M.window session reference N k w.window low numbered w.to_trunk
          (subst (λ (x : Kept). IsVerdict w.trunk N x.verdict) (sym is) w.entered.verdict)
          (subst (λ (x : Kept). IsRead l w.trunk N x.change) (sym is) w.entered.change)
          (subst (λ (x : Kept). IsStepRead l w.trunk (carried_document x.verdict w.trunk N) x.step) (sym is) w.entered.step)

      rises : IsWindowOf l u.opening u.log (record { floor = m - M.history; kept = kept_above (m - M.history) (M.window.kept ++ k ∷ []) })
      rises =
          let at = risen l t.opening (log_with t.log session (Commit reference k.ids N)) (record { floor = M.window.floor; kept = M.window.kept ++ k ∷ [] }) (m - M.history) takes up in
          let log : log_with t.log session (Commit reference k.ids N) ≡ u.log = ap (λ (x : Kept). log_with t.log session (Commit reference x.ids N)) is ∙ sym w.next.log in
          subst (λ O. IsWindowOf l O u.log (record { floor = m - M.history; kept = kept_above (m - M.history) (M.window.kept ++ k ∷ []) })) (sym w.next.opening)
          (subst (λ es. IsWindowOf l t.opening es (record { floor = m - M.history; kept = kept_above (m - M.history) (M.window.kept ++ k ∷ []) })) log at)

      floor_now : m - M.history ≡ floor u.history u.log (length u.log)
      floor_now =
          let all : take (length u.log) u.log ≡ u.log = take_all (length u.log) u.log (omega arith) in
          ap (λ x. m - x) w.history ∙ ap (λ x. x - u.history) now ∙ sym (ap (λ (es : List Entry). minimum es - u.history) all)
