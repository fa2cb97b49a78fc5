-- An entry that is no commit enters, part by part.
use Rattle.std.proofs.Common.{◌≡◌, ◌≤◌, ◌<◌, ◌+◌, ◌-◌, ◌^◌, ℕ, Bool, true, false, min, nat_le, nat_lt, List, [], ◌∷◌, ◌++◌, length, length-append, take, None, Some, refl, sym, ap, ◌∙◌, subst, arith}
use Rattle.std.specs.BTreeMap.{get}
use Rattle.std.specs.List.{cons_option}
use Rattle.std.specs.Option.{option_map_or}
use Rattle.std.specs.Ordering.{nat_cmp}
use Rattle.std.proofs.lemmas.Bool.Decides.{nat_tests}
use Rattle.std.proofs.lemmas.List.{append-nil, take_all}
use Rattle.st_ids.specs.Listing.{Has}
use Rattle.st_ids.specs.Root.{opening}
use Rattle.st_forest.specs.declared.forest.Forest.{Forest}
use Rattle.st_ledger.specs.Stands.{StandsFor as IsLedgerOf}
use Rattle.st_lemmas.proofs.Bools.{and-first, and-second}
use Rattle.st_lists.specs.declared.lists.Body.{Body}
use Rattle.st_lists.specs.declared.lists.Entry.{Entry}
use Rattle.st_lists.specs.Log.{commit_in, commits_in, floor, known_reference, log_with, minimum}
use Rattle.st_lists.proofs.Logs.{entered_commits, last_entry}
use Rattle.st_log_laws.specs.Names.{HaveNewRevisions, IsMadeUnder}
use Rattle.st_log_laws.specs.Turns.{FitInTurn, HasRoom}
use Rattle.st_marks.specs.Document.{IsSoundInForm}
use Rattle.st_marks.specs.Run.{Run}
use Rattle.st_seats.specs.Seats.{HaveSeats, StandInTurn}
use Rattle.st_seats.specs.declared.seat.Turns.{Turns}
use Rattle.st_valid.specs.References.{is_within, reference_said}
use Rattle.st_valid.specs.Room.{HasRoomForNames, connected_in, has_room_for_entry, has_room_to_say}
use Rattle.st_valid.specs.Sessions.{session_may}
use Rattle.st_valid.specs.declared.message.Message.{Message}
use Rattle.st_valid.specs.declared.message.ReplayCause.TheVariants as cause
use Rattle.st_valid.specs.declared.message.Said.{Said}
use Rattle.st_valid.specs.declared.message.Said.TheVariants as said
use Rattle.st_valid_laws.specs.Messages.{IsBodyOf, IsValidLog}
use Rattle.st_valid_laws.proofs.ValidLogs.{few_entries}
use Rattle.st_window.specs.Window.{WindowView, kept_above}
use Rattle.st_window_laws.specs.Windows.{IsWindowOf}
use Rattle.st_window_laws.proofs.Floors.{minimum_entered}
use Rattle.st_window_laws.proofs.Windowed.{passed, risen}
use Rattle.st_manager.specs.Stands.{IsHead, Stands}
use Rattle.st_manager.specs.Taking.{IsKnownToSay}
use Rattle.st_manager.specs.Told.{IsNextTold, IsSoundTold, PendingAfter, Told, local_list}
use Rattle.st_manager.specs.inside.Receiving.{IsNoted}
use Rattle.st_manager.specs.declared.manager.Manager.{Manager}
use Rattle.st_manager.proofs.Going.{valid_more}
use Rattle.st_manager.proofs.KnownCommits.{number_of}

-- ## What is told

module _ (t u : Told) (session : ℕ) (body : Body) (none : commit_in body ≡ None) (n : IsNextTold t session body u) where
  commits_stay : commits_in t.log ≡ commits_in u.log
  commits_stay = sym (ap commits_in n.log ∙ entered_commits t.log session body ∙ ap (λ o. commits_in t.log ++ cons_option o []) none ∙ append-nil (commits_in t.log))

  pending_stay : t.pending ≡ u.pending
  pending_stay = sym (subst (λ o. PendingAfter t session o u.pending) none n.pending)

  list_stays : local_list t ≡ local_list u
  list_stays = ap (λ Ns. Ns ++ t.pending) commits_stay ∙ ap (λ Ns. commits_in u.log ++ Ns) pending_stay

  opening_stays : t.opening ≡ u.opening
  opening_stays = sym n.opening

  -- it is sound as before
  pub sound_still : IsSoundTold t → IsValidLog t.opening (log_with t.log session body) → IsSoundTold u
  sound_still s v = record {
    sound = subst IsSoundInForm opening_stays s.sound;
    made = subst (IsMadeUnder (opening ∷ [])) opening_stays s.made;
    names = subst HasRoomForNames opening_stays s.names;
    valid = subst (λ O. IsValidLog O u.log) opening_stays (subst (IsValidLog t.opening) (sym n.log) v);
    own = λ M h. n.own ∙ s.own M (subst (λ Ns. Has Ns M) n_pending h);
    few = subst (λ Ns. length Ns ≤ 256) pending_stay s.few;
    fits = subst (λ O. FitInTurn O (local_list u)) opening_stays (subst (FitInTurn t.opening) list_stays s.fits);
    new = subst (HaveNewRevisions (opening ∷ [])) list_stays s.new;
    room = subst (λ O. HasRoom O (local_list u)) opening_stays (subst (HasRoom t.opening) list_stays s.room);
  }
    where
      n_pending : u.pending ≡ t.pending
      n_pending = sym pending_stay

  -- the tables and the pending commits stay
  pub head_stays : (l : Bool) (F : Forest) (q : Turns) → IsHead l t F q → IsHead l u F q
  head_stays l F q h = record {
    document = h.document;
    local = h.local;
    to_document = subst (λ O. Run O (commits_in u.log) h.document) opening_stays (subst (λ Ns. Run t.opening Ns h.document) commits_stay h.to_document);
    tables = h.tables;
    pending = subst (λ Ns. StandInTurn l h.document Ns q h.local) pending_stay h.pending;
  }

-- ## What the ledger and the seats need

pub may_say : (t : Told) (session : ℕ) (says : Said) → IsKnownToSay t session says → session_may t.log session says ≡ true
may_say t session says k = subst (λ s. session_may t.log s says ≡ true) k.of (subst (λ q. session_may t.log k.message.session q ≡ true) k.says_so (k.valid cause.Session))

pub room_to_say : (t : Told) (session : ℕ) (says : Said) → IsKnownToSay t session says → has_room_to_say t.log says ≡ true
room_to_say t session says k = subst (λ q. has_room_to_say t.log q ≡ true) k.says_so (k.valid cause.Limit)

pub room_to_join : (t : Told) (session uuid : ℕ) → IsKnownToSay t session (said.Join uuid) → has_room_for_entry t.log ≡ true
room_to_join t session uuid k = and-first (has_room_for_entry t.log) (nat_lt (connected_in t.log) 64) (room_to_say t session (said.Join uuid) k)

-- the reference of an ack isn't below the known one, and is that of an entry that came
pub ack_between : (t : Told) (session reference : ℕ) → IsKnownToSay t session (said.Ack reference) → (known_reference session t.log ≤ reference) × (reference ≤ length t.log)
ack_between t session reference k =
    let m : Message = k.message in
    let back : option_map_or (nat_le (known_reference m.session t.log)) (Some reference) true ≡ true = subst (λ q. option_map_or (nat_le (known_reference m.session t.log)) (reference_said q) true ≡ true) k.says_so (k.valid cause.RefBack) in
    let window : is_within t.log m.n reference ≡ true = subst (λ q. option_map_or (is_within t.log m.n) (reference_said q) true ≡ true) k.says_so (and-first (option_map_or (is_within t.log m.n) (reference_said m.said) true) _ (k.valid cause.Window)) in
    let up : nat_le (known_reference m.session t.log) reference ≡ true = back in
    let low : nat_lt reference m.n ≡ true = and-second (nat_le (minimum t.log) reference) (nat_lt reference m.n) window in
    let above : known_reference m.session t.log ≤ reference = grind (arith, nat_tests) in
    let below : reference < m.n = grind (arith, nat_tests) in
    let number : m.n ≡ length t.log + 1 = number_of t.log m (k.valid cause.Sequence) in
    let own : known_reference m.session t.log ≡ known_reference session t.log = ap (λ x. known_reference x t.log) k.of in
    (omega (arith, above, own), omega (arith, below, number))

-- the number of the entry
pub next_number : {R : Type 0} (l : Bool) (t : Told) (M : Manager R) (n : ℕ) → Stands l t M → n ≡ min (M.number + 1) (2 ^ 32 - 1) → n ≡ length t.log + 1
next_number l t M n s is = let few = few_entries s.told.valid in let same = s.number in omega (arith, is, same, few)

-- ## The entry

module _ {R : Type 0} (l : Bool) (t u : Told) (session : ℕ) (body : Body) (M W : Manager R) where
  -- what is noted
  pub noted : (says : Said) → commit_in body ≡ None → Stands l t M → (k : IsKnownToSay t session says) → ((m : ℕ) → IsBodyOf t.opening t.log m says body) → IsNextTold t session body u
      → IsLedgerOf W.ledger (log_with t.log session body) → HaveSeats l t.opening (log_with t.log session body) (λ s. get nat_cmp W.seats s)
      → W.trunk ≡ M.trunk → W.pending ≡ M.pending → W.window ≡ M.window → W.own ≡ M.own → W.history ≡ M.history → W.number ≡ M.number → IsNoted l t u session body W
  noted says none s k is n ledger seats trunk pending window own history number = record {
    before = s.told;
    after = sound_still t u session body none n s.told valid;
    next = n;
    none = none;
    ledger = subst (IsLedgerOf W.ledger) (sym n.log) ledger;
    head = subst (λ F. IsHead l u F W.pending) (sym trunk) (subst (IsHead l u M.trunk) (sym pending) (head_stays t u session body none n l M.trunk M.pending s.head));
    seats = subst (λ O. HaveSeats l O u.log (λ x. get nat_cmp W.seats x)) (sym n.opening) (subst (λ es. HaveSeats l t.opening es (λ x. get nat_cmp W.seats x)) (sym n.log) seats);
    floor_before = ap (λ (w : WindowView). w.floor) window ∙ s.floor;
    window = subst (IsWindowOf l t.opening t.log) (sym window) s.window;
    own = own ∙ s.own ∙ sym n.own;
    history = history ∙ s.history ∙ sym n.history;
    number = number ∙ s.number;
  }
    where
      valid : IsValidLog t.opening (log_with t.log session body)
      valid = valid_more t.opening t.log session body k.message k.of s.told.valid k.valid (subst (λ q. IsBodyOf t.opening t.log session q body) (sym k.says_so) (is session))

  -- and then counted
  pub counted_on : IsNoted l t u session body M → (n m f : ℕ) (V : WindowView)
      → n ≡ min (M.number + 1) (2 ^ 32 - 1) → ((log : List Entry) → IsLedgerOf M.ledger log → m ≡ minimum log)
      → f ≡ m - M.history → (M.window.floor ≤ f → V ≡ record { floor = f; kept = kept_above f M.window.kept })
      → W ≡ record M { window = W.window; number = n; minimum = m; spent = false } → W.window ≡ V → Stands l u W
  counted_on w n m f V number least less rises new is = subst (λ K. Stands l u K) (sym new) (record {
    told = w.after;
    live = refl;
    ledger = w.ledger;
    head = w.head;
    seats = w.seats;
    floor = ap (λ (v : WindowView). v.floor) kept ∙ floor_now;
    window = subst (IsWindowOf l u.opening u.log) (sym kept) window;
    own = w.own;
    history = w.history;
    number = place ∙ size;
    minimum = now;
  })
    where
      few : length t.log ≤ 65535
      few = few_entries w.before.valid

      place : n ≡ length t.log + 1
      place = omega (arith, number, w.number, few)

      size : length t.log + 1 ≡ length u.log
      size = sym (ap length w.next.log ∙ length-append t.log (last_entry t.log session body ∷ []))

      now : m ≡ minimum u.log
      now = least u.log w.ledger

      history : M.history ≡ t.history
      history = w.history ∙ w.next.history

      before : M.window.floor ≡ minimum t.log - t.history
      before = w.floor_before ∙ ap (λ (es : List Entry). minimum es - t.history) (take_all (length t.log) t.log (omega arith))

      up : M.window.floor ≤ m - M.history
      up =
          let more : minimum t.log ≤ minimum (log_with t.log session body) = minimum_entered t.log session body in
          let same : m ≡ minimum (log_with t.log session body) = now ∙ ap minimum w.next.log in
          omega (arith, before, more, same, history)

      kept : W.window ≡ record { floor = m - M.history; kept = kept_above (m - M.history) M.window.kept }
      kept = is ∙ subst (λ x. V ≡ record { floor = x; kept = kept_above x M.window.kept }) less (rises (subst (λ x. M.window.floor ≤ x) (sym less) up))

      window : IsWindowOf l u.opening u.log (record { floor = m - M.history; kept = kept_above (m - M.history) M.window.kept })
      window =
          let at = risen l t.opening (log_with t.log session body) M.window (m - M.history) (passed l t.opening t.log M.window session body w.window w.none) up in
          subst (λ O. IsWindowOf l O u.log (record { floor = m - M.history; kept = kept_above (m - M.history) M.window.kept })) (sym w.next.opening)
          (subst (λ es. IsWindowOf l t.opening es (record { floor = m - M.history; kept = kept_above (m - M.history) M.window.kept })) (sym w.next.log) at)

      floor_now : m - M.history ≡ floor u.history u.log (length u.log)
      floor_now =
          let all : take (length u.log) u.log ≡ u.log = take_all (length u.log) u.log (omega arith) in
          ap (λ x. m - x) w.history ∙ ap (λ x. x - u.history) now ∙ sym (ap (λ (es : List Entry). minimum es - u.history) all)
