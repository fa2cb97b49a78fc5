-- What a manager's calls give, from what it stands for.
use Rattle.std.proofs.Common.{inl, inr, ◌⊎◌, ◌≡◌, ◌↔◌, Result, Err, ◌<◌, ◌≤◌, ◌+◌, ◌^◌, ◌++◌, Bool, false, ℕ, List, [], ◌∷◌, length, Option, Some, None, refl, sym, ap, ◌∙◌, subst, arith, append_assoc, length-append}
use Rattle.std.specs.BTreeMap.{IsEmpty}
use Rattle.std.specs.Map.{lookup}
use Rattle.std.specs.Ordering.{is_eq, nat_cmp}
use Rattle.std.specs.Prelude.{IsErrOf}
use Rattle.std.proofs.lemmas.Bool.Decides.{nat_tests}
use Rattle.st_ids.specs.Listing.{Has}
use Rattle.st_ids.specs.Root.{opening}
use Rattle.st_ids.specs.declared.fault.Or.{Or}
use Rattle.st_ids.specs.declared.fault.Or.TheVariants.{Fault}
use Rattle.st_ids.specs.declared.names.Limit.{Limit}
use Rattle.st_ids.specs.declared.names.LimitOf.TheVariants.{Pending}
use Rattle.st_lists.specs.Limits.{line_limit}
use Rattle.st_marks.specs.declared.changes.Change.{Change}
use Rattle.st_marks.specs.declared.intents.Intent.{Intent}
use Rattle.st_marks.specs.declared.verdicts.Verdict.{Verdict}
use Rattle.st_marks.specs.Document.{Document, IsSoundInForm}
use Rattle.st_marks.specs.Run.{done}
use Rattle.st_marks.specs.Verdict.{IsVerdict, carried_document}
use Rattle.st_marks.proofs.Members.{has-append}
use Rattle.st_marks.proofs.OneVerdict.{one_verdict, run_then}
use Rattle.st_forest.specs.Stands.{StandsFor}
use Rattle.st_ledger.specs.Stands.{StandsFor as IsLedgerOf}
use Rattle.st_lists.specs.declared.lists.Entry.{Entry}
use Rattle.st_lists.specs.Log.{commits_in}
use Rattle.st_log_laws.specs.Names.{HaveNewRevisions, IsMadeUnder}
use Rattle.st_log_laws.specs.Turns.{FitInTurn, HasRoom}
use Rattle.st_log_laws.proofs.Turns.{then_one as fits_then, turn_extends}
use Rattle.st_rebaser.specs.InTurn.{HaveVerdicts, ShowInTurn, none_judged, none_shown, one_judged, one_shown}
use Rattle.st_push.proofs.ListsPushed.{runs, then_one}
use Rattle.st_valid.specs.Room.{HasRoomForNames}
use Rattle.st_valid_laws.specs.Messages.{no_message}
use Rattle.st_valid_laws.proofs.NewRevisions.{new_more}
use Rattle.st_window.specs.Window.{WindowView}
use Rattle.st_window_laws.specs.Windows.{IsWindowOf}
use Rattle.st_window_laws.proofs.Windowed.{begun}
use Rattle.st_seats.specs.Seats.{HasSeat, IsBridge, IsSeat, StandInTurn}
use Rattle.st_seats.specs.declared.seat.Seat.{Seat}
use Rattle.st_manager.specs.Stands.{Stands}
use Rattle.st_manager.specs.Told.{IsLocal, IsNextLocal, IsSoundTold, Told, local_list, pending_limit, told_first, with_local}
use Rattle.st_rebaser.specs.declared.rebaser.Effected.{Effected}
use Rattle.st_manager.specs.declared.manager.AddFault.{AddFault}
use Rattle.st_manager.specs.declared.manager.Manager.{Manager}

-- ## Commits in turn

-- as many as there are intents
pub as_many : {l : Bool} {D F : Document} {Ns : List Intent} {Cs : List Change} → ShowInTurn l D Ns Cs F → length Cs ≡ length Ns
as_many none_shown = refl
as_many (one_shown {Ns} {Cs} v is c rest) = let e : length Cs ≡ length Ns = as_many rest in omega arith

-- one verdict more
judged_more : {l : Bool} {D F : Document} {Ns : List Intent} {Cs : List Change} {vs : List Verdict} → ShowInTurn l D Ns Cs F → HaveVerdicts D Ns vs → (N : Intent) (v : Verdict) → IsVerdict F N v
    → HaveVerdicts D (Ns ++ N ∷ []) (vs ++ v ∷ [])
judged_more none_shown none_judged N v is = one_judged is none_judged
judged_more {l} {F} (one_shown {D} {N = M} {Ns} {Cs} w was d rest) (one_judged {v = u} {vs = us} so more) N v is =
    let e : w ≡ u = one_verdict D M w u was so in
    one_judged so (judged_more (subst (λ y. ShowInTurn l (carried_document y D M) Ns Cs F) e rest) more N v is)

-- ## Bridges

pub seat_bridge : (l : Bool) (O : Document) (log : List Entry) (session : ℕ) (q : Seat) → IsSeat l O log session q → IsBridge l O log session q.bridge
seat_bridge l O log session q seat = record {
  author = seat.author;
  trunk = seat.trunk;
  to_author = run_then seat.to_base (runs seat.sent.shown);
  to_trunk = seat.to_trunk;
  extends = seat.extends;
  step = seat.bridge;
}

-- ## A local commit

pub local_sound : {R : Type 0} (l : Bool) (t : Told) (M : Manager R) (F : Document) → Stands l t M → IsLocal t F → IsSoundInForm F
local_sound l t M F s r = (turn_extends s.told.sound s.told.fits r).after

-- one has as many changes as there are pending commits
pub pending_count : {R : Type 0} (l : Bool) (t : Told) (M : Manager R) → Stands l t M → length M.pending.changes ≡ length t.pending
pending_count l t M s = as_many s.head.pending.shown

-- with 256 of them one more passes the limit, and with fewer none
pub limit_reached : {R : Type 0} (l : Bool) (t : Told) (M : Manager R) → Stands l t M → 256 ≤ length M.pending.changes → pending_limit t ≡ Some (record { of = Pending; kept = 256 })
limit_reached l t M s most =
    let count = pending_count l t M s in
    let few : length t.pending ≤ 256 = s.told.few in
    let all : length t.pending ≡ 256 = omega arith in
    ap (λ n. line_limit 0 n 1) all

pub limit_kept : {R : Type 0} (l : Bool) (t : Told) (M : Manager R) → Stands l t M → length M.pending.changes < 256 → pending_limit t ≡ None
limit_kept l t M s fewer = go (length t.pending) (let count = pending_count l t M s in omega arith)
  where
    go : (n : ℕ) → n < 256 → line_limit 0 n 1 ≡ None
    go n h = grind (arith, nat_tests)

-- what is answered at the limit, and what else
pub limit_told : (o : Option Limit) (L k : Limit) → o ≡ Some L → IsErrOf {T = Effected} (Err (Fault (AddFault.Limit L))) (Fault (AddFault.Limit k)) ↔ (o ≡ Some k)
limit_told o L k e = ((λ h. cc), (λ h. cc))

pub limit_not_told : (o : Option Limit) (k : Limit) (r : Result Effected (Or AddFault)) → o ≡ None → (IsErrOf r (Fault (AddFault.Limit k)) → ⊥) → IsErrOf r (Fault (AddFault.Limit k)) ↔ (o ≡ Some k)
limit_not_told o k r e not = ((λ h. absurd (not h)), (λ h. cc))

told_with_local : (l : Bool) (t : Told) (N : Intent) (C : Change) (F : Document) → IsSoundTold t → length t.pending < 256 → IsLocal t F → IsNextLocal l t N C F → IsSoundTold (with_local N t)
told_with_local l t N C F s few r w =
    let after = append_assoc (commits_in t.log) t.pending (N ∷ []) in
    record {
      sound = s.sound;
      made = s.made;
      names = s.names;
      valid = s.valid;
      own = λ M h. own M (has-append t.pending (N ∷ []) M h);
      few = let e : length (t.pending ++ N ∷ []) ≡ length t.pending + 1 = length-append t.pending (N ∷ []) in omega arith;
      fits = subst (FitInTurn t.opening) after (fits_then (local_list t) (N ∷ []) s.fits r (w.fits, w.short, λ u a. tt));
      new = subst (HaveNewRevisions (opening ∷ [])) after (new_more (opening ∷ []) (local_list t) N s.new w.new);
      room = subst (HasRoom t.opening) after w.room;
    }
  where
    own : (M : Intent) → Has t.pending M ⊎ Has (N ∷ []) M → t.own ≡ Some M.rev.session
    own M (inl h) = s.own M h
    own M (inr (inl e)) = w.own ∙ ap (λ (K : Intent). Some K.rev.session) e
    own M (inr (inr h)) = absurd h

-- it stands for what was told with a commit that it pushed with its verdict
pub stands_with_local : {R : Type 0} (l : Bool) (t : Told) (N : Intent) (C : Change) (v : Verdict) (M W : Manager R) → Stands l t M → length t.pending < 256
    → ((F : Document) → IsLocal t F → IsNextLocal l t N C F) → ((F : Document) → IsLocal t F → IsNextLocal l t N C F → IsVerdict F N v)
    → W ≡ record M { pending = record { changes = M.pending.changes ++ C ∷ []; verdicts = M.pending.verdicts ++ v ∷ [] }; spent = false } → Stands l (with_local N t) W
stands_with_local l t N C v M W s few new is e =
    let h = s.head in
    let to_local : IsLocal t h.local = run_then h.to_document (runs h.pending.shown) in
    let w = new h.local to_local in
    let u = is h.local to_local w in
    subst (λ W. Stands l (with_local N t) W) (sym e) (record {
      told = told_with_local l t N C h.local s.told few to_local w;
      live = refl;
      ledger = s.ledger;
      head = record {
        document = h.document;
        local = _;
        to_document = h.to_document;
        tables = h.tables;
        pending = record { shown = then_one h.pending.shown N C v u w.shown; judged = judged_more h.pending.shown h.pending.judged N v u };
      };
      seats = s.seats;
      floor = s.floor;
      window = s.window;
      own = s.own;
      history = s.history;
      number = s.number;
      minimum = s.minimum;
    })

-- ## The first one

-- one that has received nothing stands for the opening
pub started : {R : Type 0} (l : Bool) (O : Document) (history : ℕ) (own : Option ℕ) (M : Manager R) → StandsFor M.trunk O → IsSoundInForm O → IsMadeUnder (opening ∷ []) O → HasRoomForNames O
    → M.spent ≡ false → IsLedgerOf M.ledger [] → M.pending ≡ record { changes = []; verdicts = [] } → IsEmpty M.seats
    → M.window ≡ record { floor = 0; kept = [] } → M.own ≡ own → M.history ≡ history → M.number ≡ 0 → M.minimum ≡ 0 → Stands l (told_first O history own) M
started l O history own M tables sound made names live ledger pending seats window is_own is_history number minimum = record {
  told = record {
    sound = sound;
    made = made;
    names = names;
    valid = no_message;
    own = λ N h. absurd h;
    few = omega arith;
    fits = tt;
    new = record { once = tt; new = λ N h. absurd h };
    room = λ n. let e : length (O.rows n) + 131072 < 2 ^ 32 = names n in omega arith;
  };
  live = live;
  ledger = ledger;
  head = record {
    document = O;
    local = O;
    to_document = done;
    tables = tables;
    pending = subst (λ q. StandInTurn l O [] q O) (sym pending) (record { shown = none_shown; judged = none_judged });
  };
  seats = λ session. subst (λ q. HasSeat l O [] session q) (sym (ap (lookup (λ s. is_eq (nat_cmp session s))) seats)) refl;
  floor = ap (λ (w : WindowView). w.floor) window ∙ omega arith;
  window = subst (λ w. IsWindowOf l O [] w) (sym window) (begun l O 0);
  own = is_own;
  history = is_history;
  number = number;
  minimum = minimum;
}
