-- A seat whose reference rises.
use Rattle.std.proofs.Common.{◌≡◌, ◌≤◌, ℕ, Bool, List, [], ◌∷◌, ◌++◌, length, take, drop, Option, None, refl, sym, ap, ◌∙◌, subst, arith}
use Rattle.std.proofs.Math.Seq.{drop-append_seam, take-append_seam}
use Rattle.st_lists.specs.declared.lists.Entry.{Entry}
use Rattle.st_lists.specs.Log.{commits_by, commits_in}
use Rattle.st_lists.proofs.Logs.{commits_append}
use Rattle.st_marks.specs.declared.steps.Step.{Step}
use Rattle.st_marks.specs.Document.{Document}
use Rattle.st_marks.specs.Extends.{IsExtendedBy}
use Rattle.st_marks.specs.declared.changes.Change.{Change}
use Rattle.st_marks.specs.declared.intents.Intent.{Intent}
use Rattle.st_marks.specs.declared.verdicts.Verdict.{Verdict}
use Rattle.st_marks.specs.Run.{Run, done, next}
use Rattle.st_marks.specs.Verdict.{IsVerdict, carried_document}
use Rattle.st_marks.proofs.OneVerdict.{one_verdict}
use Rattle.st_marks.proofs.Turns.{extends_itself}
use Rattle.st_read_laws.specs.Reading.{IsRead, IsStepRead}
use Rattle.st_rebaser.specs.InTurn.{HaveVerdicts, ShowInTurn, none_judged, none_shown, one_judged, one_shown}
use Rattle.st_push.proofs.ListsPushed.{runs, then_one}
use Rattle.st_window.specs.Window.{WindowView, kept_above}
use Rattle.st_window_laws.specs.Windows.{IsWindowOf}
use Rattle.st_window_laws.proofs.Windowed.{risen}
use Rattle.st_seats.specs.Seats.{IsSeatAt, IsWrittenFrom, StandInTurn}
use Rattle.st_seats.specs.inside.Rising.{AreNext, IsRisen}
use Rattle.st_seats.specs.declared.seat.Seat.{Seat}
use Rattle.st_seats.specs.declared.seat.Turns.{Turns}
use Rattle.st_seats.proofs.PastCommits.{reach}

-- the commits of a window above a number are those that come next
pub are_next : (l : Bool) (O : Document) (log : List Entry) (w : WindowView) (above reference : ℕ) → IsWindowOf l O log w → w.floor ≤ above → AreNext l O log above reference (kept_above above w.kept)
are_next l O log w above reference h low =
    let r = risen l O log w above h low in
    record { rise = r.rise; each = r.each; all = λ i e N at is up within. r.all i e N at is up }

-- a seat, as the place from which it rises
pub from_seat : (l : Bool) (O : Document) (log : List Entry) (session known : ℕ) (q : Seat) → known ≤ length log → (s : IsSeatAt l O log session known q)
    → IsRisen l O s.author (take known log) (drop known log) session q.sent None
from_seat l O log session known q within s = record {
  base = s.base;
  author = s.author;
  to_base = s.to_base;
  stands = s.sent;
  extends = extends_itself s.author s.extends.before;
  step = refl;
}

-- the rest of a run behind its front
run_rest : {Ns Ms : List Intent} {D E F : Document} → Run D Ns E → Run D (Ns ++ Ms) F → Run E Ms F
run_rest done q = q
run_rest {Ms} {F} (next {D} {N} {Ns} v is r) (next w was q) = run_rest r (subst (λ y. Run (carried_document y D N) (Ns ++ Ms) F) (one_verdict D N w v was is) q)

-- where it has risen, the seat is one there, with the bridge that is left behind the step to the author's document of now
module _ (l : Bool) (O : Document) (log : List Entry) (session known reference : ℕ) (w : IsWrittenFrom O log session known) (q p : Seat) (s : IsSeatAt l O log session known q)
    (ahead rest : List Entry) (split : log ≡ ahead ++ rest) (far : length ahead ≡ reference) (low : known ≤ reference) (gone : Option Step) (r : IsRisen l O s.author ahead rest session p.sent gone) where
  pub author_reaches : IsExtendedBy r.author s.trunk
  author_reaches =
      let t = run_rest r.to_base (subst (λ Ns. Run O Ns s.trunk) (ap commits_in split ∙ commits_append ahead rest) s.to_trunk) in
      reach O log session known w rest ahead r.base s.trunk r.author split (omega (arith, far, low)) r.to_base t (runs r.stands.shown)

  pub seated : p.reference ≡ reference → IsStepRead l r.author s.trunk p.bridge → IsSeatAt l O log session reference p
  seated at bridge = record {
    at = at;
    base = r.base;
    author = r.author;
    trunk = s.trunk;
    to_base = subst (λ (es : List Entry). Run O (commits_in es) r.base) (sym front) r.to_base;
    sent = subst (λ (es : List Entry). StandInTurn l r.base (commits_by session es) p.sent r.author) (sym back) r.stands;
    to_trunk = s.to_trunk;
    extends = author_reaches;
    bridge = bridge;
  }
    where
      front : take reference log ≡ ahead
      front = ap (λ n. take n log) (sym far) ∙ ap (take (length ahead)) split ∙ take-append_seam ahead rest

      back : drop reference log ≡ rest
      back = ap (λ n. drop n log) (sym far) ∙ ap (drop (length ahead)) split ∙ drop-append_seam ahead rest

  -- the bridge stays where the author's document does
  pub bridge_stays : s.author ≡ r.author → IsStepRead l r.author s.trunk q.bridge
  bridge_stays same = subst (λ D. IsStepRead l D s.trunk q.bridge) same s.bridge

  pub bridge_left : (front : Step) (B : Step) → IsStepRead l s.author r.author front
      → ((D E F : Document) → IsExtendedBy D E → IsExtendedBy E F → IsStepRead l D E front → IsStepRead l D F q.bridge → IsStepRead l E F B) → IsStepRead l r.author s.trunk B
  bridge_left front B first strips = strips s.author r.author s.trunk r.extends author_reaches first s.bridge

-- ## The session commits

-- a new commit behind those that were sent
judged_more : {l : Bool} {D F : Document} {Ns : List Intent} {Cs : List Change} {vs : List Verdict} → ShowInTurn l D Ns Cs F → HaveVerdicts D Ns vs → (N : Intent) (v : Verdict) → IsVerdict F N v
    → HaveVerdicts D (Ns ++ N ∷ []) (vs ++ v ∷ [])
judged_more none_shown none_judged N v is = one_judged is none_judged
judged_more {l} {F} (one_shown {D} {N = M} {Ns} {Cs} w was d rest) (one_judged {v = u} {vs = us} so more) N v is =
    let e : w ≡ u = one_verdict D M w u was so in
    one_judged so (judged_more (subst (λ y. ShowInTurn l (carried_document y D M) Ns Cs F) e rest) more N v is)

pub one_more : (l : Bool) (B A : Document) (Ns : List Intent) (N : Intent) (C : Change) (v : Verdict) (q : Turns) → StandInTurn l B Ns q A → IsVerdict A N v → IsRead l A N C
    → StandInTurn l B (Ns ++ N ∷ []) (record { changes = q.changes ++ C ∷ []; verdicts = q.verdicts ++ v ∷ [] }) (carried_document v A N)
one_more l B A Ns N C v q s is c = record { shown = then_one s.shown N C v is c; judged = judged_more s.shown s.judged N v is }
