-- The head goes on by a commit that comes next, and the local view by a step.
use Rattle.std.proofs.Common.{◌≡◌, ◌∷◌, ℕ, Bool, true, false, List, Some, refl, sym, subst}
use Rattle.st_clusters.specs.declared.ids.IdRange.{IdRange}
use Rattle.st_forest.specs.Stands.{StandsFor}
use Rattle.st_forest.specs.declared.forest.Forest.{Forest}
use Rattle.st_lists.specs.Log.{commits_in}
use Rattle.st_lists.specs.declared.lists.Body.TheVariants.{Commit}
use Rattle.st_log_laws.specs.Turns.{FitInTurn}
use Rattle.st_log_laws.proofs.Turns.{front, rest, turn_extends}
use Rattle.st_marks.specs.declared.intents.Intent.{Intent}
use Rattle.st_marks.specs.declared.steps.Step.{Step}
use Rattle.st_marks.specs.declared.verdicts.Verdict.{Verdict}
use Rattle.st_marks.specs.Document.{Document}
use Rattle.st_marks.specs.Extends.{IsExtendedBy}
use Rattle.st_marks.specs.Run.{Run, done, next}
use Rattle.st_marks.specs.Verdict.{IsVerdict, carried_document}
use Rattle.st_marks.proofs.OneVerdict.{carried_extends, run_then}
use Rattle.st_read_laws.specs.Reading.{IsStepRead}
use Rattle.st_push.proofs.ListsPushed.{runs}
use Rattle.st_seats.specs.Seats.{StandInTurn}
use Rattle.st_seats.specs.declared.seat.Turns.{Turns}
use Rattle.st_manager.specs.Stands.{IsHead}
use Rattle.st_manager.specs.Taking.{IsLocalStep}
use Rattle.st_manager.specs.declared.calls.Received.{Received}
use Rattle.st_manager.specs.Told.{IsNextTold, IsSoundTold, Told, local_list}
use Rattle.st_manager.proofs.Going.{entered, list_after, pending_fit}

-- the head after it, and the step of the local view
pub record HasGoneOn (l : Bool) (t u : Told) (F : Forest) (q : Turns) (r : Received) : Type 0 where
  pub head : IsHead l u F q
  pub step : IsLocalStep l t u r

module _ (l : Bool) (t u : Told) (session reference : ℕ) (ids : IdRange) (N : Intent) (v : Verdict) (F : Forest) (q : Turns) (s : IsSoundTold t) (z : IsSoundTold u) (n : IsNextTold t session (Commit reference ids N) u) (h : IsHead l t F q) (is : IsVerdict h.document N v) where
  abbrev later : Document
  later = carried_document v h.document N

  fits : FitInTurn h.document (N ∷ u.pending)
  fits = rest (N ∷ u.pending) h.to_document (subst (FitInTurn t.opening) (list_after t u session reference ids N n) (subst (λ O. FitInTurn O (local_list u)) n.opening z.fits))

  -- the document of all commits received is extended by the one behind the next
  pub trunk_extends : IsExtendedBy h.document later
  trunk_extends = carried_extends h.document N v (turn_extends s.sound (front (commits_in t.log) t.pending t.opening s.fits) h.to_document).after fits.0 fits.1 is

  pub to_later : Run u.opening (commits_in u.log) later
  to_later = subst (λ O. Run O (commits_in u.log) later) (sym n.opening) (subst (λ Ns. Run t.opening Ns later) (sym (entered t u session reference ids N n)) (run_then h.to_document (next v is done)))

  local_before : Run t.opening (local_list t) h.local
  local_before = run_then h.to_document (runs h.pending.shown)

  gone_on : (G : Forest) (p : Turns) (r : Received) (E : Document) → StandsFor G later → StandInTurn l later u.pending p E → IsStepRead l h.local E r.step → HasGoneOn l t u G p r
  gone_on G p r E tables stand step = record {
    head = record { document = later; local = E; to_document = to_later; tables = tables; pending = stand };
    step = record { before = h.local; after = E; to_before = local_before; to_after = run_then to_later (runs stand.shown); step = step };
  }

  -- by what is told of a head that goes on
  pub head_gone : (own : Bool) (S : Step) (G : Forest) (p : Turns) (r : Received) → ((own ≡ true) → t.own ≡ Some session) → ((own ≡ false) → t.own ≡ Some session → ⊥) → IsStepRead l h.document later S
      → ((D E : Document) → StandsFor F D → IsExtendedBy D E → IsStepRead l D E S → StandsFor G E)
      → (own ≡ true → (D E : Document) (M : Intent) (Ns : List Intent) (w : Verdict) → StandInTurn l D (M ∷ Ns) q E → IsVerdict D M w → StandInTurn l (carried_document w D M) Ns p E × IsStepRead l E E r.step)
      → (own ≡ false → (D E X : Document) (Ns : List Intent) → IsExtendedBy D E → FitInTurn D Ns → FitInTurn E Ns → StandInTurn l D Ns q X → IsStepRead l D E S
      → (Y : Document) × StandInTurn l E Ns p Y × IsExtendedBy X Y × IsStepRead l X Y r.step)
      → HasGoneOn l t u G p r
  head_gone true S G p r is_own not_own step tables by_own by_other =
      let k = by_own refl h.document h.local N u.pending v (subst (λ Ns. StandInTurn l h.document Ns q h.local) (n.pending.0 (is_own refl)) h.pending) is in
      gone_on G p r h.local (tables h.document later h.tables trunk_extends step) k.0 k.1
  head_gone false S G p r is_own not_own step tables by_own by_other =
      let stays : t.pending ≡ u.pending = sym (n.pending.1 (not_own refl)) in
      let k = by_other refl h.document later h.local u.pending trunk_extends (subst (FitInTurn h.document) stays (pending_fit t h.document s h.to_document)) (fits.2 v is)
      (subst (λ Ns. StandInTurn l h.document Ns q h.local) stays h.pending) step in
      gone_on G p r k.0 (tables h.document later h.tables trunk_extends step) k.1 k.3
