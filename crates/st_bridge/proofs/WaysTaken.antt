-- Ways between the document that a commit left and the one where it is void.
use Rattle.std.proofs.Common.{◌≡◌, Option, Some, None, Result, sym, subst}
use Rattle.std.specs.Prelude.{IfOk}
use Rattle.st_marks.specs.declared.intents.Intent.{Intent}
use Rattle.st_marks.specs.declared.steps.Step.{Step}
use Rattle.st_marks.specs.declared.verdicts.Verdict.{Verdict}
use Rattle.st_marks.specs.Back.{retreat}
use Rattle.st_marks.specs.CarryOut.{full, void}
use Rattle.st_marks.specs.Document.{Document, HasShortRows, IsSoundInForm}
use Rattle.st_marks.specs.Extends.{IsExtendedBy}
use Rattle.st_marks.specs.Intent.{Fits}
use Rattle.st_marks.specs.Step.{IsStep}
use Rattle.st_marks.specs.Verdict.{IsVerdict, carried_document}
use Rattle.st_marks.proofs.Turns.{extends_itself}
use Rattle.st_marks.proofs.OneVerdict.{carried_extends}
use Rattle.st_steps.proofs.FullAndVoid.{back_to_void, again_full, full_to_void, void_to_full}
use Rattle.st_bridge.specs.inside.Ways.{LeadsFromVoid, LeadsToVoid}

-- the document that a commit left is extended by the one where it is void
pub carried_to_void : (D : Document) (N : Intent) (v : Verdict) → IsExtendedBy D (carried_document v D N) → Fits D N → N.schema ≡ None → IsExtendedBy (carried_document v D N) (void D N)
carried_to_void D N Verdict.Sound x f plain = full_to_void D N x f plain
carried_to_void D N (Verdict.Need n) x f plain = extends_itself (void D N) x.after
carried_to_void D N (Verdict.Cycle n) x f plain = extends_itself (void D N) x.after
carried_to_void D N (Verdict.Schema u) x f plain = extends_itself (void D N) x.after

-- the way to where the commit is void, and from there
module _ (D : Document) (N : Intent) (x : IsSoundInForm D) (f : Fits D N) (short : HasShortRows (full D N)) (plain : N.schema ≡ None) where
  pub way_back : (v : Verdict) (s t : Step) → v ≡ Verdict.Sound → IsVerdict D N v → IsStep D (carried_document v D N) s
      → ((F E : Document) → IsExtendedBy F E → IsStep F E s → IsStep E (retreat F E) t) → (v ≡ Verdict.Sound) × IsStep (full D N) (void D N) t
  way_back Verdict.Sound s t e is step back = (e, subst (λ (F : Document). IsStep (full D N) F t) (back_to_void D N x f plain) (back D (full D N) (carried_extends D N Verdict.Sound x f short is) step))
  way_back (Verdict.Need n) s t e is step back = cc
  way_back (Verdict.Cycle n) s t e is step back = cc
  way_back (Verdict.Schema u) s t e is step back = cc

  pub way_forth : (v : Verdict) (o : Option Step) (s t : Step) → o ≡ Some s → IsVerdict D N v → LeadsToVoid D N v o
      → ((F E : Document) → IsExtendedBy F E → IsStep F E s → IsStep E (retreat F E) t) → (v ≡ Verdict.Sound) × IsStep (void D N) (full D N) t
  way_forth v o s t e is leads back =
      let told : LeadsToVoid D N v (Some s) = subst (LeadsToVoid D N v) e leads in
      let sound : IsVerdict D N Verdict.Sound = subst (IsVerdict D N) told.0 is in
      (told.0, subst (λ (F : Document). IsStep (void D N) F t) (again_full D N x f plain) (back (full D N) (void D N) (full_to_void D N (carried_extends D N Verdict.Sound x f short sound) f plain) told.1))

  pub none_there : (v : Verdict) (o : Option Step) → o ≡ None → LeadsToVoid D N v o → carried_document v D N ≡ void D N
  none_there v o e leads = subst (LeadsToVoid D N v) e leads

module _ (D F : Document) (N : Intent) (v : Verdict) (o : Option Step) (w s : Step) {E : Type 0} (r : Result Step E) (x : IsExtendedBy D (carried_document v D N)) (f : Fits D N) (plain : N.schema ≡ None) (e : o ≡ Some w) where
  sound_there : v ≡ Verdict.Sound → IsExtendedBy D (full D N)
  sound_there q = subst (λ z. IsExtendedBy D (carried_document z D N)) q x

  pub behind_it : LeadsToVoid D N v o → ((A B C : Document) → IsExtendedBy A B → IsExtendedBy B C → IsStep A B w → IsStep B C s → IfOk r (IsStep A C))
      → IsExtendedBy (void D N) F → IsStep (void D N) F s → IfOk r (IsStep (carried_document v D N) F)
  behind_it leads both y step =
      let told : LeadsToVoid D N v (Some w) = subst (LeadsToVoid D N v) e leads in
      subst (λ z. IfOk r (IsStep (carried_document z D N) F)) (sym told.0) (both (full D N) (void D N) F (full_to_void D N (sound_there told.0) f plain) y told.1 step)

  pub before_it : LeadsFromVoid D N v o → ((A B C : Document) → IsExtendedBy A B → IsExtendedBy B C → IsStep A B s → IsStep B C w → IfOk r (IsStep A C))
      → IsExtendedBy F (void D N) → IsStep F (void D N) s → IfOk r (IsStep F (carried_document v D N))
  before_it leads both y step =
      let told : LeadsFromVoid D N v (Some w) = subst (LeadsFromVoid D N v) e leads in
      subst (λ z. IfOk r (IsStep F (carried_document z D N))) (sym told.0) (both F (void D N) (full D N) y (void_to_full D N (sound_there told.0) f plain) step told.1)
