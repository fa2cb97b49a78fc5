-- Commits that fit one after the other have their void ones.
use Rattle.std.proofs.Common.{List, [], ◌∷◌, cond, refl}
use Rattle.st_lists.specs.Voids.{is_void}
use Rattle.st_ids.specs.declared.names.Rev.{Rev}
use Rattle.st_log_laws.specs.Turns.{FitInTurn}
use Rattle.st_log_laws.proofs.Verdicts.{has_verdict}
use Rattle.st_marks.specs.declared.intents.Intent.{Intent}
use Rattle.st_marks.specs.Document.{Document, IsSoundInForm}
use Rattle.st_marks.specs.Verdict.{carried_document}
use Rattle.st_marks.proofs.OneVerdict.{carried_extends}
use Rattle.st_lists.specs.Voids.{AreVoid}

pub has_void : (D : Document) (Ns : List Intent) → IsSoundInForm D → FitInTurn D Ns → (revs : List Rev) × AreVoid D Ns revs
has_void D [] sound fit = ([], refl)
has_void D (N ∷ Ns) sound fit =
    let v = has_verdict D N sound in
    let x = carried_extends D N v.0 sound fit.0 fit.1 v.1 in
    let r = has_void (carried_document v.0 D N) Ns x.after (fit.2 v.0 v.1) in
    (cond (is_void v.0) (N.rev ∷ r.0) r.0, (v.0, r.0, v.1, r.1, refl))
