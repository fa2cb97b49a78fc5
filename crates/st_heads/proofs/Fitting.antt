-- What undoes a commit of a list fits after the whole list.
use Rattle.std.proofs.Common.{List, ◌∷◌, ◌++◌, refl, subst}
use Rattle.st_ids.specs.declared.names.Rev.{Rev}
use Rattle.st_marks.specs.declared.intents.Intent.{Intent}
use Rattle.st_marks.specs.declared.verdicts.Verdict.{Verdict}
use Rattle.st_marks.specs.CarryOut.{full}
use Rattle.st_marks.specs.Document.{Document, IsSoundInForm}
use Rattle.st_marks.specs.Extends.{IsExtendedBy}
use Rattle.st_marks.specs.Intent.{Fits}
use Rattle.st_marks.specs.Run.{Run, next}
use Rattle.st_marks.proofs.Later.{fits_later}
use Rattle.st_marks.proofs.OneVerdict.{carried_extends, one_run, run_then}
use Rattle.st_marks.proofs.WayBack.{back_fits}
use Rattle.st_lemmas.proofs.Bools.{true-false}
use Rattle.st_log_laws.specs.Turns.{FitInTurn}
use Rattle.st_log_laws.proofs.Turns.{front, has_run, rest, turn_extends}
use Rattle.st_lists.specs.Undoing.{IsUndoing}

-- the way back fits where the commit was carried out, and the document after the whole list extends that one
pub undoing_later : (O : Document) (Ns : List Intent) (rev fresh : Rev) (B : Intent) (E : Document) → IsSoundInForm O → FitInTurn O Ns → Run O Ns E → (u : IsUndoing O Ns rev fresh B)
    → IsExtendedBy u.before (full u.before u.commit) × Fits (full u.before u.commit) B × IsExtendedBy (full u.before u.commit) E
undoing_later O Ns rev fresh B E s f r u =
    let D = u.before in
    let N = u.commit in
    let at = u.is_at in
    let turn : FitInTurn O (at.front ++ N ∷ at.rest) = subst (FitInTurn O) at.list f in
    let sound : IsSoundInForm D = (turn_extends s (front at.front (N ∷ at.rest) O turn) at.before).after in
    let here : FitInTurn D (N ∷ at.rest) = rest (N ∷ at.rest) at.before turn in
    let x = carried_extends D N Verdict.Sound sound here.0 here.1 at.verdict in
    let later : FitInTurn (full D N) at.rest = here.2 Verdict.Sound at.verdict in
    let run = has_run at.rest (full D N) x.after later in
    let whole : Run O (at.front ++ N ∷ at.rest) run.0 = run_then at.before (next Verdict.Sound at.verdict run.1) in
    let same = one_run whole (subst (λ Ms. Run O Ms E) at.list r) in
    (x, back_fits D (full D N) x fresh _ B u.back, turn_extends x.after later (subst (Run (full D N) at.rest) same run.1))

pub undoing_fits : (O : Document) (Ns : List Intent) (rev fresh : Rev) (B : Intent) (E : Document) → IsSoundInForm O → FitInTurn O Ns → Run O Ns E → IsUndoing O Ns rev fresh B → Fits E B
undoing_fits O Ns rev fresh B E s f r u =
    let on = undoing_later O Ns rev fresh B E s f r u in
    fits_later (full u.before u.commit) E B on.2 on.1 (λ n h. absurd (true-false h (rw u.back.nothing_new.0 refl))) (λ c h. absurd (true-false h (rw u.back.nothing_new.1 refl)))
    (rw u.back.nothing_new.3 tt)
