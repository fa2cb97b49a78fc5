-- Lists of intents that fit in turn: their fronts, what comes after them, and the document that they lead to.
use Rattle.std.proofs.Common.{List, [], ◌∷◌, ◌++◌, subst, inl, inr}
use Rattle.st_ids.specs.Listing.{Has}
use Rattle.st_ids.specs.declared.names.Rev.{Rev}
use Rattle.st_marks.specs.declared.intents.Intent.{Intent}
use Rattle.st_marks.specs.Document.{Document, IsSoundInForm}
use Rattle.st_marks.specs.Extends.{IsExtendedBy}
use Rattle.st_marks.specs.Verdict.{carried_document}
use Rattle.st_marks.specs.Run.{Run, done, next, FitsInTurn}
use Rattle.st_marks.proofs.OneVerdict.{one_run, carried_extends, run_extends}
use Rattle.st_log_laws.specs.Names.{IsMadeUnder, revisions}
use Rattle.st_log_laws.specs.Turns.{FitInTurn}
use Rattle.st_log_laws.proofs.Names.{made_after, made_more}
use Rattle.st_log_laws.proofs.Verdicts.{has_verdict}

pub front : (Ns Ms : List Intent) (D : Document) → FitInTurn D (Ns ++ Ms) → FitInTurn D Ns
front [] Ms D f = tt
front (N ∷ Ns) Ms D f = (f.0, f.1, λ v a. front Ns Ms (carried_document v D N) (f.2 v a))

pub rest : {Ns : List Intent} (Ms : List Intent) {D E : Document} → Run D Ns E → FitInTurn D (Ns ++ Ms) → FitInTurn E Ms
rest Ms done f = f
rest Ms (next v a r) f = rest Ms r (f.2 v a)

pub then : (Ns Ms : List Intent) (D : Document) → FitInTurn D Ns → ((E : Document) → Run D Ns E → FitInTurn E Ms) → FitInTurn D (Ns ++ Ms)
then [] Ms D f g = g D done
then (N ∷ Ns) Ms D f g = (f.0, f.1, λ v a. then Ns Ms (carried_document v D N) (f.2 v a) (λ E r. g E (next v a r)))

pub then_one : (Ns Ms : List Intent) {D E : Document} → FitInTurn D Ns → Run D Ns E → FitInTurn E Ms → FitInTurn D (Ns ++ Ms)
then_one Ns Ms {D} f r g = then Ns Ms D f (λ F q. subst (λ F. FitInTurn F Ms) (one_run r q) g)

pub in_turn : {Ns : List Intent} {D E : Document} (r : Run D Ns E) → FitInTurn D Ns → FitsInTurn r
in_turn done f = tt
in_turn (next v a r) f = (f.0, f.1, in_turn r (f.2 v a))

pub turn_extends : {Ns : List Intent} {D E : Document} → IsSoundInForm D → FitInTurn D Ns → Run D Ns E → IsExtendedBy D E
turn_extends s f r = run_extends r s (in_turn r f)

pub has_run : (Ns : List Intent) (D : Document) → IsSoundInForm D → FitInTurn D Ns → (E : Document) × Run D Ns E
has_run [] D s f = (D, done)
has_run (N ∷ Ns) D s f =
    let v = has_verdict D N s in
    let x = carried_extends D N v.0 s f.0 f.1 v.1 in
    let r = has_run Ns (carried_document v.0 D N) x.after (f.2 v.0 v.1) in
    (r.0, next v.0 v.1 r.1)

has_moved : (rs ss : List Rev) (q r : Rev) → Has (ss ++ q ∷ rs) r → Has (q ∷ (ss ++ rs)) r
has_moved rs [] q r h = h
has_moved rs (s ∷ ss) q r (inl e) = inr (inl e)
has_moved rs (s ∷ ss) q r (inr h) = elim (has_moved rs ss q r h) [ inl e ↦ inl e | inr i ↦ inr (inr i) ]

pub made_in_run : {Ns : List Intent} {D E : Document} (rs : List Rev) → FitInTurn D Ns → Run D Ns E → IsMadeUnder rs D → IsMadeUnder (revisions Ns ++ rs) E
made_in_run rs f done m = m
made_in_run {E = E} rs f (next {D} {N = N} {Ns} v a r) m =
    made_more (revisions Ns ++ N.rev ∷ rs) (N.rev ∷ (revisions Ns ++ rs)) E (λ q h. has_moved rs (revisions Ns) N.rev q h)
    (made_in_run (N.rev ∷ rs) (f.2 v a) r (made_after rs D N v f.0 m))
