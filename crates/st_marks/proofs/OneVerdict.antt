-- There is one verdict, and one document after a run.
use Rattle.std.proofs.Common.{◌≡◌, false, List, [], ◌∷◌, ◌++◌, refl, sym, ap, ◌∙◌, subst}
use Rattle.std.specs.Ordering.{is_lt, ordering_reverse}
use Rattle.std.specs.declared.cmp.Ordering.{Ordering}
use Rattle.std.specs.declared.cmp.Ordering.TheVariants.{Less, Equal, Greater}
use Rattle.std.specs.Cmp.{IsTotalOrder}
use Rattle.std.proofs.lemmas.Map.Lookups.{CmpEqualImpliesEq}
use Rattle.st_ids.proofs.Orders.{node_cmp_total, node_cmp_exact}
use Rattle.st_marks.specs.declared.intents.Intent.{Intent}
use Rattle.st_marks.specs.declared.verdicts.Verdict.{Verdict}
use Rattle.st_marks.specs.Document.{Document, IsSoundInForm, HasShortRows}
use Rattle.st_marks.specs.Extends.{IsExtendedBy}
use Rattle.st_marks.specs.Intent.{Fits}
use Rattle.st_marks.specs.CarryOut.{full}
use Rattle.st_marks.specs.Verdict.{IsLeast, IsVerdict, IsUnmetNeed, IsAboveItself, carried_document}
use Rattle.st_marks.specs.Run.{Run, done, next, FitsInTurn}
use Rattle.st_marks.proofs.Full.{full_extends}
use Rattle.st_marks.proofs.Void.{void_extends}
use Rattle.st_marks.proofs.Turns.{extends_itself, extends_on}

pub one_least : {K : Type 0} {cmp : K → K → Ordering} → IsTotalOrder cmp → CmpEqualImpliesEq cmp → (P : K → Type 0) (m n : K) → IsLeast cmp P m → IsLeast cmp P n → m ≡ n
one_least {cmp = cmp} t exact P m n a b = exact m n (equal (cmp m n) (b.1 m a.0) (sym (ap is_lt (t.antisymm n m)) ∙ a.1 n b.0))
  where
    equal : (o : Ordering) → is_lt o ≡ false → is_lt (ordering_reverse o) ≡ false → o ≡ Equal
    equal Less e f = cc
    equal Equal e f = refl
    equal Greater e f = cc

pub one_verdict : (D : Document) (N : Intent) (v w : Verdict) → IsVerdict D N v → IsVerdict D N w → v ≡ w
one_verdict D N (Verdict.Schema u) (Verdict.Schema x) a b = let q : u ≡ x = a.0 ∙ sym b.0 in ap (λ r. Verdict.Schema r) q
one_verdict D N (Verdict.Schema u) (Verdict.Need n) a b = absurd (a.1 b.0)
one_verdict D N (Verdict.Schema u) (Verdict.Cycle n) a b = absurd (a.1 b.0)
one_verdict D N (Verdict.Schema u) Verdict.Sound a b = absurd (a.1 b.0)
one_verdict D N (Verdict.Need m) (Verdict.Schema u) a b = absurd (b.1 a.0)
one_verdict D N (Verdict.Need m) (Verdict.Need n) a b = ap (λ n. Verdict.Need n) (one_least node_cmp_total node_cmp_exact (IsUnmetNeed D N) m n a.1 b.1)
one_verdict D N (Verdict.Need m) (Verdict.Cycle n) a b = absurd (b.1 m a.1.0)
one_verdict D N (Verdict.Need m) Verdict.Sound a b = absurd (b.1 m a.1.0)
one_verdict D N (Verdict.Cycle m) (Verdict.Schema u) a b = absurd (b.1 a.0)
one_verdict D N (Verdict.Cycle m) (Verdict.Need n) a b = absurd (a.1 n b.1.0)
one_verdict D N (Verdict.Cycle m) (Verdict.Cycle n) a b = ap (λ n. Verdict.Cycle n) (one_least node_cmp_total node_cmp_exact (IsAboveItself D N) m n a.2 b.2)
one_verdict D N (Verdict.Cycle m) Verdict.Sound a b = absurd (b.2 m a.2.0)
one_verdict D N Verdict.Sound (Verdict.Schema u) a b = absurd (b.1 a.0)
one_verdict D N Verdict.Sound (Verdict.Need n) a b = absurd (a.1 n b.1.0)
one_verdict D N Verdict.Sound (Verdict.Cycle n) a b = absurd (a.2 n b.2.0)
one_verdict D N Verdict.Sound Verdict.Sound a b = refl

pub one_carried : (D : Document) (N : Intent) (v w : Verdict) → IsVerdict D N v → IsVerdict D N w → carried_document v D N ≡ carried_document w D N
one_carried D N v w a b = ap (λ v. carried_document v D N) (one_verdict D N v w a b)

pub one_run : {Ns : List Intent} {D E F : Document} → Run D Ns E → Run D Ns F → E ≡ F
one_run done done = refl
one_run {F = F} (next {D} {N = N} {Ns} v a r) (next w b q) = one_run r (subst (λ v. Run (carried_document v D N) Ns F) (one_verdict D N w v b a) q)

pub carried_extends : (D : Document) (N : Intent) (v : Verdict) → IsSoundInForm D → Fits D N → HasShortRows (full D N) → IsVerdict D N v → IsExtendedBy D (carried_document v D N)
carried_extends D N Verdict.Sound s f short a = full_extends D N s f short (λ p put ring. a.2 p (put, ring))
carried_extends D N (Verdict.Need n) s f short a = void_extends D N s f short
carried_extends D N (Verdict.Cycle n) s f short a = void_extends D N s f short
carried_extends D N (Verdict.Schema u) s f short a = void_extends D N s f short

pub run_extends : {D E : Document} {Ns : List Intent} (r : Run D Ns E) → IsSoundInForm D → FitsInTurn r → IsExtendedBy D E
run_extends (done {D}) s f = extends_itself D s
run_extends {E = E} (next {D} {N = N} v a r) s f =
    let x = carried_extends D N v s f.0 f.1 a in
    extends_on D (carried_document v D N) E x (run_extends r x.after f.2)

-- the document after a front of a run, and the run from there
record RunOn (D F : Document) (Ns Ms : List Intent) : Type 0 where
  between : Document
  first : Run D Ns between
  rest : Run between Ms F
  first_fits : FitsInTurn first
  rest_fits : FitsInTurn rest

run_on : (Ns : List Intent) {Ms : List Intent} {D F : Document} (r : Run D (Ns ++ Ms) F) → FitsInTurn r → RunOn D F Ns Ms
run_on [] {D = D} r f = record { between = D; first = done; rest = r; first_fits = tt; rest_fits = f }
run_on (N ∷ Ns) (next v a r) f =
    let q = run_on Ns r f.2 in
    record { between = q.between; first = next v a q.first; rest = q.rest; first_fits = (f.0, f.1, q.first_fits); rest_fits = q.rest_fits }

pub run_front : (Ns : List Intent) {Ms : List Intent} {D F : Document} (r : Run D (Ns ++ Ms) F) → IsSoundInForm D → FitsInTurn r → (E : Document) × Run D Ns E × Run E Ms F × IsExtendedBy D E × IsExtendedBy E F
run_front Ns r s f =
    let q = run_on Ns r f in
    let x = run_extends q.first s q.first_fits in
    (q.between, q.first, q.rest, x, run_extends q.rest x.after q.rest_fits)

pub run_then : {Ns Ms : List Intent} {D E F : Document} → Run D Ns E → Run E Ms F → Run D (Ns ++ Ms) F
run_then done q = q
run_then (next v a r) q = next v a (run_then r q)
