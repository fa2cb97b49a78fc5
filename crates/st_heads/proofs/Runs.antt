-- Remembered runs.
use Rattle.std.proofs.Common.{◌≡◌, false, List, [], ◌∷◌, ◌++◌, length, None, suc, arith, refl, sym, ap, ◌∙◌, subst, unwrap_or, cond}
use Rattle.st_ids.specs.Root.{opening}
use Rattle.st_ids.specs.declared.names.Rev.{Rev}
use Rattle.st_marks.specs.declared.intents.Intent.{Intent}
use Rattle.st_marks.specs.declared.verdicts.Verdict.{Verdict}
use Rattle.st_marks.specs.Document.{Document, last_of, revs}
use Rattle.st_marks.specs.Run.{Run, done, next}
use Rattle.st_marks.specs.Verdict.{IsVerdict, carried_document}
use Rattle.st_heads.specs.declared.ways.Carried.{Carried}
use Rattle.st_heads.specs.declared.ways.Way.{Way}
use Rattle.st_heads.specs.Remembered.{AreCarried, none, more, IsCarried, IsWayBack, no_way, intent_of_way}
use Rattle.st_lists.specs.Voids.{is_void}
use Rattle.st_lists.specs.Undoing.{IsUndoing}

pub run_of : {D E : Document} {Ns : List Intent} {ks : List Carried} → AreCarried D Ns ks E → Run D Ns E
run_of none = done
run_of (more v a k r) = next v a (run_of r)

pub as_many : {D E : Document} {Ns : List Intent} {ks : List Carried} → AreCarried D Ns ks E → length ks ≡ length Ns
as_many none = refl
as_many (more v a k r) = ap suc (as_many r)

pub runs_joined : {D E F : Document} {Ns Ms : List Intent} {ks ls : List Carried} → AreCarried D Ns ks E → AreCarried E Ms ls F → AreCarried D (Ns ++ Ms) (ks ++ ls) F
runs_joined none q = q
runs_joined (more v a k r) q = more v a k (runs_joined r q)

-- the first of a remembered run, and the rest
pub opened : {D F : Document} {N : Intent} {Ns : List Intent} {k : Carried} {ks : List Carried} → AreCarried D (N ∷ Ns) (k ∷ ks) F → (v : Verdict) × IsVerdict D N v × IsCarried D N v k × AreCarried (carried_document v D N) Ns ks F
opened (more v a k r) = (v, a, k, r)

pub run_parted : (Ns Ms : List Intent) (ks ls : List Carried) {D F : Document} → AreCarried D (Ns ++ Ms) (ks ++ ls) F → length ks ≡ length Ns → (E : Document) × AreCarried D Ns ks E × AreCarried E Ms ls F
run_parted [] Ms [] ls {D} r e = (D, none, r)
run_parted [] Ms (k ∷ ks) ls r e = absurd (omega (arith, e))
run_parted (N ∷ Ns) Ms [] ls r e = absurd (omega (arith, e))
run_parted (N ∷ Ns) Ms (k ∷ ks) ls r e =
    let o = opened r in
    let p = run_parted Ns Ms ks ls o.3 (omega (arith, e)) in
    (p.0, more o.0 o.1 o.2 p.1, p.2)

pub sound_verdict : (v : Verdict) → is_void v ≡ false → v ≡ Verdict.Sound
sound_verdict Verdict.Sound e = refl
sound_verdict (Verdict.Need n) e = cc
sound_verdict (Verdict.Cycle n) e = cc
sound_verdict (Verdict.Schema u) e = cc

pub way_undoes : (O E : Document) (front rest : List Intent) (ks ls : List Carried) (N : Intent) (k : Carried) (fresh : Rev) → AreCarried O (front ++ N ∷ rest) (ks ++ k ∷ ls) E → length ks ≡ length front → k.void ≡ false
    → IsUndoing O (front ++ N ∷ rest) N.rev fresh (intent_of_way k.back fresh (unwrap_or (last_of (revs E.schemas)) opening))
way_undoes O E front rest ks ls N k fresh r e out =
    let p = run_parted front (N ∷ rest) ks (k ∷ ls) r e in
    let o = opened p.2 in
    let sound = sound_verdict o.0 (sym o.2.void ∙ out) in
    record {
      commit = N;
      before = p.0;
      after = E;
      is_at = record { front = front; rest = rest; list = refl; named = refl; before = run_of p.1; verdict = subst (IsVerdict p.0 N) sound o.1 };
      now = run_of r;
      back = o.2.back sound fresh (unwrap_or (last_of (revs E.schemas)) opening);
    }

-- a commit that came out by its verdict is a remembered run of one
pub one_carried : (D E : Document) (N : Intent) (v : Verdict) (w : Way) (k : Carried) → IsVerdict D N v → E ≡ carried_document v D N → IsWayBack D N w → k.void ≡ is_void v → k.back ≡ cond k.void no_way w → AreCarried D (N ∷ []) (k ∷ []) E
one_carried D E N v w k a after back void kept =
    more v a (
    record {
      void = void;
      back = λ sound. subst (IsWayBack D N) (sym (kept ∙ ap (λ b. cond b no_way w) (void ∙ ap is_void sound))) back;
      none = λ t. kept ∙ ap (λ b. cond b no_way w) t;
    }
    ) (subst (λ F. AreCarried (carried_document v D N) [] [] F) (sym after) none)
