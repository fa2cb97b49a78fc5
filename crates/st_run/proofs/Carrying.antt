-- What a run over lines told is what is answered to them.
use Rattle.std.proofs.Common.{◌≡◌, ℕ, ◌+◌, List, [], ◌∷◌, ◌++◌, length, Option, Some, None, refl, sym, ◌∙◌, ap, subst, append-nil, inl, inr}
use Rattle.std.specs.Option.{IfSome}
use Rattle.st_io.specs.Bytes.{Appends}
use Rattle.st_pieces.specs.Lines.{Line, cut}
use Rattle.st_pieces.specs.Outcomes.{AtBad, AtLong, IsDone, IsEnded, IsFailed, IsNextTold, IsPartly, IsTold}
use Rattle.st_pieces.specs.Told.{AppendsPrefix}
use Rattle.st_pieces.specs.declared.responder.RunEnd.{RunEnd}
use Rattle.st_pieces.specs.declared.responder.RunEnd.TheVariants as run
use Rattle.st_answers.specs.Answers.{AnswersFrom, meaning_of}
use Rattle.st_answers.proofs.Following.{all_of, last, long, short_of, taken}
use Rattle.st_answers.specs.Endings.{Output, before, cut_short, end_line, end_outcome, ended, long_output, usage_output}
use Rattle.st_answers.specs.Meaning.{EndsAt, FailsAt, FinishesAt, Meaning}
use Rattle.st_answers.specs.Run.{IsAnsweredAs, IsCarriedOut, WritesAll, WritesPrefix}
use Rattle.st_answers.specs.declared.cause.EndCause.{EndCause}
use Rattle.st_answers.specs.declared.cause.EndCause.TheVariants as why
use Rattle.st_answers.specs.declared.command.Command.{Command}
use Rattle.st_answers.specs.declared.outcome.Outcome.TheVariants.{Done, TooLong, NoMemory}
use Rattle.st_run.specs.inside.Ends.{outcome_of}

module _ (m : Meaning) where
  told_done : (input old left new : Option (List ℕ)) → IsDone m.Takes (EndsAt m) (FinishesAt m) (FailsAt m) m.first input old left new
      → IfSome input (λ bytes. (left ≡ Some []) × WritesAll old new (AnswersFrom m m.first 1 0 (cut bytes)) Done)
  told_done None old left new r = tt
  told_done (Some all) old left new r =
      (r.whole.1, (before r.text (ended r.last), all_of m all r.lines [] r.text r.n r.start r.s (ended r.last) (r.whole.0 ∙ sym (append-nil r.lines)) r.answered (inr (inl (r.last, r.finishes, refl))), refl, r.written))

  told_long : (input old left new : Option (List ℕ)) (n : ℕ) → IsEnded m.Takes (EndsAt m) (FinishesAt m) (FailsAt m) m.first input old new n (AtLong m.Takes (EndsAt m) (FinishesAt m) (FailsAt m))
      → IfSome input (λ bytes. WritesAll old new (AnswersFrom m m.first 1 0 (cut bytes)) (TooLong n))
  told_long None old left new n r = tt
  told_long (Some all) old left new n r =
      let at = r.line in (
        before r.text (long_output n),
        all_of m all r.lines (at.0 ∷ at.1) r.text n r.start r.s (long_output n) at.2 r.answered (long m r.s n r.start at.0 at.1 at.3.0),
        refl,
        subst (λ (t : List ℕ). Appends old (r.text ++ t) new) at.3.1 r.written,
      )

  told_bad : (input old left new : Option (List ℕ)) (n : ℕ) (c : EndCause) → IsEnded m.Takes (EndsAt m) (FinishesAt m) (FailsAt m) m.first input old new n (AtBad m.Takes (EndsAt m) (FinishesAt m) (FailsAt m) c)
      → IfSome input (λ bytes. WritesAll old new (AnswersFrom m m.first 1 0 (cut bytes)) (end_outcome n c))
  told_bad None old left new n c r = tt
  told_bad (Some all) old left new n c r =
      let at = r.line in (
        before r.text (end_line n c),
        all_of m all r.lines (at.0 ∷ at.1) r.text n r.start r.s (end_line n c) at.2 r.answered (last m r.s n r.start at.0 c at.1 at.3.0 at.3.1.0),
        refl,
        subst (λ (t : List ℕ). Appends old (r.text ++ t) new) at.3.1.1 r.written,
      )

  told_failed : (input old left new : Option (List ℕ)) (n : ℕ) (c : EndCause) → IsFailed m.Takes (EndsAt m) (FinishesAt m) (FailsAt m) m.first input old new n c
      → IfSome input (λ bytes. WritesAll old new (AnswersFrom m m.first 1 0 (cut bytes)) (end_outcome n c))
  told_failed None old left new n c r = tt
  told_failed (Some all) old left new n (why.Refused c) r = absurd r.fails.0
  told_failed (Some all) old left new n (why.Bad c) r = (
    before r.text (end_line n (why.Bad c)),
    all_of m all r.lines [] r.text n r.start r.s (end_line n (why.Bad c)) (r.whole ∙ sym (append-nil r.lines)) r.answered (inr (inr (c, r.fails.0, refl))),
    refl,
    subst (λ (t : List ℕ). Appends old (r.text ++ t) new) r.fails.1 r.written,
  )

  -- what is told next is what is answered next, or nothing
  next_told : (s : m.State) (n start : ℕ) (rest : List Line) (next : List ℕ) → IsNextTold m.Takes (EndsAt m) (FinishesAt m) (FailsAt m) s n start rest next
      → (out : Output) × AnswersFrom m s n start rest out × (out.bytes ≡ next)
  next_told s n start [] next (inl none) = (cut_short, inl refl, sym none)
  next_told s n start [] next (inr (inl f)) = (ended next, inr (inl (next, f, refl)), refl)
  next_told s n start [] next (inr (inr (why.Refused c, h))) = absurd h.0
  next_told s n start [] next (inr (inr (why.Bad c, h))) = (end_line n (why.Bad c), inr (inr (c, h.0, refl)), sym h.1)
  next_told s n start (l ∷ ls) next (inl none) = (cut_short, inl refl, sym none)
  next_told s n start (l ∷ ls) next (inr (inl (over, is))) = (long_output n, long m s n start l ls over, sym is)
  next_told s n start (l ∷ ls) next (inr (inr (short, inl (v, takes)))) =
      (before next cut_short, taken m s v n start l next ls cut_short short takes (short_of m v (n + 1) (start + length l.bytes + l.feed) ls), append-nil next)
  next_told s n start (l ∷ ls) next (inr (inr (short, inr (c, h)))) = (end_line n c, last m s n start l c ls short h.0, sym h.1)

  told_partly : (input old new : Option (List ℕ)) → IsPartly m.Takes (EndsAt m) (FinishesAt m) (FailsAt m) m.first input old new
      → IfSome input (λ bytes. WritesPrefix old new (AnswersFrom m m.first 1 0 (cut bytes)))
  told_partly None old new r = tt
  told_partly (Some all) old new r =
      let t = next_told r.s r.n r.start r.among.0 r.next r.among.2 in (
        before r.text t.0,
        all_of m all r.lines r.among.0 r.text r.n r.start r.s t.0 r.among.1 r.answered t.1,
        subst (λ (b : List ℕ). AppendsPrefix old (r.text ++ b) new) (sym t.2) r.written,
      )

pub carried_out : (c : Command) (left rest old new : Option (List ℕ)) (o : RunEnd EndCause)
    → IsTold (meaning_of c).Takes (EndsAt (meaning_of c)) (FinishesAt (meaning_of c)) (FailsAt (meaning_of c)) (meaning_of c).first left old rest new o → IsCarriedOut c left rest old new (outcome_of o)
carried_out c left rest old new run.Done r = told_done (meaning_of c) left old rest new r
carried_out c left rest old new (run.Bad n (why.Bad e)) (inl r) = told_bad (meaning_of c) left old rest new n (why.Bad e) r
carried_out c left rest old new (run.Bad n (why.Bad e)) (inr r) = told_failed (meaning_of c) left old rest new n (why.Bad e) r
carried_out c left rest old new (run.Bad n (why.Refused e)) (inl r) = told_bad (meaning_of c) left old rest new n (why.Refused e) r
carried_out c left rest old new (run.Bad n (why.Refused e)) (inr r) = told_failed (meaning_of c) left old rest new n (why.Refused e) r
carried_out c left rest old new (run.TooLong n) r = told_long (meaning_of c) left old rest new n r
carried_out c left rest old new run.ReadFault r = r
carried_out c left rest old new run.WriteFault r = told_partly (meaning_of c) left old new r
carried_out c left rest old new run.NoMemory r = told_partly (meaning_of c) left old new r

-- nothing was written
pub nothing_added : (old : Option (List ℕ)) → Appends old [] old
nothing_added None = tt
nothing_added (Some bs) = ap Some (sym (append-nil bs))

nothing_carried : (c : Command) (left rest old : Option (List ℕ)) → IsCarriedOut c left rest old old NoMemory
nothing_carried c None rest old = tt
nothing_carried c (Some bytes) rest old = (cut_short, short_of (meaning_of c) (meaning_of c).first 1 0 (cut bytes), (0, nothing_added old))

pub nothing_answered : (asked : Option Command) (left old : Option (List ℕ)) → IsAnsweredAs asked left left old old NoMemory
nothing_answered (Some c) left old = nothing_carried c left left old
nothing_answered None left old = (refl, (usage_output, refl, (0, nothing_added old)))
