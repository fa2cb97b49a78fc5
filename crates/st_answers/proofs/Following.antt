-- The answers to lines that follow others which were answered.
use Rattle.std.proofs.Common.{◌≡◌, ℕ, ◌+◌, Bool, true, false, List, [], ◌∷◌, ◌++◌, length, refl, sym, subst, append_assoc, inl, inr}
use Rattle.st_pieces.specs.Lines.{Line, cut, is_long}
use Rattle.st_pieces.specs.Told.{Answered, more, nothing}
use Rattle.st_answers.specs.Answers.{AnswersFrom, AnswersLine}
use Rattle.st_answers.specs.Endings.{Output, before, cut_short, end_line, long_output}
use Rattle.st_answers.specs.Meaning.{EndsBy, Meaning}
use Rattle.st_answers.specs.declared.cause.EndCause.{EndCause}

module _ (m : Meaning) where
  -- ## One line

  -- a line that is answered, and what follows it
  pub taken : (s v : m.State) (n start : ℕ) (l : Line) (told : List ℕ) (ls : List Line) (out : Output) → is_long n start l ≡ false → m.Takes s n l.bytes told v
      → AnswersFrom m v (n + 1) (start + length l.bytes + l.feed) ls out → AnswersFrom m s n start (l ∷ ls) (before told out)
  taken s v n start l told ls out short takes follows =
      inr (subst (λ (b : Bool). AnswersLine m b s n l.bytes (λ u. AnswersFrom m u (n + 1) (start + length l.bytes + l.feed) ls) (before told out)) (sym short)
      (inl (record { told = told; state = v; rest = out; takes = takes; follows = follows; whole = refl })))

  pub last : (s : m.State) (n start : ℕ) (l : Line) (c : EndCause) (ls : List Line) → is_long n start l ≡ false → EndsBy m s l.bytes c → AnswersFrom m s n start (l ∷ ls) (end_line n c)
  last s n start l c ls short is =
      inr (subst (λ (b : Bool). AnswersLine m b s n l.bytes (λ u. AnswersFrom m u (n + 1) (start + length l.bytes + l.feed) ls) (end_line n c)) (sym short)
      (inr (record { cause = c; is = is; whole = refl })))

  pub long : (s : m.State) (n start : ℕ) (l : Line) (ls : List Line) → is_long n start l ≡ true → AnswersFrom m s n start (l ∷ ls) (long_output n)
  long s n start l ls over =
      inr (subst (λ (b : Bool). AnswersLine m b s n l.bytes (λ u. AnswersFrom m u (n + 1) (start + length l.bytes + l.feed) ls) (long_output n)) (sym over) refl)

  pub short_of : (s : m.State) (n start : ℕ) (ls : List Line) → AnswersFrom m s n start ls cut_short
  short_of s n start [] = inl refl
  short_of s n start (l ∷ ls) = inl refl

  -- ## Lines that were answered before the rest

  pub onto : {ls : List Line} {n start : ℕ} {text : List ℕ} {s : m.State} → Answered m.Takes m.first ls n start text s
      → (rest : List Line) (out : Output) → AnswersFrom m s n start rest out → AnswersFrom m m.first 1 0 (ls ++ rest) (before text out)
  onto nothing rest out h = h
  onto (more {ls} {n} {start} {text} {s} l told v a short takes) rest out h =
      let longer = onto a (l ∷ rest) (before told out) (taken s v n start l told rest out short takes h) in
      subst (λ (o : Output). AnswersFrom m m.first 1 0 ((ls ++ l ∷ []) ++ rest) o) (λ i. record { bytes = sym (append_assoc text told out.bytes) i; outcome = out.outcome })
      (subst (λ (all : List Line). AnswersFrom m m.first 1 0 all (before text (before told out))) (sym (append_assoc ls (l ∷ []) rest)) longer)

  -- the same, of all lines of an input
  pub all_of : (all : List ℕ) (lines rest : List Line) (text : List ℕ) (n start : ℕ) (s : m.State) (out : Output) → cut all ≡ lines ++ rest → Answered m.Takes m.first lines n start text s → AnswersFrom m s n start rest out
      → AnswersFrom m m.first 1 0 (cut all) (before text out)
  all_of all lines rest text n start s out cuts a h = subst (λ (ls : List Line). AnswersFrom m m.first 1 0 ls (before text out)) (sym cuts) (onto a rest out h)
