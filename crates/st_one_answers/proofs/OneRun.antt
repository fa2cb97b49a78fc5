-- Two runs by the same words over the same bytes.
use Rattle.std.proofs.Common.{◌≡◌, ℕ, List, [], ◌++◌, append_assoc, append-nil, Option, Some, None, drop, take, refl, sym, ap, ◌∙◌, subst, inl, inr}
use Rattle.std.proofs.lemmas.List.{take-append-drop}
use Rattle.st_io.specs.Bytes.{Appends}
use Rattle.st_pieces.proofs.Cutting.{front_lines}
use Rattle.st_pieces.specs.Lines.{cut}
use Rattle.st_answers.proofs.Following.{all_of as follows, short_of}
use Rattle.st_answers.specs.Answers.{Answers, OrCutShort, meaning_of}
use Rattle.st_answers.specs.Endings.{Output, before, cut_short, ended, usage_output}
use Rattle.st_answers.specs.Run.{IsAnswered, IsAnsweredAs, IsAnsweredTo, IsCarriedOut, IsOutput, IsStopped, NothingFailed, WritesAll}
use Rattle.st_answers.specs.Work.{IsWorkOutput}
use Rattle.st_words.specs.Table.{request_in}
use Rattle.st_words.specs.declared.request.Request.{Request}
use Rattle.st_words.specs.declared.request.Request.TheVariants as request
use Rattle.st_answers.specs.declared.command.Command.{Command}
use Rattle.st_answers.specs.declared.command.Command.TheVariants.{Algebra, Compat, Replay, Trace}
use Rattle.st_answers.specs.declared.outcome.Outcome.{Outcome}
use Rattle.st_answers.specs.declared.outcome.Outcome.TheVariants.{Done, Usage, BadLine, Refused, TooLong, ReadFault, WriteFault, NoMemory}
use Rattle.st_one_answers.proofs.OneListOfAnswers.{OneAnswer, answers_one, front_of_answers}
use Rattle.st_one_answers.proofs.OneLoad.{work_line_one}

-- what was written before is a front of what was written later
abbrev Front : Option (List ℕ) → Option (List ℕ) → Type 0
Front after later = (x : List ℕ) × (y : List ℕ) × (after ≡ Some x) × (later ≡ Some (x ++ y))

all_of : (old new : Option (List ℕ)) (Wanted : Output → Type 0) (o : Outcome) → IsOutput old new Wanted o → NothingFailed o → WritesAll old new Wanted o
all_of old new Wanted Done i n = i
all_of old new Wanted Usage i n = i
all_of old new Wanted (BadLine l c) i n = i
all_of old new Wanted (Refused l c) i n = i
all_of old new Wanted (TooLong l) i n = i
all_of old new Wanted ReadFault i n = absurd n
all_of old new Wanted WriteFault i n = absurd n
all_of old new Wanted NoMemory i n = absurd n

carried_all : (c : Command) (left : List ℕ) (rest old new : Option (List ℕ)) (o : Outcome) → IsCarriedOut c (Some left) rest old new o → NothingFailed o → WritesAll old new (Answers c left) o
carried_all c left rest old new Done i n = i.1
carried_all c left rest old new Usage i n = absurd i
carried_all c left rest old new (BadLine l d) i n = i
carried_all c left rest old new (Refused l d) i n = i
carried_all c left rest old new (TooLong l) i n = i
carried_all c left rest old new ReadFault i n = absurd n
carried_all c left rest old new WriteFault i n = absurd n
carried_all c left rest old new NoMemory i n = absurd n

module _ (written : List ℕ) (Wanted : Output → Type 0)
    (one : (a b : Output) → Wanted a → Wanted b → NothingFailed a.outcome → NothingFailed b.outcome → a ≡ b)
    (front : (a b : Output) → Wanted a → Wanted b → NothingFailed b.outcome → (rest : List ℕ) × (b.bytes ≡ a.bytes ++ rest)) where
  both_all : (after later : Option (List ℕ)) (o p : Outcome) → NothingFailed o → NothingFailed p → WritesAll (Some written) after Wanted o → WritesAll (Some written) later Wanted p → (o ≡ p) × (after ≡ later)
  both_all after later o p n m (a, is, e, x) (b, was, f, y) =
      let same : a ≡ b = one a b is was (subst NothingFailed (sym e) n) (subst NothingFailed (sym f) m) in
      (sym e ∙ ap (λ (z : Output). z.outcome) same ∙ f, x ∙ ap (λ (z : Output). Some (written ++ z.bytes)) same ∙ sym y)

  longer : (k : ℕ) (l r : List ℕ) → written ++ (l ++ r) ≡ written ++ take k l ++ (drop k l ++ r)
  longer k l r = ap (λ t. written ++ (t ++ r)) (sym (take-append-drop k l)) ∙ ap (λ t. written ++ t) (append_assoc (take k l) (drop k l) r) ∙ sym (append_assoc written (take k l) (drop k l ++ r))

  front_all : (after later : Option (List ℕ)) (o p : Outcome) → NothingFailed p → WritesAll (Some written) after Wanted o → WritesAll (Some written) later Wanted p → Front after later
  front_all after later o p m (a, is, e, x) (b, was, f, y) =
      let r = front a b is was (subst NothingFailed (sym f) m) in
      (written ++ a.bytes, r.0, x, y ∙ ap (λ t. Some (written ++ t)) r.1 ∙ ap (λ t. Some t) (sym (append_assoc written a.bytes r.0)))

  front_part : (after later : Option (List ℕ)) (p : Outcome) → NothingFailed p → ((a : Output) × Wanted a × ((k : ℕ) × Appends (Some written) (take k a.bytes) after)) → WritesAll (Some written) later Wanted p → Front after later
  front_part after later p m (a, is, (k, x)) (b, was, f, y) =
      let r = front a b is was (subst NothingFailed (sym f) m) in
      (written ++ take k a.bytes, drop k a.bytes ++ r.0, x, y ∙ ap (λ t. Some (written ++ t)) r.1 ∙ ap (λ t. Some t) (longer k a.bytes r.0))

  front_out : (after later : Option (List ℕ)) (o p : Outcome) → NothingFailed p → IsOutput (Some written) after Wanted o → WritesAll (Some written) later Wanted p → Front after later
  front_out after later Done p m x y = front_all after later Done p m x y
  front_out after later Usage p m x y = front_all after later Usage p m x y
  front_out after later (BadLine l c) p m x y = front_all after later (BadLine l c) p m x y
  front_out after later (Refused l c) p m x y = front_all after later (Refused l c) p m x y
  front_out after later (TooLong l) p m x y = front_all after later (TooLong l) p m x y
  front_out after later ReadFault p m x y = absurd x
  front_out after later WriteFault p m x y = front_part after later p m x y
  front_out after later NoMemory p m x y = front_part after later p m x y

-- words that are no command
usage_one : (a b : Output) → a ≡ usage_output → b ≡ usage_output → NothingFailed a.outcome → NothingFailed b.outcome → a ≡ b
usage_one a b e f n m = e ∙ sym f

usage_front : (a b : Output) → a ≡ usage_output → b ≡ usage_output → NothingFailed b.outcome → (rest : List ℕ) × (b.bytes ≡ a.bytes ++ rest)
usage_front a b e f m = ([], ap (λ (z : Output). z.bytes) (f ∙ sym e) ∙ sym (nothing_more a.bytes))
  where
    nothing_more : (l : List ℕ) → l ++ [] ≡ l
    nothing_more l = append-nil l

-- a load
load_one : (seed steps : ℕ) (a b : Output) → OrCutShort (IsWorkOutput seed steps) a → OrCutShort (IsWorkOutput seed steps) b → NothingFailed a.outcome → NothingFailed b.outcome → a ≡ b
load_one seed steps a b (inl e) y n m = absurd (subst (λ (o : Output). NothingFailed o.outcome) e n)
load_one seed steps a b (inr x) (inl e) n m = absurd (subst (λ (o : Output). NothingFailed o.outcome) e m)
load_one seed steps a b (inr (s, is, e)) (inr (t, was, f)) n m = e ∙ ap ended (work_line_one seed steps s t is was) ∙ sym f

load_front : (seed steps : ℕ) (a b : Output) → OrCutShort (IsWorkOutput seed steps) a → OrCutShort (IsWorkOutput seed steps) b → NothingFailed b.outcome → (rest : List ℕ) × (b.bytes ≡ a.bytes ++ rest)
load_front seed steps a b (inl e) y m = (b.bytes, sym (ap (λ (o : Output). o.bytes ++ b.bytes) e))
load_front seed steps a b (inr x) (inl e) m = absurd (subst (λ (o : Output). NothingFailed o.outcome) e m)
load_front seed steps a b (inr (s, is, e)) (inr (t, was, f)) m =
    ([], ap (λ (o : Output). o.bytes) (f ∙ ap ended (work_line_one seed steps t s was is) ∙ sym e) ∙ sym (append-nil a.bytes))

-- where a request to the algebra has one answer
module _ (asked : OneAnswer) where
  whole_by : (command : Option Command) (left written : List ℕ) (rest more after later : Option (List ℕ)) (o p : Outcome) → IsAnsweredAs command (Some left) rest (Some written) after o → IsAnsweredAs command (Some left) more (Some written) later p
      → NothingFailed o → NothingFailed p → (o ≡ p) × (after ≡ later)
  whole_by (Some c) left written rest more after later o p x y n m =
      both_all written (Answers c left) (answers_one asked c left) (front_of_answers asked c left) after later o p n m (carried_all c left rest (Some written) after o x n) (carried_all c left more (Some written) later p y m)
  whole_by None left written rest more after later o p x y n m =
      both_all written (λ (out : Output). out ≡ usage_output) usage_one usage_front after later o p n m (all_of (Some written) after (λ (out : Output). out ≡ usage_output) o x.1 n) (all_of (Some written) later (λ (out : Output). out ≡ usage_output) p y.1 m)

  -- what was written where the source failed is a front of what is answered
  stopped_front : (c : Command) (left written : List ℕ) (rest after later : Option (List ℕ)) (p : Outcome) → NothingFailed p → IsStopped (meaning_of c) (Some left) rest (Some written) after → WritesAll (Some written) later (Answers c left) p → Front after later
  stopped_front c left written rest after later p m x y =
      let r = front_lines (Some left) rest x.lines x.tail x.read in
      let a = before x.text cut_short in
      let is : Answers c left a = follows (meaning_of c) left x.lines (cut (x.tail ++ r.0)) x.text x.n x.start x.s cut_short r.1 x.answered (short_of (meaning_of c) x.s x.n x.start (cut (x.tail ++ r.0))) in
      front_all written (Answers c left) (answers_one asked c left) (front_of_answers asked c left) after later NoMemory p m (a, is, refl, subst (λ (t : List ℕ). Appends (Some written) t after) (sym (append-nil x.text)) x.written) y

  front_carried : (c : Command) (left written : List ℕ) (rest after later : Option (List ℕ)) (o p : Outcome) → NothingFailed p → IsCarriedOut c (Some left) rest (Some written) after o → WritesAll (Some written) later (Answers c left) p → Front after later
  front_carried c left written rest after later Done p m x y = front_out written (Answers c left) (answers_one asked c left) (front_of_answers asked c left) after later Done p m x.1 y
  front_carried c left written rest after later Usage p m x y = absurd x
  front_carried c left written rest after later (BadLine l d) p m x y = front_out written (Answers c left) (answers_one asked c left) (front_of_answers asked c left) after later (BadLine l d) p m x y
  front_carried c left written rest after later (Refused l d) p m x y = front_out written (Answers c left) (answers_one asked c left) (front_of_answers asked c left) after later (Refused l d) p m x y
  front_carried c left written rest after later (TooLong l) p m x y = front_out written (Answers c left) (answers_one asked c left) (front_of_answers asked c left) after later (TooLong l) p m x y
  front_carried c left written rest after later ReadFault p m x y = stopped_front c left written rest after later p m x y
  front_carried c left written rest after later WriteFault p m x y = front_out written (Answers c left) (answers_one asked c left) (front_of_answers asked c left) after later WriteFault p m x y
  front_carried c left written rest after later NoMemory p m x y = front_out written (Answers c left) (answers_one asked c left) (front_of_answers asked c left) after later NoMemory p m x y

  front_by : (command : Option Command) (left written : List ℕ) (rest more after later : Option (List ℕ)) (o p : Outcome) → IsAnsweredAs command (Some left) rest (Some written) after o → IsAnsweredAs command (Some left) more (Some written) later p → NothingFailed p → Front after later
  front_by (Some c) left written rest more after later o p x y m = front_carried c left written rest after later o p m x (carried_all c left more (Some written) later p y m)
  front_by None left written rest more after later o p x y m =
      front_out written (λ (out : Output). out ≡ usage_output) usage_one usage_front after later o p m x.1 (all_of (Some written) later (λ (out : Output). out ≡ usage_output) p y.1 m)

  whole_of : (request : Option Request) (left written : List ℕ) (rest more after later : Option (List ℕ)) (o p : Outcome) → IsAnsweredTo request (Some left) rest (Some written) after o → IsAnsweredTo request (Some left) more (Some written) later p
      → NothingFailed o → NothingFailed p → (o ≡ p) × (after ≡ later)
  whole_of None = whole_by None
  whole_of (Some request.Trace) = whole_by (Some Trace)
  whole_of (Some request.Replay) = whole_by (Some Replay)
  whole_of (Some request.Algebra) = whole_by (Some Algebra)
  whole_of (Some request.Compat) = whole_by (Some Compat)
  whole_of (Some (request.Work seed steps)) = λ left written rest more after later o p x y n m.
      both_all written (OrCutShort (IsWorkOutput seed steps)) (load_one seed steps) (load_front seed steps) after later o p n m
      (all_of (Some written) after (OrCutShort (IsWorkOutput seed steps)) o x.1 n) (all_of (Some written) later (OrCutShort (IsWorkOutput seed steps)) p y.1 m)

  front_of : (request : Option Request) (left written : List ℕ) (rest more after later : Option (List ℕ)) (o p : Outcome) → IsAnsweredTo request (Some left) rest (Some written) after o → IsAnsweredTo request (Some left) more (Some written) later p
      → NothingFailed p → Front after later
  front_of None = front_by None
  front_of (Some request.Trace) = front_by (Some Trace)
  front_of (Some request.Replay) = front_by (Some Replay)
  front_of (Some request.Algebra) = front_by (Some Algebra)
  front_of (Some request.Compat) = front_by (Some Compat)
  front_of (Some (request.Work seed steps)) = λ left written rest more after later o p x y m.
      front_out written (OrCutShort (IsWorkOutput seed steps)) (load_one seed steps) (load_front seed steps) after later o p m x.1
      (all_of (Some written) later (OrCutShort (IsWorkOutput seed steps)) p y.1 m)

  pub run_whole : (words : List (List ℕ)) (left written : List ℕ) (rest more after later : Option (List ℕ)) (o p : Outcome) → IsAnswered words (Some left) rest (Some written) after o → IsAnswered words (Some left) more (Some written) later p
      → NothingFailed o → NothingFailed p → (o ≡ p) × (after ≡ later)
  run_whole words = whole_of (request_in words)

  pub run_front : (words : List (List ℕ)) (left written : List ℕ) (rest more after later : Option (List ℕ)) (o p : Outcome) → IsAnswered words (Some left) rest (Some written) after o → IsAnswered words (Some left) more (Some written) later p
      → NothingFailed p → (x : List ℕ) × (y : List ℕ) × (after ≡ Some x) × (later ≡ Some (x ++ y))
  run_front words = front_of (request_in words)
