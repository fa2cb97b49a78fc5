-- An input has one list of answers under a command.
use Rattle.std.proofs.lemmas.Option.{slice_get_within}
use Rattle.std.proofs.Common.{◌≡◌, ◌⊎◌, inl, inr, arith, ◌-◌, Option, Some, None, ℕ, ◌+◌, Bool, true, false, List, [], ◌∷◌, ◌++◌, append_assoc, append-nil, Result, Ok, Err, codes, length, refl, sym, ap, ◌∙◌, subst}
use Rattle.st_json.specs.declared.fault.BadCause.{BadCause}
use Rattle.st_compat.specs.RelationText.{relation_line}
use Rattle.st_compat.specs.Relation.{IsRelation}
use Rattle.st_compat.specs.SchemaLine.{IsSchemaLine}
use Rattle.st_schema.specs.Schema.{SchemaView}
use Rattle.st_lists.specs.Clients.{empty_state}
use Rattle.st_lists.specs.declared.lists.Entry.{Entry}
use Rattle.st_lists.specs.declared.lists.WorldState.{WorldState}
use Rattle.st_marks.specs.Document.{Document}
use Rattle.st_msg.specs.Messages.{MessageView}
use Rattle.st_texts.specs.Texts.{IsMessageOf}
use Rattle.st_script.specs.AnswerText.{answer_line}
use Rattle.st_script.specs.Header.{HeaderView, header_line}
use Rattle.st_script.proofs.Fits.{line_fits}
use Rattle.st_script.proofs.OfForm.{header_line_kept}
use Rattle.std.specs.List.{AllByRecursion}
use Rattle.st_world.specs.World.{IsNext, opening_document}
use Rattle.st_world_laws.specs.Worlds.{IsWorld}
use Rattle.st_world_laws.proofs.Going.{begun_sound}
use Rattle.st_world_laws.proofs.Leading.{leads_on}
use Rattle.st_world_laws.proofs.LeadingBranches.{all_lead}
use Rattle.st_one_laws.proofs.AlikeToItself.{worlds_itself}
use Rattle.st_one_laws.proofs.OneMeaning.{lists_mean_one}
use Rattle.st_script.specs.Line.{step_of_line}
use Rattle.st_script.specs.Steps.{StepView}
use Rattle.st_script.specs.declared.answer.Answer.{Answer}
use Rattle.st_pieces.specs.Lines.{Line, cut, is_long}
use Rattle.st_requests.specs.Requests.{IsRequest}
use Rattle.st_requests.specs.declared.request.Request.{Request}
use Rattle.st_answers.specs.Algebra.{IsAsked, algebra}
use Rattle.st_answers.specs.Answers.{Answers, AnswersEnd, AnswersFrom, AnswersLine, OrCutShort}
use Rattle.st_answers.specs.Compat.{CompatState, IsBadInCompat, TakesCompat, compat, related, stored, unread}
use Rattle.st_answers.specs.Endings.{Output, bad_line, before, cut_short, end_line, ended, long_output}
use Rattle.st_answers.specs.Meaning.{EndsBy, Meaning}
use Rattle.st_answers.specs.Replay.{ReplayState, replay}
use Rattle.st_answers.specs.Replay as replayed
use Rattle.st_answers.specs.Run.{NothingFailed}
use Rattle.st_answers.specs.Trace.{IsBadInTrace, IsEntryTold, IsNoEntry, IsStep, IsTextLine, TakesTrace, TraceState, entry_asked, message_line, opened, trace, unopened}
use Rattle.st_answers.specs.declared.cause.EndCause.{EndCause}
use Rattle.st_answers.specs.declared.cause.EndCause.TheVariants as why
use Rattle.st_answers.specs.declared.command.Command.{Command}
use Rattle.st_answers.specs.declared.command.Command.TheVariants.{Trace, Replay, Compat, Algebra}
use Rattle.st_answers.specs.declared.outcome.Outcome.TheVariants.{NoMemory}
use Rattle.st_one_laws.specs.AlikeWorlds.{AlikeEntry, AreAlike, OneByOne}
use Rattle.st_one_laws.proofs.OneByOne.{as_long}
use Rattle.st_one_laws.proofs.StepsOfWorlds.{next_alike}
use Rattle.st_one_answers.specs.StepAnswers.{AreAnswers, HasSoundSchema}
use Rattle.st_one_answers.proofs.EachWorldGoesOn.{StepsGoOn, fits_rules, steps_go_on}
use Rattle.st_one_answers.proofs.BothAlike.{logs_alike}
use Rattle.st_one_answers.proofs.OneMessage.{message_one}
use Rattle.st_one_answers.proofs.OneRelation.{line_one, relation_one}
use Rattle.st_one_answers.proofs.OneReplay.{AreOneLog, replay_bad_apart, replay_bad_or_refused, replay_bad_other, replay_ends_apart, replay_ends_one, replay_ends_other, replay_lacks_one, replay_one_bad, replay_one_refusal, replay_refused_apart, replay_refused_or_bad, replay_refused_other, replay_takes_one}
use Rattle.st_one_answers.proofs.OneRequest.{line_one as request_line_one}
use Rattle.st_valid.specs.declared.message.ReplayCause.{ReplayCause}

steps_one : (h : HeaderView) (w x u : WorldState) (steps : List StepView) (xs ys : List Answer) → StepsGoOn h u steps → AreAlike w u → AreAlike x u → AreAnswers h w steps xs → AreAnswers h x steps ys → xs ≡ ys
steps_one h w x u [] xs ys on p q a b = a ∙ sym b
steps_one h w x u (s ∷ steps) xs ys (one, (t, c, next, on)) p q (v, a, rest, is, more, e) (y, b, last, was, after, f) =
    let l = next_alike h w u p one s v t a c is next in
    let r = next_alike h x u q one s y t b c was next in
    let same : a ≡ b = l.0 ∙ sym r.0 in
    let rests : rest ≡ last = steps_one h v y t steps rest last on l.1 r.1 more after in
    e ∙ (λ i. same i ∷ rests i) ∙ sym f

-- a front, and the whole of it unless memory ran out
abbrev IsFront : Output → Output → Type 0
IsFront a b = ((a ≡ b) ⊎ (a.outcome ≡ NoMemory)) × ((rest : List ℕ) × (b.bytes ≡ a.bytes ++ rest))

front_same : (a b c : Output) → a ≡ c → b ≡ c → IsFront a b
front_same a b c e f = (inl (e ∙ sym f), ([], ap (λ (o : Output). o.bytes) (f ∙ sym e) ∙ sym (append-nil a.bytes)))

front_before : (line : List ℕ) (a b : Output) → IsFront a b → IsFront (before line a) (before line b)
front_before line a b (same, (rest, e)) = (go same, (rest, ap (λ bytes. line ++ bytes) e ∙ sym (append_assoc line a.bytes rest)))
  where
    go : (a ≡ b) ⊎ (a.outcome ≡ NoMemory) → (before line a ≡ before line b) ⊎ ((before line a).outcome ≡ NoMemory)
    go (inl e) = inl (ap (before line) e)
    go (inr e) = inr e

front_of : (a b c d : Output) → a ≡ c → b ≡ d → IsFront c d → IsFront a b
front_of a b c d e f i = subst (λ x. IsFront x b) (sym e) (subst (IsFront c) (sym f) i)

failed : (a : Output) → a ≡ cut_short → NothingFailed a.outcome → ⊥
failed a e n = subst (λ (o : Output). NothingFailed o.outcome) e n

or_cut : (P Q : Output → Type 0) (a b : Output) → NothingFailed b.outcome → (P a → Q b → IsFront a b) → OrCutShort P a → OrCutShort Q b → IsFront a b
or_cut P Q a b n next x (inl e) = absurd (failed b e n)
or_cut P Q a b n next (inl e) (inr y) = (inr (ap (λ (o : Output). o.outcome) e), (b.bytes, sym (ap (λ (o : Output). o.bytes ++ b.bytes) e)))
or_cut P Q a b n next (inr x) (inr y) = next x y

fine_rest : (line : List ℕ) (a b : Output) → a ≡ before line b → NothingFailed a.outcome → NothingFailed b.outcome
fine_rest line a b e n = subst (λ (o : Output). NothingFailed o.outcome) e n

-- ## Any command

-- from two states that are alike a line is answered alike or ends the run alike, and the input ends alike
record IsOne (m : Meaning) (Alike : m.State → m.State → Type 0) : Type 0 where
  takes : (s t u v : m.State) (n : ℕ) (line a b : List ℕ) → Alike s t → m.Takes s n line a u → m.Takes t n line b v → (a ≡ b) × Alike u v
  apart : (s t u : m.State) (n : ℕ) (line a : List ℕ) (c : EndCause) → Alike s t → m.Takes s n line a u → EndsBy m t line c → ⊥
  other : (s t v : m.State) (n : ℕ) (line b : List ℕ) (c : EndCause) → Alike s t → EndsBy m s line c → m.Takes t n line b v → ⊥
  last : (s t : m.State) (line : List ℕ) (c e : EndCause) → Alike s t → EndsBy m s line c → EndsBy m t line e → c ≡ e
  ends : (s t : m.State) (a b : List ℕ) → Alike s t → m.Finishes s a → m.Finishes t b → a ≡ b
  lacks : (s t : m.State) (c e : BadCause) → Alike s t → m.Lacks s c → m.Lacks t e → c ≡ e
  ends_apart : (s t : m.State) (a : List ℕ) (c : BadCause) → Alike s t → m.Finishes s a → m.Lacks t c → ⊥
  ends_other : (s t : m.State) (b : List ℕ) (c : BadCause) → Alike s t → m.Lacks s c → m.Finishes t b → ⊥

-- where no message is refused, what is told of bad lines tells of all that end a run
module _ (m : Meaning) (Alike : m.State → m.State → Type 0) (none : (s : m.State) (line : List ℕ) (c : ReplayCause) → m.IsRefused s line c → ⊥) where
  apart_alone : ((s t u : m.State) (n : ℕ) (line a : List ℕ) (c : BadCause) → Alike s t → m.Takes s n line a u → m.IsBad t line c → ⊥)
      → (s t u : m.State) (n : ℕ) (line a : List ℕ) (c : EndCause) → Alike s t → m.Takes s n line a u → EndsBy m t line c → ⊥
  apart_alone apart s t u n line a (why.Bad c) k y z = apart s t u n line a c k y z
  apart_alone apart s t u n line a (why.Refused c) k y z = none t line c z

  other_alone : ((s t v : m.State) (n : ℕ) (line b : List ℕ) (c : BadCause) → Alike s t → m.IsBad s line c → m.Takes t n line b v → ⊥)
      → (s t v : m.State) (n : ℕ) (line b : List ℕ) (c : EndCause) → Alike s t → EndsBy m s line c → m.Takes t n line b v → ⊥
  other_alone other s t v n line b (why.Bad c) k y z = other s t v n line b c k y z
  other_alone other s t v n line b (why.Refused c) k y z = none s line c y

  last_alone : ((s t : m.State) (line : List ℕ) (c e : BadCause) → Alike s t → m.IsBad s line c → m.IsBad t line e → c ≡ e)
      → (s t : m.State) (line : List ℕ) (c e : EndCause) → Alike s t → EndsBy m s line c → EndsBy m t line e → c ≡ e
  last_alone one s t line (why.Bad c) (why.Bad e) k y z = ap why.Bad (one s t line c e k y z)
  last_alone one s t line (why.Bad c) (why.Refused e) k y z = absurd (none t line e z)
  last_alone one s t line (why.Refused c) e k y z = absurd (none s line c y)

module _ (m : Meaning) (Alike : m.State → m.State → Type 0) (one : IsOne m Alike) where
  end_one : (s t : m.State) (n : ℕ) (a b : Output) → Alike s t → AnswersEnd m s n a → AnswersEnd m t n b → IsFront a b
  end_one s t n a b k (inl (x, f, e)) (inl (y, g, d)) = front_same a b (ended y) (e ∙ ap ended (one.ends s t x y k f g)) d
  end_one s t n a b k (inl (x, f, e)) (inr (c, g, d)) = absurd (one.ends_apart s t x c k f g)
  end_one s t n a b k (inr (c, f, e)) (inl (y, g, d)) = absurd (one.ends_other s t y c k f g)
  end_one s t n a b k (inr (c, f, e)) (inr (x, g, d)) = front_same a b (bad_line n x) (e ∙ ap (bad_line n) (one.lacks s t c x k f g)) d

  line_answers_one : (s t : m.State) (n : ℕ) (line : List ℕ) (long : Bool) (Rest : m.State → Output → Type 0) (a b : Output) → Alike s t
      → ((u v : m.State) (c d : Output) → Alike u v → Rest u c → Rest v d → NothingFailed d.outcome → IsFront c d) → NothingFailed b.outcome
      → AnswersLine m long s n line Rest a → AnswersLine m long t n line Rest b → IsFront a b
  line_answers_one s t n line true Rest a b k later fine y z = front_same a b (long_output n) y z
  line_answers_one s t n line false Rest a b k later fine (inl y) (inl z) =
      let same = one.takes s t y.state z.state n line y.told z.told k y.takes z.takes in
      let rest = later y.state z.state y.rest z.rest same.1 y.follows z.follows (fine_rest z.told b z.rest z.whole fine) in
      front_of a b (before z.told y.rest) (before z.told z.rest) (y.whole ∙ ap (λ x. before x y.rest) same.0) z.whole (front_before z.told y.rest z.rest rest)
  line_answers_one s t n line false Rest a b k later fine (inl y) (inr z) = absurd (one.apart s t y.state n line y.told z.cause k y.takes z.is)
  line_answers_one s t n line false Rest a b k later fine (inr y) (inl z) = absurd (one.other s t z.state n line z.told y.cause k y.is z.takes)
  line_answers_one s t n line false Rest a b k later fine (inr y) (inr z) =
      front_same a b (end_line n z.cause) (y.whole ∙ ap (end_line n) (one.last s t line y.cause z.cause k y.is z.is)) z.whole

  from_one : (ls : List Line) (s t : m.State) (n start : ℕ) (a b : Output) → Alike s t → AnswersFrom m s n start ls a → AnswersFrom m t n start ls b → NothingFailed b.outcome → IsFront a b
  from_one [] s t n start a b k y z fine = or_cut (AnswersEnd m s n) (AnswersEnd m t n) a b fine (end_one s t n a b k) y z
  from_one (l ∷ ls) s t n start a b k y z fine =
      or_cut (AnswersLine m (is_long n start l) s n l.bytes (λ v. AnswersFrom m v (n + 1) (start + length l.bytes + l.feed) ls)) (AnswersLine m (is_long n start l) t n l.bytes (λ v. AnswersFrom m v (n + 1) (start + length l.bytes + l.feed) ls)) a b fine
      (line_answers_one s t n l.bytes (is_long n start l) (λ v. AnswersFrom m v (n + 1) (start + length l.bytes + l.feed) ls) a b k (λ u v c d alike p q f. from_one ls u v (n + 1) (start + length l.bytes + l.feed) c d alike p q f) fine) y z

-- ## A trace

there : {A E : Type 0} (r : Result A E) (x y : A) → r ≡ Ok x → r ≡ Ok y → x ≡ y
there r x y e f = let q : Ok x ≡ Ok y = sym e ∙ f in cc

why_one : {A E : Type 0} (r : Result A E) (x y : E) → r ≡ Err x → r ≡ Err y → x ≡ y
why_one r x y e f = let q : Err x ≡ Err y = sym e ∙ f in cc

both : {A E : Type 0} (r : Result A E) (x : A) (y : E) → r ≡ Ok x → r ≡ Err y → ⊥
both r x y e f = let q : Ok x ≡ Err y = sym e ∙ f in cc

-- two worlds that are alike to one that steps lead to
abbrev AreOne : TraceState → TraceState → Type 0
AreOne unopened unopened = Unit {0}
AreOne unopened (opened g x) = ⊥
AreOne (opened h w) unopened = ⊥
AreOne (opened h w) (opened g x) = (h ≡ g) × (u : WorldState) × IsWorld g u × AreAlike w u × AreAlike x u

empty_alike : AreAlike empty_state empty_state
empty_alike = record { log = tt; clients = tt }

step_one : (h : HeaderView) (w x u : WorldState) (line a b : List ℕ) (s t : TraceState) → IsWorld h u → AreAlike w u → AreAlike x u → IsStep h w line a s → IsStep h x line b t → (a ≡ b) × AreOne s t
step_one h w x u line a b s t sound p q y z =
    let same : y.step ≡ z.step = there (step_of_line line) y.step z.step y.is z.is in
    let r = leads_on h u sound (all_lead h u sound) z.step in
    let left = next_alike h w u p (lists_mean_one h u sound) z.step y.world r.0 y.answer r.1 (subst (λ (k : StepView). IsNext h w k y.world y.answer) same y.next) r.2 in
    let right = next_alike h x u q (lists_mean_one h u sound) z.step z.world r.0 z.answer r.1 z.next r.2 in
    let further = r.3 (fits_rules z.step.branch z.step.act (line_fits line z.step z.is).1) in
    let after : AreOne (opened h y.world) (opened h z.world) = (refl, r.0, further, left.1, right.1) in (
      y.told ∙ ap answer_line (left.0 ∙ sym right.0) ∙ sym z.told,
      subst (λ (k : TraceState). AreOne k t) (sym y.state) (subst (λ (k : TraceState). AreOne (opened h y.world) k) (sym z.state) after),
    )

-- ## Texts of entries

-- an entry that has a message is there
is_entry : (O : Document) (log : List Entry) (n : ℕ) (m : MessageView) → IsMessageOf O log n m → IsNoEntry log n → ⊥
is_entry O log n m is (inl none) = omega (arith, is.counted, none)
is_entry O log n m is (inr past) = omega (arith, slice_get_within log (n - 1) is.entry is.there, is.counted, past)

entry_told_one : (O : Document) (es fs : List Entry) (n : ℕ) (a b : List ℕ) → OneByOne AlikeEntry es fs → IsEntryTold O es n a → IsEntryTold O fs n b → a ≡ b
entry_told_one O es fs n a b o (inl y) (inl z) = y.1 ∙ sym z.1
entry_told_one O es fs n a b o (inl y) (inr z) = absurd (is_entry O fs n z.0 z.1 (none_either es fs n (as_long AlikeEntry es fs o) y.0))
  where
    none_either : (es fs : List Entry) (n : ℕ) → length es ≡ length fs → IsNoEntry es n → IsNoEntry fs n
    none_either es fs n same (inl none) = inl none
    none_either es fs n same (inr past) = inr (omega (arith, same, past))
entry_told_one O es fs n a b o (inr y) (inl z) = absurd (is_entry O es n y.0 y.1 (none_either es fs n (as_long AlikeEntry es fs o) z.0))
  where
    none_either : (es fs : List Entry) (n : ℕ) → length es ≡ length fs → IsNoEntry fs n → IsNoEntry es n
    none_either es fs n same (inl none) = inl none
    none_either es fs n same (inr past) = inr (omega (arith, same, past))
entry_told_one O es fs n a b o (inr y) (inr z) = y.2 ∙ ap message_line (message_one O es fs n y.0 z.0 o y.1 z.1) ∙ sym z.2

same_some : (o : Option ℕ) (x y : ℕ) → o ≡ Some x → o ≡ Some y → x ≡ y
same_some o x y e f = let q : Some x ≡ Some y = sym e ∙ f in cc

some_none : (o : Option ℕ) (x : ℕ) → o ≡ Some x → o ≡ None → ⊥
some_none o x e f = let q : Some x ≡ None = sym e ∙ f in cc

text_one : (h : HeaderView) (w x u : WorldState) (line a b : List ℕ) (s t : TraceState) → IsWorld h u → AreAlike w u → AreAlike x u → IsTextLine h w line a s → IsTextLine h x line b t → (a ≡ b) × AreOne s t
text_one h w x u line a b s t sound p q y z =
    let entry : y.entry ≡ z.entry = same_some (entry_asked line) y.entry z.entry y.asks z.asks in
    let after : AreOne (opened h w) (opened h x) = (refl, u, sound, p, q) in (
      entry_told_one (opening_document h) w.log x.log z.entry a b (logs_alike w x u p q) (subst (λ n. IsEntryTold (opening_document h) w.log n a) entry y.told) z.told,
      subst (λ (k : TraceState). AreOne k t) (sym y.state) (subst (λ (k : TraceState). AreOne (opened h w) k) (sym z.state) after),
    )

trace_takes_one : (s t u v : TraceState) (n : ℕ) (line a b : List ℕ) → AreOne s t → TakesTrace s n line a u → TakesTrace t n line b v → (a ≡ b) × AreOne u v
trace_takes_one unopened unopened u v n line a b k y z =
    let kept = header_line_kept (codes "trace") line z.header z.is in
    let after : AreOne (opened y.header empty_state) (opened z.header empty_state) =
    (there (header_line (codes "trace") line) y.header z.header y.is z.is, empty_state, begun_sound z.header (record { schema = kept.0; tree = kept.1 }), empty_alike, empty_alike) in (
      y.told ∙ sym z.told,
      subst (λ (k : TraceState). AreOne k v) (sym y.state) (subst (λ (k : TraceState). AreOne (opened y.header empty_state) k) (sym z.state) after),
    )
trace_takes_one unopened (opened g x) u v n line a b k y z = absurd k
trace_takes_one (opened h w) unopened u v n line a b k y z = absurd k
trace_takes_one (opened h w) (opened g x) u v n line a b k y z = lines_one (subst (λ (i : HeaderView). IsStep i w line a u ⊎ IsTextLine i w line a u) k.0 y) z
  where
    lines_one : IsStep g w line a u ⊎ IsTextLine g w line a u → IsStep g x line b v ⊎ IsTextLine g x line b v → (a ≡ b) × AreOne u v
    lines_one (inl y) (inl z) = step_one g w x k.1 line a b u v k.2 k.3 k.4 y z
    lines_one (inl y) (inr z) = absurd (both (step_of_line line) y.step z.cause y.is z.no_step)
    lines_one (inr y) (inl z) = absurd (both (step_of_line line) z.step y.cause z.is y.no_step)
    lines_one (inr y) (inr z) = text_one g w x k.1 line a b u v k.2 k.3 k.4 y z

trace_apart : (s t u : TraceState) (n : ℕ) (line a : List ℕ) (c : BadCause) → AreOne s t → TakesTrace s n line a u → IsBadInTrace t line c → ⊥
trace_apart unopened unopened u n line a c k y z = both (header_line (codes "trace") line) y.header c y.is z
trace_apart unopened (opened g x) u n line a c k y z = k
trace_apart (opened h w) unopened u n line a c k y z = k
trace_apart (opened h w) (opened g x) u n line a c k (inl y) z = both (step_of_line line) y.step c y.is z.0
trace_apart (opened h w) (opened g x) u n line a c k (inr y) z = some_none (entry_asked line) y.entry y.asks z.1

trace_other : (s t v : TraceState) (n : ℕ) (line b : List ℕ) (c : BadCause) → AreOne s t → IsBadInTrace s line c → TakesTrace t n line b v → ⊥
trace_other unopened unopened v n line b c k y z = both (header_line (codes "trace") line) z.header c z.is y
trace_other unopened (opened g x) v n line b c k y z = k
trace_other (opened h w) unopened v n line b c k y z = k
trace_other (opened h w) (opened g x) v n line b c k y (inl z) = both (step_of_line line) z.step c z.is y.0
trace_other (opened h w) (opened g x) v n line b c k y (inr z) = some_none (entry_asked line) z.entry z.asks y.1

trace_bad : (s t : TraceState) (line : List ℕ) (c e : BadCause) → AreOne s t → IsBadInTrace s line c → IsBadInTrace t line e → c ≡ e
trace_bad unopened unopened line c e k y z = why_one (header_line (codes "trace") line) c e y z
trace_bad unopened (opened g x) line c e k y z = absurd k
trace_bad (opened h w) unopened line c e k y z = absurd k
trace_bad (opened h w) (opened g x) line c e k y z = why_one (step_of_line line) c e y.0 z.0

trace_ends : (s t : TraceState) (a b : List ℕ) → AreOne s t → trace.Finishes s a → trace.Finishes t b → a ≡ b
trace_ends unopened t a b k y z = absurd y
trace_ends (opened h w) unopened a b k y z = absurd z
trace_ends (opened h w) (opened g x) a b k y z = y ∙ sym z

trace_lacks : (s t : TraceState) (c e : BadCause) → AreOne s t → trace.Lacks s c → trace.Lacks t e → c ≡ e
trace_lacks (opened h w) t c e k y z = absurd y
trace_lacks unopened (opened h w) c e k y z = absurd z
trace_lacks unopened unopened c e k y z = y ∙ sym z

trace_ends_apart : (s t : TraceState) (a : List ℕ) (c : BadCause) → AreOne s t → trace.Finishes s a → trace.Lacks t c → ⊥
trace_ends_apart unopened t a c k y z = y
trace_ends_apart (opened h w) unopened a c k y z = k
trace_ends_apart (opened h w) (opened g x) a c k y z = z

trace_ends_other : (s t : TraceState) (b : List ℕ) (c : BadCause) → AreOne s t → trace.Lacks s c → trace.Finishes t b → ⊥
trace_ends_other (opened h w) t b c k y z = y
trace_ends_other unopened unopened b c k y z = z
trace_ends_other unopened (opened g x) b c k y z = k

trace_one : IsOne trace AreOne
trace_one = record { takes = trace_takes_one; apart = apart_alone trace AreOne never trace_apart; other = other_alone trace AreOne never trace_other; last = last_alone trace AreOne never trace_bad; ends = trace_ends; lacks = trace_lacks; ends_apart = trace_ends_apart; ends_other = trace_ends_other }
  where
    never : (s : TraceState) (line : List ℕ) (c : ReplayCause) → trace.IsRefused s line c → ⊥
    never s line c h = h

-- ## Two schemas

abbrev AreSame : CompatState → CompatState → Type 0
AreSame s t = s ≡ t

schema_both : (line : List ℕ) (s : SchemaView) (c : BadCause) → IsSchemaLine line (Ok s) → IsSchemaLine line (Err c) → ⊥
schema_both line s c y z = let q : Ok s ≡ Err c = line_one line (Ok s) (Err c) y z in cc

schema_bad : (line : List ℕ) (c e : BadCause) → IsSchemaLine line (Err c) → IsSchemaLine line (Err e) → c ≡ e
schema_bad line c e y z = let q : Err c ≡ Err e = line_one line (Err c) (Err e) y z in cc

schema_same : (line : List ℕ) (s v : SchemaView) → IsSchemaLine line (Ok s) → IsSchemaLine line (Ok v) → s ≡ v
schema_same line s v y z = let q : Ok s ≡ Ok v = line_one line (Ok s) (Ok v) y z in cc

compat_takes_here : (s u v : CompatState) (n : ℕ) (line a b : List ℕ) → TakesCompat s n line a u → TakesCompat s n line b v → (a ≡ b) × (u ≡ v)
compat_takes_here unread u v n line a b y z = (y.told ∙ sym z.told, y.state ∙ ap stored (schema_same line y.schema z.schema y.is z.is) ∙ sym z.state)
compat_takes_here (stored s) u v n line a b y z =
    let same : y.view ≡ z.view = schema_same line y.view z.view y.is z.is in
    let r : y.relation ≡ z.relation = relation_one s z.view y.relation z.relation (subst (λ (k : SchemaView). IsRelation s k y.relation) same y.relates) z.relates in
    (y.told ∙ ap relation_line r ∙ sym z.told, y.state ∙ sym z.state)
compat_takes_here related u v n line a b y z = absurd y

compat_apart_here : (s u : CompatState) (n : ℕ) (line a : List ℕ) (c : BadCause) → TakesCompat s n line a u → IsBadInCompat s line c → ⊥
compat_apart_here unread u n line a c y z = schema_both line y.schema c y.is z
compat_apart_here (stored s) u n line a c y z = schema_both line y.view c y.is z
compat_apart_here related u n line a c y z = y

compat_bad_here : (s : CompatState) (line : List ℕ) (c e : BadCause) → IsBadInCompat s line c → IsBadInCompat s line e → c ≡ e
compat_bad_here unread line c e y z = schema_bad line c e y z
compat_bad_here (stored s) line c e y z = schema_bad line c e y z
compat_bad_here related line c e y z = y ∙ sym z

compat_ends_here : (s : CompatState) (a b : List ℕ) → compat.Finishes s a → compat.Finishes s b → a ≡ b
compat_ends_here unread a b y z = absurd y
compat_ends_here (stored s) a b y z = absurd y
compat_ends_here related a b y z = y ∙ sym z

compat_lacks_here : (s : CompatState) (c e : BadCause) → compat.Lacks s c → compat.Lacks s e → c ≡ e
compat_lacks_here unread c e y z = y ∙ sym z
compat_lacks_here (stored s) c e y z = y ∙ sym z
compat_lacks_here related c e y z = absurd y

compat_ends_apart : (s : CompatState) (a : List ℕ) (c : BadCause) → compat.Finishes s a → compat.Lacks s c → ⊥
compat_ends_apart unread a c y z = y
compat_ends_apart (stored s) a c y z = y
compat_ends_apart related a c y z = z

compat_one : IsOne compat AreSame
compat_one = record {
  takes = λ s t u v n line a b e y z. compat_takes_here t u v n line a b (subst (λ (k : CompatState). TakesCompat k n line a u) e y) z;
  apart = apart_alone compat AreSame never (λ s t u n line a c e y z. compat_apart_here t u n line a c (subst (λ (k : CompatState). TakesCompat k n line a u) e y) z);
  other = other_alone compat AreSame never (λ s t v n line b c e y z. compat_apart_here t v n line b c z (subst (λ (k : CompatState). IsBadInCompat k line c) e y));
  last = last_alone compat AreSame never (λ s t line c d e y z. compat_bad_here t line c d (subst (λ (k : CompatState). IsBadInCompat k line c) e y) z);
  ends = λ s t a b e y z. compat_ends_here t a b (subst (λ (k : CompatState). compat.Finishes k a) e y) z;
  lacks = λ s t c d e y z. compat_lacks_here t c d (subst (λ (k : CompatState). compat.Lacks k c) e y) z;
  ends_apart = λ s t a c e y z. compat_ends_apart t a c (subst (λ (k : CompatState). compat.Finishes k a) e y) z;
  ends_other = λ s t b c e y z. compat_ends_apart t b c z (subst (λ (k : CompatState). compat.Lacks k c) e y);
}
  where
    never : (s : CompatState) (line : List ℕ) (c : ReplayCause) → compat.IsRefused s line c → ⊥
    never s line c h = h

-- ## Messages

replay_one : IsOne replay AreOneLog
replay_one = record {
  takes = replay_takes_one;
  apart = apart;
  other = other;
  last = last;
  ends = replay_ends_one;
  lacks = replay_lacks_one;
  ends_apart = replay_ends_apart;
  ends_other = replay_ends_other;
}
  where
    apart : (s t u : ReplayState) (n : ℕ) (line a : List ℕ) (c : EndCause) → AreOneLog s t → replay.Takes s n line a u → EndsBy replay t line c → ⊥
    apart s t u n line a (why.Bad c) k y z = replay_bad_apart s t u n line a c k y z
    apart s t u n line a (why.Refused c) k y z = replay_refused_apart s t u n line a c k y z

    other : (s t v : ReplayState) (n : ℕ) (line b : List ℕ) (c : EndCause) → AreOneLog s t → EndsBy replay s line c → replay.Takes t n line b v → ⊥
    other s t v n line b (why.Bad c) k y z = replay_bad_other s t v n line b c k y z
    other s t v n line b (why.Refused c) k y z = replay_refused_other s t v n line b c k y z

    last : (s t : ReplayState) (line : List ℕ) (c e : EndCause) → AreOneLog s t → EndsBy replay s line c → EndsBy replay t line e → c ≡ e
    last s t line (why.Bad c) (why.Bad e) k y z = ap why.Bad (replay_one_bad s t line c e k y z)
    last s t line (why.Bad c) (why.Refused e) k y z = absurd (replay_bad_or_refused s t line c e k y z)
    last s t line (why.Refused c) (why.Bad e) k y z = absurd (replay_refused_or_bad s t line c e k y z)
    last s t line (why.Refused c) (why.Refused e) k y z = ap why.Refused (replay_one_refusal s t line c e k y z)

-- ## The algebra

-- a request has one answer
abbrev pub OneAnswer : Type 0
OneAnswer = (line a b : List ℕ) → IsAsked line a → IsAsked line b → a ≡ b

module _ (asked : OneAnswer) where
  algebra_one : IsOne algebra (λ s t. Unit {0})
  algebra_one = record {
    takes = λ s t u v n line a b k y z. (asked line a b y z, tt);
    apart = apart_alone algebra (λ s t. Unit {0}) never (λ s t u n line a c k y z. both_bad line y.request c y.is z);
    other = other_alone algebra (λ s t. Unit {0}) never (λ s t v n line b c k y z. both_bad line z.request c z.is y);
    last = last_alone algebra (λ s t. Unit {0}) never bad_once;
    ends = λ s t a b k y z. y ∙ sym z;
    lacks = λ s t c e k y z. absurd y;
    ends_apart = λ s t a c k y z. z;
    ends_other = λ s t b c k y z. y;
  }
    where
      both_bad : (line : List ℕ) (r : Request) (c : BadCause) → IsRequest line (Ok r) → IsRequest line (Err c) → ⊥
      both_bad line r c y z = let q : Ok r ≡ Err c = request_line_one line (Ok r) (Err c) y z in cc

      never : (s : Unit {0}) (line : List ℕ) (c : ReplayCause) → algebra.IsRefused s line c → ⊥
      never s line c h = h

      bad_once : (s t : Unit {0}) (line : List ℕ) (c e : BadCause) → Unit {0} → IsRequest line (Err c) → IsRequest line (Err e) → c ≡ e
      bad_once s t line c e k y z = let q : Err c ≡ Err e = request_line_one line (Err c) (Err e) y z in cc

  -- ## Each input

  front_one : (c : Command) (bytes : List ℕ) (a b : Output) → Answers c bytes a → Answers c bytes b → NothingFailed b.outcome → IsFront a b
  front_one Trace bytes a b y z fine = from_one trace AreOne trace_one (cut bytes) unopened unopened 1 0 a b tt y z fine
  front_one Replay bytes a b y z fine = from_one replay AreOneLog replay_one (cut bytes) replayed.unopened replayed.unopened 1 0 a b tt y z fine
  front_one Compat bytes a b y z fine = from_one compat AreSame compat_one (cut bytes) unread unread 1 0 a b refl y z fine
  front_one Algebra bytes a b y z fine = from_one algebra (λ s t. Unit {0}) algebra_one (cut bytes) tt tt 1 0 a b tt y z fine

  pub front_of_answers : (c : Command) (bytes : List ℕ) (a b : Output) → Answers c bytes a → Answers c bytes b → NothingFailed b.outcome → (rest : List ℕ) × (b.bytes ≡ a.bytes ++ rest)
  front_of_answers c bytes a b y z fine = (front_one c bytes a b y z fine).1

  pub answers_one : (c : Command) (bytes : List ℕ) (a b : Output) → Answers c bytes a → Answers c bytes b → NothingFailed a.outcome → NothingFailed b.outcome → a ≡ b
  answers_one c bytes a b y z well fine = go (front_one c bytes a b y z fine).0
    where
      go : (a ≡ b) ⊎ (a.outcome ≡ NoMemory) → a ≡ b
      go (inl e) = e
      go (inr e) = absurd (subst NothingFailed e well)

pub sound_steps_one : (h : HeaderView) (w : WorldState) (steps : List StepView) (xs ys : List Answer) → IsWorld h w → AllByRecursion HasSoundSchema steps → AreAnswers h w steps xs → AreAnswers h w steps ys → xs ≡ ys
sound_steps_one h w steps xs ys s all a b = steps_one h w w w steps xs ys (steps_go_on h w steps s all) (worlds_itself w) (worlds_itself w) a b
