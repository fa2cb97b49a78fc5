-- Each input has its answers under `trace` and `compat`: some output is told of it in which nothing failed.
use Rattle.std.specs.List.{slice_get}
use Rattle.std.proofs.Common.{◌≡◌, ◌≢◌, ◌≤◌, ◌<◌, ap, subst, arith, zero, suc, ◌⊎◌, ℕ, ◌+◌, Bool, true, false, List, [], ◌∷◌, ◌++◌, length, Option, Some, None, option_and_then, Result, Ok, Err, codes, refl, inl, inr}
use Rattle.st_json.specs.declared.fault.BadCause.{BadCause}
use Rattle.st_json.specs.declared.fault.BadCause.TheVariants.{Header, Shape}
use Rattle.st_compat.specs.Compared.{IsCompared}
use Rattle.st_compat.specs.RelationText.{relation_line}
use Rattle.st_compat.specs.SchemaLine.{IsSchemaLine, further_cause}
use Rattle.st_compat.specs.declared.compare.BadSchema.{BadSchema}
use Rattle.st_compat.specs.declared.compare.BadSchema.TheVariants.{Stored, View}
use Rattle.st_compat.proofs.Deciding.{are_compared, has_relation}
use Rattle.st_schema.specs.Schema.{SchemaView, is_sound}
use Rattle.st_script.specs.AnswerText.{answer_line}
use Rattle.st_script.specs.Header.{HeaderView, header_line}
use Rattle.st_script.specs.Line.{step_of_line}
use Rattle.st_script.specs.Steps.{ActView, StepView}
use Rattle.st_script.specs.Steps as step
use Rattle.st_script.specs.StepText.{FitsAct}
use Rattle.st_script.specs.declared.answer.Answer.TheVariants as answer
use Rattle.st_script.proofs.Fits.{line_fits}
use Rattle.st_script.proofs.OfForm.{header_line_kept}
use Rattle.st_author_lists.specs.Authors.{FitAuthors}
use Rattle.st_author_lists.proofs.Going.{authors_next}
use Rattle.st_author_lists.proofs.Texted.{has_text}
use Rattle.st_author_lists.proofs.Written.{begun_authors}
use Rattle.st_lists.specs.Clients.{empty_state}
use Rattle.st_lists.specs.declared.lists.Entry.{Entry}
use Rattle.st_lists.specs.declared.lists.WorldState.{WorldState}
use Rattle.st_texts.specs.Texts.{IsMessageOf}
use Rattle.st_world.specs.World.{opening_document}
use Rattle.st_world_laws.specs.Worlds.{IsHeader, IsWorld, KeepsRules}
use Rattle.st_world_laws.proofs.Going.{begun_sound}
use Rattle.st_world_laws.proofs.Leading.{leads_on}
use Rattle.st_world_laws.proofs.LeadingBranches.{all_lead}
use Rattle.st_pieces.specs.Lines.{Line, cut, is_long}
use Rattle.st_answers.specs.Answers.{Answers, AnswersFrom, AnswersLine}
use Rattle.st_answers.specs.Compat.{CompatState, TakesCompat, compat, related, stored, unread}
use Rattle.st_answers.specs.Endings.{Output, bad_line, before, ended, long_output, usage_output}
use Rattle.st_answers.specs.Meaning.{Meaning}
use Rattle.st_answers.specs.Run.{IsAnswered, IsAnsweredAs, IsAnsweredTo, NothingFailed, command_asked, command_of}
use Rattle.st_words.specs.Table.{request_in}
use Rattle.st_words.specs.declared.request.Request.{Request}
use Rattle.st_words.specs.declared.request.Request.TheVariants as request
use Rattle.st_run.specs.inside.Working.{IsShortWork}
use Rattle.st_run.proofs.LoadsExist.{work_line_exists}
use Rattle.st_run.proofs.Requested.{short_request}
use Rattle.st_answers.specs.Trace.{IsEntryTold, TakesTrace, TraceState, entry_asked, message_line, no_entry_line, opened, trace, unopened}
use Rattle.st_answers.specs.declared.cause.EndCause.TheVariants as why
use Rattle.st_answers.specs.declared.command.Command.{Command}
use Rattle.st_answers.specs.declared.command.Command.TheVariants.{Trace, Replay, Compat, Algebra}
use Rattle.st_answers.specs.declared.outcome.Outcome.{Outcome}
use Rattle.st_answers.specs.declared.outcome.Outcome.TheVariants.{Done, Usage, BadLine, Refused, TooLong, ReadFault, WriteFault, NoMemory}

-- how the lines of an input end, where nothing fails
abbrev IsEnd : Outcome → Type 0
IsEnd Done = Unit {0}
IsEnd Usage = ⊥
IsEnd (BadLine n c) = Unit {0}
IsEnd (Refused n c) = Unit {0}
IsEnd (TooLong n) = Unit {0}
IsEnd ReadFault = ⊥
IsEnd WriteFault = ⊥
IsEnd NoMemory = ⊥

end_unfailed : (o : Outcome) → IsEnd o → NothingFailed o
end_unfailed Done h = tt
end_unfailed Usage h = tt
end_unfailed (BadLine n c) h = tt
end_unfailed (Refused n c) h = tt
end_unfailed (TooLong n) h = tt
end_unfailed ReadFault h = h
end_unfailed WriteFault h = h
end_unfailed NoMemory h = h

abbrev Whole : (Output → Type 0) → Type 0
Whole Wanted = (out : Output) × Wanted out × IsEnd out.outcome

-- ## Any command

-- from a state of which something holds each line is answered and leads to such a state, or is bad, and the input may end
-- or lacks a line
record GoesOn (m : Meaning) (Holds : m.State → Type 0) : Type 0 where
  takes : (s : m.State) (n : ℕ) (line : List ℕ) → Holds s → ((told : List ℕ) × (v : m.State) × m.Takes s n line told v × Holds v) ⊎ ((c : BadCause) × m.IsBad s line c)
  ends : (s : m.State) → Holds s → ((last : List ℕ) × m.Finishes s last) ⊎ ((c : BadCause) × m.Lacks s c)

module _ (m : Meaning) (Holds : m.State → Type 0) (on : GoesOn m Holds) where
  end_has : (s : m.State) (n : ℕ) → Holds s → Whole (AnswersFrom m s n 0 [])
  end_has s n h = by (on.ends s h)
    where
      by : ((last : List ℕ) × m.Finishes s last) ⊎ ((c : BadCause) × m.Lacks s c) → Whole (AnswersFrom m s n 0 [])
      by (inl (last, f)) = (ended last, inr (inl (last, f, refl)), tt)
      by (inr (c, lacks)) = (bad_line n c, inr (inr (c, lacks, refl)), tt)

  line_has : (s : m.State) (n : ℕ) (line : List ℕ) (long : Bool) (Rest : m.State → Output → Type 0) → Holds s → ((v : m.State) → Holds v → Whole (Rest v)) → Whole (AnswersLine m long s n line Rest)
  line_has s n line true Rest h rest = (long_output n, refl, tt)
  line_has s n line false Rest h rest = by (on.takes s n line h)
    where
      by : ((told : List ℕ) × (v : m.State) × m.Takes s n line told v × Holds v) ⊎ ((c : BadCause) × m.IsBad s line c) → Whole (AnswersLine m false s n line Rest)
      by (inl (told, v, takes, holds)) = let t = rest v holds in (before told t.0, inl (record { told = told; state = v; rest = t.0; takes = takes; follows = t.1; whole = refl }), t.2)
      by (inr (c, is)) = (bad_line n c, inr (record { cause = why.Bad c; is = is; whole = refl }), tt)

  lines_have : (ls : List Line) (s : m.State) (n start : ℕ) → Holds s → Whole (AnswersFrom m s n start ls)
  lines_have [] s n start h = end_has s n h
  lines_have (l ∷ ls) s n start h =
      let t = line_has s n l.bytes (is_long n start l) (λ v. AnswersFrom m v (n + 1) (start + length l.bytes + l.feed) ls) h (λ v holds. lines_have ls v (n + 1) (start + length l.bytes + l.feed) holds) in
      (t.0, inr t.1, t.2)

-- ## A trace

abbrev IsWorldIn : TraceState → Type 0
IsWorldIn unopened = Unit {0}
IsWorldIn (opened h w) = IsWorld h w × FitAuthors h w

-- the schema of a step that a line holds keeps the rules
pub fits_rules : (branch : ℕ) (x : ActView) → FitsAct branch x → KeepsRules x
fits_rules branch (step.join uuid) h = tt
fits_rules branch (step.edit e) h = tt
fits_rules branch (step.need at) h = tt
fits_rules branch step.begin h = tt
fits_rules branch step.commit h = tt
fits_rules branch step.abort h = tt
fits_rules branch step.fork h = tt
fits_rules branch step.rebase h = tt
fits_rules branch step.merge h = tt
fits_rules branch step.drop_branch h = tt
fits_rules branch (step.undo rev) h = tt
fits_rules branch (step.upgrade new) h = h.1
fits_rules branch step.sequence h = tt
fits_rules branch step.ack h = tt
fits_rules branch step.deliver h = tt
fits_rules branch step.leave h = tt
fits_rules branch step.drop_client h = tt
fits_rules branch step.reconnect h = tt
fits_rules branch step.show h = tt
fits_rules branch step.pending h = tt

past : {A : Type 0} (xs : List A) (i : ℕ) → slice_get xs i ≡ None → length xs ≤ i
past [] i e = omega arith
past (x ∷ xs) zero e = cc
past (x ∷ xs) (suc i) e = omega (arith, past xs i e)

-- who asks for the text of an entry is told it
entry_told : (h : HeaderView) (w : WorldState) → IsHeader h → FitAuthors h w → (n : ℕ) → (told : List ℕ) × IsEntryTold (opening_document h) w.log n told
entry_told h w header fit zero = (no_entry_line, inl (inl refl, refl))
entry_told h w header fit (suc i) = go (slice_get w.log i) refl
  where
    go : (o : Option Entry) → slice_get w.log i ≡ o → (told : List ℕ) × IsEntryTold (opening_document h) w.log (suc i) told
    go None at = (no_entry_line, inl (inr (omega (arith, past w.log i at)), refl))
    go (Some e) at =
        let t = has_text h w i e header fit at in
        let n : i + 1 ≡ suc i = omega arith in
        (message_line t.1.0, inr (t.1.0, subst (λ k. IsMessageOf (opening_document h) w.log k t.1.0) n t.1.1, refl))

-- a line is answered and leads to such a state, or is bad
abbrev IsLineTaken : TraceState → ℕ → List ℕ → Type 0
IsLineTaken s n line = ((told : List ℕ) × (v : TraceState) × TakesTrace s n line told v × IsWorldIn v) ⊎ ((c : BadCause) × trace.IsBad s line c)

trace_takes : (s : TraceState) (n : ℕ) (line : List ℕ) → IsWorldIn s → IsLineTaken s n line
trace_takes unopened n line holds = by (header_line (codes "trace") line) refl
  where
    by : (r : Result HeaderView BadCause) → header_line (codes "trace") line ≡ r → ((told : List ℕ) × (v : TraceState) × TakesTrace unopened n line told v × IsWorldIn v) ⊎ ((c : BadCause) × trace.IsBad unopened line c)
    by (Err c) e = inr (c, e)
    by (Ok h) e =
        let kept = header_line_kept (codes "trace") line h e in
        inl (answer_line answer.Header, opened h empty_state, record { header = h; is = e; told = refl; state = refl }, (begun_sound h (record { schema = kept.0; tree = kept.1 }), begun_authors h))
trace_takes (opened h w) n line holds = by (step_of_line line) refl
  where
    asked : (c : BadCause) → step_of_line line ≡ Err c → (o : Option ℕ) → entry_asked line ≡ o → IsLineTaken (opened h w) n line
    asked c e None none = inr (c, (e, none))
    asked c e (Some entry) asks =
        let t = entry_told h w holds.0.header holds.1 entry in
        inl (t.0, opened h w, inr (record { entry = entry; cause = c; no_step = e; asks = asks; told = t.1; state = refl }), holds)

    by : (r : Result StepView BadCause) → step_of_line line ≡ r → IsLineTaken (opened h w) n line
    by (Err c) e = asked c e (entry_asked line) refl
    by (Ok x) e =
        let r = leads_on h w holds.0 (all_lead h w holds.0) x in
        let rules = fits_rules x.branch x.act (line_fits line x e).1 in
        inl (answer_line r.1, opened h r.0, inl (record { step = x; answer = r.1; world = r.0; is = e; next = r.2; told = refl; state = refl }), (r.3 rules, authors_next h w r.0 x r.1 holds.0 holds.1 rules r.2))

trace_ends : (s : TraceState) → IsWorldIn s → ((last : List ℕ) × trace.Finishes s last) ⊎ ((c : BadCause) × trace.Lacks s c)
trace_ends unopened holds = inr (Header, refl)
trace_ends (opened h w) holds = inl ([], refl)

-- ## Two schemas

abbrev IsSoundIn : CompatState → Type 0
IsSoundIn unread = Unit {0}
IsSoundIn (stored s) = is_sound s ≡ true
IsSoundIn related = Unit {0}

-- a line is a schema, or fails a test
line_decided : (line : List ℕ) → (r : Result SchemaView BadCause) × IsSchemaLine line r
line_decided line = by (are_compared (Some line) None)
  where
    by : ((r : Result (List ℕ) BadSchema) × IsCompared (Some line) None r) → (r : Result SchemaView BadCause) × IsSchemaLine line r
    by (Ok t, is) = (Ok is.s, is.of_stored)
    by (Err (Stored c), is) = (Err c, is)
    by (Err (View c), is) = (Ok is.0, is.1)

compat_takes : (s : CompatState) (n : ℕ) (line : List ℕ) → IsSoundIn s
    → ((told : List ℕ) × (v : CompatState) × TakesCompat s n line told v × IsSoundIn v) ⊎ ((c : BadCause) × compat.IsBad s line c)
compat_takes unread n line holds = by (line_decided line)
  where
    by : ((r : Result SchemaView BadCause) × IsSchemaLine line r) → ((told : List ℕ) × (v : CompatState) × TakesCompat unread n line told v × IsSoundIn v) ⊎ ((c : BadCause) × compat.IsBad unread line c)
    by (Err c, is) = inr (c, is)
    by (Ok s, is) = inl ([], stored s, record { schema = s; is = is; told = refl; state = refl }, is.0)
compat_takes (stored s) n line holds = by (line_decided line)
  where
    by : ((r : Result SchemaView BadCause) × IsSchemaLine line r) → ((told : List ℕ) × (v : CompatState) × TakesCompat (stored s) n line told v × IsSoundIn v) ⊎ ((c : BadCause) × compat.IsBad (stored s) line c)
    by (Err c, is) = inr (c, is)
    by (Ok v, is) = let r = has_relation s v holds is.0 in inl (relation_line r.0, related, record { view = v; relation = r.0; is = is; relates = r.1; told = refl; state = refl }, tt)
compat_takes related n line holds = inr (further_cause line, refl)

compat_ends : (s : CompatState) → IsSoundIn s → ((last : List ℕ) × compat.Finishes s last) ⊎ ((c : BadCause) × compat.Lacks s c)
compat_ends unread holds = inr (Shape, refl)
compat_ends (stored s) holds = inr (Shape, refl)
compat_ends related holds = inl ([], refl)

-- ## Each input

bytes_have : (c : Command) (bytes : List ℕ) → c ≢ Algebra → c ≢ Replay → Whole (Answers c bytes)
bytes_have Trace bytes other another = lines_have trace IsWorldIn (record { takes = trace_takes; ends = trace_ends }) (cut bytes) unopened 1 0 tt
bytes_have Compat bytes other another = lines_have compat IsSoundIn (record { takes = compat_takes; ends = compat_ends }) (cut bytes) unread 1 0 tt
bytes_have Algebra bytes other another = absurd (other refl)
bytes_have Replay bytes other another = absurd (another refl)

pub has_answers : (c : Command) (bytes : List ℕ) → c ≢ Algebra → c ≢ Replay → (out : Output) × Answers c bytes out × NothingFailed out.outcome
has_answers c bytes other another = let t = bytes_have c bytes other another in (t.0, t.1, end_unfailed t.0.outcome t.2)

-- ## Any words

abbrev IsDecided : Option Command → List ℕ → List ℕ → Type 0
IsDecided command left written =
    (outcome : Outcome) × (rest : Option (List ℕ)) × (after : Option (List ℕ)) × NothingFailed outcome × IsAnsweredAs command (Some left) rest (Some written) after outcome

command_decided : (c : Command) (left written : List ℕ) (out : Output) → Answers c left out → (o : Outcome) → out.outcome ≡ o → IsEnd o → IsDecided (Some c) left written
command_decided c left written out wanted Done is h = (Done, Some [], Some (written ++ out.bytes), tt, (refl, (out, wanted, is, refl)))
command_decided c left written out wanted Usage is h = absurd h
command_decided c left written out wanted (BadLine n cause) is h = (BadLine n cause, Some [], Some (written ++ out.bytes), tt, (out, wanted, is, refl))
command_decided c left written out wanted (Refused n cause) is h = (Refused n cause, Some [], Some (written ++ out.bytes), tt, (out, wanted, is, refl))
command_decided c left written out wanted (TooLong n) is h = (TooLong n, Some [], Some (written ++ out.bytes), tt, (out, wanted, is, refl))
command_decided c left written out wanted ReadFault is h = absurd h
command_decided c left written out wanted WriteFault is h = absurd h
command_decided c left written out wanted NoMemory is h = absurd h

command_answered : (c : Command) (left written : List ℕ) → c ≢ Algebra → c ≢ Replay → IsDecided (Some c) left written
command_answered c left written other another = let t = bytes_have c left other another in command_decided c left written t.0 t.1 t.0.outcome refl t.2

usage_told : (left written : List ℕ) → IsDecided None left written
usage_told left written = (Usage, Some left, Some (written ++ usage_output.bytes), tt, (refl, (usage_output, refl, refl, refl)))

abbrev IsDecidedTo : Option Request → List ℕ → List ℕ → Type 0
IsDecidedTo request left written =
    (outcome : Outcome) × (rest : Option (List ℕ)) × (after : Option (List ℕ)) × NothingFailed outcome × IsAnsweredTo request (Some left) rest (Some written) after outcome

request_decided : (request : Option Request) (left written : List ℕ) → IsShortWork request → option_and_then command_asked request ≢ Some Algebra → option_and_then command_asked request ≢ Some Replay → IsDecidedTo request left written
request_decided None left written few other another = usage_told left written
request_decided (Some request.Trace) left written few other another = command_answered Trace left written (λ e. other (ap Some e)) (λ e. another (ap Some e))
request_decided (Some request.Replay) left written few other another = absurd (another refl)
request_decided (Some request.Algebra) left written few other another = absurd (other refl)
request_decided (Some request.Compat) left written few other another = command_answered Compat left written (λ e. other (ap Some e)) (λ e. another (ap Some e))
request_decided (Some (request.Work seed steps)) left written few other another =
    let line = work_line_exists seed steps few in
    (Done, Some left, Some (written ++ line.0), tt, (refl, (ended line.0, inr (line.0, line.1, refl), refl, refl)))

pub has_answer : (words : List (List ℕ)) (left written : List ℕ) → command_of words ≢ Some Algebra → command_of words ≢ Some Replay
    → (outcome : Outcome) × (rest : Option (List ℕ)) × (after : Option (List ℕ)) × NothingFailed outcome × IsAnswered words (Some left) rest (Some written) after outcome
has_answer words left written other another = request_decided (request_in words) left written (short_request words) other another
