-- Each request to the algebra has one answer: its arguments stand over documents, as the answer says, and there the value that is
-- asked for is one.
use Rattle.std.proofs.Common.{◌≡◌, inl, inr, ℕ, List, Option, Some, None, Result, Ok, Err, sym, ap, ◌∙◌, subst}
use Rattle.serde_json.specs.Data.{Data}
use Rattle.std.specs.Prelude.{codes}
use Rattle.st_ids.proofs.Orders.{field_cmp_exact, field_cmp_total}
use Rattle.st_ids.specs.declared.names.FieldId.{FieldId}
use Rattle.st_ids.specs.declared.names.Rev.{Rev}
use Rattle.st_json.specs.Line.{line_value}
use Rattle.st_json.specs.declared.fault.BadCause.{BadCause}
use Rattle.st_lemmas.proofs.Bools.{both-ways-same}
use Rattle.st_marks.specs.Agree.{Agrees, ComposeClash, JoinClash, RebaseClash}
use Rattle.st_marks.specs.Back.{retreat}
use Rattle.st_marks.specs.Document.{Document}
use Rattle.st_marks.specs.Step.{IsStep}
use Rattle.st_marks.specs.Verdict.{carried_document}
use Rattle.st_marks.specs.declared.changes.Change.{Change}
use Rattle.st_marks.specs.declared.steps.Step.{Step}
use Rattle.st_marks.specs.declared.verdicts.Verdict.{Verdict}
use Rattle.st_marks.proofs.OneVerdict.{carried_extends, one_least, one_verdict}
use Rattle.st_marks.proofs.Retreat.{retreat_sound}
use Rattle.st_marks.proofs.Unique.{one_embedding, one_step}
use Rattle.st_requests.specs.Answers.{apart_answer, change_answer, line_of, step_answer, verdict_answer}
use Rattle.st_requests.specs.Form.{form_of}
use Rattle.st_requests.specs.Requests.{IsJudged, IsOfForm, IsOfValue, IsRequest}
use Rattle.st_requests.specs.declared.request.Request.{Request}
use Rattle.st_requests.specs.declared.request.Request.TheVariants.{Compose, Join, Invert, Rebase, Bridge, Effect, Revert}
use Rattle.st_one_answers.proofs.BasesTold.{base_told}
use Rattle.st_answers.specs.Algebra.{AnswersRequest, IsAsked, IsBridged, IsComposed, IsEffect, IsInverted, IsJoined, IsRebased, IsReverted, Told, ToldOrApart}

-- ## Answers

-- one value is told in one way
told_one : {V : Type 0} (Is : V → Type 0) (answer : V → Data) (a b : List ℕ) → ((v w : V) → Is v → Is w → v ≡ w) → Told Is answer a → Told Is answer b → a ≡ b
told_one Is answer a b one (v, is, e) (w, was, f) = e ∙ ap (λ x. line_of (answer x)) (one v w is was) ∙ sym f

-- arguments agree, or there is one least field at which they don't
told_or_apart_one : {V : Type 0} (Clash : FieldId → Type 0) (Is : V → Type 0) (answer : V → Data) (a b : List ℕ) → ((v w : V) → Is v → Is w → v ≡ w)
    → ToldOrApart Clash Is answer a → ToldOrApart Clash Is answer b → a ≡ b
told_or_apart_one Clash Is answer a b one (inl (agree, t)) (inl (also, u)) = told_one Is answer a b one t u
told_or_apart_one Clash Is answer a b one (inl (agree, t)) (inr (f, apart, e)) = absurd (agree f apart.0)
told_or_apart_one Clash Is answer a b one (inr (f, apart, e)) (inl (agree, u)) = absurd (agree f apart.0)
told_or_apart_one Clash Is answer a b one (inr (f, apart, e)) (inr (g, other, d)) =
    e ∙ ap (λ x. line_of (apart_answer x)) (one_least field_cmp_total field_cmp_exact Clash f g apart other) ∙ sym d

-- ## Each value that is asked for

compose_one : (S T U V : Step) → IsComposed S T U → IsComposed S T V → U ≡ V
compose_one S T U V u v = let d = u.there in one_step d.0 d.2 U V d.3.second.after (u.each d.0 d.1 d.2 d.3) (v.each d.0 d.1 d.2 d.3)

join_one : (C K X Y : Change) → IsJoined C K X → IsJoined C K Y → X ≡ Y
join_one C K X Y x y = let d = x.there in one_embedding d.0 d.3 X Y (x.each d.0 d.1 d.2 d.3 d.4) (y.each d.0 d.1 d.2 d.3 d.4)

invert_one : (S U V : Step) → IsInverted S U → IsInverted S V → U ≡ V
invert_one S U V u v = let d = u.there in one_step d.1 (retreat d.0 d.1) U V (retreat_sound d.0 d.1 d.2) (u.each d.0 d.1 d.2 d.3) (v.each d.0 d.1 d.2 d.3)

rebase_one : (C : Change) (S : Step) (X Y : Change) → IsRebased C S X → IsRebased C S Y → X ≡ Y
rebase_one C S X Y x y = let d = x.there in one_embedding d.1 d.2 X Y (x.each d.0 d.1 d.2 d.3) (y.each d.0 d.1 d.2 d.3)

bridge_one : (C : Change) (S U V : Step) → IsBridged C S U → IsBridged C S V → U ≡ V
bridge_one C S U V u v =
    let d = u.there in
    one_step (carried_document d.3 d.0 d.2) (carried_document d.4 d.1 d.2) U V
    (carried_extends d.1 d.2 d.4 d.5.extended.after d.5.fits_later d.6.short_later d.6.verdict_later).after
    (u.each d.0 d.1 d.2 d.3 d.4 d.5 d.6) (v.each d.0 d.1 d.2 d.3 d.4 d.5 d.6)

effect_one : (C : Change) (U W : Step) (v w : Verdict) → IsEffect C U v → IsEffect C W w → (U ≡ W) × (v ≡ w)
effect_one C U W v w is was =
    let d = is.there in
    let a = is.each d.0 d.1 d.2 in
    let b = was.each d.0 d.1 d.2 in
    let same : v ≡ w = one_verdict d.0 d.1 v w a.0 b.0 in (
      one_step d.0 (carried_document w d.0 d.1) U W (carried_extends d.0 d.1 w d.2.sound d.2.fits d.2.short b.0).after (subst (λ k. IsStep d.0 (carried_document k d.0 d.1) U) same a.1) b.1,
      same,
    )

revert_one : (S : Step) (rev under : Rev) (X Y : Change) → IsReverted S rev under X → IsReverted S rev under Y → X ≡ Y
revert_one S rev under X Y x y =
    let d = x.there in
    let b = base_told d.1 d.2 d.5.nothing_new.3 in
    let but_base : record X { base = b.0 } ≡ record Y { base = b.0 } =
    one_embedding d.1 d.2 (record X { base = b.0 }) (record Y { base = b.0 }) (x.each_under d.0 d.1 d.2 d.3 d.4 d.5 b.0 b.1) (y.each_under d.0 d.1 d.2 d.3 d.4 d.5 b.0 b.1) in
    let base : X.base ≡ Y.base = both-ways-same X.base Y.base (λ e. y.base.1 (x.base.0 e)) (λ e. x.base.1 (y.base.0 e)) in
    λ i. record (but_base i) { base = base i }

-- ## Each request

pub request_one : (r : Request) (a b : List ℕ) → AnswersRequest r a → AnswersRequest r b → a ≡ b
request_one (Compose first last) a b y z = told_or_apart_one (ComposeClash first last) (IsComposed first last) (step_answer (codes "compose")) a b (compose_one first last) y z
request_one (Join first last) a b y z = told_or_apart_one (JoinClash first last) (IsJoined first last) (change_answer (codes "join")) a b (join_one first last) y z
request_one (Invert step) a b y z = told_one (IsInverted step) (step_answer (codes "invert")) a b (invert_one step) y z
request_one (Rebase change over) a b y z = told_or_apart_one (RebaseClash change over) (IsRebased change over) (change_answer (codes "rebase")) a b (rebase_one change over) y z
request_one (Bridge change step) a b y z = told_or_apart_one (RebaseClash change step) (IsBridged change step) (step_answer (codes "bridge")) a b (bridge_one change step) y z
request_one (Effect change) a b (v, (U, is, e)) (w, (W, was, f)) =
    let same = effect_one change U W v w is was in
    e ∙ (λ i. line_of (verdict_answer (codes "effect") (same.0 i) (same.1 i))) ∙ sym f
request_one (Revert step rev under) a b y z = told_one (IsReverted step rev under) (change_answer (codes "revert")) a b (revert_one step rev under) y z

-- ## Lines

judged_one : (q : Request) (r s : Result Request BadCause) → IsJudged q r → IsJudged q s → r ≡ s
judged_one q (Ok r) (Ok s) y z = ap (λ r. Ok r) (y.0 ∙ sym z.0)
judged_one q (Ok r) (Err c) y z = absurd (z.1 y.1)
judged_one q (Err c) (Ok s) y z = absurd (y.1 z.1)
judged_one q (Err c) (Err e) y z = ap (λ c. Err c) (y.0 ∙ sym z.0)

of_form_one : (o : Option Request) (r s : Result Request BadCause) → IsOfForm o r → IsOfForm o s → r ≡ s
of_form_one None r s y z = y ∙ sym z
of_form_one (Some q) r s y z = judged_one q r s y z

of_value_one : (o : Option Data) (r s : Result Request BadCause) → IsOfValue o r → IsOfValue o s → r ≡ s
of_value_one None r s y z = y ∙ sym z
of_value_one (Some d) r s y z = of_form_one (form_of d) r s y z

-- a line is one request, or is bad in one way
pub line_one : (line : List ℕ) (r s : Result Request BadCause) → IsRequest line r → IsRequest line s → r ≡ s
line_one line r s y z = of_value_one (line_value line) r s y z

there : {A E : Type 0} (x y : A) → ◌≡◌ {A = Result A E} (Ok x) (Ok y) → x ≡ y
there x y e = cc

-- a line has one answer
pub asked_one : (line a b : List ℕ) → IsAsked line a → IsAsked line b → a ≡ b
asked_one line a b y z =
    let same : y.request ≡ z.request = there y.request z.request (line_one line (Ok y.request) (Ok z.request) y.is z.is) in
    request_one z.request a b (subst (λ r. AnswersRequest r a) same y.answered) z.answered
