-- Replies to the lines of a trace.
use Rattle.std.proofs.Common.{◌≡◌, false, true, inl, inr, ℕ, ◌+◌, ◌≤◌, List, [], ◌++◌, Option, Some, None, Result, Ok, Err, refl, sym, ◌∙◌, ap, subst, arith}
use Rattle.std.specs.Option.{IfSome}
use Rattle.st_json.specs.declared.fault.BadCause.{BadCause}
use Rattle.st_author_lists.specs.KnownChanges.{IsKnownChange}
use Rattle.st_author_lists.proofs.Going.{authors_next}
use Rattle.st_author_lists.proofs.KnownGoing.{known_next}
use Rattle.st_author_lists.proofs.KnownWriting.{known_written}
use Rattle.st_author_lists.proofs.Written.{begun_authors}
use Rattle.st_carried_ids.specs.CarriedIds.{CarryFew}
use Rattle.st_carried_ids.proofs.Few.{few_next}
use Rattle.st_carried_ids.proofs.LogSteps.{log_grown}
use Rattle.st_entry_texts.specs.Authors.{AreAuthorsOf}
use Rattle.st_doc.specs.Doc.{document_of}
use Rattle.st_edits.specs.declared.names.NameCounters.{NameCounters}
use Rattle.st_entry_texts.specs.declared.entry.Authors.{Authors}
use Rattle.st_entry_texts.specs.declared.known.Known.{Known}
use Rattle.st_entry_texts.specs.declared.known.KnownChanges.{KnownChanges}
use Rattle.st_ids.specs.declared.names.Rev.{Rev}
use Rattle.st_known_changes.specs.Writing.{IsWriting}
use Rattle.st_marks.specs.Document.{Document}
use Rattle.st_marks.specs.Embedding.{IsEmbedding}
use Rattle.st_marks.specs.declared.changes.Change.{Change}
use Rattle.st_marks.specs.declared.intents.Intent.{Intent}
use Rattle.st_schema.specs.Schema.{SchemaView}
use Rattle.st_told_edits.specs.Told.{IsToldOf}
use Rattle.st_tree.specs.declared.edit.EditFault.{EditFault}
use Rattle.st_entry_texts.proofs.Telling.{authors_stay}
use Rattle.st_lists.specs.Clients.{empty_state}
use Rattle.st_lists.specs.declared.lists.Entry.{Entry}
use Rattle.st_lists.specs.declared.lists.WorldState.{WorldState}
use Rattle.st_pieces.specs.Told.{IsEnd, IsReply}
use Rattle.st_pieces.specs.declared.responder.Reply.{Reply}
use Rattle.st_pieces.specs.declared.responder.Reply.TheVariants.{Goes, Ends}
use Rattle.st_plain.specs.Stands.{IsSpent, MayStep, Stands}
use Rattle.st_plain.specs.declared.world.World.{World}
use Rattle.st_plain.proofs.Standing.{stands_for_world, stands_small}
use Rattle.st_script.specs.AnswerText.{answer_line}
use Rattle.st_script.specs.Header.{HeaderView}
use Rattle.st_script.specs.Line.{step_of_line}
use Rattle.st_script.specs.Steps.{EditView, IsActWithin, IsEditWithin, IsWithinLimits, StepView}
use Rattle.st_script.specs.declared.answer.Answer.{Answer}
use Rattle.st_world.specs.World.{IsNext, intent_of, opening_document}
use Rattle.st_world_laws.specs.Worlds.{IsWorld, KeepsRules}
use Rattle.st_answers.specs.Meaning.{EndsAt, FailsAt, FinishesAt}
use Rattle.st_answers.specs.declared.cause.EndCause.{EndCause}
use Rattle.st_answers.specs.declared.cause.EndCause.TheVariants as why
use Rattle.st_answers.specs.Trace.{IsEntryTold, TakesTrace, TraceState, entry_asked, opened, trace, unopened}
use Rattle.st_run.specs.declared.trace.NewChange.{NewChange}
use Rattle.st_run.specs.declared.trace.Tracing.{Tracing}
use Rattle.st_run.specs.inside.Replies.{IsRefusal, IsTelling}
use Rattle.st_run.specs.inside.Standing.{AreKnown, GoesOn, HasNoted, IsKeptFor, IsNewChange, IsNewFor, IsToldBefore, IsOpened, IsOpenedBy, IsOpenedIn, IsStepReply, IsUnderWay, StandsForTrace, TellsTexts}
use Rattle.st_run.proofs.Replying.{ends_badly, ends_well, refused, reply_as, told_so}

-- ## Steps

-- a step is answered
pub step_told : (h : HeaderView) (w : WorldState) (s : StepView) (After : WorldState → Type 0) (a : Answer) (r : Reply EndCause) → (v : WorldState) × IsNext h w s v a × After v → IsTelling (answer_line a) r → IsStepReply h w s After r
step_told h w s After a (Goes text) next is = (a, next.0, next.1, is, next.2)
step_told h w s After a (Ends text e) next is = absurd is

-- ## Changes that steps write

-- a list of authors is of the same log with other changes known
other_changes : (log : List Entry) (x : Authors) (known : KnownChanges) → AreAuthorsOf log x → AreAuthorsOf log (record x { known = known })
other_changes log x known is = record { sound = is.sound; each = is.each }

-- what is kept of authors is kept as the log grows, and so are the changes that are known, with the one that is written
kept_next : (h : HeaderView) (w v : WorldState) (x : StepView) (a : Answer) (told : Option NewChange) (o p : Option Authors) → IsWorld h w → KeepsRules x.act → IsNext h w x v a → ((new : NewChange) → told ≡ Some new → IsToldBefore h w x new.received new.change)
    → HasNoted told a o p → IfSome o (IsKeptFor h w) → IfSome p (IsKeptFor h v)
kept_next h w v x a told None p world rules next is noted kept = subst (λ (q : Option Authors). IfSome q (IsKeptFor h v)) (sym noted) tt
kept_next h w v x a told (Some y) None world rules next is noted kept = absurd noted
kept_next h w v x a told (Some y) (Some z) world rules next is noted kept = (ap (λ (q : Authors). document_of q.opening) noted.0 ∙ kept.0, subst (AreAuthorsOf v.log) (sym noted.0) (other_changes v.log y z.known more), known)
  where
    grown : (es : List Entry) × (v.log ≡ w.log ++ es)
    grown = log_grown h w v x a next

    more : AreAuthorsOf v.log y
    more = subst (λ (l : List Entry). AreAuthorsOf l y) (sym grown.1) (authors_stay w.log grown.0 y kept.1)

    fresh : (r : Rev) (k : Known) → IsNewChange told a r k → IsKnownChange h v r k.reference k.change
    fresh r k (new, some, accepted, rev, change) =
        let t = is new some in
        let written = known_written h w v x a new.received t.document t.schema t.given t.edit t.writes t.intent t.means next accepted new.change world t.embeds in
        subst (λ (q : Known). IsKnownChange h v r q.reference q.change) (sym change) (subst (λ (q : Rev). IsKnownChange h v q new.received new.change) (sym rev) written)

    known : AreKnown h v z.known
    known r k there = elim (noted.1 r k there) [ inl was ↦ known_next h w v x a r k.reference k.change world rules (kept.2 r k was) next | inr new ↦ fresh r k new ]

-- nothing is noted
pub same_noted : (told : Option NewChange) (a : Answer) (o : Option Authors) → HasNoted told a o o
same_noted told a None = refl
same_noted told a (Some x) = (refl, λ r k there. inl there)

-- of a change that is told of an edit there is the intent
told_intent : (D : Document) (r : Result Intent EditFault) (C : Change) → IsToldOf D r (Some C) → (N : Intent) × (r ≡ Ok N) × IsEmbedding D N C
told_intent D (Ok N) C x = (N, refl, x)
told_intent D (Err f) C x = absurd x

some_as : {X : Type 0} (o : Option X) (P Q : X → Type 0) → ((x : X) → P x → Q x) → IfSome o P → IfSome o Q
some_as None P Q f h = tt
some_as (Some x) P Q f h = f x h

pub if_some : {X : Type 0} (o : Option X) (P : X → Type 0) → IfSome o P → (x : X) → o ≡ Some x → P x
if_some o P h x e = subst (λ q. IfSome q P) e h

module _ (world : World) (s : StepView) (n : ℕ) (D : Document) (schema : SchemaView) (given : NameCounters) (e : EditView) (is : (k : ℕ) (h : HeaderView) (w : WorldState) → Stands k world h w → IsWriting h w s n D schema given e) where
  module _ (goes : GoesOn world) where
    here : IsWriting goes.1 goes.2 s n D schema given e
    here = is goes.0 goes.1 goes.2 goes.3

    pub writes_within : IsWithinLimits s → IsEditWithin e
    writes_within form = subst IsActWithin here.act form

    pub no_nodes : given.nodes ≡ 0
    no_nodes = ap (λ (g : NameCounters). g.nodes) here.names

    pub no_cells : given.cells ≡ 0
    no_cells = ap (λ (g : NameCounters). g.cells) here.names

  pub new_told : (o : Option NewChange) → IfSome o (λ (new : NewChange). (new.received ≡ n) × IsToldOf D (intent_of D schema given e) (Some new.change)) → IfSome o (IsNewFor world s)
  new_told o = some_as o (λ (new : NewChange). (new.received ≡ n) × IsToldOf D (intent_of D schema given e) (Some new.change)) (IsNewFor world s) (λ new told k h w st.
      let t = told_intent D (intent_of D schema given e) new.change told.1 in
      record { document = D; schema = schema; given = given; edit = e; writes = subst (λ m. IsWriting h w s m D schema given e) (sym told.0) (is k h w st); intent = t.0; means = t.1; embeds = t.2 })

-- a step leads on
pub under_way_next : (h : HeaderView) (w v : WorldState) (x : StepView) (a : Answer) (k : ℕ) (old new : World) (told : Option NewChange) (o p : Option Authors) → IsUnderWay k old o h w → KeepsRules x.act → IsNext h w x v a → Stands (k + 1) new h v
    → IfSome told (IsNewFor old x) → HasNoted told a o p → IsUnderWay (k + 1) new p h v
under_way_next h w v x a k old new told o p u rules next stands is noted =
    let world : IsWorld h w = stands_for_world k old h w u.stands in
    let few : CarryFew k v.log = few_next h w v x a k world (stands_small k old h w u.stands).ids u.few next in
    record {
      stands = stands;
      fit = authors_next h w v x a world u.fit rules next;
      few = λ s. omega (arith, few s);
      kept = kept_next h w v x a told o p world rules next (λ n some. if_some told (IsNewFor old x) is n some k h w u.stands) noted u.kept;
    }

-- a line that is a step
pub step_replied : (h : HeaderView) (w : WorldState) (s : StepView) (k n : ℕ) (world : World) (o : Option Authors) (line : List ℕ) (r : Reply EndCause) → step_of_line line ≡ Ok s → IsStepReply h w s (λ v. IsUnderWay (k + 1) world o h v) r
    → IsReply (TakesTrace (opened h w) n line) (EndsAt trace (opened h w) n line) (IsOpenedBy (k + 1) world o) r
step_replied h w s k n world o line (Goes text) is (a, v, next, told, after) = (
  opened h v,
  inl (record { step = s; answer = a; world = v; is = is; next = next; told = told; state = refl }),
  (k + 1, omega arith, after),
)
step_replied h w s k n world o line (Ends text e) is x = absurd x

-- a line that asks for the text of an entry
pub text_replied : (h : HeaderView) (w : WorldState) (k n entry : ℕ) (cause : BadCause) (world : World) (o : Option Authors) (line told : List ℕ) (r : Reply EndCause) → step_of_line line ≡ Err cause → entry_asked line ≡ Some entry
    → IsEntryTold (opening_document h) w.log entry told → IsUnderWay k world o h w → IsTelling told r → IsReply (TakesTrace (opened h w) n line) (EndsAt trace (opened h w) n line) (IsOpened k world o) r
text_replied h w k n entry cause world o line told r no_step asks is u telling =
    told_so trace (opened h w) n line (IsOpened k world o) told (opened h w) r (inr (record { entry = entry; cause = cause; no_step = no_step; asks = asks; told = is; state = refl })) u telling

-- a line that is neither
pub other_refused : (h : HeaderView) (w : WorldState) (k n : ℕ) (cause : BadCause) (world : World) (o : Option Authors) (line : List ℕ) (r : Reply EndCause) → step_of_line line ≡ Err cause → entry_asked line ≡ None
    → IsRefusal n (why.Bad cause) r → IsReply (TakesTrace (opened h w) n line) (EndsAt trace (opened h w) n line) (IsOpened k world o) r
other_refused h w k n cause world o line r no_step none told = refused trace (opened h w) n line (IsOpened k world o) (why.Bad cause) r (no_step, none) told

pub opened_by : (h : HeaderView) (w : WorldState) (k n : ℕ) (world : World) (o : Option Authors) (line : List ℕ) (r : Reply EndCause) → IsReply (TakesTrace (opened h w) n line) (EndsAt trace (opened h w) n line) (IsOpened k world o) r
    → IsReply (TakesTrace (opened h w) n line) (EndsAt trace (opened h w) n line) (IsOpenedBy (k + 1) world o) r
opened_by h w k n world o line r x = reply_as trace (opened h w) n line (IsOpened k world o) (IsOpenedBy (k + 1) world o) (λ t y. (k, omega arith, y)) r x

-- ## A world in a trace

same_world : (o : Option World) (x y : World) → o ≡ Some x → o ≡ Some y → x ≡ y
same_world o x y e f = let r : Some x ≡ Some y = sym e ∙ f in cc

no_world : (o : Option World) (x : World) → o ≡ Some x → o ≡ None → ⊥
no_world o x e f = let r : Some x ≡ None = sym e ∙ f in cc

-- it goes on
pub may_go_on : (t : Tracing) (n : ℕ) (w : World) → n ≤ 65536 → t.world ≡ Some w → (s : TraceState) × StandsForTrace t n s → TellsTexts w t.authors
may_go_on t n w few is (unopened, stands) = absurd (no_world t.world w is stands.0)
may_go_on t n w few is (opened h v, (x, at, k, counted, u)) =
    (k, h, v, subst (λ (y : World). IsUnderWay k y t.authors h v) (same_world t.world x w at is) u, omega (arith, few, counted))

-- so it may make a step, and isn't spent
pub steps_on : (w : World) (o : Option Authors) → TellsTexts w o → GoesOn w
steps_on w o tells = (tells.0, tells.1, tells.2, tells.3.stands, omega (arith, tells.4))

pub may_step : (w : World) → GoesOn w → MayStep w
may_step w goes = inr goes

pub never_spent : (w : World) → GoesOn w → IsSpent w → ⊥
never_spent w goes spent =
    let fresh : w.spent ≡ false = goes.3.fresh in
    let is : w.spent ≡ true = spent in
    cc

-- a line is answered by the world
pub line_taken : (old new : Tracing) (n : ℕ) (w u : World) (line : List ℕ) (r : Reply EndCause) → old.world ≡ Some w → new.world ≡ Some u
    → ((k : ℕ) (h : HeaderView) (v : WorldState) → IsUnderWay k w old.authors h v → IsReply (TakesTrace (opened h v) n line) (EndsAt trace (opened h v) n line) (IsOpenedBy (k + 1) u new.authors) r)
    → (s : TraceState) → StandsForTrace old n s → IsReply (TakesTrace s n line) (EndsAt trace s n line) (StandsForTrace new (n + 1)) r
line_taken old new n w u line r is now by unopened stands = absurd (no_world old.world w is stands.0)
line_taken old new n w u line r is now by (opened h v) (x, at, k, counted, stands) =
    let here : IsUnderWay k w old.authors h v = subst (λ (y : World). IsUnderWay k y old.authors h v) (same_world old.world x w at is) stands in
    reply_as trace (opened h v) n line (IsOpenedBy (k + 1) u new.authors) (StandsForTrace new (n + 1)) also r (by k h v here)
  where
    also : (t : TraceState) → IsOpenedBy (k + 1) u new.authors t → StandsForTrace new (n + 1) t
    also unopened x = absurd x.2
    also (opened g y) x = (u, now, x.0, omega (arith, counted, x.1), x.2)

-- the first line is answered
pub header_taken : (old new : Tracing) (n : ℕ) (line : List ℕ) (r : Reply EndCause) → old.world ≡ None → new.authors ≡ old.authors
    → IsReply (TakesTrace unopened n line) (EndsAt trace unopened n line) (IsOpenedIn new.world) r
    → (s : TraceState) → StandsForTrace old n s → IsReply (TakesTrace s n line) (EndsAt trace s n line) (StandsForTrace new (n + 1)) r
header_taken old new n line r none same by (opened h v) stands = absurd (no_world old.world stands.0 stands.1 none)
header_taken old new n line r none same by unopened stands = reply_as trace unopened n line (IsOpenedIn new.world) (StandsForTrace new (n + 1)) also r by
  where
    also : (t : TraceState) → IsOpenedIn new.world t → StandsForTrace new (n + 1) t
    also unopened x = absurd x.2
    also (opened g y) x = (x.0, x.1, 0, omega (arith, stands.2), subst (λ (o : Option Authors). IsUnderWay 0 x.0 o g y) (sym (same ∙ stands.1)) x.2)

-- a world that a header opens
pub opened_anew : (world : World) (h : HeaderView) → Stands 0 world h empty_state → IsUnderWay 0 world None h empty_state
opened_anew world h stands = record { stands = stands; fit = begun_authors h; few = λ s. omega arith; kept = tt }

-- the end of the input
pub end_taken : (t : Tracing) (n : ℕ) (w : World) (r : Reply EndCause) → t.world ≡ Some w → IsTelling [] r
    → (s : TraceState) → StandsForTrace t n s → IsEnd (FinishesAt trace s n) (FailsAt trace s n) r
end_taken t n w r is told unopened stands = absurd (no_world t.world w is stands.0)
end_taken t n w r is told (opened h v) stands = ends_well trace (opened h v) n [] r refl told

pub end_lacks : (t : Tracing) (n : ℕ) (r : Reply EndCause) → t.world ≡ None → IsRefusal n (why.Bad BadCause.Header) r
    → (s : TraceState) → StandsForTrace t n s → IsEnd (FinishesAt trace s n) (FailsAt trace s n) r
end_lacks t n r none told (opened h v) stands = absurd (no_world t.world stands.0 stands.1 none)
end_lacks t n r none told unopened stands = ends_badly trace unopened n (why.Bad BadCause.Header) r refl told
