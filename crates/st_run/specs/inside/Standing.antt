-- What stands for the states of a trace.
use Rattle.std.specs.Prelude.{◌≡◌, ◌⊎◌, ℕ, ◌+◌, ◌<◌, ◌≤◌, ◌^◌, false, Option, Some, None, Ok, IfSome}
use Rattle.st_lists.specs.declared.lists.WorldState.{WorldState}
use Rattle.st_script.specs.AnswerText.{answer_line}
use Rattle.st_script.specs.Header.{HeaderView}
use Rattle.st_script.specs.Steps.{EditView, StepView}
use Rattle.st_script.specs.declared.answer.Answer.{Answer}
use Rattle.st_author_lists.specs.Authors.{FitAuthors}
use Rattle.st_author_lists.specs.KnownChanges.{IsKnownChange, is_no}
use Rattle.st_carried_ids.specs.CarriedIds.{CarryFew}
use Rattle.st_doc.specs.Doc.{document_of}
use Rattle.st_entry_texts.specs.Authors.{AreAuthorsOf}
use Rattle.st_edits.specs.declared.names.NameCounters.{NameCounters}
use Rattle.st_entry_texts.specs.KnownChanges.{IsKept}
use Rattle.st_entry_texts.specs.declared.entry.Authors.{Authors}
use Rattle.st_entry_texts.specs.declared.known.Known.{Known}
use Rattle.st_entry_texts.specs.declared.known.KnownChanges.{KnownChanges}
use Rattle.st_ids.specs.declared.names.Rev.{Rev}
use Rattle.st_known_changes.specs.Writing.{IsWriting}
use Rattle.st_marks.specs.Document.{Document}
use Rattle.st_marks.specs.Embedding.{IsEmbedding}
use Rattle.st_marks.specs.declared.changes.Change.{Change}
use Rattle.st_marks.specs.declared.intents.Intent.{Intent}
use Rattle.st_world.specs.World.{IsNext, intent_of, opening_document}
use Rattle.st_plain.specs.Stands.{Stands}
use Rattle.st_plain.specs.declared.world.World.{World}
use Rattle.st_pieces.specs.declared.responder.Reply.{Reply}
use Rattle.st_pieces.specs.declared.responder.Reply.TheVariants.{Goes, Ends}
use Rattle.st_answers.specs.declared.cause.EndCause.{EndCause}
use Rattle.st_answers.specs.Trace.{TraceState, unopened, opened}
use Rattle.st_schema.specs.Schema.{SchemaView}
use Rattle.st_run.specs.declared.trace.NewChange.{NewChange}
use Rattle.st_run.specs.declared.trace.Tracing.{Tracing}

-- a world stands for some lists, so that it isn't spent, and one step more can be counted
abbrev pub GoesOn : World → Type 0
GoesOn w = (steps : ℕ) × (h : HeaderView) × (v : WorldState) × Stands steps w h v × (steps + 1 < 2 ^ 32)

-- each change that is kept is known in a world
abbrev pub AreKnown : HeaderView → WorldState → KnownChanges → Type 0
AreKnown h w x = (r : Rev) (k : Known) → IsKept x r k → IsKnownChange h w r k.reference k.change

-- what is kept of authors is kept of those of a world's log
abbrev pub IsKeptFor : HeaderView → WorldState → Authors → Type 0
IsKeptFor h w x = (document_of x.opening ≡ opening_document h) × AreAuthorsOf w.log x × AreKnown h w x.known

-- a world stands for lists after so many steps, and beside it something may be kept of authors: each commit fits where its author
-- wrote it, and the log carries no more ids of a session than steps were made
pub record IsUnderWay (k : ℕ) (world : World) (authors : Option Authors) (h : HeaderView) (w : WorldState) : Type 0 where
  pub stands : Stands k world h w
  pub fit : FitAuthors h w
  pub few : CarryFew k w.log
  pub kept : IfSome authors (IsKeptFor h w)

-- it does for some, so that texts can be told, and one step more can be counted
abbrev pub TellsTexts : World → Option Authors → Type 0
TellsTexts world authors = (k : ℕ) × (h : HeaderView) × (w : WorldState) × IsUnderWay k world authors h w × (k ≤ 65536)

-- they stand for an opened state, after so many steps
abbrev pub IsOpened : ℕ → World → Option Authors → TraceState → Type 0
IsOpened k world authors unopened = ⊥
IsOpened k world authors (opened h w) = IsUnderWay k world authors h w

-- or after fewer
abbrev pub IsOpenedBy : ℕ → World → Option Authors → TraceState → Type 0
IsOpenedBy most world authors t = (k : ℕ) × (k ≤ most) × IsOpened k world authors t

-- there is a world, which stands for it after no step
abbrev pub IsOpenedIn : Option World → TraceState → Type 0
IsOpenedIn o t = (world : World) × (o ≡ Some world) × IsOpened 0 world None t

-- what stands for a state before the line of a number: before the first line there is no world, and the world has made at most
-- a step for each line but the header
abbrev pub StandsForTrace : Tracing → ℕ → TraceState → Type 0
StandsForTrace t n unopened = (t.world ≡ None) × (t.authors ≡ None) × (n ≡ 1)
StandsForTrace t n (opened h w) = (world : World) × (t.world ≡ Some world) × (k : ℕ) × (k + 2 ≤ n) × IsUnderWay k world t.authors h w

-- a change is that of the commit which a step is about to write: of what its edit means in the document that its client shows
pub record IsToldBefore (h : HeaderView) (w : WorldState) (s : StepView) (received : ℕ) (C : Change) : Type 0 where
  pub document : Document
  pub schema : SchemaView
  pub given : NameCounters
  pub edit : EditView
  pub writes : IsWriting h w s received document schema given edit
  pub intent : Intent
  pub means : intent_of document schema given edit ≡ Ok intent
  pub embeds : IsEmbedding document intent C

-- so it is in the world that a step is to be made of
abbrev pub IsNewFor : World → StepView → NewChange → Type 0
IsNewFor world s new = (k : ℕ) (h : HeaderView) (w : WorldState) → Stands k world h w → IsToldBefore h w s new.received new.change

-- a change is the one that was told before a step which isn't refused
abbrev pub IsNewChange : Option NewChange → Answer → Rev → Known → Type 0
IsNewChange told a r k = (new : NewChange) × (told ≡ Some new) × (is_no a ≡ false) × (r ≡ new.change.rev) × (k ≡ record { reference = new.received; change = new.change })

-- once a step was answered: what is kept of authors stays, but that of changes no others are known than were known before, and that one
abbrev pub HasNoted : Option NewChange → Answer → Option Authors → Option Authors → Type 0
HasNoted told a None o = o ≡ None
HasNoted told a (Some x) None = ⊥
HasNoted told a (Some x) (Some y) = (y ≡ record x { known = y.known }) × ((r : Rev) (k : Known) → IsKept y.known r k → IsKept x.known r k ⊎ IsNewChange told a r k)

-- a step is answered
abbrev pub IsStepReply : HeaderView → WorldState → StepView → (WorldState → Type 0) → Reply EndCause → Type 0
IsStepReply h w s After (Goes text) =
    (a : Answer) × (v : WorldState) × IsNext h w s v a × (text.items ≡ answer_line a) × After v
IsStepReply h w s After (Ends text e) = ⊥
