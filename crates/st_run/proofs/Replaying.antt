-- Replies to the lines of messages.
use Rattle.std.proofs.Common.{◌≡◌, ℕ, ◌+◌, false, List, Option, Some, None, refl, sym, ◌∙◌, subst, arith}
use Rattle.serde_json.specs.Data.{Data}
use Rattle.serde_json.specs.Written.{has_float}
use Rattle.st_answers.specs.Meaning.{EndsAt, FailsAt, FinishesAt}
use Rattle.st_answers.specs.Replay.{ReplayState, TakesReplay, opened, replay, taken_data, taken_line, unopened, void_told}
use Rattle.st_answers.specs.declared.cause.EndCause.{EndCause}
use Rattle.st_answers.specs.declared.cause.EndCause.TheVariants as why
use Rattle.st_json.specs.Line.{line_value}
use Rattle.st_json.specs.declared.fault.BadCause.{BadCause}
use Rattle.st_lists.specs.declared.lists.Entry.{Entry}
use Rattle.st_marks.specs.Document.{Document}
use Rattle.st_marks.specs.LiveTree.{IsTreeText}
use Rattle.st_marks.specs.Run.{Run}
use Rattle.st_doc.specs.Doc.{document_of}
use Rattle.st_doc.specs.declared.doc.Doc.{Doc}
use Rattle.st_author_docs.specs.Authors.{LeadsTo}
use Rattle.st_edits.specs.ArrayTypes.{is_array_type}
use Rattle.st_edits.specs.InEffect.{schema_in_effect}
use Rattle.st_lists.specs.Log.{commits_in}
use Rattle.st_script.specs.AnswerText.{answer_line}
use Rattle.st_script.specs.declared.answer.Answer.TheVariants as answer
use Rattle.st_run.specs.inside.Trees.{HasSchemas}
use Rattle.st_run.proofs.Trees.{log_has_schemas}
use Rattle.st_marks.specs.declared.verdicts.Verdict.{Verdict}
use Rattle.st_pieces.specs.Told.{IsEnd, IsReply}
use Rattle.st_pieces.specs.declared.responder.Reply.{Reply}
use Rattle.st_pieces.specs.declared.responder.Reply.TheVariants.{Goes, Ends}
use Rattle.st_replay.specs.Stands.{MayOpen, Stands, StandsAt}
use Rattle.st_replay.specs.declared.replay.Replay.{Replay}
use Rattle.st_run.specs.declared.replay.Replaying.{Replaying}
use Rattle.st_run.specs.inside.Replaying.{IsMessageReply, IsReplayAt, IsReplayIn, IsTreeReply, StandsForReplay}
use Rattle.st_run.specs.inside.Replies.{IsRefusal, IsTelling}
use Rattle.st_run.proofs.Replying.{ends_badly, reply_as}
use Rattle.st_script.specs.Header.{HeaderView}
use Rattle.st_valid.specs.declared.message.ReplayCause.{ReplayCause}
use Rattle.st_valid_laws.specs.Shape.{IsValueRefusedFor}
use Rattle.st_valid_laws.specs.Taking.{IsTaken}
use Rattle.st_world.specs.World.{opening_document}
use Rattle.st_world_laws.specs.Worlds.{IsHeader}
use Rattle.st_world_laws.proofs.Begun.{opened_start}

-- ## Lines

void_plain : (v : Option Verdict) → has_float (void_told v) ≡ false
void_plain None = refl
void_plain (Some Verdict.Sound) = refl
void_plain (Some (Verdict.Schema under)) = refl
void_plain (Some (Verdict.Need node)) = refl
void_plain (Some (Verdict.Cycle node)) = refl

-- what says that a message was taken holds no fraction
pub taken_plain : (n : ℕ) (v : Option Verdict) → has_float (taken_data n v) ≡ false
taken_plain n v = rw (void_plain v) refl

-- ## The opening

-- the document of a header may open a log
pub header_may_open : (h : HeaderView) → IsHeader h → MayOpen (opening_document h)
header_may_open h k =
    let s = opened_start h k in
    record { sound = s.sound; made = s.made; room = λ n. omega (arith, s.short n) }

-- ## Messages

-- a replay that stands for an opened state stands
pub stands_at : (x : Replaying) (n : ℕ) (r : Replay) → x.replay ≡ Some r → (s : ReplayState) × StandsForReplay x n s → (t : ReplayState) × IsReplayAt r t
stands_at x n r is (unopened, none) = absurd (let e : Some r ≡ None = sym is ∙ none in cc)
stands_at x n r is (opened h log, (q, there, at)) = (opened h log, subst (λ (z : Replay). IsReplayAt z (opened h log)) (same q r (sym there ∙ is)) at)
  where
    same : (a b : Replay) → Some a ≡ Some b → a ≡ b
    same a b e = cc

pub at_stands : (r : Replay) → (t : ReplayState) × IsReplayAt r t → Stands r
at_stands r (unopened, at) = absurd at
at_stands r (opened h log, at) = (opening_document h, log, at.1)

-- a value is taken, and told
pub taken_replied : (number : ℕ) (O : Document) (log : List Entry) (d : Data) (After : List Entry → Type 0) (n : ℕ) (v : Option Verdict) (r : Reply EndCause)
    → (after : List Entry) × IsTaken O log d after n v × After after → IsTelling (taken_line n v) r → IsMessageReply number O log d After r
taken_replied number O log d After n v (Goes text) x told = (x.0, n, v, x.1, told, x.2)
taken_replied number O log d After n v (Ends text e) x told = absurd told

-- or it is refused
pub refused_replied : (number : ℕ) (O : Document) (log : List Entry) (d : Data) (After : List Entry → Type 0) (c : ReplayCause) (r : Reply EndCause)
    → IsValueRefusedFor O log d c → IsRefusal number (why.Refused c) r → IsMessageReply number O log d After r
refused_replied number O log d After c (Goes text) x told = absurd told
refused_replied number O log d After c (Ends text e) x told = (c, x, told.0, told.1)

-- a line that is a value is answered so
pub value_replied : (h : HeaderView) (log : List Entry) (number : ℕ) (line : List ℕ) (d : Data) (new : Replay) (r : Reply EndCause) → IsHeader h → line_value line ≡ Some d
    → IsMessageReply number (opening_document h) log d (StandsAt new (opening_document h)) r → IsReply (TakesReplay (opened h log) number line) (EndsAt replay (opened h log) number line) (IsReplayAt new) r
value_replied h log number line d new (Goes text) header is (after, n, v, taken, told, stands) =
    (opened h after, record { value = d; is = is; after = after; number = n; void = v; taken = taken; told = told; state = refl }, (header, stands))
value_replied h log number line d new (Ends text e) header is (c, refused, same, told) =
    subst (λ (x : EndCause). EndsAt replay (opened h log) number line text.items x) (sym same) (record { value = d; is = is; refused = refused }, told)

-- ## A replay under way

pub message_taken : (old new : Replaying) (n : ℕ) (q r : Replay) (line : List ℕ) (told : Reply EndCause) → old.replay ≡ Some q → new.replay ≡ Some r
    → ((h : HeaderView) (log : List Entry) → IsHeader h → StandsAt q (opening_document h) log → IsReply (TakesReplay (opened h log) n line) (EndsAt replay (opened h log) n line) (IsReplayAt r) told)
    → (s : ReplayState) → StandsForReplay old n s → IsReply (TakesReplay s n line) (EndsAt replay s n line) (StandsForReplay new (n + 1)) told
message_taken old new n q r line told was is by unopened none = absurd (let e : Some q ≡ None = sym was ∙ none in cc)
message_taken old new n q r line told was is by (opened h log) (z, there, at) =
    let here : StandsAt q (opening_document h) log = subst (λ (y : Replay). StandsAt y (opening_document h) log) (same z q (sym there ∙ was)) at.1 in
    reply_as replay (opened h log) n line (IsReplayAt r) (StandsForReplay new (n + 1)) also told (by h log at.0 here)
  where
    same : (a b : Replay) → Some a ≡ Some b → a ≡ b
    same a b e = cc

    also : (t : ReplayState) → IsReplayAt r t → StandsForReplay new (n + 1) t
    also unopened x = absurd x
    also (opened g after) x = (r, is, x)

pub opening_taken : (old new : Replaying) (n : ℕ) (line : List ℕ) (told : Reply EndCause) → old.replay ≡ None
    → IsReply (TakesReplay unopened n line) (EndsAt replay unopened n line) (IsReplayIn new.replay) told
    → (s : ReplayState) → StandsForReplay old n s → IsReply (TakesReplay s n line) (EndsAt replay s n line) (StandsForReplay new (n + 1)) told
opening_taken old new n line told none by (opened h log) (z, there, at) = absurd (let e : Some z ≡ None = sym there ∙ none in cc)
opening_taken old new n line told none by unopened stands = reply_as replay unopened n line (IsReplayIn new.replay) (StandsForReplay new (n + 1)) also told by
  where
    also : (t : ReplayState) → IsReplayIn new.replay t → StandsForReplay new (n + 1) t
    also unopened x = absurd x.2
    also (opened g after) x = x

-- ## The end

-- the document of a replay has schemas, and its text is that of the log's tree
pub doc_schemas : (r : Replay) (d : Doc) → ((O : Document) (log : List Entry) → StandsAt r O log → LeadsTo O (commits_in log) d) → (t : ReplayState) × IsReplayAt r t → HasSchemas (document_of d)
doc_schemas r d leads (unopened, at) = absurd at
doc_schemas r d leads (opened h log, at) = log_has_schemas h log (document_of d) at.0 at.1.valid (leads (opening_document h) log at.1).ran

pub tree_told : (O : Document) (log : List Entry) (D : Document) (tree text : List ℕ) (r : Reply EndCause) → Run O (commits_in log) D → IsTreeText (is_array_type (schema_in_effect D)) D tree → text ≡ answer_line (answer.Show tree) → IsTelling text r → IsTreeReply O log r
tree_told O log D tree text (Goes t) ran shown is told = record { document = D; ran = ran; tree = tree; shown = shown; told = told ∙ is }
tree_told O log D tree text (Ends t e) ran shown is told = absurd told

pub tree_ends : (x : Replaying) (n : ℕ) (r : Replay) (told : Reply EndCause) → x.replay ≡ Some r
    → ((h : HeaderView) (log : List Entry) → IsHeader h → StandsAt r (opening_document h) log → IsTreeReply (opening_document h) log told)
    → (s : ReplayState) → StandsForReplay x n s → IsEnd (FinishesAt replay s n) (FailsAt replay s n) told
tree_ends x n r told is by unopened none = absurd (let e : Some r ≡ None = sym is ∙ none in cc)
tree_ends x n r told is by (opened h log) (z, there, at) =
    let here : StandsAt r (opening_document h) log = subst (λ (y : Replay). StandsAt y (opening_document h) log) (same z r (sym there ∙ is)) at.1 in
    so told (by h log at.0 here)
  where
    same : (a b : Replay) → Some a ≡ Some b → a ≡ b
    same a b e = cc

    so : (t : Reply EndCause) → IsTreeReply (opening_document h) log t → IsEnd (FinishesAt replay (opened h log) n) (FailsAt replay (opened h log) n) t
    so (Goes text) shown = shown
    so (Ends text e) x = absurd x

pub end_lacks_header : (x : Replaying) (n : ℕ) (told : Reply EndCause) → x.replay ≡ None → IsRefusal n (why.Bad BadCause.Header) told
    → (s : ReplayState) → StandsForReplay x n s → IsEnd (FinishesAt replay s n) (FailsAt replay s n) told
end_lacks_header x n told none by (opened h log) (z, there, at) = absurd (let e : Some z ≡ None = sym there ∙ none in cc)
end_lacks_header x n told none by unopened stands = ends_badly replay unopened n (why.Bad BadCause.Header) told refl by
