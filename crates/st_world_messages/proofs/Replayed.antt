-- The texts of a world's entries, one after the other.
use Rattle.std.proofs.Common.{◌≡◌, ◌≤◌, ◌+◌, ◌-◌, ℕ, List, [], ◌∷◌, length, take, Option, Some, None, IfSome, ◌++◌, append-nil, sym, ap, ap₂, ◌∙◌, subst, arith}
use Rattle.std.specs.List.{slice_get}
use Rattle.std.proofs.lemmas.List.{take_all}
use Rattle.serde_json.specs.Data.{Data}
use Rattle.st_carried_ids.proofs.Carrying.{begun_ids}
use Rattle.st_carried_ids.proofs.Going.{ids_next}
use Rattle.st_clusters.specs.Table.{most_ids}
use Rattle.st_commit_laws.proofs.Going.{tellable_next}
use Rattle.st_commit_laws.proofs.Lines.{line_short}
use Rattle.st_lists.specs.Clients.{empty_state}
use Rattle.st_lists.specs.Lines.{commits_of, edited_on, main_line}
use Rattle.st_lists.specs.Log.{commits_in}
use Rattle.st_lists.specs.Open.{with_open}
use Rattle.st_lists.specs.declared.lists.Client.{Client}
use Rattle.st_lists.specs.declared.lists.Entry.{Entry}
use Rattle.st_lists.specs.declared.lists.WorldState.{WorldState}
use Rattle.st_marks.specs.declared.verdicts.Verdict.{Verdict}
use Rattle.st_marks.specs.Document.{Document}
use Rattle.st_marks.specs.Run.{Run}
use Rattle.st_msg.specs.Messages.{MessageView, message_data}
use Rattle.st_script.specs.Header.{HeaderView}
use Rattle.st_script.specs.StepText.{FitsAct, FitsLine, IsUuid}
use Rattle.st_script.specs.Steps.{ActView, StepView}
use Rattle.st_script.specs.Steps as step
use Rattle.st_script.specs.declared.answer.Answer.{Answer}
use Rattle.st_texts.specs.Texts.{IsMessageOf}
use Rattle.st_valid_laws.specs.Taking.{IsTaken}
use Rattle.st_world.specs.World.{HasShown, IsNext, opening_document}
use Rattle.st_world_laws.specs.Worlds.{IsHeader, KeepsRules}
use Rattle.st_world_messages.specs.Steps.{Brings, IsVersion4}
use Rattle.st_world_messages.specs.Texts.{AreMessagesFrom, AreTaken, SendsTexts, all_taken, no_more_messages, one_message, one_taken}
use Rattle.st_world_messages.proofs.Going.{begun, goes_in_order}
use Rattle.st_world_messages.proofs.Tests.{has_message}
use Rattle.st_world_messages.proofs.Texts.{sessions_few, text_taken}
use Rattle.st_world_messages.proofs.Uuids.{uuids_after}
use Rattle.st_world_messages.proofs.Walk.{leads_on}

-- ## Steps that lines can hold

-- a line that changes the schema brings one that keeps the rules
keeps_rules : (branch : ℕ) (x : ActView) → FitsAct branch x → KeepsRules x
keeps_rules branch (step.join uuid) fits = tt
keeps_rules branch (step.edit e) fits = tt
keeps_rules branch (step.need path) fits = tt
keeps_rules branch step.begin fits = tt
keeps_rules branch step.commit fits = tt
keeps_rules branch step.abort fits = tt
keeps_rules branch (step.undo rev) fits = tt
keeps_rules branch (step.upgrade schema) fits = fits.1
keeps_rules branch step.sequence fits = tt
keeps_rules branch step.ack fits = tt
keeps_rules branch step.deliver fits = tt
keeps_rules branch step.leave fits = tt
keeps_rules branch step.drop_client fits = tt
keeps_rules branch step.reconnect fits = tt
keeps_rules branch step.fork fits = tt
keeps_rules branch step.rebase fits = tt
keeps_rules branch step.merge fits = tt
keeps_rules branch step.drop_branch fits = tt
keeps_rules branch step.show fits = tt
keeps_rules branch step.pending fits = tt

-- and one that joins brings a UUID
brings_uuid : (branch : ℕ) (x : ActView) → FitsAct branch x → Brings IsUuid x
brings_uuid branch (step.join uuid) fits = fits.1
brings_uuid branch (step.edit e) fits = tt
brings_uuid branch (step.need path) fits = tt
brings_uuid branch step.begin fits = tt
brings_uuid branch step.commit fits = tt
brings_uuid branch step.abort fits = tt
brings_uuid branch (step.undo rev) fits = tt
brings_uuid branch (step.upgrade schema) fits = tt
brings_uuid branch step.sequence fits = tt
brings_uuid branch step.ack fits = tt
brings_uuid branch step.deliver fits = tt
brings_uuid branch step.leave fits = tt
brings_uuid branch step.drop_client fits = tt
brings_uuid branch step.reconnect fits = tt
brings_uuid branch step.fork fits = tt
brings_uuid branch step.rebase fits = tt
brings_uuid branch step.merge fits = tt
brings_uuid branch step.drop_branch fits = tt
brings_uuid branch step.show fits = tt
brings_uuid branch step.pending fits = tt

brings_version : (x : ActView) → Brings IsUuid x → Brings IsVersion4 x
brings_version (step.join told) u = of_version told u
  where
    of_version : (o : Option ℕ) → IfSome o IsUuid → IfSome o IsVersion4
    of_version None u = tt
    of_version (Some uuid) u = u.1
brings_version (step.edit e) u = tt
brings_version (step.need path) u = tt
brings_version step.begin u = tt
brings_version step.commit u = tt
brings_version step.abort u = tt
brings_version (step.undo rev) u = tt
brings_version (step.upgrade schema) u = tt
brings_version step.sequence u = tt
brings_version step.ack u = tt
brings_version step.deliver u = tt
brings_version step.leave u = tt
brings_version step.drop_client u = tt
brings_version step.reconnect u = tt
brings_version step.fork u = tt
brings_version step.rebase u = tt
brings_version step.merge u = tt
brings_version step.drop_branch u = tt
brings_version step.show u = tt
brings_version step.pending u = tt

pub begun_texts : (h : HeaderView) → IsHeader h → SendsTexts h 0 empty_state
begun_texts h k = record { order = begun h k; ids = begun_ids; told = record { log = tt; clients = tt }; uuids = record { log = tt; clients = tt } }

pub texts_after : (h : HeaderView) (n : ℕ) (w v : WorldState) (s : StepView) (a : Answer) → SendsTexts h n w → FitsLine s → IsNext h w s v a → SendsTexts h (n + 1) v
texts_after h n w v s a t line next =
    let world = t.order.world in
    let rules = keeps_rules s.branch s.act line.1 in
    let uuid = brings_uuid s.branch s.act line.1 in
    record {
      order = goes_in_order h n w v s a t.order rules (brings_version s.act uuid) next;
      ids = ids_next h w v s a world t.ids rules next;
      told = tellable_next h w v s a world t.told rules (line_short s line) next;
      uuids = uuids_after h w world (sessions_few h n w t.order) t.uuids v (leads_on IsUuid h w v s a world uuid next);
    }

-- ## Texts in turn

pub taken_at : (h : HeaderView) (n : ℕ) (w : WorldState) → SendsTexts h n w → n ≤ most_ids → (i : ℕ) (e : Entry) → slice_get w.log i ≡ Some e → (v : MessageView) → IsMessageOf (opening_document h) w.log (i + 1) v
    → (u : Option Verdict) × IsTaken (opening_document h) (take i w.log) (message_data v) (take (i + 1) w.log) (i + 1) u
taken_at h n w t few i e at v y =
    let m = has_message h n w t.order i e at in
    text_taken h n w t few i m.0 m.1 v y

taken_from : (h : HeaderView) (n : ℕ) (w : WorldState) → SendsTexts h n w → n ≤ most_ids → (i : ℕ) (ds : List Data) → AreMessagesFrom (opening_document h) w.log i ds → AreTaken (opening_document h) (take i w.log) ds w.log
taken_from h n w t few i [] no_more_messages = subst (λ l. AreTaken (opening_document h) l [] w.log) (sym (take_all (length w.log) w.log (omega arith))) all_taken
taken_from h n w t few i (d ∷ ds) (one_message v y rest) =
    let back : (i + 1) - 1 ≡ i = omega arith in
    let one = taken_at h n w t few i y.entry (ap (slice_get w.log) (sym back) ∙ y.there) v y in
    one_taken d (i + 1) one.0 one.1 (taken_from h n w t few (i + 1) ds rest)

pub all_are_taken : (h : HeaderView) (n : ℕ) (w : WorldState) → SendsTexts h n w → n ≤ most_ids → (ds : List Data) → AreMessagesFrom (opening_document h) w.log 0 ds → AreTaken (opening_document h) [] ds w.log
all_are_taken h n w t few ds are = taken_from h n w t few 0 ds are

-- ## What is shown at the end

pub shown_whole : (O D : Document) (log : List Entry) (c : Client) → c.received ≡ length log → c.pending ≡ [] → c.transaction ≡ None → HasShown O log (main_line c) D → Run O (commits_in log) D
shown_whole O D log c received pending none shown =
    let whole : take c.received log ≡ log = take_all c.received log (omega (arith, received)) in
    let all : commits_of log (main_line c) ≡ commits_in log = ap₂ (λ l own. commits_in l ++ own) whole pending ∙ append-nil (commits_in log) in
    let head : Run O (commits_in log) shown.0 = subst (λ Ns. Run O Ns shown.0) all shown.1 in
    let ended : D ≡ shown.0 = shown.2 ∙ ap (λ t. with_open shown.0 (edited_on (record (main_line c) { transaction = t }))) none in
    subst (λ E. Run O (commits_in log) E) (sym ended) head
