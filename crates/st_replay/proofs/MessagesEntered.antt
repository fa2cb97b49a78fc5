-- Messages that entered the log of a replay, and changes that were turned down.
use Rattle.std.proofs.Common.{◌≡◌, ◌≤◌, ◌<◌, ◌^◌, ℕ, arith, length, List, Some, None, Result, Ok, Err, IfOk, OnOk, refl, sym, subst}
use Rattle.st_author_docs.specs.Authors.{LeadsTo}
use Rattle.st_clusters.specs.declared.ids.IdRange.{IdRange}
use Rattle.st_doc.specs.Doc.{document_of}
use Rattle.st_doc.specs.declared.doc.Doc.{Doc}
use Rattle.st_ids.specs.Or.{IfRefused}
use Rattle.st_ids.specs.declared.fault.Or.{Or}
use Rattle.st_ids.specs.declared.fault.Or.TheVariants.{Fault, NoMemory}
use Rattle.st_lists.specs.Log.{commits_in, known_reference, log_with}
use Rattle.st_lists.specs.declared.lists.Body.{Body}
use Rattle.st_lists.specs.declared.lists.Body.TheVariants.{Commit}
use Rattle.st_lists.specs.declared.lists.Entry.{Entry}
use Rattle.st_makers.specs.Makers.{KnowsMakers}
use Rattle.st_marks.specs.Document.{Document}
use Rattle.st_marks.specs.Run.{Run}
use Rattle.st_marks.specs.Verdict.{IsVerdict}
use Rattle.st_marks.specs.declared.changes.Change.{Change}
use Rattle.st_marks.specs.declared.intents.Intent.{Intent}
use Rattle.st_marks.specs.declared.verdicts.Verdict.{Verdict}
use Rattle.st_valid.specs.Author.{author_list}
use Rattle.st_valid.specs.Refusals.{refused_by_log}
use Rattle.st_valid.specs.declared.message.Message.{Message}
use Rattle.st_valid.specs.declared.message.ReplayCause.{ReplayCause}
use Rattle.st_valid.specs.declared.message.Said.TheVariants as said
use Rattle.st_valid_laws.specs.Messages.{IsBodyOf, IsValid, IsValidLog}
use Rattle.st_valid_laws.specs.Taking.{ComesOut}
use Rattle.st_valid_laws.proofs.Standing.{all_stand}
use Rattle.st_valid_laws.proofs.ValidLogs.{few_entries}
use Rattle.st_replay.specs.Stands.{AreAuthorsOf, StandsAt}
use Rattle.st_replay.specs.inside.Going.{CanGo}
use Rattle.st_replay.specs.inside.Judging.{IsJudged, IsTurnedDown}
use Rattle.st_replay.specs.inside.Taking.{GoesOnBy, IsEntered, IsRefused, IsStanding, MayFollow, opening_of}
use Rattle.st_replay.specs.declared.replay.Replay.{Replay}
use Rattle.st_replay.proofs.MessagesJudged.{change_says, change_valid, turned_down}

pub on_ok : {T E P Q : Type 0} (r : Result T E) → (P → Q) → OnOk r P → OnOk r Q
on_ok (Ok x) f h = f h
on_ok (Err e) f h = tt

pub always : {T E P : Type 0} (r : Result T E) → P → OnOk r P
always (Ok x) p = p
always (Err e) p = tt

-- an entry more makes a log of valid messages of its log too, where it stands for that log
pub follows_there : (s : Replay) (O : Document) (log : List Entry) (session : ℕ) (body : Body) → StandsAt s O log → IsValidLog O (log_with log session body) → MayFollow s session body
follows_there s O log session body h valid = subst (λ (D : Document). IsValidLog D (log_with s.log session body)) (sym h.authors.opened) (subst (λ es. IsValidLog O (log_with es session body)) (sym h.entries) valid)

-- it stands for the same log, when documents of authors went on
pub stays : (r s : Replay) (O : Document) (log : List Entry) → s.log ≡ r.log → s.ledger ≡ r.ledger → s.doc ≡ r.doc → s.makers ≡ r.makers → AreAuthorsOf O log s.authors → StandsAt r O log → StandsAt s O log
stays r s O log entries ledger doc makers authors h = record {
  opens = h.opens;
  valid = h.valid;
  entries = subst (λ es. es ≡ log) (sym entries) h.entries;
  numbers = rw ledger h.numbers;
  document = rw doc h.document;
  authors = authors;
  makers = rw makers h.makers;
}

-- the document of a session can go on to each reference that isn't below the one that is known of it
pub can_go : (r : Replay) (session reference : ℕ) → IsStanding r → known_reference session r.log ≤ reference → CanGo r.log session reference r.authors
can_go r session reference h low = record {
  opening = opening_of r;
  sound = h.opens.sound;
  are = h.authors;
  fit = ((all_stand (opening_of r) h.opens.sound h.opens.made h.opens.room h.valid).authors session reference low).fit;
}

pub short : (r : Replay) → IsStanding r → length r.log < 2 ^ 32
short r h = omega (arith, few_entries h.valid)

-- ## What is judged

-- by the entries of the replay, and in its author's document
module _ (r t : Replay) (es : List Entry) (d : Doc) (session reference : ℕ) (C : Change) (is : es ≡ r.log) (leads : LeadsTo (opening_of r) (author_list r.log session reference) d) (h : IsStanding r) (stands : StandsAt t (opening_of r) r.log) where
  ran : Run (opening_of r) (author_list es session reference) (document_of d)
  ran = subst (λ l. Run (opening_of r) (author_list l session reference) (document_of d)) (sym is) leads.ran

  knows : KnowsMakers (opening_of r) (commits_in es) r.makers
  knows = subst (λ l. KnowsMakers (opening_of r) (commits_in l) r.makers) (sym is) h.makers

  pub judged_here : {E : Type 0} (result : Result Intent E)
      → IfOk result (λ N. (O : Document) → Run O (author_list es session reference) (document_of d) → KnowsMakers O (commits_in es) r.makers → IsJudged O es session reference C N)
      → IfOk result (λ N. IsJudged (opening_of r) r.log session reference C N × StandsAt t (opening_of r) r.log)
  judged_here (Ok N) f = (subst (λ l. IsJudged (opening_of r) l session reference C N) is (f (opening_of r) ran knows), stands)
  judged_here (Err e) f = tt

  pub turned_down_here : {T : Type 0} (result : Result T (Or ReplayCause))
      → IfRefused result (λ c. (O : Document) → Run O (author_list es session reference) (document_of d) → KnowsMakers O (commits_in es) r.makers → IsTurnedDown O es session reference C c)
      → IfRefused result (λ c. IsTurnedDown (opening_of r) r.log session reference C c × StandsAt t (opening_of r) r.log)
  turned_down_here (Ok N) f = tt
  turned_down_here (Err (Fault c)) f = (subst (λ l. IsTurnedDown (opening_of r) l session reference C c) is (f (opening_of r) ran knows), stands)
  turned_down_here (Err NoMemory) f = tt

-- ## What is entered

-- a message without a commit
pub plain_entered : (r s : Replay) (m : Message) (body : Body) → IsValid (opening_of r) r.log m → IsBodyOf (opening_of r) r.log m.session m.said body → ComesOut (opening_of r) r.log body None → GoesOnBy r m.session body s → IsEntered r m None s
plain_entered r s m body valid is out goes = (log_with r.log m.session body, record { valid = valid; body = body; says = is; after = refl; verdict = out }, goes)

-- a commit
module _ (r s : Replay) (m : Message) (none : refused_by_log r.log m ≡ None) (reference : ℕ) (ids : IdRange) (C : Change) (says : m.said ≡ said.Commit reference ids (Some C)) where
  pub commit_entered : (t : Replay) (N : Intent) (v : Verdict) → StandsAt t (opening_of r) r.log → IsJudged (opening_of r) r.log m.session reference C N → IsVerdict (document_of t.doc) N v
      → GoesOnBy t m.session (Commit reference ids N) s → IsEntered r m (Some v) s
  commit_entered t N v h judged is goes = (
    log_with r.log m.session (Commit reference ids N),
    record {
      valid = change_valid (opening_of r) r.log m none reference ids C says N judged;
      body = Commit reference ids N;
      says = change_says (opening_of r) r.log m none reference ids C says N judged;
      after = refl;
      verdict = record { document = document_of t.doc; ran = h.document.ran; verdict = v; is = is; told = refl };
    },
    subst (λ (D : Document). StandsAt s D (log_with r.log m.session (Commit reference ids N))) h.authors.opened (subst (λ es. StandsAt s (opening_of t) (log_with es m.session (Commit reference ids N))) h.entries goes),
  )

  pub change_refused : (c : ReplayCause) → IsTurnedDown (opening_of r) r.log m.session reference C c → StandsAt s (opening_of r) r.log → IsRefused r m c s
  change_refused c down stands = (turned_down (opening_of r) r.log m none reference ids C says c down, stands)
