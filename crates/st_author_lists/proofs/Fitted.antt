-- Where each commit was written: a document that it fits, and the change that it is there.
use Rattle.std.proofs.Common.{◌≡◌, ℕ, true, List, [], ◌∷◌, ◌++◌, take, Some, sym, ap, ◌∙◌, subst, append_assoc}
use Rattle.std.specs.List.{slice_get}
use Rattle.std.proofs.lemmas.List.{append-nil}
use Rattle.st_clusters.specs.declared.ids.IdRange.{IdRange}
use Rattle.st_ids.specs.Listing.{Has}
use Rattle.st_marks.specs.declared.intents.Intent.{Intent}
use Rattle.st_marks.specs.Document.{Document}
use Rattle.st_marks.proofs.Members.{all-has}
use Rattle.st_log_laws.proofs.Turns.{front, has_run, rest, turn_extends}
use Rattle.st_script.specs.Header.{HeaderView}
use Rattle.st_lists.specs.Clients.{received_by}
use Rattle.st_lists.specs.Log.{commits_of_text, intents_of}
use Rattle.st_lists.specs.declared.lists.Body.{Body}
use Rattle.st_lists.specs.declared.lists.Body.TheVariants.{Commit}
use Rattle.st_lists.specs.declared.lists.Client.{Client}
use Rattle.st_lists.specs.declared.lists.Entry.{Entry}
use Rattle.st_lists.specs.declared.lists.WorldState.{WorldState}
use Rattle.st_lists.proofs.Logs.{text_first}
use Rattle.st_valid.specs.Author.{author_list}
use Rattle.st_world.specs.World.{opening_document}
use Rattle.st_world_laws.specs.Worlds.{IsClient, IsHeader, IsWorld}
use Rattle.st_world_laws.proofs.Begun.{IsStart, opened_start}
use Rattle.st_world_laws.proofs.TextsExist.{has_change}
use Rattle.st_author_lists.specs.Authors.{AreAuthored, FitAuthors, FitsAuthor, IsAuthored, IsWritten}
use Rattle.st_author_lists.proofs.Going.{writer}
use Rattle.st_author_lists.proofs.Written.{writes_over}

-- what a client of a world writes over
pub shown_list : (h : HeaderView) (w : WorldState) (c : Client) → IsWorld h w → Has w.clients c → c.connected ≡ true → author_list w.log c.session c.received ++ intents_of c.queue ≡ received_by w.log c ++ c.pending
shown_list h w c world there on = writes_over w.log c (writer h w.log c (all-has (IsClient h w.log) w.clients c world.clients there)) on

-- a commit that fits its author's list was written where that leads
written : (O : Document) → IsStart O → (log : List Entry) (s r : ℕ) (before : List Intent) (N : Intent) → FitsAuthor O log s r before N → IsWritten O (author_list log s r ++ before) N
written O st log s r before N x =
    let Ns = author_list log s r ++ before in
    let fit = front Ns (N ∷ []) O x.fit in
    let run = has_run Ns O st.sound fit in
    let sound = (turn_extends st.sound fit run.1).after in
    let change = has_change run.0 sound N in
    record { author = run.0; stands = run.1; sound = sound; fits = (rest (N ∷ []) run.1 x.fit).0; change = change.0; embeds = change.1 }

-- a text behind others that wait
text_behind : (O : Document) (log : List Entry) (s : ℕ) (before : List Intent) (texts : List Body) (text : Body) (later : List Body) → AreAuthored O log s before (texts ++ text ∷ later) → IsAuthored O log s (before ++ intents_of texts) text
text_behind O log s before [] text later x = subst (λ l. IsAuthored O log s l text) (sym (append-nil before)) x.0
text_behind O log s before (q ∷ qs) text later x =
    subst (λ l. IsAuthored O log s l text) (append_assoc before (commits_of_text q) (intents_of qs) ∙ ap (λ l. before ++ l) (sym (text_first q qs))) (text_behind O log s (before ++ commits_of_text q) qs text later x.1)

module _ (h : HeaderView) (w : WorldState) (k : IsHeader h) (f : FitAuthors h w) where
  abbrev O : Document
  O = opening_document h

  st : IsStart O
  st = opened_start h k

  pub logged_written : (i : ℕ) (e : Entry) (reference : ℕ) (ids : IdRange) (N : Intent) → slice_get w.log i ≡ Some e → e.body ≡ Commit reference ids N → IsWritten O (author_list (take i w.log) e.session reference) N
  logged_written i e reference ids N at is =
      let A = author_list (take i w.log) e.session reference in
      let x = subst (IsAuthored O (take i w.log) e.session []) is (f.log i e at) in
      subst (λ Ns. IsWritten O Ns N) (append-nil A) (written O st (take i w.log) e.session reference [] N x)

  pub waiting_written : (c : Client) (before later : List Body) (reference : ℕ) (ids : IdRange) (N : Intent) → Has w.clients c → c.queue ≡ before ++ Commit reference ids N ∷ later → IsWritten O (author_list w.log c.session reference ++ intents_of before) N
  waiting_written c before later reference ids N there is =
      let queue = all-has (λ (d : Client). AreAuthored O w.log d.session [] d.queue) w.clients c f.waiting there in
      written O st w.log c.session reference (intents_of before) N (text_behind O w.log c.session [] before (Commit reference ids N) later (subst (AreAuthored O w.log c.session []) is queue))
