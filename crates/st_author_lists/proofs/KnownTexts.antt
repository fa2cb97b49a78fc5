-- Of which texts in a client's queue a change is known.
use Rattle.std.proofs.Common.{◌≡◌, ◌≢◌, ◌≤◌, ℕ, zero, suc, Bool, true, false, cond, List, [], ◌∷◌, ◌++◌, take, Option, Some, None, refl, sym, ap, ◌∙◌, subst, append_assoc, append-nil, inl, inr}
use Rattle.std.specs.List.{AllByRecursion, cons_option, slice_get}
use Rattle.st_ids.specs.Listing.{AreDistinct, Has}
use Rattle.st_ids.specs.declared.names.Rev.{Rev}
use Rattle.st_known_changes.specs.Known.{AreKnownTexts, IsKnownIn, IsKnownText}
use Rattle.st_known_changes.proofs.Known.{text_more}
use Rattle.st_lists.specs.Clients.{ids_from, queue_with, texts_from, with_commit}
use Rattle.st_lists.specs.Lines.{own_of, with_commits_on}
use Rattle.st_lists.specs.Log.{commit_in, commit_of, commits_in, commits_of_text, intents_of, log_and_waiting, waiting}
use Rattle.st_lists.specs.declared.lists.Body.{Body}
use Rattle.st_lists.specs.declared.lists.Body.TheVariants.{Join, Leave, Ack, Commit}
use Rattle.st_lists.specs.declared.lists.Client.{Client}
use Rattle.st_lists.specs.declared.lists.Entry.{Entry}
use Rattle.st_lists.proofs.Logs.{texts_append}
use Rattle.st_log_laws.specs.Names.{revisions}
use Rattle.st_marks.specs.Document.{Document}
use Rattle.st_marks.specs.declared.changes.Change.{Change}
use Rattle.st_marks.specs.declared.intents.Intent.{Intent}
use Rattle.st_marks.proofs.Members.{all-has, append_left, append_right, distinct-between, distinct-left, has-append, has-map, map-has}
use Rattle.st_script.specs.Header.{HeaderView}
use Rattle.st_world_laws.specs.Worlds.{IsClient, IsQueue}
use Rattle.st_author_lists.specs.KnownChanges.{IsKnownTo}

-- ## Revisions

abbrev rev_of : Intent → Rev
rev_of N = N.rev

-- a revision is among those of a list that has more
pub rev_more : (Ns Ms Ls : List Intent) (r : Rev) → Has (revisions (Ns ++ Ls)) r → Has (revisions ((Ns ++ Ms) ++ Ls)) r
rev_more Ns Ms Ls r h =
    let x = has-map rev_of (Ns ++ Ls) r h in
    subst (Has (revisions ((Ns ++ Ms) ++ Ls))) x.2 (map-has rev_of ((Ns ++ Ms) ++ Ls) x.0 (elim (has-append Ns Ls x.0 x.1) [ inl i ↦ append_left (Ns ++ Ms) Ls x.0 (append_left Ns Ms x.0 i) | inr i ↦ append_right (Ns ++ Ms) Ls x.0 i ]))

rev_behind : (Ns Ms : List Intent) (r : Rev) → Has (revisions Ns) r → Has (revisions (Ns ++ Ms)) r
rev_behind Ns Ms r h =
    let x = has-map rev_of Ns r h in
    subst (Has (revisions (Ns ++ Ms))) x.2 (map-has rev_of (Ns ++ Ms) x.0 (append_left Ns Ms x.0 x.1))

-- one of a later commit isn't among those before
pub not_before : (Ns Ms : List Intent) (N : Intent) (r : Rev) → AreDistinct rev_of (Ns ++ N ∷ Ms) → Has (revisions Ns) r → N.rev ≡ r → ⊥
not_before Ns Ms N r once h is =
    let x = has-map rev_of Ns r h in
    distinct-between rev_of Ns (N ∷ Ms) x.0 N once x.1 (inl refl) (is ∙ sym x.2)

-- ## Texts of which nothing is said

module _ (O : Document) (log : List Entry) (s : ℕ) (r : Rev) (n : ℕ) (C : Change) where
  -- none is of the revision
  pub none_known : (before : List Intent) (texts : List Body) → ((M : Intent) → Has (intents_of texts) M → M.rev ≡ r → ⊥) → AreKnownTexts O log s before r n C texts
  none_known before [] none = tt
  none_known before (text ∷ texts) none = (first text none, none_known (before ++ commits_of_text text) texts (λ M there. none M (behind text M there)))
    where
      behind : (text : Body) (M : Intent) → Has (intents_of texts) M → Has (intents_of (text ∷ texts)) M
      behind (Join uuid) M there = there
      behind Leave M there = there
      behind (Ack reference) M there = there
      behind (Commit reference ids N) M there = inr there

      first : (text : Body) → ((M : Intent) → Has (intents_of (text ∷ texts)) M → M.rev ≡ r → ⊥) → IsKnownText O log s before r n C text
      first (Join uuid) none = tt
      first Leave none = tt
      first (Ack reference) none = tt
      first (Commit reference ids N) none = λ is at. absurd (none N (inl refl) is)

  -- they are written anew, at another reference
  pub anew_known : (m taken ids : ℕ) (before Ns : List Intent) → (m ≡ n → ⊥) → AreKnownTexts O log s before r n C (texts_from m s taken ids Ns)
  anew_known m taken ids before [] other = tt
  anew_known m taken ids before (N ∷ Ns) other = (λ is at. absurd (other at), anew_known m ids ids (before ++ N ∷ []) Ns other)

-- nor of an entry, where none of a log is of the revision
pub none_logged : (O : Document) (log : List Entry) (r : Rev) (n : ℕ) (C : Change) → ((M : Intent) → Has (commits_in log) M → M.rev ≡ r → ⊥) → IsKnownIn O log r n C
none_logged O log r n C none i e at = go e.body refl
  where
    among : (es : List Entry) (i : ℕ) (N : Intent) → slice_get es i ≡ Some e → commit_of e ≡ Some N → Has (commits_in es) N
    among [] i N at is = cc
    among (x ∷ es) zero N at is =
        let same : x ≡ e = cc in
        subst (λ o. Has (cons_option o (commits_in es)) N) (sym (ap commit_of same ∙ is)) (inl refl)
    among (x ∷ es) (suc i) N at is = past (commit_of x) (among es i N at is)
      where
        past : (o : Option Intent) → Has (commits_in es) N → Has (cons_option o (commits_in es)) N
        past None h = h
        past (Some M) h = inr h

    go : (b : Body) → e.body ≡ b → IsKnownText O (take i log) e.session [] r n C b
    go (Join uuid) is = tt
    go Leave is = tt
    go (Ack reference) is = tt
    go (Commit reference ids N) is = λ rev n_is. absurd (none N (among log i N at (ap commit_in is)) rev)

-- ## A client's queue

abbrev text_of : Client → Intent → Body
text_of c N = Commit c.received (ids_from c.session c.taken c.ids) N

queue_more : (b : Bool) (texts : List Body) (text : Body) → b ≡ true → intents_of (cond b (texts ++ text ∷ []) texts) ≡ intents_of texts ++ commits_of_text text
queue_more true texts text on = texts_append texts (text ∷ [])
queue_more false texts text on = cc

connected_on : (Ns : List Intent) (c : Client) → (with_commits_on c 0 Ns).connected ≡ c.connected
connected_on [] c = refl
connected_on (N ∷ Ns) c = connected_on Ns (with_commit c N)

session_on : (Ns : List Intent) (c : Client) → (with_commits_on c 0 Ns).session ≡ c.session
session_on [] c = refl
session_on (N ∷ Ns) c = session_on Ns (with_commit c N)

queue_on : (Ns : List Intent) (c : Client) → c.connected ≡ true → intents_of (with_commits_on c 0 Ns).queue ≡ intents_of c.queue ++ Ns
queue_on [] c on = sym (append-nil (intents_of c.queue))
queue_on (N ∷ Ns) c on = queue_on Ns (with_commit c N) on ∙ ap (λ l. l ++ Ns) (queue_more c.connected c.queue (text_of c N) on) ∙ append_assoc (intents_of c.queue) (N ∷ []) Ns

-- commits that may come behind those in the queue of a client that is connected: they are of its session, and no revision is
-- there twice
pub record AreNew (log : List Entry) (c : Client) (Ns : List Intent) : Type 0 where
  pub once : c.connected ≡ true → AreDistinct rev_of ((commits_in log ++ intents_of c.queue) ++ Ns)
  pub own : c.connected ≡ true → AllByRecursion (λ (N : Intent). N.rev.session ≡ c.session) Ns

others_new : (log : List Entry) (c : Client) (N : Intent) (Ns : List Intent) → AreNew log c (N ∷ Ns) → AreNew log (with_commit c N) Ns
others_new log c N Ns fresh = record {
  once = λ on.
      let A = commits_in log in
      let B = intents_of c.queue in
      let same : (A ++ B) ++ N ∷ Ns ≡ (A ++ intents_of (queue_with c (text_of c N))) ++ Ns = sym (append_assoc (A ++ B) (N ∷ []) Ns) ∙ ap (λ l. l ++ Ns) (append_assoc A B (N ∷ []) ∙ ap (λ l. A ++ l) (sym (queue_more c.connected c.queue (text_of c N) on))) in
      subst (AreDistinct rev_of) same (fresh.once on);
  own = λ on. (fresh.own on).1;
}

module _ (O : Document) (log : List Entry) (r : Rev) (n : ℕ) (C : Change) where
  abbrev Knows : Client → Type 0
  Knows c = IsKnownTo O log r n C c

  -- of one that has the same queue it is known
  pub same_known : (c d : Client) → d.session ≡ c.session → d.received ≡ c.received → d.connected ≡ c.connected → d.queue ≡ c.queue → Knows c → Knows d
  same_known c d session received connected queue x = record {
    passed = λ own. subst (λ k. n ≤ k) (sym received) (x.passed (sym session ∙ own));
    written = λ own on at. subst (λ l. Has (revisions (commits_in log ++ intents_of l)) r) (sym queue) (x.written (sym session ∙ own) (sym connected ∙ on) (sym received ∙ at));
    waiting = subst (λ k. AreKnownTexts O log k [] r n C d.queue) (sym session) (subst (AreKnownTexts O log c.session [] r n C) (sym queue) x.waiting);
  }

  -- one of them comes
  one_known : (c : Client) (N : Intent) (Ns : List Intent) → AreNew log c (N ∷ Ns) → Knows c → Knows (with_commit c N)
  one_known c N Ns fresh x = record {
    passed = x.passed;
    written = λ own on at.
        subst (λ l. Has (revisions (commits_in log ++ l)) r) (sym (queue_more c.connected c.queue (text_of c N) on))
        (subst (λ l. Has (revisions l) r) (append_assoc (commits_in log) (intents_of c.queue) (N ∷ [])) (rev_behind (commits_in log ++ intents_of c.queue) (N ∷ []) r (x.written own on at)));
    waiting = go c.connected refl;
  }
    where
      go : (b : Bool) → c.connected ≡ b → AreKnownTexts O log c.session [] r n C (cond b (c.queue ++ text_of c N ∷ []) c.queue)
      go false off = x.waiting
      go true on =
          text_more O r n C log c.session [] c.queue (text_of c N) x.waiting
          (λ is at. absurd (not_before (commits_in log ++ intents_of c.queue) Ns N r (fresh.once on) (x.written (sym (fresh.own on).0 ∙ ap (λ (q : Rev). q.session) is) on at) is))

  -- all of them do
  all_known : (c : Client) (Ns : List Intent) → AreNew log c Ns → Knows c → Knows (with_commits_on c 0 Ns)
  all_known c [] fresh x = x
  all_known c (N ∷ Ns) fresh x = all_known (with_commit c N) Ns (others_new log c N Ns fresh) (one_known c N Ns fresh x)

-- ## Commits of a client of a world

-- what waits of a client that is connected is in its queue
pub queued : (h : HeaderView) (log : List Entry) (c : Client) → IsClient h log c → c.connected ≡ true → intents_of c.queue ≡ waiting log c
queued h log c k on = subst (λ b. IsQueue (waiting log c) b c.queue) on k.queued

-- no revision is there twice of the log and its queue
pub once_queued : (h : HeaderView) (log : List Entry) (c : Client) → IsClient h log c → c.connected ≡ true → AreDistinct rev_of (commits_in log ++ intents_of c.queue)
once_queued h log c k on = subst (λ l. AreDistinct rev_of (commits_in log ++ l)) (sym (queued h log c k on)) (distinct-left rev_of (log_and_waiting log c) (own_of c.branches) k.new.once)

pub own_queued : (h : HeaderView) (log : List Entry) (c : Client) → IsClient h log c → c.connected ≡ true → AllByRecursion (λ (N : Intent). N.rev.session ≡ c.session) (intents_of c.queue)
own_queued h log c k on = subst (AllByRecursion (λ (N : Intent). N.rev.session ≡ c.session)) (sym (queued h log c k on)) k.own

back_part : (P : Intent → Type 0) (Ns Ms : List Intent) → AllByRecursion P (Ns ++ Ms) → AllByRecursion P Ms
back_part P [] Ms x = x
back_part P (N ∷ Ns) Ms x = back_part P Ns Ms x.1

-- what comes behind a client's queue is new, where it is that of a client of a world then
pub new_behind : (h : HeaderView) (log : List Entry) (c : Client) (Ns : List Intent) → IsClient h log (with_commits_on c 0 Ns) → AreNew log c Ns
new_behind h log c Ns k = record {
  once = λ on.
      let d = with_commits_on c 0 Ns in
      let same : commits_in log ++ intents_of d.queue ≡ (commits_in log ++ intents_of c.queue) ++ Ns = ap (λ l. commits_in log ++ l) (queue_on Ns c on) ∙ sym (append_assoc (commits_in log) (intents_of c.queue) Ns) in
      subst (AreDistinct rev_of) same (once_queued h log d k (connected_on Ns c ∙ on));
  own = λ on.
      let d = with_commits_on c 0 Ns in
      back_part (λ (N : Intent). N.rev.session ≡ c.session) (intents_of c.queue) Ns
      (subst (λ m. AllByRecursion (λ (N : Intent). N.rev.session ≡ m) (intents_of c.queue ++ Ns)) (session_on Ns c) (subst (AllByRecursion (λ (N : Intent). N.rev.session ≡ d.session)) (queue_on Ns c on) (own_queued h log d k (connected_on Ns c ∙ on))));
}

-- so of the client with these commits a change is known still
pub takes_known : (h : HeaderView) (O : Document) (log : List Entry) (r : Rev) (n : ℕ) (C : Change) (c : Client) (Ns : List Intent) → IsClient h log (with_commits_on c 0 Ns) → IsKnownTo O log r n C c → IsKnownTo O log r n C (with_commits_on c 0 Ns)
takes_known h O log r n C c Ns k x = all_known O log r n C c Ns (new_behind h log c Ns k) x

-- of a client of another session than the revision's it is known
pub other_known : (h : HeaderView) (O : Document) (log : List Entry) (r : Rev) (n : ℕ) (C : Change) (c : Client) → IsClient h log c → c.session ≢ r.session → IsKnownTo O log r n C c
other_known h O log r n C c k other = record {
  passed = λ own. absurd (other own);
  written = λ own on at. absurd (other own);
  waiting = go c.connected refl k.queued;
}
  where
    go : (b : Bool) → c.connected ≡ b → IsQueue (waiting log c) b c.queue → AreKnownTexts O log c.session [] r n C c.queue
    go false off q = subst (AreKnownTexts O log c.session [] r n C) (sym q) tt
    go true on q =
        none_known O log c.session r n C [] c.queue
        (λ M there is. other (sym (all-has (λ (N : Intent). N.rev.session ≡ c.session) (intents_of c.queue) M (own_queued h log c k on) there) ∙ ap (λ (q : Rev). q.session) is))
