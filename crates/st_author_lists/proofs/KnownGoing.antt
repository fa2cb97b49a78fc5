-- A change that is known stays known, whatever a step leads to.
use Rattle.std.proofs.Common.{◌≡◌, ◌≢◌, ◌+◌, ◌==◌, ℕ, zero, suc, Bool, true, false, cond, List, [], ◌∷◌, ◌++◌, length, length-append, nat_le, Option, Some, None, Result, Ok, Err, refl, sym, ap, ◌∙◌, subst, arith, append_assoc}
use Rattle.std.specs.List.{AllByRecursion, remove as remove_at, slice_get, slice_set}
use Rattle.std.specs.Option.{option_and_then}
use Rattle.std.specs.Prelude.{option_map}
use Rattle.std.proofs.lemmas.List.{append-nil}
use Rattle.st_ids.specs.declared.names.Limit.{Limit}
use Rattle.st_ids.specs.declared.names.LimitOf.TheVariants.{Clients, Log}
use Rattle.st_ids.specs.declared.names.Rev.{Rev}
use Rattle.st_ids.specs.Listing.{Has}
use Rattle.st_ids.proofs.Shared.{at_has}
use Rattle.st_known_changes.specs.Known.{AreKnownTexts, IsKnownText}
use Rattle.st_known_changes.proofs.Known.{log_known, rest_known, text_more, texts_beside}
use Rattle.st_log_laws.specs.Names.{revisions}
use Rattle.st_marks.specs.declared.changes.Change.{Change}
use Rattle.st_lemmas.proofs.Lists.{AllByRecursion-append}
use Rattle.st_tree.specs.declared.edit.EditFault.{EditFault}
use Rattle.st_marks.specs.declared.intents.Intent.{Intent}
use Rattle.st_marks.specs.Document.{Document}
use Rattle.st_marks.proofs.Members.{all-has}
use Rattle.st_edits.specs.InEffect.{last_in_effect, schema_in_effect}
use Rattle.st_edits.specs.Resolve.{need}
use Rattle.st_script.specs.Header.{HeaderView}
use Rattle.st_script.specs.Steps.{ActView, EditView, StepView}
use Rattle.st_script.specs.Steps as step
use Rattle.st_script.specs.declared.answer.Answer.{Answer}
use Rattle.st_script.specs.declared.answer.Answer.TheVariants.{Ack as Acked, DropBranch, No}
use Rattle.st_script.specs.declared.refusal.Refusal.{Refusal}
use Rattle.st_script.specs.declared.refusal.Refusal.TheVariants.{Clash, HasChildren, NoClient, NothingToSend}
use Rattle.st_lists.specs.Clients.{carried_of, new_client, new_transaction, next_rev, place_of, with_ack, with_connection, with_id, with_new_commit, without_connection}
use Rattle.st_lists.specs.Limits.{entries_limit_passed, limit_passed, log_limit_passed, names_limit_passed, own_limit_passed}
use Rattle.st_lists.specs.Lines.{Line, branch_of, commits_of, has_children, line_of, main_line, with_base, with_commit_on, with_commits_on, with_transaction_on, without_branch}
use Rattle.st_lists.specs.Log.{clashes, commit_in, commits_by, commits_in, commits_of_text, intents_of, log_with, sessions_in, waiting}
use Rattle.st_lists.specs.Names.{names_in_text}
use Rattle.st_lists.specs.declared.lists.Body.{Body}
use Rattle.st_lists.specs.declared.lists.Body.TheVariants.{Ack, Join, Leave}
use Rattle.st_lists.specs.declared.lists.Branch.{Branch}
use Rattle.st_lists.specs.declared.lists.Client.{Client}
use Rattle.st_lists.specs.declared.lists.Entry.{Entry}
use Rattle.st_lists.specs.declared.lists.Transaction.{Transaction}
use Rattle.st_lists.specs.declared.lists.WorldState.{WorldState}
use Rattle.st_lists.proofs.Logs.{by_none, by_other, entered_commits, last_entry, text_first, texts_append}
use Rattle.st_lists.proofs.Present.{all_rest, are_apart, sessions_entered, set_here}
use Rattle.st_world.specs.Branches.{IsMerged, IsRebased, drop_branch, fork, refusal_to_fork, refusal_to_merge, refusal_to_rebase}
use Rattle.st_world.specs.Kept.{Unless}
use Rattle.st_world.specs.Undo.{IsAfterUndo, IsUndone, IsUndoneAt, refusal_of_rev, refusal_over}
use Rattle.st_world.specs.Upgrade.{change_of_schema, refusal_to_upgrade, upgrade}
use Rattle.st_world.specs.World.{AtClient, ByConnected, IsActOf, IsAfterEdit, IsAfterNeed, IsDeliveredIn, IsEditedIn, IsJoined, IsNext, OnLine, OnOwnBranch, OnParent, abort, act_of_none, after_commit, after_edit, after_entry, begin, branch_at, commit, drop_client, enter, intent_of, join, leave, limit_refusal, needs_connection, next_names, opening_document, reconnect, refusal_to_reconnect, sequence, uuid_for, with_beginning, with_client, with_new_on, word_of}
use Rattle.st_world.specs.declared.edit_word.EditWord.{EditWord}
use Rattle.st_world_laws.specs.Worlds.{HaveOwnSessions, IsClient, IsWorld, KeepsRules}
use Rattle.st_world_laws.proofs.Everyone.{all_as, all_get, all_set, others_apart}
use Rattle.st_world_laws.proofs.GoingOn.{goes_on}
use Rattle.st_author_lists.specs.KnownChanges.{IsKnownChange, IsKnownTo}
use Rattle.st_author_lists.proofs.Going.{queue_on_branch, received_on, session_on}
use Rattle.st_author_lists.proofs.KnownTexts.{anew_known, rev_more, same_known, takes_known}

-- a client that takes commits on a branch is connected as before
connected_on : (Ns : List Intent) (c : Client) (k : ℕ) → (with_commits_on c k Ns).connected ≡ c.connected
connected_on [] c k = refl
connected_on (N ∷ Ns) c zero = connected_on Ns (with_commit_on c zero N) zero
connected_on (N ∷ Ns) c (suc k) = connected_on Ns (with_commit_on c (suc k) N) (suc k)

module _ (h : HeaderView) (r : Rev) (n : ℕ) (C : Change) (w : WorldState) (s : IsWorld h w) (f : IsKnownChange h w r n C) (v : WorldState) (a : Answer) (t : IsWorld h v) where
  abbrev O : Document
  O = opening_document h

  -- a change is known of the texts in a client's queue
  abbrev Knows : List Entry → Client → Type 0
  Knows log c = IsKnownTo O log r n C c

  -- of an entry that comes it is known, and of each client
  log_after : (session : ℕ) (body : Body) (cs : List Client) → IsKnownText O w.log session [] r n C body → AllByRecursion (Knows (log_with w.log session body)) cs → IsKnownChange h (record { log = log_with w.log session body; clients = cs }) r n C
  log_after session body cs told clients = record {
    within = omega (arith, f.within, length-append w.log (last_entry w.log session body ∷ []));
    given = omega (arith, f.given, sessions_entered w.log session body);
    logged = log_known O r n C w.log session body f.logged told;
    clients = clients;
  }

  -- the entries that come leave what was written
  written_on : (session : ℕ) (body : Body) (d : Client) → Has (revisions (commits_in w.log ++ intents_of d.queue)) r → Has (revisions (commits_in (log_with w.log session body) ++ intents_of d.queue)) r
  written_on session body d x = subst (λ l. Has (revisions (l ++ intents_of d.queue)) r) (sym (entered_commits w.log session body)) (rev_more (commits_in w.log) (commits_of_text body) (intents_of d.queue) r x)

  -- an entry comes, none of the commits of a client: what it has waiting stays known
  beside_entry : (session : ℕ) (body : Body) (d : Client) → commits_by d.session (last_entry w.log session body ∷ []) ≡ [] → Knows w.log d → Knows (log_with w.log session body) d
  beside_entry session body d none x = record {
    passed = x.passed;
    written = λ own on at. written_on session body d (x.written own on at);
    waiting = texts_beside O r n C w.log (last_entry w.log session body ∷ []) d.session d.queue f.within none x.waiting;
  }

  -- where the lists stay
  kept : v ≡ w → IsKnownChange h v r n C
  kept e = subst (λ (u : WorldState). IsKnownChange h u r n C) (sym e) f

  as_told : (p : WorldState × Answer) → p ≡ (v, a) → IsKnownChange h p.0 r n C → IsKnownChange h v r n C
  as_told p e x = subst (λ (u : WorldState). IsKnownChange h u r n C) (ap (λ (q : WorldState × Answer). q.0) e) x

  -- an entry comes that has no commit: what all others have waiting stays
  beside_none : (session : ℕ) (body : Body) → commit_in body ≡ None → (d : Client) → Knows w.log d → Knows (log_with w.log session body) d
  beside_none session body none d x = beside_entry session body d (by_none d.session (last_entry w.log session body) [] none) x

  all_beside : (session : ℕ) (body : Body) → commit_in body ≡ None → AllByRecursion (Knows (log_with w.log session body)) w.clients
  all_beside session body none = all_as (Knows w.log) (Knows (log_with w.log session body)) w.clients (beside_none session body none) f.clients

  module _ (i : ℕ) (c : Client) (at : slice_get w.clients i ≡ Some c) where
    mine : Knows w.log c
    mine = all_get (Knows w.log) w.clients i c f.clients at

    k : IsClient h w.log c
    k = all_get (IsClient h w.log) w.clients i c s.clients at

    -- where the client at the place goes on
    abbrev Goes : Client → Type 0
    Goes d = IsClient h w.log d → Knows w.log d

    now : (d : Client) → Goes d → v ≡ record w { clients = slice_set w.clients i d } → IsKnownChange h v r n C
    now d x e =
        let there : IsWorld h (record w { clients = slice_set w.clients i d }) = subst (IsWorld h) e t in
        let client = all-has (IsClient h w.log) (slice_set w.clients i d) d there.clients (set_here w.clients i c d at) in
        subst (λ (u : WorldState). IsKnownChange h u r n C) (sym e) (record { within = f.within; given = f.given; logged = f.logged; clients = all_set (Knows w.log) w.clients i d f.clients (x client) })

    now_as : (p : Client × Answer) → Goes p.0 → with_client w i p ≡ (v, a) → IsKnownChange h v r n C
    now_as p x e = now p.0 x (sym (ap (λ (q : WorldState × Answer). q.0) e))

    like : (d e : Client) → e.session ≡ d.session → e.received ≡ d.received → e.connected ≡ d.connected → e.queue ≡ d.queue → Knows w.log d → Knows w.log e
    like d e session received connected queue x = same_known O w.log r n C d e session received connected queue x

    -- it is so with one id more
    counted : Knows w.log (with_id c)
    counted = like c (with_id c) refl refl refl refl mine

    same : (d : Client) → d ≡ c → Goes d
    same d e client = subst (Knows w.log) (sym e) mine

    -- the client that is told is this one
    told : (p : Client × Answer) (d : Client) (b : Answer) → p ≡ (d, b) → Goes p.0 → Goes d
    told p d b e x = subst Goes (ap (λ (q : Client × Answer). q.0) e) x

    -- ## On a line

    commits : (d : Client) → Knows w.log d → (j : ℕ) (N : Intent) → Goes (with_commit_on d j N)
    commits d y zero N client = takes_known h O w.log r n C d (N ∷ []) client y
    commits d y (suc j) N client = like d (with_commit_on d (suc j) N) refl refl refl refl y

    opened : (j : ℕ) (o : Option Transaction) → Knows w.log (with_transaction_on c j o)
    opened zero o = like c (with_transaction_on c zero o) refl refl refl refl mine
    opened (suc j) o = like c (with_transaction_on c (suc j) o) refl refl refl refl mine

    edited_in : (j : ℕ) (x : Transaction) (word : EditWord) (r : Result Intent EditFault) (d : Client) → IsEditedIn c j x word r d a → Goes d
    edited_in j x word (Err z) d y = same d y.0
    edited_in j x word (Ok M) d y = go (names_limit_passed c M) y
      where
        go : (o : Option Limit) → IsJoined c j x word M o d a → Goes d
        go (Some l) y = same d y.0
        go None y = λ client. subst (Knows w.log) (sym y.2) (opened j _)

    edited_as : (j : ℕ) (l : Line) (word : EditWord) (r : Result Intent EditFault) (d : Client) → after_edit c j l word r ≡ (d, a) → Goes d
    edited_as j l word (Err z) d e = same d (sym (ap (λ (p : Client × Answer). p.0) e))
    edited_as j l word (Ok N) d e = go (limit_passed c j l N) e
      where
        go : (o : Option Limit) → with_new_on c j word N o ≡ (d, a) → Goes d
        go (Some z) e = same d (sym (ap (λ (p : Client × Answer). p.0) e))
        go None e = told (with_new_on c j word N None) d a e (commits (with_id c) counted j N)

    edits : (j : ℕ) (l : Line) (o : Option Transaction) (word : EditWord) (r : Result Intent EditFault) (d : Client) → IsAfterEdit c j l o word r d a → Goes d
    edits j l None word r d y = edited_as j l word r d y
    edits j l (Some x) word r d y = edited_in j x word r d y

    needs : (j : ℕ) (o : Option Transaction) (r : Result Intent EditFault) (d : Client) → IsAfterNeed c j o r d a → Goes d
    needs j None r d y = same d y.0
    needs j (Some x) r d y = edited_in j x EditWord.Need r d y

    begun : (j : ℕ) (o : Option Transaction) → Knows w.log (record (with_transaction_on c j o) { ids = c.ids + 1 })
    begun zero o = like c _ refl refl refl refl mine
    begun (suc j) o = like c _ refl refl refl refl mine

    begins : (j : ℕ) (l : Line) (o : Option Transaction) (under : Rev) (d : Client) (b : Answer) → begin c j l o under ≡ (d, b) → Goes d
    begins j l (Some x) under d b e = same d (sym (ap (λ (p : Client × Answer). p.0) e))
    begins j l None under d b e = go (own_limit_passed j l 1) e
      where
        go : (o : Option Limit) → with_beginning c j under o ≡ (d, b) → Goes d
        go (Some z) e = same d (sym (ap (λ (p : Client × Answer). p.0) e))
        go None e = told (with_beginning c j under None) d b e (λ client. begun j (Some (new_transaction (next_rev c) under)))

    commits_edited : (j : ℕ) (o : Option Transaction) → Goes (commit c j o).0
    commits_edited j None = λ client. mine
    commits_edited j (Some x) = go x.joined
      where
        go : (o : Option Intent) → Goes (after_commit (with_transaction_on c j None) j x.rev o).0
        go None = λ client. opened j None
        go (Some N) = commits (with_transaction_on c j None) (opened j None) j N

    aborts : (j : ℕ) (o : Option Transaction) → Goes (abort c j o).0
    aborts j None client = mine
    aborts j (Some x) client = opened j None

    -- ## The client as a whole

    adds : (N : Intent) → Goes (with_new_commit c N)
    adds N = commits (with_id c) counted 0 N

    undoes : (history : ℕ) (o : Option Transaction) (rev : Rev) (d : Client) → IsAfterUndo O history w.log c o rev d a → Goes d
    undoes history (Some x) rev d y = same d y.0
    undoes history None rev d y = of_rev (refusal_of_rev history w.log c list rev) y
      where
        list : List Intent
        list = commits_of w.log (main_line c)

        of_commit : (o : Option Refusal) → Unless o c d a (IsUndone O list rev c d a) → Goes d
        of_commit (Some why) y = same d y.0
        of_commit None y = subst Goes (sym y.2) (adds y.0)

        of_rev : (o : Option Refusal) → Unless o c d a (IsUndoneAt O list rev c d a) → Goes d
        of_rev (Some why) y = same d y.0
        of_rev None y = of_commit (refusal_over y.2 y.0 c) y.4

    upgrades : (N : Intent) (o : Option Refusal) → Goes (upgrade c N o).0
    upgrades N None = adds N
    upgrades N (Some why) = λ client. mine

    acks : c.connected ≡ true → Goes (with_ack c)
    acks on client = record {
      passed = mine.passed;
      written = λ own is at. subst (λ l. Has (revisions (commits_in w.log ++ l)) r) (sym (texts_append c.queue (Ack c.received ∷ []) ∙ append-nil (intents_of c.queue))) (mine.written own is at);
      waiting = text_more O r n C w.log c.session [] c.queue (Ack c.received) mine.waiting tt;
    }

    delivers : (D : Document) (o : Option Transaction) (next : Option Entry) (d : Client) → IsDeliveredIn D c o next d a → Goes d
    delivers D (Some x) next d y = same d y.0
    delivers D None None d y = same d y.0
    delivers D None (Some e) d y = λ client. subst (Knows w.log) (sym y.2) (record {
      passed = λ own. omega (arith, mine.passed own);
      written = λ own on at. absurd (omega (arith, mine.passed own, at));
      waiting = mine.waiting;
    })

    -- ## The log

    sent : (texts : List Body) → c.queue ≡ texts → sequence w i c texts ≡ (v, a) → IsKnownChange h v r n C
    sent [] is e = as_told (w, No NothingToSend) e f
    sent (text ∷ rest) is e = go (log_limit_passed w.log (names_in_text text)) e
      where
        longer : List Entry
        longer = log_with w.log c.session text

        queue : AreKnownTexts O w.log c.session [] r n C (text ∷ rest)
        queue = subst (AreKnownTexts O w.log c.session [] r n C) is mine.waiting

        -- the commit that was written waits still, or is in the log
        stays : Has (revisions (commits_in w.log ++ intents_of c.queue)) r → Has (revisions (commits_in longer ++ intents_of rest)) r
        stays x =
            let first : commits_in w.log ++ intents_of c.queue ≡ commits_in w.log ++ (commits_of_text text ++ intents_of rest) = ap (λ l. commits_in w.log ++ l) (ap intents_of is ∙ text_first text rest) in
            let moved : commits_in w.log ++ (commits_of_text text ++ intents_of rest) ≡ commits_in longer ++ intents_of rest = sym (append_assoc (commits_in w.log) (commits_of_text text) (intents_of rest)) ∙ ap (λ l. l ++ intents_of rest) (sym (entered_commits w.log c.session text)) in
            subst (λ l. Has (revisions l) r) (first ∙ moved) x

        own_after : Knows longer (record c { queue = rest })
        own_after = record {
          passed = mine.passed;
          written = λ own on at. stays (mine.written own on at);
          waiting = rest_known O r n C w.log c.session text rest f.within queue;
        }

        other : (d : Client) → (c.session == d.session) ≡ false → Knows w.log d → Knows longer d
        other d apart x = beside_entry c.session text d (by_other d.session (last_entry w.log c.session text) [] apart) x

        others : (cs : List Client) → AllByRecursion (λ (x : Client). x.session ≢ c.session) cs → AllByRecursion (Knows w.log) cs → AllByRecursion (Knows longer) cs
        others [] apart x = tt
        others (d ∷ cs) apart x = (other d (are_apart c.session d.session apart.0) x.0, others cs apart.1 x.1)

        all : (cs : List Client) (j : ℕ) → HaveOwnSessions cs → slice_get cs j ≡ Some c → AllByRecursion (Knows w.log) cs → AllByRecursion (Knows longer) (slice_set cs j (record c { queue = rest }))
        all [] j own there x = tt
        all (d ∷ cs) zero own there x =
            let is_it : d ≡ c = cc in
            (own_after, others cs (subst (λ (y : Client). AllByRecursion (λ (z : Client). z.session ≢ y.session) cs) is_it own.0) x.1)
        all (d ∷ cs) (suc j) own there x = (other d (others_apart cs d c own.0 (at_has cs j c there)) x.0, all cs j own.1 there x.1)

        go : (o : Option Limit) → after_entry w i c text rest o ≡ (v, a) → IsKnownChange h v r n C
        go (Some l) e = as_told (w, limit_refusal l) e f
        go None e = as_told (after_entry w i c text rest None) e (log_after c.session text (slice_set w.clients i (record c { queue = rest })) queue.0 (all w.clients i s.sessions at f.clients))

    left : leave w i c (entries_limit_passed w.log) ≡ (v, a) → IsKnownChange h v r n C
    left e = go (entries_limit_passed w.log) e
      where
        go : (o : Option Limit) → leave w i c o ≡ (v, a) → IsKnownChange h v r n C
        go (Some l) e = as_told (w, limit_refusal l) e f
        go None e = as_told (leave w i c None) e (log_after c.session Leave (remove_at w.clients i) tt (all_rest (Knows (log_with w.log c.session Leave)) w.clients i (all_beside c.session Leave refl)))

    dropped : drop_client w i c (entries_limit_passed w.log) ≡ (v, a) → IsKnownChange h v r n C
    dropped e = go (entries_limit_passed w.log) e
      where
        out : Knows (log_with w.log c.session Leave) (without_connection c)
        out = record { passed = mine.passed; written = λ own on at. absurd (cc); waiting = tt }

        go : (o : Option Limit) → drop_client w i c o ≡ (v, a) → IsKnownChange h v r n C
        go (Some l) e = as_told (w, limit_refusal l) e f
        go None e = as_told (drop_client w i c None) e (log_after c.session Leave (slice_set w.clients i (without_connection c)) tt (all_set (Knows (log_with w.log c.session Leave)) w.clients i (without_connection c) (all_beside c.session Leave refl) out))

    returned : reconnect w i c (refusal_to_reconnect w.log c) ≡ (v, a) → IsKnownChange h v r n C
    returned e = go (refusal_to_reconnect w.log c) e
      where
        longer : List Entry
        longer = log_with w.log c.session (Join c.uuid)

        d : Client
        d = with_connection w.log c

        anew : Knows longer d
        anew = record {
          passed = λ own. omega (arith, f.within);
          written = λ own on at. absurd (omega (arith, f.within, at));
          waiting = anew_known O longer c.session r n C (length w.log + 1) (carried_of w.log c) c.ids [] (waiting w.log c) (λ at. omega (arith, f.within, at));
        }

        go : (o : Option Refusal) → reconnect w i c o ≡ (v, a) → IsKnownChange h v r n C
        go (Some why) e = as_told (w, No why) e f
        go None e =
            as_told (reconnect w i c None) e (log_after c.session (Join c.uuid) (slice_set w.clients i d) tt (all_set (Knows longer) w.clients i d (all_beside c.session (Join c.uuid) refl) anew))

    -- ## Branches

    forks : (j : ℕ) (l : Line) (o : Option Refusal) → Goes (fork c j l o).0
    forks j l None client = like c (fork c j l None).0 refl refl refl refl mine
    forks j l (Some why) client = mine

    -- on a branch that the client has, by its parent's line
    on_own : (j : ℕ) (does : Branch → Line → Type 0) → ((b : Branch) (l : Line) → does b l → IsKnownChange h v r n C) → OnOwnBranch w c does (branch_of c j) v a → IsKnownChange h v r n C
    on_own j does some x = go (branch_of c j) x
      where
        by : (b : Branch) (o : Option Line) → OnParent w (does b) o v a → IsKnownChange h v r n C
        by b None x = kept x.0
        by b (Some l) x = some b l x

        go : (o : Option Branch) → OnOwnBranch w c does o v a → IsKnownChange h v r n C
        go None x = kept x.0
        go (Some b) x = by b (line_of c b.parent) x

    rebases : (j : ℕ) (b : Branch) (l : Line) (o : Option Refusal) (d : Client) → Unless o c d a (IsRebased O w.log c j b l d a) → Goes d
    rebases j b l (Some why) d y = same d y.0
    rebases j b l None d y = λ client. subst (Knows w.log) (sym y.4) (like c (with_base c j l) refl refl refl refl mine)

    -- the parent's line takes the branch's own commits
    takes : (e : Client) → Knows w.log e → (j : ℕ) (Ns : List Intent) → Goes (with_commits_on e j Ns)
    takes e y zero Ns client = takes_known h O w.log r n C e Ns client y
    takes e y (suc j) Ns client = like e (with_commits_on e (suc j) Ns) (session_on Ns e (suc j)) (received_on Ns e (suc j)) (connected_on Ns e (suc j)) (queue_on_branch Ns e j) y

    merges : (j : ℕ) (b : Branch) (l : Line) (o : Option Refusal) (d : Client) → Unless o c d a (IsMerged O w.log c j b l d a) → Goes d
    merges j b l (Some why) d y = same d y.0
    merges j b l None d y = subst Goes (sym y.4) (takes (without_branch c j) (like c (without_branch c j) refl refl refl refl mine) b.parent b.own)

    drops : (j : ℕ) → Goes (drop_branch c j).0
    drops j client = go (has_children c j)
      where
        go : (b : Bool) → Knows w.log (cond {A = Client × Answer} b (c, No HasChildren) (without_branch c j, DropBranch)).0
        go true = mine
        go false = like c (without_branch c j) refl refl refl refl mine

    -- ## Acts

    acted : (x : ActView) (j : ℕ) (l : Line) → (needs_connection x ≡ true → c.connected ≡ true) → IsActOf h w x i c j l v a → IsKnownChange h v r n C
    acted (step.join uuid) j l on y = kept y.0
    acted (step.edit e) j l on y = now y.1 (edits j l l.transaction (word_of e) (intent_of y.0 (schema_in_effect y.0) (next_names c l.transaction) e) y.1 y.3) y.4
    acted (step.need path) j l on y = now y.1 (needs j l.transaction (need y.0 (next_names c l.transaction) path) y.1 y.3) y.4
    acted step.begin j l on y = now y.1 (begins j l l.transaction (last_in_effect y.0) y.1 a y.3) y.4
    acted step.commit j l on y = now_as (commit c j l.transaction) (commits_edited j l.transaction) y
    acted step.abort j l on y = now_as (abort c j l.transaction) (aborts j l.transaction) y
    acted (step.undo rev) j l on y = now y.0 (undoes h.history c.transaction rev y.0 y.1) y.2
    acted (step.upgrade new) j l on y =
        let N = change_of_schema (next_rev c) (last_in_effect y.0) new in
        let o = refusal_to_upgrade c (schema_in_effect y.0) (length y.0.schemas) new in
        now y.1 (told (upgrade c N o) y.1 a y.3 (upgrades N o)) y.4
    acted step.sequence j l on y = sent c.queue refl y
    acted step.ack j l on y = now_as (with_ack c, Acked c.received) (acks (on refl)) y
    acted step.deliver j l on y = now y.1 (delivers y.0 c.transaction (slice_get w.log c.received) y.1 y.3) y.4
    acted step.leave j l on y = left y
    acted step.drop_client j l on y = dropped y
    acted step.reconnect j l on y = returned y
    acted step.fork j l on y = now_as (fork c j l (refusal_to_fork c l)) (forks j l (refusal_to_fork c l)) y
    acted step.rebase j l on y = on_own j _ (λ b m z. now z.0 (rebases j b m (refusal_to_rebase b) z.0 z.1) z.2) y
    acted step.merge j l on y = on_own j _ (λ b m z. now z.0 (merges j b m (refusal_to_merge c j b m) z.0 z.1) z.2) y
    acted step.drop_branch j l on y = on_own j _ (λ b m z. now_as (drop_branch c j) (drops j) z) y
    acted step.show j l on y = kept y.0
    acted step.pending j l on y = kept y.0

  joined : (name : List ℕ) (told : Option ℕ) → join w name told ≡ (v, a) → IsKnownChange h v r n C
  joined name told e = go (nat_le 64 (length w.clients)) (nat_le 65535 (length w.log)) (clashes uuid w.log) e
    where
      session : ℕ
      session = sessions_in w.log + 1

      uuid : ℕ
      uuid = uuid_for session told

      longer : List Entry
      longer = log_with w.log session (Join uuid)

      fresh : Knows longer (new_client (length w.log + 1) session uuid name)
      fresh = record {
        passed = λ own. absurd (omega (arith, f.given, own));
        written = λ own on at. absurd (omega (arith, f.given, own));
        waiting = tt;
      }

      go : (b c d : Bool) → cond b (w, limit_refusal (record { of = Clients; kept = length w.clients })) (cond c (w, limit_refusal (record { of = Log; kept = length w.log })) (cond d (w, No Clash) (enter w session uuid name))) ≡ (v, a) → IsKnownChange h v r n C
      go true c d e = as_told (w, limit_refusal (record { of = Clients; kept = length w.clients })) e f
      go false true d e = as_told (w, limit_refusal (record { of = Log; kept = length w.log })) e f
      go false false true e = as_told (w, No Clash) e f
      go false false false e = as_told (enter w session uuid name) e (log_after session (Join uuid) (w.clients ++ new_client (length w.log + 1) session uuid name ∷ []) tt
          (AllByRecursion-append (Knows longer) w.clients (new_client (length w.log + 1) session uuid name ∷ []) (all_beside session (Join uuid) refl) (fresh, tt)))

  acted_none : (name : List ℕ) (x : ActView) → act_of_none w name x ≡ (v, a) → IsKnownChange h v r n C
  acted_none name (step.join told) e = joined name told e
  acted_none name (step.edit e) y = as_told (w, No NoClient) y f
  acted_none name (step.need path) y = as_told (w, No NoClient) y f
  acted_none name step.begin y = as_told (w, No NoClient) y f
  acted_none name step.commit y = as_told (w, No NoClient) y f
  acted_none name step.abort y = as_told (w, No NoClient) y f
  acted_none name (step.undo rev) y = as_told (w, No NoClient) y f
  acted_none name (step.upgrade schema) y = as_told (w, No NoClient) y f
  acted_none name step.sequence y = as_told (w, No NoClient) y f
  acted_none name step.ack y = as_told (w, No NoClient) y f
  acted_none name step.deliver y = as_told (w, No NoClient) y f
  acted_none name step.leave y = as_told (w, No NoClient) y f
  acted_none name step.drop_client y = as_told (w, No NoClient) y f
  acted_none name step.reconnect y = as_told (w, No NoClient) y f
  acted_none name step.fork y = as_told (w, No NoClient) y f
  acted_none name step.rebase y = as_told (w, No NoClient) y f
  acted_none name step.merge y = as_told (w, No NoClient) y f
  acted_none name step.drop_branch y = as_told (w, No NoClient) y f
  acted_none name step.show y = as_told (w, No NoClient) y f
  acted_none name step.pending y = as_told (w, No NoClient) y f

  by : (x : ActView) (i : ℕ) (c : Client) (at : slice_get w.clients i ≡ Some c) (j : ℕ) (l : Line) (needs connected : Bool) → needs_connection x ≡ needs → c.connected ≡ connected
      → ByConnected needs connected w v a (IsActOf h w x i c j l v a) → IsKnownChange h v r n C
  by x i c at j l false connected n on y = acted i c at x j l (λ e. absurd (cc)) y
  by x i c at j l true true n on y = acted i c at x j l (λ e. on) y
  by x i c at j l true false n on y = kept y.0

  on_line : (x : ActView) (i : ℕ) (c : Client) (at : slice_get w.clients i ≡ Some c) (o : Option Line) (j : ℕ)
      → OnLine w (λ l. ByConnected (needs_connection x) c.connected w v a (IsActOf h w x i c j l v a)) o v a → IsKnownChange h v r n C
  on_line x i c at None j y = kept y.0
  on_line x i c at (Some l) j y = by x i c at j l (needs_connection x) c.connected refl refl y

  next_known : (x : StepView) → IsNext h w x v a → IsKnownChange h v r n C
  next_known x y = place (place_of x.client w.clients) y
    where
      client_at : (i : ℕ) (o : Option Client) → slice_get w.clients i ≡ o → AtClient h w x (option_map (λ c. (i, c)) o) v a → IsKnownChange h v r n C
      client_at i None at y = acted_none x.client x.act y
      client_at i (Some c) at y = on_line x.act i c at (line_of c (branch_at x.branch x.act)) (branch_at x.branch x.act) y

      place : (o : Option ℕ) → AtClient h w x (option_and_then (λ i. option_map (λ c. (i, c)) (slice_get w.clients i)) o) v a → IsKnownChange h v r n C
      place None y = acted_none x.client x.act y
      place (Some i) y = client_at i (slice_get w.clients i) refl y

-- a change stays known
pub known_next : (h : HeaderView) (w v : WorldState) (x : StepView) (a : Answer) (r : Rev) (n : ℕ) (C : Change) → IsWorld h w → KeepsRules x.act → IsKnownChange h w r n C → IsNext h w x v a → IsKnownChange h v r n C
known_next h w v x a r n C s rules f next = next_known h r n C w s f v a (goes_on h w s v a x rules next) x next
