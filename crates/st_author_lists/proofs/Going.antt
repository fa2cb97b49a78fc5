-- Whatever a step leads to, each commit of the log and each that waits fits the document of its author's list again.
use Rattle.std.proofs.Common.{◌≡◌, ◌≢◌, ◌+◌, ◌==◌, ℕ, zero, suc, Bool, true, false, cond, List, [], ◌∷◌, ◌++◌, length, length-append, nat_le, take, Option, Some, None, Result, Ok, Err, refl, sym, ap, ◌∙◌, subst, arith, append_assoc}
use Rattle.std.specs.List.{AllByRecursion, slice_get, slice_set}
use Rattle.std.specs.Option.{option_and_then}
use Rattle.std.specs.Prelude.{option_map}
use Rattle.std.proofs.lemmas.List.{append-nil, drop_all}
use Rattle.st_ids.specs.declared.names.Limit.{Limit}
use Rattle.st_ids.specs.declared.names.LimitOf.TheVariants.{Clients, Log}
use Rattle.st_ids.specs.declared.names.Rev.{Rev}
use Rattle.st_ids.proofs.Shared.{at_has}
use Rattle.st_lemmas.proofs.Lists.{AllByRecursion-append}
use Rattle.st_tree.specs.declared.edit.EditFault.{EditFault}
use Rattle.st_marks.specs.declared.intents.Intent.{Intent}
use Rattle.st_marks.specs.Document.{Document}
use Rattle.st_marks.proofs.Members.{all-has}
use Rattle.st_log_laws.specs.Turns.{FitInTurn}
use Rattle.st_edits.specs.InEffect.{last_in_effect, schema_in_effect}
use Rattle.st_edits.specs.Resolve.{need}
use Rattle.st_script.specs.Header.{HeaderView}
use Rattle.st_script.specs.Steps.{ActView, EditView, StepView}
use Rattle.st_script.specs.Steps as step
use Rattle.st_script.specs.declared.answer.Answer.{Answer}
use Rattle.st_script.specs.declared.answer.Answer.TheVariants.{Ack as Acked, DropBranch, No}
use Rattle.st_script.specs.declared.refusal.Refusal.{Refusal}
use Rattle.st_script.specs.declared.refusal.Refusal.TheVariants.{Clash, HasChildren, NoClient, NothingToSend}
use Rattle.st_lists.specs.Clients.{carried_of, new_client, next_rev, place_of, received_by, with_ack, with_connection, with_id, with_new_commit, without_connection}
use Rattle.st_lists.specs.Limits.{entries_limit_passed, limit_passed, log_limit_passed, names_limit_passed, own_limit_passed}
use Rattle.st_lists.specs.Lines.{Line, branch_of, commits_of, has_children, line_of, main_line, with_commit_on, with_commits_on, with_transaction_on, without_branch}
use Rattle.st_lists.specs.Log.{clashes, commit_in, commits_by, commits_in, log_with, own_in_flight, sessions_in, waiting}
use Rattle.st_lists.specs.Names.{names_in_text}
use Rattle.st_lists.specs.declared.lists.Body.{Body}
use Rattle.st_lists.specs.declared.lists.Body.TheVariants.{Ack, Join, Leave}
use Rattle.st_lists.specs.declared.lists.Branch.{Branch}
use Rattle.st_lists.specs.declared.lists.Client.{Client}
use Rattle.st_lists.specs.declared.lists.Entry.{Entry}
use Rattle.st_lists.specs.declared.lists.Transaction.{Transaction}
use Rattle.st_lists.specs.declared.lists.WorldState.{WorldState}
use Rattle.st_lists.proofs.Logs.{by_none, by_other, last_entry}
use Rattle.st_lists.proofs.Present.{all_rest, are_apart, set_here}
use Rattle.st_valid.specs.Author.{author_list}
use Rattle.st_world.specs.Branches.{IsMerged, IsRebased, drop_branch, fork, refusal_to_fork, refusal_to_merge, refusal_to_rebase}
use Rattle.st_world.specs.Kept.{Unless}
use Rattle.st_world.specs.Undo.{IsAfterUndo, IsUndone, IsUndoneAt, refusal_of_rev, refusal_over}
use Rattle.st_world.specs.Upgrade.{change_of_schema, refusal_to_upgrade, upgrade}
use Rattle.st_world.specs.World.{AtClient, ByConnected, IsActOf, IsAfterEdit, IsAfterNeed, IsDeliveredIn, IsEditedIn, IsJoined, IsNext, OnLine, OnOwnBranch, OnParent, abort, act_of_none, after_commit, after_edit, after_entry, begin, branch_at, commit, drop_client, enter, intent_of, join, leave, limit_refusal, needs_connection, next_names, opening_document, reconnect, refusal_to_reconnect, sequence, uuid_for, with_beginning, with_client, with_new_on, word_of}
use Rattle.st_world.specs.declared.edit_word.EditWord.{EditWord}
use Rattle.st_world_laws.specs.Worlds.{HaveOwnSessions, IsClient, IsQueue, IsWorld, KeepsRules}
use Rattle.st_world_laws.proofs.Everyone.{all_as, all_get, all_set, others_apart}
use Rattle.st_world_laws.proofs.GoingOn.{goes_on}
use Rattle.st_author_lists.specs.Authors.{AreAuthored, FitAuthors}
use Rattle.st_author_lists.proofs.Written.{IsWriter, Waits, all_authored, log_authored, one_authored, rest_authored, text_more, texts_anew, texts_beside}

-- ## What a branch takes, no queue does

pub queue_on_branch : (Ns : List Intent) (c : Client) (k : ℕ) → (with_commits_on c (suc k) Ns).queue ≡ c.queue
queue_on_branch [] c k = refl
queue_on_branch (N ∷ Ns) c k = queue_on_branch Ns (with_commit_on c (suc k) N) k

pub session_on : (Ns : List Intent) (c : Client) (k : ℕ) → (with_commits_on c k Ns).session ≡ c.session
session_on [] c k = refl
session_on (N ∷ Ns) c zero = session_on Ns (with_commit_on c zero N) zero
session_on (N ∷ Ns) c (suc k) = session_on Ns (with_commit_on c (suc k) N) (suc k)

pub received_on : (Ns : List Intent) (c : Client) (k : ℕ) → (with_commits_on c k Ns).received ≡ c.received
received_on [] c k = refl
received_on (N ∷ Ns) c zero = received_on Ns (with_commit_on c zero N) zero
received_on (N ∷ Ns) c (suc k) = received_on Ns (with_commit_on c (suc k) N) (suc k)

pub pending_on : (Ns : List Intent) (c : Client) → (with_commits_on c 0 Ns).pending ≡ c.pending ++ Ns
pending_on [] c = sym (append-nil c.pending)
pending_on (N ∷ Ns) c = pending_on Ns (with_commit_on c 0 N) ∙ append_assoc c.pending (N ∷ []) Ns

-- a client of a world is one that writes
pub writer : (h : HeaderView) (log : List Entry) (c : Client) → IsClient h log c → IsWriter log c
writer h log c k = record {
  within = k.within;
  pending = λ on. k.under_way ∙ ap (λ l. own_in_flight log c ++ l) (sym (subst (λ b. IsQueue (waiting log c) b c.queue) on k.queued));
}

module _ (h : HeaderView) (w : WorldState) (s : IsWorld h w) (f : FitAuthors h w) (v : WorldState) (a : Answer) (t : IsWorld h v) where
  abbrev O : Document
  O = opening_document h

  -- where the lists stay
  kept : v ≡ w → FitAuthors h v
  kept e = subst (FitAuthors h) (sym e) f

  as_told : (p : WorldState × Answer) → p ≡ (v, a) → FitAuthors h p.0 → FitAuthors h v
  as_told p e x = subst (FitAuthors h) (ap (λ (q : WorldState × Answer). q.0) e) x

  -- an entry comes that has no commit: what all others have waiting stays
  beside_none : (session : ℕ) (body : Body) → commit_in body ≡ None → (d : Client) → Waits O w.log d → Waits O (log_with w.log session body) d
  beside_none session body none d x = texts_beside O w.log (last_entry w.log session body ∷ []) d.session d.queue (by_none d.session (last_entry w.log session body) [] none) x

  all_beside : (session : ℕ) (body : Body) → commit_in body ≡ None → AllByRecursion (Waits O (log_with w.log session body)) w.clients
  all_beside session body none = all_as (Waits O w.log) (Waits O (log_with w.log session body)) w.clients (beside_none session body none) f.waiting

  module _ (i : ℕ) (c : Client) (at : slice_get w.clients i ≡ Some c) where
    mine : Waits O w.log c
    mine = all_get (Waits O w.log) w.clients i c f.waiting at

    k : IsClient h w.log c
    k = all_get (IsClient h w.log) w.clients i c s.clients at

    writes : IsWriter w.log c
    writes = writer h w.log c k

    -- where the client at the place goes on
    abbrev Goes : Client → Type 0
    Goes d = IsClient h w.log d → Waits O w.log d

    now : (d : Client) → Goes d → v ≡ record w { clients = slice_set w.clients i d } → FitAuthors h v
    now d x e =
        let there : IsWorld h (record w { clients = slice_set w.clients i d }) = subst (IsWorld h) e t in
        let client = all-has (IsClient h w.log) (slice_set w.clients i d) d there.clients (set_here w.clients i c d at) in
        subst (FitAuthors h) (sym e) (record { log = f.log; waiting = all_set (Waits O w.log) w.clients i d f.waiting (x client) })

    now_as : (p : Client × Answer) → Goes p.0 → with_client w i p ≡ (v, a) → FitAuthors h v
    now_as p x e = now p.0 x (sym (ap (λ (q : WorldState × Answer). q.0) e))

    same : (d : Client) → d ≡ c → Goes d
    same d e client = subst (Waits O w.log) (sym e) mine

    -- the client that is told is this one
    told : (p : Client × Answer) (d : Client) (b : Answer) → p ≡ (d, b) → Goes p.0 → Goes d
    told p d b e x = subst Goes (ap (λ (q : Client × Answer). q.0) e) x

    -- ## On a line

    commits : (d : Client) → IsWriter w.log d → Waits O w.log d → (j : ℕ) (N : Intent) → Goes (with_commit_on d j N)
    commits d x y zero N client = one_authored O w.log d N x client.shown_fit y
    commits d x y (suc j) N client = y

    opened : (j : ℕ) (o : Option Transaction) → Waits O w.log (with_transaction_on c j o)
    opened zero o = mine
    opened (suc j) o = mine

    writes_open : (j : ℕ) (o : Option Transaction) → IsWriter w.log (with_transaction_on c j o)
    writes_open zero o = record { within = writes.within; pending = writes.pending }
    writes_open (suc j) o = record { within = writes.within; pending = writes.pending }

    edited_in : (j : ℕ) (x : Transaction) (word : EditWord) (r : Result Intent EditFault) (d : Client) → IsEditedIn c j x word r d a → Goes d
    edited_in j x word (Err z) d y = same d y.0
    edited_in j x word (Ok M) d y = go (names_limit_passed c M) y
      where
        go : (o : Option Limit) → IsJoined c j x word M o d a → Goes d
        go (Some l) y = same d y.0
        go None y = λ client. subst (Waits O w.log) (sym y.2) (opened j _)

    edited_as : (j : ℕ) (l : Line) (word : EditWord) (r : Result Intent EditFault) (d : Client) → after_edit c j l word r ≡ (d, a) → Goes d
    edited_as j l word (Err z) d e = same d (sym (ap (λ (p : Client × Answer). p.0) e))
    edited_as j l word (Ok N) d e = go (limit_passed c j l N) e
      where
        go : (o : Option Limit) → with_new_on c j word N o ≡ (d, a) → Goes d
        go (Some z) e = same d (sym (ap (λ (p : Client × Answer). p.0) e))
        go None e = told (with_new_on c j word N None) d a e (commits (with_id c) (record { within = writes.within; pending = writes.pending }) mine j N)

    edits : (j : ℕ) (l : Line) (o : Option Transaction) (word : EditWord) (r : Result Intent EditFault) (d : Client) → IsAfterEdit c j l o word r d a → Goes d
    edits j l None word r d y = edited_as j l word r d y
    edits j l (Some x) word r d y = edited_in j x word r d y

    needs : (j : ℕ) (o : Option Transaction) (r : Result Intent EditFault) (d : Client) → IsAfterNeed c j o r d a → Goes d
    needs j None r d y = same d y.0
    needs j (Some x) r d y = edited_in j x EditWord.Need r d y

    begins : (j : ℕ) (l : Line) (o : Option Transaction) (under : Rev) (d : Client) (b : Answer) → begin c j l o under ≡ (d, b) → Goes d
    begins j l (Some x) under d b e = same d (sym (ap (λ (p : Client × Answer). p.0) e))
    begins j l None under d b e = go (own_limit_passed j l 1) e
      where
        go : (o : Option Limit) → with_beginning c j under o ≡ (d, b) → Goes d
        go (Some z) e = same d (sym (ap (λ (p : Client × Answer). p.0) e))
        go None e = told (with_beginning c j under None) d b e (λ client. opened j _)

    commits_edited : (j : ℕ) (o : Option Transaction) → Goes (commit c j o).0
    commits_edited j None = λ client. mine
    commits_edited j (Some x) = go x.joined
      where
        go : (o : Option Intent) → Goes (after_commit (with_transaction_on c j None) j x.rev o).0
        go None = λ client. opened j None
        go (Some N) = commits (with_transaction_on c j None) (writes_open j None) (opened j None) j N

    aborts : (j : ℕ) (o : Option Transaction) → Goes (abort c j o).0
    aborts j None client = mine
    aborts j (Some x) client = opened j None

    -- ## The client as a whole

    adds : (N : Intent) → Goes (with_new_commit c N)
    adds N = commits (with_id c) (record { within = writes.within; pending = writes.pending }) mine 0 N

    undoes : (history : ℕ) (o : Option Transaction) (rev : Rev) (d : Client) → IsAfterUndo O history w.log c o rev d a → Goes d
    undoes history (Some x) rev d y = same d y.0
    undoes history None rev d y = of_rev (refusal_of_rev history w.log c list rev) y
      where
        list : List Intent
        list = commits_of w.log (main_line c)

        of_commit : (o : Option Refusal) → Unless o c d a (IsUndone O list rev c d a) → Goes d
        of_commit (Some why) y = same d y.0
        of_commit None y = subst Goes (sym y.2) (adds y.0)

        of_rev : (o : Option Refusal) → Unless o c d a (IsUndoneAt O list rev c d a) → Goes d
        of_rev (Some why) y = same d y.0
        of_rev None y = of_commit (refusal_over y.2 y.0 c) y.4

    upgrades : (N : Intent) (o : Option Refusal) → Goes (upgrade c N o).0
    upgrades N None = adds N
    upgrades N (Some why) = λ client. mine

    acks : c.connected ≡ true → Goes (with_ack c)
    acks on client = text_more O w.log c.session [] c.queue (Ack c.received) mine tt

    delivers : (D : Document) (o : Option Transaction) (next : Option Entry) (d : Client) → IsDeliveredIn D c o next d a → Goes d
    delivers D (Some x) next d y = same d y.0
    delivers D None None d y = same d y.0
    delivers D None (Some e) d y = λ client. subst (Waits O w.log) (sym y.2) mine

    -- ## The log

    sent : (texts : List Body) → c.queue ≡ texts → sequence w i c texts ≡ (v, a) → FitAuthors h v
    sent [] is e = as_told (w, No NothingToSend) e f
    sent (text ∷ rest) is e = go (log_limit_passed w.log (names_in_text text)) e
      where
        longer : List Entry
        longer = log_with w.log c.session text

        queue : AreAuthored O w.log c.session [] (text ∷ rest)
        queue = subst (AreAuthored O w.log c.session []) is mine

        other : (d : Client) → (c.session == d.session) ≡ false → Waits O w.log d → Waits O longer d
        other d apart x = texts_beside O w.log (last_entry w.log c.session text ∷ []) d.session d.queue (by_other d.session (last_entry w.log c.session text) [] apart) x

        others : (cs : List Client) → AllByRecursion (λ (x : Client). x.session ≢ c.session) cs → AllByRecursion (Waits O w.log) cs → AllByRecursion (Waits O longer) cs
        others [] apart x = tt
        others (d ∷ cs) apart x = (other d (are_apart c.session d.session apart.0) x.0, others cs apart.1 x.1)

        all : (cs : List Client) (j : ℕ) → HaveOwnSessions cs → slice_get cs j ≡ Some c → AllByRecursion (Waits O w.log) cs → AllByRecursion (Waits O longer) (slice_set cs j (record c { queue = rest }))
        all [] j own there x = tt
        all (d ∷ cs) zero own there x =
            let is_it : d ≡ c = cc in
            (rest_authored O w.log c.session text rest queue, others cs (subst (λ (y : Client). AllByRecursion (λ (z : Client). z.session ≢ y.session) cs) is_it own.0) x.1)
        all (d ∷ cs) (suc j) own there x = (other d (others_apart cs d c own.0 (at_has cs j c there)) x.0, all cs j own.1 there x.1)

        go : (o : Option Limit) → after_entry w i c text rest o ≡ (v, a) → FitAuthors h v
        go (Some l) e = as_told (w, limit_refusal l) e f
        go None e = as_told (after_entry w i c text rest None) e (record {
          log = log_authored O w.log c.session text f.log queue.0;
          waiting = all w.clients i s.sessions at f.waiting;
        })

    left : leave w i c (entries_limit_passed w.log) ≡ (v, a) → FitAuthors h v
    left e = go (entries_limit_passed w.log) e
      where
        go : (o : Option Limit) → leave w i c o ≡ (v, a) → FitAuthors h v
        go (Some l) e = as_told (w, limit_refusal l) e f
        go None e = as_told (leave w i c None) e (record {
          log = log_authored O w.log c.session Leave f.log tt;
          waiting = all_rest (Waits O (log_with w.log c.session Leave)) w.clients i (all_beside c.session Leave refl);
        })

    dropped : drop_client w i c (entries_limit_passed w.log) ≡ (v, a) → FitAuthors h v
    dropped e = go (entries_limit_passed w.log) e
      where
        go : (o : Option Limit) → drop_client w i c o ≡ (v, a) → FitAuthors h v
        go (Some l) e = as_told (w, limit_refusal l) e f
        go None e = as_told (drop_client w i c None) e (record {
          log = log_authored O w.log c.session Leave f.log tt;
          waiting = all_set (Waits O (log_with w.log c.session Leave)) w.clients i (without_connection c) (all_beside c.session Leave refl) tt;
        })

    returned : reconnect w i c (refusal_to_reconnect w.log c) ≡ (v, a) → FitAuthors h v
    returned e = go (refusal_to_reconnect w.log c) e
      where
        longer : List Entry
        longer = log_with w.log c.session (Join c.uuid)

        d : Client
        d = with_connection w.log c

        n : ℕ
        n = length w.log + 1

        size : length longer ≡ n
        size = length-append w.log (last_entry w.log c.session (Join c.uuid) ∷ [])

        -- all waits over the whole log
        whole : author_list longer c.session n ≡ received_by longer d
        whole = ap (λ es. received_by longer d ++ commits_by c.session es) (drop_all n longer (omega (arith, size))) ∙ append-nil (received_by longer d)

        anew : IsClient h longer d → Waits O longer d
        anew client =
            let shown : received_by longer d ++ d.pending ≡ (author_list longer c.session n ++ []) ++ d.pending = ap (λ l. l ++ d.pending) (sym (append-nil (author_list longer c.session n) ∙ whole)) in
            texts_anew O longer c.session n (carried_of w.log c) c.ids [] (waiting w.log c) (omega (arith, size)) (subst (FitInTurn O) shown client.shown_fit)

        go : (o : Option Refusal) → reconnect w i c o ≡ (v, a) → FitAuthors h v
        go (Some why) e = as_told (w, No why) e f
        go None e =
            let there = subst (IsWorld h) (sym (ap (λ (q : WorldState × Answer). q.0) e)) t in
            let client = all-has (IsClient h longer) (slice_set w.clients i d) d there.clients (set_here w.clients i c d at) in
            as_told (reconnect w i c None) e (record {
              log = log_authored O w.log c.session (Join c.uuid) f.log tt;
              waiting = all_set (Waits O longer) w.clients i d (all_beside c.session (Join c.uuid) refl) (anew client);
            })

    -- ## Branches

    forks : (j : ℕ) (l : Line) (o : Option Refusal) → Goes (fork c j l o).0
    forks j l None client = mine
    forks j l (Some why) client = mine

    -- on a branch that the client has, by its parent's line
    on_own : (j : ℕ) (does : Branch → Line → Type 0) → ((b : Branch) (l : Line) → does b l → FitAuthors h v) → OnOwnBranch w c does (branch_of c j) v a → FitAuthors h v
    on_own j does some x = go (branch_of c j) x
      where
        by : (b : Branch) (o : Option Line) → OnParent w (does b) o v a → FitAuthors h v
        by b None x = kept x.0
        by b (Some l) x = some b l x

        go : (o : Option Branch) → OnOwnBranch w c does o v a → FitAuthors h v
        go None x = kept x.0
        go (Some b) x = by b (line_of c b.parent) x

    rebases : (j : ℕ) (b : Branch) (l : Line) (o : Option Refusal) (d : Client) → Unless o c d a (IsRebased O w.log c j b l d a) → Goes d
    rebases j b l (Some why) d y = same d y.0
    rebases j b l None d y = λ client. subst (Waits O w.log) (sym y.4) mine

    -- the parent's line takes the branch's own commits
    takes : (e : Client) → IsWriter w.log e → Waits O w.log e → (j : ℕ) (Ns : List Intent) → Goes (with_commits_on e j Ns)
    takes e x y zero Ns client =
        let shown : FitInTurn O (received_by w.log e ++ (with_commits_on e 0 Ns).pending) = subst (λ n. FitInTurn O (commits_in (take n w.log) ++ (with_commits_on e 0 Ns).pending)) (received_on Ns e 0) client.shown_fit in
        all_authored O w.log Ns e x (subst (λ l. FitInTurn O (received_by w.log e ++ l)) (pending_on Ns e) shown) y
    takes e x y (suc j) Ns client = subst (λ l. AreAuthored O w.log (with_commits_on e (suc j) Ns).session [] l) (sym (queue_on_branch Ns e j)) (subst (λ n. AreAuthored O w.log n [] e.queue) (sym (session_on Ns e (suc j))) y)

    merges : (j : ℕ) (b : Branch) (l : Line) (o : Option Refusal) (d : Client) → Unless o c d a (IsMerged O w.log c j b l d a) → Goes d
    merges j b l (Some why) d y = same d y.0
    merges j b l None d y = subst Goes (sym y.4) (takes (without_branch c j) (record { within = writes.within; pending = writes.pending }) mine b.parent b.own)

    drops : (j : ℕ) → Goes (drop_branch c j).0
    drops j client = go (has_children c j)
      where
        go : (b : Bool) → Waits O w.log (cond {A = Client × Answer} b (c, No HasChildren) (without_branch c j, DropBranch)).0
        go true = mine
        go false = mine

    -- ## Acts

    acted : (x : ActView) (j : ℕ) (l : Line) → (needs_connection x ≡ true → c.connected ≡ true) → IsActOf h w x i c j l v a → FitAuthors h v
    acted (step.join uuid) j l on y = kept y.0
    acted (step.edit e) j l on y = now y.1 (edits j l l.transaction (word_of e) (intent_of y.0 (schema_in_effect y.0) (next_names c l.transaction) e) y.1 y.3) y.4
    acted (step.need path) j l on y = now y.1 (needs j l.transaction (need y.0 (next_names c l.transaction) path) y.1 y.3) y.4
    acted step.begin j l on y = now y.1 (begins j l l.transaction (last_in_effect y.0) y.1 a y.3) y.4
    acted step.commit j l on y = now_as (commit c j l.transaction) (commits_edited j l.transaction) y
    acted step.abort j l on y = now_as (abort c j l.transaction) (aborts j l.transaction) y
    acted (step.undo rev) j l on y = now y.0 (undoes h.history c.transaction rev y.0 y.1) y.2
    acted (step.upgrade new) j l on y =
        let N = change_of_schema (next_rev c) (last_in_effect y.0) new in
        let o = refusal_to_upgrade c (schema_in_effect y.0) (length y.0.schemas) new in
        now y.1 (told (upgrade c N o) y.1 a y.3 (upgrades N o)) y.4
    acted step.sequence j l on y = sent c.queue refl y
    acted step.ack j l on y = now_as (with_ack c, Acked c.received) (acks (on refl)) y
    acted step.deliver j l on y = now y.1 (delivers y.0 c.transaction (slice_get w.log c.received) y.1 y.3) y.4
    acted step.leave j l on y = left y
    acted step.drop_client j l on y = dropped y
    acted step.reconnect j l on y = returned y
    acted step.fork j l on y = now_as (fork c j l (refusal_to_fork c l)) (forks j l (refusal_to_fork c l)) y
    acted step.rebase j l on y = on_own j _ (λ b m z. now z.0 (rebases j b m (refusal_to_rebase b) z.0 z.1) z.2) y
    acted step.merge j l on y = on_own j _ (λ b m z. now z.0 (merges j b m (refusal_to_merge c j b m) z.0 z.1) z.2) y
    acted step.drop_branch j l on y = on_own j _ (λ b m z. now_as (drop_branch c j) (drops j) z) y
    acted step.show j l on y = kept y.0
    acted step.pending j l on y = kept y.0

  joined : (name : List ℕ) (told : Option ℕ) → join w name told ≡ (v, a) → FitAuthors h v
  joined name told e = go (nat_le 64 (length w.clients)) (nat_le 65535 (length w.log)) (clashes uuid w.log) e
    where
      session : ℕ
      session = sessions_in w.log + 1

      uuid : ℕ
      uuid = uuid_for session told

      longer : List Entry
      longer = log_with w.log session (Join uuid)

      go : (b c d : Bool) → cond b (w, limit_refusal (record { of = Clients; kept = length w.clients })) (cond c (w, limit_refusal (record { of = Log; kept = length w.log })) (cond d (w, No Clash) (enter w session uuid name))) ≡ (v, a) → FitAuthors h v
      go true c d e = as_told (w, limit_refusal (record { of = Clients; kept = length w.clients })) e f
      go false true d e = as_told (w, limit_refusal (record { of = Log; kept = length w.log })) e f
      go false false true e = as_told (w, No Clash) e f
      go false false false e = as_told (enter w session uuid name) e (record {
        log = log_authored O w.log session (Join uuid) f.log tt;
        waiting = AllByRecursion-append (Waits O longer) w.clients (new_client (length w.log + 1) session uuid name ∷ []) (all_beside session (Join uuid) refl) (tt, tt);
      })

  acted_none : (name : List ℕ) (x : ActView) → act_of_none w name x ≡ (v, a) → FitAuthors h v
  acted_none name (step.join told) e = joined name told e
  acted_none name (step.edit e) y = as_told (w, No NoClient) y f
  acted_none name (step.need path) y = as_told (w, No NoClient) y f
  acted_none name step.begin y = as_told (w, No NoClient) y f
  acted_none name step.commit y = as_told (w, No NoClient) y f
  acted_none name step.abort y = as_told (w, No NoClient) y f
  acted_none name (step.undo rev) y = as_told (w, No NoClient) y f
  acted_none name (step.upgrade schema) y = as_told (w, No NoClient) y f
  acted_none name step.sequence y = as_told (w, No NoClient) y f
  acted_none name step.ack y = as_told (w, No NoClient) y f
  acted_none name step.deliver y = as_told (w, No NoClient) y f
  acted_none name step.leave y = as_told (w, No NoClient) y f
  acted_none name step.drop_client y = as_told (w, No NoClient) y f
  acted_none name step.reconnect y = as_told (w, No NoClient) y f
  acted_none name step.fork y = as_told (w, No NoClient) y f
  acted_none name step.rebase y = as_told (w, No NoClient) y f
  acted_none name step.merge y = as_told (w, No NoClient) y f
  acted_none name step.drop_branch y = as_told (w, No NoClient) y f
  acted_none name step.show y = as_told (w, No NoClient) y f
  acted_none name step.pending y = as_told (w, No NoClient) y f

  by : (x : ActView) (i : ℕ) (c : Client) (at : slice_get w.clients i ≡ Some c) (j : ℕ) (l : Line) (needs connected : Bool) → needs_connection x ≡ needs → c.connected ≡ connected
      → ByConnected needs connected w v a (IsActOf h w x i c j l v a) → FitAuthors h v
  by x i c at j l false connected n on y = acted i c at x j l (λ e. absurd (cc)) y
  by x i c at j l true true n on y = acted i c at x j l (λ e. on) y
  by x i c at j l true false n on y = kept y.0

  on_line : (x : ActView) (i : ℕ) (c : Client) (at : slice_get w.clients i ≡ Some c) (o : Option Line) (j : ℕ)
      → OnLine w (λ l. ByConnected (needs_connection x) c.connected w v a (IsActOf h w x i c j l v a)) o v a → FitAuthors h v
  on_line x i c at None j y = kept y.0
  on_line x i c at (Some l) j y = by x i c at j l (needs_connection x) c.connected refl refl y

  next_fits : (x : StepView) → IsNext h w x v a → FitAuthors h v
  next_fits x y = place (place_of x.client w.clients) y
    where
      client_at : (i : ℕ) (o : Option Client) → slice_get w.clients i ≡ o → AtClient h w x (option_map (λ c. (i, c)) o) v a → FitAuthors h v
      client_at i None at y = acted_none x.client x.act y
      client_at i (Some c) at y = on_line x.act i c at (line_of c (branch_at x.branch x.act)) (branch_at x.branch x.act) y

      place : (o : Option ℕ) → AtClient h w x (option_and_then (λ i. option_map (λ c. (i, c)) (slice_get w.clients i)) o) v a → FitAuthors h v
      place None y = acted_none x.client x.act y
      place (Some i) y = client_at i (slice_get w.clients i) refl y

-- the authors' documents of what a step leads to
pub authors_next : (h : HeaderView) (w v : WorldState) (x : StepView) (a : Answer) → IsWorld h w → FitAuthors h w → KeepsRules x.act → IsNext h w x v a → FitAuthors h v
authors_next h w v x a s f rules next = next_fits h w s f v a (goes_on h w s v a x rules next) x next
