-- What a step does: case by case over the acts, once for all that is kept over steps.
use Rattle.std.proofs.Common.{◌≡◌, ◌≤◌, ◌+◌, ◌==◌, ℕ, zero, suc, Bool, true, false, cond, List, [], ◌∷◌, ◌++◌, length, nat_le, Option, Some, None, IfSome, Result, Ok, Err, ◌⊎◌, inl, inr, refl, sym, ap, ◌∙◌, subst, arith, append_assoc, drop, filter, not, is_some}
use Rattle.std.specs.List.{find, slice_get, slice_set}
use Rattle.std.specs.Option.{option_and_then}
use Rattle.std.specs.Prelude.{option_map, ◌&&◌}
use Rattle.std.proofs.lemmas.Bool.Decides.{nat_tests}
use Rattle.std.proofs.lemmas.List.{append-nil}
use Rattle.st_lemmas.proofs.Lists.{AllByRecursion-append}
use Rattle.st_ids.specs.Listing.{Has}
use Rattle.st_ids.proofs.Shared.{filtered}
use Rattle.st_ids.specs.declared.names.Limit.{Limit}
use Rattle.st_ids.specs.declared.names.LimitOf.TheVariants.{Clients, Log}
use Rattle.st_ids.specs.declared.names.Rev.{Rev}
use Rattle.st_tree.specs.declared.edit.EditFault.{EditFault}
use Rattle.st_marks.specs.declared.intents.Intent.{Intent}
use Rattle.st_marks.specs.Document.{Document}
use Rattle.st_marks.proofs.Members.{append_left, append_right, flat_map-has, has-append, has-flat_map, has-map}
use Rattle.st_edits.specs.InEffect.{last_in_effect, schema_in_effect}
use Rattle.st_edits.specs.Resolve.{need}
use Rattle.st_script.specs.Header.{HeaderView}
use Rattle.st_script.specs.Steps.{ActView, EditView, StepView}
use Rattle.st_script.specs.Steps as step
use Rattle.st_script.specs.declared.answer.Answer.{Answer}
use Rattle.st_script.specs.declared.answer.Answer.TheVariants.{Ack as Acked, DropBranch, No}
use Rattle.st_script.specs.declared.refusal.Refusal.{Refusal}
use Rattle.st_script.specs.declared.refusal.Refusal.TheVariants.{Clash, HasChildren, NoClient, NothingToSend}
use Rattle.st_lists.specs.Clients.{ids_from, next_rev, place_of, with_ack, with_id, with_new_commit, with_received}
use Rattle.st_lists.specs.Limits.{entries_limit_passed, limit_passed, log_limit_passed, names_limit_passed, own_limit_passed}
use Rattle.st_lists.specs.Lines.{Line, branch_of, commits_of, has_children, line_of, main_line, new_branch, on_branch, own_of, with_base, with_branch, with_commit_on, with_commits_on, with_transaction_on, without_branch}
use Rattle.st_lists.specs.Log.{clashes, commit_of, sessions_in}
use Rattle.st_lists.specs.Names.{names_in_text, names_made}
use Rattle.st_lists.specs.Undoing.{IsUndoing}
use Rattle.st_lists.specs.declared.lists.Body.{Body}
use Rattle.st_lists.specs.declared.lists.Body.TheVariants.{Ack, Commit}
use Rattle.st_lists.specs.declared.lists.Branch.{Branch}
use Rattle.st_lists.specs.declared.lists.Client.{Client}
use Rattle.st_lists.specs.declared.lists.Entry.{Entry}
use Rattle.st_lists.specs.declared.lists.Transaction.{Transaction}
use Rattle.st_lists.specs.declared.lists.WorldState.{WorldState}
use Rattle.st_world.specs.Branches.{IsMerged, IsRebased, drop_branch, fork, refusal_to_fork, refusal_to_merge, refusal_to_rebase}
use Rattle.st_world.specs.Kept.{Unless}
use Rattle.st_world.specs.Undo.{IsAfterUndo, IsUndone, IsUndoneAt, refusal_of_rev, refusal_over}
use Rattle.st_world.specs.Upgrade.{change_of_schema, refusal_to_upgrade, upgrade}
use Rattle.st_world.specs.World.{AtClient, ByConnected, IsActOf, IsAfterEdit, IsAfterNeed, IsDeliveredIn, IsEditedIn, IsJoined, IsNext, OnLine, OnOwnBranch, OnParent, abort, act_of_none, after_commit, after_edit, after_entry, begin, branch_at, commit, drop_client, enter, intent_of, join, leave, limit_refusal, needs_connection, next_names, opening_document, reconnect, refusal_to_reconnect, sequence, uuid_for, with_beginning, with_client, with_new_on, word_of}
use Rattle.st_world.specs.declared.edit_word.EditWord.{EditWord}
use Rattle.st_world_laws.specs.Worlds.{IsClient, IsTransaction, IsWorld}
use Rattle.st_world_laws.proofs.Among.{line_transaction}
use Rattle.st_world_laws.proofs.Begun.{opened_start}
use Rattle.st_world_laws.proofs.Entering.{may_reconnect, within_entries}
use Rattle.st_world_laws.proofs.Everyone.{all_get}
use Rattle.st_world_messages.specs.Steps.{Brings, GoesOn, LeadsTo, RefersTo, drops, goes, joins, leaves, own_commits, returns, sends, stays}
use Rattle.st_world_messages.proofs.Small.{back_small, edit_small, edited_small}

-- ## Commits of branches

-- what holds of the own commits of branches of one number, if they were changed
abbrev Own : List Branch → Intent → Type 0
Own bs N = Has (own_of bs) N

branch_own : (bs : List Branch) (b : Branch) (N : Intent) → Has bs b → Has b.own N → Own bs N
branch_own bs b N i j = flat_map-has (λ (b : Branch). b.own) bs b N i j

-- a branch that is changed has old commits or this one
changed : (k : ℕ) (f : Branch → Branch) (P : Intent → Type 0) → ((b : Branch) (N : Intent) → Has (f b).own N → Has b.own N ⊎ P N) → (bs : List Branch) (N : Intent) → Own (on_branch k f bs) N → Own bs N ⊎ P N
changed k f P each bs N i =
    let x = has-flat_map (λ (b : Branch). b.own) (on_branch k f bs) N i in
    let y = has-map (λ (b : Branch). cond (b.number == k) (f b) b) bs x.0 x.1 in
    by y.0 y.1 (y.0.number == k) (subst (λ (b : Branch). Has b.own N) (sym y.2) x.2)
  where
    by : (b : Branch) → Has bs b → (t : Bool) → Has (cond t (f b) b).own N → Own bs N ⊎ P N
    by b there true h = elim (each b N h) [ inl j ↦ inl (branch_own bs b N there j) | inr p ↦ inr p ]
    by b there false h = inl (branch_own bs b N there h)

same_own : (k : ℕ) (f : Branch → Branch) → ((b : Branch) → (f b).own ≡ b.own) → (bs : List Branch) (N : Intent) → Own (on_branch k f bs) N → Own bs N
same_own k f same bs N i = elim (changed k f (λ N. ⊥) (λ b N h. inl (subst (λ l. Has l N) (same b) h)) bs N i) [ inl j ↦ j | inr p ↦ absurd p ]

fewer_own : (p : Branch → Bool) (bs : List Branch) (N : Intent) → Own (filter p bs) N → Own bs N
fewer_own p bs N i =
    let x = has-flat_map (λ (b : Branch). b.own) (filter p bs) N i in
    branch_own bs x.0 N (filtered p bs x.0 x.1).0 x.2

-- ## A client

-- what a client has that has no more commits
no_more : (c d : Client) → ((N : Intent) → Has (own_commits d) N → Has (own_commits c) N) → (N : Intent) → Has (own_commits d) N → Has (own_commits c) N ⊎ (names_made N ≤ 2048)
no_more c d some N i = inl (some N i)

-- commits of the main line or of branches are those of a client with others there
both_own : (c d : Client) → ((N : Intent) → Has d.pending N → Has (own_commits c) N ⊎ (names_made N ≤ 2048)) → ((N : Intent) → Own d.branches N → Has (own_commits c) N ⊎ (names_made N ≤ 2048)) → (N : Intent) → Has (own_commits d) N → Has (own_commits c) N ⊎ (names_made N ≤ 2048)
both_own c d main other N i = elim (has-append d.pending (own_of d.branches) N i) [ inl j ↦ main N j | inr j ↦ other N j ]

pending_own : (c : Client) (N : Intent) → Has c.pending N → Has (own_commits c) N
pending_own c N i = append_left c.pending (own_of c.branches) N i

branches_own : (c : Client) (N : Intent) → Own c.branches N → Has (own_commits c) N
branches_own c N i = append_right c.pending (own_of c.branches) N i

itself : (c : Client) → GoesOn c c
itself c = record { session = refl; uuid = refl; connected = refl; received = omega arith; ids = omega arith; written = []; queue = sym (append-nil c.queue); refer = tt; commits = λ N i. inl i }

as_same : (c d : Client) → d ≡ c → GoesOn c d
as_same c d e = subst (GoesOn c) (sym e) (itself c)

-- one id more
one_id : (c : Client) → GoesOn c (with_id c)
one_id c = record { session = refl; uuid = refl; connected = refl; received = omega arith; ids = omega arith; written = []; queue = sym (append-nil c.queue); refer = tt; commits = λ N i. inl i }

-- the transaction of a line is now so
turned : (c : Client) (j : ℕ) (o : Option Transaction) → GoesOn c (with_transaction_on c j o)
turned c zero o = record { session = refl; uuid = refl; connected = refl; received = omega arith; ids = omega arith; written = []; queue = sym (append-nil c.queue); refer = tt; commits = λ N i. inl i }
turned c (suc j) o = record {
  session = refl;
  uuid = refl;
  connected = refl;
  received = omega arith;
  ids = omega arith;
  written = [];
  queue = sym (append-nil c.queue);
  refer = tt;
  commits = both_own c (with_transaction_on c (suc j) o) (λ N i. inl (pending_own c N i)) (λ N i. inl (branches_own c N (same_own (suc j) (λ b. record b { transaction = o }) (λ b. refl) c.branches N i)));
}

begun : (c : Client) (j : ℕ) (o : Option Transaction) → GoesOn c (record (with_transaction_on c j o) { ids = c.ids + 1 })
begun c zero o = record { session = refl; uuid = refl; connected = refl; received = omega arith; ids = omega arith; written = []; queue = sym (append-nil c.queue); refer = tt; commits = λ N i. inl i }
begun c (suc j) o =
    let x = turned c (suc j) o in
    record { session = refl; uuid = refl; connected = refl; received = omega arith; ids = omega arith; written = []; queue = sym (append-nil c.queue); refer = tt; commits = x.commits }

-- a commit comes, which is an old one or makes few names
abbrev IsFine : Client → Intent → Type 0
IsFine c N = Has (own_commits c) N ⊎ (names_made N ≤ 2048)

last_fine : (c : Client) (Ns : List Intent) (N : Intent) → IsFine c N → ((M : Intent) → Has Ns M → IsFine c M) → (M : Intent) → Has (Ns ++ N ∷ []) M → IsFine c M
last_fine c Ns N fine all M i = elim (has-append Ns (N ∷ []) M i) [
  | inl j ↦ all M j
  | inr j ↦ elim j [ inl same ↦ subst (IsFine c) same fine | inr k ↦ absurd k ]
]

takes : (c d : Client) (j : ℕ) (N : Intent) → GoesOn c d → IsFine c N → GoesOn c (with_commit_on d j N)
takes c d zero N x fine = go d.connected refl
  where
    text : Body
    text = Commit d.received (ids_from d.session d.taken d.ids) N

    e : Client
    e = with_commit_on d zero N

    commits : (M : Intent) → Has (own_commits e) M → IsFine c M
    commits = both_own c e (last_fine c d.pending N fine (λ M i. x.commits M (pending_own d M i))) (λ M i. x.commits M (branches_own d M i))

    go : (b : Bool) → d.connected ≡ b → GoesOn c e
    go false off = record {
      session = x.session;
      uuid = x.uuid;
      connected = x.connected;
      received = x.received;
      ids = x.ids;
      written = x.written;
      queue = ap (λ b. cond b (d.queue ++ text ∷ []) d.queue) off ∙ x.queue;
      refer = x.refer;
      commits = commits;
    }
    go true on = record {
      session = x.session;
      uuid = x.uuid;
      connected = x.connected;
      received = x.received;
      ids = x.ids;
      written = x.written ++ text ∷ [];
      queue = ap (λ b. cond b (d.queue ++ text ∷ []) d.queue) on ∙ ap (λ l. l ++ text ∷ []) x.queue ∙ append_assoc c.queue x.written (text ∷ []);
      refer = AllByRecursion-append (RefersTo d.received) x.written (text ∷ []) x.refer (refl, tt);
      commits = commits;
    }
takes c d (suc j) N x fine = record {
  session = x.session;
  uuid = x.uuid;
  connected = x.connected;
  received = x.received;
  ids = x.ids;
  written = x.written;
  queue = x.queue;
  refer = x.refer;
  commits = both_own c (with_commit_on d (suc j) N) (λ M i. x.commits M (pending_own d M i)) (λ M i. elim (changed (suc j) (λ b. record b { own = b.own ++ N ∷ [] }) (IsFine c) of_one d.branches M i) [ inl k ↦ x.commits M (branches_own d M k) | inr p ↦ p ]);
}
  where
    of_one : (b : Branch) (M : Intent) → Has (b.own ++ N ∷ []) M → Has b.own M ⊎ IsFine c M
    of_one b M i = elim (has-append b.own (N ∷ []) M i) [
      | inl k ↦ inl k
      | inr k ↦ elim k [ inl same ↦ inr (subst (IsFine c) same fine) | inr z ↦ absurd z ]
    ]

takes_all : (c d : Client) (j : ℕ) (Ns : List Intent) → GoesOn c d → ((N : Intent) → Has Ns N → IsFine c N) → GoesOn c (with_commits_on d j Ns)
takes_all c d j [] x fine = x
takes_all c d j (N ∷ Ns) x fine = takes_all c (with_commit_on d j N) j Ns (takes c d j N x (fine N (inl refl))) (λ M i. fine M (inr i))

-- it tells how much it received
acked : (c : Client) → GoesOn c (with_ack c)
acked c = record { session = refl; uuid = refl; connected = refl; received = omega arith; ids = omega arith; written = Ack c.received ∷ []; queue = refl; refer = (refl, tt); commits = λ N i. inl i }

-- it receives an entry
dropped_one : (Ns : List Intent) (N : Intent) → Has (drop 1 Ns) N → Has Ns N
dropped_one [] N i = i
dropped_one (M ∷ Ns) N i = inr i

received_one : (c : Client) (e : Entry) → GoesOn c (with_received e c)
received_one c e = record {
  session = refl;
  uuid = refl;
  connected = refl;
  received = omega arith;
  ids = omega arith;
  written = [];
  queue = sym (append-nil c.queue);
  refer = tt;
  commits = both_own c (with_received e c) (λ N i. inl (pending_own c N (go (is_some (commit_of e) && (e.session == c.session)) N i))) (λ N i. inl (branches_own c N i));
}
  where
    go : (b : Bool) (N : Intent) → Has (cond b (drop 1 c.pending) c.pending) N → Has c.pending N
    go true N i = dropped_one c.pending N i
    go false N i = i

-- branches come and go
forked : (c : Client) (j : ℕ) (l : Line) → GoesOn c (with_branch c j l)
forked c j l = record {
  session = refl;
  uuid = refl;
  connected = refl;
  received = omega arith;
  ids = omega arith;
  written = [];
  queue = sym (append-nil c.queue);
  refer = tt;
  commits = both_own c (with_branch c j l) (λ N i. inl (pending_own c N i)) (λ N i. inl (branches_own c N (old N (has-flat_map (λ (b : Branch). b.own) (c.branches ++ new_branch (c.forks + 1) j l ∷ []) N i))));
}
  where
    old : (N : Intent) → (b : Branch) × Has (c.branches ++ new_branch (c.forks + 1) j l ∷ []) b × Has b.own N → Own c.branches N
    old N x = elim (has-append c.branches (new_branch (c.forks + 1) j l ∷ []) x.0 x.1) [
      | inl i ↦ branch_own c.branches x.0 N i x.2
      | inr i ↦ elim i [ inl same ↦ absurd (subst (λ (b : Branch). Has b.own N) (sym same) x.2) | inr k ↦ absurd k ]
    ]

rebased : (c : Client) (j : ℕ) (l : Line) → GoesOn c (with_base c j l)
rebased c j l = record {
  session = refl;
  uuid = refl;
  connected = refl;
  received = omega arith;
  ids = omega arith;
  written = [];
  queue = sym (append-nil c.queue);
  refer = tt;
  commits = both_own c (with_base c j l) (λ N i. inl (pending_own c N i)) (λ N i. inl (branches_own c N (same_own j (λ b. record b { received = l.received; base = l.base ++ l.own }) (λ b. refl) c.branches N i)));
}

branch_gone : (c : Client) (j : ℕ) → GoesOn c (without_branch c j)
branch_gone c j = record {
  session = refl;
  uuid = refl;
  connected = refl;
  received = omega arith;
  ids = omega arith;
  written = [];
  queue = sym (append-nil c.queue);
  refer = tt;
  commits = both_own c (without_branch c j) (λ N i. inl (pending_own c N i)) (λ N i. inl (branches_own c N (fewer_own (λ (b : Branch). not (b.number == j)) c.branches N i)));
}

found_there : (p : Branch → Bool) (bs : List Branch) (b : Branch) → find p bs ≡ Some b → Has bs b
found_there p [] b e = cc
found_there p (x ∷ xs) b e = go (p x) (found_there p xs b) e
  where
    go : (t : Bool) → (find p xs ≡ Some b → Has xs b) → cond t (Some x) (find p xs) ≡ Some b → (x ≡ b) ⊎ Has xs b
    go true rest e = let same : x ≡ b = cc in inl same
    go false rest e = inr (rest e)

-- ## Steps

module _ (U : ℕ → Type 0) (h : HeaderView) (w : WorldState) (s : IsWorld h w) (v : WorldState) (a : Answer) where
  abbrev O : Document
  O = opening_document h

  kept : v ≡ w → LeadsTo U w v
  kept e = subst (LeadsTo U w) (sym e) stays

  as_told : (p : WorldState × Answer) → p ≡ (v, a) → LeadsTo U w p.0 → LeadsTo U w v
  as_told p e x = subst (LeadsTo U w) (ap (λ (q : WorldState × Answer). q.0) e) x

  module _ (i : ℕ) (c : Client) (at : slice_get w.clients i ≡ Some c) where
    k : IsClient h w.log c
    k = all_get (IsClient h w.log) w.clients i c s.clients at

    now : (d : Client) → GoesOn c d → v ≡ record w { clients = slice_set w.clients i d } → LeadsTo U w v
    now d x e = subst (LeadsTo U w) (sym e) (goes i c d at x)

    now_as : (p : Client × Answer) → GoesOn c p.0 → with_client w i p ≡ (v, a) → LeadsTo U w v
    now_as p x e = now p.0 x (sym (ap (λ (q : WorldState × Answer). q.0) e))

    same : (d : Client) → d ≡ c → GoesOn c d
    same d e = as_same c d e

    -- the client that is told is this one
    told : (p : Client × Answer) (d : Client) (b : Answer) → p ≡ (d, b) → GoesOn c p.0 → GoesOn c d
    told p d b e x = subst (GoesOn c) (ap (λ (q : Client × Answer). q.0) e) x

    -- ## On a line

    edited_in : (j : ℕ) (x : Transaction) (word : EditWord) (r : Result Intent EditFault) (d : Client) → IsEditedIn c j x word r d a → GoesOn c d
    edited_in j x word (Err z) d y = same d y.0
    edited_in j x word (Ok M) d y = go (names_limit_passed c M) y
      where
        go : (o : Option Limit) → IsJoined c j x word M o d a → GoesOn c d
        go (Some l) y = same d y.0
        go None y = subst (GoesOn c) (sym y.2) (turned c j _)

    edited_as : (j : ℕ) (l : Line) (word : EditWord) (r : Result Intent EditFault) (d : Client) → ((N : Intent) → r ≡ Ok N → names_made N ≤ 2048) → after_edit c j l word r ≡ (d, a) → GoesOn c d
    edited_as j l word (Err z) d small e = same d (sym (ap (λ (p : Client × Answer). p.0) e))
    edited_as j l word (Ok N) d small e = go (limit_passed c j l N) e
      where
        go : (o : Option Limit) → with_new_on c j word N o ≡ (d, a) → GoesOn c d
        go (Some z) e = same d (sym (ap (λ (p : Client × Answer). p.0) e))
        go None e = told (with_new_on c j word N None) d a e (takes c (with_id c) j N (one_id c) (inr (small N refl)))

    edits : (j : ℕ) (l : Line) (o : Option Transaction) (D : Document) (e : EditView) (d : Client) → IsAfterEdit c j l o (word_of e) (intent_of D (schema_in_effect D) (next_names c o) e) d a → GoesOn c d
    edits j l None D e d y = edited_as j l (word_of e) (intent_of D (schema_in_effect D) (next_names c None) e) d (λ N is. edit_small D (schema_in_effect D) (next_names c None) e N (omega arith) is) y
    edits j l (Some x) D e d y = edited_in j x (word_of e) (intent_of D (schema_in_effect D) (next_names c (Some x)) e) d y

    needs : (j : ℕ) (o : Option Transaction) (r : Result Intent EditFault) (d : Client) → IsAfterNeed c j o r d a → GoesOn c d
    needs j None r d y = same d y.0
    needs j (Some x) r d y = edited_in j x EditWord.Need r d y

    begins : (j : ℕ) (l : Line) (o : Option Transaction) (under : Rev) (d : Client) (b : Answer) → begin c j l o under ≡ (d, b) → GoesOn c d
    begins j l (Some x) under d b e = same d (sym (ap (λ (p : Client × Answer). p.0) e))
    begins j l None under d b e = go (own_limit_passed j l 1) e
      where
        go : (o : Option Limit) → with_beginning c j under o ≡ (d, b) → GoesOn c d
        go (Some z) e = same d (sym (ap (λ (p : Client × Answer). p.0) e))
        go None e = told (with_beginning c j under None) d b e (begun c j _)

    commits_edited : (j : ℕ) (l : Line) (o : Option Transaction) → IfSome o (IsTransaction h w.log l c) → GoesOn c (commit c j o).0
    commits_edited j l None x = itself c
    commits_edited j l (Some t) x = go t.joined refl
      where
        go : (o : Option Intent) → t.joined ≡ o → GoesOn c (after_commit (with_transaction_on c j None) j t.rev o).0
        go None is = turned c j None
        go (Some J) is = takes c (with_transaction_on c j None) j J (turned c j None) (inr (edited_small h w.log l c t J x is))

    aborts : (j : ℕ) (o : Option Transaction) → GoesOn c (abort c j o).0
    aborts j None = itself c
    aborts j (Some x) = turned c j None

    -- ## The client as a whole

    adds : (N : Intent) → names_made N ≤ 2048 → GoesOn c (with_new_commit c N)
    adds N small = takes c (with_id c) 0 N (one_id c) (inr small)

    undoes : (history : ℕ) (o : Option Transaction) (rev : Rev) (d : Client) → IsAfterUndo O history w.log c o rev d a → GoesOn c d
    undoes history (Some x) rev d y = same d y.0
    undoes history None rev d y = of_rev (refusal_of_rev history w.log c list rev) y
      where
        list : List Intent
        list = commits_of w.log (main_line c)

        of_commit : (o : Option Refusal) → Unless o c d a (IsUndone O list rev c d a) → GoesOn c d
        of_commit (Some why) y = same d y.0
        of_commit None y =
            let u : IsUndoing O list rev (next_rev c) y.0 = y.1 in
            subst (GoesOn c) (sym y.2) (adds y.0 (back_small y.0 u.back))

        of_rev : (o : Option Refusal) → Unless o c d a (IsUndoneAt O list rev c d a) → GoesOn c d
        of_rev (Some why) y = same d y.0
        of_rev None y = of_commit (refusal_over y.2 y.0 c) y.4

    upgrades : (rev under : Rev) (new : _) (o : Option Refusal) → GoesOn c (upgrade c (change_of_schema rev under new) o).0
    upgrades rev under new None = adds (change_of_schema rev under new) (omega arith)
    upgrades rev under new (Some why) = itself c

    delivers : (D : Document) (o : Option Transaction) (next : Option Entry) (d : Client) → IsDeliveredIn D c o next d a → GoesOn c d
    delivers D (Some x) next d y = same d y.0
    delivers D None None d y = same d y.0
    delivers D None (Some e) d y = subst (GoesOn c) (sym y.2) (received_one c e)

    -- ## The log

    sent : c.connected ≡ true → (texts : List Body) → c.queue ≡ texts → sequence w i c texts ≡ (v, a) → LeadsTo U w v
    sent on [] is e = as_told (w, No NothingToSend) e stays
    sent on (text ∷ rest) is e = go (log_limit_passed w.log (names_in_text text)) refl e
      where
        go : (o : Option Limit) → log_limit_passed w.log (names_in_text text) ≡ o → after_entry w i c text rest o ≡ (v, a) → LeadsTo U w v
        go (Some l) q e = as_told (w, limit_refusal l) e stays
        go None q e = as_told (after_entry w i c text rest None) e (sends i c text rest at on is q)

    left : c.connected ≡ true → leave w i c (entries_limit_passed w.log) ≡ (v, a) → LeadsTo U w v
    left on e = go (entries_limit_passed w.log) refl e
      where
        go : (o : Option Limit) → entries_limit_passed w.log ≡ o → leave w i c o ≡ (v, a) → LeadsTo U w v
        go (Some l) q e = as_told (w, limit_refusal l) e stays
        go None q e = as_told (leave w i c None) e (leaves i c at on (within_entries w.log q))

    dropped : c.connected ≡ true → drop_client w i c (entries_limit_passed w.log) ≡ (v, a) → LeadsTo U w v
    dropped on e = go (entries_limit_passed w.log) refl e
      where
        go : (o : Option Limit) → entries_limit_passed w.log ≡ o → drop_client w i c o ≡ (v, a) → LeadsTo U w v
        go (Some l) q e = as_told (w, limit_refusal l) e stays
        go None q e = as_told (drop_client w i c None) e (drops i c at on (within_entries w.log q))

    returned : reconnect w i c (refusal_to_reconnect w.log c) ≡ (v, a) → LeadsTo U w v
    returned e = go (refusal_to_reconnect w.log c) refl e
      where
        go : (o : Option Refusal) → refusal_to_reconnect w.log c ≡ o → reconnect w i c o ≡ (v, a) → LeadsTo U w v
        go (Some why) q e = as_told (w, No why) e stays
        go None q e = let may = may_reconnect w.log c q in as_told (reconnect w i c None) e (returns i c at may.0.0 may.1)

    -- ## Branches

    forks : (j : ℕ) (l : Line) (o : Option Refusal) → GoesOn c (fork c j l o).0
    forks j l None = forked c j l
    forks j l (Some why) = itself c

    -- on a branch that the client has, by its parent's line
    on_own : (j : ℕ) (does : Branch → Line → Type 0) → ((b : Branch) (l : Line) → branch_of c j ≡ Some b → does b l → LeadsTo U w v) → OnOwnBranch w c does (branch_of c j) v a → LeadsTo U w v
    on_own j does some x = go (branch_of c j) refl x
      where
        by : (b : Branch) → branch_of c j ≡ Some b → (o : Option Line) → OnParent w (does b) o v a → LeadsTo U w v
        by b is None x = kept x.0
        by b is (Some l) x = some b l is x

        go : (o : Option Branch) → branch_of c j ≡ o → OnOwnBranch w c does o v a → LeadsTo U w v
        go None is x = kept x.0
        go (Some b) is x = by b is (line_of c b.parent) x

    rebases : (j : ℕ) (b : Branch) (l : Line) (o : Option Refusal) (d : Client) → Unless o c d a (IsRebased O w.log c j b l d a) → GoesOn c d
    rebases j b l (Some why) d y = same d y.0
    rebases j b l None d y = subst (GoesOn c) (sym y.4) (rebased c j l)

    merges : (j : ℕ) (b : Branch) (l : Line) (o : Option Refusal) (d : Client) → branch_of c j ≡ Some b → Unless o c d a (IsMerged O w.log c j b l d a) → GoesOn c d
    merges j b l (Some why) d is y = same d y.0
    merges j b l None d is y =
        let there = found_there (λ (x : Branch). x.number == j) c.branches b is in
        subst (GoesOn c) (sym y.4) (takes_all c (without_branch c j) b.parent b.own (branch_gone c j) (λ N i. inl (branches_own c N (branch_own c.branches b N there i))))

    branch_drops : (j : ℕ) → GoesOn c (drop_branch c j).0
    branch_drops j = go (has_children c j)
      where
        go : (b : Bool) → GoesOn c (cond {A = Client × Answer} b (c, No HasChildren) (without_branch c j, DropBranch)).0
        go true = itself c
        go false = branch_gone c j

    -- ## Acts

    acts : (x : ActView) (j : ℕ) (l : Line) → line_of c j ≡ Some l → (needs_connection x ≡ true → c.connected ≡ true) → IsActOf h w x i c j l v a → LeadsTo U w v
    acts (step.join uuid) j l line on y = kept y.0
    acts (step.edit e) j l line on y = now y.1 (edits j l l.transaction y.0 e y.1 y.3) y.4
    acts (step.need path) j l line on y = now y.1 (needs j l.transaction (need y.0 (next_names c l.transaction) path) y.1 y.3) y.4
    acts step.begin j l line on y = now y.1 (begins j l l.transaction (last_in_effect y.0) y.1 a y.3) y.4
    acts step.commit j l line on y = now_as (commit c j l.transaction) (commits_edited j l l.transaction (line_transaction h (opened_start h s.header) w.log c k j l line)) y
    acts step.abort j l line on y = now_as (abort c j l.transaction) (aborts j l.transaction) y
    acts (step.undo rev) j l line on y = now y.0 (undoes h.history c.transaction rev y.0 y.1) y.2
    acts (step.upgrade new) j l line on y =
        let o = refusal_to_upgrade c (schema_in_effect y.0) (length y.0.schemas) new in
        now y.1 (told (upgrade c (change_of_schema (next_rev c) (last_in_effect y.0) new) o) y.1 a y.3 (upgrades (next_rev c) (last_in_effect y.0) new o)) y.4
    acts step.sequence j l line on y = sent (on refl) c.queue refl y
    acts step.ack j l line on y = now_as (with_ack c, Acked c.received) (acked c) y
    acts step.deliver j l line on y = now y.1 (delivers y.0 c.transaction (slice_get w.log c.received) y.1 y.3) y.4
    acts step.leave j l line on y = left (on refl) y
    acts step.drop_client j l line on y = dropped (on refl) y
    acts step.reconnect j l line on y = returned y
    acts step.fork j l line on y = now_as (fork c j l (refusal_to_fork c l)) (forks j l (refusal_to_fork c l)) y
    acts step.rebase j l line on y = on_own j _ (λ b m is z. now z.0 (rebases j b m (refusal_to_rebase b) z.0 z.1) z.2) y
    acts step.merge j l line on y = on_own j _ (λ b m is z. now z.0 (merges j b m (refusal_to_merge c j b m) z.0 is z.1) z.2) y
    acts step.drop_branch j l line on y = on_own j _ (λ b m is z. now_as (drop_branch c j) (branch_drops j) z) y
    acts step.show j l line on y = kept y.0
    acts step.pending j l line on y = kept y.0

  joined : (name : List ℕ) (told : Option ℕ) → IfSome told U → join w name told ≡ (v, a) → LeadsTo U w v
  joined name told v4 e = go (nat_le 64 (length w.clients)) refl (nat_le 65535 (length w.log)) refl (clashes uuid w.log) refl e
    where
      session : ℕ
      session = sessions_in w.log + 1

      uuid : ℕ
      uuid = uuid_for session told

      go : (b : Bool) → nat_le 64 (length w.clients) ≡ b → (c : Bool) → nat_le 65535 (length w.log) ≡ c → (d : Bool) → clashes uuid w.log ≡ d
          → cond b (w, limit_refusal (record { of = Clients; kept = length w.clients })) (cond c (w, limit_refusal (record { of = Log; kept = length w.log })) (cond d (w, No Clash) (enter w session uuid name))) ≡ (v, a) → LeadsTo U w v
      go true p c q d r e = as_told (w, limit_refusal (record { of = Clients; kept = length w.clients })) e stays
      go false p true q d r e = as_told (w, limit_refusal (record { of = Log; kept = length w.log })) e stays
      go false p false q true r e = as_told (w, No Clash) e stays
      go false p false q false r e = as_told (enter w session uuid name) e (joins name told v4 (grind (arith, nat_tests, p)) (grind (arith, nat_tests, q)) r)

  acts_none : (name : List ℕ) (x : ActView) → Brings U x → act_of_none w name x ≡ (v, a) → LeadsTo U w v
  acts_none name (step.join told) v4 e = joined name told v4 e
  acts_none name (step.edit e) v4 y = as_told (w, No NoClient) y stays
  acts_none name (step.need path) v4 y = as_told (w, No NoClient) y stays
  acts_none name step.begin v4 y = as_told (w, No NoClient) y stays
  acts_none name step.commit v4 y = as_told (w, No NoClient) y stays
  acts_none name step.abort v4 y = as_told (w, No NoClient) y stays
  acts_none name (step.undo rev) v4 y = as_told (w, No NoClient) y stays
  acts_none name (step.upgrade schema) v4 y = as_told (w, No NoClient) y stays
  acts_none name step.sequence v4 y = as_told (w, No NoClient) y stays
  acts_none name step.ack v4 y = as_told (w, No NoClient) y stays
  acts_none name step.deliver v4 y = as_told (w, No NoClient) y stays
  acts_none name step.leave v4 y = as_told (w, No NoClient) y stays
  acts_none name step.drop_client v4 y = as_told (w, No NoClient) y stays
  acts_none name step.reconnect v4 y = as_told (w, No NoClient) y stays
  acts_none name step.fork v4 y = as_told (w, No NoClient) y stays
  acts_none name step.rebase v4 y = as_told (w, No NoClient) y stays
  acts_none name step.merge v4 y = as_told (w, No NoClient) y stays
  acts_none name step.drop_branch v4 y = as_told (w, No NoClient) y stays
  acts_none name step.show v4 y = as_told (w, No NoClient) y stays
  acts_none name step.pending v4 y = as_told (w, No NoClient) y stays

  by : (x : ActView) (i : ℕ) (c : Client) (at : slice_get w.clients i ≡ Some c) (j : ℕ) (l : Line) → line_of c j ≡ Some l → (needs connected : Bool) → needs_connection x ≡ needs → c.connected ≡ connected
      → ByConnected needs connected w v a (IsActOf h w x i c j l v a) → LeadsTo U w v
  by x i c at j l line false connected n on y = acts i c at x j l line (λ e. absurd (cc)) y
  by x i c at j l line true true n on y = acts i c at x j l line (λ e. on) y
  by x i c at j l line true false n on y = kept y.0

  on_line : (x : ActView) (i : ℕ) (c : Client) (at : slice_get w.clients i ≡ Some c) (j : ℕ) (o : Option Line) → line_of c j ≡ o
      → OnLine w (λ l. ByConnected (needs_connection x) c.connected w v a (IsActOf h w x i c j l v a)) o v a → LeadsTo U w v
  on_line x i c at j None line y = kept y.0
  on_line x i c at j (Some l) line y = by x i c at j l line (needs_connection x) c.connected refl refl y

  leads : (x : StepView) → Brings U x.act → IsNext h w x v a → LeadsTo U w v
  leads x v4 y = place (place_of x.client w.clients) y
    where
      client_at : (i : ℕ) (o : Option Client) → slice_get w.clients i ≡ o → AtClient h w x (option_map (λ c. (i, c)) o) v a → LeadsTo U w v
      client_at i None at y = acts_none x.client x.act v4 y
      client_at i (Some c) at y = on_line x.act i c at (branch_at x.branch x.act) (line_of c (branch_at x.branch x.act)) refl y

      place : (o : Option ℕ) → AtClient h w x (option_and_then (λ i. option_map (λ c. (i, c)) (slice_get w.clients i)) o) v a → LeadsTo U w v
      place None y = acts_none x.client x.act v4 y
      place (Some i) y = client_at i (slice_get w.clients i) refl y

-- what a step does
pub leads_on : (U : ℕ → Type 0) (h : HeaderView) (w v : WorldState) (x : StepView) (a : Answer) → IsWorld h w → Brings U x.act → IsNext h w x v a → LeadsTo U w v
leads_on U h w v x a s v4 next = leads U h w s v a x v4 next
