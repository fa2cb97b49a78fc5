-- What is kept of a client stands for its lists after each of its steps.
use Rattle.std.proofs.Common.{Bool, Err, IfSome, List, None, Ok, Option, Result, Some, [], ap, arith, drop, false, length, length-append, refl, subst, sym, take, true, ℕ, ◌++◌, ◌+◌, ◌∙◌, ◌∷◌, ◌≡◌, ◌≤◌}
use Rattle.std.specs.List.{AllByRecursion, slice_get}
use Rattle.std.specs.Prelude.{◌-◌, ◌==◌}
use Rattle.st_lists.specs.Names.{names_in, names_made, names_on_all, unsequenced}
use Rattle.st_lists.specs.declared.lists.Branch.{Branch}
use Rattle.st_plain.specs.Replicas.{AreHeads, IsHeadOf, IsReplicaOf}
use Rattle.st_world_laws.specs.Worlds.{HasMain, IsBranch, IsClient}
use Rattle.st_world.specs.World.{HasShown, IsDeliveredTo, after_commit, after_edit, cells_given, opening_document, with_new_on}
use Rattle.std.proofs.lemmas.List.{append-nil, take_all}
use Rattle.st_ids.specs.declared.names.Limit.{Limit}
use Rattle.st_tree.specs.declared.edit.EditFault.{EditFault}
use Rattle.st_marks.specs.declared.intents.Intent.{Intent}
use Rattle.st_marks.specs.declared.verdicts.Verdict.{Verdict}
use Rattle.st_marks.specs.Document.{Document}
use Rattle.st_marks.specs.Run.{Run, done as nothing, next}
use Rattle.st_marks.specs.Verdict.{IsVerdict, carried_document}
use Rattle.st_marks.proofs.OneVerdict.{run_then}
use Rattle.st_log_laws.specs.Turns.{FitInTurn}
use Rattle.st_log_laws.proofs.Turns.{rest as rest_fit}
use Rattle.st_doc.specs.Doc.{document_of}
use Rattle.st_doc.specs.declared.doc.Doc.{Doc}
use Rattle.st_heads.specs.declared.heads.Head.{Head}
use Rattle.st_heads.specs.Remembered.{AreCarried, none as nothing_done}
use Rattle.st_heads.proofs.Runs.{as_many, run_of, runs_joined}
use Rattle.st_script.specs.Header.{HeaderView}
use Rattle.st_script.specs.declared.answer.Answer.{Answer}
use Rattle.st_plain_log.specs.Receiving.{HasCaughtUp, IsNewReplica, CanReceive, CanCarry, HasMoved, HasReceivedNext, HasReceivedOf, HasReceivedOne}
use Rattle.st_plain_edits.specs.Taking.{IsPending, HasTaken, HasPart, HasCommittedOf}
use Rattle.st_heads.specs.Replicas.{IsCommitted}
use Rattle.st_lists.specs.Log.{commit_of, commits_in, log_with, waiting}
use Rattle.st_lists.specs.Clients.{joined_of, with_begun, with_connection, with_edited, with_new_commit, with_transaction, without_connection, without_transaction, new_client, pending_after, received_by, with_received}
use Rattle.st_lists.specs.Lines.{main_line}
use Rattle.st_lists.specs.declared.lists.Transaction.{Transaction}
use Rattle.st_heads.specs.Transactions.{HasOpen}
use Rattle.st_lists.specs.Open.{with_open}
use Rattle.st_ids.specs.declared.names.Rev.{Rev}
use Rattle.std.specs.Option.{option_and_then}
use Rattle.st_lists.specs.Limits.{limit_passed}
use Rattle.st_world.specs.declared.edit_word.EditWord.{EditWord}
use Rattle.st_heads.specs.declared.replica.Replica.{Replica}
use Rattle.st_lists.specs.declared.lists.Body.{Body}
use Rattle.st_lists.specs.declared.lists.Body.TheVariants.{Join}
use Rattle.st_lists.specs.declared.lists.Client.{Client}
use Rattle.st_lists.specs.declared.lists.Entry.{Entry}
use Rattle.st_world_laws.proofs.Begun.{IsStart}
use Rattle.st_lists.proofs.Names.{names_append}
use Rattle.st_world_laws.proofs.Clients.{other_fit, own_first, received_more}
use Rattle.st_world_laws.proofs.Parts.{names_edited}
use Rattle.st_lists.proofs.Logs.{commits_split, one_commit, no_commit, entered_commits, entered_front, last_entry}
use Rattle.st_plain_log.proofs.Receiving.{rest_carried}
use Rattle.st_plain_log.proofs.Entries.{run_more}

-- what is kept shows what the client does
pub kept_main : (h : HeaderView) (log : List Entry) (c : Client) (k : Replica) → IsReplicaOf h log c k → HasMain h log c (document_of k.main.doc)
kept_main h log c k w = run_then w.received (run_of w.own)

pub kept_shown : (h : HeaderView) (log : List Entry) (c : Client) (k : Replica) → IsReplicaOf h log c k → HasShown (opening_document h) log (main_line c) (with_open (document_of k.main.doc) (joined_of c))
kept_shown h log c k w = (document_of k.main.doc, kept_main h log c k w, refl)

-- what a client and what is kept of it are together
pub record AreOne (h : HeaderView) (log : List Entry) (c : Client) (k : Replica) : Type 0 where
  pub client : IsClient h log c
  pub kept : IsReplicaOf h log c k

-- nothing is edited where no transaction is open
pub none_edited : {h : HeaderView} {log : List Entry} (c : Client) (k : Replica) → c.transaction ≡ None → IsReplicaOf h log c k → k.main.edited ≡ None
none_edited c k none w = subst (λ (o : Option Transaction). HasOpen k.main (option_and_then (λ (x : Transaction). x.joined) o)) none w.edited

pub still_none : (k : Replica) (o : Option Transaction) → o ≡ None → k.main.edited ≡ None → HasOpen k.main (option_and_then (λ (x : Transaction). x.joined) o)
still_none k o none edited = subst (λ (o : Option Transaction). HasOpen k.main (option_and_then (λ (x : Transaction). x.joined) o)) (sym none) edited

-- the heads of the other branches stay
pub still_heads : (O : Document) (log : List Entry) (bs : List Branch) (k k' : Replica) → k'.branches ≡ k.branches → AreHeads O log bs k.branches → AreHeads O log bs k'.branches
still_heads O log bs k k' same w = subst (AreHeads O log bs) (sym same) w

-- how many names wait where what is edited in the open transaction is this
pub names_with : (c : Client) (o : Option Transaction) → c.transaction ≡ o → unsequenced c ≡ (names_edited (option_and_then (λ (x : Transaction). x.joined) o) + names_in c.pending) + names_on_all c.branches
names_with c o is = ap (λ (o : Option Transaction). (names_edited (option_and_then (λ (x : Transaction). x.joined) o) + names_in c.pending) + names_on_all c.branches) is

module _ (h : HeaderView) (st : IsStart (opening_document h)) where
  -- ## Edits

  pub kept_committed : (log : List Entry) (c : Client) (k k' : Replica) (N : Intent) → c.transaction ≡ None → IsReplicaOf h log c k → IsCommitted k N k' → IsReplicaOf h log (with_new_commit c N) k'
  kept_committed log c k k' N none w done =
      let one_name : names_in (N ∷ []) ≡ names_made N = omega arith in
      let before : k.names ≡ (names_edited (joined_of c) + names_in c.pending) + names_on_all c.branches = w.names in
      let now : k'.names ≡ (names_edited (joined_of c) + names_in (c.pending ++ N ∷ [])) + names_on_all c.branches = omega (arith, done.names, before, names_append c.pending (N ∷ []), one_name) in
      record {
        received = subst (λ (d : Doc). Run (opening_document h) (received_by log c) (document_of d)) (sym done.received) w.received;
        own = subst (λ (d : Doc). AreCarried (document_of d) (c.pending ++ N ∷ []) k'.main.own (document_of k'.main.doc)) (sym done.received)
            (subst (λ ks. AreCarried (document_of k.received) (c.pending ++ N ∷ []) ks (document_of k'.main.doc)) (sym done.main.own) (runs_joined w.own done.main.run));
        edited = still_none k' c.transaction none (done.main.edited ∙ none_edited c k none w);
        branches = still_heads (opening_document h) log c.branches k k' done.branches w.branches;
        names = now;
      }

  -- after what an edit means was taken in
  pub kept_taken : (log : List Entry) (c c' : Client) (k k' : Replica) (word : EditWord) (r : Result Intent EditFault) (a : Answer) → c.transaction ≡ None → IsReplicaOf h log c k
      → after_edit c 0 (main_line c) word r ≡ (c', a) → HasTaken c None k r c' k' → IsReplicaOf h log c' k'
  kept_taken log c c' k k' word (Err f) a none w is kept =
      let same : c ≡ c' = ap (λ (p : Client × Answer). p.0) is in
      subst (λ x. IsReplicaOf h log x k') same (subst (λ x. IsReplicaOf h log c x) (sym kept) w)
  kept_taken log c c' k k' word (Ok N) a none w is kept = go (limit_passed c 0 (main_line c) N) is kept
    where
      go : (o : Option Limit) → with_new_on c 0 word N o ≡ (c', a) → IsPending k N o k' → IsReplicaOf h log c' k'
      go (Some l) is kept =
          let same : c ≡ c' = ap (λ (p : Client × Answer). p.0) is in
          subst (λ x. IsReplicaOf h log x k') same (subst (λ x. IsReplicaOf h log c x) (sym kept) w)
      go None is kept =
          let same : with_new_commit c N ≡ c' = ap (λ (p : Client × Answer). p.0) is in
          subst (λ x. IsReplicaOf h log x k') same (kept_committed log c k k' N none w kept)

  pub kept_parted : (log : List Entry) (c : Client) (t : Transaction) (k k' : Replica) (word : EditWord) (M K : Intent) → c.transaction ≡ Some t → IsReplicaOf h log c k → names_made K ≡ names_edited t.joined + names_made M
      → HasPart k.main k.names M (Some K) k'.main k'.names → k'.received ≡ k.received → k'.branches ≡ k.branches
      → IsReplicaOf h log (with_transaction c (with_edited t K (length M.new) (cells_given word M))) k'
  kept_parted log c t k k' word M K is w whole part received branches = record {
    received = subst (λ (d : Doc). Run (opening_document h) (received_by log c) (document_of d)) (sym received) w.received;
    own = subst (λ (d : Doc). AreCarried (document_of d) c.pending k'.main.own (document_of k'.main.doc)) (sym received)
        (subst (λ ks. AreCarried (document_of k.received) c.pending ks (document_of k'.main.doc)) (sym part.own) (subst (λ (d : Doc). AreCarried (document_of k.received) c.pending k.main.own (document_of d)) (sym part.doc) w.own));
    edited = part.edited;
    branches = still_heads (opening_document h) log c.branches k k' branches w.branches;
    names = now;
  }
    where
      waiting : unsequenced c ≡ (names_edited t.joined + names_in c.pending) + names_on_all c.branches
      waiting = names_with c (Some t) is

      now : k'.names ≡ (names_made K + names_in c.pending) + names_on_all c.branches
      now = omega (arith, part.names, w.names, whole, waiting)

  -- ## Transactions that begin and end

  pub kept_begun : (log : List Entry) (c : Client) (k : Replica) (under : Rev) → c.transaction ≡ None → IsReplicaOf h log c k → IsReplicaOf h log (with_begun c under) k
  kept_begun log c k under none w = record {
    received = w.received;
    own = w.own;
    edited = none_edited c k none w;
    branches = w.branches;
    names = w.names ∙ names_with c None none;
  }

  pub kept_ended : (log : List Entry) (c : Client) (t : Transaction) (k : Replica) → c.transaction ≡ Some t → IsReplicaOf h log c k
      → IsReplicaOf h log (without_transaction c) (record k { main = record k.main { edited = None }; names = k.names - names_edited t.joined })
  kept_ended log c t k is w = record { received = w.received; own = w.own; edited = refl; branches = w.branches; names = now }
    where
      waiting : unsequenced c ≡ (names_edited t.joined + names_in c.pending) + names_on_all c.branches
      waiting = names_with c (Some t) is

      now : k.names - names_edited t.joined ≡ (0 + names_in c.pending) + names_on_all c.branches
      now = omega (arith, w.names, waiting)

  pub kept_commits : (log : List Entry) (c : Client) (t : Transaction) (k k' : Replica) → c.transaction ≡ Some t → IsReplicaOf h log c k → HasCommittedOf k t.joined k' → IsReplicaOf h log (after_commit (without_transaction c) 0 t.rev t.joined).0 k'
  kept_commits log c t k k' is w done = go t.joined waiting (subst (λ (o : Option Transaction). HasOpen k.main (option_and_then (λ (x : Transaction). x.joined) o)) is w.edited) done
    where
      waiting : k.names ≡ (names_edited t.joined + names_in c.pending) + names_on_all c.branches
      waiting = w.names ∙ names_with c (Some t) is

      go : (o : Option Intent) → k.names ≡ (names_edited o + names_in c.pending) + names_on_all c.branches → HasOpen k.main o → HasCommittedOf k o k' → IsReplicaOf h log (after_commit (without_transaction c) 0 t.rev o).0 k'
      go None names edited done = subst (IsReplicaOf h log (without_transaction c)) (sym done) (record { received = w.received; own = w.own; edited = edited; branches = w.branches; names = names })
      go (Some J) names edited done =
          let one_name : names_in (J ∷ []) ≡ names_made J = omega arith in
          let before : k.names ≡ (names_made J + names_in c.pending) + names_on_all c.branches = names in
          let now : k'.names ≡ (0 + names_in (c.pending ++ J ∷ [])) + names_on_all c.branches = omega (arith, done.names, before, names_append c.pending (J ∷ []), one_name) in
          record {
            received = subst (λ (d : Doc). Run (opening_document h) (received_by log c) (document_of d)) (sym done.received) w.received;
            own = subst (λ (d : Doc). AreCarried (document_of d) (c.pending ++ J ∷ []) k'.main.own (document_of k'.main.doc)) (sym done.received)
                (subst (λ ks. AreCarried (document_of k.received) (c.pending ++ J ∷ []) ks (document_of k'.main.doc)) (sym done.main.own) (runs_joined w.own done.main.run));
            edited = done.main.edited;
            branches = still_heads (opening_document h) log c.branches k k' done.branches w.branches;
            names = now;
          }

  -- ## Receiving

  -- the next entry can be received
  pub can_receive : (log : List Entry) (c : Client) (k : Replica) (e : Entry) → AreOne h log c k → names_in (commits_in log) ≤ 131072 → slice_get log c.received ≡ Some e → CanReceive c k e
  can_receive log c k e w all at = go (commit_of e) refl
    where
      own : (N : Intent) → commit_of e ≡ Some N → (e.session == c.session) ≡ true → CanCarry c k true N
      own N is b =
          let first = own_first h st log c e N w.client at is b in
          let names : names_in c.pending ≡ names_made N + _ = ap names_in first in
          let before : k.names ≡ (names_edited (joined_of c) + names_in c.pending) + names_on_all c.branches = w.kept.names in
          record {
            fits = (subst (FitInTurn (document_of k.received)) first (rest_fit c.pending w.kept.received w.client.shown_fit)).0;
            later = λ bad. cc;
            first = λ u. omega (arith, ap length first, as_many w.kept.own);
            names = λ u. omega (arith, names, before);
          }

      other : (N : Intent) → commit_of e ≡ Some N → (e.session == c.session) ≡ false → CanCarry c k false N
      other N is b =
          let fit = rest_fit (N ∷ c.pending) w.kept.received (other_fit h st log c e N w.client at is b all) in
          record { fits = fit.0; later = λ u. fit; first = λ bad. cc; names = λ bad. cc }

      by : (N : Intent) → commit_of e ≡ Some N → (b : Bool) → (e.session == c.session) ≡ b → CanCarry c k b N
      by N is true b = own N is b
      by N is false b = other N is b

      go : (o : Option Intent) → commit_of e ≡ o → IfSome o (CanCarry c k (e.session == c.session))
      go None is = tt
      go (Some N) is = by N is (e.session == c.session) refl

  kept_own : (log : List Entry) (c : Client) (k k' : Replica) (e : Entry) (N : Intent) (v : Verdict) → AreOne h log c k → slice_get log c.received ≡ Some e → commit_of e ≡ Some N → (e.session == c.session) ≡ true → c.transaction ≡ None
      → HasReceivedOne c k true N v k' → IsReplicaOf h log (record c { received = c.received + 1; pending = drop 1 c.pending }) k'
  kept_own log c k k' e N v w at is own none got =
      let A = received_by log c in
      let first = own_first h st log c e N w.client at is own in
      let tail : drop 1 c.pending ≡ _ = ap (λ l. drop 1 l) first in
      let head : c.pending ≡ N ∷ drop 1 c.pending = first ∙ ap (λ l. N ∷ l) (sym tail) in
      let now : commits_in (take (c.received + 1) log) ≡ A ++ N ∷ [] = received_more h st log c e at ∙ ap (λ l. A ++ l) (one_commit e N is) in
      let names : names_in c.pending ≡ names_made N + names_in (drop 1 c.pending) = ap names_in head in
      let before : k.names ≡ (names_edited (joined_of c) + names_in c.pending) + names_on_all c.branches = w.kept.names in
      let left : k'.names ≡ (names_edited (joined_of c) + names_in (drop 1 c.pending)) + names_on_all c.branches = omega (arith, got.1.1, names, before) in
      record {
        received = subst (λ l. Run (opening_document h) l (document_of k'.received)) (sym now) (run_more N (document_of k'.received) v w.kept.received got.0.verdict got.0.after);
        own = subst (λ (m : Head). AreCarried (document_of k'.received) (drop 1 c.pending) m.own (document_of m.doc)) (sym got.1.0)
            (rest_carried (document_of k.received) (document_of k'.received) (document_of k.main.doc) N (drop 1 c.pending) k.main.own v
            (subst (λ l. AreCarried (document_of k.received) l k.main.own (document_of k.main.doc)) head w.kept.own) (omega (arith, ap length head, as_many w.kept.own)) got.0.verdict got.0.after);
        edited = still_none k' c.transaction none (ap (λ (m : Head). m.edited) got.1.0 ∙ none_edited c k none w.kept);
        branches = still_heads (opening_document h) log c.branches k k' got.0.branches w.kept.branches;
        names = left;
      }

  kept_other : (log : List Entry) (c : Client) (k k' : Replica) (e : Entry) (N : Intent) (v : Verdict) → AreOne h log c k → slice_get log c.received ≡ Some e → commit_of e ≡ Some N → c.transaction ≡ None
      → HasReceivedOne c k false N v k' → IsReplicaOf h log (record c { received = c.received + 1 }) k'
  kept_other log c k k' e N v w at is none got =
      let A = received_by log c in
      let now : commits_in (take (c.received + 1) log) ≡ A ++ N ∷ [] = received_more h st log c e at ∙ ap (λ l. A ++ l) (one_commit e N is) in
      let r : Run (opening_document h) (commits_in (take (c.received + 1) log)) (document_of k'.received) =
      subst (λ l. Run (opening_document h) l (document_of k'.received)) (sym now) (run_more N (document_of k'.received) v w.kept.received got.0.verdict got.0.after) in
      record {
        received = r;
        own = got.1.0;
        edited = still_none k' c.transaction none got.1.1;
        branches = still_heads (opening_document h) log c.branches k k' got.0.branches w.kept.branches;
        names = got.1.2 ∙ w.kept.names;
      }

  kept_none : (log : List Entry) (c : Client) (k : Replica) (e : Entry) → AreOne h log c k → slice_get log c.received ≡ Some e → commit_of e ≡ None → IsReplicaOf h log (record c { received = c.received + 1 }) k
  kept_none log c k e w at is =
      let A = received_by log c in
      let now : A ≡ commits_in (take (c.received + 1) log) = sym (received_more h st log c e at ∙ ap (λ l. A ++ l) (no_commit e is) ∙ append-nil A) in
      record {
        received = subst (λ l. Run (opening_document h) l (document_of k.received)) now w.kept.received;
        own = w.kept.own;
        edited = w.kept.edited;
        branches = w.kept.branches;
        names = w.kept.names;
      }

  one_taken : (log : List Entry) (c : Client) (k k' : Replica) (e : Entry) (v : Verdict) → AreOne h log c k → names_in (commits_in log) ≤ 131072 → slice_get log c.received ≡ Some e → c.transaction ≡ None
      → HasReceivedNext c k e v k' → IsReplicaOf h log (with_received e c) k'
  one_taken log c k k' e v w all at none got = go (commit_of e) refl got
    where
      by : (N : Intent) → commit_of e ≡ Some N → (b : Bool) → (e.session == c.session) ≡ b → HasReceivedOne c k b N v k' → IsReplicaOf h log (with_received e c) k'
      by N is true own got =
          let same : drop 1 c.pending ≡ pending_after e c = sym (rw (is, own) refl) in
          subst (λ (l : List Intent). IsReplicaOf h log (record c { received = c.received + 1; pending = l }) k') same (kept_own log c k k' e N v w at is own none got)
      by N is false other got =
          let same : c.pending ≡ pending_after e c = sym (rw (is, other) refl) in
          subst (λ (l : List Intent). IsReplicaOf h log (record c { received = c.received + 1; pending = l }) k') same (kept_other log c k k' e N v w at is none got)

      go : (o : Option Intent) → commit_of e ≡ o → HasReceivedOf c k (e.session == c.session) o v k' → IsReplicaOf h log (with_received e c) k'
      go (Some N) is got = by N is (e.session == c.session) refl got
      go None is got =
          let same : c.pending ≡ pending_after e c = sym (rw is refl) in
          subst (λ (l : List Intent). IsReplicaOf h log (record c { received = c.received + 1; pending = l }) k') same
          (subst (λ x. IsReplicaOf h log (record c { received = c.received + 1 }) x) (sym got.1) (kept_none log c k e w at is))

  pub kept_delivered : (log : List Entry) (c c' : Client) (k k' : Replica) (D : Document) (a : Answer) → AreOne h log c k → names_in (commits_in log) ≤ 131072 → c.transaction ≡ None
      → IsDeliveredTo D c (slice_get log c.received) c' a → HasMoved c k (slice_get log c.received) k' → IsReplicaOf h log c' k'
  kept_delivered log c c' k k' D a w all none done moved = go (slice_get log c.received) refl done moved
    where
      go : (o : Option Entry) → slice_get log c.received ≡ o → IsDeliveredTo D c o c' a → HasMoved c k o k' → IsReplicaOf h log c' k'
      go None at done moved = subst (λ x. IsReplicaOf h log x k') (sym done.0) (subst (λ x. IsReplicaOf h log c x) (sym moved) w.kept)
      go (Some e) at done moved = subst (λ x. IsReplicaOf h log x k') (sym done.2) (one_taken log c k k' e moved.0 w all at none moved.1)

  -- ## The log grows

  -- a branch stands on the same commits, where it has received no more than the log had
  head_entered : (log : List Entry) (session : ℕ) (body : Body) (b : Branch) (k : Head) → b.received ≤ length log → IsHeadOf (opening_document h) log b k → IsHeadOf (opening_document h) (log_with log session body) b k
  head_entered log session body b k within w = record {
    base = w.base;
    stands = subst (λ (es : List Entry). Run (opening_document h) (commits_in es ++ b.base) w.base) (sym (entered_front log session body b.received within)) w.stands;
    own = w.own;
    edited = w.edited;
  }

  pub heads_entered : (log : List Entry) (session : ℕ) (body : Body) (bs : List Branch) (ks : List Head) → AllByRecursion (λ (b : Branch). b.received ≤ length log) bs → AreHeads (opening_document h) log bs ks
      → AreHeads (opening_document h) (log_with log session body) bs ks
  heads_entered log session body [] [] within w = tt
  heads_entered log session body [] (k ∷ ks) within w = absurd w
  heads_entered log session body (b ∷ bs) [] within w = absurd w
  heads_entered log session body (b ∷ bs) (k ∷ ks) within w = (head_entered log session body b k within.0 w.0, heads_entered log session body bs ks within.1 w.1)

  -- a client's branches have received no more than the log has
  pub branches_within : (log : List Entry) (c : Client) → IsClient h log c → AllByRecursion (λ (b : Branch). b.received ≤ length log) c.branches
  branches_within log c w = go c.branches w.branches.each
    where
      go : (bs : List Branch) → AllByRecursion (IsBranch h log c) bs → AllByRecursion (λ (b : Branch). b.received ≤ length log) bs
      go [] each = tt
      go (b ∷ bs) each = (each.0.within, go bs each.1)

  pub kept_entered : (log : List Entry) (session : ℕ) (body : Body) (c : Client) (k : Replica) → IsClient h log c → IsReplicaOf h log c k → IsReplicaOf h (log_with log session body) c k
  kept_entered log session body c k own w =
      let front = sym (entered_front log session body c.received own.within) in
      record {
        received = subst (λ (es : List Entry). Run (opening_document h) (commits_in es) (document_of k.received)) front w.received;
        own = w.own;
        edited = w.edited;
        branches = heads_entered log session body c.branches k.branches (branches_within log c own) w.branches;
        names = w.names;
      }

  pub kept_rest : (log : List Entry) (c : Client) (rest : List Body) (k : Replica) → IsReplicaOf h log c k → IsReplicaOf h log (record c { queue = rest }) k
  kept_rest log c rest k w = record { received = w.received; own = w.own; edited = w.edited; branches = w.branches; names = w.names }

  -- of one that isn't connected any more
  pub kept_offline : (log : List Entry) (c : Client) (k : Replica) → IsReplicaOf h log c k → IsReplicaOf h log (without_connection c) k
  kept_offline log c k w = record { received = w.received; own = w.own; edited = w.edited; branches = w.branches; names = w.names }

  -- of one that comes back
  pub kept_returned : (log : List Entry) (c : Client) (k k' : Replica) → c.transaction ≡ None → IsClient h log c → IsReplicaOf h log c k → HasCaughtUp log c k k' → IsReplicaOf h (log_with log c.session (Join c.uuid)) (with_connection log c) k'
  kept_returned log c k k' none own w up =
      let longer = log_with log c.session (Join c.uuid) in
      let size : length longer ≡ length log + 1 = omega (arith, length-append log (last_entry log c.session (Join c.uuid) ∷ [])) in
      let commits : commits_in log ≡ commits_in longer = sym (entered_commits log c.session (Join c.uuid) ∙ append-nil (commits_in log)) in
      let whole : take (length log + 1) longer ≡ longer = take_all (length log + 1) longer (omega (arith, size)) in
      let before : k.names ≡ (0 + names_in c.pending) + names_on_all c.branches = w.names ∙ names_with c None none in
      let few : k'.names ≡ (0 + names_in (waiting log c)) + names_on_all c.branches = omega (arith, up.names, before) in
      let split : received_by log c ++ commits_in (drop c.received log) ≡ commits_in (take (length log + 1) longer) = sym (commits_split c.received log) ∙ commits ∙ ap commits_in (sym whole) in
      record {
        received = subst (λ l. Run (opening_document h) l (document_of k'.received)) split (run_then w.received up.received);
        own = up.own;
        edited = still_none k' c.transaction none up.edited;
        branches = still_heads (opening_document h) longer c.branches k k' up.branches (heads_entered log c.session (Join c.uuid) c.branches k.branches (branches_within log c own) w.branches);
        names = few ∙ sym (names_with (with_connection log c) None none);
      }

  -- of a client that joins
  pub kept_joined : (log : List Entry) (n session uuid : ℕ) (name : List ℕ) (k : Replica) (D : Document) → n ≡ length log → Run (opening_document h) (commits_in log) D → IsNewReplica D k
      → IsReplicaOf h log (new_client n session uuid name) k
  kept_joined log n session uuid name k D is_n run new =
      let whole : log ≡ take n log = sym (take_all n log (omega (arith, is_n))) in
      record {
        received = subst (λ (es : List Entry). Run (opening_document h) (commits_in es) (document_of k.received)) whole (subst (λ (E : Document). Run (opening_document h) (commits_in log) E) (sym new.received) run);
        own = subst (λ (E : Document). AreCarried (document_of k.received) [] k.main.own E) (new.received ∙ sym new.shown) (subst (λ ks. AreCarried (document_of k.received) [] ks (document_of k.received)) (sym new.own) nothing_done);
        edited = new.edited;
        branches = subst (AreHeads (opening_document h) log []) (sym new.branches) tt;
        names = new.names;
      }
