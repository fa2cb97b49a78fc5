-- What a client's own steps make of clients that are alike.
use Rattle.std.proofs.Common.{◌≡◌, ℕ, zero, suc, ◌+◌, ◌==◌, ◌&&◌, Bool, true, false, not, List, [], ◌∷◌, ◌++◌, length, drop, Option, Some, None, refl, ap, cond, is_some}
use Rattle.std.specs.List.{filter}
use Rattle.st_ids.specs.declared.names.Rev.{Rev}
use Rattle.st_marks.specs.declared.intents.Intent.{Intent}
use Rattle.st_lists.specs.declared.lists.Body.{Body}
use Rattle.st_lists.specs.declared.lists.Body.TheVariants.{Ack, Commit}
use Rattle.st_lists.specs.declared.lists.Branch.{Branch}
use Rattle.st_lists.specs.declared.lists.Client.{Client}
use Rattle.st_lists.specs.declared.lists.Entry.{Entry}
use Rattle.st_lists.specs.declared.lists.Transaction.{Transaction}
use Rattle.st_clusters.specs.Log.{carried_count}
use Rattle.st_lists.specs.Clients.{carried_of, ids_from, is_own, new_transaction, queue_with, taken_after, taken_with, texts_from, with_ack, with_connection, with_edited, with_id, with_new_commit, with_received, without_connection}
use Rattle.st_lists.specs.Lines.{Line, new_branch, on_branch, with_base, with_branch, with_commit_on, with_commits_on, with_transaction_on, without_branch}
use Rattle.st_lists.specs.Log.{commit_of, waiting}
use Rattle.st_one_laws.specs.AlikeWorlds.{AlikeBody, AlikeBranch, AlikeClient, AlikeEntry, AlikeLine, AlikeTransaction, InBoth, IsAlike, OneByOne}
use Rattle.st_one_laws.proofs.OneByOne.{as_long, behind, dropped, filtered, mapped}
use Rattle.st_one_laws.proofs.AlikeLogs.{connected_both, ranges_alike, received_both, session_alike, waiting_alike}

pub some_alike : {A : Type 0} (R : A → A → Type 0) (o p : Option A) → InBoth R o p → is_some o ≡ is_some p
some_alike R None None a = refl
some_alike R None (Some y) a = absurd a
some_alike R (Some x) None a = absurd a
some_alike R (Some x) (Some y) a = refl

pub chosen : {A : Type 0} (R : A → A → Type 0) (b c : Bool) (x y z u : A) → b ≡ c → R x y → R z u → R (cond b x z) (cond c y u)
chosen R true true x y z u e r s = r
chosen R true false x y z u e r s = absurd (cc)
chosen R false true x y z u e r s = absurd (cc)
chosen R false false x y z u e r s = s

pub ids_alike : (c d : Client) (n m : ℕ) → AlikeClient c d → n ≡ m → AlikeClient (record c { ids = n }) (record d { ids = m })
ids_alike c d n m a e = record { plain = λ i. record (a.plain i) { ids = e i }; pending = a.pending; transaction = a.transaction; queue = a.queue; branches = a.branches }

pub ids_more : (c d : Client) → AlikeClient c d → c.ids + 1 ≡ d.ids + 1
ids_more c d a = ap (λ (x : Client). x.ids + 1) a.plain

branches_alike : (k : ℕ) (f g : Branch → Branch) → ((b e : Branch) → AlikeBranch b e → AlikeBranch (f b) (g e)) → (bs es : List Branch) → OneByOne AlikeBranch bs es
    → OneByOne AlikeBranch (on_branch k f bs) (on_branch k g es)
branches_alike k f g r bs es o = mapped AlikeBranch AlikeBranch (λ (b : Branch). cond (b.number == k) (f b) b) (λ (b : Branch). cond (b.number == k) (g b) b)
    (λ b e a. chosen AlikeBranch (b.number == k) (e.number == k) (f b) (g e) b e (ap (λ n. n == k) a.number) (r b e a) a) bs es o

with_branches : (c d : Client) (bs es : List Branch) → AlikeClient c d → OneByOne AlikeBranch bs es → AlikeClient (record c { branches = bs }) (record d { branches = es })
with_branches c d bs es a o = record { plain = a.plain; pending = a.pending; transaction = a.transaction; queue = a.queue; branches = o }

-- ## Commits

pub queued_alike : (c d : Client) (b e : Body) → AlikeClient c d → AlikeBody b e → OneByOne AlikeBody (queue_with c b) (queue_with d e)
queued_alike c d b e a r = chosen (OneByOne AlikeBody) c.connected d.connected (c.queue ++ b ∷ []) (d.queue ++ e ∷ []) c.queue d.queue (connected_both c d a)
    (behind AlikeBody c.queue d.queue (b ∷ []) (e ∷ []) a.queue (r, tt)) a.queue

pub committed_on : (c d : Client) (k : ℕ) (N M : Intent) → AlikeClient c d → IsAlike N M → AlikeClient (with_commit_on c k N) (with_commit_on d k M)
committed_on c d zero N M a r = record {
  plain = ap (λ (x : Client). record x { taken = taken_with x }) a.plain;
  pending = behind IsAlike c.pending d.pending (N ∷ []) (M ∷ []) a.pending (r, tt);
  transaction = a.transaction;
  queue = queued_alike c d (Commit c.received (ids_from c.session c.taken c.ids) N) (Commit d.received (ids_from d.session d.taken d.ids) M) a (ap (λ (x : Client). (Ack x.received, Some (ids_from x.session x.taken x.ids))) a.plain, r);
  branches = a.branches;
}
committed_on c d (suc k) N M a r = with_branches c d (on_branch (suc k) (λ b. record b { own = b.own ++ N ∷ [] }) c.branches) (on_branch (suc k) (λ b. record b { own = b.own ++ M ∷ [] }) d.branches) a
    (branches_alike (suc k) (λ b. record b { own = b.own ++ N ∷ [] }) (λ b. record b { own = b.own ++ M ∷ [] }) one c.branches d.branches a.branches)
  where
    one : (b e : Branch) → AlikeBranch b e → AlikeBranch (record b { own = b.own ++ N ∷ [] }) (record e { own = e.own ++ M ∷ [] })
    one b e s = record { number = s.number; parent = s.parent; received = s.received; base = s.base; own = behind IsAlike b.own e.own (N ∷ []) (M ∷ []) s.own (r, tt); transaction = s.transaction }

pub all_committed_on : (k : ℕ) (Ns Ms : List Intent) (c d : Client) → AlikeClient c d → OneByOne IsAlike Ns Ms → AlikeClient (with_commits_on c k Ns) (with_commits_on d k Ms)
all_committed_on k [] [] c d a o = a
all_committed_on k [] (M ∷ Ms) c d a o = absurd o
all_committed_on k (N ∷ Ns) [] c d a o = absurd o
all_committed_on k (N ∷ Ns) (M ∷ Ms) c d a o = all_committed_on k Ns Ms (with_commit_on c k N) (with_commit_on d k M) (committed_on c d k N M a o.0) o.1

pub newly_committed : (c d : Client) (N M : Intent) → AlikeClient c d → IsAlike N M → AlikeClient (with_new_commit c N) (with_new_commit d M)
newly_committed c d N M a r = committed_on (with_id c) (with_id d) 0 N M (ids_alike c d (c.ids + 1) (d.ids + 1) a (ids_more c d a)) r

-- ## Transactions

pub transaction_on : (c d : Client) (k : ℕ) (t u : Option Transaction) → AlikeClient c d → InBoth AlikeTransaction t u → AlikeClient (with_transaction_on c k t) (with_transaction_on d k u)
transaction_on c d zero t u a r = record { plain = a.plain; pending = a.pending; transaction = r; queue = a.queue; branches = a.branches }
transaction_on c d (suc k) t u a r = with_branches c d (on_branch (suc k) (λ b. record b { transaction = t }) c.branches) (on_branch (suc k) (λ b. record b { transaction = u }) d.branches) a
    (branches_alike (suc k) (λ b. record b { transaction = t }) (λ b. record b { transaction = u }) (λ b e s. record { number = s.number; parent = s.parent; received = s.received; base = s.base; own = s.own; transaction = r }) c.branches d.branches a.branches)

pub new_transaction_alike : (r s under below : Rev) → r ≡ s → under ≡ below → AlikeTransaction (new_transaction r under) (new_transaction s below)
new_transaction_alike r s under below e f = record { rev = e; under = f; nodes = refl; cells = refl; joined = tt }

pub edited_one : (t u : Transaction) (J K : Intent) (n m n' m' : ℕ) → AlikeTransaction t u → IsAlike J K → n ≡ n' → m ≡ m' → AlikeTransaction (with_edited t J n m) (with_edited u K n' m')
edited_one t u J K n m n' m' a r e f = record { rev = a.rev; under = a.under; nodes = λ i. a.nodes i + e i; cells = λ i. a.cells i + f i; joined = r }

-- ## Receiving and sessions

own_alike : (e f : Entry) (c d : Client) → AlikeEntry e f → AlikeClient c d → is_own e c ≡ is_own f d
own_alike e f c d a b = λ i. some_alike IsAlike (commit_of e) (commit_of f) a.body.1 i && (a.session i == session_alike c d b i)

pub taken_alike : (e f : Entry) (c d : Client) → AlikeEntry e f → AlikeClient c d → AlikeClient (with_received e c) (with_received f d)
taken_alike e f c d a b = record {
  plain = ap (λ (x : Client). record x { received = x.received + 1 }) b.plain;
  pending = chosen (OneByOne IsAlike) (is_own e c) (is_own f d) (drop 1 c.pending) (drop 1 d.pending) c.pending d.pending (own_alike e f c d a b) (dropped IsAlike 1 c.pending d.pending b.pending) b.pending;
  transaction = b.transaction;
  queue = b.queue;
  branches = b.branches;
}

pub acked_alike : (c d : Client) → AlikeClient c d → AlikeClient (with_ack c) (with_ack d)
acked_alike c d a = record {
  plain = a.plain;
  pending = a.pending;
  transaction = a.transaction;
  queue = behind AlikeBody c.queue d.queue (Ack c.received ∷ []) (Ack d.received ∷ []) a.queue ((ap (λ n. (Ack n, None)) (received_both c d a), tt), tt);
  branches = a.branches;
}

pub offline_alike : (c d : Client) → AlikeClient c d → AlikeClient (without_connection c) (without_connection d)
offline_alike c d a = record { plain = ap (λ (x : Client). record x { connected = false }) a.plain; pending = a.pending; transaction = a.transaction; queue = tt; branches = a.branches }

-- texts of commits that say the same, under one reference and with the same ids
texts_alike : (n m s z t u ids jds : ℕ) (Ns Ms : List Intent) → n ≡ m → s ≡ z → t ≡ u → ids ≡ jds → OneByOne IsAlike Ns Ms → OneByOne AlikeBody (texts_from n s t ids Ns) (texts_from m z u jds Ms)
texts_alike n m s z t u ids jds [] [] e f g h o = tt
texts_alike n m s z t u ids jds [] (M ∷ Ms) e f g h o = absurd o
texts_alike n m s z t u ids jds (N ∷ Ns) [] e f g h o = absurd o
texts_alike n m s z t u ids jds (N ∷ Ns) (M ∷ Ms) e f g h o = (((λ i. (Ack (e i), Some (ids_from (f i) (g i) (h i)))), o.0), texts_alike n m s z ids jds ids jds Ns Ms e f h h o.1)

after_alike : (t u ids jds : ℕ) (Ns Ms : List Intent) → t ≡ u → ids ≡ jds → OneByOne IsAlike Ns Ms → taken_after t ids Ns ≡ taken_after u jds Ms
after_alike t u ids jds [] [] g h o = g
after_alike t u ids jds [] (M ∷ Ms) g h o = absurd o
after_alike t u ids jds (N ∷ Ns) [] g h o = absurd o
after_alike t u ids jds (N ∷ Ns) (M ∷ Ms) g h o = h

pub online_alike : (es fs : List Entry) (c d : Client) → OneByOne AlikeEntry es fs → AlikeClient c d → AlikeClient (with_connection es c) (with_connection fs d)
online_alike es fs c d o a =
    let long : length es ≡ length fs = as_long AlikeEntry es fs o in
    let rest = waiting_alike es fs c d o a in
    let ids : c.ids ≡ d.ids = ap (λ (x : Client). x.ids) a.plain in
    let carried : carried_of es c ≡ carried_of fs d = λ i. carried_count (session_alike c d a i) (ranges_alike es fs o i) in
    let taken = after_alike (carried_of es c) (carried_of fs d) c.ids d.ids (waiting es c) (waiting fs d) carried ids rest in
    record {
      plain = λ i. record (a.plain i) { connected = true; received = long i + 1; taken = taken i };
      pending = rest;
      transaction = a.transaction;
      queue = texts_alike (length es + 1) (length fs + 1) c.session d.session (carried_of es c) (carried_of fs d) c.ids d.ids (waiting es c) (waiting fs d) (ap (λ n. n + 1) long) (session_alike c d a) carried ids rest;
      branches = a.branches;
    }

pub sent_alike : (c d : Client) (bs ds : List Body) → AlikeClient c d → OneByOne AlikeBody bs ds → AlikeClient (record c { queue = bs }) (record d { queue = ds })
sent_alike c d bs ds a o = record { plain = a.plain; pending = a.pending; transaction = a.transaction; queue = o; branches = a.branches }

-- ## Branches

pub forked_alike : (c d : Client) (k : ℕ) (l m : Line) → AlikeClient c d → AlikeLine l m → AlikeClient (with_branch c k l) (with_branch d k m)
forked_alike c d k l m a b =
    let more : c.forks + 1 ≡ d.forks + 1 = ap (λ (x : Client). x.forks + 1) a.plain in
    let one : AlikeBranch (new_branch (c.forks + 1) k l) (new_branch (d.forks + 1) k m) = record { number = more; parent = refl; received = b.received; base = behind IsAlike l.base m.base l.own m.own b.base b.own; own = tt; transaction = tt } in
    record {
      plain = ap (λ (x : Client). record x { forks = x.forks + 1 }) a.plain;
      pending = a.pending;
      transaction = a.transaction;
      queue = a.queue;
      branches = behind AlikeBranch c.branches d.branches (new_branch (c.forks + 1) k l ∷ []) (new_branch (d.forks + 1) k m ∷ []) a.branches (one, tt);
    }

pub based_alike : (c d : Client) (k : ℕ) (l m : Line) → AlikeClient c d → AlikeLine l m → AlikeClient (with_base c k l) (with_base d k m)
based_alike c d k l m a b = with_branches c d (on_branch k (λ b. record b { received = l.received; base = l.base ++ l.own }) c.branches) (on_branch k (λ b. record b { received = m.received; base = m.base ++ m.own }) d.branches) a
    (branches_alike k (λ b. record b { received = l.received; base = l.base ++ l.own }) (λ b. record b { received = m.received; base = m.base ++ m.own })
    (λ x y s. record { number = s.number; parent = s.parent; received = b.received; base = behind IsAlike l.base m.base l.own m.own b.base b.own; own = s.own; transaction = s.transaction }) c.branches d.branches a.branches)

pub without_alike : (c d : Client) (k : ℕ) → AlikeClient c d → AlikeClient (without_branch c k) (without_branch d k)
without_alike c d k a = with_branches c d (filter (λ (b : Branch). not (b.number == k)) c.branches) (filter (λ (b : Branch). not (b.number == k)) d.branches) a
    (filtered AlikeBranch (λ (b : Branch). not (b.number == k)) (λ (b : Branch). not (b.number == k)) (λ b e r. ap (λ n. not (n == k)) r.number) c.branches d.branches a.branches)
