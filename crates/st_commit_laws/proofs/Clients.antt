-- What a client does by itself with commits that can be told: they move between its lists, and come behind others.
use Rattle.std.proofs.Common.{◌≡◌, ℕ, zero, suc, ◌+◌, ◌==◌, Bool, true, false, cond, not, ◌&&◌, drop, filter, take, List, [], ◌∷◌, ◌++◌, Option, Some, IfSome, is_some, sym, subst}
use Rattle.std.specs.List.{AllByRecursion}
use Rattle.st_lemmas.proofs.Lists.{AllByRecursion-append}
use Rattle.st_lemmas.proofs.Options.{one_some}
use Rattle.st_marks.specs.declared.intents.Intent.{Intent}
use Rattle.st_marks.proofs.Members.{all-has}
use Rattle.st_lists.specs.Clients.{ids_from, texts_from, with_ack, with_connection, with_id, with_received, without_connection}
use Rattle.st_lists.specs.Lines.{Line, branch_line, commits_of, line_of, main_line, new_branch, on_branch, with_base, with_branch, with_commit_on, with_commits_on, with_transaction_on, without_branch}
use Rattle.st_lists.specs.Log.{commit_of, commits_in, intents_of, waiting}
use Rattle.st_lists.specs.declared.lists.Body.{Body}
use Rattle.st_lists.specs.declared.lists.Body.TheVariants.{Ack, Commit}
use Rattle.st_lists.specs.declared.lists.Branch.{Branch}
use Rattle.st_lists.specs.declared.lists.Client.{Client}
use Rattle.st_lists.specs.declared.lists.Entry.{Entry}
use Rattle.st_lists.specs.declared.lists.Transaction.{Transaction}
use Rattle.st_lists.proofs.Logs.{commits_split, texts_append}
use Rattle.st_world_laws.proofs.Lookup.{branch_there, line_there}
use Rattle.st_commit_laws.specs.Tellable.{BranchIsTellable, ClientIsTellable, IsTellable, TransactionIsTellable}
use Rattle.st_commit_laws.proofs.Back.{all_front}

abbrev pub AreTellable : List Intent → Type 0
AreTellable Ns = AllByRecursion IsTellable Ns

-- ## Lists

all_rest : {X : Type 0} (P : X → Type 0) (n : ℕ) (xs : List X) → AllByRecursion P xs → AllByRecursion P (drop n xs)
all_rest P zero xs a = a
all_rest P (suc n) [] a = a
all_rest P (suc n) (x ∷ xs) a = all_rest P n xs a.1

all_filtered : {X : Type 0} (P : X → Type 0) (p : X → Bool) (xs : List X) → AllByRecursion P xs → AllByRecursion P (filter p xs)
all_filtered P p [] a = tt
all_filtered P p (x ∷ xs) a = go (p x) (all_filtered P p xs a.1)
  where
    go : (b : Bool) → AllByRecursion P (filter p xs) → AllByRecursion P (cond b (x ∷ filter p xs) (filter p xs))
    go true rest = (a.0, rest)
    go false rest = rest

on_branch_all : (P : Branch → Type 0) (k : ℕ) (f : Branch → Branch) (bs : List Branch) → ((b : Branch) → P b → P (f b)) → AllByRecursion P bs → AllByRecursion P (on_branch k f bs)
on_branch_all P k f [] keep a = tt
on_branch_all P k f (b ∷ bs) keep a = (go (b.number == k), on_branch_all P k f bs keep a.1)
  where
    go : (t : Bool) → P (cond t (f b) b)
    go true = keep b a.0
    go false = a.0

-- those of the log up to an entry
pub front_tellable : (log : List Entry) (n : ℕ) → AreTellable (commits_in log) → AreTellable (commits_in (take n log))
front_tellable log n a = all_front IsTellable (commits_in (take n log)) (commits_in (drop n log)) (subst AreTellable (commits_split n log) a)

-- ## A line

pub record LineIsTellable (l : Line) : Type 0 where
  pub commits : AreTellable (l.base ++ l.own)
  pub edited : IfSome l.transaction TransactionIsTellable

branch_tellable : (b : Branch) → BranchIsTellable b → LineIsTellable (branch_line b)
branch_tellable b x = record { commits = AllByRecursion-append IsTellable b.base b.own x.base x.own; edited = x.edited }

pub line_tellable : (c : Client) (j : ℕ) (l : Line) → line_of c j ≡ Some l → ClientIsTellable c → LineIsTellable l
line_tellable c zero l e x = subst LineIsTellable (one_some (main_line c) l e) (record { commits = x.pending; edited = x.edited })
line_tellable c (suc j) l e x =
    let b = line_there c j l e in
    let there = branch_there c (suc j) b.0 b.1 in
    subst LineIsTellable b.2 (branch_tellable b.0 (all-has BranchIsTellable c.branches b.0 x.branches there.0))

pub line_commits : (log : List Entry) (l : Line) → AreTellable (commits_in log) → LineIsTellable l → AreTellable (commits_of log l)
line_commits log l a x = AllByRecursion-append IsTellable (commits_in (take l.received log)) (l.base ++ l.own) (front_tellable log l.received a) x.commits

-- ## Steps of a client

pub id_tellable : (c : Client) → ClientIsTellable c → ClientIsTellable (with_id c)
id_tellable c x = record { pending = x.pending; queued = x.queued; edited = x.edited; branches = x.branches }

pub commit_tellable : (c : Client) (j : ℕ) (N : Intent) → IsTellable N → ClientIsTellable c → ClientIsTellable (with_commit_on c j N)
commit_tellable c zero N n x = record {
  pending = AllByRecursion-append IsTellable c.pending (N ∷ []) x.pending (n, tt);
  queued = queue c.connected;
  edited = x.edited;
  branches = x.branches;
}
  where
    text : Body
    text = Commit c.received (ids_from c.session c.taken c.ids) N

    queue : (b : Bool) → AreTellable (intents_of (cond b (c.queue ++ text ∷ []) c.queue))
    queue true = subst AreTellable (sym (texts_append c.queue (text ∷ []))) (AllByRecursion-append IsTellable (intents_of c.queue) (N ∷ []) x.queued (n, tt))
    queue false = x.queued
commit_tellable c (suc j) N n x = record {
  pending = x.pending;
  queued = x.queued;
  edited = x.edited;
  branches = on_branch_all BranchIsTellable (suc j) (λ b. record b { own = b.own ++ N ∷ [] }) c.branches
      (λ b y. record { base = y.base; own = AllByRecursion-append IsTellable b.own (N ∷ []) y.own (n, tt); edited = y.edited }) x.branches;
}

pub commits_tellable : (j : ℕ) (Ns : List Intent) (c : Client) → AreTellable Ns → ClientIsTellable c → ClientIsTellable (with_commits_on c j Ns)
commits_tellable j [] c n x = x
commits_tellable j (N ∷ Ns) c n x = commits_tellable j Ns (with_commit_on c j N) n.1 (commit_tellable c j N n.0 x)

pub transaction_tellable : (c : Client) (j : ℕ) (o : Option Transaction) → IfSome o TransactionIsTellable → ClientIsTellable c → ClientIsTellable (with_transaction_on c j o)
transaction_tellable c zero o t x = record { pending = x.pending; queued = x.queued; edited = t; branches = x.branches }
transaction_tellable c (suc j) o t x = record {
  pending = x.pending;
  queued = x.queued;
  edited = x.edited;
  branches = on_branch_all BranchIsTellable (suc j) (λ b. record b { transaction = o }) c.branches (λ b y. record { base = y.base; own = y.own; edited = t }) x.branches;
}

pub ack_tellable : (c : Client) → ClientIsTellable c → ClientIsTellable (with_ack c)
ack_tellable c x = record {
  pending = x.pending;
  queued = subst AreTellable (sym (texts_append c.queue (Ack c.received ∷ []))) (AllByRecursion-append IsTellable (intents_of c.queue) [] x.queued tt);
  edited = x.edited;
  branches = x.branches;
}

pub received_tellable : (c : Client) (e : Entry) → ClientIsTellable c → ClientIsTellable (with_received e c)
received_tellable c e x = record { pending = go (is_some (commit_of e) && (e.session == c.session)); queued = x.queued; edited = x.edited; branches = x.branches }
  where
    go : (b : Bool) → AreTellable (cond b (drop 1 c.pending) c.pending)
    go true = all_rest IsTellable 1 c.pending x.pending
    go false = x.pending

pub fork_tellable : (c : Client) (j : ℕ) (l : Line) → LineIsTellable l → ClientIsTellable c → ClientIsTellable (with_branch c j l)
fork_tellable c j l y x = record {
  pending = x.pending;
  queued = x.queued;
  edited = x.edited;
  branches = AllByRecursion-append BranchIsTellable c.branches (new_branch (c.forks + 1) j l ∷ []) x.branches (record { base = y.commits; own = tt; edited = tt }, tt);
}

pub base_tellable : (c : Client) (j : ℕ) (l : Line) → LineIsTellable l → ClientIsTellable c → ClientIsTellable (with_base c j l)
base_tellable c j l y x = record {
  pending = x.pending;
  queued = x.queued;
  edited = x.edited;
  branches = on_branch_all BranchIsTellable j (λ b. record b { received = l.received; base = l.base ++ l.own }) c.branches (λ b z. record { base = y.commits; own = z.own; edited = z.edited }) x.branches;
}

pub gone_tellable : (c : Client) (j : ℕ) → ClientIsTellable c → ClientIsTellable (without_branch c j)
gone_tellable c j x = record { pending = x.pending; queued = x.queued; edited = x.edited; branches = all_filtered BranchIsTellable (λ (b : Branch). not (b.number == j)) c.branches x.branches }

pub offline_tellable : (c : Client) → ClientIsTellable c → ClientIsTellable (without_connection c)
offline_tellable c x = record { pending = x.pending; queued = tt; edited = x.edited; branches = x.branches }

texts_tellable : (reference session taken ids : ℕ) (Ns : List Intent) → AreTellable Ns → AreTellable (intents_of (texts_from reference session taken ids Ns))
texts_tellable reference session taken ids [] n = tt
texts_tellable reference session taken ids (N ∷ Ns) n = (n.0, texts_tellable reference session ids ids Ns n.1)

pub online_tellable : (log : List Entry) (c : Client) → ClientIsTellable c → ClientIsTellable (with_connection log c)
online_tellable log c x =
    let still : AreTellable (waiting log c) = all_rest IsTellable _ c.pending x.pending in
    record { pending = still; queued = texts_tellable _ _ _ _ (waiting log c) still; edited = x.edited; branches = x.branches }
