-- Lines of commits: a branch's own commits, and what they stand on.
use Rattle.std.specs.Prelude.{◌≡◌, ◌⊎◌, ℕ, zero, suc, ◌+◌, ◌==◌, Bool, not, List, [], ◌∷◌, ◌++◌, take, filter, fold, map, Option, Some, None, option_and_then, option_map, if◌then◌else◌}
use Rattle.std.specs.List.{find, flat_map, list_any, position}
use Rattle.st_ids.specs.Listing.{Has}
use Rattle.st_log_laws.specs.Turns.{IsSublist}
use Rattle.st_marks.specs.declared.intents.Intent.{Intent}
use Rattle.st_marks.specs.Document.{Document}
use Rattle.st_marks.specs.Run.{Run}
use Rattle.st_lists.specs.Log.{commits_in, log_and_waiting}
use Rattle.st_lists.specs.Clients.{with_commit}
use Rattle.st_lists.specs.declared.lists.Branch.{Branch}
use Rattle.st_lists.specs.declared.lists.Client.{Client}
use Rattle.st_lists.specs.declared.lists.Entry.{Entry}
use Rattle.st_lists.specs.declared.lists.Transaction.{Transaction}

-- a line stands on the commits of the entries that were received, and then on those of its base; the transaction is the
-- one that is open on it
pub record Line : Type 0 where
  pub received : ℕ
  pub base : List Intent
  pub own : List Intent
  pub transaction : Option Transaction

-- the main branch of a client stands on what the client received alone, and its own commits are those that are pending
abbrev pub main_line : Client → Line
main_line c = record { received = c.received; base = []; own = c.pending; transaction = c.transaction }

-- all commits of a line, in their order
abbrev pub commits_of : List Entry → Line → List Intent
commits_of log l = commits_in (take l.received log) ++ (l.base ++ l.own)

-- what a line stands on
abbrev pub base_of : List Entry → Line → List Intent
base_of log l = commits_in (take l.received log) ++ l.base

-- what is edited in the transaction that is open on a line, if one is and something is edited in it
abbrev pub edited_on : Line → Option Intent
edited_on l = option_and_then (λ (t : Transaction). t.joined) l.transaction

-- the line of another branch
abbrev pub branch_line : Branch → Line
branch_line b = record { received = b.received; base = b.base; own = b.own; transaction = b.transaction }

-- the branch of a number
abbrev pub branch_of : Client → ℕ → Option Branch
branch_of c k = find (λ (b : Branch). b.number == k) c.branches

-- its place among them
abbrev pub branch_place : ℕ → List Branch → Option ℕ
branch_place k bs = position (λ (b : Branch). b.number == k) bs

-- the line of a number: 0 is the main branch
abbrev pub line_of : Client → ℕ → Option Line
line_of c zero = Some (main_line c)
line_of c (suc k) = option_map branch_line (branch_of c (suc k))

-- the branch of a number is now so, and all others are as before
abbrev pub on_branch : ℕ → (Branch → Branch) → List Branch → List Branch
on_branch k f bs = map (λ (b : Branch). if b.number == k then f b else b) bs

-- a commit stands last on a line; on the main one its text waits
abbrev pub with_commit_on : Client → ℕ → Intent → Client
with_commit_on c zero N = with_commit c N
with_commit_on c (suc k) N = record c { branches = on_branch (suc k) (λ b. record b { own = b.own ++ N ∷ [] }) c.branches }

-- several do, in their order
abbrev pub with_commits_on : Client → ℕ → List Intent → Client
with_commits_on c k Ns = fold (λ d N. with_commit_on d k N) c Ns

-- the transaction that is open on a line is now so
abbrev pub with_transaction_on : Client → ℕ → Option Transaction → Client
with_transaction_on c zero t = record c { transaction = t }
with_transaction_on c (suc k) t = record c { branches = on_branch (suc k) (λ b. record b { transaction = t }) c.branches }

-- ## Branches

-- a branch that stands on a line, with no commit of its own
abbrev pub new_branch : ℕ → ℕ → Line → Branch
new_branch number parent l = record { number = number; parent = parent; received = l.received; base = l.base ++ l.own; own = []; transaction = None }

-- a client with one branch more, of the next number
abbrev pub with_branch : Client → ℕ → Line → Client
with_branch c k l = record c { forks = c.forks + 1; branches = c.branches ++ new_branch (c.forks + 1) k l ∷ [] }

-- a branch stands on a line anew; its own commits stay
abbrev pub with_base : Client → ℕ → Line → Client
with_base c k l = record c { branches = on_branch k (λ b. record b { received = l.received; base = l.base ++ l.own }) c.branches }

-- a branch is gone
abbrev pub without_branch : Client → ℕ → Client
without_branch c k = record c { branches = filter (λ (b : Branch). not (b.number == k)) c.branches }

-- whether a branch stands on that of a number
abbrev pub has_children : Client → ℕ → Bool
has_children c k = list_any (λ (b : Branch). b.parent == k) c.branches

-- all own commits of some branches
abbrev pub own_of : List Branch → List Intent
own_of bs = flat_map (λ (b : Branch). b.own) bs

-- all commits that there are for a client: those of the log, its own that wait, and those of its other branches
abbrev pub all_commits : List Entry → Client → List Intent
all_commits log c = log_and_waiting log c ++ own_of c.branches

-- no two lines of a client have transactions of one revision open
abbrev pub HaveOwnTransactions : Client → Type 0
HaveOwnTransactions c = (j k : ℕ) (l m : Line) (t u : Transaction) → line_of c j ≡ Some l → line_of c k ≡ Some m
    → l.transaction ≡ Some t → m.transaction ≡ Some u → t.rev ≡ u.rev → j ≡ k

-- a branch stands on its parent, which is the main one or one of those before it: what it stands on is among its commits
abbrev pub StandsOn : List Entry → Line → List Branch → Branch → Type 0
StandsOn log main before b = ((b.parent ≡ 0) × IsSublist (base_of log (branch_line b)) (commits_of log main))
    ⊎ ((p : Branch) × Has before p × (p.number ≡ b.parent) × IsSublist (base_of log (branch_line b)) (commits_of log (branch_line p)))

abbrev pub AreStanding : List Entry → Line → List Branch → List Branch → Type 0
AreStanding log main before [] = Unit {0}
AreStanding log main before (b ∷ bs) = StandsOn log main before b × AreStanding log main (before ++ b ∷ []) bs

-- the commits of a line, carried out from the document opened, lead to this document
abbrev pub HasHead : Document → List Entry → Line → Document → Type 0
HasHead O log l D = Run O (commits_of log l) D
