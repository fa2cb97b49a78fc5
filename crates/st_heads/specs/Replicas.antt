-- What is kept of a client: the heads of its lines.
use Rattle.std.specs.Prelude.{◌≡◌, ℕ, zero, suc, ◌+◌, [], ◌∷◌, Option, Some, slice_get, option_and_then}
use Rattle.st_marks.specs.declared.intents.Intent.{Intent}
use Rattle.st_lists.specs.Lines.{branch_place}
use Rattle.st_lists.specs.Names.{names_made}
use Rattle.st_lists.specs.declared.lists.Branch.{Branch}
use Rattle.st_lists.specs.declared.lists.Client.{Client}
use Rattle.st_heads.specs.Heads as head
use Rattle.st_heads.specs.declared.heads.Head.{Head}
use Rattle.st_heads.specs.declared.replica.Replica.{Replica}

-- the head of the line of a number
abbrev pub head_of : Client → Replica → ℕ → Option Head
head_of c k zero = Some k.main
head_of c k (suc n) = option_and_then (λ i. slice_get k.branches i) (branch_place (suc n) c.branches)

-- the branch of a number, its place, and its head
pub record IsAtBranch (c : Client) (k : Replica) (number place : ℕ) (b : Branch) (head : Head) : Type 0 where
  pub found : branch_place number c.branches ≡ Some place
  pub branch : slice_get c.branches place ≡ Some b
  pub kept : slice_get k.branches place ≡ Some head

-- a commit is carried out at the head of a client's main line
pub record IsCommitted (old : Replica) (N : Intent) (new : Replica) : Type 0 where
  pub main : head.HasCarried old.main (N ∷ []) new.main
  pub received : new.received ≡ old.received
  pub branches : new.branches ≡ old.branches
  pub names : new.names ≡ old.names + names_made N
