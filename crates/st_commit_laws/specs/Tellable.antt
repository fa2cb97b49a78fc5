-- Which commits of a world can be told in a text, and what an act brings so that its commits can.
use Rattle.std.specs.Prelude.{◌≡◌, ◌⊎◌, ◌<◌, ◌≤◌, ◌^◌, IfSome}
use Rattle.std.specs.List.{AllByRecursion}
use Rattle.st_ids.specs.Root.{opening}
use Rattle.st_ids.specs.declared.names.Atom.{Atom}
use Rattle.st_ids.specs.declared.names.Rev.{Rev}
use Rattle.st_tree.specs.Node.{Node, node, Fields, no_fields, field, Nodes, no_nodes, first, nodes_of}
use Rattle.st_marks.specs.declared.intents.Intent.{Intent}
use Rattle.st_change_laws.specs.Within.{IntentIsWithin, LeafIsShort}
use Rattle.st_lists.specs.Log.{commits_in, intents_of}
use Rattle.st_lists.specs.declared.lists.Branch.{Branch}
use Rattle.st_lists.specs.declared.lists.Client.{Client}
use Rattle.st_lists.specs.declared.lists.Transaction.{Transaction}
use Rattle.st_lists.specs.declared.lists.WorldState.{WorldState}
use Rattle.st_script.specs.Steps.{ActView, EditView}
use Rattle.st_script.specs.Steps as step

-- ## Commits

-- the number of a name in its commit is below 2^32
abbrev pub NameIsShort : Atom → Type 0
NameIsShort a = a.at < 2 ^ 32

-- a revision is the opening's, or has a number, and numbers begin at 1
abbrev pub IsOpeningOrNumbered : Rev → Type 0
IsOpeningOrNumbered r = (r ≡ opening) ⊎ (1 ≤ r.num)

-- what it makes and names can be told, and it has a number; it was made under the opening, or under a commit that has one
pub record IsTellable (N : Intent) : Type 0 where
  pub within : IntentIsWithin NameIsShort N
  pub numbered : 1 ≤ N.rev.num
  pub under : IsOpeningOrNumbered N.under

-- ## A world's

-- an open transaction has a number, and what is edited in it so far can be told
pub record TransactionIsTellable (t : Transaction) : Type 0 where
  pub numbered : 1 ≤ t.rev.num
  pub joined : IfSome t.joined IsTellable

-- the commits on which a branch stands, its own, and what is edited on it
pub record BranchIsTellable (b : Branch) : Type 0 where
  pub base : AllByRecursion IsTellable b.base
  pub own : AllByRecursion IsTellable b.own
  pub edited : IfSome b.transaction TransactionIsTellable

-- the commits that a client has pending, those of the texts that wait in its queue, what is edited on its main line, and
-- those of its branches
pub record ClientIsTellable (c : Client) : Type 0 where
  pub pending : AllByRecursion IsTellable c.pending
  pub queued : AllByRecursion IsTellable (intents_of c.queue)
  pub edited : IfSome c.transaction TransactionIsTellable
  pub branches : AllByRecursion BranchIsTellable c.branches

-- the commits of the log, and those of each client
pub record CommitsAreTellable (w : WorldState) : Type 0 where
  pub log : AllByRecursion IsTellable (commits_in w.log)
  pub clients : AllByRecursion ClientIsTellable w.clients

-- ## Acts

-- each leaf of a tree that is a number is one of 64 bits
abbrev mutual
  pub LeavesAreShort : Node → Type 0
  LeavesAreShort (node ty leaf fields) = IfSome leaf LeafIsShort × FieldLeavesAreShort fields

  pub FieldLeavesAreShort : Fields → Type 0
  FieldLeavesAreShort no_fields = Unit {0}
  FieldLeavesAreShort (field key row items rest) = AllLeavesAreShort items × FieldLeavesAreShort rest

  pub AllLeavesAreShort : Nodes → Type 0
  AllLeavesAreShort no_nodes = Unit {0}
  AllLeavesAreShort (first t ts) = LeavesAreShort t × AllLeavesAreShort ts

-- so are those of the trees that an edit brings
abbrev pub EditBringsShortLeaves : EditView → Type 0
EditBringsShortLeaves (step.insert at key index items) = AllLeavesAreShort (nodes_of items)
EditBringsShortLeaves (step.remove at key index count) = Unit {0}
EditBringsShortLeaves (step.move at key index count to to_key to_index) = Unit {0}
EditBringsShortLeaves (step.set at key item) = LeavesAreShort item
EditBringsShortLeaves (step.clear at key) = Unit {0}

-- an act that edits brings such trees
abbrev pub BringsShortLeaves : ActView → Type 0
BringsShortLeaves (step.edit e) = EditBringsShortLeaves e
BringsShortLeaves act = Unit {0}
