-- The commits of a client: those that it received, and its own that it has not received back.
use Rattle.std.specs.Prelude.{◌++◌, Bool, List}
use Rattle.std.specs.List.{list_any}
use Rattle.st_ids.specs.Order.{same_rev}
use Rattle.st_ids.specs.declared.names.Rev.{Rev}
use Rattle.st_lists.specs.Log.{commits_in}
use Rattle.st_lists.specs.declared.lists.Entry.{Entry}
use Rattle.st_marks.specs.declared.changes.Change.{Change}
use Rattle.st_marks.specs.declared.intents.Intent.{Intent}
use Rattle.st_marks.specs.Document.{Document}
use Rattle.st_marks.specs.Run.{Run}
use Rattle.st_rebaser.specs.InTurn.{ShowInTurn}

-- the document opened, the entries received, and the own commits that aren't received back, in the order in which they were made
pub record Past : Type 0 where
  pub opening : Document
  pub log : List Entry
  pub pending : List Intent

-- all commits in the order of the local view: those received, and behind them the pending ones
abbrev pub commits_of : Past → List Intent
commits_of p = commits_in p.log ++ p.pending

-- one of them has this revision
abbrev pub has_commit : Past → Rev → Bool
has_commit p rev = list_any (λ (N : Intent). same_rev N.rev rev) (commits_of p)

-- these are the changes of the pending commits, each in the document that those before it in the local view leave
abbrev pub ArePending : Bool → Past → List Change → Type 0
ArePending l p Cs = (T : Document) × (F : Document) × Run p.opening (commits_in p.log) T × ShowInTurn l T p.pending Cs F
