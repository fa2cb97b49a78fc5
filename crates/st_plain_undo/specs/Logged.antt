-- What is kept of the commits of the log: of each its number and how it came out where it came.
use Rattle.std.specs.Prelude.{◌≡◌, ◌+◌, ℕ, List, take, slice_get, Some, IsSome, is_some}
use Rattle.std.specs.BTreeMap.{BTreeMap, get}
use Rattle.st_ids.specs.Listing.{Has}
use Rattle.st_ids.specs.Order.{rev_cmp}
use Rattle.st_ids.specs.declared.names.Rev.{Rev}
use Rattle.st_marks.specs.declared.intents.Intent.{Intent}
use Rattle.st_marks.specs.declared.verdicts.Verdict.{Verdict}
use Rattle.st_marks.specs.Document.{Document}
use Rattle.st_marks.specs.Run.{Run}
use Rattle.st_marks.specs.Verdict.{IsVerdict}
use Rattle.st_log_laws.specs.Names.{revisions}
use Rattle.st_heads.specs.Remembered.{IsCarried}
use Rattle.st_lists.specs.Log.{commit_of, commits_in}
use Rattle.st_lists.specs.declared.lists.Entry.{Entry}
use Rattle.st_plain_undo.specs.declared.logged.Logged.{Logged}

-- what is kept of the commit of the entry at a place, in the document of the commits before it
pub record IsLogged (O : Document) (log : List Entry) (i : ℕ) (e : Entry) (N : Intent) (l : Logged) : Type 0 where
  pub numbered : e.n ≡ i + 1
  pub n : l.n ≡ e.n
  pub is_schema : l.is_schema ≡ is_some N.schema
  pub before : Document
  pub run : Run O (commits_in (take i log)) before
  pub verdict : Verdict
  pub judged : IsVerdict before N verdict
  pub carried : IsCarried before N verdict l.carried

-- each commit of the log is there, by its revision, and no other
pub record AreLogged (O : Document) (log : List Entry) (logged : BTreeMap Rev Logged) : Type 0 where
  pub each : (i : ℕ) (e : Entry) (N : Intent) → slice_get log i ≡ Some e → commit_of e ≡ Some N → (l : Logged) × (get rev_cmp logged N.rev ≡ Some l) × IsLogged O log i e N l
  pub no_other : (rev : Rev) → IsSome (get rev_cmp logged rev) → Has (revisions (commits_in log)) rev
