-- What is known of a commit's change in a world.
use Rattle.std.specs.Prelude.{◌≡◌, ℕ, ◌≤◌, Bool, true, false, List, [], ◌++◌, length}
use Rattle.std.specs.List.{AllByRecursion}
use Rattle.st_ids.specs.Listing.{Has}
use Rattle.st_ids.specs.declared.names.Rev.{Rev}
use Rattle.st_known_changes.specs.Known.{AreKnownTexts, IsKnownIn}
use Rattle.st_lists.specs.Log.{commits_in, intents_of, sessions_in}
use Rattle.st_lists.specs.declared.lists.Client.{Client}
use Rattle.st_lists.specs.declared.lists.Entry.{Entry}
use Rattle.st_lists.specs.declared.lists.WorldState.{WorldState}
use Rattle.st_log_laws.specs.Names.{revisions}
use Rattle.st_marks.specs.Document.{Document}
use Rattle.st_marks.specs.declared.changes.Change.{Change}
use Rattle.st_script.specs.Header.{HeaderView}
use Rattle.st_script.specs.declared.answer.Answer.{Answer}
use Rattle.st_script.specs.declared.answer.Answer.TheVariants as answer
use Rattle.st_world.specs.World.{opening_document}

-- whether an answer is a refusal
abbrev pub is_no : Answer → Bool
is_no (answer.No why) = true
is_no a = false

-- a change of a revision's commit, written at a reference, is known of the texts in a client's queue. The client of the
-- revision's session has received the entries up to the reference; while it is connected and has received no more of them, the
-- commit is in the log or in its queue, so that it writes no other of that revision at that reference
pub record IsKnownTo (O : Document) (log : List Entry) (r : Rev) (n : ℕ) (C : Change) (c : Client) : Type 0 where
  pub passed : c.session ≡ r.session → n ≤ c.received
  pub written : c.session ≡ r.session → c.connected ≡ true → c.received ≡ n → Has (revisions (commits_in log ++ intents_of c.queue)) r
  pub waiting : AreKnownTexts O log c.session [] r n C c.queue

-- a change is known in a world, of the log and of what waits: whatever text has the commit of that revision, written at that
-- reference, tells that change
pub record IsKnownChange (h : HeaderView) (w : WorldState) (r : Rev) (n : ℕ) (C : Change) : Type 0 where
  pub within : n ≤ length w.log
  pub given : r.session ≤ sessions_in w.log
  pub logged : IsKnownIn (opening_document h) w.log r n C
  pub clients : AllByRecursion (IsKnownTo (opening_document h) w.log r n C) w.clients
