use Rattle.std.proofs.Common.{take}
use Rattle.st_lists.specs.Log.{commits_in}
use Rattle.st_author_tests.specs.Replays.{HasReplayed}
use Rattle.st_author_tests.proofs.replaying.carry_entries.Given as goal

-- the commits so far are carried out
abbrev pub invariant-loop-entry : goal.invariant-loop-entry
invariant-loop-entry l = HasReplayed l.initial.doc (commits_in (take l.entry-index l.entries)) l.doc
