use Rattle.std.proofs.Common.{take}
use Rattle.st_lists.specs.Log.{commits_by}
use Rattle.st_author_tests.specs.Replays.{HasReplayed}
use Rattle.st_author_tests.proofs.replaying.carry_own.Given as goal

-- the commits so far are carried out
abbrev pub invariant-loop-entry : goal.invariant-loop-entry
invariant-loop-entry l = HasReplayed l.initial.doc ((commits_by l.session) (take l.entry-index l.entries)) l.doc
