use Rattle.std.proofs.Common.{[], sym, ap, subst}
use Rattle.std.specs.List.{cons_option}
use Rattle.st_lists.specs.Log.{commit_in}
use Rattle.st_author_tests.specs.Replays.{HasReplayed}
use Rattle.st_author_tests.proofs.Replays.{nothing_said}
use Rattle.st_author_tests.proofs.replaying.carry_entry.Goals as goal

pub returns-in_ok-carry-in-Commit : goal.returns-in_ok-carry-in-Commit
returns-in_ok-carry-in-Commit c = subst (λ o. HasReplayed c.args.doc.now (cons_option o []) c.carry.new.doc) (sym (ap commit_in c.in-Commit.is)) c.in_ok-carry-in-Commit.ensures

pub returns-in-Join : goal.returns-in-Join
returns-in-Join c = nothing_said c.args.doc.now c.args.entry.now.body c.in-Join.is c.requires

pub returns-in-Join-2 : goal.returns-in-Join-2
returns-in-Join-2 c = nothing_said c.args.doc.now c.args.entry.now.body c.in-Join.is c.requires

pub returns-in-Join-3 : goal.returns-in-Join-3
returns-in-Join-3 c = nothing_said c.args.doc.now c.args.entry.now.body c.in-Join.is c.requires
