use Rattle.std.proofs.Common.{subst}
use Rattle.st_lists.specs.Log.{commits_by, commits_in}
use Rattle.st_author_tests.specs.Replays.{HasReplayed}
use Rattle.st_author_tests.proofs.Replays.{replayed}
use Rattle.st_author_tests.proofs.replaying.replay.Goals as goal

pub returns : goal.returns
returns c =
    let s = c.args.session in
    let a = c.in_ok-doc.doc in
    let d = c.carry_entries.new.doc in
    let e = c.carry_own.new.doc in
    replayed c.args.opening.now a d e c.args.log.now s c.args.reference c.in_ok-doc.ensures
    (subst (λ es. HasReplayed a (commits_in es) d) c.split_at.ensures.front c.in_ok-carry_entries.ensures)
    (subst (λ es. HasReplayed d (commits_by s es) e) c.split_at.ensures.back c.in_ok-carry_own.ensures)
