use Rattle.std.proofs.Common.{ap, ◌∙◌}
use Rattle.st_lists.specs.Log.{log_with}
use Rattle.st_lists.specs.declared.lists.Body.TheVariants.{Commit}
use Rattle.st_replay.proofs.LogsLonger.{commits_on}
use Rattle.st_replay.proofs.replay.Replay.commit.Goals as goal

pub returns-clause-goes : goal.returns-clause-goes
returns-clause-goes c =
    let a = c.args in
    let out = c.in_ok-verdict.ensures in
    commits_on a.self.now _ a.session a.reference a.ids a.intent c.requires.stands c.requires.follows
    (c.in_ok-push_entry.ensures ∙ ap (λ es. log_with es a.session (Commit a.reference a.ids a.intent)) out.entries) out.numbers out.document out.makers out.authors
