use Rattle.std.proofs.Common.{◌∙◌, cond, Some, ap}
use Rattle.std.specs.BTreeMap.{get}
use Rattle.st_ids.specs.Order.{rev_cmp, same_rev}
use Rattle.st_plain_undo.proofs.logged.log_commit.Goals as goal

pub returns : goal.returns
unfolding same_rev
returns c = λ rev.
    c.in_ok-insert.ensures.updates.0 rev
    ∙ ap (λ b. cond (same_rev c.args.intent.now.rev rev) (Some (record { n = c.args.n; is_schema = b; carried = c.args.carried })) (get rev_cmp c.args.logged.now rev)) c.is_some-is_schema.ensures
