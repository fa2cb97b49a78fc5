use Rattle.st_plain_log.proofs.Receiving.{can_carry, received_commit}
use Rattle.st_plain_log.proofs.log_steps.receive_entry.Goals as goal

pub receive-requires-clause-later : goal.receive-requires-clause-later
receive-requires-clause-later c =
    (can_carry c.args.client.now c.args.kept.now c.args.entry.now c.in-Commit.reference c.in-Commit.ids c.in-Commit.intent c.is_from-is_own.result c.in-Commit.is c.is_from-is_own.ensures c.requires.next).later

pub returns-in_ok-verdict-in-Commit : goal.returns-in_ok-verdict-in-Commit
returns-in_ok-verdict-in-Commit c =
    received_commit c.args.client.now c.args.kept.now c.receive.new.kept c.args.entry.now c.in-Commit.reference c.in-Commit.ids c.in-Commit.intent c.is_from-is_own.result c.in_ok-verdict-in-Commit.verdict c.in-Commit.is c.is_from-is_own.ensures
    c.in_ok-verdict-in-Commit.ensures
