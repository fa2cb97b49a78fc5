use Rattle.std.proofs.Common.{◌≡◌, length, ap, arith}
use Rattle.std.proofs.lemmas.Bool.Decides.{nat_tests}
use Rattle.st_plain_log.proofs.Receiving.{received_last, same_main}
use Rattle.st_plain_log.proofs.log_steps.receive.Goals as goal

pub returns-then-is_empty : goal.returns-then-is_empty
returns-then-is_empty c =
    let same = ap length c.as_slice-pending.ensures in
    let none : length c.args.client.now.pending ≡ 0 = grind (arith, nat_tests, same) in
    let e = c.in_ok-verdict.ensures in
    received_last c.args.client.now c.args.kept.now c.receive_last.new.kept c.args.is_own c.args.intent.now c.in_ok-verdict.verdict c.if-is_own.false none c.requires.own c.requires.edited
    e.received e.same e.main e.names

pub receive_last-requires-clause-same : goal.receive_last-requires-clause-same
receive_last-requires-clause-same c =
    let same = ap length c.as_slice-pending.ensures in
    let none : length c.args.client.now.pending ≡ 0 = grind (arith, nat_tests, same) in
    same_main c.args.client.now c.args.kept.now none c.requires.own
