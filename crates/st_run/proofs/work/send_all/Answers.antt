use Rattle.std.proofs.Common.{codes, arith}
use Rattle.std.proofs.lemmas.Result.{on_ok_weaker}
use Rattle.st_script.specs.Steps as step
use Rattle.st_script.specs.declared.refusal.Refusal.TheVariants as no
use Rattle.st_run.proofs.Loads.{all_emptied, fewer_room, has_a, has_b, has_c, sent_on}
use Rattle.st_run.proofs.work.send_all.Goals as goal

pub send_client-requires-clause-loaded : goal.send_client-requires-clause-loaded
send_client-requires-clause-loaded c = fewer_room c.args.world.now 262144 1048576 (omega arith) c.requires.loaded

pub send_client-requires-2-clause-loaded : goal.send_client-requires-2-clause-loaded
send_client-requires-2-clause-loaded c =
    let l1 = sent_on c.args.world.now c.send_client.new.world (codes "A") 786432 has_a c.requires.loaded c.in_ok-send_client.ensures in
    fewer_room c.send_client.new.world 262144 786432 (omega arith) l1

pub send_client-requires-3-clause-loaded : goal.send_client-requires-3-clause-loaded
send_client-requires-3-clause-loaded c =
    let l1 = sent_on c.args.world.now c.send_client.new.world (codes "A") 786432 has_a c.requires.loaded c.in_ok-send_client.ensures in
    let l2 = sent_on c.send_client.new.world c.send_client-2.new.world (codes "B") 524288 has_b l1 c.in_ok-send_client-2.ensures in
    fewer_room c.send_client-2.new.world 262144 524288 (omega arith) l2

pub send_client-requires-4-clause-loaded : goal.send_client-requires-4-clause-loaded
send_client-requires-4-clause-loaded c =
    let l1 = sent_on c.args.world.now c.send_client.new.world (codes "A") 786432 has_a c.requires.loaded c.in_ok-send_client.ensures in
    let l2 = sent_on c.send_client.new.world c.send_client-2.new.world (codes "B") 524288 has_b l1 c.in_ok-send_client-2.ensures in
    let l3 = sent_on c.send_client-2.new.world c.send_client-3.new.world (codes "C") 262144 has_c l2 c.in_ok-send_client-3.ensures in
    fewer_room c.send_client-3.new.world 262144 262144 (omega arith) l3

pub returns : goal.returns
returns c =
    on_ok_weaker c.send_client-4.result
    (λ last. all_emptied step.sequence no.NothingToSend c.args.world.now c.send_client.new.world c.send_client-2.new.world c.send_client-3.new.world c.send_client-4.new.world
    c.in_ok-send_client.ensures c.in_ok-send_client-2.ensures c.in_ok-send_client-3.ensures last) c.send_client-4.ensures
