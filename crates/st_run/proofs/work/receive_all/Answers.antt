use Rattle.std.proofs.Common.{codes, arith}
use Rattle.std.proofs.lemmas.Result.{on_ok_weaker}
use Rattle.st_script.specs.Steps as step
use Rattle.st_script.specs.declared.refusal.Refusal.TheVariants as no
use Rattle.st_run.proofs.Loads.{all_emptied, fewer_room, has_a, has_b, has_c, received_on}
use Rattle.st_run.proofs.work.receive_all.Goals as goal

pub receive_client-requires-clause-loaded : goal.receive_client-requires-clause-loaded
receive_client-requires-clause-loaded c = fewer_room c.args.world.now 262144 1048576 (omega arith) c.requires.loaded

pub receive_client-requires-2-clause-loaded : goal.receive_client-requires-2-clause-loaded
receive_client-requires-2-clause-loaded c =
    let l1 = received_on c.args.world.now c.receive_client.new.world (codes "A") 786432 has_a c.requires.loaded c.in_ok-receive_client.ensures in
    fewer_room c.receive_client.new.world 262144 786432 (omega arith) l1

pub receive_client-requires-3-clause-loaded : goal.receive_client-requires-3-clause-loaded
receive_client-requires-3-clause-loaded c =
    let l1 = received_on c.args.world.now c.receive_client.new.world (codes "A") 786432 has_a c.requires.loaded c.in_ok-receive_client.ensures in
    let l2 = received_on c.receive_client.new.world c.receive_client-2.new.world (codes "B") 524288 has_b l1 c.in_ok-receive_client-2.ensures in
    fewer_room c.receive_client-2.new.world 262144 524288 (omega arith) l2

pub receive_client-requires-4-clause-loaded : goal.receive_client-requires-4-clause-loaded
receive_client-requires-4-clause-loaded c =
    let l1 = received_on c.args.world.now c.receive_client.new.world (codes "A") 786432 has_a c.requires.loaded c.in_ok-receive_client.ensures in
    let l2 = received_on c.receive_client.new.world c.receive_client-2.new.world (codes "B") 524288 has_b l1 c.in_ok-receive_client-2.ensures in
    let l3 = received_on c.receive_client-2.new.world c.receive_client-3.new.world (codes "C") 262144 has_c l2 c.in_ok-receive_client-3.ensures in
    fewer_room c.receive_client-3.new.world 262144 262144 (omega arith) l3

pub returns : goal.returns
returns c =
    on_ok_weaker c.receive_client-4.result
    (λ last. all_emptied step.deliver no.NothingNew c.args.world.now c.receive_client.new.world c.receive_client-2.new.world c.receive_client-3.new.world c.receive_client-4.new.world
    c.in_ok-receive_client.ensures c.in_ok-receive_client-2.ensures c.in_ok-receive_client-3.ensures last) c.receive_client-4.ensures
