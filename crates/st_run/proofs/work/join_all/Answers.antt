use Rattle.std.proofs.Common.{None, codes, arith}
use Rattle.st_script.specs.Steps as step
use Rattle.st_load_laws.specs.Load.{step_by}
use Rattle.st_run.proofs.Loads.{all_joined, counted_goes, may_go, opened_under}
use Rattle.st_run.proofs.work.join_all.Goals as goal

pub join_client-requires : goal.join_client-requires
join_client-requires c = record { goes = may_go c.args.world.now 100 (omega arith) (opened_under c.args.world.now c.requires) }

pub join_client-requires-2 : goal.join_client-requires-2
join_client-requires-2 c =
    let one = counted_goes c.args.world.now c.join_client.new.world (step_by (step.join None) (codes "A")) c.in_ok-join_client.field-0 99 (opened_under c.args.world.now c.requires) c.in_ok-join_client.ensures in
    record { goes = may_go c.join_client.new.world 99 (omega arith) one }

pub join_client-requires-3 : goal.join_client-requires-3
join_client-requires-3 c =
    let one = counted_goes c.args.world.now c.join_client.new.world (step_by (step.join None) (codes "A")) c.in_ok-join_client.field-0 99 (opened_under c.args.world.now c.requires) c.in_ok-join_client.ensures in
    let two = counted_goes c.join_client.new.world c.join_client-2.new.world (step_by (step.join None) (codes "B")) c.in_ok-join_client-2.field-0 98 one c.in_ok-join_client-2.ensures in
    record { goes = may_go c.join_client-2.new.world 98 (omega arith) two }

pub join_client-requires-4 : goal.join_client-requires-4
join_client-requires-4 c =
    let one = counted_goes c.args.world.now c.join_client.new.world (step_by (step.join None) (codes "A")) c.in_ok-join_client.field-0 99 (opened_under c.args.world.now c.requires) c.in_ok-join_client.ensures in
    let two = counted_goes c.join_client.new.world c.join_client-2.new.world (step_by (step.join None) (codes "B")) c.in_ok-join_client-2.field-0 98 one c.in_ok-join_client-2.ensures in
    let three = counted_goes c.join_client-2.new.world c.join_client-3.new.world (step_by (step.join None) (codes "C")) c.in_ok-join_client-3.field-0 97 two c.in_ok-join_client-3.ensures in
    record { goes = may_go c.join_client-3.new.world 97 (omega arith) three }

pub returns : goal.returns
returns c =
    all_joined c.args.world.now c.join_client.new.world c.join_client-2.new.world c.join_client-3.new.world c.join_client-4.new.world
    c.in_ok-join_client.field-0 c.in_ok-join_client-2.field-0 c.in_ok-join_client-3.field-0 c.in_ok-join_client-4.field-0
    c.in_ok-join_client.ensures c.in_ok-join_client-2.ensures c.in_ok-join_client-3.ensures c.in_ok-join_client-4.ensures
