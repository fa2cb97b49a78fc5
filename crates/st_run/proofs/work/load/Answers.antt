use Rattle.std.proofs.Common.{arith}
use Rattle.st_run.proofs.Loads.{fewer_room, may_draw, may_receive, may_send, may_show, tallied}
use Rattle.st_run.proofs.work.load.Goals as goal

pub draw_all-requires-clause-under : goal.draw_all-requires-clause-under
draw_all-requires-clause-under c = may_draw c.args.world.now c.join_all.new.world c.requires.opened c.in_ok-join_all.ensures

pub send_all-requires : goal.send_all-requires
send_all-requires c = record {
  loaded = fewer_room c.draw_all.new.world 1048576 3000000 (omega arith)
      (may_send c.args.world.now c.join_all.new.world c.draw_all.new.world c.args.seed c.args.steps c.in_ok-refused.refused c.requires.opened c.requires.few c.in_ok-join_all.ensures c.in_ok-refused.ensures);
}

pub receive_all-requires : goal.receive_all-requires
receive_all-requires c =
    let loaded = may_send c.args.world.now c.join_all.new.world c.draw_all.new.world c.args.seed c.args.steps c.in_ok-refused.refused c.requires.opened c.requires.few c.in_ok-join_all.ensures c.in_ok-refused.ensures in
    record { loaded = fewer_room c.send_all.new.world 1048576 1951424 (omega arith) (may_receive c.draw_all.new.world c.send_all.new.world 1951424 loaded c.in_ok-send_all.ensures) }

pub show_all-requires : goal.show_all-requires
show_all-requires c =
    let loaded = may_send c.args.world.now c.join_all.new.world c.draw_all.new.world c.args.seed c.args.steps c.in_ok-refused.refused c.requires.opened c.requires.few c.in_ok-join_all.ensures c.in_ok-refused.ensures in
    let sent = may_receive c.draw_all.new.world c.send_all.new.world 1951424 loaded c.in_ok-send_all.ensures in
    record { loaded = may_show c.send_all.new.world c.receive_all.new.world 4 (fewer_room c.send_all.new.world 1048580 1951424 (omega arith) sent) c.in_ok-receive_all.ensures }

pub returns : goal.returns
returns c =
    tallied c.args.world.now c.join_all.new.world c.draw_all.new.world c.send_all.new.world c.receive_all.new.world c.show_all.new.world c.args.seed c.args.steps c.in_ok-refused.refused c.in_ok-equal.equal
    c.count.result c.count.ensures.given c.in_ok-join_all.ensures c.in_ok-refused.ensures c.in_ok-send_all.ensures c.in_ok-receive_all.ensures c.in_ok-equal.ensures c.count.ensures.voided c.count.ensures.entries
