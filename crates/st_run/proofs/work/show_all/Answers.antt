use Rattle.std.proofs.Common.{Bool, codes, sym, subst, arith}
use Rattle.st_script.specs.Steps as step
use Rattle.st_load_laws.specs.Load.{step_by}
use Rattle.st_run.proofs.Loads.{Shows, all_shown, beside_on, fewer_room, shown_on}
use Rattle.st_run.proofs.work.show_all.Goals as goal

pub show_client-requires-clause-loaded : goal.show_client-requires-clause-loaded
show_client-requires-clause-loaded c = fewer_room c.args.world.now 1 4 (omega arith) c.requires.loaded

pub shows-requires-clause-loaded : goal.shows-requires-clause-loaded
shows-requires-clause-loaded c =
    let l1 = shown_on c.args.world.now c.show_client.new.world (step_by step.show (codes "A")) c.in_ok-first.first 3 c.requires.loaded c.in_ok-first.ensures in
    fewer_room c.show_client.new.world 1 3 (omega arith) l1

pub shows-requires-2-clause-loaded : goal.shows-requires-2-clause-loaded
shows-requires-2-clause-loaded c =
    let l1 = shown_on c.args.world.now c.show_client.new.world (step_by step.show (codes "A")) c.in_ok-first.first 3 c.requires.loaded c.in_ok-first.ensures in
    let l2 = beside_on c.show_client.new.world c.shows.new.world (step_by step.show (codes "B")) c.in_ok-first.first c.in_ok-second.second 2 l1 c.in_ok-second.ensures in
    fewer_room c.shows.new.world 1 2 (omega arith) l2

pub shows-requires-3-clause-loaded : goal.shows-requires-3-clause-loaded
shows-requires-3-clause-loaded c =
    let l1 = shown_on c.args.world.now c.show_client.new.world (step_by step.show (codes "A")) c.in_ok-first.first 3 c.requires.loaded c.in_ok-first.ensures in
    let l2 = beside_on c.show_client.new.world c.shows.new.world (step_by step.show (codes "B")) c.in_ok-first.first c.in_ok-second.second 2 l1 c.in_ok-second.ensures in
    beside_on c.shows.new.world c.shows-2.new.world (step_by step.show (codes "C")) c.in_ok-first.first c.in_ok-third.third 1 l2 c.in_ok-third.ensures

pub returns : goal.returns
returns c =
    let shown = all_shown c.args.world.now c.show_client.new.world c.shows.new.world c.shows-2.new.world c.shows-3.new.world c.in_ok-first.first c.in_ok-second.second c.in_ok-third.third c.in_ok-fourth.fourth
    c.in_ok-first.ensures c.in_ok-second.ensures c.in_ok-third.ensures c.in_ok-fourth.ensures in
    subst (λ (equal : Bool). Shows c.args.world.now c.shows-3.new.world equal) (sym c.all_three.ensures) shown
