use Rattle.st_script.specs.Steps as step
use Rattle.st_load_laws.specs.Load.{step_by}
use Rattle.st_run.proofs.Loads.{shown_same}
use Rattle.st_run.proofs.work.shows.Goals as goal

pub returns : goal.returns
returns c = shown_same c.args.world.now c.show_client.new.world (step_by step.show c.args.name.now) c.in_ok-shown.shown c.args.text.now c.eq.result c.in_ok-shown.ensures c.eq.ensures
