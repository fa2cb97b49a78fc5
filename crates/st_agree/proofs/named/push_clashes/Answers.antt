use Rattle.st_agree.proofs.AllRules.{added_all}
use Rattle.st_agree.proofs.named.push_clashes.Goals as goal

pub returns : goal.returns
returns c = added_all c.args.change.now c.args.step.now c.args.found.now c.push_ruled.new.found c.push_cells.new.found c.push_root.new.found
    c.in_ok-push_ruled.ensures c.in_ok-push_cells.ensures c.in_ok-push_root.ensures
