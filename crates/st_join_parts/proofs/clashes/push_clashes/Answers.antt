use Rattle.st_join_parts.proofs.Rules.{added_all}
use Rattle.st_join_parts.proofs.clashes.push_clashes.Goals as goal

pub returns : goal.returns
returns c = added_all c.args.first.now c.args.then.now c.args.found.now c.push_told.new.found c.push_needed.new.found c.push_root.new.found
    c.in_ok-push_told.ensures c.in_ok-push_needed.ensures c.in_ok-push_root.ensures
