use Rattle.st_compose.proofs.Rules.{added_all}
use Rattle.st_compose.proofs.clashes.push_clashes.Goals as goal

pub returns : goal.returns
returns c = added_all c.args.first.now c.args.then.now c.args.found.now c.push_shown.new.found c.push_named.new.found c.push_root.new.found
    c.in_ok-push_shown.ensures c.in_ok-push_named.ensures c.in_ok-push_root.ensures
