use Rattle.st_agree.proofs.NodesTwice.{found_by_name}
use Rattle.st_agree.proofs.places.push_elsewhere.Goals as goal

pub returns-then-nodes_rise : goal.returns-then-nodes_rise
returns-then-nodes_rise c =
    found_by_name c.args.found.now c.push_by_search.new.found c.args.list.now c.args.others.now (c.nodes_rise.ensures.0 c.if-nodes_rise.true) c.push_by_search.result c.push_by_search.ensures
