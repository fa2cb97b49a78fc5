use Rattle.st_agree.proofs.search.nodes_rise.Goals as goal

pub returns : goal.returns
returns c = c.rise.ensures
