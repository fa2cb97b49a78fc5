use Rattle.st_clash.proofs.search.cells_rise.Goals as goal

pub returns : goal.returns
returns c = c.rise.ensures
