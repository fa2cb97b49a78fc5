use Rattle.st_runs.proofs.Cutting.{first_cut, more_than}
use Rattle.st_runs.proofs.runs.cut_first.Goals as goal

pub returns-clause-whole : goal.returns-clause-whole
returns-clause-whole g c =
    first_cut g.R.Run.items c.args.runs.now.items c.index_mut.result.now c.cut-rest.new.self c.index_mut-2.result.now c.replace.result c.cut-rest.result
    c.replace.new.dest c.args.at (more_than c.args.runs.now.ok.0 c.requires.first) c.index_mut.ensures.value c.cut-rest.ensures.front c.cut-rest.ensures.rest c.index_mut-2.ensures.value
    c.replace.ensures.value c.replace.ensures.after
