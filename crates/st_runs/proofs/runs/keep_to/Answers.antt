use Rattle.std.proofs.Common.{◌∙◌, ap}
use Rattle.std.specs.List.{flat_map}
use Rattle.st_runs.proofs.Cutting.{within_items}
use Rattle.st_runs.proofs.Keeping.{kept_before, kept_inside, kept_through}
use Rattle.st_runs.proofs.runs.keep_to.Goals as goal

pub returns-then-at-eq0-clause-front : goal.returns-then-at-eq0-clause-front
returns-then-at-eq0-clause-front g c =
    ap (λ l. flat_map g.R.Run.items l) c.truncate.ensures.items ∙ kept_before g.R.Run.items c.args.runs.now.items c.args.at.run c.args.at.offset c.if-at-eq0.true

pub cut-rest-requires-clause-within : goal.cut-rest-requires-clause-within
cut-rest-requires-clause-within g c =
    kept_inside g.R.Run.items c.args.runs.now.items c.truncate-2.new.self.items c.args.at.run c.args.at.offset c.index_mut.result.now c.truncate-2.ensures.items
    c.index_mut.ensures.value (within_items c.args.runs.now.ok.0 c.requires.within) c.requires.kept

pub returns-clause-front : goal.returns-clause-front
returns-clause-front g c =
    kept_through g.R.Run.items c.args.runs.now.items c.truncate-2.new.self.items c.args.at.run c.args.at.offset c.index_mut.result.now c.cut-rest.new.self
    c.truncate-2.ensures.items c.index_mut.ensures.value (within_items c.args.runs.now.ok.0 c.requires.within) c.requires.kept c.cut-rest.ensures.front
