use Rattle.st_conform_laws.proofs.ShownTrees.{shown_allowed}
use Rattle.st_conform_laws.proofs.laws.shown_trees_are_allowed.Goals as goal

pub returns : goal.returns
returns c = λ T D is_array d s here tells shows. shown_allowed T D s here is_array d tells shows
