use Rattle.st_edits.proofs.NewFits.{insert_fits, put_fits}
use Rattle.st_edits.proofs.laws.new_trees_fit.Goals as goal

pub returns : goal.returns
returns c = record { insert = insert_fits; put = put_fits }
