use Rattle.st_edits.proofs.Fits.{clear_fits, need_fits, remove_fits}
use Rattle.st_edits.proofs.MoveFits.{move_fits}
use Rattle.st_edits.proofs.laws.simple_edits_fit.Goals as goal

pub returns : goal.returns
returns c = record { remove = remove_fits; moves = move_fits; clear = clear_fits; need = need_fits }
