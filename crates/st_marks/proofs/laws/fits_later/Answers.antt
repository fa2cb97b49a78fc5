use Rattle.st_marks.proofs.Later.{fits_later}
use Rattle.st_marks.proofs.laws.fits_later.Goals as goal

pub returns : goal.returns
returns c = fits_later
