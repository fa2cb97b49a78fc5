use Rattle.st_log_laws.proofs.Names.{fits_beside, fits_there, names_beside}
use Rattle.st_log_laws.proofs.Beside.{all_fit_beside}
use Rattle.st_log_laws.proofs.laws.fit_beside.Goals as goal

pub returns : goal.returns
returns c = record {
  fresh = fits_there;
  one = λ rs D E N h s t f m new. fits_beside D E N h s t f rs m new;
  names = names_beside;
  list = all_fit_beside;
}
