use Rattle.st_author_lists.proofs.Fitted.{logged_written, waiting_written}
use Rattle.st_author_lists.proofs.laws.authors_are_fitted.Goals as goal

pub returns : goal.returns
returns c = record {
  logged = λ h w i e reference ids N header fit at is. logged_written h w header fit i e reference ids N at is;
  waiting = λ h w d before later reference ids N header fit there is. waiting_written h w header fit d before later reference ids N there is;
}
