use Rattle.st_carried_ids.proofs.Numbered.{logged_known, waiting_known}
use Rattle.st_carried_ids.proofs.laws.author_names_are_numbered.Goals as goal

pub returns : goal.returns
returns c = record {
  logged = λ h w i e reference ids N M world carry at is there. logged_known h w world carry i e reference ids N at is M there;
  waiting = λ h w d before later reference ids N M world carry here is there. waiting_known h w world carry d before later reference ids N here is M there;
}
