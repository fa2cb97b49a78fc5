use Rattle.st_marks.proofs.WayBack.{back_fits, leads_back}
use Rattle.st_marks.proofs.laws.back_leads_back.Goals as goal

pub returns : goal.returns
returns c = record {
  fits = λ D E r u B x b. back_fits D E x r u B b;
  leads = λ D E r u B x b. leads_back D E x r u B b;
}
