use Rattle.st_one_laws.proofs.LiftedActs.{act_back, act_to}
use Rattle.st_one_laws.proofs.laws.acts_are_lifted.Goals as goal

pub returns : goal.returns
returns c = λ h w v act i d k l a at. (act_to h w i d at v a k l act, act_back h w i d at v a k l act)
