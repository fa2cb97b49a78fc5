use Rattle.st_one_laws.proofs.AlikeToItself.{worlds_itself}
use Rattle.st_one_laws.proofs.OneMeaning.{lists_mean_one}
use Rattle.st_one_laws.proofs.StepsOfWorlds.{next_alike}
use Rattle.st_one_laws.proofs.laws.one_next.Goals as goal

pub returns : goal.returns
returns c = record {
  from_one = λ h w v x s a b sound y z. next_alike h w w (worlds_itself w) (lists_mean_one h w sound) s v x a b y z;
  from_alike = λ h w u v x s a b sound alike y z. next_alike h u w alike (lists_mean_one h w sound) s v x a b y z;
}
