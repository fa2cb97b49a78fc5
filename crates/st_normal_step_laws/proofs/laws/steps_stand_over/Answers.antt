use Rattle.st_normal_step_laws.proofs.RingsLater.{later_extends}
use Rattle.st_normal_step_laws.proofs.StepLater.{step_over}
use Rattle.st_normal_step_laws.proofs.laws.steps_stand_over.Goals as goal

pub returns : goal.returns
returns c = record { extends = λ D S x w o. later_extends D S x w o; step = λ D S x w o. step_over D S x w o }
