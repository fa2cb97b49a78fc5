use Rattle.st_cross_laws.proofs.RegistersAcross.{register_there}
use Rattle.st_cross_laws.proofs.laws.registers_beside_are_crossed.Goals as goal

pub returns : goal.returns
returns c = λ D E N C S new v u f x fits later change step listed. register_there D E N C S new v u f x fits later change step listed
