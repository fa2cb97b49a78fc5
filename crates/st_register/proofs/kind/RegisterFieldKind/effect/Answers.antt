use Rattle.st_register.proofs.Carried.{effect_is}
use Rattle.st_register.proofs.kind.RegisterFieldKind.effect.Goals as goal

pub returns : goal.returns
returns c p d w e h = effect_is p d c.args.void _ _ w e c.occupant_left.ensures h
