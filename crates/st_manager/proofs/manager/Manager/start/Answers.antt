use Rattle.std.proofs.Common.{refl}
use Rattle.st_manager.proofs.Standing.{started}
use Rattle.st_manager.proofs.manager.Manager.start.Goals as goal

pub returns : goal.returns
returns g c = λ O tables sound made names. started g.R.Carrier.listed O c.args.history c.args.own _ tables sound made names refl c.new.ensures c.new-3.ensures c.new-4.ensures.empty c.new-2.ensures refl refl refl refl
