use Rattle.st_normal.proofs.Naming.{revs_once}
use Rattle.st_normal.proofs.step_check.revs_once.Goals as goal

pub returns : goal.returns
returns c =
    let r = revs_once c.args.entries.now in
    (λ t. r.0 (c.of.ensures.once.0 t), λ d. c.of.ensures.once.1 (r.1 d))
