use Rattle.std.proofs.Common.{Result, Ok, Err}
use Rattle.std.specs.Prelude.{OnOk}
use Rattle.st_manager.proofs.head.head_goes_on.Goals as goal

either_way : {T E P : Type 0} (r : Result T E) → P → OnOk r P
either_way (Ok x) p = p
either_way (Err e) p = tt

pub returns-clause-tables : goal.returns-clause-tables
returns-clause-tables g c = either_way c.pending_go_on.result (λ D E t x s. c.in_ok-apply.ensures g.R.Carrier.listed D E t x s)
