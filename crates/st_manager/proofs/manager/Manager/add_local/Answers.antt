use Rattle.std.proofs.Common.{◌<◌, ◌≤◌, length, arith}
use Rattle.st_manager.proofs.Standing.{limit_kept, limit_not_told, limit_reached, limit_told, pending_count}
use Rattle.st_manager.specs.Told.{pending_limit}
use Rattle.st_manager.proofs.manager.Manager.add_local.Goals as goal

pub returns-then-len-ge-MOST_PENDING-clause-limit : goal.returns-then-len-ge-MOST_PENDING-clause-limit
returns-then-len-ge-MOST_PENDING-clause-limit g c = λ t k s.
    let most : 256 ≤ length c.args.self.now.pending.changes = omega (arith, c.len.ensures, c.if-len-ge-MOST_PENDING.true) in
    limit_told (pending_limit t) _ k (limit_reached g.R.Carrier.listed t c.args.self.now s most)

pub returns-in-Ok-clause-limit : goal.returns-in-Ok-clause-limit
returns-in-Ok-clause-limit g c = λ t k s.
    let fewer : length c.args.self.now.pending.changes < 256 = omega (arith, c.len.ensures, c.if-len-ge-MOST_PENDING.false) in
    limit_not_told (pending_limit t) k _ (limit_kept g.R.Carrier.listed t c.args.self.now s fewer) (λ h. cc)

pub returns-in-Ok-clause-stands : goal.returns-in-Ok-clause-stands
returns-in-Ok-clause-stands g c = λ t N s next.
    let count = pending_count g.R.Carrier.listed t c.args.self.now s in
    let fewer : length t.pending < 256 = omega (arith, count, c.len.ensures, c.if-len-ge-MOST_PENDING.false) in
    c.in-Ok.ensures.stands t N s fewer next

pub returns-in-Err-clause-limit : goal.returns-in-Err-clause-limit
returns-in-Err-clause-limit g c = λ t k s.
    let fewer : length c.args.self.now.pending.changes < 256 = omega (arith, c.len.ensures, c.if-len-ge-MOST_PENDING.false) in
    limit_not_told (pending_limit t) k _ (limit_kept g.R.Carrier.listed t c.args.self.now s fewer) (λ h. cc)
