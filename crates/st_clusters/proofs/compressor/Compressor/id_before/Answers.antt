use Rattle.std.proofs.Common.{sym, arith}
use Rattle.st_clusters.proofs.Unique.{id_of_later, no_id_before}
use Rattle.st_clusters.proofs.compressor.Compressor.id_before.Goals as goal

pub returns-then-is_later : goal.returns-then-is_later
returns-then-is_later c =
    let self = c.args.self.now in
    id_of_later self.clusters.items c.args.later.now c.in-Some.rev c.args.number self.sound.apart (omega (arith, c.if-number-eq0.false)) c.in-Some.ensures (sym c.if-is_later.ensures)

pub returns-in_default : goal.returns-in_default
returns-in_default c =
    no_id_before c.args.self.now.clusters.items c.args.later.now c.args.number (omega (arith, c.if-number-eq0.false)) c.in_default.ensures
