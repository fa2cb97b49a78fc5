use Rattle.std.proofs.Common.{subst, ◌++◌}
use Rattle.std.proofs.Common.{true, false}
use Rattle.st_forest.specs.inside.Writes.{AreSeated, seats_of_registers, seats_of_rows}
use Rattle.st_forest.proofs.Written.{seated_then}
use Rattle.st_forest.proofs.apply.seat_all.Goals as goal

pub returns : goal.returns
returns c =
    let S = c.args.step.now in
    let a = c.args.nodes.now in
    let b = c.seat_rows.new.nodes in
    let d = c.seat_registers.new.nodes in
    let e = c.seat_rows-2.new.nodes in
    let f = c.seat_registers-2.new.nodes in
    let one : AreSeated (seats_of_rows false S.rows) a b = subst (λ rs. AreSeated (seats_of_rows false rs) a b) c.as_slice.ensures c.seat_rows.ensures in
    let two : AreSeated (seats_of_registers false S.regs) b d = subst (λ ss. AreSeated (seats_of_registers false ss) b d) c.as_slice-2.ensures c.in_ok-seat_registers.ensures in
    let three : AreSeated (seats_of_rows true S.rows) d e = subst (λ rs. AreSeated (seats_of_rows true rs) d e) c.as_slice-3.ensures c.seat_rows-2.ensures in
    let four : AreSeated (seats_of_registers true S.regs) e f = subst (λ ss. AreSeated (seats_of_registers true ss) e f) c.as_slice-4.ensures c.in_ok-seat_registers-2.ensures in
    seated_then ((seats_of_rows false S.rows ++ seats_of_registers false S.regs) ++ seats_of_rows true S.rows) (seats_of_registers true S.regs) a e f
    (seated_then (seats_of_rows false S.rows ++ seats_of_registers false S.regs) (seats_of_rows true S.rows) a d e (seated_then (seats_of_rows false S.rows) (seats_of_registers false S.regs) a b d one two) three) four
