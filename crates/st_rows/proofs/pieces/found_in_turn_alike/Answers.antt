use Rattle.st_rows.proofs.pieces.found_in_turn_alike.Goals as goal

pub returns-in-Some : goal.returns-in-Some
returns-in-Some c = λ xs ys h k.
    let heads = rw c.in-Some.is at c.counts_of.ensures in
    let x = rw heads.0 at h in
    let y = rw heads.1 at k in
    rw (x.1, y.1) (c.counted_turn.ensures.in_turn_alike x.0 y.0)
