use Rattle.std.proofs.Common.{◌≤◌, ◌<◌, arith, refl}
use Rattle.st_marks.specs.Row.{spread}
use Rattle.st_rows.proofs.Pairs.{counted_in_turn, counted_beside}
use Rattle.st_rows.proofs.pieces.counted_turn.Goals as goal
use Rattle.st_rows.proofs.pieces.counted_turn.Goals.{then-p-q, else-p-q}

pub returns-clause-in_turn : goal.returns-clause-in_turn
returns-clause-in_turn c = λ a b.
    let first : c.if-p-q.count ≤ c.args.p = elim c.if-p-q.branch [ then-p-q w ↦ omega arith | else-p-q w ↦ omega arith ] in
    let second : c.if-p-q.count ≤ c.args.q = elim c.if-p-q.branch [ then-p-q w ↦ omega arith | else-p-q w ↦ omega arith ] in
    let some : 0 < c.if-p-q.count = elim c.if-p-q.branch [ then-p-q w ↦ omega (arith, a) | else-p-q w ↦ omega (arith, b) ] in
    let z = counted_in_turn c.args.p c.args.q c.if-p-q.count _ _ (spread c.args.xs.now) (spread c.args.ys.now) some first second refl refl in
    (tt, z.0, z.1, z.2, z.3)

pub returns-clause-beside : goal.returns-clause-beside
returns-clause-beside c = λ a b.
    let first : c.if-p-q.count ≤ c.args.p = elim c.if-p-q.branch [ then-p-q w ↦ omega arith | else-p-q w ↦ omega arith ] in
    let second : c.if-p-q.count ≤ c.args.q = elim c.if-p-q.branch [ then-p-q w ↦ omega arith | else-p-q w ↦ omega arith ] in
    let some : 0 < c.if-p-q.count = elim c.if-p-q.branch [ then-p-q w ↦ omega (arith, a) | else-p-q w ↦ omega (arith, b) ] in
    let z = counted_beside c.args.p c.args.q c.if-p-q.count _ _ (spread c.args.xs.now) (spread c.args.ys.now) some first second refl refl in
    (tt, z.0, z.1, z.2, z.3)

pub returns-clause-alike : goal.returns-clause-alike
returns-clause-alike c = λ a b.
    let first : c.if-p-q.count ≤ c.args.p = elim c.if-p-q.branch [ then-p-q w ↦ omega arith | else-p-q w ↦ omega arith ] in
    let second : c.if-p-q.count ≤ c.args.q = elim c.if-p-q.branch [ then-p-q w ↦ omega arith | else-p-q w ↦ omega arith ] in
    let some : 0 < c.if-p-q.count = elim c.if-p-q.branch [ then-p-q w ↦ omega (arith, a) | else-p-q w ↦ omega (arith, b) ] in
    let z = counted_beside c.args.p c.args.q c.if-p-q.count _ _ (spread c.args.xs.now) (spread c.args.ys.now) some first second refl refl in
    (tt, z.0, refl, z.2, z.3)

pub returns-clause-in_turn_alike : goal.returns-clause-in_turn_alike
returns-clause-in_turn_alike c = λ a b.
    let first : c.if-p-q.count ≤ c.args.p = elim c.if-p-q.branch [ then-p-q w ↦ omega arith | else-p-q w ↦ omega arith ] in
    let second : c.if-p-q.count ≤ c.args.q = elim c.if-p-q.branch [ then-p-q w ↦ omega arith | else-p-q w ↦ omega arith ] in
    let some : 0 < c.if-p-q.count = elim c.if-p-q.branch [ then-p-q w ↦ omega (arith, a) | else-p-q w ↦ omega (arith, b) ] in
    let z = counted_in_turn c.args.p c.args.q c.if-p-q.count _ _ (spread c.args.xs.now) (spread c.args.ys.now) some first second refl refl in
    (tt, z.0, refl, z.2, z.3)
