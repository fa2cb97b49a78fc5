use Rattle.std.proofs.Common.{◌≡◌, ◌<◌, ◌+◌, suc, subst, arith, length, slice_set, MatchOption, Option}
use Rattle.st_marks.specs.declared.marks.RowMarks.{RowMarks}
use Rattle.st_fast_path.specs.inside.Counted.{AreCountedTo, IsRowCounted}
use Rattle.st_fast_path.proofs.RowsCounted.{counted_on, still_there}
use Rattle.st_fast_path.proofs.raising.count_rows.Goals as goal

pub loop-place-preserved : goal.loop-place-preserved
loop-place-preserved c =
    let h : c.loop-place.place < length c.args.rows.now = omega (arith, c.loop-place-test.true, c.len-place-end.ensures) in
    let there = still_there c.args.beside c.args.other.now c.args.rows.now c.loop-place.rows c.loop-place.place c.loop-place.invariant h in
    let did = subst (λ (o : Option RowMarks). MatchOption o (c.count_at.new.rows ≡ c.loop-place.rows) (λ r. (q : RowMarks) × (c.count_at.new.rows ≡ slice_set c.loop-place.rows c.loop-place.place q) × IsRowCounted c.args.beside c.args.other.now r q)) there.2 c.in_ok-count_at.ensures in
    let n : suc c.loop-place.place ≡ c.loop-place.place + 1 = omega arith in
    subst (λ p. AreCountedTo c.args.beside c.args.other.now c.args.rows.now p c.count_at.new.rows) n
    (counted_on c.args.beside c.args.other.now c.args.rows.now c.loop-place.rows c.count_at.new.rows c.loop-place.place there.0 did.0 c.loop-place.invariant there.1 did.1 did.2)
