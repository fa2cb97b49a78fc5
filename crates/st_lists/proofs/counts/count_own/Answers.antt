use Rattle.std.proofs.Common.{◌≡◌, ◌+◌, length, take, cond, refl, ap, ◌∙◌, arith}
use Rattle.std.proofs.lemmas.Option.{slice_get_read}
use Rattle.st_lists.specs.Log.{commits_by}
use Rattle.st_lists.proofs.Logs.{own_counted}
use Rattle.st_lists.proofs.counts.count_own.Goals.{then-is_own, else-is_own}
use Rattle.st_lists.proofs.counts.count_own.Goals as goal

pub loop-entry-preserved : goal.loop-entry-preserved
loop-entry-preserved c =
    let s = c.args.session in
    let es = c.args.entries.now in
    let i = c.loop-entry.entry-index in
    let before = length (commits_by s (take i es)) in
    let more = own_counted s es i c.entry-item.result c.is_own.result (slice_get_read es (length es) i c.entry-item.result refl c.loop-entry-test.true c.entry-item.is) c.is_own.ensures in
    let v = c.loop-entry.invariant in
    elim c.if-is_own.branch [
      | then-is_own w ↦ (let one : length (commits_by s (take (i + 1) es)) ≡ 1 + before = more ∙ ap (λ b. cond b 1 0 + before) w.if-is_own.true in record { counted = omega (arith, one, w.count-is, v.counted); few = omega (arith, w.count-is, v.few) })
      | else-is_own w ↦ (let none : length (commits_by s (take (i + 1) es)) ≡ 0 + before = more ∙ ap (λ b. cond b 1 0 + before) w.if-is_own.false in record { counted = omega (arith, none, w.count-is, v.counted); few = omega (arith, w.count-is, v.few) })
    ]
