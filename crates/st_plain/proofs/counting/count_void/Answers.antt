use Rattle.std.proofs.Common.{◌≡◌, ◌+◌, filter, length, take, cond, refl, ap, ◌∙◌, arith}
use Rattle.std.proofs.lemmas.Option.{slice_get_read}
use Rattle.st_plain.specs.inside.Counted.{came_out_void}
use Rattle.st_plain.proofs.LogCounts.{void_counted}
use Rattle.st_plain.proofs.counting.count_void.Goals.{then-came_out_void, else-came_out_void}
use Rattle.st_plain.proofs.counting.count_void.Goals as goal

pub loop-entry-preserved : goal.loop-entry-preserved
loop-entry-preserved c =
    let es = c.args.log.now in
    let i = c.loop-entry.entry-index in
    let p = came_out_void c.args.logged.now in
    let before = length (filter p (take i es)) in
    let more = void_counted p es i c.entry-item.result c.came_out_void.result (slice_get_read es (length es) i c.entry-item.result refl c.loop-entry-test.true c.entry-item.is) c.came_out_void.ensures in
    let v = c.loop-entry.invariant in
    elim c.if-came_out_void.branch [
      | then-came_out_void w ↦ (let one : length (filter p (take (i + 1) es)) ≡ 1 + before = more ∙ ap (λ b. cond b 1 0 + before) w.if-came_out_void.true in record { counted = omega (arith, one, w.count-is, v.counted); few = omega (arith, w.count-is, v.few) })
      | else-came_out_void w ↦ (let none : length (filter p (take (i + 1) es)) ≡ 0 + before = more ∙ ap (λ b. cond b 1 0 + before) w.if-came_out_void.false in record { counted = omega (arith, none, w.count-is, v.counted); few = omega (arith, w.count-is, v.few) })
    ]
