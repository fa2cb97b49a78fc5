use Rattle.std.proofs.Common.{◌≡◌, ◌+◌, ◌-◌, ◌^◌, [], ◌∷◌, min, length, take, refl, arith}
use Rattle.std.proofs.lemmas.Option.{slice_get_read}
use Rattle.st_clusters.specs.Log.{carried_count}
use Rattle.st_lists.specs.Log.{ranges_in}
use Rattle.st_lists.proofs.Texts.{carried_one_more}
use Rattle.st_lists.proofs.counts.ids_carried.Goals as goal

pub loop-entry-preserved : goal.loop-entry-preserved
loop-entry-preserved c =
    let s = c.args.session in
    let es = c.args.entries.now in
    let i = c.loop-entry.entry-index in
    let one : carried_count s (ranges_in (take (i + 1) es)) ≡ carried_count s (ranges_in (take i es)) + carried_count s (ranges_in (c.entry-item.result ∷ [])) = carried_one_more s es i c.entry-item.result (slice_get_read es (length es) i c.entry-item.result refl c.loop-entry-test.true c.entry-item.is) in
    let before : c.loop-entry.count ≡ min (carried_count s (ranges_in (take i es))) (2 ^ 32 - 1) = c.loop-entry.invariant in
    let now : c.saturating_add-count.result ≡ min (carried_count s (ranges_in (take (i + 1) es))) (2 ^ 32 - 1) = omega (arith, one, before, c.ids_in-carried.ensures, c.saturating_add-count.ensures) in
    now
