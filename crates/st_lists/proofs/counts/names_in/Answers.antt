use Rattle.std.proofs.Common.{◌≡◌, ◌+◌, ◌-◌, ◌^◌, min, length, take, refl, arith}
use Rattle.std.proofs.lemmas.Option.{slice_get_read}
use Rattle.st_lists.specs.Names.{names_in, names_made}
use Rattle.st_lists.proofs.Names.{names_taken}
use Rattle.st_lists.proofs.counts.names_in.Goals as goal

pub loop-intent-preserved : goal.loop-intent-preserved
loop-intent-preserved c =
    let Ns = c.args.intents.now in
    let i = c.loop-intent.intent-index in
    let one : names_in (take (i + 1) Ns) ≡ names_in (take i Ns) + names_made c.intent-item.result = names_taken Ns i c.intent-item.result (slice_get_read Ns (length Ns) i c.intent-item.result refl c.loop-intent-test.true c.intent-item.is) in
    let before : c.loop-intent.count ≡ min (names_in (take i Ns)) (2 ^ 64 - 1) = c.loop-intent.invariant in
    let now : c.saturating_add-count.result ≡ min (names_in (take (i + 1) Ns)) (2 ^ 64 - 1) = omega (arith, one, before, c.names_made-made.ensures, c.saturating_add-count.ensures) in
    now
