use Rattle.std.proofs.Common.{sym}
use Rattle.st_clusters.proofs.InOrder.{spans_at, spans_far}
use Rattle.st_clusters.proofs.compressor.Compressor.session_spanning.Goals as goal

pub returns-then-ahead-lt-SPAN : goal.returns-then-ahead-lt-SPAN
returns-then-ahead-lt-SPAN c =
    let self = c.args.self.now in
    sym (spans_at self.sessions.items self.clusters.items self.places.items c.args.free c.in_ok-place.place c.index.result.now self.sound c.requires c.in_ok-place.ensures c.index.ensures (rw (c.ahead.ensures, c.free_number.ensures.value) at c.if-ahead-lt-SPAN.true))

pub returns-else-ahead-lt-SPAN : goal.returns-else-ahead-lt-SPAN
returns-else-ahead-lt-SPAN c =
    let self = c.args.self.now in
    sym (spans_far self.sessions.items c.args.free c.in_ok-place.place c.index.result.now c.in_ok-place.ensures c.index.ensures (rw (c.ahead.ensures, c.free_number.ensures.value) at c.if-ahead-lt-SPAN.false))
