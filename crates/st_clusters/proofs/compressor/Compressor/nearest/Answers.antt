use Rattle.std.proofs.Common.{◌∙◌, arith}
use Rattle.std.proofs.lemmas.List.{get_or_read}
use Rattle.st_clusters.proofs.InOrder.{nearest_before, nearest_last}
use Rattle.st_clusters.proofs.compressor.Compressor.nearest.Goals as goal

pub returns-then-count-eq0 : goal.returns-then-count-eq0
returns-then-count-eq0 c =
    let self = c.args.self.now in
    nearest_last self.sessions.items self.order.items c.as_slice.result.now c.args.free c.count_before-count.result c.copied.result self.in_order self.sound.wide c.requires c.count_before-count.ensures c.if-count-eq0.true
    c.as_slice.ensures.value (c.copied.ensures ∙ c.last.ensures.value)

pub returns : goal.returns
returns c =
    let self = c.args.self.now in
    let near = nearest_before self.sessions.items self.order.items c.args.free c.count_before-count.result self.in_order self.sound.wide c.requires c.count_before-count.ensures (omega (arith, c.if-count-eq0.false)) in
    rw (← (get_or_read self.order.items _ _ (omega (arith, c.count_before-count.ensures.within, c.if-count-eq0.false)) c.index.ensures 0)) at near
