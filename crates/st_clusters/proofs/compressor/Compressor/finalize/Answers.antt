use Rattle.std.proofs.Common.{◌≡◌, true, refl, sym, arith}
use Rattle.st_clusters.specs.Ids.{ids_of}
use Rattle.st_clusters.specs.Table.{is_next}
use Rattle.st_clusters.proofs.Finalising.{ends_before, numbers_fit, sound_finalised, finalising, next_parts}
use Rattle.st_clusters.proofs.InOrder.{order_kept}
use Rattle.st_clusters.proofs.compressor.Compressor.finalize.Goals as goal

pub put_range-requires-clause-numbers : goal.put_range-requires-clause-numbers
put_range-requires-clause-numbers c =
    let self = c.args.self.now in
    let next : is_next c.args.range c.index.result.now ≡ true = sym c.if-not-is_next.ensures in
    numbers_fit self.sessions.items self.clusters.items self.places.items c.args.range.count self.sound (omega (arith, (next_parts c.args.range c.index.result.now next).1))

pub put_range-requires-clause-ids : goal.put_range-requires-clause-ids
put_range-requires-clause-ids c = λ i h own.
    let self = c.args.self.now in
    let next : is_next c.args.range c.index.result.now ≡ true = sym c.if-not-is_next.ensures in
    ends_before self.sessions.items self.clusters.items self.places.items c.in-Some.place c.index.result.now c.args.range self.sound c.in-Some.ensures.1 c.index.ensures c.in-Some.ensures.0
    (next_parts c.args.range c.index.result.now next).0 i (omega (arith, h, self.clusters.ok.0)) own

pub invariant_of-self-2 : goal.invariant_of-self-2
invariant_of-self-2 c =
    let self = c.args.self.now in
    let next : is_next c.args.range c.index.result.now ≡ true = sym c.if-not-is_next.ensures in
    let parts = next_parts c.args.range c.index.result.now next in
    record {
      sound = rw c.raise_to.ensures (sound_finalised self.sessions.items self.clusters.items c.put_range.new.clusters.items self.places.items c.in-Some.place c.index.result.now c.args.range c.put_range.new.places
          self.sound c.in-Some.ensures.1 c.index.ensures c.in-Some.ensures.0 parts.0 parts.1 c.in_ok-put_range.ensures.ok c.in_ok-put_range.ensures.places);
      in_order = rw c.raise_to.ensures (order_kept self.sessions.items self.order.items c.in-Some.place c.index.result.now _ self.in_order c.in-Some.ensures.1 c.index.ensures refl);
    }

pub returns-clause-ok : goal.returns-clause-ok
returns-clause-ok c =
    let self = c.args.self.now in
    let next : is_next c.args.range c.index.result.now ≡ true = sym c.if-not-is_next.ensures in
    let parts = next_parts c.args.range c.index.result.now next in
    rw (c.raise_to.ensures, c.in_ok-put_range.ensures.ok) (finalising (ids_of self) c.in-Some.place c.index.result.now c.args.range c.in-Some.ensures.0 c.in-Some.ensures.1 c.index.ensures parts.0 parts.1)
