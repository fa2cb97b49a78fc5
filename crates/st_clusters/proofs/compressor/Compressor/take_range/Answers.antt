use Rattle.std.proofs.Common.{refl, arith}
use Rattle.st_clusters.specs.Ids.{ids_of}
use Rattle.st_clusters.specs.inside.Kept.{AreCounts}
use Rattle.st_clusters.proofs.Counts.{recounted, taking}
use Rattle.st_clusters.proofs.InOrder.{order_kept}
use Rattle.st_clusters.proofs.compressor.Compressor.take_range.Goals as goal

pub invariant_of-self : goal.invariant_of-self
invariant_of-self c =
    let self = c.args.self.now in
    record {
      sound = recounted self.sessions.items self.clusters.items self.places.items c.in-Some.place c.index-ids.result.now _ self.sound
          c.in-Some.ensures.1 c.index-ids.ensures refl refl (λ (h : AreCounts c.index-ids.result.now). record { final_taken = omega (arith, h.taken_made, h.final_taken); taken_made = omega arith; made = h.made });
      in_order = order_kept self.sessions.items self.order.items c.in-Some.place c.index-ids.result.now _ self.in_order c.in-Some.ensures.1 c.index-ids.ensures refl;
    }

pub returns-clause-ok : goal.returns-clause-ok
returns-clause-ok c =
    taking (ids_of c.args.self.now) c.args.session c.in-Some.place c.index-ids.result.now c.in-Some.ensures.0 c.in-Some.ensures.1 c.index-ids.ensures
