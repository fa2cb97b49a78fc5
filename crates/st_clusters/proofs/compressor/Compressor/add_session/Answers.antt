use Rattle.std.proofs.Common.{◌≡◌, [], ◌∷◌, ◌++◌, ◌∙◌, arith}
use Rattle.st_clusters.specs.Table.{new_session}
use Rattle.st_clusters.proofs.InOrder.{order_joined}
use Rattle.st_clusters.proofs.Joining.{sound_joined}
use Rattle.st_clusters.proofs.compressor.Compressor.add_session.Goals as goal

pub invariant_of-self-2 : goal.invariant_of-self-2
invariant_of-self-2 c =
    let self = c.args.self.now in
    let joined : c.push_reserved.new.self.items ≡ self.sessions.items ++ new_session c.args.uuid ∷ [] = c.push_reserved.ensures.items ∙ cc (c.reserve.ensures.items, c.new_session.ensures) in
    record {
      sound = sound_joined self.sessions.items _ self.clusters.items self.places.items _ c.args.uuid self.sound c.requires c.ranges.uuid.fits c.in_default.ensures.0 c.in_default.ensures.1
          joined c.in_ok-add_place.ensures.ok;
      in_order = order_joined self.sessions.items _ self.order.items _ c.args.uuid c.free_number.result c.count_before-before.result _ self.in_order c.count_before-before.ensures c.free_number.ensures.value
          (omega (arith, self.sound.each, self.places.ok.0)) joined c.in_ok-add_place.ensures.place;
    }
