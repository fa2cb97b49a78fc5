use Rattle.std.proofs.Common.{◌≡◌, ◌+◌, ◌-◌, refl, sym, ◌∙◌, ap, arith}
use Rattle.st_clusters.proofs.Clusters.{put_rest, places_kept, places_rest}
use Rattle.st_clusters.specs.Table.{new_cluster}
use Rattle.st_clusters.specs.declared.ids.Cluster.{Cluster}
use Rattle.st_clusters.proofs.cluster.put_at.Goals as goal

pub returns-then-from-room-clause-places : goal.returns-then-from-room-clause-places
returns-then-from-room-clause-places c = λ kept. places_kept c.args.range.session c.args.clusters.now.items c.args.place c.index.result.now _ c.args.places.now (omega (arith, c.args.clusters.now.ok.0, c.requires.there)) c.index.ensures refl kept

pub returns-then-place-len-clause-places : goal.returns-then-place-len-clause-places
returns-then-place-len-clause-places c = λ kept. places_kept c.args.range.session c.args.clusters.now.items c.args.place c.index.result.now _ c.args.places.now (omega (arith, c.args.clusters.now.ok.0, c.requires.there)) c.index.ensures refl kept

pub returns-clause-ok : goal.returns-clause-ok
returns-clause-ok c =
    let made : c.new_cluster-next.result ≡ new_cluster c.args.clusters.now.items c.args.range.session (c.args.range.first + c.room-room.result) (c.args.range.count - c.room-room.result) = rw c.as_slice.ensures.value at c.new_cluster-next.ensures in
    put_rest c.args.range c.args.clusters.now.items c.args.place c.index.result.now c.room-room.result c.new_cluster-next.result c.begin.new.clusters.items
    (omega (arith, c.args.clusters.now.ok.0, c.requires.there)) c.index.ensures c.room-room.ensures (omega (arith, c.if-from-room.false, c.from.ensures)) (λ e. c.if-place-len.false (e ∙ sym c.args.clusters.now.ok.0 ∙ sym c.len.ensures))
    made c.in_ok-begin.ensures.ok

pub returns-clause-places : goal.returns-clause-places
returns-clause-places c = λ kept.
    places_rest c.args.range.session c.args.clusters.now.items c.args.place c.index.result.now _ c.new_cluster-next.result c.begin.new.clusters.items c.args.places.now c.begin.new.places _
    (omega (arith, c.args.clusters.now.ok.0, c.requires.there)) c.index.ensures refl c.in_ok-begin.ensures.ok c.args.clusters.now.ok.0 (ap (λ (x : Cluster). x.session) c.new_cluster-next.ensures) c.in_ok-begin.ensures.place kept
