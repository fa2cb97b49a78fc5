use Rattle.std.proofs.Common.{◌≡◌, ◌≤◌, ◌+◌, sym, ◌∙◌, ap, arith, List, [], ◌∷◌, ◌++◌, vec_len}
use Rattle.st_clusters.specs.Table.{at, places_of}
use Rattle.st_clusters.specs.inside.Kept.{IsLastOf}
use Rattle.std.proofs.lemmas.Result.{on_ok_weaker}
use Rattle.st_clusters.proofs.Clusters.{last_found, places_more, both_ok}
use Rattle.st_clusters.specs.declared.ids.Cluster.{Cluster}
use Rattle.st_clusters.proofs.cluster.put_range.Goals as goal

pub put_at-requires-clause-there : goal.put_at-requires-clause-there
put_at-requires-clause-there c =
    let is : IsLastOf c.args.range.session c.args.clusters.now.items c.in-Some.place = last_found c.args.range.session c.args.clusters.now.items c.args.places.now c.as_slice.result.now _ c.in-Some.place c.requires.places c.as_slice.ensures c.last.ensures.value c.in-Some.ensures in
    omega (arith, is.there, c.args.clusters.now.ok.0)

pub put_at-requires-clause-own : goal.put_at-requires-clause-own
put_at-requires-clause-own c = (last_found c.args.range.session c.args.clusters.now.items c.args.places.now c.as_slice.result.now _ c.in-Some.place c.requires.places c.as_slice.ensures c.last.ensures.value c.in-Some.ensures).own

pub put_at-requires-clause-ids : goal.put_at-requires-clause-ids
put_at-requires-clause-ids c =
    let is : IsLastOf c.args.range.session c.args.clusters.now.items c.in-Some.place = last_found c.args.range.session c.args.clusters.now.items c.args.places.now c.as_slice.result.now _ c.in-Some.place c.requires.places c.as_slice.ensures c.last.ensures.value c.in-Some.ensures in
    let low : (at c.args.clusters.now.items c.in-Some.place).first + (at c.args.clusters.now.items c.in-Some.place).used ≤ c.args.range.first = c.requires.ids c.in-Some.place (omega (arith, is.there, c.args.clusters.now.ok.0)) is.own in
    omega (arith, low, c.requires.range_ids)

pub returns-in-None-clause-places : goal.returns-in-None-clause-places
returns-in-None-clause-places c =
    on_ok_weaker c.begin.result (λ (h : (c.begin.new.clusters.items ≡ c.args.clusters.now.items ++ c.new_cluster-first.result ∷ []) × (c.begin.new.places ≡ c.args.places.now ++ vec_len c.args.clusters.now ∷ [])).
    places_more c.args.range.session c.args.clusters.now.items c.new_cluster-first.result c.args.places.now c.begin.new.places _ c.args.clusters.now.ok.0
    (ap (λ (x : Cluster). x.session) c.new_cluster-first.ensures) c.requires.places h.1
    ∙ ap (λ (cs : List Cluster). places_of c.args.range.session cs) (sym h.0))
    (both_ok _ _ c.begin.result c.begin.ensures.ok c.begin.ensures.place)
