use Rattle.std.proofs.Common.{◌≤◌, ◌+◌, arith}
use Rattle.st_clusters.specs.Table.{at, next_free}
use Rattle.st_clusters.proofs.Finding.{final_found}
use Rattle.st_clusters.proofs.Ranges.{free_above}
use Rattle.st_clusters.proofs.look.final_in.Goals as goal

pub final_within-requires-clause-fits : goal.final_within-requires-clause-fits
final_within-requires-clause-fits c =
    let cs = c.args.clusters.now in
    let i = c.in_ok-place.place in
    let there = c.in_ok-place.ensures.there in
    let inside : (at cs i).used ≤ (at cs i).capacity = c.requires.apart.fits i there in
    let above : (at cs i).first_final + (at cs i).capacity ≤ next_free cs = free_above cs c.requires.apart i there in
    omega (arith, inside, above, c.requires.fits)

pub returns : goal.returns
returns c = final_found c.args.clusters.now c.args.rev c.in_ok-place.place c.final_within.result c.in_ok-place.ensures c.final_within.ensures
