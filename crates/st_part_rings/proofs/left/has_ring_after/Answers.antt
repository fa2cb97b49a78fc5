use Rattle.st_marks.specs.Listings.{Places, listing_after_change}
use Rattle.st_part_rings.proofs.LeftOnce.{left_under_one}
use Rattle.st_part_rings.proofs.LinksTold.{are_left}
use Rattle.st_part_rings.proofs.RingsTold.{no_ring_told, ring_told}
use Rattle.st_part_rings.proofs.left.has_ring_after.Goals as goal

pub returns-clause-ring : goal.returns-clause-ring
returns-clause-ring c =
    let L = listing_after_change c.args.change.now in
    ring_told (Places L) c.as_slice-2.result.now
    (are_left L c.in_ok-places.places c.as_slice.result.now c.in_ok-links.links c.as_slice-2.result.now c.in_ok-places.ensures c.as_slice.ensures c.in_ok-links.ensures c.as_slice-2.ensures)
    c.in_ok-ring.ring c.in_ok-ring.ensures

pub returns-clause-none : goal.returns-clause-none
returns-clause-none c = λ normal.
    let L = listing_after_change c.args.change.now in
    no_ring_told (Places L) c.as_slice-2.result.now
    (are_left L c.in_ok-places.places c.as_slice.result.now c.in_ok-links.links c.as_slice-2.result.now c.in_ok-places.ensures c.as_slice.ensures c.in_ok-links.ensures c.as_slice-2.ensures)
    c.in_ok-ring.ring c.in_ok-ring.ensures (left_under_one c.args.change.now normal)
