-- the places so far
use Rattle.std.proofs.Common.{◌≡◌, map, take}
use Rattle.st_cursor.specs.declared.hops.Hop.{Hop}
use Rattle.st_cursor.proofs.hops.path_of.Given as goal

abbrev pub invariant-loop-hop : goal.invariant-loop-hop
invariant-loop-hop l = l.path ≡ map (λ (h : Hop). h.place) (take l.hop-index l.hops)
