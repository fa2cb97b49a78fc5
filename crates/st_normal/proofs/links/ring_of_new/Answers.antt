use Rattle.std.proofs.Common.{◌↔◌, ◌++◌, IsTrue, List, subst}
use Rattle.std.specs.List.{filter}
use Rattle.st_normal.specs.declared.entries.Link.{Link}
use Rattle.st_normal.specs.inside.Links.{are_new, links_at, up_by}
use Rattle.st_normal.specs.inside.Ring.{HasRing}
use Rattle.st_normal.proofs.links.ring_of_new.Goals as goal

pub returns : goal.returns
returns g c =
    let new = (g.L.HasEntries.listed c.args.look.now.lists).new in
    let held = links_at g.G.Register.field g.G.Register.after c.args.regs.now in
    subst (λ (xs : List Link). IsTrue c.stand_in_ring.result ↔ HasRing (up_by (filter (are_new new) (xs ++ held)))) c.in_rows.ensures c.stand_in_ring.ensures
