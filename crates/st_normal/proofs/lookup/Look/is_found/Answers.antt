use Rattle.std.proofs.Common.{◌↔◌, IsTrue, List, is_some, map, sym, ap, ◌∙◌, subst}
use Rattle.std.specs.List.{find}
use Rattle.st_ids.specs.Listing.{Has}
use Rattle.st_normal.specs.declared.entries.Found.{Found}
use Rattle.st_normal.specs.inside.Naming.{is_named}
use Rattle.st_normal.proofs.Naming.{found_name, found-there}
use Rattle.st_normal.proofs.lookup.Look.is_found.Goals as goal

pub returns : goal.returns
returns g c =
    let xs = g.L.Finds.Walk.left c.args.self.now.found.walk in
    let n = c.args.node in
    subst (λ (ys : List Found). IsTrue c.is_some.result ↔ Has (map (λ (f : Found). f.node) ys) n) c.args.self.now.of_found
    (subst (λ b. IsTrue b ↔ Has (map (λ (f : Found). f.node) xs) n) (sym (c.is_some.ensures ∙ ap is_some (c.find.ensures ∙ ap (λ a. find (is_named found_name a) xs) c.name.ensures))) (found-there xs n))
