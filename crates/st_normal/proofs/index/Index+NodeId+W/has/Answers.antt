use Rattle.std.proofs.Common.{◌↔◌, IsTrue, is_some, sym, ap, ◌∙◌, subst}
use Rattle.std.specs.List.{find}
use Rattle.st_ids.specs.Listing.{Has}
use Rattle.st_normal.specs.inside.Naming.{is_named}
use Rattle.st_normal.proofs.Naming.{node_name, node-there}
use Rattle.st_normal.proofs.index.«Index+NodeId+W».has.Goals as goal

pub returns : goal.returns
returns g c =
    let xs = g.W.Walk.left c.args.self.now.walk in
    let n = c.args.node in
    subst (λ b. IsTrue b ↔ Has xs n) (sym (c.is_some.ensures ∙ ap is_some (c.find.ensures ∙ ap (λ a. find (is_named node_name a) xs) c.name.ensures))) (node-there xs n)
