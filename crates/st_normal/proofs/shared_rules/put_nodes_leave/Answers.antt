use Rattle.std.proofs.Common.{◌≡◌, ◌↔◌, ◌⊎◌, IsTrue, List, Some, subst}
use Rattle.std.specs.List.{AllByRecursion}
use Rattle.st_ids.specs.Listing.{Has}
use Rattle.st_ids.specs.declared.names.NodeId.{NodeId}
use Rattle.st_marks.specs.declared.marks.How.TheVariants.{Leave}
use Rattle.st_normal.specs.inside.Rules.{how_found}
use Rattle.st_normal.proofs.Obeyed.{comes_in}
use Rattle.st_normal.proofs.shared_rules.put_nodes_leave.Goals as goal

pub returns : goal.returns
returns g c = λ once.
    let L = g.L.HasEntries.listed c.args.look.now.lists in
    let e = subst (λ (ys : List NodeId). IsTrue c.each.result ↔ AllByRecursion (λ n. Has L.new n ⊎ (how_found L n ≡ Some Leave)) ys) c.puts.ensures c.each.ensures in
    (λ t. (comes_in L once L.put).0 (e.0 t), λ a. e.1 ((comes_in L once L.put).1 a))
