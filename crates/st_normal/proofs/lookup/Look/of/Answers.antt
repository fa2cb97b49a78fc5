use Rattle.std.proofs.Common.{◌↔◌, IsTrue, List, subst}
use Rattle.st_ids.specs.Listing.{AreDistinct}
use Rattle.st_ids.specs.declared.names.NodeId.{NodeId}
use Rattle.st_normal.specs.declared.entries.Found.{Found}
use Rattle.st_normal.proofs.Naming.{found_name, node_name, found_once, nodes_once}
use Rattle.st_normal.proofs.lookup.Look.of.Goals as goal

pub returns-clause-found_once : goal.returns-clause-found_once
returns-clause-found_once g c =
    let xs = (g.L.HasEntries.listed c.args.lists).found in
    let e = subst (λ (ys : List Found). IsTrue c.of-found.result.once ↔ AreDistinct found_name ys) c.finds.ensures c.of-found.ensures.once in
    (λ t. (found_once xs).0 (e.0 t), λ d. e.1 ((found_once xs).1 d))

pub returns-clause-put_once : goal.returns-clause-put_once
returns-clause-put_once g c =
    let xs = (g.L.HasEntries.listed c.args.lists).put in
    let e = subst (λ (ys : List NodeId). IsTrue c.of-put.result.once ↔ AreDistinct node_name ys) c.puts.ensures c.of-put.ensures.once in
    (λ t. (nodes_once xs).0 (e.0 t), λ d. e.1 ((nodes_once xs).1 d))
