use Rattle.std.proofs.Common.{map, sym, subst}
use Rattle.st_ids.specs.declared.names.CellId.{CellId}
use Rattle.st_ids.specs.declared.names.NodeId.{NodeId}
use Rattle.st_marks.specs.Row.{spread}
use Rattle.st_marks.specs.Listings.{cells_made}
use Rattle.st_seq.specs.NamedApart.{found_at}
use Rattle.st_seq.specs.inside.NamedApart.{IsPlace}
use Rattle.st_seq.specs.OwnedEarly.{OwnedEarly}
use Rattle.st_seq.proofs.OwnersEarly.{early_is_place}
use Rattle.st_seq.proofs.owners.place_early.Goals as goal

pub returns : goal.returns
returns c =
    let new = c.args.new.now in
    let xs = spread c.args.first.now in
    let ys = spread c.args.then.now in
    let same = c.first_early.ensures (map (λ (n : NodeId). found_at n.0 0) new) (map (λ (d : CellId). found_at d.0 0) (cells_made xs)) c.in_ok-nodes.ensures c.in_ok-cells.ensures in
    subst (IsPlace (OwnedEarly new xs ys)) (sym same) (early_is_place new xs ys)
