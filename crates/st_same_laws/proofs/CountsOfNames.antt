-- Intents that say the same make as many nodes and as many cells.
use Rattle.std.proofs.Common.{◌≡◌, length, List, Some, sym, ◌∙◌, subst, arith}
use Rattle.st_ids.specs.Listing.{Has}
use Rattle.st_ids.specs.Order.{same_node}
use Rattle.st_ids.specs.declared.names.NodeId.{NodeId}
use Rattle.st_ids.proofs.Orders.{same_node-itself, same_node-true}
use Rattle.st_marks.specs.declared.changes.NewNode.{NewNode}
use Rattle.st_marks.specs.declared.intents.Group.{Group}
use Rattle.st_marks.specs.declared.intents.Intent.{Intent}
use Rattle.st_marks.specs.declared.intents.Owned.{Owned}
use Rattle.st_marks.specs.Intent.{IsIntent, group_cells, new_node}
use Rattle.st_marks.proofs.Members.{first-distinct, first-has, has-flat_map}
use Rattle.st_marks.proofs.Lookups.{group_found}
use Rattle.st_marks.proofs.NewRows.{made_listed}
use Rattle.st_marks.proofs.Contained.{no_longer}
use Rattle.st_same_laws.specs.Same.{SaysTheSame}
use Rattle.st_same_laws.proofs.CarriedDocuments.{turned}

found_new : (L : Intent) → IsIntent L → (m : NewNode) → Has L.new m → new_node L m.node ≡ Some m
found_new L w m h = first-distinct (λ (x : NewNode). x.node) L.new (λ (x : NewNode). same_node x.node m.node) m w.new_once h (same_node-itself m.node) (λ x e. same_node-true x.node m.node e)

listed_new : (L : Intent) (n : NodeId) (m : NewNode) → new_node L n ≡ Some m → Has L.new m
listed_new L n m e = (first-has (λ (x : NewNode). same_node x.node n) L.new m e).0

new_too : (N M : Intent) → IsIntent N → SaysTheSame N M → (m : NewNode) → Has N.new m → Has M.new m
new_too N M w s m h = listed_new M m.node m (sym (s.new m.node) ∙ found_new N w m h)

cell_too : (N M : Intent) → IsIntent N → SaysTheSame N M → (o : Owned) → Has (group_cells N) o → Has (group_cells M) o
cell_too N M w s o h =
    let g = has-flat_map (λ (g : Group). g.cells) N.groups o h in
    made_listed M g.0.node g.0.after o (subst (λ (l : List Owned). Has l o) (sym (group_found N w g.0 g.1) ∙ s.groups g.0.node g.0.after) g.2)

pub nodes_same : (N M : Intent) → IsIntent N → IsIntent M → SaysTheSame N M → length N.new ≡ length M.new
nodes_same N M w v s =
    let up = no_longer (λ (m : NewNode). m.node) N.new M.new w.new_once (new_too N M w s) in
    let down = no_longer (λ (m : NewNode). m.node) M.new N.new v.new_once (new_too M N v (turned N M s)) in
    omega (arith, up, down)

pub cells_same : (N M : Intent) → IsIntent N → IsIntent M → SaysTheSame N M → length (group_cells N) ≡ length (group_cells M)
cells_same N M w v s =
    let up = no_longer (λ (o : Owned). o.cell) (group_cells N) (group_cells M) w.cell_once (cell_too N M w s) in
    let down = no_longer (λ (o : Owned). o.cell) (group_cells M) (group_cells N) v.cell_once (cell_too M N v (turned N M s)) in
    omega (arith, up, down)
