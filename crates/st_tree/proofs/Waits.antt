-- What waits, and which of it is below a node.
use Rattle.std.proofs.Common.{◌≡◌, List, [], ◌∷◌, ◌++◌, ◌∙◌, map, false, refl, ap}
use Rattle.std.proofs.lemmas.List.{map-append, reverse-append}
use Rattle.std.specs.Prelude.{reverse}
use Rattle.st_ids.specs.declared.names.NodeId.{NodeId}
use Rattle.st_tree.specs.Node.{view}
use Rattle.st_tree.specs.inside.Rebuilt.{Waiting, first_is_below, fields_of_node, fields_of_others, waiting_view}
use Rattle.st_tree.specs.declared.rebuild.Placed.{Placed}

-- the last in the program is the first that waits
pub waiting_last : (ps : List Placed) (p : Placed) → waiting_view (ps ++ p ∷ []) ≡ (p.at, view p.tree) ∷ waiting_view ps
waiting_last ps p = let seen : Placed → Waiting = λ q. (q.at, view q.tree) in ap reverse (map-append seen ps (p ∷ [])) ∙ reverse-append (map seen ps) (seen p ∷ [])

pub mine_none : (n : NodeId) (ws : List Waiting) → first_is_below n ws ≡ false → fields_of_node n ws ≡ []
mine_none n [] h = refl
mine_none n (w ∷ ws) h = rw h

pub others_none : (n : NodeId) (ws : List Waiting) → first_is_below n ws ≡ false → fields_of_others n ws ≡ ws
others_none n [] h = refl
others_none n (w ∷ ws) h = rw h
