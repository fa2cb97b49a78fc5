-- Places as an intent will leave them, read off the places before and where its puts lead.
use Rattle.std.specs.Prelude.{◌≡◌, Option, Some, None, Bool, true, false, MatchOption, option_map, unwrap_or, if◌then◌else◌}
use Rattle.std.specs.BTreeMap.{BTreeMap, get}
use Rattle.std.specs.Option.{option_map_or, option_or}
use Rattle.std.specs.Ordering.{is_lt}
use Rattle.st_ids.specs.Order.{node_cmp, cell_cmp}
use Rattle.st_ids.specs.declared.names.CellId.{CellId}
use Rattle.st_ids.specs.declared.names.NodeId.{NodeId}
use Rattle.st_marks.specs.declared.intents.Intent.{Intent}
use Rattle.st_marks.specs.declared.places.Spot.{Spot}
use Rattle.st_marks.specs.Document.{Document, node_of}
use Rattle.st_marks.specs.Intent.{is_new, new_row_of, put_of, put_in, clears}
use Rattle.st_marks.specs.CarryOut.{spot_of, unless_cleared, unless_put}
use Rattle.st_marks.specs.Verdict.{IsLeast}

-- where a node will stand: where its put leads, or where it stood, unless its register is cleared
abbrev pub place_ahead : Intent → Option Spot → Spot → Spot
place_ahead N None before = unless_cleared N before
place_ahead N (Some spot) before = spot

-- the node that will be above a node, where `targets` tells where puts lead and `place` where nodes stand
abbrev pub above_ahead : Intent → BTreeMap NodeId Spot → BTreeMap NodeId Spot → NodeId → Option NodeId
above_ahead N targets place n = node_of (place_ahead N (get node_cmp targets n) (unwrap_or (get node_cmp place n) Spot.Nowhere))

-- a document after the clears and then the puts, where `targets` tells where puts lead
abbrev pub with_moves : Intent → BTreeMap NodeId Spot → Document → Document
with_moves N targets D = record D {
  place = λ n. place_ahead N (get node_cmp targets n) (D.place n);
  held = λ f. option_or (put_in N f) (if clears N f then None else unless_put N (D.held f));
}

-- the least node that has P, or none where no node has it
abbrev pub IsLeastOf : (NodeId → Type 0) → Option NodeId → Type 0
IsLeastOf P least = MatchOption least ((m : NodeId) → P m → ⊥) (λ n. IsLeast node_cmp P n)

-- the lesser of what was least so far and a node, if it counts
abbrev pub least_with : Option NodeId → NodeId → Bool → Option NodeId
least_with least n false = least
least_with None n true = Some n
least_with (Some m) n true = if is_lt (node_cmp n m) then Some n else Some m

-- whether a place is in a row or register of a new node
abbrev pub in_new : Intent → Spot → Bool
in_new N spot = option_map_or (is_new N) (node_of spot) false

-- where a put leads, if that is in a new node
abbrev pub inside_new : Intent → Option Spot → Option Spot
inside_new N None = None
inside_new N (Some spot) = if in_new N spot then Some spot else None

-- where each node that is put will stand, by its first put; `row_of` tells in whose row an old cell is
abbrev pub AreTargets : BTreeMap CellId NodeId → Intent → BTreeMap NodeId Spot → Type 0
AreTargets row_of N targets = (n : NodeId) → get node_cmp targets n ≡ option_map (spot_of (λ c. option_or (get cell_cmp row_of c) (new_row_of N c))) (put_of N n)
