-- Puts, taken from the last to the first.
use Rattle.std.proofs.Common.{◌≡◌, ℕ, ◌+◌, ◌<◌, Bool, true, false, cond, List, ◌∷◌, length, drop, get_or, Option, Some, refl, sym, ap, ◌∙◌, option_map}
use Rattle.std.specs.List.{find}
use Rattle.st_ids.specs.Order.{same_node}
use Rattle.st_ids.specs.declared.names.CellId.{CellId}
use Rattle.st_ids.specs.declared.names.NodeId.{NodeId}
use Rattle.st_marks.specs.declared.intents.Put.{Put}
use Rattle.st_marks.specs.declared.intents.To.{To}
use Rattle.st_marks.specs.declared.places.Spot.{Spot}
use Rattle.st_marks.specs.CarryOut.{spot_of}
use Rattle.st_doc.proofs.Look.{drop_one}

-- where the puts lead a node
abbrev pub put_by : List Put → NodeId → Option To
put_by puts n = option_map (λ (p : Put). p.to) (find (λ (p : Put). same_node p.node n) puts)

-- a put, taken before those behind it
pub target_more : (row_of : CellId → Option NodeId) (n : NodeId) (puts : List Put) (i j : ℕ) (p : Put) (before : Option Spot) (now : Spot) → i + 1 ≡ j → i < length puts → get_or puts i p ≡ p
    → now ≡ spot_of row_of p.to → before ≡ option_map (spot_of row_of) (put_by (drop j puts) n)
    → cond (same_node p.node n) (Some now) before ≡ option_map (spot_of row_of) (put_by (drop i puts) n)
target_more row_of n puts i j p before now next inside at leads so_far =
    go (same_node p.node n) refl ∙ ap (λ ps. option_map (spot_of row_of) (put_by ps n)) (sym (drop_one puts i p p inside at ∙ ap (λ k. p ∷ drop k puts) next))
  where
    go : (b : Bool) → same_node p.node n ≡ b → cond (same_node p.node n) (Some now) before ≡ option_map (spot_of row_of) (put_by (p ∷ drop j puts) n)
    go true e = rw e (ap (λ s. Some s) leads)
    go false e = rw e so_far
