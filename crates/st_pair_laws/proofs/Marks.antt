-- What the marks of one row show of it before, and which names they have.
use Rattle.std.proofs.Common.{◌≡◌, ◌≢◌, ◌⊎◌, true, false, List, [], ◌∷◌, map, Option, Some, None, refl, sym, ap, ◌∙◌, inl, inr}
use Rattle.std.specs.List.{flat_map}
use Rattle.st_ids.specs.Listing.{AreDistinct, Has}
use Rattle.st_ids.specs.declared.names.CellId.{CellId}
use Rattle.st_ids.specs.declared.names.NodeId.{NodeId}
use Rattle.st_lemmas.proofs.Bools.{true-false}
use Rattle.st_lemmas.proofs.Options.{one_some}
use Rattle.st_marks.specs.Listings.{CellView, cell_view, cells_before, cells_in, cells_made, node_in, nodes_in, nodes_standing}
use Rattle.st_marks.specs.Row.{CellMark, Counted, Gap, Touch, Make, Fill}
use Rattle.st_marks.proofs.Members.{all-has, flat_map-has, has-flat_map}
use Rattle.st_normal.specs.Rules.{fill_owner, fill_owners, found_by, found_in, hole_owner, hole_owners}
use Rattle.st_normal.specs.declared.entries.Found.{Found}
use Rattle.st_normal_laws.specs.Seed.{cells_named}

-- ## Cells

-- a cell that is found is named
pub named-in : (ms : List CellMark) (c : CellId) → Has (cells_named (cells_before ms)) c → Has (cells_in ms) c
named-in [] c h = absurd h
named-in (Counted ∷ ms) c h = named-in ms c h
named-in (Gap d ∷ ms) c (inl e) = inl e
named-in (Gap d ∷ ms) c (inr h) = inr (named-in ms c h)
named-in (Touch d m g ∷ ms) c (inl e) = inl e
named-in (Touch d m g ∷ ms) c (inr h) = inr (named-in ms c h)
named-in (Make d m b ∷ ms) c h = inr (named-in ms c h)
named-in (Fill d m ∷ ms) c (inl e) = inl e
named-in (Fill d m ∷ ms) c (inr h) = inr (named-in ms c h)

-- so is a cell that is made
pub made-in : (ms : List CellMark) (c : CellId) → Has (cells_made ms) c → Has (cells_in ms) c
made-in [] c h = absurd h
made-in (Counted ∷ ms) c h = made-in ms c h
made-in (Gap d ∷ ms) c h = inr (made-in ms c h)
made-in (Touch d m g ∷ ms) c h = inr (made-in ms c h)
made-in (Make d m b ∷ ms) c (inl e) = inl e
made-in (Make d m b ∷ ms) c (inr h) = inr (made-in ms c h)
made-in (Fill d m ∷ ms) c h = inr (made-in ms c h)

-- a cell that is found isn't made
pub found-unmade : (ms : List CellMark) (c : CellId) → AreDistinct (λ (c : CellId). c) (cells_in ms) → Has (cells_named (cells_before ms)) c → Has (cells_made ms) c → ⊥
found-unmade [] c d h i = h
found-unmade (Counted ∷ ms) c d h i = found-unmade ms c d h i
found-unmade (Gap e ∷ ms) c d (inl q) i = all-has (λ c. c ≢ e) (cells_in ms) c d.0 (made-in ms c i) (sym q)
found-unmade (Gap e ∷ ms) c d (inr h) i = found-unmade ms c d.1 h i
found-unmade (Touch e m g ∷ ms) c d (inl q) i = all-has (λ c. c ≢ e) (cells_in ms) c d.0 (made-in ms c i) (sym q)
found-unmade (Touch e m g ∷ ms) c d (inr h) i = found-unmade ms c d.1 h i
found-unmade (Make e m b ∷ ms) c d h (inl q) = all-has (λ c. c ≢ e) (cells_in ms) c d.0 (named-in ms c h) (sym q)
found-unmade (Make e m b ∷ ms) c d h (inr i) = found-unmade ms c d.1 h i
found-unmade (Fill e m ∷ ms) c d (inl q) i = all-has (λ c. c ≢ e) (cells_in ms) c d.0 (made-in ms c i) (sym q)
found-unmade (Fill e m ∷ ms) c d (inr h) i = found-unmade ms c d.1 h i

-- ## Nodes

pub shown-found : (ms : List CellMark) → nodes_standing (cells_before ms) ≡ map (λ (f : Found). f.node) (found_in ms)
shown-found [] = refl
shown-found (Counted ∷ ms) = shown-found ms
shown-found (Gap e ∷ ms) = shown-found ms
shown-found (Touch e m g ∷ ms) = ap (λ l. m ∷ l) (shown-found ms)
shown-found (Make e m b ∷ ms) = shown-found ms
shown-found (Fill e m ∷ ms) = shown-found ms

none-some : (n : NodeId) → ◌≡◌ {A = Option NodeId} None (Some n) → ⊥
none-some n e = cc

-- who is told of a cell is found in it, or fills it
pub owner-is : (ms : List CellMark) (x : CellView) (n : NodeId) → Has (cells_before ms) x → x.node ≡ Some n → Has (map (λ (f : Found). f.node) (found_in ms)) n ⊎ Has (fill_owners ms) n
owner-is [] x n h q = absurd h
owner-is (Counted ∷ ms) x n (inl e) q = absurd (none-some n (ap (λ (x : CellView). x.node) e ∙ q))
owner-is (Counted ∷ ms) x n (inr h) q = owner-is ms x n h q
owner-is (Gap d ∷ ms) x n (inl e) q = absurd (none-some n (ap (λ (x : CellView). x.node) e ∙ q))
owner-is (Gap d ∷ ms) x n (inr h) q = owner-is ms x n h q
owner-is (Touch d m g ∷ ms) x n (inl e) q = inl (inl (one_some m n (ap (λ (x : CellView). x.node) e ∙ q)))
owner-is (Touch d m g ∷ ms) x n (inr h) q = elim (owner-is ms x n h q) [ inl i ↦ inl (inr i) | inr i ↦ inr i ]
owner-is (Make d m b ∷ ms) x n h q = owner-is ms x n h q
owner-is (Fill d m ∷ ms) x n (inl e) q = inr (inl (one_some m n (ap (λ (x : CellView). x.node) e ∙ q)))
owner-is (Fill d m ∷ ms) x n (inr h) q = elim (owner-is ms x n h q) [ inl i ↦ inl i | inr i ↦ inr (inr i) ]

-- a full cell whose owner is told is named too
pub full-named : (ms : List CellMark) (x : CellView) (n : NodeId) → Has (cells_before ms) x → x.full ≡ true → x.node ≡ Some n → (c : CellId) × (x ≡ cell_view c n true)
full-named [] x n h f q = absurd h
full-named (Counted ∷ ms) x n (inl e) f q = absurd (none-some n (ap (λ (x : CellView). x.node) e ∙ q))
full-named (Counted ∷ ms) x n (inr h) f q = full-named ms x n h f q
full-named (Gap d ∷ ms) x n (inl e) f q = absurd (none-some n (ap (λ (x : CellView). x.node) e ∙ q))
full-named (Gap d ∷ ms) x n (inr h) f q = full-named ms x n h f q
full-named (Touch d m g ∷ ms) x n (inl e) f q = (d, sym e ∙ ap (λ k. cell_view d k true) (one_some m n (ap (λ (x : CellView). x.node) e ∙ q)))
full-named (Touch d m g ∷ ms) x n (inr h) f q = full-named ms x n h f q
full-named (Make d m b ∷ ms) x n h f q = full-named ms x n h f q
full-named (Fill d m ∷ ms) x n (inl e) f q = absurd (true-false f (sym (ap (λ (x : CellView). x.full) e)))
full-named (Fill d m ∷ ms) x n (inr h) f q = full-named ms x n h f q

-- ## Nodes that are named

within : {A B : Type 0} (f g : A → List B) → ((a : A) (b : B) → Has (f a) b → Has (g a) b) → (xs : List A) (b : B) → Has (flat_map f xs) b → Has (flat_map g xs) b
within f g h xs b i = let r = has-flat_map f xs b i in flat_map-has g xs r.0 b r.1 (h r.0 b r.2)

pub fill-in : (ms : List CellMark) (n : NodeId) → Has (fill_owners ms) n → Has (nodes_in ms) n
fill-in ms n h = within fill_owner node_in at ms n h
  where
    at : (m : CellMark) (n : NodeId) → Has (fill_owner m) n → Has (node_in m) n
    at Counted n h = absurd h
    at (Gap c) n h = absurd h
    at (Touch c k g) n h = absurd h
    at (Make c k b) n h = absurd h
    at (Fill c k) n h = h

pub hole-in : (ms : List CellMark) (n : NodeId) → Has (hole_owners ms) n → Has (nodes_in ms) n
hole-in ms n h = within hole_owner node_in at ms n h
  where
    at : (m : CellMark) (n : NodeId) → Has (hole_owner m) n → Has (node_in m) n
    at Counted n h = absurd h
    at (Gap c) n h = absurd h
    at (Touch c k g) n h = absurd h
    at (Make c k true) n h = absurd h
    at (Make c k false) n h = h
    at (Fill c k) n h = absurd h

pub found-in : (ms : List CellMark) (f : Found) → Has (found_in ms) f → Has (nodes_in ms) f.node
found-in ms f h = let r = has-flat_map found_by ms f h in flat_map-has node_in ms r.0 f.node r.1 (at r.0 f r.2)
  where
    at : (m : CellMark) (f : Found) → Has (found_by m) f → Has (node_in m) f.node
    at Counted f h = absurd h
    at (Gap c) f h = absurd h
    at (Touch c k g) f (inl e) = inl (ap (λ (f : Found). f.node) e)
    at (Touch c k g) f (inr h) = absurd h
    at (Make c k b) f h = absurd h
    at (Fill c k) f h = absurd h
