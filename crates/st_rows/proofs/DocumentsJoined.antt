-- The part of a join that concerns a row is the joined part.
use Rattle.std.proofs.Common.{◌≡◌, ◌≢◌, ◌⊎◌, inl, inr, Bool, true, false, ◌||◌, List, [], ◌∷◌, ◌++◌, Option, Some, None, IsSome, is_some, cond, refl, sym, ap, ◌∙◌, subst}
use Rattle.std.specs.Option.{option_and_then, option_map, option_or}
use Rattle.st_ids.specs.Listing.{Has}
use Rattle.st_ids.specs.declared.names.CellId.{CellId}
use Rattle.st_ids.specs.declared.names.NodeId.{NodeId}
use Rattle.st_kind.specs.Named.{Nodes}
use Rattle.st_marks.specs.declared.changes.NewNode.{NewNode}
use Rattle.st_marks.specs.declared.intents.Group.{Group}
use Rattle.st_marks.specs.declared.intents.Intent.{Intent}
use Rattle.st_marks.specs.declared.intents.Owned.{Owned}
use Rattle.st_marks.specs.declared.intents.To.{To}
use Rattle.st_marks.specs.declared.places.Slot.{Slot}
use Rattle.st_marks.specs.CarryOut.{with_groups}
use Rattle.st_marks.specs.Document.{Document, IsSoundInForm, NodeType, content, owned_cell}
use Rattle.st_marks.specs.Embedding.{row_part}
use Rattle.st_marks.specs.Intent.{clears, group_at, group_cells, is_new, new_node, new_row_of, put_of}
use Rattle.st_marks.specs.Join.{AreParts, IsJoin, IsOldAnchor, put_unless_new, unless_cleared_by}
use Rattle.st_marks.specs.Row.{how}
use Rattle.st_marks.specs.How.{is_here}
use Rattle.st_marks.proofs.Full.{known_put}
use Rattle.st_marks.proofs.Lookups.{group_at-group, made_there}
use Rattle.st_marks.proofs.Members.{flat_map-has, has-all}
use Rattle.st_rows.specs.Changes.{StandsIn, goes_in_turn, interleaved_cells}
use Rattle.st_rows.specs.Sequence.{RowPartsAreJoined, ListsNew, cells_of, row_part_of}
use Rattle.st_rows.proofs.Documents.{in_document, is_slot}
use Rattle.st_marks.proofs.Shared.{not_made, old_put}
use Rattle.st_lemmas.proofs.Options.{is_some-option_map_or}

-- ## Names

abbrev type_of : NewNode → NodeType
type_of m = record { ty = m.ty; leaf = m.leaf }

new_in_either : (N M J : Intent) → IsJoin N M J → (n : NodeId) → is_new J n ≡ (is_new N n || is_new M n)
new_in_either N M J j n = ap (λ (o : Option NewNode). is_some (option_map type_of o)) (j.new_nodes n) ∙ is_some-option_map_or type_of (new_node N n) (new_node M n)

-- ## Groups

-- the two recursions through a list of cells are one
same_weave : (k : Nodes) (M : Intent) (n : NodeId) (os : List Owned) → with_groups M n os ≡ interleaved_cells (row_part k M n) os
same_weave k M n [] = refl
same_weave k M n (o ∷ os) = ap (λ l. o ∷ (group_at M n (Some o.cell) ++ l)) (same_weave k M n os)

joined_groups : (k : Nodes) (N M J : Intent) (n : NodeId) (a : Option CellId) → IsJoin N M J → IsOldAnchor N a → group_at J n a ≡ group_at M n a ++ interleaved_cells (row_part k M n) (group_at N n a)
joined_groups k N M J n a j h = j.groups n a h ∙ ap (λ l. group_at M n a ++ l) (same_weave k M n (group_at N n a))

none_of : (o : Option NodeId) → (IsSome o → ⊥) → o ≡ None
none_of None h = refl
none_of (Some x) h = absurd (h refl)

-- ## Puts

-- seen from a cell, a put into a register and one that leads nowhere are alike
cleared_alike : (M : Intent) (o : Option To) (a : CellId) → how (option_map (unless_cleared_by M) o) (To.Cell a) ≡ how o (To.Cell a)
cleared_alike M None a = refl
cleared_alike M (Some To.Nowhere) a = refl
cleared_alike M (Some (To.Cell c)) a = refl
cleared_alike M (Some (To.Register f)) a = go (clears M f)
  where
    go : (b : Bool) → how (Some (cond b To.Nowhere (To.Register f))) (To.Cell a) ≡ how (Some (To.Register f)) (To.Cell a)
    go true = refl
    go false = refl

turns_alike : (M : Intent) (q o : Option To) (a : CellId) → how (option_or q (option_map (unless_cleared_by M) o)) (To.Cell a) ≡ how (option_or q o) (To.Cell a)
turns_alike M None o a = cleared_alike M o a
turns_alike M (Some t) o a = refl

-- a put that is left out brings nobody into a cell
unless_new_alike : (b : Bool) (o : Option To) (a : CellId) → is_here (how (option_and_then (put_unless_new b) o) (To.Cell a)) ≡ is_here (how o (To.Cell a))
unless_new_alike b None a = refl
unless_new_alike true (Some To.Nowhere) a = refl
unless_new_alike false (Some To.Nowhere) a = refl
unless_new_alike b (Some (To.Cell c)) a = refl
unless_new_alike b (Some (To.Register f)) a = refl

module _ (D : Document) (N M J : Intent) (m k l : Nodes) (a b c : List NodeId) (n : NodeId) (x : IsSoundInForm D) (parts : AreParts D N M) (j : IsJoin N M J) (listN : ListsNew N a) (listM : ListsNew M b) (listJ : ListsNew J c)
    (mentions : (y : NodeId) → StandsIn y (content D n) → l y ≡ (m y || k y)) where
  -- a cell of the row isn't one that the first part makes
  old_anchor : (e : CellId) → Has (cells_of (content D n)) e → new_row_of N e ≡ None
  old_anchor e h = none_of (new_row_of N e) (λ s. let z : ◌≡◌ {A = Option NodeId} None (Some n) = sym (parts.first_fits.fresh_cells e s) ∙ in_document D x n e h in cc)

  -- who stands in the row isn't new
  old_node : (y : NodeId) → StandsIn y (content D n) → is_new N y ≡ false
  old_node y h =
      let s = standing_slot (content D n) h in
      let o = is_slot D n s.0 s.1 in
      let known : IsSome (D.nodes y) = subst (λ z. IsSome (D.nodes z)) (ap (λ (t : Slot). t.node) o.2 ∙ s.2) (x.cells_known n o.0 o.1).1 in
      not_made D N parts.first_fits y known
    where
      standing_slot : (d : List Slot) → StandsIn y d → (s : Slot) × Has d s × (s.node ≡ y)
      standing_slot [] w = absurd w
      standing_slot (s ∷ d) (inl e) = (s, inl refl, e.0)
      standing_slot (s ∷ d) (inr w) = let r = standing_slot d w in (r.0, inr r.1, r.2)

  target_of : (y : NodeId) (e : CellId) → StandsIn y (content D n) → how (put_of J y) (To.Cell e) ≡ how (goes_in_turn (row_part m N n) (row_part k M n) y) (To.Cell e)
  target_of y e h =
      let put : put_of J y ≡ option_or (put_of M y) (option_map (unless_cleared_by M) (put_of N y)) =
      j.puts y ∙ (λ i. option_and_then (put_unless_new (old_node y h i)) (option_or (put_of M y) (option_map (unless_cleared_by M) (put_of N y)))) ∙ old_put (option_or (put_of M y) (option_map (unless_cleared_by M) (put_of N y))) in
      ap (λ o. how o (To.Cell e)) put ∙ turns_alike M (put_of M y) (put_of N y) e

  comes : (y : NodeId) (e : CellId) → is_here (how (put_of J y) (To.Cell e)) ≡ is_here (how (goes_in_turn (row_part m N n) (row_part k M n) y) (To.Cell e))
  comes y e =
      ap (λ o. is_here (how o (To.Cell e))) (j.puts y) ∙ unless_new_alike (is_new N y) (option_or (put_of M y) (option_map (unless_cleared_by M) (put_of N y))) e
      ∙ ap is_here (turns_alike M (put_of M y) (put_of N y) e)

  -- the first part puts no node into a cell that the second makes, since it knows none
  older : (o : Owned) → Has (group_cells M) o → put_of N o.node ≢ Some (To.Cell o.cell)
  older o h e = elim (known_put D N parts.first_fits o.node (To.Cell o.cell) e).1 [
    | inl w ↦ never (D.row_of o.cell) (new_row_of N o.cell) (inl (ap is_some ((x.one_row o.cell w.0).1 (o.node, w.1)))) free
    | inr w ↦ never (D.row_of o.cell) (new_row_of N o.cell) (inr (made_there N (owned_cell o.cell o.node) w)) free
  ]
    where
      free : option_or (D.row_of o.cell) (new_row_of N o.cell) ≡ None
      free = parts.then_fits.fresh_cells o.cell (made_there M o h)

      never : (p q : Option NodeId) → IsSome p ⊎ IsSome q → option_or p q ≡ None → ⊥
      never (Some y) q h f = cc
      never None (Some y) h f = cc
      never None None (inl s) f = cc
      never None None (inr s) f = cc

  pub parts_join : RowPartsAreJoined (row_part_of m a N n) (row_part_of k b M n) (content D n) (row_part_of l c J n)
  parts_join = record {
    rev = sym j.rev;
    in_new = new_in_either N M J j n;
    rising = listJ.rising;
    new = λ y. listJ.each y ∙ new_in_either N M J j y ∙ (λ i. sym (listN.each y) i || sym (listM.each y) i);
    part = record {
      first = joined_groups k N M J n None j tt;
      behind = λ e h. joined_groups k N M J n (Some e) j (old_anchor e h);
      mentions = mentions;
      target_of = target_of;
      comes = comes;
      older = λ e. has-all (λ (o : Owned). put_of N o.node ≢ Some (To.Cell o.cell)) (group_at M n e) (λ o h. older o (let g = group_at-group M n e o h in flat_map-has (λ (g : Group). g.cells) M.groups g.group o g.listed g.cell));
    };
  }
