-- A change that puts a new node into an empty row, a step that puts another there, and one that takes that away.
use Rattle.std.proofs.Common.{◌≡◌, ◌≢◌, ℕ, Bool, true, false, List, [], ◌∷◌, Option, Some, None, cond, refl, sym, ap, ◌∙◌, inl, inr, arith, subst}
use Rattle.st_ids.specs.Listing.{Has}
use Rattle.st_ids.specs.Order.{same_cell, same_node}
use Rattle.st_ids.proofs.Orders.{same_node-true}
use Rattle.st_ids.specs.declared.names.CellId.{CellId}
use Rattle.st_ids.specs.declared.names.NodeId.{NodeId}
use Rattle.st_kind.specs.Named.{Nodes}
use Rattle.st_marks.specs.declared.intents.Owned.{Owned}
use Rattle.st_marks.specs.declared.intents.To.{To}
use Rattle.st_marks.specs.declared.marks.How.TheVariants.{Leave}
use Rattle.st_marks.specs.declared.marks.Mark.{Mark}
use Rattle.st_marks.specs.declared.places.Slot.{Slot}
use Rattle.st_ids.specs.Root.{root}
use Rattle.st_marks.specs.Embedding.{is_among}
use Rattle.st_marks.specs.Extends.{no_more, item_gained, item_kept}
use Rattle.st_rows.specs.Sequence.{SeqPart, RowCanHold, RowFits, RowKeeps, RowLeadsOver, cells_of, row_carried, row_change_of}
use Rattle.st_rows.specs.declared.values.RowChange.{RowChange}
use Rattle.st_rows.specs.declared.values.RowHeld.{RowHeld}
use Rattle.st_rows.specs.declared.values.RowStep.{RowStep}
use Rattle.st_lemmas.proofs.Bools.{true-false}

abbrev node : ℕ → NodeId
node s = record { 0 = record { rev = record { session = s; num = 1 }; at = 0 } }

abbrev cell : ℕ → CellId
cell s = record { 0 = record { rev = record { session = s; num = 1 }; at = 0 } }

abbrev slot : ℕ → Bool → Slot
slot s full = record { cell = cell s; node = node s; full = full }

-- a row with the other node's cell, full or not
abbrev held : Bool → List Slot
held full = slot 1 full ∷ []

-- where the new node goes
abbrev put : NodeId → Option To
put n = cond (same_node n (node 2)) (Some (To.Cell (cell 2))) None

abbrev made : Option CellId → List Owned
made None = record { cell = cell 2; node = node 2 } ∷ []
made (Some a) = []

abbrev pub adds : SeqPart
adds = record {
  rev = record { session = 2; num = 1 };
  in_new = false;
  new = node 2 ∷ [];
  part = record { new_cells = made; target_of = put; mentioned = λ n. false };
}

other_nodes : (m n : ℕ) → (m ≡ n → ⊥) → node m ≢ node n
other_nodes m n h e = h (ap (λ (x : NodeId). x.0.rev.session) e)

other_cells : (m n : ℕ) → (m ≡ n → ⊥) → cell m ≢ cell n
other_cells m n h e = h (ap (λ (x : CellId). x.0.rev.session) e)

not_root : (s : ℕ) → (s ≡ 0 → ⊥) → node s ≢ root
not_root s h e = h (ap (λ (x : NodeId). x.0.rev.session) e)

holds_one : (full : Bool) → RowCanHold (held full)
holds_one true = record { once = (tt, tt); stand_once = (tt, tt); no_root = λ w. elim w [ inl e ↦ not_root 1 (λ q. omega (arith, q)) e.0 | inr v ↦ v ]; short = omega arith }
holds_one false = record { once = (tt, tt); stand_once = tt; no_root = λ w. elim w [ inl e ↦ (let q : ◌≡◌ {A = Bool} false true = e.1 in cc) | inr v ↦ v ]; short = omega arith }

holds_none : RowCanHold []
holds_none = record { once = tt; stand_once = tt; no_root = λ w. w; short = omega arith }

holds_both : (full : Bool) → RowCanHold (slot 2 true ∷ held full)
holds_both true = record {
  once = ((other_cells 1 2 (λ q. omega (arith, q)), tt), (tt, tt));
  stand_once = ((other_nodes 1 2 (λ q. omega (arith, q)), tt), (tt, tt));
  no_root = λ w. elim w [ inl e ↦ not_root 2 (λ q. omega (arith, q)) e.0 | inr v ↦ (holds_one true).no_root v ];
  short = omega arith;
}
holds_both false = record {
  once = ((other_cells 1 2 (λ q. omega (arith, q)), tt), (tt, tt));
  stand_once = (tt, tt);
  no_root = λ w. elim w [ inl e ↦ not_root 2 (λ q. omega (arith, q)) e.0 | inr v ↦ (holds_one false).no_root v ];
  short = omega arith;
}

-- the new node alone is put, and into its own cell
put_new : (n : NodeId) (a : CellId) → put n ≡ Some (To.Cell a) → (n ≡ node 2) × (cell 2 ≡ a)
put_new n a e = elim (same_node n (node 2)) as (λ b. same_node n (node 2) ≡ b → cond b (Some (To.Cell (cell 2))) None ≡ Some (To.Cell a) → (n ≡ node 2) × (cell 2 ≡ a)) [
  | true ↦ (λ q r. (same_node-true n (node 2) q, ap cell_in r))
  | false ↦ (λ q r. cc)
] refl e
  where
    cell_in : Option To → CellId
    cell_in None = a
    cell_in (Some To.Nowhere) = a
    cell_in (Some (To.Cell x)) = x
    cell_in (Some (To.Register f)) = a

new_there : is_among (node 2 ∷ []) (node 2) ≡ true
unfolding same_node
new_there = refl

put_some : (n : NodeId) → put n ≢ None → is_among (node 2 ∷ []) n ≡ true
put_some n h = elim (same_node n (node 2)) as (λ b. same_node n (node 2) ≡ b → cond b (Some (To.Cell (cell 2))) None ≢ None → is_among (node 2 ∷ []) n ≡ true) [
  | true ↦ (λ q r. ap (is_among (node 2 ∷ [])) (same_node-true n (node 2) q) ∙ new_there)
  | false ↦ (λ q r. absurd (r refl))
] refl h

root_old : is_among (node 2 ∷ []) root ≡ false
unfolding same_node
root_old = refl

root_stays : put root ≡ None
unfolding same_node
root_stays = refl

others_old : is_among (node 2 ∷ []) (node 1) ≡ false
unfolding same_node
others_old = refl

not_nowhere : (n : NodeId) → put n ≢ Some To.Nowhere
not_nowhere n = elim (same_node n (node 2)) as (λ b. cond b (Some (To.Cell (cell 2))) None ≢ Some To.Nowhere) [ true ↦ (λ e. cc) | false ↦ (λ e. cc) ]

fits_none : RowFits adds []
fits_none = record {
  content = holds_none;
  empty = λ e. refl;
  old = tt;
  rising = refl;
  new_rev = (refl, tt);
  root_old = root_old;
  cell_rev = (refl, tt);
  fresh = ((λ w. w), tt);
  made_once = (tt, tt);
  behind = λ a h. absurd (h refl);
  owners = (inl new_there, tt);
  own_old = tt;
  own_made = ((λ n e. sym (put_new n (cell 2) e).0), tt);
  root_stays = root_stays;
  somewhere = λ n e. not_nowhere n;
  mentions = λ n h e. absurd (true-false (put_some n h) e);
}

fits_one : (full : Bool) → RowFits adds (held full)
fits_one full = record {
  content = holds_one full;
  empty = λ e. cc;
  old = (others_old, tt);
  rising = refl;
  new_rev = (refl, tt);
  root_old = root_old;
  cell_rev = (refl, tt);
  fresh = ((λ w. elim w [ inl e ↦ other_cells 1 2 (λ q. omega (arith, q)) e | inr v ↦ v ]), tt);
  made_once = (tt, tt);
  behind = λ a h. absurd (h refl);
  owners = (inl new_there, tt);
  own_old = ((λ n e. absurd (other_cells 2 1 (λ q. omega (arith, q)) (put_new n (cell 1) e).1)), tt);
  own_made = ((λ n e. sym (put_new n (cell 2) e).0), tt);
  root_stays = root_stays;
  somewhere = λ n e. not_nowhere n;
  mentions = λ n h e. absurd (true-false (put_some n h) e);
}

keeps : (c d : List Slot) → (Has (cells_of d) (cell 2) → ⊥) → RowKeeps adds.part c d
keeps c d h = record { stays = λ n e w. cc; older = λ n a e w. absurd (h (subst (Has (cells_of d)) (sym (put_new n a e).1) w)) }

abbrev named : Nodes
named n = same_node n (node 1)

named_one : named (node 1) ≡ true
unfolding same_node
named_one = refl

first : RowLeadsOver named [] (held true) (Mark.Make (cell 1) (node 1) true ∷ [])
first = record { before = holds_none; after = holds_one true; step = record { grows = item_gained no_more; says = refl }; moved = tt }

then : RowLeadsOver named (held true) (held false) (Mark.Touch (cell 1) (node 1) Leave ∷ [])
then = record { before = holds_one true; after = holds_one false; step = record { grows = item_kept (refl, refl) no_more; says = refl }; moved = ((λ e. named_one), tt) }

change_is : ◌≡◌ {A = RowChange} (record { rev = record { session = 2; num = 1 }; in_new = false; new = node 2 ∷ []; marks = Mark.Make (cell 2) (node 2) true ∷ [] }) (row_change_of adds [])
unfolding same_node same_cell
change_is = refl

holds_after : (full : Bool) → RowCanHold (row_carried adds false (held full))
unfolding same_node same_cell
holds_after true = holds_both true
holds_after false = holds_both false

-- what a change over two steps asks
pub stands : (x : RowChange) (s t : RowStep) → x ≡ record { rev = record { session = 2; num = 1 }; in_new = false; new = node 2 ∷ []; marks = Mark.Make (cell 2) (node 2) true ∷ [] }
    → s.marks ≡ Mark.Make (cell 1) (node 1) true ∷ [] → t.marks ≡ Mark.Touch (cell 1) (node 1) Leave ∷ []
    → (n : SeqPart) × (m : Nodes) × (k : Nodes) × (c : RowHeld) × (d : RowHeld) × (e : RowHeld)
    × (x ≡ row_change_of n c.cells) × RowLeadsOver m c.cells d.cells s.marks × RowLeadsOver k d.cells e.cells t.marks
    × RowFits n c.cells × RowFits n d.cells × RowFits n e.cells × RowKeeps n.part c.cells d.cells × RowKeeps n.part d.cells e.cells × RowCanHold (row_carried n false d.cells) × RowCanHold (row_carried n false e.cells)
stands x s t f g h =
    let away : Has (cell 1 ∷ []) (cell 2) → ⊥ = λ w. elim w [ inl e ↦ other_cells 1 2 (λ q. omega (arith, q)) e | inr v ↦ v ] in (
      adds,
      named,
      named,
      record { cells = [] },
      record { cells = held true },
      record { cells = held false },
      f ∙ change_is,
      subst (RowLeadsOver named [] (held true)) (sym g) first,
      subst (RowLeadsOver named (held true) (held false)) (sym h) then,
      fits_none,
      fits_one true,
      fits_one false,
      keeps [] (held true) away,
      keeps (held true) (held false) away,
      holds_after true,
      holds_after false,
    )
