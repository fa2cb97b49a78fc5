-- Listings that are true of one row don't name a cell apart.
use Rattle.std.proofs.Common.{◌≡◌, ℕ, suc, Bool, true, false, List, [], ◌∷◌, ◌++◌, Some, None, cond, refl, sym, ap, ◌∙◌, subst, inl, inr, ◌⊎◌}
use Rattle.std.specs.List.{flat_map}
use Rattle.st_ids.specs.Listing.{AreDistinct, Has}
use Rattle.st_ids.specs.declared.names.Atom.{Atom}
use Rattle.st_ids.specs.declared.names.CellId.{CellId}
use Rattle.st_ids.specs.declared.names.NodeId.{NodeId}
use Rattle.st_kind.specs.Named.{Nodes}
use Rattle.st_marks.specs.declared.intents.Owned.{Owned}
use Rattle.st_marks.specs.declared.intents.To.{To}
use Rattle.st_marks.specs.declared.marks.Mark.{Mark}
use Rattle.st_marks.specs.declared.marks.How.TheVariants.{Stay}
use Rattle.st_marks.specs.declared.places.Slot.{Slot}
use Rattle.st_marks.specs.Extends.{GainsItems, no_more, item_gained, item_kept}
use Rattle.st_marks.specs.Row.{CellMark, Counted, Gap, Touch, Fill, RowPart, SameCell, how, spread, step_cell, step_row, embed_cell, embed_made, embed_cells, embed_row}
use Rattle.st_marks.specs.How.{is_here}
use Rattle.st_marks.proofs.Members.{all-has, append_left, append_right, first-has, has-append}
use Rattle.st_rows.specs.Changes.{carried_cells, carried_row, full_after, made_cells}
use Rattle.st_rows.proofs.KindLaws.{has_grown, not_again, spread_of}
use Rattle.st_seq.proofs.NamedCells.{same_atom-true}
use Rattle.st_seq.specs.NamedApart.{same_atom, CantBoth, NamedApart, named_apart, found_at, named_after, named_before, named_in_row}
use Rattle.st_rows.specs.Sequence.{RowFits, RowLeadsOver, SeqPart, row_carried, cells_of, row_change_of, made_in}
use Rattle.st_seq.specs.declared.name_clashes.NamedAt.{NamedAt}
use Rattle.st_rows.specs.declared.values.RowChange.{RowChange}

-- ## What is true of a row

-- the cell of a name
abbrev cell_of_name : Atom → CellId
cell_of_name a = record { 0 = a }

abbrev cell_named : NamedAt → CellId
cell_named e = cell_of_name e.name

-- the cell stands at this place of the row, which is counted from the first number
abbrev StandsAt : List Slot → ℕ → CellId → ℕ → Type 0
StandsAt [] k a i = ⊥
StandsAt (s ∷ c) k a i = ((s.cell ≡ a) × (k ≡ i)) ⊎ StandsAt c (suc k) a i

-- a cell that is found stands there in the row, and one that is made is one of these
abbrev IsTrueOf : List Slot → (CellId → Type 0) → ℕ → NamedAt → Type 0
IsTrueOf c Made k e = ((e.made ≡ false) × StandsAt c k (cell_named e) e.left) ⊎ ((e.made ≡ true) × Made (cell_named e))

-- all that is said is true of the row
abbrev AreTrueOf : List Slot → (CellId → Type 0) → ℕ → List NamedAt → Type 0
AreTrueOf c Made k names = (e : NamedAt) → Has names e → IsTrueOf c Made k e

-- no cell
abbrev NoCell : CellId → Type 0
NoCell a = ⊥

-- none of these is a cell of the row
abbrev AreNew : List Slot → (CellId → Type 0) → Type 0
AreNew c Made = (a : CellId) → Made a → Has (cells_of c) a → ⊥

stands_has : (c : List Slot) (k : ℕ) (a : CellId) (i : ℕ) → StandsAt c k a i → Has (cells_of c) a
stands_has [] k a i h = h
stands_has (s ∷ c) k a i (inl e) = inl e.0
stands_has (s ∷ c) k a i (inr h) = inr (stands_has c (suc k) a i h)

-- a cell that is there once stands at one place
stands_once : (c : List Slot) (k : ℕ) (a : CellId) (i j : ℕ) → AreDistinct (λ (s : Slot). s.cell) c → StandsAt c k a i → StandsAt c k a j → i ≡ j
stands_once [] k a i j o h w = absurd h
stands_once (s ∷ c) k a i j o (inl e) (inl f) = sym e.1 ∙ f.1
stands_once (s ∷ c) k a i j o (inl e) (inr w) = absurd (not_again c s.cell o.0 (subst (Has (cells_of c)) (sym e.0) (stands_has c (suc k) a j w)))
stands_once (s ∷ c) k a i j o (inr h) (inl f) = absurd (not_again c s.cell o.0 (subst (Has (cells_of c)) (sym f.0) (stands_has c (suc k) a i h)))
stands_once (s ∷ c) k a i j o (inr h) (inr w) = stands_once c (suc k) a i j o.1 h w

both_true : (c : List Slot) (F G : CellId → Type 0) → AreDistinct (λ (s : Slot). s.cell) c → AreNew c F → AreNew c G → ((a : CellId) → F a → G a → ⊥) → (k : ℕ) (e f : NamedAt) → (cell_named e) ≡ (cell_named f) → IsTrueOf c F k e → IsTrueOf c G k f → CantBoth e f → ⊥
both_true c F G o x y z k e f q (inl h) (inl w) not = not h.0 w.0 (stands_once c k (cell_named f) e.left f.left o (subst (λ a. StandsAt c k a e.left) q h.1) w.1)
both_true c F G o x y z k e f q (inl h) (inr w) not = y (cell_named f) w.1 (subst (Has (cells_of c)) q (stands_has c k (cell_named e) e.left h.1))
both_true c F G o x y z k e f q (inr h) (inl w) not = x (cell_named f) (subst F q h.1) (stands_has c k (cell_named f) f.left w.1)
both_true c F G o x y z k e f q (inr h) (inr w) not = z (cell_named f) (subst F q h.1) w.1

-- two listings that are true of one row don't name a cell apart, where the cells that they make are new and others
true_together : (c : List Slot) (F G : CellId → Type 0) → AreDistinct (λ (s : Slot). s.cell) c → AreNew c F → AreNew c G → ((a : CellId) → F a → G a → ⊥) → (A B : List NamedAt) → AreTrueOf c F 0 A → AreTrueOf c G 0 B → (j : ℕ) → NamedApart A B j → ⊥
true_together c F G o x y z A B h w j (named_apart e f first has not _ _) =
    let r = first-has (λ (g : NamedAt). same_atom g.name f.name) A e first in
    both_true c F G o x y z 0 e f (ap cell_of_name (same_atom-true e.name f.name r.1)) (h e r.0) (w f has) not

-- the first cell of a row is found where the count begins
first_true : (s : Slot) (c : List Slot) (Made : CellId → Type 0) (k : ℕ) (a : CellId) (e : NamedAt) → s.cell ≡ a → found_at a.0 k ≡ e → IsTrueOf (s ∷ c) Made k e
first_true s c Made k a e q f = subst (IsTrueOf (s ∷ c) Made k) f (inl (refl, inl (q, refl)))

-- what is true of the cells behind it is true of the row
later_true : (s : Slot) (c : List Slot) (Made : CellId → Type 0) (k : ℕ) (e : NamedAt) → IsTrueOf c Made (suc k) e → IsTrueOf (s ∷ c) Made k e
later_true s c Made k e (inl w) = inl (w.0, inr w.1)
later_true s c Made k e (inr w) = inr w

row_true : (c : List Slot) (k : ℕ) → AreTrueOf c NoCell k (named_in_row k c)
row_true [] k e h = absurd h
row_true (s ∷ c) k e (inl q) = first_true s c NoCell k s.cell e refl q
row_true (s ∷ c) k e (inr h) = later_true s c NoCell k e (row_true c (suc k) e h)

-- ## Steps

-- the step gains the cell
abbrev Gains : {c d : List Slot} → GainsItems SameCell c d → CellId → Type 0
Gains no_more a = ⊥
Gains (item_gained {y} g) a = (y.cell ≡ a) ⊎ Gains g a
Gains (item_kept same g) a = Gains g a

gains_has : {c d : List Slot} (g : GainsItems SameCell c d) (a : CellId) → Gains g a → Has (cells_of d) a
gains_has no_more a h = h
gains_has (item_gained g) a (inl e) = inl e
gains_has (item_gained g) a (inr h) = inr (gains_has g a h)
gains_has (item_kept same g) a h = inr (gains_has g a h)

gains_new : {c d : List Slot} (g : GainsItems SameCell c d) → AreDistinct (λ (s : Slot). s.cell) d → AreNew c (Gains g)
gains_new no_more o a h w = h
gains_new (item_gained {y = t} {xs = c} {ys = d} g) o a (inl e) w = not_again d t.cell o.0 (has_grown g t.cell (subst (Has (cells_of c)) (sym e) w))
gains_new (item_gained g) o a (inr h) w = gains_new g o.1 a h w
gains_new (item_kept {y = t} {ys = d} same g) o a h (inl e) = not_again d t.cell o.0 (subst (Has (cells_of d)) (sym e ∙ same.0) (gains_has g a h))
gains_new (item_kept same g) o a h (inr w) = gains_new g o.1 a h w

step_cell_before : (m : Nodes) (c : CellId) (n : NodeId) (a b : Bool) (k : ℕ) (xs : List CellMark) (e : NamedAt) → Has (named_before k (step_cell m c n a b ∷ xs)) e → (found_at c.0 k ≡ e) ⊎ Has (named_before (suc k) xs) e
step_cell_before m c n true true k xs e = elim (m n) as (λ b. Has (named_before k (cond b (Touch c n Stay) Counted ∷ xs)) e → (found_at c.0 k ≡ e) ⊎ Has (named_before (suc k) xs) e) [ true ↦ (λ h. h) | false ↦ (λ h. inr h) ]
step_cell_before m c n true false k xs e = λ h. h
step_cell_before m c n false true k xs e = λ h. h
step_cell_before m c n false false k xs e = λ h. h

step_cell_after : (m : Nodes) (c : CellId) (n : NodeId) (a b : Bool) (k : ℕ) (xs : List CellMark) (e : NamedAt) → Has (named_after k (step_cell m c n a b ∷ xs)) e → (found_at c.0 k ≡ e) ⊎ Has (named_after (suc k) xs) e
step_cell_after m c n true true k xs e = elim (m n) as (λ b. Has (named_after k (cond b (Touch c n Stay) Counted ∷ xs)) e → (found_at c.0 k ≡ e) ⊎ Has (named_after (suc k) xs) e) [ true ↦ (λ h. h) | false ↦ (λ h. inr h) ]
step_cell_after m c n true false k xs e = λ h. h
step_cell_after m c n false true k xs e = λ h. h
step_cell_after m c n false false k xs e = λ h. h

-- a step names the cells of the row before it, and makes those that it gains
step_before : (m : Nodes) {c d : List Slot} (g : GainsItems SameCell c d) (k : ℕ) → AreTrueOf c (Gains g) k (named_before k (step_row m g))
step_before m no_more k e h = absurd h
step_before m (item_gained {y = t} {xs = c} g) k e (inl q) = subst (IsTrueOf c (Gains (item_gained {y = t} g)) k) q (inr (refl, inl refl))
step_before m (item_gained g) k e (inr h) = elim (step_before m g k e h) [ inl w ↦ inl w | inr w ↦ inr (w.0, inr w.1) ]
step_before m (item_kept {x = s} {y = t} {xs = c} same g) k e h = elim (step_cell_before m s.cell s.node s.full t.full k (step_row m g) e h) [
  | inl q ↦ first_true s c (Gains g) k s.cell e refl q
  | inr v ↦ later_true s c (Gains g) k e (step_before m g (suc k) e v)
]

-- what comes after a step finds the cells of the row after it
step_after : (m : Nodes) {c d : List Slot} (g : GainsItems SameCell c d) (k : ℕ) → AreTrueOf d NoCell k (named_after k (step_row m g))
step_after m no_more k e h = absurd h
step_after m (item_gained {y = t} {ys = d} g) k e (inl q) = first_true t d NoCell k t.cell e refl q
step_after m (item_gained {y = t} {ys = d} g) k e (inr h) = later_true t d NoCell k e (step_after m g (suc k) e h)
step_after m (item_kept {x = s} {y = t} {ys = d} same g) k e h = elim (step_cell_after m s.cell s.node s.full t.full k (step_row m g) e h) [
  | inl q ↦ first_true t d NoCell k s.cell e (sym same.0) q
  | inr v ↦ later_true t d NoCell k e (step_after m g (suc k) e v)
]

-- ## Changes

-- what a part makes after the cells of a row
abbrev groups_in : RowPart → List Slot → List Owned
groups_in p c = flat_map (λ (s : Slot). p.new_cells (Some s.cell)) c

-- one of these is the cell
abbrev MakesCell : List Owned → CellId → Type 0
MakesCell os a = (o : Owned) × Has os o × (o.cell ≡ a)

makes_new : (c : List Slot) (p : SeqPart) → RowFits p c → AreNew c (MakesCell (made_in p.part c))
makes_new c p w a h = λ v. all-has (λ (o : Owned). Has (cells_of c) o.cell → ⊥) (made_in p.part c) h.0 w.fresh h.1 (subst (Has (cells_of c)) (sym h.2) v)

embed_cell_before : (p : RowPart) (c : CellId) (n : NodeId) (b : Bool) (k : ℕ) (xs : List CellMark) (e : NamedAt) → Has (named_before k (embed_cell p c n b ∷ xs)) e → (found_at c.0 k ≡ e) ⊎ Has (named_before (suc k) xs) e
embed_cell_before p c n true k xs e = elim (p.mentioned n) as (λ b. Has (named_before k (cond b (Touch c n (how (p.target_of n) (To.Cell c))) Counted ∷ xs)) e → (found_at c.0 k ≡ e) ⊎ Has (named_before (suc k) xs) e) [ true ↦ (λ h. h) | false ↦ (λ h. inr h) ]
embed_cell_before p c n false k xs e = elim (is_here (how (p.target_of n) (To.Cell c))) as (λ b. Has (named_before k (cond b (Fill c n) (Gap c) ∷ xs)) e → (found_at c.0 k ≡ e) ⊎ Has (named_before (suc k) xs) e) [ true ↦ (λ h. h) | false ↦ (λ h. h) ]

embed_cell_after : (p : RowPart) (c : CellId) (n : NodeId) (b : Bool) (k : ℕ) (xs : List CellMark) (e : NamedAt) → Has (named_after k (embed_cell p c n b ∷ xs)) e → (found_at c.0 k ≡ e) ⊎ Has (named_after (suc k) xs) e
embed_cell_after p c n true k xs e = elim (p.mentioned n) as (λ b. Has (named_after k (cond b (Touch c n (how (p.target_of n) (To.Cell c))) Counted ∷ xs)) e → (found_at c.0 k ≡ e) ⊎ Has (named_after (suc k) xs) e) [ true ↦ (λ h. h) | false ↦ (λ h. inr h) ]
embed_cell_after p c n false k xs e = elim (is_here (how (p.target_of n) (To.Cell c))) as (λ b. Has (named_after k (cond b (Fill c n) (Gap c) ∷ xs)) e → (found_at c.0 k ≡ e) ⊎ Has (named_after (suc k) xs) e) [ true ↦ (λ h. h) | false ↦ (λ h. h) ]

made_before : (p : RowPart) (os : List Owned) (xs : List CellMark) (k : ℕ) (e : NamedAt) → Has (named_before k (embed_made p os ++ xs)) e → ((e.made ≡ true) × MakesCell os (cell_named e)) ⊎ Has (named_before k xs) e
made_before p [] xs k e h = inr h
made_before p (o ∷ os) xs k e (inl q) = subst (λ (f : NamedAt). ((f.made ≡ true) × MakesCell (o ∷ os) (cell_named f)) ⊎ Has (named_before k xs) f) q (inl (refl, (o, inl refl, refl)))
made_before p (o ∷ os) xs k e (inr h) = elim (made_before p os xs k e h) [ inl w ↦ inl (w.0, (w.1.0, inr w.1.1, w.1.2)) | inr v ↦ inr v ]

-- cells that are made before others of the row
before_others : (p : RowPart) (os ps : List Owned) (c : List Slot) (xs : List CellMark) (k : ℕ) → AreTrueOf c (MakesCell ps) k (named_before k xs) → AreTrueOf c (MakesCell (os ++ ps)) k (named_before k (embed_made p os ++ xs))
before_others p os ps c xs k rest e h = elim (made_before p os xs k e h) [
  | inl w ↦ inr (w.0, (w.1.0, append_left os ps w.1.0 w.1.1, w.1.2))
  | inr v ↦ (elim (rest e v) [ inl w ↦ inl w | inr w ↦ inr (w.0, (w.1.0, append_right os ps w.1.0 w.1.1, w.1.2)) ])
]

cells_before : (p : RowPart) (c : List Slot) (k : ℕ) → AreTrueOf c (MakesCell (groups_in p c)) k (named_before k (embed_cells p c))
cells_before p [] k e h = absurd h
cells_before p (s ∷ c) k e h = elim (embed_cell_before p s.cell s.node s.full k (embed_made p (p.new_cells (Some s.cell)) ++ embed_cells p c) e h) [
  | inl q ↦ first_true s c (MakesCell (groups_in p (s ∷ c))) k s.cell e refl q
  | inr v ↦ later_true s c (MakesCell (groups_in p (s ∷ c))) k e (before_others p (p.new_cells (Some s.cell)) (groups_in p c) c (embed_cells p c) (suc k) (cells_before p c (suc k)) e v)
]

-- a change names the cells of the row where it stands, and makes those of its groups
change_before : (p : RowPart) (c : List Slot) → AreTrueOf c (MakesCell (made_in p c)) 0 (named_before 0 (embed_row p c))
change_before p c = before_others p (p.new_cells None) (groups_in p c) c (embed_cells p c) 0 (cells_before p c 0)

-- a cell that is made, as it stands in the row after
abbrev made_cell : RowPart → Owned → Slot
made_cell p o = record { cell = o.cell; node = o.node; full = is_here (how (p.target_of o.node) (To.Cell o.cell)) }

after_others : (p : RowPart) (os : List Owned) (d : List Slot) (xs : List CellMark) → ((k : ℕ) → AreTrueOf d NoCell k (named_after k xs)) → (k : ℕ) → AreTrueOf (made_cells p os ++ d) NoCell k (named_after k (embed_made p os ++ xs))
after_others p [] d xs rest k e h = rest k e h
after_others p (o ∷ os) d xs rest k e (inl q) = first_true (made_cell p o) (made_cells p os ++ d) NoCell k o.cell e refl q
after_others p (o ∷ os) d xs rest k e (inr h) = later_true (made_cell p o) (made_cells p os ++ d) NoCell k e (after_others p os d xs rest (suc k) e h)

-- a cell that is found, as it stands in the row after
abbrev carried_cell : RowPart → Slot → Slot
carried_cell p s = record s { full = full_after (p.target_of s.node) s.cell s.full }

cells_after : (p : RowPart) (c : List Slot) (k : ℕ) → AreTrueOf (carried_cells p c) NoCell k (named_after k (embed_cells p c))
cells_after p [] k e h = absurd h
cells_after p (s ∷ c) k e h = elim (embed_cell_after p s.cell s.node s.full k (embed_made p (p.new_cells (Some s.cell)) ++ embed_cells p c) e h) [
  | inl q ↦ first_true (carried_cell p s) (made_cells p (p.new_cells (Some s.cell)) ++ carried_cells p c) NoCell k s.cell e refl q
  | inr v ↦ later_true (carried_cell p s) (made_cells p (p.new_cells (Some s.cell)) ++ carried_cells p c) NoCell k e (after_others p (p.new_cells (Some s.cell)) (carried_cells p c) (embed_cells p c) (cells_after p c) (suc k) e v)
]

-- what comes after a change finds the cells of the row after it
change_after : (p : RowPart) (c : List Slot) → AreTrueOf (carried_row p c) NoCell 0 (named_after 0 (embed_row p c))
change_after p c = after_others p (p.new_cells None) (carried_cells p c) (embed_cells p c) (cells_after p c) 0

groups_grown : (p : RowPart) {c d : List Slot} → GainsItems SameCell c d → (o : Owned) → Has (groups_in p c) o → Has (groups_in p d) o
groups_grown p no_more o h = h
groups_grown p (item_gained {y = t} {ys = d} g) o h = append_right (p.new_cells (Some t.cell)) (groups_in p d) o (groups_grown p g o h)
groups_grown p (item_kept {x = s} {y = t} {xs = c} {ys = d} same g) o h = elim (has-append (p.new_cells (Some s.cell)) (groups_in p c) o h) [
  | inl w ↦ append_left (p.new_cells (Some t.cell)) (groups_in p d) o (subst (λ a. Has (p.new_cells (Some a)) o) same.0 w)
  | inr w ↦ append_right (p.new_cells (Some t.cell)) (groups_in p d) o (groups_grown p g o w)
]

-- what a change makes in a row, it makes also after a step of it
made_grown : (p : RowPart) {c d : List Slot} → GainsItems SameCell c d → (o : Owned) → Has (made_in p c) o → Has (made_in p d) o
made_grown p {c} {d} g o h = elim (has-append (p.new_cells None) (groups_in p c) o h) [
  | inl w ↦ append_left (p.new_cells None) (groups_in p d) o w
  | inr w ↦ append_right (p.new_cells None) (groups_in p d) o (groups_grown p g o w)
]

-- ## Listings of one field

module _ (m : Nodes) (c d : List Slot) (marks : List Mark) (l : RowLeadsOver m c d marks) where
  steps_before : AreTrueOf c (Gains l.step.grows) 0 (named_before 0 (spread marks))
  steps_before = subst (λ xs. AreTrueOf c (Gains l.step.grows) 0 (named_before 0 xs)) (sym (spread_of marks (step_row m l.step.grows) l.step.says)) (step_before m l.step.grows 0)

  steps_after : AreTrueOf d NoCell 0 (named_after 0 (spread marks))
  steps_after = subst (λ xs. AreTrueOf d NoCell 0 (named_after 0 xs)) (sym (spread_of marks (step_row m l.step.grows) l.step.says)) (step_after m l.step.grows 0)

  steps_new : AreNew c (Gains l.step.grows)
  steps_new = gains_new l.step.grows l.after.once

module _ (p : SeqPart) (c : List Slot) (x : RowChange) (e : x ≡ row_change_of p c) where
  changes_before : AreTrueOf c (MakesCell (made_in p.part c)) 0 (named_before 0 (spread x.marks))
  changes_before = subst (λ xs. AreTrueOf c (MakesCell (made_in p.part c)) 0 (named_before 0 xs)) (sym (spread_of x.marks (embed_row p.part c) (ap (λ (y : RowChange). y.marks) e))) (change_before p.part c)

  changes_after : AreTrueOf (row_carried p false c) NoCell 0 (named_after 0 (spread x.marks))
  changes_after = subst (λ xs. AreTrueOf (row_carried p false c) NoCell 0 (named_after 0 xs)) (sym (spread_of x.marks (embed_row p.part c) (ap (λ (y : RowChange). y.marks) e))) (change_after p.part c)

-- a row and a step over it
pub named_once-after : (m : Nodes) (c d : List Slot) (marks : List Mark) → RowLeadsOver m c d marks → (k : ℕ) → NamedApart (named_in_row 0 c) (named_before 0 (spread marks)) k → ⊥
named_once-after m c d marks l = true_together c NoCell (Gains l.step.grows) l.before.once (λ a h v. h) (steps_new m c d marks l) (λ a h v. h) (named_in_row 0 c) (named_before 0 (spread marks)) (row_true c 0) (steps_before m c d marks l)

-- two steps in turn
pub named_once-compose : (m k : Nodes) (c d e : List Slot) (s t : List Mark) → RowLeadsOver m c d s → RowLeadsOver k d e t → (j : ℕ) → NamedApart (named_after 0 (spread s)) (named_before 0 (spread t)) j → ⊥
named_once-compose m k c d e s t l r = true_together d NoCell (Gains r.step.grows) r.before.once (λ a h v. h) (steps_new k d e t r) (λ a h v. h) (named_after 0 (spread s)) (named_before 0 (spread t)) (steps_after m c d s l) (steps_before k d e t r)

-- two changes in turn
pub named_once-join : (p q : SeqPart) (c : List Slot) (x y : RowChange) → RowFits p c → x ≡ row_change_of p c → RowFits q (row_carried p false c) → y ≡ row_change_of q (row_carried p false c) → (j : ℕ) → NamedApart (named_after 0 (spread x.marks)) (named_before 0 (spread y.marks)) j → ⊥
named_once-join p q c x y w e v f =
    let d = row_carried p false c in
    true_together d NoCell (MakesCell (made_in q.part d)) v.content.once (λ a h v. h) (makes_new d q v) (λ a h v. h) (named_after 0 (spread x.marks)) (named_before 0 (spread y.marks)) (changes_after p c x e) (changes_before q d y f)

-- a change and a step over one row
pub named_once-rebase : (p : SeqPart) (m : Nodes) (c d : List Slot) (x : RowChange) (s : List Mark) → RowFits p c → RowFits p d → x ≡ row_change_of p c → RowLeadsOver m c d s → (j : ℕ) → NamedApart (named_before 0 (spread x.marks)) (named_before 0 (spread s)) j → ⊥
named_once-rebase p m c d x s w v e l =
    let g = l.step.grows in
    let others : (a : CellId) → MakesCell (made_in p.part c) a → Gains g a → ⊥ = λ a h u. makes_new d p v a (h.0, made_grown p.part g h.0 h.1, h.2) (gains_has g a u) in
    true_together c (MakesCell (made_in p.part c)) (Gains g) l.before.once (makes_new c p w) (steps_new m c d s l) others (named_before 0 (spread x.marks)) (named_before 0 (spread s)) (changes_before p c x e) (steps_before m c d s l)
