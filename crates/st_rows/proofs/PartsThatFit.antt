-- What is known of the part of an intent that fits a row.
use Rattle.std.proofs.Common.{◌≡◌, ◌≢◌, Bool, true, false, ◌||◌, List, [], ◌∷◌, Option, Some, None, cond, refl, sym, ap, ◌∙◌, subst, inl, inr}
use Rattle.std.specs.List.{AllByRecursion}
use Rattle.st_ids.specs.Listing.{AreDistinct, Has}
use Rattle.st_ids.specs.declared.names.CellId.{CellId}
use Rattle.st_ids.specs.declared.names.NodeId.{NodeId}
use Rattle.st_kind.specs.Named.{Nodes, either, named_beside}
use Rattle.st_marks.specs.declared.marks.Mark.{Mark}
use Rattle.st_marks.specs.declared.intents.Owned.{Owned}
use Rattle.st_marks.specs.declared.intents.To.{To}
use Rattle.st_marks.specs.declared.places.Slot.{Slot}
use Rattle.st_marks.specs.Embedding.{is_among}
use Rattle.st_marks.specs.Extends.{GainsItems, no_more, item_gained, item_kept}
use Rattle.st_marks.specs.Row.{RowPart, SameCell}
use Rattle.st_rows.specs.Changes.{StandsIn, AreOld, IsRowChange, Keeps, NamesNoGained, NoGroupAtGained, StandsOver, carried_row, full_after, placed_by, row_after, void_part}
use Rattle.st_rows.proofs.KindLaws.{has_grown, not_again, same_grown}
use Rattle.st_rows.specs.Rows.{IsRowStep, NamesLeavers, NamesMoved}
use Rattle.st_rows.specs.Sequence.{SeqPart, RowCanHold, RowFits, RowLeadsOver, row_carried, RowKeeps, cells_of, row_change_of}
use Rattle.st_rows.specs.declared.values.RowChange.{RowChange}
use Rattle.st_rows.proofs.RowBridges.{placed_new}
use Rattle.st_rows.proofs.RowsInTurn.{grows_on}
use Rattle.st_rows.proofs.RowEffects.{behind_made, grown_cells, grown_row}
use Rattle.st_lemmas.proofs.Bools.{or-left, or-right}

-- ## Its change

pub stands_old : (made : Nodes) (c : List Slot) → AreOld made c → (n : NodeId) → StandsIn n c → made n ≡ false
stands_old made [] h n w = absurd w
stands_old made (s ∷ c) h n (inl w) = sym (ap made w.0) ∙ h.0
stands_old made (s ∷ c) h n (inr w) = stands_old made c h.1 n w

pub change_is : (p : SeqPart) (c : List Slot) (x : RowChange) → RowFits p c → x ≡ row_change_of p c → IsRowChange p.part c x.marks
change_is p c x w e = record { mentions = λ n h q. w.mentions n q (stands_old (is_among p.new) c w.old n h); says = ap (λ (y : RowChange). y.marks) e }

-- ## Cells that a step gains

-- the step gains no cell of this row
abbrev GainsNone : List Slot → {c d : List Slot} → GainsItems SameCell c d → Type 0
GainsNone b no_more = Unit {0}
GainsNone b (item_gained {y} g) = (Has (cells_of b) y.cell → ⊥) × GainsNone b g
GainsNone b (item_kept a g) = GainsNone b g

gains_none : (b : List Slot) {c d : List Slot} (g : GainsItems SameCell c d) → AreDistinct (λ (s : Slot). s.cell) d → ((a : CellId) → Has (cells_of b) a → Has (cells_of d) a → Has (cells_of c) a) → GainsNone b g
gains_none b no_more o h = tt
gains_none b (item_gained {y = t} {ys = d} g) o h = (λ w. not_again d t.cell o.0 (has_grown g t.cell (h t.cell w (inl refl))), gains_none b g o.1 (λ a w v. h a w (inr v)))
gains_none b (item_kept {y = t} {ys = d} a g) o h = gains_none b g o.1 (λ x w v. elim (h x w (inr v)) [ inl e ↦ absurd (not_again d t.cell o.0 (subst (Has (cells_of d)) (sym e ∙ a.0) v)) | inr z ↦ z ])

no_group : (p : RowPart) (b : List Slot) (a : CellId) → ((x : CellId) → p.new_cells (Some x) ≢ [] → Has (cells_of b) x) → (Has (cells_of b) a → ⊥) → p.new_cells (Some a) ≡ []
no_group p b a h w = empty (p.new_cells (Some a)) (λ q. w (h a q))
  where
    empty : (os : List Owned) → (os ≢ [] → ⊥) → os ≡ []
    empty [] h = refl
    empty (o ∷ os) h = absurd (h (λ e. cc))

no_groups : (p : RowPart) (b : List Slot) {c d : List Slot} (g : GainsItems SameCell c d) → ((x : CellId) → p.new_cells (Some x) ≢ [] → Has (cells_of b) x) → GainsNone b g → NoGroupAtGained p g
no_groups p b no_more h w = tt
no_groups p b (item_gained {y = t} g) h w = (no_group p b t.cell h w.0, no_groups p b g h w.1)
no_groups p b (item_kept a g) h w = no_groups p b g h w

names_none : (p : RowPart) (b e : List Slot) → RowKeeps p b e → {c d : List Slot} (g : GainsItems SameCell c d) → ((x : CellId) → p.new_cells (Some x) ≢ [] → Has (cells_of b) x) → GainsNone b g → ((a : CellId) → Has (cells_of d) a → Has (cells_of e) a) → NamesNoGained p g
names_none p b e k no_more h w i = tt
names_none p b e k (item_gained {y = t} g) h w i = (no_group p b t.cell h w.0, (λ q. w.0 (k.older t.node t.cell q (i t.cell (inl refl)))), names_none p b e k g h w.1 (λ a x. i a (inr x)))
names_none p b e k (item_kept a g) h w i = names_none p b e k g h w (λ a x. i a (inr x))

module _ (p : SeqPart) {c d : List Slot} (g : GainsItems SameCell c d) (w : RowFits p c) (o : AreDistinct (λ (s : Slot). s.cell) d) where
  new_cells : GainsNone c g
  new_cells = gains_none c g o (λ a h v. h)

  pub keeps_is : RowKeeps p.part c d → Keeps p.part c d g
  keeps_is k = record { older = names_none p.part c d k g w.behind new_cells (λ a x. x); stays = k.stays }

  pub stands_over : RowFits p d → StandsOver p.part (is_among p.new) c d g
  stands_over v = record { old_before = w.old; old_after = v.old; mentions = w.mentions; groups = no_groups p.part c g w.behind new_cells }

-- ## Nodes that are moved

pub leavers_of : (m : Nodes) {c d : List Slot} (g : GainsItems SameCell c d) → NamesMoved m g → NamesLeavers m g
leavers_of m no_more w = tt
leavers_of m (item_gained g) w = leavers_of m g w
leavers_of m (item_kept {x = s} {y = t} a g) w = (λ e f. w.0 (λ q. let z : ◌≡◌ {A = Bool} true false = sym e ∙ q ∙ f in cc), leavers_of m g w.1)

moved_made : (m : Nodes) (p : RowPart) (os : List Owned) {c d : List Slot} (g : GainsItems SameCell c d) → NamesMoved m g → NamesMoved m (behind_made p os g)
moved_made m p [] g w = w
moved_made m p (o ∷ os) g w = moved_made m p os g w

is_put : (g : Option To) (c : CellId) (b : Bool) → b ≢ full_after g c b → g ≢ None
is_put None c b q = absurd (q refl)
is_put (Some to) c b q = λ e. cc

moved_cells : (m : Nodes) (p : RowPart) (c : List Slot) → AllByRecursion (λ (s : Slot). p.target_of s.node ≢ None → m s.node ≡ true) c → NamesMoved m (grown_cells p c)
moved_cells m p [] h = tt
moved_cells m p (s ∷ c) h = (λ q. h.0 (is_put (p.target_of s.node) s.cell s.full q), moved_made m p (p.new_cells (Some s.cell)) (grown_cells p c) (moved_cells m p c h.1))

-- a change that is carried out moves what it puts
pub moved_row : (m : Nodes) (p : RowPart) (c : List Slot) → AllByRecursion (λ (s : Slot). p.target_of s.node ≢ None → m s.node ≡ true) c → NamesMoved m (grown_row p c)
moved_row m p c h = moved_made m p (p.new_cells None) (grown_cells p c) (moved_cells m p c h)

pub puts_mentioned : (made : Nodes) (p : RowPart) (c : List Slot) → AreOld made c → ((n : NodeId) → p.target_of n ≢ None → made n ≡ false → p.mentioned n ≡ true) → AllByRecursion (λ (s : Slot). p.target_of s.node ≢ None → p.mentioned s.node ≡ true) c
puts_mentioned made p [] o h = tt
puts_mentioned made p (s ∷ c) o h = (λ q. h s.node q o.0, puts_mentioned made p c o.1 h)

-- a void one moves no old node
pub puts_none : (placed : Nodes) (p : RowPart) (c : List Slot) → AreOld placed c → AllByRecursion (λ (s : Slot). (void_part placed p).target_of s.node ≢ None → p.mentioned s.node ≡ true) c
puts_none placed p [] o = tt
puts_none placed p (s ∷ c) o = (λ q. absurd (q (ap (λ b. cond b (p.target_of s.node) None) o.0)), puts_none placed p c o.1)

pub moved_in_turn : (m k : Nodes) {d e : List Slot} (h : GainsItems SameCell d e) {c : List Slot} (g : GainsItems SameCell c d) → NamesMoved m g → NamesMoved k h → NamesMoved (either m k) (grows_on g h)
moved_in_turn m k no_more no_more l r = tt
moved_in_turn m k (item_gained h) g l r = moved_in_turn m k h g l r
moved_in_turn m k (item_kept b h) (item_gained g) l r = moved_in_turn m k h g l r.1
moved_in_turn m k (item_kept {y = u} b h) (item_kept {x = s} {y = t} a g) l r = (moved s.full t.full u.full l.0 (λ q. ap k a.1 ∙ r.0 q), moved_in_turn m k h g l.1 r.1)
  where
    moved : (x y z : Bool) → (x ≢ y → m s.node ≡ true) → (y ≢ z → k s.node ≡ true) → x ≢ z → (m s.node || k s.node) ≡ true
    moved true true z f g q = or-right (m s.node) (k s.node) (g q)
    moved true false z f g q = or-left (m s.node) (k s.node) (f (λ e. cc))
    moved false false z f g q = or-right (m s.node) (k s.node) (g q)
    moved false true z f g q = or-left (m s.node) (k s.node) (f (λ e. cc))

-- ## Steps of a change

module _ (p : SeqPart) (c : List Slot) (marks : List Mark) (w : RowFits p c) where
  pub whole_leads : (void : Bool) → void ≡ false → RowCanHold (row_carried p void c) → IsRowStep p.part.mentioned c (carried_row p.part c) marks → RowLeadsOver p.part.mentioned c (row_carried p void c) marks
  whole_leads true e h s = cc
  whole_leads false e h s = record {
    before = w.content;
    after = h;
    step = s;
    moved = (same_grown p.part.mentioned (grown_row p.part c) s.grows h.once).1 (moved_row p.part.mentioned p.part c (puts_mentioned (is_among p.new) p.part c w.old w.mentions));
  }

  pub void_leads : (void : Bool) → void ≡ true → RowCanHold (row_carried p void c) → AreOld (placed_by p.in_new p.new) c → IsRowStep p.part.mentioned c (carried_row (void_part (placed_by p.in_new p.new) p.part) c) marks → RowLeadsOver p.part.mentioned c (row_carried p void c) marks
  void_leads false e h o s = cc
  void_leads true e h o s = record {
    before = w.content;
    after = h;
    step = s;
    moved = (same_grown p.part.mentioned (grown_row (void_part (placed_by p.in_new p.new) p.part) c) s.grows h.once).1 (moved_row p.part.mentioned (void_part (placed_by p.in_new p.new) p.part) c (puts_none (placed_by p.in_new p.new) p.part c o));
  }

pub old_placed : (in_new : Bool) (new : List NodeId) (c : List Slot) → AreOld (is_among new) c → AreOld (placed_by in_new new) c
old_placed in_new new [] o = tt
old_placed in_new new (s ∷ c) o = (placed_new in_new new s.node o.0, old_placed in_new new c o.1)

-- the step over a change, which was and is void or not, with the row's node and the new nodes as the change has them
abbrev LeadsBeside : SeqPart → Nodes → List Slot → List Slot → Bool → Bool → List Mark → Bool → List NodeId → Type 0
LeadsBeside p m c d was is t in_new new =
    (r : IsRowStep (named_beside m p.part.mentioned (is_among new) was is) (row_after (placed_by in_new new) p.part was c) (row_after (placed_by in_new new) p.part is d) t)
    × NamesMoved (named_beside m p.part.mentioned (is_among new) was is) r.grows

pub beside_leads : (p : SeqPart) (m : Nodes) (c d : List Slot) (was is : Bool) (t : List Mark) (in_new : Bool) (new : List NodeId) → in_new ≡ p.in_new → new ≡ p.new → RowCanHold (row_carried p was c) → RowCanHold (row_carried p is d)
    → LeadsBeside p m c d was is t in_new new → RowLeadsOver (named_beside m p.part.mentioned (is_among p.new) was is) (row_carried p was c) (row_carried p is d) t
beside_leads p m c d was is t in_new new e f h g r =
    let one : LeadsBeside p m c d was is t p.in_new p.new = subst (λ l. LeadsBeside p m c d was is t p.in_new l) f (subst (λ b. LeadsBeside p m c d was is t b new) e r) in
    record { before = h; after = g; step = one.0; moved = one.1 }
