-- What a part that fits leads to is what a row can hold.
use Rattle.std.proofs.Common.{◌≡◌, ◌≢◌, ◌<◌, ◌^◌, Bool, true, false, List, [], ◌∷◌, ◌++◌, Option, Some, None, cond, refl, sym, ap, ◌∙◌, subst, inl, inr, ◌⊎◌, length, arith}
use Rattle.std.specs.List.{flat_map}
use Rattle.st_ids.specs.Listing.{AreDistinct, Has}
use Rattle.st_ids.specs.declared.names.CellId.{CellId}
use Rattle.st_ids.specs.declared.names.NodeId.{NodeId}
use Rattle.st_kind.specs.Named.{Nodes}
use Rattle.st_marks.specs.declared.intents.Owned.{Owned}
use Rattle.st_marks.specs.declared.intents.To.{To}
use Rattle.st_marks.specs.declared.places.Slot.{Slot}
use Rattle.st_ids.specs.Root.{root}
use Rattle.st_marks.specs.Row.{RowPart, how}
use Rattle.st_marks.specs.How.{is_here}
use Rattle.st_marks.proofs.Members.{all-has, append_left, append_right, distinct-between, distinct-left, distinct-right, has-all}
use Rattle.st_rows.specs.Changes.{StandsIn, carried_cells, carried_row, full_after, made_cells, placed_by, void_part}
use Rattle.st_rows.specs.Sequence.{RowCanHold, RowFits, SeqPart, row_carried, cells_of, made_in, standing_nodes}
use Rattle.st_rows.proofs.PlacesInRows.{in_cells, in_row}
use Rattle.st_rows.proofs.RowRebases.{same_put, is_put}

-- ## Where the cells after come from

abbrev made_slot : RowPart → Owned → Slot
made_slot q o = record { cell = o.cell; node = o.node; full = is_here (how (q.target_of o.node) (To.Cell o.cell)) }

abbrev old_slot : RowPart → Slot → Slot
old_slot q s = record s { full = full_after (q.target_of s.node) s.cell s.full }

-- what is made behind the cells of a row
abbrev made_behind : RowPart → List Slot → List Owned
made_behind q c = flat_map (λ (s : Slot). q.new_cells (Some s.cell)) c

abbrev IsOld : RowPart → List Slot → Slot → Type 0
IsOld q c t = (s : Slot) × Has c s × (old_slot q s ≡ t)

abbrev IsMade : RowPart → List Owned → Slot → Type 0
IsMade q os t = (o : Owned) × Has os o × (made_slot q o ≡ t)

from_made : (q : RowPart) (os : List Owned) (ys : List Slot) (t : Slot) → Has (made_cells q os ++ ys) t → IsMade q os t ⊎ Has ys t
from_made q [] ys t h = inr h
from_made q (o ∷ os) ys t (inl e) = inl (o, inl refl, e)
from_made q (o ∷ os) ys t (inr h) = elim (from_made q os ys t h) [ inl r ↦ inl (r.0, inr r.1, r.2) | inr i ↦ inr i ]

from_cells : (q : RowPart) (c : List Slot) (t : Slot) → Has (carried_cells q c) t → IsOld q c t ⊎ IsMade q (made_behind q c) t
from_cells q [] t h = absurd h
from_cells q (s ∷ c) t (inl e) = inl (s, inl refl, e)
from_cells q (s ∷ c) t (inr h) = elim (from_made q (q.new_cells (Some s.cell)) (carried_cells q c) t h) [
  | inl r ↦ inr (r.0, append_left (q.new_cells (Some s.cell)) (made_behind q c) r.0 r.1, r.2)
  | inr i ↦ elim (from_cells q c t i) [
    | inl r ↦ inl (r.0, inr r.1, r.2)
    | inr r ↦ inr (r.0, append_right (q.new_cells (Some s.cell)) (made_behind q c) r.0 r.1, r.2)
  ]
]

from_row : (q : RowPart) (c : List Slot) (t : Slot) → Has (carried_row q c) t → IsOld q c t ⊎ IsMade q (made_in q c) t
from_row q c t h = elim (from_made q (q.new_cells None) (carried_cells q c) t h) [
  | inl r ↦ inr (r.0, append_left (q.new_cells None) (made_behind q c) r.0 r.1, r.2)
  | inr i ↦ elim (from_cells q c t i) [
    | inl r ↦ inl r
    | inr r ↦ inr (r.0, append_right (q.new_cells None) (made_behind q c) r.0 r.1, r.2)
  ]
]

-- ## Each cell is there once

slot_cell : {a b : Slot} → a ≡ b → a.cell ≡ b.cell
slot_cell e = ap (λ (s : Slot). s.cell) e

slot_node : {a b : Slot} → a ≡ b → a.node ≡ b.node
slot_node e = ap (λ (s : Slot). s.node) e

slots_once : (q : RowPart) (os : List Owned) (ys : List Slot) → AreDistinct (λ (o : Owned). o.cell) os → AreDistinct (λ (s : Slot). s.cell) ys → ((o : Owned) (t : Slot) → Has os o → Has ys t → t.cell ≢ o.cell)
    → AreDistinct (λ (s : Slot). s.cell) (made_cells q os ++ ys)
slots_once q [] ys d w apart = w
slots_once q (o ∷ os) ys d w apart = (
  has-all (λ (t : Slot). t.cell ≢ o.cell) (made_cells q os ++ ys) (λ t h e. elim (from_made q os ys t h) [
    | inl r ↦ all-has (λ (p : Owned). p.cell ≢ o.cell) os r.0 d.0 r.1 (slot_cell r.2 ∙ e)
    | inr i ↦ apart o t (inl refl) i e
  ]),
  slots_once q os ys d.1 w (λ p t h i. apart p t (inr h) i),
)

-- none of these cells is in the row
abbrev AreFresh : List Owned → List Slot → Type 0
AreFresh os c = (o : Owned) → Has os o → Has (cells_of c) o.cell → ⊥

-- what is made first isn't in what follows
apart_from : (q : RowPart) (c : List Slot) (os : List Owned) → AreDistinct (λ (o : Owned). o.cell) (os ++ made_behind q c) → AreFresh os c → (o : Owned) (t : Slot) → Has os o → Has (carried_cells q c) t → t.cell ≢ o.cell
apart_from q c os m new o t h i e = elim (from_cells q c t i) [
  | inl r ↦ new o h (subst (Has (cells_of c)) (slot_cell r.2 ∙ e) (in_cells c r.0 r.1))
  | inr r ↦ distinct-between (λ (o : Owned). o.cell) os (made_behind q c) o r.0 m h r.1 (slot_cell r.2 ∙ e)
]

cells_once : (q : RowPart) (c : List Slot) → AreDistinct (λ (s : Slot). s.cell) c → AreDistinct (λ (o : Owned). o.cell) (made_behind q c) → AreFresh (made_behind q c) c → AreDistinct (λ (s : Slot). s.cell) (carried_cells q c)
cells_once q [] d m new = tt
cells_once q (s ∷ c) d m new = (
  has-all (λ (t : Slot). t.cell ≢ s.cell) (made_cells q os ++ carried_cells q c) (λ t h e. elim (from_made q os (carried_cells q c) t h) [
    | inl r ↦ new r.0 (append_left os (made_behind q c) r.0 r.1) (inl (sym (slot_cell r.2 ∙ e)))
    | inr i ↦ elim (from_cells q c t i) [
      | inl r ↦ all-has (λ (t : Slot). t.cell ≢ s.cell) c r.0 d.0 r.1 (slot_cell r.2 ∙ e)
      | inr r ↦ new r.0 (append_right os (made_behind q c) r.0 r.1) (inl (sym (slot_cell r.2 ∙ e)))
    ]
  ]),
  slots_once q os (carried_cells q c) (distinct-left (λ (o : Owned). o.cell) os (made_behind q c) m)
      (cells_once q c d.1 (distinct-right (λ (o : Owned). o.cell) os (made_behind q c) m) (λ o h i. new o (append_right os (made_behind q c) o h) (inr i)))
      (apart_from q c os m (λ o h i. new o (append_left os (made_behind q c) o h) (inr i))),
)
  where
    os : List Owned
    os = q.new_cells (Some s.cell)

-- ## Each node stands once

stands_from : (d : List Slot) (n : NodeId) → Has (standing_nodes d) n → (t : Slot) × Has d t × (t.full ≡ true) × (t.node ≡ n)
stands_from [] n h = absurd h
stands_from (s ∷ d) n h = go s.full refl h (λ i. stands_from d n i)
  where
    later : ((t : Slot) × Has d t × (t.full ≡ true) × (t.node ≡ n)) → (t : Slot) × Has (s ∷ d) t × (t.full ≡ true) × (t.node ≡ n)
    later r = (r.0, inr r.1, r.2, r.3)

    go : (b : Bool) → s.full ≡ b → Has (cond b (s.node ∷ standing_nodes d) (standing_nodes d)) n → (Has (standing_nodes d) n → (t : Slot) × Has d t × (t.full ≡ true) × (t.node ≡ n)) → (t : Slot) × Has (s ∷ d) t × (t.full ≡ true) × (t.node ≡ n)
    go true e (inl q) more = (s, inl refl, e, q)
    go true e (inr i) more = later (more i)
    go false e i more = later (more i)

to_standing : (d : List Slot) (t : Slot) → Has d t → t.full ≡ true → Has (standing_nodes d) t.node
to_standing [] t h e = absurd h
to_standing (s ∷ d) t (inl q) e = subst (λ b. Has (cond b (s.node ∷ standing_nodes d) (standing_nodes d)) t.node) (sym (ap (λ (s : Slot). s.full) q ∙ e)) (inl (slot_node q))
to_standing (s ∷ d) t (inr h) e = elim s.full as (λ b. Has (cond b (s.node ∷ standing_nodes d) (standing_nodes d)) t.node) [ true ↦ inr (to_standing d t h e) | false ↦ to_standing d t h e ]

-- a node that stands in two cells of a row stands in one
abbrev StandOnce : List Slot → Type 0
StandOnce d = (s t : Slot) → Has d s → Has d t → s.full ≡ true → t.full ≡ true → s.node ≡ t.node → s.cell ≡ t.cell

standing_once : (d : List Slot) → AreDistinct (λ (s : Slot). s.cell) d → StandOnce d → AreDistinct (λ (n : NodeId). n) (standing_nodes d)
standing_once [] o one = tt
standing_once (s ∷ d) o one = elim s.full as (λ b. s.full ≡ b → AreDistinct (λ (n : NodeId). n) (cond b (s.node ∷ standing_nodes d) (standing_nodes d))) [
  | true ↦ (λ e. (
    has-all (λ (k : NodeId). k ≢ s.node) (standing_nodes d) (λ k h q. let r = stands_from d k h in all-has (λ (t : Slot). t.cell ≢ s.cell) d r.0 o.0 r.1 (one r.0 s (inr r.1) (inl refl) r.2 e (r.3 ∙ q))),
    standing_once d o.1 (λ a b h i. one a b (inr h) (inr i)),
  ))
  | false ↦ (λ e. standing_once d o.1 (λ a b h i. one a b (inr h) (inr i)))
] refl

first_stands : (s : Slot) (d : List Slot) (t : Slot) → AreDistinct (λ (n : NodeId). n) (standing_nodes (s ∷ d)) → s.full ≡ true → Has d t → t.full ≡ true → t.node ≢ s.node
first_stands s d t o e h f q =
    let all : AreDistinct (λ (n : NodeId). n) (s.node ∷ standing_nodes d) = subst (λ b. AreDistinct (λ (n : NodeId). n) (cond b (s.node ∷ standing_nodes d) (standing_nodes d))) e o in
    all-has (λ (k : NodeId). k ≢ s.node) (standing_nodes d) t.node all.0 (to_standing d t h f) q

others_stand : (b : Bool) (n : NodeId) (ns : List NodeId) → AreDistinct (λ (n : NodeId). n) (cond b (n ∷ ns) ns) → AreDistinct (λ (n : NodeId). n) ns
others_stand true n ns o = o.1
others_stand false n ns o = o

once_standing : (c : List Slot) → AreDistinct (λ (n : NodeId). n) (standing_nodes c) → StandOnce c
once_standing [] o s t h i e f g = absurd h
once_standing (x ∷ c) o s t (inl p) (inl q) e f g = slot_cell (sym p ∙ q)
once_standing (x ∷ c) o s t (inl p) (inr i) e f g = absurd (first_stands x c t o (ap (λ (s : Slot). s.full) p ∙ e) i f (sym g ∙ slot_node (sym p)))
once_standing (x ∷ c) o s t (inr h) (inl q) e f g = absurd (first_stands x c s o (ap (λ (s : Slot). s.full) q ∙ f) h e (g ∙ slot_node (sym q)))
once_standing (x ∷ c) o s t (inr h) (inr i) e f g = once_standing c (others_stand x.full x.node (standing_nodes c) o) s t h i e f g

-- who stands in a cell after stood there and isn't put, or is put into it
abbrev StoodOrPut : RowPart → List Slot → Slot → Type 0
StoodOrPut q c t = ((q.target_of t.node ≡ None) × ((s : Slot) × Has c s × (s.full ≡ true) × (s.node ≡ t.node) × (s.cell ≡ t.cell))) ⊎ (q.target_of t.node ≡ Some (To.Cell t.cell))

stays_or_comes : (g : Option To) (a : CellId) (b : Bool) → full_after g a b ≡ true → ((g ≡ None) × (b ≡ true)) ⊎ (g ≡ Some (To.Cell a))
stays_or_comes None a b e = inl (refl, e)
stays_or_comes (Some to) a b e = inr (ap (λ (q : To). Some q) (same_put to a e))

stands_after : (q : RowPart) (c : List Slot) (t : Slot) → Has (carried_row q c) t → t.full ≡ true → StoodOrPut q c t
stands_after q c t h e = elim (from_row q c t h) [
  | inl r ↦ elim (stays_or_comes (q.target_of r.0.node) r.0.cell r.0.full (ap (λ (s : Slot). s.full) r.2 ∙ e)) [
    | inl w ↦ inl (ap q.target_of (sym (slot_node r.2)) ∙ w.0, (r.0, r.1, w.1, slot_node r.2, slot_cell r.2))
    | inr w ↦ inr (ap q.target_of (sym (slot_node r.2)) ∙ w ∙ ap (λ a. Some (To.Cell a)) (slot_cell r.2))
  ]
  | inr r ↦ inr (ap q.target_of (sym (slot_node r.2)) ∙ is_put (q.target_of r.0.node) r.0.cell (ap (λ (s : Slot). s.full) r.2 ∙ e) ∙ ap (λ a. Some (To.Cell a)) (slot_cell r.2))
]

unput : {a b : NodeId} (target_of : NodeId → Option To) (to : To) → a ≡ b → target_of a ≡ None → target_of b ≡ Some to → ⊥
unput target_of to e f g = let q : ◌≡◌ {A = Option To} None (Some to) = sym f ∙ ap target_of e ∙ g in cc

one_cell : {a b : CellId} → ◌≡◌ {A = Option To} (Some (To.Cell a)) (Some (To.Cell b)) → a ≡ b
one_cell e = cc

stand_once_after : (q : RowPart) (c : List Slot) → AreDistinct (λ (n : NodeId). n) (standing_nodes c) → StandOnce (carried_row q c)
stand_once_after q c o s t h i e f g = go (stands_after q c s h e) (stands_after q c t i f)
  where
    go : StoodOrPut q c s → StoodOrPut q c t → s.cell ≡ t.cell
    go (inl a) (inl b) = sym a.1.4 ∙ once_standing c o a.1.0 b.1.0 a.1.1 b.1.1 a.1.2 b.1.2 (a.1.3 ∙ g ∙ sym b.1.3) ∙ b.1.4
    go (inl a) (inr b) = absurd (unput q.target_of (To.Cell t.cell) g a.0 b)
    go (inr a) (inl b) = absurd (unput q.target_of (To.Cell s.cell) (sym g) b.0 a)
    go (inr a) (inr b) = one_cell (sym a ∙ ap q.target_of g ∙ b)

-- ## The root doesn't stand

stands_in : (d : List Slot) (n : NodeId) → StandsIn n d → (t : Slot) × Has d t × (t.full ≡ true) × (t.node ≡ n)
stands_in [] n h = absurd h
stands_in (s ∷ d) n (inl w) = (s, inl refl, w.1, w.0)
stands_in (s ∷ d) n (inr h) = let r = stands_in d n h in (r.0, inr r.1, r.2, r.3)

-- ## Together

leads_to_row : (q : RowPart) (c : List Slot) → RowCanHold c → AreDistinct (λ (o : Owned). o.cell) (made_in q c) → AreFresh (made_in q c) c → q.target_of root ≡ None → length (carried_row q c) < 2 ^ 32 → RowCanHold (carried_row q c)
leads_to_row q c w m new r short = record {
  once = once;
  stand_once = standing_once (carried_row q c) once (stand_once_after q c w.stand_once);
  no_root = λ h. let t = stands_in (carried_row q c) root h in root_after t.0 t.3 (stands_after q c t.0 t.1 t.2);
  short = short;
}
  where
    once : AreDistinct (λ (s : Slot). s.cell) (carried_row q c)
    once =
        slots_once q (q.new_cells None) (carried_cells q c) (distinct-left (λ (o : Owned). o.cell) (q.new_cells None) (made_behind q c) m)
        (cells_once q c w.once (distinct-right (λ (o : Owned). o.cell) (q.new_cells None) (made_behind q c) m) (λ o h i. new o (append_right (q.new_cells None) (made_behind q c) o h) i))
        (apart_from q c (q.new_cells None) m (λ o h i. new o (append_left (q.new_cells None) (made_behind q c) o h) i))

    root_after : (t : Slot) → t.node ≡ root → StoodOrPut q c t → ⊥
    root_after t e (inl a) = w.no_root (subst (λ n. StandsIn n c) (a.1.3 ∙ e) (in_row c a.1.0 a.1.1 a.1.2))
    root_after t e (inr a) = unput q.target_of (To.Cell t.cell) (sym e) r a

-- what a part that fits leads to, whole or void, is what a row can hold, if it is short enough
pub carried_holds : (p : SeqPart) (c : List Slot) (void : Bool) → RowFits p c → length (row_carried p void c) < 2 ^ 32 → RowCanHold (row_carried p void c)
carried_holds p c false w short = leads_to_row p.part c w.content w.made_once (λ o h. all-has (λ (o : Owned). Has (cells_of c) o.cell → ⊥) (made_in p.part c) o w.fresh h) w.root_stays short
carried_holds p c true w short = leads_to_row (void_part placed p.part) c w.content w.made_once (λ o h. all-has (λ (o : Owned). Has (cells_of c) o.cell → ⊥) (made_in p.part c) o w.fresh h) (unplaced (placed root)) short
  where
    placed : Nodes
    placed = placed_by p.in_new p.new

    unplaced : (b : Bool) → cond b (p.part.target_of root) None ≡ None
    unplaced true = w.root_stays
    unplaced false = refl

-- the row after is as long void as whole
made_long : (q r : RowPart) (os : List Owned) (xs ys : List Slot) → length xs ≡ length ys → length (made_cells q os ++ xs) ≡ length (made_cells r os ++ ys)
made_long q r [] xs ys e = e
made_long q r (o ∷ os) xs ys e = omega (arith, made_long q r os xs ys e)

cells_long : (placed : Nodes) (q : RowPart) (c : List Slot) → length (carried_cells q c) ≡ length (carried_cells (void_part placed q) c)
cells_long placed q [] = refl
cells_long placed q (s ∷ c) = omega (arith, made_long q (void_part placed q) (q.new_cells (Some s.cell)) (carried_cells q c) (carried_cells (void_part placed q) c) (cells_long placed q c))

pub void_long : (p : SeqPart) (c : List Slot) → length (row_carried p false c) ≡ length (row_carried p true c)
void_long p c = made_long p.part (void_part (placed_by p.in_new p.new) p.part) (p.part.new_cells None) (carried_cells p.part c) (carried_cells (void_part (placed_by p.in_new p.new) p.part) c) (cells_long (placed_by p.in_new p.new) p.part c)
