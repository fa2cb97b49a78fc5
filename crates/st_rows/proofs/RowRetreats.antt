-- The way back over a row that each cell is in once.
use Rattle.std.proofs.Common.{◌≡◌, ◌≢◌, Bool, true, false, ◌&&◌, ◌||◌, List, [], ◌∷◌, length, cond, refl, sym, ap, ◌∙◌, subst, inl, inr, arith, ◌⊎◌}
use Rattle.std.specs.List.{AllByRecursion}
use Rattle.st_ids.specs.Listing.{AreDistinct, Has}
use Rattle.st_ids.specs.Order.{same_cell, same_node}
use Rattle.st_ids.proofs.Orders.{same_cell-true, same_cell-itself, same_node-true, same_node-itself}
use Rattle.st_ids.specs.declared.names.CellId.{CellId}
use Rattle.st_ids.specs.declared.names.NodeId.{NodeId}
use Rattle.st_kind.specs.Named.{Nodes, either}
use Rattle.st_marks.specs.declared.marks.Mark.{Mark}
use Rattle.st_marks.specs.declared.marks.How.TheVariants.{Stay}
use Rattle.st_marks.specs.declared.places.Slot.{Slot}
use Rattle.st_ids.specs.Root.{root}
use Rattle.st_marks.specs.Extends.{GainsItems, no_more, item_gained, item_kept}
use Rattle.st_marks.specs.Row.{CellMark, Counted, Touch, SameCell, merge, spread, step_cell, step_row}
use Rattle.st_rows.specs.Changes.{StandsIn}
use Rattle.st_rows.proofs.KindLaws.{has_grown, not_again, same_grown, spread_of}
use Rattle.st_rows.specs.Rows.{IsRowStep, NamesMoved, retreat_row}
use Rattle.st_rows.specs.Sequence.{RowCanHold, RowLeadsOver, nodes_brought, cells_of, is_full_in, retreat_to, standing_nodes}
use Rattle.st_rows.proofs.RowsBack.{backward}
use Rattle.st_lemmas.proofs.Bools.{and-true, refuted-false, or-cases, or-left, or-right}

-- ## By look-up

not_full : (c : List Slot) (a : CellId) → (Has (cells_of c) a → ⊥) → is_full_in c a ≡ false
not_full [] a h = refl
not_full (s ∷ c) a h = elim (same_cell s.cell a) as (λ b. same_cell s.cell a ≡ b → ((s.full && b) || is_full_in c a) ≡ false) [
  | true ↦ (λ e. absurd (h (inl (same_cell-true s.cell a e))))
  | false ↦ (λ e. ap (λ x. x || is_full_in c a) (none s.full) ∙ not_full c a (λ w. h (inr w)))
] refl
  where
    none : (b : Bool) → (b && false) ≡ false
    none true = refl
    none false = refl

-- a cell that isn't the first
other_full : (s : Slot) (c : List Slot) (a : CellId) → (s.cell ≢ a) → is_full_in (s ∷ c) a ≡ is_full_in c a
other_full s c a h = elim (same_cell s.cell a) as (λ b. same_cell s.cell a ≡ b → ((s.full && b) || is_full_in c a) ≡ is_full_in c a) [
  | true ↦ (λ e. absurd (h (same_cell-true s.cell a e)))
  | false ↦ (λ e. ap (λ x. x || is_full_in c a) (none s.full))
] refl
  where
    none : (b : Bool) → (b && false) ≡ false
    none true = refl
    none false = refl

first_full : (s : Slot) (c : List Slot) (a : CellId) → s.cell ≡ a → (Has (cells_of c) a → ⊥) → is_full_in (s ∷ c) a ≡ s.full
first_full s c a e h = (λ i. (s.full && (ap (λ x. same_cell x a) e ∙ same_cell-itself a) i) || not_full c a h i) ∙ whole s.full
  where
    whole : (b : Bool) → ((b && true) || false) ≡ b
    whole true = refl
    whole false = refl

-- the row b holds the same of the cells of d as c does
abbrev LooksLike : List Slot → List Slot → List Slot → Type 0
LooksLike b c d = (a : CellId) → Has (cells_of d) a → is_full_in b a ≡ is_full_in c a

pub retreat_is : (b : List Slot) {c d : List Slot} (g : GainsItems SameCell c d) → AreDistinct (λ (s : Slot). s.cell) d → LooksLike b c d → retreat_row g ≡ retreat_to b d
retreat_is b no_more o h = refl
retreat_is b (item_gained {y = t} {xs = c} {ys = d} g) o h =
    λ i. record t { full = sym (h t.cell (inl refl) ∙ not_full c t.cell (λ w. not_again d t.cell o.0 (has_grown g t.cell w))) i } ∷ retreat_is b g o.1 (λ a w. h a (inr w)) i
retreat_is b (item_kept {x = s} {y = t} {xs = c} {ys = d} e g) o h =
    λ i. record t { full = sym (h t.cell (inl refl) ∙ first_full s c t.cell e.0 (λ w. not_again d t.cell o.0 (has_grown g t.cell w))) i }
    ∷ retreat_is b g o.1 (λ a w. h a (inr w) ∙ other_full s c a (λ q. not_again d t.cell o.0 (subst (Has (cells_of d)) (sym q ∙ e.0) w))) i

-- ## What the row holds then

same_standing : {c d : List Slot} (g : GainsItems SameCell c d) → standing_nodes (retreat_row g) ≡ standing_nodes c
same_standing no_more = refl
same_standing (item_gained g) = same_standing g
same_standing (item_kept {x = s} {y = t} {xs = c} e g) = λ i. cond s.full (sym e.1 i ∷ same_standing g i) (same_standing g i)

all_retreat : {c d : List Slot} (a : CellId) (g : GainsItems SameCell c d) → AllByRecursion (λ (s : Slot). s.cell ≢ a) d → AllByRecursion (λ (s : Slot). s.cell ≢ a) (retreat_row g)
all_retreat a no_more h = tt
all_retreat a (item_gained g) h = (h.0, all_retreat a g h.1)
all_retreat a (item_kept e g) h = (h.0, all_retreat a g h.1)

once_retreat : {c d : List Slot} (g : GainsItems SameCell c d) → AreDistinct (λ (s : Slot). s.cell) d → AreDistinct (λ (s : Slot). s.cell) (retreat_row g)
once_retreat no_more o = tt
once_retreat (item_gained {y = t} g) o = (all_retreat t.cell g o.0, once_retreat g o.1)
once_retreat (item_kept {y = t} e g) o = (all_retreat t.cell g o.0, once_retreat g o.1)

back_in : {c d : List Slot} (g : GainsItems SameCell c d) (n : NodeId) → StandsIn n (retreat_row g) → StandsIn n c
back_in no_more n w = w
back_in (item_gained g) n (inl w) = let q : ◌≡◌ {A = Bool} false true = w.1 in cc
back_in (item_gained g) n (inr w) = back_in g n w
back_in (item_kept {x = s} e g) n (inl w) = inl (e.1 ∙ w.0, w.1)
back_in (item_kept e g) n (inr w) = inr (back_in g n w)

as_long : {c d : List Slot} (g : GainsItems SameCell c d) → length (retreat_row g) ≡ length d
as_long no_more = refl
as_long (item_gained g) = omega (arith, as_long g)
as_long (item_kept e g) = omega (arith, as_long g)

holds_back : {c d : List Slot} (g : GainsItems SameCell c d) → RowCanHold c → RowCanHold d → RowCanHold (retreat_row g)
holds_back {c} {d} g h k = record {
  once = once_retreat g k.once;
  stand_once = subst (AreDistinct (λ (n : NodeId). n)) (sym (same_standing g)) h.stand_once;
  no_root = λ w. h.no_root (back_in g root w);
  short = let l = as_long g in let s = k.short in omega (arith, l, s);
}

-- ## Nodes that come in with new cells

none_brought : (m : Nodes) (c : CellId) (n : NodeId) (a b : Bool) (x : NodeId) (xs : List CellMark) → nodes_brought (step_cell m c n a b ∷ xs) x ≡ nodes_brought xs x
none_brought m c n true true x xs = elim (m n) as (λ z. nodes_brought (cond z (Touch c n Stay) Counted ∷ xs) x ≡ nodes_brought xs x) [ true ↦ refl | false ↦ refl ]
none_brought m c n true false x xs = refl
none_brought m c n false true x xs = refl
none_brought m c n false false x xs = refl

brought_in : (m : Nodes) {c d : List Slot} (g : GainsItems SameCell c d) (n : NodeId) → nodes_brought (step_row m g) n ≡ true → StandsIn n d
brought_in m no_more n e = cc
brought_in m (item_gained {y = t} g) n e = elim (or-cases (t.full && same_node t.node n) (nodes_brought (step_row m g) n) e) [
  | inl f ↦ (let r = and-true t.full (same_node t.node n) f in inl (same_node-true t.node n r.1, r.0))
  | inr f ↦ inr (brought_in m g n f)
]
brought_in m (item_kept {x = s} {y = t} a g) n e = inr (brought_in m g n (sym (none_brought m s.cell s.node s.full t.full n (step_row m g)) ∙ e))

-- the node stands in a cell that was there before
abbrev StandsKept : NodeId → {c d : List Slot} → GainsItems SameCell c d → Type 0
StandsKept n no_more = ⊥
StandsKept n (item_gained g) = StandsKept n g
StandsKept n (item_kept {y} a g) = ((y.node ≡ n) × (y.full ≡ true)) ⊎ StandsKept n g

kept_in : {c d : List Slot} (g : GainsItems SameCell c d) (n : NodeId) → StandsKept n g → StandsIn n d
kept_in no_more n w = w
kept_in (item_gained g) n w = inr (kept_in g n w)
kept_in (item_kept a g) n (inl w) = inl w
kept_in (item_kept a g) n (inr w) = inr (kept_in g n w)

stands_first : (s : Slot) (d : List Slot) (n : NodeId) (b : Bool) → s.full ≡ b → (AllByRecursion (λ (k : NodeId). k ≢ n) (standing_nodes d) → StandsIn n d → ⊥) → AllByRecursion (λ (k : NodeId). k ≢ n) (cond b (s.node ∷ standing_nodes d) (standing_nodes d)) → StandsIn n (s ∷ d) → ⊥
stands_first s d n true e rest h (inl w) = h.0 w.0
stands_first s d n true e rest h (inr w) = rest h.1 w
stands_first s d n false e rest h (inl w) = let q : ◌≡◌ {A = Bool} false true = sym e ∙ w.1 in cc
stands_first s d n false e rest h (inr w) = rest h w

pub stands_not : (d : List Slot) (n : NodeId) → AllByRecursion (λ (k : NodeId). k ≢ n) (standing_nodes d) → StandsIn n d → ⊥
stands_not [] n h w = w
stands_not (s ∷ d) n h w = stands_first s d n s.full refl (stands_not d n) h w

pub stand_others : (s : Slot) (d : List Slot) → AreDistinct (λ (n : NodeId). n) (standing_nodes (s ∷ d)) → (s.full ≡ true → AllByRecursion (λ (k : NodeId). k ≢ s.node) (standing_nodes d)) × AreDistinct (λ (n : NodeId). n) (standing_nodes d)
stand_others s d = go s.full
  where
    go : (b : Bool) → AreDistinct (λ (n : NodeId). n) (cond b (s.node ∷ standing_nodes d) (standing_nodes d)) → (b ≡ true → AllByRecursion (λ (k : NodeId). k ≢ s.node) (standing_nodes d)) × AreDistinct (λ (n : NodeId). n) (standing_nodes d)
    go true h = ((λ e. h.0), h.1)
    go false h = ((λ e. cc), h)

none_both : (m : Nodes) {c d : List Slot} (g : GainsItems SameCell c d) → AreDistinct (λ (n : NodeId). n) (standing_nodes d) → (n : NodeId) → nodes_brought (step_row m g) n ≡ true → StandsKept n g → ⊥
none_both m no_more o n e k = k
none_both m (item_gained {y = t} {ys = d} g) o n e k = elim (or-cases (t.full && same_node t.node n) (nodes_brought (step_row m g) n) e) [
  | inl f ↦ (let r = and-true t.full (same_node t.node n) f in stands_not d t.node ((stand_others t d o).0 r.0) (subst (λ x. StandsIn x d) (sym (same_node-true t.node n r.1)) (kept_in g n k)))
  | inr f ↦ none_both m g (stand_others t d o).1 n f k
]
none_both m (item_kept {x = s} {y = t} {ys = d} a g) o n e (inl w) =
    stands_not d t.node ((stand_others t d o).0 w.1) (subst (λ x. StandsIn x d) (sym w.0) (brought_in m g n (sym (none_brought m s.cell s.node s.full t.full n (step_row m g)) ∙ e)))
none_both m (item_kept {x = s} {y = t} {ys = d} a g) o n e (inr w) = none_both m g (stand_others t d o).1 n (sym (none_brought m s.cell s.node s.full t.full n (step_row m g)) ∙ e) w

-- ## The names on the way back

left_as : (m k : Nodes) (c : CellId) (n : NodeId) (a b : Bool) → (a ≡ true → b ≡ true → k n ≡ m n) → step_cell m c n a b ≡ step_cell k c n a b
left_as m k c n true true h = rw (h refl refl) refl
left_as m k c n true false h = refl
left_as m k c n false true h = refl
left_as m k c n false false h = refl

or_none : (a b : Bool) → b ≡ false → (a || b) ≡ a
or_none true b e = refl
or_none false b e = e

back_named : (m b : Nodes) {c d : List Slot} (g : GainsItems SameCell c d) → ((n : NodeId) → StandsKept n g → b n ≡ false) → step_row m (backward g) ≡ step_row (either m b) (backward g)
back_named m b no_more h = refl
back_named m b (item_gained {y = t} g) h = λ i. left_as m (either m b) t.cell t.node t.full false (λ e f. cc) i ∷ back_named m b g h i
back_named m b (item_kept {x = s} {y = t} a g) h = λ i. left_as m (either m b) t.cell t.node t.full s.full (λ e f. or_none (m t.node) (b t.node) (h t.node (inl (refl, e)))) i ∷ back_named m b g (λ n w. h n (inr w)) i

back_moved : (m b : Nodes) {c d : List Slot} (g : GainsItems SameCell c d) → NamesMoved m g → ((n : NodeId) → nodes_brought (step_row m g) n ≡ true → b n ≡ true) → NamesMoved (either m b) (backward g)
back_moved m b no_more w h = tt
back_moved m b (item_gained {y = t} g) w h = (λ q. or-right (m t.node) (b t.node) (h t.node (ap (λ x. x || nodes_brought (step_row m g) t.node) (λ i. full t.full q i && same_node-itself t.node i))), back_moved m b g w (λ n e. h n (or-right (t.full && same_node t.node n) (nodes_brought (step_row m g) n) e)))
  where
    full : (x : Bool) → x ≢ false → x ≡ true
    full true q = refl
    full false q = absurd (q refl)
back_moved m b (item_kept {x = s} {y = t} a g) w h = (λ q. or-left (m t.node) (b t.node) (ap m (sym a.1) ∙ w.0 (λ e. q (sym e))), back_moved m b g w.1 (λ n e. h n (none_brought m s.cell s.node s.full t.full n (step_row m g) ∙ e)))

pub back_leads : (m : Nodes) (c d : List Slot) (marks back : List Mark) (l : RowLeadsOver m c d marks) → IsRowStep m d (retreat_row l.step.grows) back → RowLeadsOver (either m (nodes_brought (spread marks))) d (retreat_to c d) back
back_leads m c d marks back l r =
    let g = l.step.grows in
    let b = nodes_brought (spread marks) in
    let listed : (n : NodeId) → b n ≡ nodes_brought (step_row m g) n = λ n. ap (λ x. nodes_brought x n) (spread_of marks (step_row m g) l.step.says) in
    let holds = holds_back g l.before l.after in
    let none : (n : NodeId) → StandsKept n g → b n ≡ false = λ n w. refuted-false (b n) (λ e. none_both m g l.after.stand_once n (sym (listed n) ∙ e) w) in
    let step : IsRowStep (either m b) d (retreat_row g) back = record { grows = backward g; says = r.says ∙ ap merge ((same_grown m r.grows (backward g) holds.once).0 ∙ back_named m b g none) } in
    let one : RowLeadsOver (either m b) d (retreat_row g) back = record { before = l.after; after = holds; step = step; moved = back_moved m b g l.moved (λ n e. listed n ∙ e) } in
    subst (λ e. RowLeadsOver (either m b) d e back) (retreat_is c g l.after.once (λ a w. refl)) one
