-- The change of a part that fits keeps the rules, and a change that keeps them is that of a part.
use Rattle.std.proofs.Common.{◌≡◌, ◌≢◌, zero, suc, Bool, true, false, ◌&&◌, ◌||◌, not, List, [], ◌∷◌, ◌++◌, map, Option, Some, None, cond, refl, sym, ap, ◌∙◌, subst, inl, inr, ◌⊎◌}
use Rattle.std.specs.List.{AllByRecursion, list_all, list_any, flat_map}
use Rattle.std.specs.Ordering.{is_eq, ordering_reverse}
use Rattle.std.specs.declared.cmp.Ordering.{Ordering}
use Rattle.std.specs.declared.cmp.Ordering.TheVariants.{Less, Equal, Greater}
use Rattle.st_ids.specs.Listing.{AreDistinct, Has}
use Rattle.st_ids.specs.Order.{same_cell, same_node, same_rev, rev_cmp}
use Rattle.st_ids.proofs.Orders.{same_cell-true, same_node-true, same_node-itself, rev_cmp_total, same_rev-true}
use Rattle.st_ids.specs.declared.names.CellId.{CellId}
use Rattle.st_ids.specs.declared.names.NodeId.{NodeId}
use Rattle.st_ids.specs.declared.names.Rev.{Rev}
use Rattle.st_marks.specs.declared.intents.Owned.{Owned}
use Rattle.st_marks.specs.declared.intents.To.{To}
use Rattle.st_marks.specs.declared.marks.How.TheVariants.{Stay, Here, Leave}
use Rattle.st_marks.specs.declared.marks.Mark.{Mark}
use Rattle.st_marks.specs.declared.places.Slot.{Slot}
use Rattle.st_ids.specs.Root.{root}
use Rattle.st_marks.specs.Embedding.{is_among}
use Rattle.st_marks.specs.Row.{CellMark, Counted, Gap, Touch, Make, Fill, RowPart, how, same_to, merge, spread, embed_cell, embed_made, embed_cells, embed_row}
use Rattle.st_marks.specs.How.{is_here}
use Rattle.st_marks.specs.Listings.{cells_before, cells_in}
use Rattle.st_marks.proofs.Members.{all-has, has-all, append_left, append_right, has-append, map-has, has-map, distinct-append, distinct-between, distinct-left, distinct-right}
use Rattle.st_seq.proofs.Truth.{and_true, on}
use Rattle.st_rows.specs.Views.{row_views}
use Rattle.st_rows.specs.Differences.{first_difference}
use Rattle.st_rows.specs.Changes.{AreOld}
use Rattle.st_seq.specs.inside.NormalForm.{IsNormalRowChange, is_normal, stands_before, places, makes_cell, puts_found, has_cell, stands_in, may_put, are_allowed}
use Rattle.st_rows.specs.Merged.{begins_with_skip}
use Rattle.st_rows.proofs.KindLaws.{spread-merge, not_again}
use Rattle.st_rows.specs.Sequence.{SeqPart, RowCanHold, RowFits, cells_of, row_change_of, made_in}
use Rattle.st_rows.specs.declared.values.RowChange.{RowChange}
use Rattle.st_rows.proofs.ViewsOfRows.{no_difference, change_finds}
use Rattle.st_rows.proofs.PlacesInRows.{none_lays, in_cells}
use Rattle.st_rows.proofs.RowsAfter.{row_itself}
use Rattle.st_rows.proofs.MergedMarks.{AllStand, Stands, merge-stands, stands-merge}
use Rattle.st_rows.proofs.RowRebases.{is_put}
use Rattle.st_rows.proofs.ListTests.{any_has, has_any, none_any}
use Rattle.st_seq.proofs.PartOfMarks.{told, told_fits, told_row}
use Rattle.st_lemmas.proofs.Bools.{and-true, refuted-false, not-true}

-- ## Tests and what they tell

normal_stands : (ms : List Mark) → is_normal ms ≡ true → AllStand ms
normal_stands [] h = tt
normal_stands (m ∷ ms) h = let p = and-true (stands_before m ms) (is_normal ms) h in (stands m p.0, normal_stands ms p.1)
  where
    stands : (m : Mark) → stands_before m ms ≡ true → Stands m ms
    stands (Mark.Skip zero) e = cc
    stands (Mark.Skip (suc k)) e = not-true (begins_with_skip ms) e
    stands (Mark.Gap c) e = tt
    stands (Mark.Touch c n h) e = tt
    stands (Mark.Make c n b) e = tt
    stands (Mark.Fill c n) e = tt

stands_normal : (ms : List Mark) → AllStand ms → is_normal ms ≡ true
stands_normal [] h = refl
stands_normal (m ∷ ms) h = and_true (stands m h.0) (stands_normal ms h.1)
  where
    stands : (m : Mark) → Stands m ms → stands_before m ms ≡ true
    stands (Mark.Skip zero) e = absurd e
    stands (Mark.Skip (suc k)) e = on (begins_with_skip ms) e
    stands (Mark.Gap c) e = refl
    stands (Mark.Touch c n h) e = refl
    stands (Mark.Make c n b) e = refl
    stands (Mark.Fill c n) e = refl

old_told : (new : List NodeId) (c : List Slot) → list_all (λ (s : Slot). not (is_among new s.node)) c ≡ true → AreOld (is_among new) c
old_told new [] h = tt
old_told new (s ∷ c) h = let p = and-true (not (is_among new s.node)) _ h in (not-true (is_among new s.node) p.0, old_told new c p.1)

old_tested : (new : List NodeId) (c : List Slot) → AreOld (is_among new) c → list_all (λ (s : Slot). not (is_among new s.node)) c ≡ true
old_tested new [] h = refl
old_tested new (s ∷ c) h = and_true (on (is_among new s.node) h.0) (old_tested new c h.1)

same_rev-itself : (a b : Rev) → a ≡ b → same_rev a b ≡ true
unfolding same_rev
same_rev-itself a b e = ap (λ x. is_eq (rev_cmp a x)) (sym e) ∙ tied (rev_cmp a a) (rev_cmp_total.antisymm a a)
  where
    tied : (o : Ordering) → o ≡ ordering_reverse o → is_eq o ≡ true
    tied Less e = cc
    tied Equal e = refl
    tied Greater e = cc

new_told : (rev : Rev) (new : List NodeId) → list_all (λ (n : NodeId). same_rev n.0.rev rev && not (same_node n root)) new ≡ true → AllByRecursion (λ (n : NodeId). n.0.rev ≡ rev) new × (is_among new root ≡ false)
new_told rev [] h = (tt, refl)
new_told rev (n ∷ new) h =
    let p = and-true (same_rev n.0.rev rev && not (same_node n root)) _ h in
    let q = and-true (same_rev n.0.rev rev) _ p.0 in
    let r = new_told rev new p.1 in
    ((same_rev-true n.0.rev rev q.0, r.0), λ i. not-true (same_node n root) q.1 i || r.1 i)

or_off : (a b : Bool) → (a || b) ≡ false → (a ≡ false) × (b ≡ false)
or_off true b e = cc
or_off false b e = (refl, e)

new_tested : (rev : Rev) (new : List NodeId) → AllByRecursion (λ (n : NodeId). n.0.rev ≡ rev) new → is_among new root ≡ false → list_all (λ (n : NodeId). same_rev n.0.rev rev && not (same_node n root)) new ≡ true
new_tested rev [] h e = refl
new_tested rev (n ∷ new) h e = let p = or_off (same_node n root) (is_among new root) e in and_true (and_true (same_rev-itself n.0.rev rev h.0) (on (same_node n root) p.0)) (new_tested rev new h.1 p.1)

-- ## From the rules to a part

pub form_is_told : (x : RowChange) (c : List Slot) → RowCanHold c → IsNormalRowChange x c → (p : SeqPart) × RowFits p c × (x ≡ row_change_of p c)
form_is_told x c hold k =
    let l = none_lays c (spread x.marks) k.listed in
    let old = old_told x.new c k.old in
    let new = new_told x.rev x.new k.new in
    let row = told_row x.rev x.new l hold old k.allowed in
    let marks : x.marks ≡ merge (embed_row (told x.new l) c) = sym (stands-merge x.marks (normal_stands x.marks k.normal)) ∙ ap merge (sym row) in
    (record { rev = x.rev; in_new = x.in_new; new = x.new; part = told x.new l }, told_fits x.rev x.new l hold old k.allowed x.in_new k.empty k.rising new.0 new.1, λ i. record { rev = x.rev; in_new = x.in_new; new = x.new; marks = marks i })

-- ## From a part to the rules

-- the cells that the marks name are distinct
made_names : (p : RowPart) (os : List Owned) (xs : List CellMark) → cells_in (embed_made p os ++ xs) ≡ map (λ (o : Owned). o.cell) os ++ cells_in xs
made_names p [] xs = refl
made_names p (o ∷ os) xs = ap (λ l. o.cell ∷ l) (made_names p os xs)

found_names : (p : RowPart) (a : CellId) (n : NodeId) (b : Bool) (xs : List CellMark) → AreDistinct (λ (d : CellId). d) (cells_in xs) → AllByRecursion (λ (d : CellId). d ≢ a) (cells_in xs) → AreDistinct (λ (d : CellId). d) (cells_in (embed_cell p a n b ∷ xs))
found_names p a n true xs h o = elim (p.mentioned n) as (λ z. AreDistinct (λ (d : CellId). d) (cells_in (cond z (Touch a n (how (p.target_of n) (To.Cell a))) Counted ∷ xs))) [ true ↦ (o, h) | false ↦ h ]
found_names p a n false xs h o = elim (is_here (how (p.target_of n) (To.Cell a))) as (λ z. AreDistinct (λ (d : CellId). d) (cells_in (cond z (Fill a n) (Gap a) ∷ xs))) [ true ↦ (o, h) | false ↦ (o, h) ]

found_name : (p : RowPart) (a : CellId) (n : NodeId) (b : Bool) (xs : List CellMark) (d : CellId) → Has (cells_in (embed_cell p a n b ∷ xs)) d → (a ≡ d) ⊎ Has (cells_in xs) d
found_name p a n true xs d w = elim (p.mentioned n) as (λ z. Has (cells_in (cond z (Touch a n (how (p.target_of n) (To.Cell a))) Counted ∷ xs)) d → (a ≡ d) ⊎ Has (cells_in xs) d) [ true ↦ (λ v. v) | false ↦ (λ v. inr v) ] w
found_name p a n false xs d w = elim (is_here (how (p.target_of n) (To.Cell a))) as (λ z. Has (cells_in (cond z (Fill a n) (Gap a) ∷ xs)) d → (a ≡ d) ⊎ Has (cells_in xs) d) [ true ↦ (λ v. v) | false ↦ (λ v. v) ] w

abbrev behind_all : RowPart → List Slot → List Owned
behind_all p c = flat_map (λ (s : Slot). p.new_cells (Some s.cell)) c

names_in : (p : RowPart) (c : List Slot) (d : CellId) → Has (cells_in (embed_cells p c)) d → Has (cells_of c) d ⊎ Has (map (λ (o : Owned). o.cell) (behind_all p c)) d
names_in p [] d w = absurd w
names_in p (s ∷ c) d w = elim (found_name p s.cell s.node s.full (embed_made p (p.new_cells (Some s.cell)) ++ embed_cells p c) d w) [
  | inl e ↦ inl (inl e)
  | inr v ↦ elim (has-append (map (λ (o : Owned). o.cell) (p.new_cells (Some s.cell))) (cells_in (embed_cells p c)) d (subst (λ l. Has l d) (made_names p (p.new_cells (Some s.cell)) (embed_cells p c)) v)) [
    | inl u ↦ (let r = has-map (λ (o : Owned). o.cell) (p.new_cells (Some s.cell)) d u in inr (subst (Has (map (λ (o : Owned). o.cell) (behind_all p (s ∷ c)))) r.2 (map-has (λ (o : Owned). o.cell) (behind_all p (s ∷ c)) r.0 (append_left (p.new_cells (Some s.cell)) (behind_all p c) r.0 r.1))))
    | inr u ↦ elim (names_in p c d u) [
      | inl z ↦ inl (inr z)
      | inr z ↦ (let r = has-map (λ (o : Owned). o.cell) (behind_all p c) d z in inr (subst (Has (map (λ (o : Owned). o.cell) (behind_all p (s ∷ c)))) r.2 (map-has (λ (o : Owned). o.cell) (behind_all p (s ∷ c)) r.0 (append_right (p.new_cells (Some s.cell)) (behind_all p c) r.0 r.1))))
    ]
  ]
]

mapped_once : (os : List Owned) → AreDistinct (λ (o : Owned). o.cell) os → AreDistinct (λ (d : CellId). d) (map (λ (o : Owned). o.cell) os)
mapped_once [] h = tt
mapped_once (o ∷ os) h = (has-all (λ (d : CellId). d ≢ o.cell) (map (λ (o : Owned). o.cell) os) (λ d w e. let r = has-map (λ (o : Owned). o.cell) os d w in all-has (λ (x : Owned). x.cell ≢ o.cell) os r.0 h.0 r.1 (r.2 ∙ e)), mapped_once os h.1)

-- cells that are made before those of a row
group_once : (p : RowPart) (os : List Owned) (c : List Slot) → AreDistinct (λ (o : Owned). o.cell) (os ++ behind_all p c) → ((o : Owned) → Has os o → Has (cells_of c) o.cell → ⊥) → AreDistinct (λ (d : CellId). d) (cells_in (embed_cells p c))
    → AreDistinct (λ (d : CellId). d) (cells_in (embed_made p os ++ embed_cells p c))
group_once p os c once fresh h = subst (AreDistinct (λ (d : CellId). d)) (sym (made_names p os (embed_cells p c)))
    (distinct-append (λ (d : CellId). d) (map (λ (o : Owned). o.cell) os) (cells_in (embed_cells p c)) (mapped_once os (distinct-left (λ (o : Owned). o.cell) os (behind_all p c) once)) h apart)
  where
    apart : (x y : CellId) → Has (map (λ (o : Owned). o.cell) os) x → Has (cells_in (embed_cells p c)) y → y ≢ x
    apart x y v w e =
        let r = has-map (λ (o : Owned). o.cell) os x v in
        elim (names_in p c y w) [
          | inl z ↦ fresh r.0 r.1 (subst (Has (cells_of c)) (e ∙ sym r.2) z)
          | inr z ↦ (let q = has-map (λ (o : Owned). o.cell) (behind_all p c) y z in distinct-between (λ (o : Owned). o.cell) os (behind_all p c) r.0 q.0 once r.1 q.1 (q.2 ∙ e ∙ sym r.2))
        ]

cells_once : (p : RowPart) (c : List Slot) → AreDistinct (λ (s : Slot). s.cell) c → AreDistinct (λ (o : Owned). o.cell) (behind_all p c) → ((o : Owned) → Has (behind_all p c) o → Has (cells_of c) o.cell → ⊥) → AreDistinct (λ (d : CellId). d) (cells_in (embed_cells p c))
cells_once p [] o m f = tt
cells_once p (s ∷ c) o m f =
    let os = p.new_cells (Some s.cell) in
    let rest = cells_once p c o.1 (distinct-right (λ (o : Owned). o.cell) os (behind_all p c) m) (λ x w v. f x (append_right os (behind_all p c) x w) (inr v)) in
    found_names p s.cell s.node s.full (embed_made p os ++ embed_cells p c) (group_once p os c m (λ x w v. f x (append_left os (behind_all p c) x w) (inr v)) rest) (has-all (λ (d : CellId). d ≢ s.cell) (cells_in (embed_made p os ++ embed_cells p c)) away)
  where
    away : (d : CellId) → Has (cells_in (embed_made p (p.new_cells (Some s.cell)) ++ embed_cells p c)) d → d ≢ s.cell
    away d w e = elim (has-append (map (λ (o : Owned). o.cell) (p.new_cells (Some s.cell))) (cells_in (embed_cells p c)) d (subst (λ l. Has l d) (made_names p (p.new_cells (Some s.cell)) (embed_cells p c)) w)) [
      | inl u ↦ (let r = has-map (λ (o : Owned). o.cell) (p.new_cells (Some s.cell)) d u in f r.0 (append_left (p.new_cells (Some s.cell)) (behind_all p c) r.0 r.1) (inl (sym e ∙ sym r.2)))
      | inr u ↦ elim (names_in p c d u) [
        | inl z ↦ not_again c s.cell o.0 (subst (Has (cells_of c)) e z)
        | inr z ↦ (let r = has-map (λ (o : Owned). o.cell) (behind_all p c) d z in f r.0 (append_right (p.new_cells (Some s.cell)) (behind_all p c) r.0 r.1) (inl (sym e ∙ sym r.2)))
      ]
    ]

-- ## Each mark is allowed

module _ (p : RowPart) (rev : Rev) (c : List Slot) (all : List CellMark) where
  -- what is known of each mark
  abbrev Good : CellMark → Type 0
  Good Counted = Unit {0}
  Good (Gap a) = Unit {0}
  Good (Touch a n h) = h ≡ Here → p.target_of n ≡ Some (To.Cell a)
  Good (Make a n b) = (same_rev a.0.rev rev ≡ true) × (has_cell c a ≡ false) × (may_put c all n ≡ true) × (b ≡ true → p.target_of n ≡ Some (To.Cell a))
  Good (Fill a n) = (may_put c all n ≡ true) × (p.target_of n ≡ Some (To.Cell a))

  abbrev Others : CellId → List CellMark → Type 0
  Others a xs = AllByRecursion (λ (d : CellId). d ≢ a) (cells_in xs)

  one_to : (n : NodeId) (a d : CellId) → p.target_of n ≡ Some (To.Cell a) → p.target_of n ≡ Some (To.Cell d) → d ≡ a
  one_to n a d e f = ap cell_in (sym f ∙ e)
    where
      cell_in : Option To → CellId
      cell_in None = d
      cell_in (Some To.Nowhere) = d
      cell_in (Some (To.Cell x)) = x
      cell_in (Some (To.Register r)) = d

  no_more : (n : NodeId) (a : CellId) → p.target_of n ≡ Some (To.Cell a) → (xs : List CellMark) → AllByRecursion Good xs → Others a xs → list_any (places n) xs ≡ false
  no_more n a e [] g o = refl
  no_more n a e (Counted ∷ xs) g o = no_more n a e xs g.1 o
  no_more n a e (Gap d ∷ xs) g o = no_more n a e xs g.1 o.1
  no_more n a e (Touch d m Stay ∷ xs) g o = no_more n a e xs g.1 o.1
  no_more n a e (Touch d m Here ∷ xs) g o = λ i. refuted-false (same_node m n) (λ q. o.0 (one_to n a d e (ap p.target_of (sym (same_node-true m n q)) ∙ g.0 refl))) i || no_more n a e xs g.1 o.1 i
  no_more n a e (Touch d m Leave ∷ xs) g o = no_more n a e xs g.1 o.1
  no_more n a e (Make d m b ∷ xs) g o = λ i. refuted-false (b && same_node m n) (λ q. let z = and-true b (same_node m n) q in o.0 (one_to n a d e (ap p.target_of (sym (same_node-true m n z.1)) ∙ g.0.3 z.0))) i || no_more n a e xs g.1 o.1 i
  no_more n a e (Fill d m ∷ xs) g o = λ i. refuted-false (same_node m n) (λ q. o.0 (one_to n a d e (ap p.target_of (sym (same_node-true m n q)) ∙ g.0.1))) i || no_more n a e xs g.1 o.1 i

  no_cell : (a : CellId) (xs : List CellMark) → Others a xs → list_any (makes_cell a) xs ≡ false
  no_cell a [] o = refl
  no_cell a (Counted ∷ xs) o = no_cell a xs o
  no_cell a (Gap d ∷ xs) o = no_cell a xs o.1
  no_cell a (Touch d m h ∷ xs) o = no_cell a xs o.1
  no_cell a (Make d m b ∷ xs) o = λ i. refuted-false (same_cell d a) (λ q. o.0 (same_cell-true d a q)) i || no_cell a xs o.1 i
  no_cell a (Fill d m ∷ xs) o = no_cell a xs o.1

  good_allowed : (xs : List CellMark) → AllByRecursion Good xs → AreDistinct (λ (d : CellId). d) (cells_in xs) → are_allowed rev c all xs ≡ true
  good_allowed [] g o = refl
  good_allowed (Counted ∷ xs) g o = good_allowed xs g.1 o
  good_allowed (Gap a ∷ xs) g o = good_allowed xs g.1 o.1
  good_allowed (Touch a n Stay ∷ xs) g o = good_allowed xs g.1 o.1
  good_allowed (Touch a n Here ∷ xs) g o = and_true (on _ (no_more n a (g.0 refl) xs g.1 o.0)) (good_allowed xs g.1 o.1)
  good_allowed (Touch a n Leave ∷ xs) g o = good_allowed xs g.1 o.1
  good_allowed (Make a n b ∷ xs) g o = and_true (and_true (and_true g.0.0 (and_true (on _ g.0.1) (on _ (no_cell a xs o.0)))) (and_true g.0.2 (on _ (full b g.0.3)))) (good_allowed xs g.1 o.1)
    where
      full : (x : Bool) → (x ≡ true → p.target_of n ≡ Some (To.Cell a)) → (x && list_any (places n) xs) ≡ false
      full true h = no_more n a (h refl) xs g.1 o.0
      full false h = refl
  good_allowed (Fill a n ∷ xs) g o = and_true (and_true g.0.0 (on _ (no_more n a g.0.1 xs g.1 o.0))) (good_allowed xs g.1 o.1)

-- ## The marks of a part that fits

cell_absent : (c : List Slot) (a : CellId) → (Has (cells_of c) a → ⊥) → has_cell c a ≡ false
cell_absent c a h = none_any (λ (s : Slot). same_cell s.cell a) c (λ s w e. h (subst (Has (cells_of c)) (same_cell-true s.cell a e) (in_cells c s w)))

puts_touch : (g : Option To) (a : CellId) (m n : NodeId) → g ≢ None → puts_found n (Touch a m (how g (To.Cell a))) ≡ same_node m n
puts_touch None a m n h = absurd (h refl)
puts_touch (Some to) a m n h = elim (same_to to (To.Cell a)) as (λ z. puts_found n (Touch a m (cond z Here Leave)) ≡ same_node m n) [ true ↦ refl | false ↦ refl ]

embedded : (p : RowPart) (d : List Slot) (s : Slot) → Has d s → Has (embed_cells p d) (embed_cell p s.cell s.node s.full)
embedded p [] s w = absurd w
embedded p (t ∷ d) s (inl e) = inl (ap (λ (x : Slot). embed_cell p x.cell x.node x.full) e)
embedded p (t ∷ d) s (inr w) = inr (append_right (embed_made p (p.new_cells (Some t.cell))) (embed_cells p d) (embed_cell p s.cell s.node s.full) (embedded p d s w))

module _ (p : SeqPart) (c : List Slot) (w : RowFits p c) where
  abbrev all : List CellMark
  all = embed_row p.part c

  abbrev Sound : CellMark → Type 0
  Sound = Good p.part p.rev c all

  puts_it : (s : Slot) → Has c s → s.full ≡ true → (n : NodeId) → s.node ≡ n → p.part.target_of n ≢ None → puts_found n (embed_cell p.part s.cell s.node s.full) ≡ true
  puts_it s v f n e g =
      let put : p.part.target_of s.node ≢ None = λ q. g (ap p.part.target_of (sym e) ∙ q) in
      ap (λ b. puts_found n (embed_cell p.part s.cell s.node b)) f
      ∙ ap (λ b. puts_found n (cond b (Touch s.cell s.node (how (p.part.target_of s.node) (To.Cell s.cell))) Counted)) (w.mentions s.node put (all-has (λ (t : Slot). is_among p.new t.node ≡ false) c s w.old v))
      ∙ puts_touch (p.part.target_of s.node) s.cell s.node n put ∙ ap (λ m. same_node m n) e ∙ same_node-itself n

  may_be : (n : NodeId) → (n ≢ root) → ((s : Slot) → Has c s → s.node ≡ n → p.part.target_of n ≢ None) → may_put c all n ≡ true
  may_be n r h = and_true (on (same_node n root) (refuted-false (same_node n root) (λ e. r (same_node-true n root e)))) (elim (stands_in c n) as (λ z. stands_in c n ≡ z → (not z || list_any (puts_found n) all) ≡ true) [
    | true ↦ (λ e.
        let q = has_any (λ (s : Slot). s.full && same_node s.node n) c e in
        let t = and-true (q.0.full) (same_node q.0.node n) q.2 in
        let same = same_node-true q.0.node n t.1 in
        any_has (puts_found n) all (embed_cell p.part q.0.cell q.0.node q.0.full) (append_right (embed_made p.part (p.part.new_cells None)) (embed_cells p.part c) (embed_cell p.part q.0.cell q.0.node q.0.full) (embedded p.part c q.0 q.1)) (puts_it q.0 q.1 t.0 n same (h q.0 q.1 same)))
    | false ↦ (λ e. refl)
  ] refl)

  good_one : (o : Owned) → Has (made_in p.part c) o → Sound (Make o.cell o.node (is_here (how (p.part.target_of o.node) (To.Cell o.cell))))
  good_one o v = (same_rev-itself o.cell.0.rev p.rev (all-has (λ (x : Owned). x.cell.0.rev ≡ p.rev) (made_in p.part c) o w.cell_rev v), cell_absent c o.cell (all-has (λ (x : Owned). Has (cells_of c) x.cell → ⊥) (made_in p.part c) o w.fresh v), may, is_put (p.part.target_of o.node) o.cell)
    where
      may : may_put c all o.node ≡ true
      may = elim (all-has (λ (x : Owned). (is_among p.new x.node ≡ true) ⊎ (p.part.target_of x.node ≢ None)) (made_in p.part c) o w.owners v) [
        | inl e ↦ may_be o.node (λ r. let z : ◌≡◌ {A = Bool} true false = sym e ∙ ap (is_among p.new) r ∙ w.root_old in cc) (λ s u q. let z : ◌≡◌ {A = Bool} true false = sym e ∙ ap (is_among p.new) (sym q) ∙ all-has (λ (t : Slot). is_among p.new t.node ≡ false) c s w.old u in cc)
        | inr g ↦ may_be o.node (λ r. g (ap p.part.target_of r ∙ w.root_stays)) (λ s u q. g)
      ]

  good_group : (os : List Owned) (xs : List CellMark) → ((o : Owned) → Has os o → Has (made_in p.part c) o) → AllByRecursion Sound xs → AllByRecursion Sound (embed_made p.part os ++ xs)
  good_group [] xs h g = g
  good_group (o ∷ os) xs h g = (good_one o (h o (inl refl)), good_group os xs (λ x v. h x (inr v)) g)

  good_cell : (a : CellId) (n : NodeId) (b : Bool) → Sound (embed_cell p.part a n b)
  good_cell a n true = elim (p.part.mentioned n) as (λ z. Sound (cond z (Touch a n (how (p.part.target_of n) (To.Cell a))) Counted)) [ true ↦ (λ e. is_put (p.part.target_of n) a (ap is_here e)) | false ↦ tt ]
  good_cell a n false = elim (is_here (how (p.part.target_of n) (To.Cell a))) as (λ z. is_here (how (p.part.target_of n) (To.Cell a)) ≡ z → Sound (cond z (Fill a n) (Gap a))) [
    | true ↦ (λ e.
        let put = is_put (p.part.target_of n) a e in
        let some : p.part.target_of n ≢ None = λ q. let z : ◌≡◌ {A = Option To} None (Some (To.Cell a)) = sym q ∙ put in cc in
        (may_be n (λ r. some (ap p.part.target_of r ∙ w.root_stays)) (λ s u q. some), put))
    | false ↦ (λ e. tt)
  ] refl

  good_cells : (d : List Slot) → ((o : Owned) → Has (behind_all p.part d) o → Has (made_in p.part c) o) → AllByRecursion Sound (embed_cells p.part d)
  good_cells [] h = tt
  good_cells (s ∷ d) h = (good_cell s.cell s.node s.full, good_group (p.part.new_cells (Some s.cell)) (embed_cells p.part d) (λ o v. h o (append_left (p.part.new_cells (Some s.cell)) (behind_all p.part d) o v)) (good_cells d (λ o v. h o (append_right (p.part.new_cells (Some s.cell)) (behind_all p.part d) o v))))

  all_good : AllByRecursion Sound all
  all_good = good_group (p.part.new_cells None) (embed_cells p.part c) (λ o v. append_left (p.part.new_cells None) (behind_all p.part c) o v) (good_cells c (λ o v. append_right (p.part.new_cells None) (behind_all p.part c) o v))

  fresh : (o : Owned) → Has (made_in p.part c) o → Has (cells_of c) o.cell → ⊥
  fresh o v = all-has (λ (x : Owned). Has (cells_of c) x.cell → ⊥) (made_in p.part c) o w.fresh v

  all_once : AreDistinct (λ (d : CellId). d) (cells_in all)
  all_once = group_once p.part (p.part.new_cells None) c w.made_once (λ o v. fresh o (append_left (p.part.new_cells None) (behind_all p.part c) o v))
      (cells_once p.part c w.content.once (distinct-right (λ (o : Owned). o.cell) (p.part.new_cells None) (behind_all p.part c) w.made_once) (λ o v. fresh o (append_right (p.part.new_cells None) (behind_all p.part c) o v)))

  its_form : IsNormalRowChange (row_change_of p c) c
  its_form = record {
    rising = w.rising;
    new = new_tested p.rev p.new w.new_rev w.root_old;
    old = old_tested p.new c w.old;
    empty = w.empty;
    normal = stands_normal (merge all) (merge-stands all);
    listed = ap (λ l. first_difference (row_views c) (cells_before l)) (spread-merge all) ∙ no_difference c (row_views c) (cells_before all) (row_itself c) (change_finds p.part c);
    allowed = (λ i. are_allowed p.rev c (spread-merge all i) (spread-merge all i)) ∙ good_allowed p.part p.rev c all all all_good all_once;
  }

pub part_keeps_form : (p : SeqPart) (x : RowChange) (c : List Slot) → RowFits p c → x ≡ row_change_of p c → IsNormalRowChange x c
part_keeps_form p x c w e = subst (λ y. IsNormalRowChange y c) (sym e) (its_form p c w)
