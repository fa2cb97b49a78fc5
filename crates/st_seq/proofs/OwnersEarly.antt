-- Cells of new nodes that are found before they are made: the search, and that changes of one row have none.
use Rattle.std.proofs.Common.{◌≡◌, ◌⊎◌, inl, inr, ◌+◌, ◌<◌, ◌≤◌, ◌&&◌, not, ℕ, zero, suc, Bool, true, false, List, [], ◌∷◌, ◌++◌, map, Option, Some, None, is_some, cond, length, take, get_or, slice_get, refl, sym, ap, ◌∙◌, arith, subst, min}
use Rattle.std.proofs.lemmas.List.{take_more, get_or_default}
use Rattle.st_ids.specs.Listing.{Has}
use Rattle.st_ids.specs.Order.{same_node, lesser}
use Rattle.st_ids.proofs.Orders.{same_node-itself}
use Rattle.st_ids.specs.declared.names.Atom.{Atom}
use Rattle.st_ids.specs.declared.names.CellId.{CellId}
use Rattle.st_ids.specs.declared.names.NodeId.{NodeId}
use Rattle.st_marks.specs.declared.intents.Owned.{Owned}
use Rattle.st_marks.specs.declared.intents.To.{To}
use Rattle.st_marks.specs.declared.marks.Mark.{Mark}
use Rattle.st_marks.specs.declared.places.Slot.{Slot}
use Rattle.st_marks.specs.Embedding.{is_among}
use Rattle.st_marks.specs.Row.{CellMark, Counted, Gap, Touch, Make, Fill, RowPart, counted_cells, how, spread, embed_cell, embed_made, embed_cells, embed_row}
use Rattle.st_marks.specs.How.{is_here}
use Rattle.st_marks.specs.Listings.{CellView, cell_view, cells_before, cells_made}
use Rattle.st_marks.proofs.Members.{all-has, has-any, has-append}
use Rattle.st_rows.specs.Changes.{carried_cells, carried_row, made_cells}
use Rattle.st_rows.proofs.KindLaws.{spread_of}
use Rattle.st_rows.specs.Sequence.{RowFits, SeqPart, row_carried, row_change_of}
use Rattle.st_rows.specs.declared.values.RowChange.{RowChange}
use Rattle.st_rows.proofs.ViewsOfRows.{DescribeAll, IfTold}
use Rattle.st_seq.proofs.NodesOnce.{change_before}
use Rattle.st_seq.specs.NamedApart.{found_at, first_named, same_atom}
use Rattle.st_seq.specs.inside.NamedApart.{IsPlace}
use Rattle.st_seq.specs.OwnedEarly.{OwnedEarly, owned_early}
use Rattle.st_seq.specs.inside.OwnedEarly.{has_name, early_place, first_early}
use Rattle.st_seq.specs.declared.name_clashes.NamedAt.{NamedAt}
use Rattle.st_seq.proofs.NamedCells.{lesser-assoc, none_left, moved_on, same_atom-itself, same_atom-true}
use Rattle.st_lemmas.proofs.Lists.{map-append}
use Rattle.st_lemmas.proofs.Bools.{refuted-false, true-false}
use Rattle.st_marks.proofs.MarkLengths.{before-append}
use Rattle.st_rows.proofs.MarkByMark.{more_cells}
use Rattle.st_lemmas.proofs.Options.{one_some}

-- ## One mark more

first_early-append : (N M : List NamedAt) (k : ℕ) (X Y : List CellView) → first_early N M k (X ++ Y) ≡ lesser (first_early N M k X) (first_early N M (k + length X) Y)
first_early-append N M k [] Y = ap (λ j. first_early N M j Y) (omega arith)
first_early-append N M k (s ∷ X) Y =
    ap (lesser (early_place N M k s.cell s.node)) (first_early-append N M (suc k) X Y ∙ ap (λ j. lesser (first_early N M (suc k) X) (first_early N M j Y)) (moved_on k (length X)))
    ∙ sym (lesser-assoc (early_place N M k s.cell s.node) (first_early N M (suc k) X) (first_early N M (k + suc (length X)) Y))

pub early_on : (N M : List NamedAt) (ms : List Mark) (i left : ℕ) (d : Mark) (old one new : Option ℕ) → i < length ms → old ≡ first_early N M 0 (cells_before (spread (take i ms))) → left ≡ length (cells_before (spread (take i ms)))
    → one ≡ first_early N M left (cells_before (spread (get_or ms i d ∷ []))) → new ≡ lesser old one → new ≡ first_early N M 0 (cells_before (spread (take (i + 1) ms)))
early_on N M ms i left d old one new l o a e n =
    n ∙ (λ j. lesser (o j) (e j)) ∙ ap (λ k. lesser (first_early N M 0 (cells_before (spread (take i ms)))) (first_early N M k (cells_before (spread (get_or ms i d ∷ []))))) (a ∙ none_left (length (cells_before (spread (take i ms)))))
    ∙ sym (first_early-append N M 0 (cells_before (spread (take i ms))) (cells_before (spread (get_or ms i d ∷ []))))
    ∙ ap (first_early N M 0) (sym (before-append (spread (take i ms)) (spread (get_or ms i d ∷ []))) ∙ ap cells_before (sym (more_cells ms i (get_or ms i d) l (get_or_default ms i (get_or ms i d) d l))))

pub counted-early : (N M : List NamedAt) (j k : ℕ) → first_early N M k (cells_before (counted_cells j [])) ≡ None
counted-early N M zero k = refl
counted-early N M (suc j) k = counted-early N M j (suc k)

cells_made-append : (xs ys : List CellMark) → cells_made (xs ++ ys) ≡ cells_made xs ++ cells_made ys
cells_made-append [] ys = refl
cells_made-append (Counted ∷ xs) ys = cells_made-append xs ys
cells_made-append (Gap c ∷ xs) ys = cells_made-append xs ys
cells_made-append (Touch c n h ∷ xs) ys = cells_made-append xs ys
cells_made-append (Make c n b ∷ xs) ys = ap (λ l. c ∷ l) (cells_made-append xs ys)
cells_made-append (Fill c n ∷ xs) ys = cells_made-append xs ys

-- the names of cells and of nodes
abbrev cell_name : CellId → NamedAt
cell_name c = found_at c.0 0

abbrev node_name : NodeId → NamedAt
node_name n = found_at n.0 0

pub made_on : (ms : List Mark) (i : ℕ) (d : Mark) (out new one : List NamedAt) → i < length ms → out ≡ map cell_name (cells_made (spread (take i ms))) → map cell_name (cells_made (spread (get_or ms i d ∷ []))) ≡ one → new ≡ out ++ one
    → new ≡ map cell_name (cells_made (spread (take (i + 1) ms)))
made_on ms i d out new one l o e n =
    n ∙ (λ j. o j ++ sym e j) ∙ sym (map-append cell_name (cells_made (spread (take i ms))) (cells_made (spread (get_or ms i d ∷ []))))
    ∙ ap (map cell_name) (sym (cells_made-append (spread (take i ms)) (spread (get_or ms i d ∷ []))) ∙ ap cells_made (sym (more_cells ms i (get_or ms i d) l (get_or_default ms i (get_or ms i d) d l))))

pub counted-made : (j : ℕ) → map cell_name (cells_made (counted_cells j [])) ≡ []
counted-made zero = refl
counted-made (suc j) = counted-made j

pub nodes_on : (ns : List NodeId) (i : ℕ) (d : NodeId) (out new : List NamedAt) → i < length ns → out ≡ map node_name (take i ns) → new ≡ out ++ node_name (get_or ns i d) ∷ [] → new ≡ map node_name (take (i + 1) ns)
nodes_on ns i d out new l o n =
    n ∙ ap (λ m. m ++ node_name (get_or ns i d) ∷ []) o ∙ sym (map-append node_name (take i ns) (get_or ns i d ∷ []))
    ∙ ap (map node_name) (sym (take_more ns i (get_or ns i d) l ∙ ap (λ y. take i ns ++ y ∷ []) (get_or_default ns i (get_or ns i d) d l)))

-- ## What the search tells

-- at a place of what is shown, a cell of a node that is among some, and which isn't among others
abbrev pub IsEarly : List NamedAt → List NamedAt → List CellView → ℕ → Type 0
IsEarly N M X i = (c : CellId) × (n : NodeId) × (b : Bool) × (slice_get X i ≡ Some (cell_view c n b)) × (has_name N n.0 ≡ true) × (has_name M c.0 ≡ false)

abbrev OneTold : List NamedAt → List NamedAt → ℕ → CellView → Option ℕ → Type 0
OneTold N M k s None = (c : CellId) (n : NodeId) (b : Bool) → s ≡ cell_view c n b → has_name N n.0 ≡ true → has_name M c.0 ≡ false → ⊥
OneTold N M k s (Some j) = (j ≡ k) × ((c : CellId) × (n : NodeId) × (b : Bool) × (s ≡ cell_view c n b) × (has_name N n.0 ≡ true) × (has_name M c.0 ≡ false))

tell_one : (N M : List NamedAt) (k : ℕ) (s : CellView) → OneTold N M k s (early_place N M k s.cell s.node)
tell_one N M k s = go s.cell s.node refl refl
  where
    go : (o : Option CellId) (p : Option NodeId) → s.cell ≡ o → s.node ≡ p → OneTold N M k s (early_place N M k o p)
    go None p e f = λ c n b h x y. (let z : ◌≡◌ {A = Option CellId} None (Some c) = sym e ∙ ap (λ (v : CellView). v.cell) h in cc)
    go (Some a) None e f = λ c n b h x y. (let z : ◌≡◌ {A = Option NodeId} None (Some n) = sym f ∙ ap (λ (v : CellView). v.node) h in cc)
    go (Some a) (Some m) e f = by (has_name N m.0) refl (has_name M a.0) refl
      where
        by : (u : Bool) → has_name N m.0 ≡ u → (v : Bool) → has_name M a.0 ≡ v → OneTold N M k s (cond (u && not v) (Some k) None)
        by true g true i = λ c n b h x y. true-false i (ap (λ (z : CellId). has_name M z.0) (one_some a c (sym e ∙ ap (λ (v : CellView). v.cell) h)) ∙ y)
        by true g false i = (refl, (a, m, s.full, (λ j. record { cell = e j; node = f j; full = s.full }), g, i))
        by false g v i = λ c n b h x y. true-false (ap (λ (z : NodeId). has_name N z.0) (one_some m n (sym f ∙ ap (λ (v : CellView). v.node) h)) ∙ x) g

abbrev ListTold : List NamedAt → List NamedAt → ℕ → List CellView → Option ℕ → Type 0
ListTold N M k X None = (i : ℕ) → IsEarly N M X i → ⊥
ListTold N M k X (Some j) = ((i : ℕ) × (j ≡ k + i) × IsEarly N M X i) × ((i : ℕ) → IsEarly N M X i → j ≤ k + i)

tell_more : (N M : List NamedAt) (k : ℕ) (s : CellView) (X : List CellView) (p q : Option ℕ) → OneTold N M k s p → ListTold N M (suc k) X q → ListTold N M k (s ∷ X) (lesser p q)
tell_more N M k s X None None t a = none
  where
    none : (i : ℕ) → IsEarly N M (s ∷ X) i → ⊥
    none zero (c, n, b, e, x, y) = t c n b (one_some s (cell_view c n b) e) x y
    none (suc i) h = a i h
tell_more N M k s X None (Some j) t a = ((suc a.0.0, (let e = a.0.1 in omega (arith, e)), a.0.2), most)
  where
    most : (i : ℕ) → IsEarly N M (s ∷ X) i → j ≤ k + i
    most zero (c, n, b, e, x, y) = absurd (t c n b (one_some s (cell_view c n b) e) x y)
    most (suc i) h = let l = a.1 i h in omega (arith, l)
tell_more N M k s X (Some j) None t a = ((0, (let e = t.0 in omega (arith, e)), here t.1), most)
  where
    here : (c : CellId) × (n : NodeId) × (b : Bool) × (s ≡ cell_view c n b) × (has_name N n.0 ≡ true) × (has_name M c.0 ≡ false) → IsEarly N M (s ∷ X) 0
    here (c, n, b, e, x, y) = (c, n, b, ap (λ (v : CellView). Some v) e, x, y)

    most : (i : ℕ) → IsEarly N M (s ∷ X) i → j ≤ k + i
    most i h = let e = t.0 in omega (arith, e)
tell_more N M k s X (Some j) (Some l) t a = ((0, (let e = t.0 in let f = a.0.1 in omega (arith, e, f)), here t.1), most)
  where
    here : (c : CellId) × (n : NodeId) × (b : Bool) × (s ≡ cell_view c n b) × (has_name N n.0 ≡ true) × (has_name M c.0 ≡ false) → IsEarly N M (s ∷ X) 0
    here (c, n, b, e, x, y) = (c, n, b, ap (λ (v : CellView). Some v) e, x, y)

    most : (i : ℕ) → IsEarly N M (s ∷ X) i → min j l ≤ k + i
    most i h = let e = t.0 in omega (arith, e)

tell_list : (N M : List NamedAt) (k : ℕ) (X : List CellView) → ListTold N M k X (first_early N M k X)
tell_list N M k [] = λ i h. let e = h.3 in cc
tell_list N M k (s ∷ X) = tell_more N M k s X (early_place N M k s.cell s.node) (first_early N M (suc k) X) (tell_one N M k s) (tell_list N M (suc k) X)

-- ## What has a name

listed : {A : Type 0} (key : A → Atom) (xs : List A) (a : Atom) → has_name (map (λ x. found_at (key x) 0) xs) a ≡ true → (x : A) × Has xs x × (key x ≡ a)
listed {A = A} key [] a e = cc
listed {A = A} key (y ∷ ys) a e = elim (same_atom (key y) a) as (λ b. same_atom (key y) a ≡ b → is_some (cond b (Some (found_at (key y) 0)) (first_named (map (λ x. found_at (key x) 0) ys) a)) ≡ true → (x : A) × Has (y ∷ ys) x × (key x ≡ a)) [
  | true ↦ λ t f. (y, inl refl, same_atom-true (key y) a t)
  | false ↦ λ t f. (let r = listed key ys a f in (r.0, inr r.1, r.2))
] refl e

named_there : {A : Type 0} (key : A → Atom) (xs : List A) (x : A) → Has xs x → has_name (map (λ y. found_at (key y) 0) xs) (key x) ≡ true
named_there {A = A} key [] x h = absurd h
named_there {A = A} key (y ∷ ys) x (inl e) = ap (λ b. is_some (cond b (Some (found_at (key y) 0)) (first_named (map (λ z. found_at (key z) 0) ys) (key x)))) (ap (λ z. same_atom (key y) (key z)) (sym e) ∙ same_atom-itself (key y))
named_there {A = A} key (y ∷ ys) x (inr h) = elim (same_atom (key y) (key x)) as (λ b. is_some (cond b (Some (found_at (key y) 0)) (first_named (map (λ z. found_at (key z) 0) ys) (key x))) ≡ true) [ true ↦ refl | false ↦ named_there key ys x h ]

module _ (new : List NodeId) (xs ys : List CellMark) where
  names : List NamedAt
  names = map node_name new

  made : List NamedAt
  made = map cell_name (cells_made xs)

  to_owned : (k : ℕ) → IsEarly names made (cells_before ys) k → OwnedEarly new xs ys k
  unfolding names made
  to_owned k (c, n, b, e, x, y) =
      let r = listed (λ (m : NodeId). m.0) new n.0 x in
      let one : r.0 ≡ n = λ i. record { 0 = r.2 i } in
      owned_early c n b k e (subst (Has new) one r.1) (λ h. true-false (named_there (λ (d : CellId). d.0) (cells_made xs) c h) y)

  of_owned : (k : ℕ) → OwnedEarly new xs ys k → IsEarly names made (cells_before ys) k
  unfolding names made
  of_owned _ (owned_early c n b k e h none) = (
    c,
    n,
    b,
    e,
    named_there (λ (m : NodeId). m.0) new n h,
    refuted-false (has_name (map cell_name (cells_made xs)) c.0) (λ t.
        let r = listed (λ (d : CellId). d.0) (cells_made xs) c.0 t in
        let one : r.0 ≡ c = λ i. record { 0 = r.2 i } in
        none (subst (Has (cells_made xs)) one r.1)),
  )

  place_of : (o : Option ℕ) → ListTold names made 0 (cells_before ys) o → IsPlace (OwnedEarly new xs ys) o
  place_of None t = λ k w. t k (of_owned k w)
  place_of (Some j) t = (
    subst (OwnedEarly new xs ys) (let e = t.0.1 in omega (arith, e)) (to_owned t.0.0 t.0.2),
    λ l less w. (let m = t.1 l (of_owned l w) in absurd (omega (arith, less, m))),
  )

-- the search finds the first place of a cell of a new node that isn't made
pub early_is_place : (new : List NodeId) (xs ys : List CellMark) → IsPlace (OwnedEarly new xs ys) (first_early (map node_name new) (map cell_name (cells_made xs)) 0 (cells_before ys))
unfolding names made
early_is_place new xs ys = place_of new xs ys (first_early (names new xs ys) (made new xs ys) 0 (cells_before ys)) (tell_list (names new xs ys) (made new xs ys) 0 (cells_before ys))

-- ## Changes of one row

-- a described row has the cell that is shown at a place
described_at : (d : List Slot) (Y : List CellView) (k : ℕ) (c : CellId) (n : NodeId) (b : Bool) → DescribeAll d Y → slice_get Y k ≡ Some (cell_view c n b) → (s : Slot) × Has d s × (c ≡ s.cell) × (n ≡ s.node)
described_at [] [] k c n b h e = cc
described_at [] (x ∷ Y) k c n b h e = absurd h
described_at (s ∷ d) [] k c n b h e = absurd h
described_at (s ∷ d) (x ∷ Y) zero c n b h e =
    let told = subst (λ (y : CellView). IfTold y.cell s.cell × IfTold y.node s.node) (one_some x (cell_view c n b) e) (h.0.1, h.0.2) in
    (s, inl refl, told.0, told.1)
described_at (s ∷ d) (x ∷ Y) (suc k) c n b h e = let r = described_at d Y k c n b h.1 e in (r.0, inr r.1, r.2, r.3)

made_listed : (p : RowPart) (os : List Owned) (xs : List CellMark) (s : Slot) → Has (made_cells p os) s → Has (cells_made (embed_made p os ++ xs)) s.cell
made_listed p [] xs s h = absurd h
made_listed p (o ∷ os) xs s (inl e) = inl (ap (λ (t : Slot). t.cell) e)
made_listed p (o ∷ os) xs s (inr h) = inr (made_listed p os xs s h)

rest_listed : (p : RowPart) (os : List Owned) (xs : List CellMark) (a : CellId) → Has (cells_made xs) a → Has (cells_made (embed_made p os ++ xs)) a
rest_listed p [] xs a h = h
rest_listed p (o ∷ os) xs a h = inr (rest_listed p os xs a h)

-- what is found isn't made
unmade : (p : RowPart) (c : CellId) (n : NodeId) (b : Bool) (xs : List CellMark) → cells_made (embed_cell p c n b ∷ xs) ≡ cells_made xs
unmade p c n true xs = elim (p.mentioned n) as (λ b. cells_made (cond b (Touch c n (how (p.target_of n) (To.Cell c))) Counted ∷ xs) ≡ cells_made xs) [ true ↦ refl | false ↦ refl ]
unmade p c n false xs = elim (is_here (how (p.target_of n) (To.Cell c))) as (λ b. cells_made (cond b (Fill c n) (Gap c) ∷ xs) ≡ cells_made xs) [ true ↦ refl | false ↦ refl ]

-- the cell of a row has the owner of a cell of another row
abbrev IsOwnedIn : List Slot → Slot → Type 0
IsOwnedIn c s = (t : Slot) × Has c t × (t.node ≡ s.node)

cells_owned : (p : RowPart) (c : List Slot) (s : Slot) → Has (carried_cells p c) s → IsOwnedIn c s ⊎ Has (cells_made (embed_cells p c)) s.cell
cells_owned p [] s h = absurd h
cells_owned p (t ∷ c) s (inl e) = inl (t, inl refl, ap (λ (y : Slot). y.node) e)
cells_owned p (t ∷ c) s (inr h) =
    let back = subst (λ l. Has l s.cell) (sym (unmade p t.cell t.node t.full (embed_made p (p.new_cells (Some t.cell)) ++ embed_cells p c))) in
    elim (has-append (made_cells p (p.new_cells (Some t.cell))) (carried_cells p c) s h) [
      | inl w ↦ inr (back (made_listed p (p.new_cells (Some t.cell)) (embed_cells p c) s w))
      | inr w ↦ (elim (cells_owned p c s w) [
        | inl r ↦ inl (r.0, inr r.1, r.2)
        | inr r ↦ inr (back (rest_listed p (p.new_cells (Some t.cell)) (embed_cells p c) s.cell r))
      ])
    ]

-- a cell after a change has the owner of one that was there, or is made
row_owned : (p : RowPart) (c : List Slot) (s : Slot) → Has (carried_row p c) s → IsOwnedIn c s ⊎ Has (cells_made (embed_row p c)) s.cell
row_owned p c s h = elim (has-append (made_cells p (p.new_cells None)) (carried_cells p c) s h) [
  | inl w ↦ inr (made_listed p (p.new_cells None) (embed_cells p c) s w)
  | inr w ↦ (elim (cells_owned p c s w) [ inl r ↦ inl r | inr r ↦ inr (rest_listed p (p.new_cells None) (embed_cells p c) s.cell r) ])
]

-- two changes in turn
pub never_early : (p q : SeqPart) (c : List Slot) (x y : RowChange) → RowFits p c → x ≡ row_change_of p c → RowFits q (row_carried p false c) → y ≡ row_change_of q (row_carried p false c) → (k : ℕ) → OwnedEarly x.new (spread x.marks) (spread y.marks) k → ⊥
never_early p q c x y w e v f _ (owned_early a n b k at has none) =
    let s = described_at (row_carried p false c) (cells_before (spread y.marks)) k a n b (change_before q (row_carried p false c) y v f) at in
    elim (row_owned p.part c s.0 s.1) [
      | inl r ↦
          (let new : Has p.new n = subst (λ l. Has l n) (ap (λ (z : RowChange). z.new) e) has in
          let old : is_among p.new r.0.node ≡ false = all-has (λ (t : Slot). is_among p.new t.node ≡ false) c r.0 w.old r.1 in
          true-false (has-any (λ (m : NodeId). same_node m n) p.new n new (same_node-itself n)) (ap (is_among p.new) (s.3 ∙ sym r.2) ∙ old))
      | inr r ↦ none (subst (λ l. Has (cells_made l) a) (sym (spread_of x.marks (embed_row p.part c) (ap (λ (z : RowChange). z.marks) e))) (subst (Has (cells_made (embed_row p.part c))) (sym s.2) r))
    ]
