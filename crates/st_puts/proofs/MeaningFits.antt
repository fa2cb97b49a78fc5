-- The intent of a change that obeys the rules, over a document in which it finds what is so, obeys the rules on intents and fits.
use Rattle.std.proofs.Common.{◌≡◌, ◌≢◌, ◌++◌, Bool, true, false, List, [], ◌∷◌, Option, Some, None, IsSome, IsTrue, cond, refl, sym, ap, ◌∙◌, subst, inl, inr, ◌⊎◌, is_some, option_map}
use Rattle.std.specs.Cmp.{IsTotalOrder}
use Rattle.std.specs.FinMap.Entries.{below_all}
use Rattle.std.specs.List.{filter_map, find, flat_map}
use Rattle.std.specs.Ordering.{is_lt, ordering_reverse}
use Rattle.std.specs.declared.cmp.Ordering.{Ordering}
use Rattle.std.specs.declared.cmp.Ordering.TheVariants.{Less, Equal, Greater}
use Rattle.st_ids.specs.Listing.{AreDistinct, Has, IsRising, key_pairs}
use Rattle.st_ids.specs.Order.{node_cmp, field_cmp, same_node}
use Rattle.st_ids.proofs.Orders.{node_cmp_total, field_cmp_total, same_node-true, same_node-itself}
use Rattle.st_ids.specs.declared.names.CellId.{CellId}
use Rattle.st_ids.specs.declared.names.NodeId.{NodeId}
use Rattle.st_marks.specs.declared.changes.Change.{Change}
use Rattle.st_marks.specs.declared.changes.NewNode.{NewNode}
use Rattle.st_marks.specs.declared.intents.Group.{Group}
use Rattle.st_marks.specs.declared.intents.Intent.{Intent}
use Rattle.st_marks.specs.declared.intents.Owned.{Owned}
use Rattle.st_marks.specs.declared.intents.To.{To}
use Rattle.st_normal.specs.declared.entries.Found.{Found}
use Rattle.st_marks.specs.declared.marks.How.{How}
use Rattle.st_marks.specs.declared.marks.How.TheVariants.{Here, Leave}
use Rattle.st_marks.specs.declared.marks.RegMark.{RegMark}
use Rattle.st_marks.specs.declared.marks.RowMarks.{RowMarks}
use Rattle.st_marks.specs.declared.places.Slot.{Slot}
use Rattle.st_marks.specs.Document.{Document, IsSoundInForm, content, owned_cell, slot}
use Rattle.st_ids.specs.Root.{root}
use Rattle.st_marks.specs.Intent.{group_cells, is_new, new_row_of, put_of}
use Rattle.st_marks.specs.Row.{CellMark, Counted, Gap, Touch, Make, Fill, spread}
use Rattle.st_marks.specs.How.{is_here, is_stay}
use Rattle.st_normal.specs.Rules.{IsFound, IsFoundAs, Entries, ObeysDataRules, hole_owners, in_rows, entries_of_change}
use Rattle.st_marks.specs.Listings.{cells_before, cells_in, cells_made, nodes_new}
use Rattle.st_marks.proofs.Lookups.{group-new_row_of}
use Rattle.st_marks.proofs.Members.{all-has, has-all, append_left, has-append, map-has, has-map, flat_map-has, has-flat_map, first-has, none-has}
use Rattle.st_puts.specs.Seen.{AreAsSeen}
use Rattle.st_puts.specs.Meant.{Along, IsOver, along, group_of, groups_along, groups_of, made_first, meant_intent, put_to, row_puts}
use Rattle.st_puts.specs.ChangeMentions.{moving_nodes}
use Rattle.st_puts.proofs.MentionsOfIntents.{moving-has}
use Rattle.st_puts.proofs.MentionsListed.{moved-put}
use Rattle.st_puts.proofs.PutsOfIntents.{put-is, one_mark, mark-cell}
use Rattle.st_puts.proofs.Groups.{along-has, distinct-flat, anchor_key, start_once, group-cases}
use Rattle.st_lemmas.proofs.Bools.{true-false, and-true}
use Rattle.st_ids.proofs.Shared.{filter-from}

-- ## Rising lists have each name once

not-below : (o : Ordering) → o ≡ ordering_reverse o → is_lt o ≡ false
not-below Less e = cc
not-below Equal e = refl
not-below Greater e = cc

module _ {K A : Type 0} (R : K → K → Ordering) (t : IsTotalOrder R) (key : A → K) where
  below-has : (k : K) (xs : List A) (y : A) → below_all R k (key_pairs key xs) ≡ true → Has xs y → is_lt (R k (key y)) ≡ true
  below-has k [] y e h = absurd h
  below-has k (z ∷ xs) y e (inl q) = subst (λ z. is_lt (R k (key z)) ≡ true) q (and-true _ _ e).0
  below-has k (z ∷ xs) y e (inr h) = below-has k xs y (and-true _ _ e).1 h

  pub rising_distinct : (xs : List A) → IsRising R key xs → AreDistinct key xs
  rising_distinct [] r = tt
  rising_distinct (y ∷ xs) r = let q = and-true _ _ r in (
    has-all (λ z. key z ≢ key y) xs (λ z h e. let a = below-has (key y) xs z q.0 h in let b : is_lt (R (key y) (key z)) ≡ false = ap (λ k. is_lt (R (key y) k)) e ∙ not-below (R (key y) (key y)) (t.antisymm (key y) (key y)) in true-false a b),
    rising_distinct xs q.1,
  )

-- ## What is made

pub first-made : (ms : List CellMark) (p : Owned) → Has (made_first ms) p → (b : Bool) × Has ms (Make p.cell p.node b)
first-made [] p i = absurd i
first-made (Counted ∷ ms) p i = absurd i
first-made (Gap c ∷ ms) p i = absurd i
first-made (Touch c n h ∷ ms) p i = absurd i
first-made (Make c n b ∷ ms) p (inl q) = (b, inl (λ i. Make (q i).cell (q i).node b))
first-made (Make c n b ∷ ms) p (inr i) = let r = first-made ms p i in (r.0, inr r.1)
first-made (Fill c n ∷ ms) p i = absurd i

-- all cells that are made
abbrev pub made_all : List CellMark → List Owned
made_all [] = []
made_all (Counted ∷ ms) = made_all ms
made_all (Gap c ∷ ms) = made_all ms
made_all (Touch c n h ∷ ms) = made_all ms
made_all (Make c n b ∷ ms) = owned_cell c n ∷ made_all ms
made_all (Fill c n ∷ ms) = made_all ms

pub all-made : (ms : List CellMark) (p : Owned) → Has (made_all ms) p → (b : Bool) × Has ms (Make p.cell p.node b)
all-made [] p i = absurd i
all-made (Counted ∷ ms) p i = let r = all-made ms p i in (r.0, inr r.1)
all-made (Gap c ∷ ms) p i = let r = all-made ms p i in (r.0, inr r.1)
all-made (Touch c n h ∷ ms) p i = let r = all-made ms p i in (r.0, inr r.1)
all-made (Make c n b ∷ ms) p (inl q) = (b, inl (λ i. Make (q i).cell (q i).node b))
all-made (Make c n b ∷ ms) p (inr i) = let r = all-made ms p i in (r.0, inr r.1)
all-made (Fill c n ∷ ms) p i = let r = all-made ms p i in (r.0, inr r.1)

pub made-all : (ms : List CellMark) (c : CellId) (n : NodeId) (b : Bool) → Has ms (Make c n b) → Has (made_all ms) (owned_cell c n)
made-all [] c n b i = absurd i
made-all (Counted ∷ ms) c n b (inl q) = cc
made-all (Counted ∷ ms) c n b (inr i) = made-all ms c n b i
made-all (Gap d ∷ ms) c n b (inl q) = cc
made-all (Gap d ∷ ms) c n b (inr i) = made-all ms c n b i
made-all (Touch d m h ∷ ms) c n b (inl q) = cc
made-all (Touch d m h ∷ ms) c n b (inr i) = made-all ms c n b i
made-all (Make d m f ∷ ms) c n b (inl q) = let y : d ≡ c = cc in let z : m ≡ n = cc in inl (λ i. owned_cell (y i) (z i))
made-all (Make d m f ∷ ms) c n b (inr i) = inr (made-all ms c n b i)
made-all (Fill d m ∷ ms) c n b (inl q) = cc
made-all (Fill d m ∷ ms) c n b (inr i) = made-all ms c n b i

made-distinct : (ms : List CellMark) → AreDistinct (λ (c : CellId). c) (cells_in ms) → AreDistinct (λ (p : Owned). p.cell) (made_all ms)
made-distinct [] d = tt
made-distinct (Counted ∷ ms) d = made-distinct ms d
made-distinct (Gap c ∷ ms) d = made-distinct ms d.1
made-distinct (Touch c n h ∷ ms) d = made-distinct ms d.1
made-distinct (Make c n b ∷ ms) d = (has-all (λ (p : Owned). p.cell ≢ c) (made_all ms) (λ p h. let r = all-made ms p h in all-has (λ e. e ≢ c) (cells_in ms) p.cell d.0 (mark-cell ms (Make p.cell p.node r.0) p.cell r.1 refl)), made-distinct ms d.1)
made-distinct (Fill c n ∷ ms) d = made-distinct ms d.1

abbrev cells_of_group : Group → List Owned
cells_of_group g = g.cells

flat-append : {A B : Type 0} (f : A → List B) (xs ys : List A) → flat_map f (xs ++ ys) ≡ flat_map f xs ++ flat_map f ys
flat-append f [] ys = refl
flat-append f (x ∷ xs) ys = ap (λ l. f x ++ l) (flat-append f xs ys) ∙ sym (assoc (f x) (flat_map f xs) (flat_map f ys))
  where
    assoc : {B : Type 0} (xs ys zs : List B) → (xs ++ ys) ++ zs ≡ xs ++ (ys ++ zs)
    assoc [] ys zs = refl
    assoc (x ∷ xs) ys zs = ap (λ l. x ∷ l) (assoc xs ys zs)

flat-flat : {A B E : Type 0} (f : B → List E) (g : A → List B) (xs : List A) → flat_map f (flat_map g xs) ≡ flat_map (λ x. flat_map f (g x)) xs
flat-flat f g [] = refl
flat-flat f g (x ∷ xs) = flat-append f (g x) (flat_map g xs) ∙ ap (λ l. flat_map f (g x) ++ l) (flat-flat f g xs)

group-flat : (n : NodeId) (a : Option CellId) (os : List Owned) → flat_map cells_of_group (group_of n a os) ≡ os
group-flat n a [] = refl
group-flat n a (p ∷ os) = nil (p ∷ os)
  where
    nil : {B : Type 0} (xs : List B) → xs ++ [] ≡ xs
    nil [] = refl
    nil (x ∷ xs) = ap (λ l. x ∷ l) (nil xs)

pub append-assoc : {B : Type 0} (xs ys zs : List B) → (xs ++ ys) ++ zs ≡ xs ++ (ys ++ zs)
append-assoc [] ys zs = refl
append-assoc (x ∷ xs) ys zs = ap (λ l. x ∷ l) (append-assoc xs ys zs)

-- the groups of a row make what its marks make
groups-made : (n : NodeId) (c : List Slot) (ms : List CellMark) → AreAsSeen c (cells_before ms) → made_first ms ++ flat_map cells_of_group (groups_along n (along c ms)) ≡ made_all ms
groups-made n [] [] p = refl
groups-made n (s ∷ c) [] p = absurd p
groups-made n c (Make d m b ∷ ms) p = ap (λ l. owned_cell d m ∷ l) (groups-made n c ms p)
groups-made n [] (Counted ∷ ms) p = absurd p
groups-made n (s ∷ c) (Counted ∷ ms) p = flat-append cells_of_group (group_of n (Some s.cell) (made_first ms)) (groups_along n (along c ms)) ∙ ap (λ l. l ++ flat_map cells_of_group (groups_along n (along c ms))) (group-flat n (Some s.cell) (made_first ms)) ∙ groups-made n c ms p.1
groups-made n [] (Gap d ∷ ms) p = absurd p
groups-made n (s ∷ c) (Gap d ∷ ms) p = flat-append cells_of_group (group_of n (Some s.cell) (made_first ms)) (groups_along n (along c ms)) ∙ ap (λ l. l ++ flat_map cells_of_group (groups_along n (along c ms))) (group-flat n (Some s.cell) (made_first ms)) ∙ groups-made n c ms p.1
groups-made n [] (Touch d m h ∷ ms) p = absurd p
groups-made n (s ∷ c) (Touch d m h ∷ ms) p = flat-append cells_of_group (group_of n (Some s.cell) (made_first ms)) (groups_along n (along c ms)) ∙ ap (λ l. l ++ flat_map cells_of_group (groups_along n (along c ms))) (group-flat n (Some s.cell) (made_first ms)) ∙ groups-made n c ms p.1
groups-made n [] (Fill d m ∷ ms) p = absurd p
groups-made n (s ∷ c) (Fill d m ∷ ms) p = flat-append cells_of_group (group_of n (Some s.cell) (made_first ms)) (groups_along n (along c ms)) ∙ ap (λ l. l ++ flat_map cells_of_group (groups_along n (along c ms))) (group-flat n (Some s.cell) (made_first ms)) ∙ groups-made n c ms p.1

along-made : (c : List Slot) (ms : List CellMark) (t : Along) (p : Owned) → Has (along c ms) t → Has t.made p → (b : Bool) × Has ms (Make p.cell p.node b)
along-made c [] t p i j = absurd i
along-made c (Make d m b ∷ ms) t p i j = let r = along-made c ms t p i j in (r.0, inr r.1)
along-made [] (Counted ∷ ms) t p i j = absurd i
along-made (s ∷ c) (Counted ∷ ms) t p (inl q) j = let r = first-made ms p (subst (λ (t : Along). Has t.made p) (sym q) j) in (r.0, inr r.1)
along-made (s ∷ c) (Counted ∷ ms) t p (inr i) j = let r = along-made c ms t p i j in (r.0, inr r.1)
along-made [] (Gap d ∷ ms) t p i j = absurd i
along-made (s ∷ c) (Gap d ∷ ms) t p (inl q) j = let r = first-made ms p (subst (λ (t : Along). Has t.made p) (sym q) j) in (r.0, inr r.1)
along-made (s ∷ c) (Gap d ∷ ms) t p (inr i) j = let r = along-made c ms t p i j in (r.0, inr r.1)
along-made [] (Touch d m h ∷ ms) t p i j = absurd i
along-made (s ∷ c) (Touch d m h ∷ ms) t p (inl q) j = let r = first-made ms p (subst (λ (t : Along). Has t.made p) (sym q) j) in (r.0, inr r.1)
along-made (s ∷ c) (Touch d m h ∷ ms) t p (inr i) j = let r = along-made c ms t p i j in (r.0, inr r.1)
along-made [] (Fill d m ∷ ms) t p i j = absurd i
along-made (s ∷ c) (Fill d m ∷ ms) t p (inl q) j = let r = first-made ms p (subst (λ (t : Along). Has t.made p) (sym q) j) in (r.0, inr r.1)
along-made (s ∷ c) (Fill d m ∷ ms) t p (inr i) j = let r = along-made c ms t p i j in (r.0, inr r.1)

group_of-some : (n : NodeId) (a : Option CellId) (os : List Owned) (g : Group) → Has (group_of n a os) g → g.cells ≢ []
group_of-some n a [] g h e = absurd h
group_of-some n a (p ∷ os) g (inl q) e = not-nil p os (ap (λ (g : Group). g.cells) q ∙ e)
  where
    not-nil : (p : Owned) (os : List Owned) → p ∷ os ≡ [] → ⊥
    not-nil p os e = cc
group_of-some n a (p ∷ os) g (inr h) e = absurd h

hole-owner : (ms : List CellMark) (c : CellId) (n : NodeId) → Has ms (Make c n false) → Has (hole_owners ms) n
hole-owner [] c n i = absurd i
hole-owner (Counted ∷ ms) c n (inl q) = cc
hole-owner (Counted ∷ ms) c n (inr i) = hole-owner ms c n i
hole-owner (Gap d ∷ ms) c n (inl q) = cc
hole-owner (Gap d ∷ ms) c n (inr i) = hole-owner ms c n i
hole-owner (Touch d m h ∷ ms) c n (inl q) = cc
hole-owner (Touch d m h ∷ ms) c n (inr i) = hole-owner ms c n i
hole-owner (Make d m b ∷ ms) c n (inl q) = let a : m ≡ n = cc in let e : b ≡ false = cc in subst (λ b. Has (cond b [] (m ∷ []) ++ hole_owners ms) n) (sym e) (inl a)
hole-owner (Make d m b ∷ ms) c n (inr i) = elim b as (λ b. Has (cond b [] (m ∷ []) ++ hole_owners ms) n) [ true ↦ hole-owner ms c n i | false ↦ inr (hole-owner ms c n i) ]
hole-owner (Fill d m ∷ ms) c n (inl q) = cc
hole-owner (Fill d m ∷ ms) c n (inr i) = hole-owner ms c n i

pub make-made : (ms : List CellMark) (c : CellId) (n : NodeId) (b : Bool) → Has ms (Make c n b) → Has (cells_made ms) c
make-made [] c n b i = absurd i
make-made (Counted ∷ ms) c n b (inl q) = cc
make-made (Counted ∷ ms) c n b (inr i) = make-made ms c n b i
make-made (Gap d ∷ ms) c n b (inl q) = cc
make-made (Gap d ∷ ms) c n b (inr i) = make-made ms c n b i
make-made (Touch d m h ∷ ms) c n b (inl q) = cc
make-made (Touch d m h ∷ ms) c n b (inr i) = make-made ms c n b i
make-made (Make d m f ∷ ms) c n b (inl q) = let y : d ≡ c = cc in inl y
make-made (Make d m f ∷ ms) c n b (inr i) = inr (make-made ms c n b i)
make-made (Fill d m ∷ ms) c n b (inl q) = cc
make-made (Fill d m ∷ ms) c n b (inr i) = make-made ms c n b i

-- a name that an item has is found only there
pub once-filter_map : {A K J : Type 0} (g : A → Option K) (name : A → J) (xs : List A) → AreDistinct name xs → ((y z : A) (k : K) → Has xs y → Has xs z → g y ≡ Some k → g z ≡ Some k → name z ≡ name y) → AreDistinct (λ (k : K). k) (filter_map g xs)
once-filter_map g name [] d h = tt
once-filter_map {A} {K} {J} g name (y ∷ xs) d h = go (g y) refl (once-filter_map g name xs d.1 (λ a b k i j. h a b k (inr i) (inr j)))
  where
    go : (o : Option K) → g y ≡ o → AreDistinct (λ (k : K). k) (filter_map g xs) → AreDistinct (λ (k : K). k) (filter_map g (y ∷ xs))
    go None e rest = rw e rest
    go (Some k) e rest = rw e (has-all (λ j. j ≢ k) (filter_map g xs) (λ j i q. let z = filter-from g xs j i in all-has (λ z. name z ≢ name y) xs z.0 d.0 z.1 (h y z.0 k (inl refl) (inr z.1) e (z.2 ∙ ap (λ k. Some k) q))), rest)

-- a full cell that is made is a put
pub make-put : (ms : List CellMark) (c : CellId) (n : NodeId) → Has ms (Make c n true) → Has (row_puts ms) (put_to n (To.Cell c))
make-put [] c n k = absurd k
make-put (Counted ∷ ms) c n (inl q) = cc
make-put (Counted ∷ ms) c n (inr k) = make-put ms c n k
make-put (Gap d ∷ ms) c n (inl q) = cc
make-put (Gap d ∷ ms) c n (inr k) = make-put ms c n k
make-put (Touch d m h ∷ ms) c n (inl q) = cc
make-put (Touch d m h ∷ ms) c n (inr k) = elim (is_here h) as (λ b. Has (cond b (put_to m (To.Cell d) ∷ row_puts ms) (row_puts ms)) (put_to n (To.Cell c))) [ true ↦ inr (make-put ms c n k) | false ↦ make-put ms c n k ]
make-put (Make d m b ∷ ms) c n (inl q) = let y : d ≡ c = cc in let z : m ≡ n = cc in let e : b ≡ true = cc in subst (λ b. Has (cond b (put_to m (To.Cell d) ∷ row_puts ms) (row_puts ms)) (put_to n (To.Cell c))) (sym e) (inl (λ i. put_to (z i) (To.Cell (y i))))
make-put (Make d m b ∷ ms) c n (inr k) = elim b as (λ b. Has (cond b (put_to m (To.Cell d) ∷ row_puts ms) (row_puts ms)) (put_to n (To.Cell c))) [ true ↦ inr (make-put ms c n k) | false ↦ make-put ms c n k ]
make-put (Fill d m ∷ ms) c n (inl q) = cc
make-put (Fill d m ∷ ms) c n (inr k) = inr (make-put ms c n k)

module _ (D : Document) (C : Change) (x : IsSoundInForm D) (w : ObeysDataRules C) (o : IsOver D C) (plain : C.schema ≡ None) where
  abbrev L : Entries
  L = entries_of_change C

  abbrev N : Intent
  N = meant_intent D C

  pub rows_once : AreDistinct (λ (r : RowMarks). r.node) C.rows
  rows_once = rising_distinct node_cmp node_cmp_total (λ (r : RowMarks). r.node) C.rows w.rising.rows

  pub regs_once : AreDistinct (λ (r : RegMark). r.field) C.regs
  regs_once = rising_distinct field_cmp field_cmp_total (λ (r : RegMark). r.field) C.regs w.rising.regs

  pub new_once : AreDistinct (λ (m : NewNode). m.node) C.new
  new_once = rising_distinct node_cmp node_cmp_total (λ (m : NewNode). m.node) C.new w.rising.new

  -- ## New nodes

  pub new-is : (n : NodeId) → Has (nodes_new C.new) n → is_new N n ≡ true
  new-is n h = let m = has-map (λ (m : NewNode). m.node) C.new n h in go (find (λ (m : NewNode). same_node m.node n) C.new) refl m.0 m.1 m.2
    where
      go : (q : Option NewNode) → find (λ (m : NewNode). same_node m.node n) C.new ≡ q → (m : NewNode) → Has C.new m → m.node ≡ n → is_new N n ≡ true
      go None e m i f = absurd (true-false (ap (λ k. same_node k n) f ∙ same_node-itself n) (none-has (λ (m : NewNode). same_node m.node n) C.new m e i))
      go (Some k) e m i f = rw e refl

  pub is-new : (n : NodeId) → is_new N n ≡ true → Has (nodes_new C.new) n
  is-new n h = go (find (λ (m : NewNode). same_node m.node n) C.new) refl h
    where
      go : (q : Option NewNode) → find (λ (m : NewNode). same_node m.node n) C.new ≡ q → is_some (option_map (λ (m : NewNode). let t : Rattle.st_marks.specs.Document.NodeType = record { ty = m.ty; leaf = m.leaf } in t) q) ≡ true → Has (nodes_new C.new) n
      go None e f = cc
      go (Some m) e f = let r = first-has (λ (m : NewNode). same_node m.node n) C.new m e in subst (Has (nodes_new C.new)) (same_node-true m.node n r.1) (map-has (λ (m : NewNode). m.node) C.new m r.0)

  pub found-old : (n : NodeId) → IsFound L n → Has (nodes_new C.new) n → ⊥
  found-old n f i = (all-has (λ (n : NodeId). (n ≢ root) × (IsFound L n → ⊥)) L.new n w.common.new_not_found i).1 f

  pub moving-found : (n : NodeId) → Has (moving_nodes L.found) n → IsFound L n
  moving-found n i = let f = moving-has L.found n i in subst (IsFound L) f.2 (map-has (λ (f : Found). f.node) L.found f.0 f.1)

  -- ## Groups

  pub group-nonempty : (g : Group) → Has N.groups g → g.cells ≢ []
  group-nonempty g h = let r = has-flat_map (groups_of D) C.rows g h in elim (has-append (group_of r.0.node None (made_first (spread r.0.marks))) (groups_along r.0.node (along (content D r.0.node) (spread r.0.marks))) g r.2) [
    | inl i ↦ group_of-some r.0.node None (made_first (spread r.0.marks)) g i
    | inr i ↦ (let t = has-flat_map (λ (t : Along). group_of r.0.node (Some t.slot.cell) t.made) (along (content D r.0.node) (spread r.0.marks)) g i in group_of-some r.0.node (Some t.0.slot.cell) t.0.made g t.2)
  ]

  -- a cell of a group is made in the row
  pub group-cell : (g : Group) (p : Owned) → Has N.groups g → Has g.cells p → (r : RowMarks) × (b : Bool) × Has C.rows r × Has (spread r.marks) (Make p.cell p.node b) × (g.node ≡ r.node)
  group-cell g p h i = let r = group-cases D C x w o rows_once g h in elim r.2 [
    | inl k ↦ (let m = first-made (spread r.0.marks) p (subst (λ (g : Group). Has g.cells p) k i) in (r.0, m.0, r.1, m.1, ap (λ (g : Group). g.node) k))
    | inr k ↦ (let m = along-made (content D r.0.node) (spread r.0.marks) k.0 p k.1 (subst (λ (g : Group). Has g.cells p) k.2 i) in (r.0, m.0, r.1, m.1, ap (λ (g : Group). g.node) k.2))
  ]

  pub cell-made : (p : Owned) → Has (group_cells N) p → (r : RowMarks) × (b : Bool) × Has C.rows r × Has (spread r.marks) (Make p.cell p.node b)
  cell-made p h = let g = has-flat_map (λ (g : Group). g.cells) N.groups p h in let r = group-cell g.0 p g.1 g.2 in (r.0, r.1, r.2, r.3)

  pub made-new : (r : RowMarks) (c : CellId) (n : NodeId) (b : Bool) → Has C.rows r → Has (spread r.marks) (Make c n b) → D.row_of c ≡ None
  made-new r c n b i j = o.new_cells c (flat_map-has (λ (r : RowMarks). cells_made (spread r.marks)) C.rows r c i (make-made (spread r.marks) c n b j))

  row-flat : (rs : List RowMarks) → ((r : RowMarks) → Has rs r → Has C.rows r) → flat_map (λ (r : RowMarks). flat_map cells_of_group (groups_of D r)) rs ≡ flat_map (λ (r : RowMarks). made_all (spread r.marks)) rs
  row-flat [] sub = refl
  row-flat (r ∷ rs) sub =
      ap (λ l. l ++ flat_map (λ (r : RowMarks). flat_map cells_of_group (groups_of D r)) rs)
      (flat-append cells_of_group (group_of r.node None (made_first (spread r.marks))) (groups_along r.node (along (content D r.node) (spread r.marks)))
      ∙ ap (λ l. l ++ flat_map cells_of_group (groups_along r.node (along (content D r.node) (spread r.marks)))) (group-flat r.node None (made_first (spread r.marks)))
      ∙ groups-made r.node (content D r.node) (spread r.marks) (o.rows r (sub r (inl refl))))
      ∙ ap (λ l. made_all (spread r.marks) ++ l) (row-flat rs (λ q h. sub q (inr h)))

  pub group-cells : group_cells N ≡ flat_map (λ (r : RowMarks). made_all (spread r.marks)) C.rows
  group-cells = flat-flat cells_of_group (groups_of D) C.rows ∙ row-flat C.rows (λ r h. h)

  pub cell_once : AreDistinct (λ (p : Owned). p.cell) (group_cells N)
  cell_once = subst (AreDistinct (λ (p : Owned). p.cell)) (sym group-cells) (distinct-flat (λ (p : Owned). p.cell) (λ (r : RowMarks). made_all (spread r.marks)) (λ (r : RowMarks). r.node) C.rows rows_once
      (λ r i. made-distinct (spread r.marks) (Rattle.st_marks.proofs.Members.list_distinct (λ (r : RowMarks). cells_in (spread r.marks)) (λ (c : CellId). c) C.rows r w.common.cells_once i))
      (λ r q a b i j h k e. let m = all-made (spread r.marks) a h in let n = all-made (spread q.marks) b k in
      ap (λ (r : RowMarks). r.node) (sym (one_mark D C x w o r q (Make a.cell a.node m.0) (Make b.cell b.node n.0) a.cell i j m.1 n.1 refl (ap (λ c. Some c) e)).0)))

  -- an anchor is in the row
  pub anchor-row : (g : Group) (c : CellId) → Has N.groups g → g.after ≡ Some c → D.row_of c ≡ Some g.node
  anchor-row g c h e = let r = group-cases D C x w o rows_once g h in elim r.2 [
    | inl k ↦ (let bad : None ≡ Some c = sym (ap (λ (g : Group). g.after) k) ∙ e in cc)
    | inr k ↦ (let s = (along-has (content D r.0.node) (spread r.0.marks) (o.rows r.0 r.1) k.0 k.1).0 in
        let p = has-map (slot D) (D.rows r.0.node) k.0.slot s in
        let cell : p.0.cell ≡ c = ap (λ (s : Slot). s.cell) p.2 ∙ some-cell (sym (ap (λ (g : Group). g.after) k.2) ∙ e) in
        (x.one_row c r.0.node).1 (p.0.node, subst (λ d. Has (D.rows r.0.node) (owned_cell d p.0.node)) cell p.1) ∙ ap (λ n. Some n) (sym (ap (λ (g : Group). g.node) k.2)))
  ]
    where
      some-cell : {a b : CellId} → ◌≡◌ {A = Option CellId} (Some a) (Some b) → a ≡ b
      some-cell q = cc

  some-node : {a b : NodeId} → ◌≡◌ {A = Option NodeId} (Some a) (Some b) → a ≡ b
  some-node q = cc

  pub anchor_once : AreDistinct (λ c. c) (filter_map (λ (g : Group). g.after) N.groups)
  anchor_once = once-filter_map (λ (g : Group). g.after) anchor_key N.groups (start_once D C x w o rows_once)
      (λ g k c i j e f. λ t. (some-node (sym (anchor-row k c j f) ∙ anchor-row g c i e) t, (f ∙ sym e) t))

  pub new_row-none : (c : CellId) (n : NodeId) → D.row_of c ≡ Some n → new_row_of N c ≡ None
  new_row-none c n e = go (new_row_of N c) refl
    where
      go : (q : Option NodeId) → new_row_of N c ≡ q → q ≡ None
      go None f = refl
      go (Some m) f =
          let g = group-new_row_of N c m f in
          let r = group-cell g.0 g.3.0 g.1 g.3.1 in
          let bad : None ≡ Some n = sym (made-new r.0 g.3.0.cell g.3.0.node r.1 r.2 r.3) ∙ ap D.row_of g.3.2 ∙ e in cc

  put-some : (n : NodeId) (t : To) → Has N.put (put_to n t) → IsSome (put_of N n)
  put-some n t h = rw (put-is D C x w o n t h) refl

  found-put : (n : NodeId) (h : How) → IsFoundAs L n h → is_stay h ≡ false → IsSome (put_of N n)
  found-put n h i e = let p = moved-put D C x w o (record { node = n; how = h }) i e in put-some n p.0 p.1

  pub put-row : (r : RowMarks) (c : CellId) (n : NodeId) → Has C.rows r → Has (row_puts (spread r.marks)) (put_to n (To.Cell c)) → Has N.put (put_to n (To.Cell c))
  put-row r c n i j = append_left (flat_map (λ (r : RowMarks). row_puts (spread r.marks)) C.rows) _ (put_to n (To.Cell c)) (flat_map-has (λ (r : RowMarks). row_puts (spread r.marks)) C.rows r (put_to n (To.Cell c)) i j)

  pub make-owner : (r : RowMarks) (c : CellId) (n : NodeId) (b : Bool) → Has C.rows r → Has (spread r.marks) (Make c n b) → IsTrue (is_new N n) ⊎ IsSome (put_of N n)
  make-owner r c n true i j = inr (put-some n (To.Cell c) (put-row r c n i (make-put (spread r.marks) c n j)))
  make-owner r c n false i j = elim (all-has (λ (n : NodeId). Has (nodes_new C.new) n ⊎ IsFoundAs L n Here ⊎ IsFoundAs L n Leave) (in_rows hole_owners C.rows) n w.holes (flat_map-has (λ (r : RowMarks). hole_owners (spread r.marks)) C.rows r n i (hole-owner (spread r.marks) c n j))) [
    | inl h ↦ inl (new-is n h)
    | inr a ↦ elim a [ inl h ↦ inr (found-put n Here h refl) | inr h ↦ inr (found-put n Leave h refl) ]
  ]
