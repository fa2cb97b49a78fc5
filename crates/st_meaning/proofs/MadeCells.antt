-- The cells that the marks of an embedding make are those of the intent's groups.
use Rattle.std.proofs.Common.{◌≡◌, ◌≢◌, ℕ, ◌+◌, ◌-◌, ◌<◌, ◌≤◌, ◌==◌, Bool, true, false, cond, List, [], ◌∷◌, ◌++◌, map, length, min, Option, Some, None, option_map, slice_get, refl, sym, ap, ◌∙◌, subst, inl, inr, append_assoc, arith, IfSome}
use Rattle.std.specs.List.{flat_map, list_any}
use Rattle.std.proofs.Math.Nat.{min-eq_left}
use Rattle.std.proofs.Math.Seq.{get_or-append_seam}
use Rattle.std.proofs.lemmas.Bool.Decides.{nat_tests}
use Rattle.std.proofs.lemmas.Option.{slice_get-get_or}
use Rattle.st_ids.specs.Listing.{AreDistinct, Has, item_of}
use Rattle.st_ids.specs.Order.{node_cmp, same_cell, same_node}
use Rattle.st_ids.specs.declared.names.CellId.{CellId}
use Rattle.st_ids.specs.declared.names.NodeId.{NodeId}
use Rattle.st_ids.proofs.Listings.{has-item_of, item_of-has}
use Rattle.st_ids.proofs.Orders.{node_cmp_exact, node_cmp_total, same_cell-itself, same_cell-true, same_node-itself, same_node-true}
use Rattle.st_ids.proofs.Shared.{no_members}
use Rattle.st_marks.specs.declared.changes.Change.{Change}
use Rattle.st_marks.specs.declared.intents.Group.{Group}
use Rattle.st_marks.specs.declared.intents.Intent.{Intent}
use Rattle.st_marks.specs.declared.intents.Owned.{Owned}
use Rattle.st_marks.specs.declared.intents.To.{To}
use Rattle.st_marks.specs.declared.marks.Mark.{Mark}
use Rattle.st_marks.specs.declared.marks.RowMarks.{RowMarks}
use Rattle.st_marks.specs.Document.{Document, IsSoundInForm, content, owned_cell, slot}
use Rattle.st_marks.specs.Embedding.{IsEmbedding, row_part, tells}
use Rattle.st_marks.specs.How.{is_here}
use Rattle.st_marks.specs.Intent.{Fits, IsKnown, group_at, same_anchor}
use Rattle.st_marks.specs.Row.{CellMark, Counted, Gap, Touch, Make, Fill, RowPart, embed_cell, embed_cells, embed_made, embed_row, how, merge, skip_one, spread}
use Rattle.st_marks.proofs.Lookups.{group_at-group}
use Rattle.st_marks.proofs.Members.{all-has, map-has}
use Rattle.st_puts.proofs.MeaningFits.{rising_distinct}
use Rattle.st_told.proofs.MarksOfARow.{after_tells, start_tells}
use Rattle.st_lemmas.proofs.Bools.{refuted-false, true-false}
use Rattle.st_lemmas.proofs.Lists.{length-append}
use Rattle.st_lemmas.proofs.Options.{one_some}
use Rattle.st_meaning.specs.inside.Made.{anchor_in, at_anchor, made_from, made_in_row, next_in}

-- ## Merged and laid out again

spread-skip_one : (ms : List Mark) → spread (skip_one ms) ≡ Counted ∷ spread ms
spread-skip_one [] = refl
spread-skip_one (Mark.Skip k ∷ ms) = refl
spread-skip_one (Mark.Gap c ∷ ms) = refl
spread-skip_one (Mark.Touch c n x ∷ ms) = refl
spread-skip_one (Mark.Make c n b ∷ ms) = refl
spread-skip_one (Mark.Fill c n ∷ ms) = refl

spread-merge : (cells : List CellMark) → spread (merge cells) ≡ cells
spread-merge [] = refl
spread-merge (Counted ∷ ms) = spread-skip_one (merge ms) ∙ ap (λ l. Counted ∷ l) (spread-merge ms)
spread-merge (Gap c ∷ ms) = ap (λ l. Gap c ∷ l) (spread-merge ms)
spread-merge (Touch c n h ∷ ms) = ap (λ l. Touch c n h ∷ l) (spread-merge ms)
spread-merge (Make c n b ∷ ms) = ap (λ l. Make c n b ∷ l) (spread-merge ms)
spread-merge (Fill c n ∷ ms) = ap (λ l. Fill c n ∷ l) (spread-merge ms)

-- ## Along a row

abbrev with_anchor : Option CellId → List Owned → List (Option CellId × Owned)
with_anchor a os = map (λ (o : Owned). (a, o)) os

made-before : (cells : List Owned) (i : ℕ) (p : RowPart) (os : List Owned) (ms : List CellMark) → made_from cells i (embed_made p os ++ ms) ≡ with_anchor (anchor_in cells i) os ++ made_from cells i ms
made-before cells i p [] ms = refl
made-before cells i p (o ∷ os) ms = ap (λ l. (anchor_in cells i, o) ∷ l) (made-before cells i p os ms)

made-cell : (cells : List Owned) (i : ℕ) (p : RowPart) (c : CellId) (n : NodeId) (full : Bool) (ms : List CellMark) → made_from cells i (embed_cell p c n full ∷ ms) ≡ made_from cells (next_in cells i 1) ms
made-cell cells i p c n true ms = elim (p.mentioned n) as (λ b. made_from cells i (cond b (Touch c n (how (p.target_of n) (To.Cell c))) Counted ∷ ms) ≡ made_from cells (next_in cells i 1) ms) [ true ↦ refl | false ↦ refl ]
made-cell cells i p c n false ms = elim (is_here (how (p.target_of n) (To.Cell c))) as (λ b. made_from cells i (cond b (Fill c n) (Gap c) ∷ ms) ≡ made_from cells (next_in cells i 1) ms) [ true ↦ refl | false ↦ refl ]

-- what is made behind each of some cells
abbrev behind : RowPart → List Owned → List (Option CellId × Owned)
behind p os = flat_map (λ (o : Owned). with_anchor (Some o.cell) (p.new_cells (Some o.cell))) os

one-more : (pre post : List Owned) (o : Owned) → min (length pre + 1) (length (pre ++ o ∷ post)) ≡ length (pre ++ o ∷ [])
one-more pre post o =
    let a = length-append pre (o ∷ post) in
    let b = length-append pre (o ∷ []) in
    let l : length pre + 1 ≤ length (pre ++ o ∷ post) = omega (arith, a) in
    let e : length pre + 1 ≡ length (pre ++ o ∷ []) = omega (arith, b) in
    min-eq_left l ∙ e

at-more : (pre post : List Owned) (o : Owned) (i : ℕ) → i ≡ length pre + 1 → anchor_in (pre ++ o ∷ post) i ≡ Some o.cell
at-more pre post o i e =
    let l : length pre < length (pre ++ o ∷ post) = let a = length-append pre (o ∷ post) in omega (arith, a) in
    let some : (i == 0) ≡ false = refuted-false (i == 0) (λ t. let z : i ≡ 0 = grind (arith, nat_tests) in omega (arith, z, e)) in
    let before : i - 1 ≡ length pre = omega (arith, e) in
    ap (λ b. cond b None (option_map (λ (o : Owned). o.cell) (slice_get (pre ++ o ∷ post) (i - 1)))) some
    ∙ ap (λ k. option_map (λ (o : Owned). o.cell) (slice_get (pre ++ o ∷ post) k)) before
    ∙ ap (option_map (λ (o : Owned). o.cell)) (slice_get-get_or (pre ++ o ∷ post) (length pre) o l ∙ ap (λ z. Some z) (get_or-append_seam pre o post o))

made-cells : (D : Document) (p : RowPart) (cells pre post : List Owned) (i : ℕ) → cells ≡ pre ++ post → i ≡ length pre → made_from cells i (embed_cells p (map (slot D) post)) ≡ behind p post
made-cells D p cells pre [] i e f = refl
made-cells D p cells pre (o ∷ post) i e f =
    let next : next_in cells i 1 ≡ length (pre ++ o ∷ []) = (λ j. min (f j + 1) (length (e j))) ∙ one-more pre post o in
    let len : length (pre ++ o ∷ []) ≡ length pre + 1 = length-append pre (o ∷ []) in
    let here : anchor_in cells (length (pre ++ o ∷ [])) ≡ Some o.cell = ap (λ l. anchor_in l (length (pre ++ o ∷ []))) e ∙ at-more pre post o (length (pre ++ o ∷ [])) len in
    let os = p.new_cells (Some o.cell) in
    let s = slot D o in
    made-cell cells i p s.cell s.node s.full (embed_made p os ++ embed_cells p (map (slot D) post))
    ∙ ap (λ j. made_from cells j (embed_made p os ++ embed_cells p (map (slot D) post))) next
    ∙ made-before cells (length (pre ++ o ∷ [])) p os (embed_cells p (map (slot D) post))
    ∙ (λ j. with_anchor (here j) os ++ made-cells D p cells (pre ++ o ∷ []) post (length (pre ++ o ∷ [])) (e ∙ sym (append_assoc pre (o ∷ []) post)) refl j)

-- a whole row: at its start, and behind each of its cells
made-row : (D : Document) (p : RowPart) (cells : List Owned) → made_from cells 0 (embed_row p (map (slot D) cells)) ≡ with_anchor None (p.new_cells None) ++ behind p cells
made-row D p cells = made-before cells 0 p (p.new_cells None) (embed_cells p (map (slot D) cells)) ∙ ap (λ l. with_anchor None (p.new_cells None) ++ l) (made-cells D p cells [] cells 0 refl refl)

-- ## At one place

at-here : (a b : Option CellId) (os : List Owned) (ps : List (Option CellId × Owned)) → same_anchor b a ≡ true → at_anchor a (with_anchor b os ++ ps) ≡ os ++ at_anchor a ps
at-here a b [] ps e = refl
at-here a b (o ∷ os) ps e = ap (λ t. cond t (o ∷ at_anchor a (with_anchor b os ++ ps)) (at_anchor a (with_anchor b os ++ ps))) e ∙ ap (λ l. o ∷ l) (at-here a b os ps e)

at-other : (a b : Option CellId) (os : List Owned) (ps : List (Option CellId × Owned)) → same_anchor b a ≡ false → at_anchor a (with_anchor b os ++ ps) ≡ at_anchor a ps
at-other a b [] ps e = refl
at-other a b (o ∷ os) ps e = ap (λ t. cond t (o ∷ at_anchor a (with_anchor b os ++ ps)) (at_anchor a (with_anchor b os ++ ps))) e ∙ at-other a b os ps e

start-only : (p : RowPart) (os : List Owned) → at_anchor None (behind p os) ≡ []
start-only p [] = refl
start-only p (o ∷ os) = at-other None (Some o.cell) (p.new_cells (Some o.cell)) (behind p os) refl ∙ start-only p os

nowhere-else : (p : RowPart) (c : CellId) (os : List Owned) → ((o : Owned) → Has os o → o.cell ≢ c) → at_anchor (Some c) (behind p os) ≡ []
nowhere-else p c [] f = refl
nowhere-else p c (o ∷ os) f =
    at-other (Some c) (Some o.cell) (p.new_cells (Some o.cell)) (behind p os) (refuted-false (same_cell o.cell c) (λ t. f o (inl refl) (same_cell-true o.cell c t)))
    ∙ nowhere-else p c os (λ q h. f q (inr h))

append-nil : {A : Type 0} (xs : List A) → xs ++ [] ≡ xs
append-nil [] = refl
append-nil (x ∷ xs) = ap (λ l. x ∷ l) (append-nil xs)

behind-one : (p : RowPart) (o : Owned) (os : List Owned) → AreDistinct (λ (o : Owned). o.cell) os → Has os o → at_anchor (Some o.cell) (behind p os) ≡ p.new_cells (Some o.cell)
behind-one p o [] d h = absurd h
behind-one p o (q ∷ os) d (inl e) =
    subst (λ (o : Owned). at_anchor (Some o.cell) (behind p (q ∷ os)) ≡ p.new_cells (Some o.cell)) e (
    at-here (Some q.cell) (Some q.cell) (p.new_cells (Some q.cell)) (behind p os) (same_cell-itself q.cell)
    ∙ ap (λ l. p.new_cells (Some q.cell) ++ l) (nowhere-else p q.cell os (λ z h. all-has (λ (z : Owned). z.cell ≢ q.cell) os z d.0 h)) ∙ append-nil (p.new_cells (Some q.cell)))
behind-one p o (q ∷ os) d (inr h) =
    at-other (Some o.cell) (Some q.cell) (p.new_cells (Some q.cell)) (behind p os) (refuted-false (same_cell q.cell o.cell) (λ t. all-has (λ (z : Owned). z.cell ≢ q.cell) os o d.0 h (sym (same_cell-true q.cell o.cell t))))
    ∙ behind-one p o os d.1 h

-- ## Of all rows

flat-none : {A B : Type 0} (f : A → List B) (xs : List A) → ((x : A) → Has xs x → f x ≡ []) → flat_map f xs ≡ []
flat-none f [] h = refl
flat-none f (x ∷ xs) h = (λ i. h x (inl refl) i ++ flat-none f xs (λ y j. h y (inr j)) i)

flat-one : {A B K : Type 0} (f : A → List B) (key : A → K) (xs : List A) (x : A) → AreDistinct key xs → Has xs x → ((y : A) → Has xs y → key y ≢ key x → f y ≡ []) → flat_map f xs ≡ f x
flat-one f key [] x d h n = absurd h
flat-one f key (y ∷ xs) x d (inl e) n = ap (λ l. f y ++ l) (flat-none f xs (λ z h. n z (inr h) (λ q. all-has (λ z. key z ≢ key y) xs z d.0 h (q ∙ ap key (sym e))))) ∙ append-nil (f y) ∙ ap f e
flat-one f key (y ∷ xs) x d (inr h) n = (λ i. n y (inl refl) (λ q. all-has (λ z. key z ≢ key y) xs x d.0 h (sym q)) i ++ flat-one f key xs x d.1 h (λ z j. n z (inr j)) i)

if_some : {A : Type 0} (o : Option A) (P : A → Type 0) (x : A) → o ≡ Some x → IfSome o P → P x
if_some o P x e h = rw e at h

module _ (D : Document) (N : Intent) (C : Change) (x : IsSoundInForm D) (f : Fits D N) (e : IsEmbedding D N C) where
  abbrev part : NodeId → RowPart
  part n = row_part e.mentioned N n

  abbrev marks : NodeId → List CellMark
  marks n = embed_row (part n) (content D n)

  abbrev key : RowMarks → NodeId
  key r = r.node

  -- a listed row has the marks of the intent
  row-is : (r : RowMarks) → Has C.rows r → spread r.marks ≡ marks r.node
  row-is r h = go (list_any tells (marks r.node)) (sym (has-item_of node_cmp node_cmp_total node_cmp_exact key C.rows r e.rows.rising h) ∙ e.rows.at_each r.node)
    where
      go : (b : Bool) → ◌≡◌ {A = Option RowMarks} (Some r) (cond b (Some (record { node = r.node; marks = merge (marks r.node) })) None) → spread r.marks ≡ marks r.node
      go false q = cc
      go true q = ap (λ (r : RowMarks). spread r.marks) (one_some r (record { node = r.node; marks = merge (marks r.node) }) q) ∙ spread-merge (marks r.node)

  -- a cell behind which something is made is in the row
  cell-there : (n : NodeId) (c : CellId) (o : Owned) → Has (group_at N n (Some c)) o → (q : Owned) × Has (D.rows n) q × (q.cell ≡ c)
  cell-there n c o h =
      let g = group_at-group N n (Some c) o h in
      let known = all-has (λ (g : Group). IsKnown D N g.node × IfSome g.after (λ c. D.row_of c ≡ Some g.node)) N.groups g.group f.groups_known g.listed in
      let row : D.row_of c ≡ Some n = if_some g.group.after (λ c. D.row_of c ≡ Some g.group.node) c g.after known.1 ∙ ap (λ n. Some n) g.node in
      let there = (x.one_row c n).0 row in
      (owned_cell c there.0, there.1, refl)

  -- nothing is made behind a cell that has no group
  at-none : (n : NodeId) (c : CellId) → group_at N n (Some c) ≡ [] → (os : List Owned) → at_anchor (Some c) (behind (part n) os) ≡ []
  at-none n c q [] = refl
  at-none n c q (o ∷ os) = go (same_cell o.cell c) refl (at-none n c q os)
    where
      go : (b : Bool) → same_cell o.cell c ≡ b → at_anchor (Some c) (behind (part n) os) ≡ [] → at_anchor (Some c) (behind (part n) (o ∷ os)) ≡ []
      go false t rest = at-other (Some c) (Some o.cell) (group_at N n (Some o.cell)) (behind (part n) os) t ∙ rest
      go true t rest = at-here (Some c) (Some o.cell) (group_at N n (Some o.cell)) (behind (part n) os) t
          ∙ (λ i. (ap (λ d. group_at N n (Some d)) (same_cell-true o.cell c t) ∙ q) i ++ rest i)

  -- what the marks of a listed row make at a place
  row-makes : (n : NodeId) (a : Option CellId) → at_anchor a (made_from (D.rows n) 0 (marks n)) ≡ group_at N n a
  row-makes n None = ap (at_anchor None) (made-row D (part n) (D.rows n)) ∙ at-here None None (group_at N n None) (behind (part n) (D.rows n)) refl
      ∙ ap (λ l. group_at N n None ++ l) (start-only (part n) (D.rows n)) ∙ append-nil (group_at N n None)
  row-makes n (Some c) = ap (at_anchor (Some c)) (made-row D (part n) (D.rows n)) ∙ at-other (Some c) None (group_at N n None) (behind (part n) (D.rows n)) refl ∙ go (group_at N n (Some c)) refl
    where
      go : (os : List Owned) → group_at N n (Some c) ≡ os → at_anchor (Some c) (behind (part n) (D.rows n)) ≡ group_at N n (Some c)
      go (o ∷ os) q =
          let t = cell-there n c o (subst (λ (l : List Owned). Has l o) (sym q) (inl refl)) in
          subst (λ (c : CellId). at_anchor (Some c) (behind (part n) (D.rows n)) ≡ group_at N n (Some c)) t.2 (behind-one (part n) t.0 (D.rows n) (x.once n) t.1)
      go [] q = at-none n c q (D.rows n) ∙ sym q

  -- where the row isn't listed nothing is made
  none-made : (n : NodeId) (a : Option CellId) → list_any tells (marks n) ≡ false → group_at N n a ≡ []
  none-made n None t = no_members (group_at N n None) (λ o h. true-false (start_tells (part n) (content D n) o h) t)
  none-made n (Some c) t = no_members (group_at N n (Some c)) (λ o h.
      let q = cell-there n c o h in
      let i : Has (group_at N n (Some q.0.cell)) o = subst (λ (d : CellId). Has (group_at N n (Some d)) o) (sym q.2) h in
      true-false (after_tells (part n) (content D n) (slot D q.0) o (map-has (slot D) (D.rows n) q.0 q.1) i) t)

  other-row : (n : NodeId) (a : Option CellId) (r : RowMarks) → r.node ≢ n → made_in_row D n a r ≡ []
  other-row n a r h = ap (λ b. cond b (at_anchor a (made_from (D.rows r.node) 0 (spread r.marks))) []) (refuted-false (same_node r.node n) (λ t. h (same_node-true r.node n t)))

  -- what all rows make at a place is the intent's group there
  pub made-exact : (n : NodeId) (a : Option CellId) → flat_map (made_in_row D n a) C.rows ≡ group_at N n a
  made-exact n a = go (item_of node_cmp key C.rows n) refl
    where
      listed : (b : Bool) → list_any tells (marks n) ≡ b → ◌≡◌ {A = Option RowMarks} None (cond b (Some (record { node = n; marks = merge (marks n) })) None) → list_any tells (marks n) ≡ false
      listed true t q = cc
      listed false t q = t

      not-none : (r : RowMarks) → ◌≡◌ {A = Option RowMarks} None (Some r) → ⊥
      not-none r q = cc

      go : (q : Option RowMarks) → item_of node_cmp key C.rows n ≡ q → flat_map (made_in_row D n a) C.rows ≡ group_at N n a
      go None q =
          flat-none (made_in_row D n a) C.rows (λ r h. other-row n a r (λ i. not-none r (sym q ∙ ap (item_of node_cmp key C.rows) (sym i) ∙ has-item_of node_cmp node_cmp_total node_cmp_exact key C.rows r e.rows.rising h)))
          ∙ sym (none-made n a (listed (list_any tells (marks n)) refl (sym q ∙ e.rows.at_each n)))
      go (Some r) q =
          let i = item_of-has node_cmp node_cmp_total node_cmp_exact key C.rows n r q in
          flat-one (made_in_row D n a) key C.rows r (rising_distinct node_cmp node_cmp_total key C.rows e.rows.rising) i.0 (λ y h d. other-row n a y (λ j. d (j ∙ sym i.1)))
          ∙ ap (λ b. cond b (at_anchor a (made_from (D.rows r.node) 0 (spread r.marks))) []) (ap (same_node r.node) (sym i.1) ∙ same_node-itself r.node)
          ∙ ap (λ ms. at_anchor a (made_from (D.rows r.node) 0 ms)) (row-is r i.0)
          ∙ ap (λ k. at_anchor a (made_from (D.rows k) 0 (marks k))) i.1
          ∙ row-makes n a
