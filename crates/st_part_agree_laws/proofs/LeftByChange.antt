-- What a change leaves is so in the document after it, carried out whole.
use Rattle.std.proofs.Common.{◌≡◌, ◌≢◌, ℕ, zero, suc, Bool, true, false, ◌||◌, not, List, [], ◌∷◌, ◌++◌, map, slice_get, Option, Some, None, IsSome, option_map, cond, refl, sym, ap, ◌∙◌, subst, inl, inr}
use Rattle.std.specs.List.{flat_map, list_any}
use Rattle.std.specs.Option.{option_or}
use Rattle.st_ids.specs.Listing.{Has, item_of}
use Rattle.st_ids.specs.Order.{field_cmp, node_cmp, same_node}
use Rattle.st_ids.proofs.Listings.{has-item_of}
use Rattle.st_ids.proofs.Orders.{field_cmp_exact, field_cmp_total, node_cmp_exact, node_cmp_total, same_node-itself}
use Rattle.st_ids.specs.declared.names.CellId.{CellId}
use Rattle.st_ids.specs.declared.names.FieldId.{FieldId}
use Rattle.st_ids.specs.declared.names.NodeId.{NodeId}
use Rattle.st_marks.specs.declared.changes.Change.{Change}
use Rattle.st_marks.specs.declared.intents.Intent.{Intent}
use Rattle.st_marks.specs.declared.intents.Owned.{Owned}
use Rattle.st_marks.specs.declared.intents.To.{To}
use Rattle.st_marks.specs.declared.marks.How.{How}
use Rattle.st_marks.specs.declared.marks.How.TheVariants.{Here, Leave, Stay}
use Rattle.st_marks.specs.declared.marks.Loose.{Loose}
use Rattle.st_marks.specs.declared.marks.RegMark.{RegMark}
use Rattle.st_marks.specs.declared.marks.RowMarks.{RowMarks}
use Rattle.st_marks.specs.declared.places.Slot.{Slot}
use Rattle.st_marks.specs.declared.places.Spot.{Spot}
use Rattle.st_marks.specs.CarryOut.{full, place_after, unless_cleared, unless_put, with_names}
use Rattle.st_marks.specs.Document.{Document, IsSoundInForm, content, is_cell, owned_cell, slot}
use Rattle.st_marks.specs.Embedding.{IsEmbedding, is_among, row_marks, row_part, tells}
use Rattle.st_marks.specs.Intent.{Fits, clears, put_in, put_of}
use Rattle.st_marks.specs.Register.{holds_mentioned}
use Rattle.st_marks.specs.Row.{CellMark, Counted, Fill, Gap, Make, RowPart, Touch, embed_made, embed_row, how, merge, spread}
use Rattle.st_marks.specs.Listings.{CellView, Listing, Places, cell_view, cells_after, cells_before, held_after, listing_after_change, nodes_loose, nodes_new, nodes_standing, one_or_none, placed_after, placed_before, placed_in_register, placed_in_row, placed_nowhere}
use Rattle.st_marks.proofs.Climb.{is_cell-true, unknown_nowhere}
use Rattle.st_marks.proofs.Full.{full_one_held, known_put, put_to_cell}
use Rattle.st_marks.proofs.Lookups.{put-has, put_clears, put_in-has}
use Rattle.st_marks.proofs.Members.{append_left, append_right, flat_map-has, has-any, has-append, has-flat_map, has-map, map-has}
use Rattle.st_marks.proofs.NewRows.{old_cell, one_row_each, owns_in_row}
use Rattle.st_lemmas.proofs.Bools.{and-both, and-true, true-false}
use Rattle.st_lemmas.proofs.Options.{None-IsSome}
use Rattle.st_rows.specs.Changes.{StandsIn, carried_row, made_cells}
use Rattle.st_rows.proofs.DocumentsAfter.{whole_row}
use Rattle.st_rows.proofs.KindLaws.{spread-merge}
use Rattle.st_rows.proofs.ViewsOfRows.{DescribeAll, Describes, change_leaves}
use Rattle.st_puts.proofs.FoundPlaces.{held_place}
use Rattle.st_puts.proofs.ListedIf.{shown-Some}
use Rattle.st_puts.proofs.OverDocuments.{embedding_over, reg-look}
use Rattle.st_puts.proofs.PutsInMarks.{cleared-listed, put-in-cell, put-mentioned, row-how}
use Rattle.st_agree_laws.proofs.NamesApart.{among-has, change_makes_new}
use Rattle.st_agree_laws.proofs.ShownTruth.{IsTrueOf}
use Rattle.st_part_agree_laws.proofs.LeftRegisters.{left_held, mark}

-- ## What marks leave

-- a row that is listed, or is that of a new node
told-row : (c : List Slot) (n : NodeId) (marks : List CellMark) (new : Bool) (o : Option RowMarks) (cells : List CellView) → o ≡ row_marks n marks
    → option_or (option_map (λ (r : RowMarks). cells_after (spread r.marks)) o) (cond new (Some []) None) ≡ Some cells
    → DescribeAll c (cells_after marks) → (new ≡ true → list_any tells marks ≡ false → c ≡ []) → DescribeAll c cells
told-row c n marks new o cells e f h bare = go (list_any tells marks) refl (sym (ap (λ o. option_or (option_map (λ (r : RowMarks). cells_after (spread r.marks)) o) (cond new (Some []) None)) e) ∙ f)
  where
    go : (b : Bool) → list_any tells marks ≡ b → option_or (option_map (λ (r : RowMarks). cells_after (spread r.marks)) (cond b (Some (record { node = n; marks = merge marks })) None)) (cond new (Some []) None) ≡ Some cells → DescribeAll c cells
    go true w q = let k : cells_after (spread (merge marks)) ≡ cells = cc in subst (DescribeAll c) (sym (ap cells_after (spread-merge marks)) ∙ k) h
    go false w q = at new refl q
      where
        at : (v : Bool) → new ≡ v → cond v (Some []) None ≡ Some cells → DescribeAll c cells
        at true u p = let k : ◌≡◌ {A = List CellView} [] cells = cc in subst (DescribeAll c) k (subst (λ d. DescribeAll d []) (sym (bare u w)) tt)
        at false u p = cc

-- a row without cells, of which nothing is told, stays so
bare-row : (p : RowPart) (c : List Slot) → c ≡ [] → list_any tells (embed_row p c) ≡ false → carried_row p c ≡ []
bare-row p c e f = ap (carried_row p) e ∙ go (p.new_cells None) (ap (λ c. list_any tells (embed_row p c)) (sym e) ∙ f)
  where
    go : (os : List Owned) → list_any tells (embed_made p os ++ []) ≡ false → made_cells p os ++ [] ≡ []
    go [] f = refl
    go (o ∷ os) f = cc

-- a register that is listed, or is one of a new node
told-register : (new b : Bool) (r : RegMark) (i : Option RegMark) (h o : Option NodeId) → i ≡ cond b (Some r) None → held_after r ≡ h
    → option_or (option_map held_after i) (cond new (Some None) None) ≡ Some o → (new ≡ true → b ≡ false → h ≡ None) → h ≡ o
told-register new b r i h o e a f bare = go b refl (sym (ap (λ i. option_or (option_map held_after i) (cond new (Some None) None)) e) ∙ f)
  where
    some : {x y : Option NodeId} → ◌≡◌ {A = Option (Option NodeId)} (Some x) (Some y) → x ≡ y
    some {x} q = ap at q
      where
        at : Option (Option NodeId) → Option NodeId
        at None = x
        at (Some z) = z

    none : (v : Bool) → new ≡ v → b ≡ false → cond v (Some None) None ≡ Some o → h ≡ o
    none true u w p = bare u w ∙ some p
    none false u w p = cc

    go : (v : Bool) → b ≡ v → option_or (option_map held_after (cond v (Some r) None)) (cond new (Some None) None) ≡ Some o → h ≡ o
    go true w q = sym a ∙ some q
    go false w q = none new refl w q

standing-slot : (c : List Slot) (n : NodeId) → StandsIn n c → (s : Slot) × Has c s × (s.node ≡ n)
standing-slot [] n h = absurd h
standing-slot (s ∷ c) n (inl w) = (s, inl refl, w.0)
standing-slot (s ∷ c) n (inr h) = let r = standing-slot c n h in (r.0, inr r.1, r.2)

-- who stands before is touched
standing-touched : (xs : List CellMark) (n : NodeId) → Has (nodes_standing (cells_before xs)) n → (a : CellId) × (h : How) × Has xs (Touch a n h)
standing-touched [] n i = absurd i
standing-touched (Counted ∷ xs) n i = let r = standing-touched xs n i in (r.0, r.1, inr r.2)
standing-touched (Gap c ∷ xs) n i = let r = standing-touched xs n i in (r.0, r.1, inr r.2)
standing-touched (Touch c k h ∷ xs) n (inl e) = (c, h, inl (ap (λ y. Touch c y h) e))
standing-touched (Touch c k h ∷ xs) n (inr i) = let r = standing-touched xs n i in (r.0, r.1, inr r.2)
standing-touched (Make c k b ∷ xs) n i = let r = standing-touched xs n i in (r.0, r.1, inr r.2)
standing-touched (Fill c k ∷ xs) n i = let r = standing-touched xs n i in (r.0, r.1, inr r.2)

-- and whoever is touched stands before
pub touched-standing : (xs : List CellMark) (a : CellId) (n : NodeId) (h : How) → Has xs (Touch a n h) → Has (nodes_standing (cells_before xs)) n
touched-standing [] a n h i = absurd i
touched-standing (z ∷ xs) a n h (inl e) = subst (λ y. Has (nodes_standing (cells_before (y ∷ xs))) n) (sym e) (inl refl)
touched-standing (Counted ∷ xs) a n h (inr i) = touched-standing xs a n h i
touched-standing (Gap c ∷ xs) a n h (inr i) = touched-standing xs a n h i
touched-standing (Touch c k g ∷ xs) a n h (inr i) = inr (touched-standing xs a n h i)
touched-standing (Make c k b ∷ xs) a n h (inr i) = touched-standing xs a n h i
touched-standing (Fill c k ∷ xs) a n h (inr i) = touched-standing xs a n h i

-- who stands after some marks stands after them and one before them
standing-later : (z : CellMark) (xs : List CellMark) (n : NodeId) → Has (nodes_standing (cells_after xs)) n → Has (nodes_standing (cells_after (z ∷ xs))) n
standing-later Counted xs n i = i
standing-later (Gap c) xs n i = i
standing-later (Touch c k Stay) xs n i = inr i
standing-later (Touch c k Here) xs n i = inr i
standing-later (Touch c k Leave) xs n i = i
standing-later (Make c k true) xs n i = inr i
standing-later (Make c k false) xs n i = i
standing-later (Fill c k) xs n i = inr i

-- a mark after which a node stands
data Sets (n : NodeId) : CellMark → Type 0 where
  stays : (c : CellId) → Sets n (Touch c n Stay)
  is_set : (c : CellId) → Sets n (Touch c n Here)
  is_made : (c : CellId) → Sets n (Make c n true)
  fills : (c : CellId) → Sets n (Fill c n)

set-standing : (xs : List CellMark) (n : NodeId) (y : CellMark) → Sets n y → Has xs y → Has (nodes_standing (cells_after xs)) n
set-standing [] n y s h = absurd h
set-standing (z ∷ xs) n y s (inl e) = subst (λ y. Has (nodes_standing (cells_after (y ∷ xs))) n) (sym e) (first y s)
  where
    first : (y : CellMark) → Sets n y → Has (nodes_standing (cells_after (y ∷ xs))) n
    first y (stays c) = inl refl
    first y (is_set c) = inl refl
    first y (is_made c) = inl refl
    first y (fills c) = inl refl
set-standing (z ∷ xs) n y s (inr h) = standing-later z xs n (set-standing xs n y s h)

-- who stands after marks is seen there
standing-seen : (xs : List CellMark) (n : NodeId) → Has (nodes_standing (cells_after xs)) n → (k : ℕ) × (c : CellId) × (slice_get (cells_after xs) k ≡ Some (cell_view c n true))
standing-seen [] n i = absurd i
standing-seen (Counted ∷ xs) n i = let r = standing-seen xs n i in (suc r.0, r.1, r.2)
standing-seen (Gap c ∷ xs) n i = let r = standing-seen xs n i in (suc r.0, r.1, r.2)
standing-seen (Touch c k Stay ∷ xs) n (inl e) = (zero, c, ap (λ y. Some (cell_view c y true)) e)
standing-seen (Touch c k Stay ∷ xs) n (inr i) = let r = standing-seen xs n i in (suc r.0, r.1, r.2)
standing-seen (Touch c k Here ∷ xs) n (inl e) = (zero, c, ap (λ y. Some (cell_view c y true)) e)
standing-seen (Touch c k Here ∷ xs) n (inr i) = let r = standing-seen xs n i in (suc r.0, r.1, r.2)
standing-seen (Touch c k Leave ∷ xs) n i = let r = standing-seen xs n i in (suc r.0, r.1, r.2)
standing-seen (Make c k true ∷ xs) n (inl e) = (zero, c, ap (λ y. Some (cell_view c y true)) e)
standing-seen (Make c k true ∷ xs) n (inr i) = let r = standing-seen xs n i in (suc r.0, r.1, r.2)
standing-seen (Make c k false ∷ xs) n i = let r = standing-seen xs n i in (suc r.0, r.1, r.2)
standing-seen (Fill c k ∷ xs) n (inl e) = (zero, c, ap (λ y. Some (cell_view c y true)) e)
standing-seen (Fill c k ∷ xs) n (inr i) = let r = standing-seen xs n i in (suc r.0, r.1, r.2)

-- a cell that is seen at a place is the slot there
pub described-at : (c : List Slot) (xs : List CellView) (k : ℕ) (v : CellView) → DescribeAll c xs → slice_get xs k ≡ Some v → (s : Slot) × Has c s × Describes s v
described-at [] [] k v p e = cc
described-at [] (y ∷ xs) k v p e = absurd p
described-at (s ∷ c) [] k v p e = absurd p
described-at (s ∷ c) (y ∷ xs) zero v p e = (s, inl refl, subst (Describes s) (some e) p.0)
  where
    some : {a b : CellView} → ◌≡◌ {A = Option CellView} (Some a) (Some b) → a ≡ b
    some {a = a} q = ap at q
      where
        at : Option CellView → CellView
        at None = a
        at (Some z) = z
described-at (s ∷ c) (y ∷ xs) (suc k) v p e = let r = described-at c xs k v p.1 e in (r.0, inr r.1, r.2)

is-one : (o : Option NodeId) (n : NodeId) → o ≡ Some n → Has (one_or_none o) n
is-one o n e = subst (λ o. Has (one_or_none o) n) (sym e) (inl refl)

one-is : (o : Option NodeId) (n : NodeId) → Has (one_or_none o) n → o ≡ Some n
one-is None n h = absurd h
one-is (Some k) n (inl e) = ap (λ y. Some y) e
one-is (Some k) n (inr h) = absurd h

pub has-among : (ns : List NodeId) (n : NodeId) → Has ns n → is_among ns n ≡ true
has-among ns n h = has-any (λ k. same_node k n) ns n h (same_node-itself n)

-- a node that isn't there has no cells
no-cells : (D : Document) → IsSoundInForm D → (n : NodeId) → D.nodes n ≡ None → content D n ≡ []
no-cells D x n e = go (D.rows n) refl
  where
    go : (os : List Owned) → D.rows n ≡ os → map (slot D) os ≡ []
    go [] f = refl
    go (o ∷ os) f = absurd (None-IsSome (D.nodes n) e (x.cells_known n o (subst (λ l. Has l o) (sym f) (inl refl))).0)

unless_cleared-row : (N : Intent) (s : Spot) (n : NodeId) (c : CellId) → unless_cleared N s ≡ Spot.Row n c → s ≡ Spot.Row n c
unless_cleared-row N Spot.Nowhere n c e = e
unless_cleared-row N (Spot.Row r d) n c e = e
unless_cleared-row N (Spot.Register g) n c e = elim (clears N g) as (λ b. cond b Spot.Nowhere (Spot.Register g) ≡ Spot.Row n c → Spot.Register g ≡ Spot.Row n c) [ true ↦ λ e. cc | false ↦ λ e. cc ] e

module _ (D : Document) (N : Intent) (C : Change) (x : IsSoundInForm D) (f : Fits D N) (emb : IsEmbedding D N C) where
  abbrev F : Document
  F = full D N

  abbrev m : NodeId → Bool
  m = emb.mentioned

  abbrev part : NodeId → RowPart
  part n = row_part m N n

  abbrev L : Listing
  L = listing_after_change C

  -- those that are new or listed before, and those that are placed after
  abbrev pub there : List NodeId
  there = nodes_new C.new ++ nodes_loose C.loose ++ placed_before C.rows (map (λ (r : RegMark). r.held) C.regs)

  abbrev placed : List NodeId
  placed = placed_after C.rows (map held_after C.regs)

  new-unknown : (n : NodeId) → is_among (nodes_new C.new) n ≡ true → D.nodes n ≡ None
  new-unknown n e = f.fresh_nodes n (change_makes_new D N C x f emb n e)

  -- ## Rows

  puts-mentioned : (r n : NodeId) → StandsIn n (content D r) → put_of N n ≢ None → m n ≡ true
  puts-mentioned r n h put = go (put_of N n) refl
    where
      known : IsSome (D.nodes n)
      known =
          let s = standing-slot (content D r) n h in
          let o = has-map (slot D) (D.rows r) s.0 s.1 in
          subst (λ y. IsSome (D.nodes y)) (ap (λ (t : Slot). t.node) o.2 ∙ s.2) (x.cells_known r o.0 o.1).1

      go : (t : Option To) → put_of N n ≡ t → m n ≡ true
      go None e = absurd (put e)
      go (Some t) e = put-mentioned D N C x f emb n t e known

  row-after : (n : NodeId) → content F n ≡ carried_row (part n) (content D n)
  row-after n = whole_row D N n x f (part n) (λ a. refl) (λ k. refl)

  row-true : (n : NodeId) (cells : List CellView) → L.row n ≡ Some cells → DescribeAll (content F n) cells
  row-true n cells e = told-row (content F n) n (embed_row (part n) (content D n)) (is_among (nodes_new C.new) n) (item_of node_cmp (λ (r : RowMarks). r.node) C.rows n) cells (emb.rows.at_each n) e
      (subst (λ c. DescribeAll c (cells_after (embed_row (part n) (content D n)))) (sym (row-after n)) (change_leaves (part n) (content D n) (λ k. puts-mentioned n k)))
      (λ new bare. row-after n ∙ bare-row (part n) (content D n) (no-cells D x n (new-unknown n new)) bare)

  -- ## Registers

  abbrev mark_at : FieldId → RegMark
  mark_at k = mark N f.itself m k (D.held k)

  held-at : (k : FieldId) → held_after (mark_at k) ≡ F.held k
  held-at k = left_held N f.itself m k (D.held k)

  bare-register : (k : FieldId) → is_among (nodes_new C.new) k.node ≡ true → (clears N k || holds_mentioned m (D.held k)) ≡ false → F.held k ≡ None
  bare-register k new e = go (put_in N k) refl
    where
      cleared : (a b : Bool) → (a || b) ≡ false → a ≡ false
      cleared true b q = cc
      cleared false b q = refl

      unclear : clears N k ≡ false
      unclear = cleared (clears N k) (holds_mentioned m (D.held k)) e

      nobody : D.held k ≡ None
      nobody = at (D.held k) refl
        where
          at : (o : Option NodeId) → D.held k ≡ o → o ≡ None
          at None q = refl
          at (Some z) q = absurd (None-IsSome (D.nodes k.node) (new-unknown k.node new) (x.held_known z k q).1)

      go : (p : Option NodeId) → put_in N k ≡ p → F.held k ≡ None
      go None q = λ i. option_or (q i) (cond (unclear i) None (unless_put N (nobody i)))
      go (Some z) q = absurd (true-false (put_clears N f.itself z k (put_in-has N k z q)) unclear)

  register-true : (k : FieldId) (o : Option NodeId) → L.register k ≡ Some o → F.held k ≡ o
  register-true k o e = told-register (is_among (nodes_new C.new) k.node) (clears N k || holds_mentioned m (D.held k)) (mark_at k) (item_of field_cmp (λ (r : RegMark). r.field) C.regs k) (F.held k) o
      (emb.regs.at_each k) (held-at k) e (bare-register k)

  -- a listed register
  listed-held : (r : RegMark) → Has C.regs r → held_after r ≡ F.held r.field
  listed-held r i = ap held_after (shown-Some (clears N r.field || holds_mentioned m (D.held r.field)) (mark_at r.field) r (reg-look D N C x f emb r i)) ∙ held-at r.field

  pub one-held : (n : NodeId) (k : FieldId) → F.place n ≡ Spot.Register k → F.held k ≡ Some n
  one-held n k e = (full_one_held D N x.one_held f.itself n k).1 e

  -- ## Who is nowhere

  in-rows : (r : RowMarks) (n : NodeId) → Has C.rows r → Has (nodes_standing (cells_after (spread r.marks))) n → Has placed n
  in-rows r n i j = append_left (flat_map (λ (r : RowMarks). nodes_standing (cells_after (spread r.marks))) C.rows) (flat_map one_or_none (map held_after C.regs)) n
      (flat_map-has (λ (r : RowMarks). nodes_standing (cells_after (spread r.marks))) C.rows r n i j)

  in-registers : (r : RegMark) (n : NodeId) → Has C.regs r → F.place n ≡ Spot.Register r.field → Has placed n
  in-registers r n i e = append_right (flat_map (λ (r : RowMarks). nodes_standing (cells_after (spread r.marks))) C.rows) (flat_map one_or_none (map held_after C.regs)) n
      (flat_map-has one_or_none (map held_after C.regs) (held_after r) n (map-has held_after C.regs r i) (is-one (held_after r) n (listed-held r i ∙ one-held n r.field e)))

  abbrev row_of : CellId → Option NodeId
  row_of = (with_names D N).row_of

  put-placed-after : (n : NodeId) (t : To) → put_of N n ≡ Some t → F.place n ≢ Spot.Nowhere → Has placed n
  put-placed-after n To.Nowhere e h = absurd (h (ap (λ g. place_after row_of N g (D.place n)) e))
  put-placed-after n (To.Cell c) e h =
      let q = put-in-cell D N C x f emb n c e in
      in-rows q.0 n q.1 (elim q.2 [
        | inl t ↦ set-standing (spread q.0.marks) n (Touch c n Here) (is_set c) t
        | inr (inl t) ↦ set-standing (spread q.0.marks) n (Fill c n) (fills c) t
        | inr (inr t) ↦ set-standing (spread q.0.marks) n (Make c n true) (is_made c) t
      ])
  put-placed-after n (To.Register k) e h = in-registers _ n (cleared-listed D N C x f emb k (put_clears N f.itself n k (put-has N n (To.Register k) e))) (ap (λ g. place_after row_of N g (D.place n)) e)

  -- a node that is found, and isn't put
  kept-placed : (n : NodeId) → put_of N n ≡ None → F.place n ≢ Spot.Nowhere → Has there n → Has placed n
  kept-placed n e h i = elim (has-append (nodes_new C.new ++ nodes_loose C.loose) (placed_before C.rows (map (λ (r : RegMark). r.held) C.regs)) n i) [
    | inl j ↦ elim (has-append (nodes_new C.new) (nodes_loose C.loose) n j) [
      | inl k ↦ absurd (gone (unknown_nowhere D x n (new-unknown n (has-among (nodes_new C.new) n k))))
      | inr k ↦ (let l = has-map (λ (l : Loose). l.node) C.loose n k in absurd (gone (subst (λ y. D.place y ≡ Spot.Nowhere) l.2 ((embedding_over D N C x f emb).loose l.0 l.1).0)))
    ]
    | inr j ↦ elim (has-append (flat_map (λ (r : RowMarks). nodes_standing (cells_before (spread r.marks))) C.rows) (flat_map one_or_none (map (λ (r : RegMark). r.held) C.regs)) n j) [
      | inl k ↦ (let r = has-flat_map (λ (r : RowMarks). nodes_standing (cells_before (spread r.marks))) C.rows n k in
          let t = standing-touched (spread r.0.marks) n r.2 in
          let stay : Stay ≡ t.1 = sym (ap (λ g. how g (To.Cell t.0)) e) ∙ row-how D N C x f emb r.0 t.0 n t.1 r.1 t.2 in
          in-rows r.0 n r.1 (set-standing (spread r.0.marks) n (Touch t.0 n Stay) (stays t.0) (subst (λ w. Has (spread r.0.marks) (Touch t.0 n w)) (sym stay) t.2)))
      | inr k ↦ (let o = has-flat_map one_or_none (map (λ (r : RegMark). r.held) C.regs) n k in
          let r = has-map (λ (r : RegMark). r.held) C.regs o.0 o.1 in
          let at = held_place D C x (embedding_over D N C x f emb) r.0 n r.1 (r.2 ∙ one-is o.0 n o.2) in
          in-registers r.0 n r.1 (stayed r.0.field at))
    ]
  ]
    where
      gone : D.place n ≡ Spot.Nowhere → ⊥
      gone q = h ((λ i. place_after row_of N (e i) (q i)))

      stayed : (k : FieldId) → D.place n ≡ Spot.Register k → F.place n ≡ Spot.Register k
      stayed k q = go (clears N k) refl
        where
          to : F.place n ≡ cond (clears N k) Spot.Nowhere (Spot.Register k)
          to = λ i. place_after row_of N (e i) (q i)

          go : (b : Bool) → clears N k ≡ b → F.place n ≡ Spot.Register k
          go true w = absurd (h (to ∙ ap (λ b. cond b Spot.Nowhere (Spot.Register k)) w))
          go false w = to ∙ ap (λ b. cond b Spot.Nowhere (Spot.Register k)) w

  stands-placed : (n : NodeId) → F.place n ≢ Spot.Nowhere → Has there n → Has placed n
  stands-placed n h i = go (put_of N n) refl
    where
      go : (t : Option To) → put_of N n ≡ t → Has placed n
      go None e = kept-placed n e h i
      go (Some t) e = put-placed-after n t e h

  nowhere-true : (n : NodeId) → L.nowhere n ≡ true → F.place n ≡ Spot.Nowhere
  nowhere-true n e = go (F.place n) refl
    where
      parts : (is_among there n ≡ true) × (not (is_among placed n) ≡ true)
      parts = and-true (is_among there n) (not (is_among placed n)) e

      not-both : (b : Bool) → b ≡ true → not b ≡ true → ⊥
      not-both true p q = cc
      not-both false p q = cc

      never : F.place n ≢ Spot.Nowhere → ⊥
      never h = not-both (is_among placed n) (has-among placed n (stands-placed n h (among-has there n parts.0))) parts.1

      go : (p : Spot) → F.place n ≡ p → F.place n ≡ Spot.Nowhere
      go Spot.Nowhere q = q
      go (Spot.Row r c) q = absurd (never (λ w. (let k : Spot.Row r c ≡ Spot.Nowhere = sym q ∙ w in cc)))
      go (Spot.Register k) q = absurd (never (λ w. (let k : Spot.Register k ≡ Spot.Nowhere = sym q ∙ w in cc)))

  pub change_left_true : IsTrueOf F L
  change_left_true = record { rows = row-true; registers = register-true; nowhere = nowhere-true }

  -- ## Where a node is shown

  owns-place : (n r : NodeId) (c : CellId) → F.place n ≡ Spot.Row r c → Has (F.rows r) (owned_cell c n)
  owns-place n r c e = go (put_of N n) refl e
    where
      go : (o : Option To) → put_of N n ≡ o → place_after row_of N o (D.place n) ≡ Spot.Row r c → Has ((with_names D N).rows r) (owned_cell c n)
      go None h e = old_cell D N x f r _ (x.own_cell n r c (unless_cleared-row N (D.place n) r c e))
      go (Some to) h e =
          let t = put_to_cell row_of to r c e in
          owns_in_row D N x f n r c (known_put D N f n (To.Cell c) (h ∙ ap (λ t. Some t) t.0)).1 t.1

  stands-there : (n r : NodeId) (c : CellId) → Has (content F r) (record { cell = c; node = n; full = true }) → F.place n ≡ Spot.Row r c
  stands-there n r c h =
      let o = has-map (slot F) (F.rows r) _ h in
      let cell : o.0.cell ≡ c = ap (λ (x : Slot). x.cell) o.2 in
      let node : o.0.node ≡ n = ap (λ (x : Slot). x.node) o.2 in
      let full : is_cell o.0.cell (F.place o.0.node) ≡ true = ap (λ (x : Slot). x.full) o.2 in
      let at = is_cell-true o.0.cell (F.place o.0.node) full in
      let here = owns-place o.0.node at.0 o.0.cell at.1 in
      let row : F.row_of o.0.cell ≡ Some at.0 = (one_row_each D N x f o.0.cell at.0).1 (o.0.node, here) in
      let row' : F.row_of o.0.cell ≡ Some r = (one_row_each D N x f o.0.cell r).1 (o.0.node, o.1) in
      let same : at.0 ≡ r = one-some (sym row ∙ row') in
      sym (ap F.place node) ∙ at.1 ∙ (λ i. Spot.Row (same i) (cell i))
    where
      one-some : {a b : NodeId} → ◌≡◌ {A = Option NodeId} (Some a) (Some b) → a ≡ b
      one-some q = cc

  -- it is there
  pub says_left : (n : NodeId) (s : Spot) → Places L n s → F.place n ≡ s
  says_left n s (placed_in_row r k c cells i e g) =
      let q = described-at (content F r) cells i (cell_view c k true) (row-true r cells e) g in
      stands-there k r c (subst (Has (content F r)) (λ i. record { cell = sym q.2.1 i; node = sym q.2.2 i; full = sym q.2.0 i }) q.1)
  says_left n s (placed_in_register k l e) = (full_one_held D N x.one_held f.itself l k).0 (register-true k (Some l) e)
  says_left n s (placed_nowhere k e) = nowhere-true k e

  -- whoever is new or listed before is shown somewhere after
  pub shown_left : (n : NodeId) → Has there n → (s : Spot) × Places L n s
  shown_left n h = go (is_among placed n) refl
    where
      in-row : (r : RowMarks) → Has C.rows r → Has (nodes_standing (cells_after (spread r.marks))) n → (s : Spot) × Places L n s
      in-row r i j =
          let w = standing-seen (spread r.marks) n j in (
            Spot.Row r.node w.1,
            placed_in_row r.node n w.1 (cells_after (spread r.marks)) w.0
                (ap (λ o. option_or (option_map (λ (r : RowMarks). cells_after (spread r.marks)) o) (cond (is_among (nodes_new C.new) r.node) (Some []) None)) (has-item_of node_cmp node_cmp_total node_cmp_exact (λ (r : RowMarks). r.node) C.rows r emb.rows.rising i)) w.2,
          )

      in-register : (r : RegMark) → Has C.regs r → held_after r ≡ Some n → (s : Spot) × Places L n s
      in-register r i e = (
        Spot.Register r.field,
        placed_in_register r.field n
            (ap (λ o. option_or (option_map held_after o) (cond (is_among (nodes_new C.new) r.field.node) (Some None) None)) (has-item_of field_cmp field_cmp_total field_cmp_exact (λ (r : RegMark). r.field) C.regs r emb.regs.rising i) ∙ ap (λ y. Some y) e),
      )

      found : Has placed n → (s : Spot) × Places L n s
      found i = elim (has-append (flat_map (λ (r : RowMarks). nodes_standing (cells_after (spread r.marks))) C.rows) (flat_map one_or_none (map held_after C.regs)) n i) [
        | inl j ↦ (let r = has-flat_map (λ (r : RowMarks). nodes_standing (cells_after (spread r.marks))) C.rows n j in in-row r.0 r.1 r.2)
        | inr j ↦ (let o = has-flat_map one_or_none (map held_after C.regs) n j in
            let r = has-map held_after C.regs o.0 o.1 in
            in-register r.0 r.1 (r.2 ∙ one-is o.0 n o.2))
      ]

      go : (b : Bool) → is_among placed n ≡ b → (s : Spot) × Places L n s
      go true e = found (among-has placed n e)
      go false e = (Spot.Nowhere, placed_nowhere n (and-both (is_among there n) (not (is_among placed n)) (has-among there n h) (ap not e)))
