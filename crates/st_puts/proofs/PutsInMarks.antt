-- How a change tells of the puts of its intent.
use Rattle.std.proofs.Common.{◌≡◌, ◌++◌, ◌||◌, zero, Bool, true, false, cond, map, Option, Some, None, IsSome, IfSome, refl, sym, ap, ◌∙◌, subst, inl, inr, ◌⊎◌}
use Rattle.st_ids.specs.Listing.{Has}
use Rattle.st_ids.specs.Order.{field_cmp}
use Rattle.st_ids.proofs.Listings.{item_of-has}
use Rattle.st_ids.proofs.Orders.{field_cmp_exact, field_cmp_total}
use Rattle.st_ids.specs.declared.names.CellId.{CellId}
use Rattle.st_ids.specs.declared.names.FieldId.{FieldId}
use Rattle.st_ids.specs.declared.names.NodeId.{NodeId}
use Rattle.st_marks.specs.declared.changes.Change.{Change}
use Rattle.st_marks.specs.declared.intents.Group.{Group}
use Rattle.st_marks.specs.declared.intents.Intent.{Intent}
use Rattle.st_marks.specs.declared.intents.Owned.{Owned}
use Rattle.st_marks.specs.declared.intents.Put.{Put}
use Rattle.st_marks.specs.declared.intents.To.{To}
use Rattle.st_marks.specs.declared.marks.How.{How}
use Rattle.st_marks.specs.declared.marks.How.TheVariants.{Here}
use Rattle.st_marks.specs.declared.marks.RegMark.{RegMark}
use Rattle.st_marks.specs.declared.marks.RowMarks.{RowMarks}
use Rattle.st_marks.specs.Document.{Document, IsSoundInForm, content, owned_cell, slot}
use Rattle.st_marks.specs.Embedding.{IsEmbedding, named_by_intent, register_part, row_part, tells}
use Rattle.std.specs.List.{filter_map}
use Rattle.std.proofs.Common.{option_and_then}
use Rattle.st_marks.specs.Intent.{Fits, IsKnown, cell_of, clears, group_at, put_in, put_of}
use Rattle.st_marks.specs.How.{is_here}
use Rattle.st_marks.specs.Register.{comes_in, holds_mentioned, how_held}
use Rattle.st_marks.specs.Row.{CellMark, Fill, Make, Touch, RowPart, embed_cells, embed_row, how, spread}
use Rattle.st_marks.proofs.Full.{known_put}
use Rattle.st_marks.proofs.Lookups.{group_found, has-put, put-has}
use Rattle.st_marks.proofs.Members.{all-has, append_left, has-any, has-flat_map, has-map, map-has}
use Rattle.st_normal.specs.declared.entries.Found.{Found}
use Rattle.st_normal.specs.Rules.{entries_of_change}
use Rattle.st_puts.proofs.OverDocuments.{embedding_over, mentioned-found, row-listed, row-look, skip-made, touches}
use Rattle.st_puts.proofs.RegisterRules.{how_is}
use Rattle.st_puts.proofs.StayingNodes.{touch-row}
use Rattle.st_puts.proofs.FoundPlaces.{PlacedAs, found_placed}
use Rattle.st_puts.proofs.PutsOfIntents.{put-is_here}
use Rattle.st_puts.specs.Meant.{IsOver}
use Rattle.st_puts.proofs.RowPuts.{SaysPut, fills, makes, makes-behind, row-says}

module _ (D : Document) (N : Intent) (C : Change) (x : IsSoundInForm D) (f : Fits D N) (emb : IsEmbedding D N C) where
  abbrev pub part : NodeId → RowPart
  part r = row_part emb.mentioned N r

  abbrev pub over : IsOver D C
  over = embedding_over D N C x f emb

  -- what a listed row's mark says
  pub mark-says : (r : RowMarks) (y : CellMark) → Has C.rows r → Has (spread r.marks) y → SaysPut (part r.node) y
  mark-says r y i j = row-says (part r.node) (content D r.node) y (subst (λ ms. Has ms y) (row-look D N C x f emb r i).0 j)

  -- a mark that tells lists its row
  pub mark-listed : (r : NodeId) (y : CellMark) → Has (embed_row (part r) (content D r)) y → tells y ≡ true → (q : RowMarks) × Has C.rows q × (q.node ≡ r) × Has (spread q.marks) y
  mark-listed r y h e = let q = row-listed D N C x f emb r (has-any tells (embed_row (part r) (content D r)) y h e) in (q.0, q.1, q.2, subst (λ ms. Has ms y) (sym q.3) h)

  -- ## Who is put and was there

  pub put-named : (n : NodeId) (t : To) → put_of N n ≡ Some t → Has (named_by_intent D N) n
  put-named n t e =
      let puts = map (λ (p : Put). p.node) N.put in
      let groups = map (λ (g : Group). g.node) N.groups in
      let targets = filter_map (λ (p : Put). option_and_then D.row_of (cell_of p.to)) N.put in
      let clear = map (λ (k : FieldId). k.node) N.clear in
      append_left (puts ++ N.need ++ groups ++ targets) clear n (append_left (puts ++ N.need ++ groups) targets n (append_left (puts ++ N.need) groups n (append_left puts N.need n
      (map-has (λ (p : Put). p.node) N.put (record { node = n; to = t }) (put-has N n t e)))))

  pub put-mentioned : (n : NodeId) (t : To) → put_of N n ≡ Some t → IsSome (D.nodes n) → emb.mentioned n ≡ true
  put-mentioned n t e k = (emb.which n).1 (n, put-named n t e, k, zero, refl)

  -- it is listed where it stands
  pub put-placed : (n : NodeId) (t : To) → put_of N n ≡ Some t → IsSome (D.nodes n) → (h : How) × PlacedAs D C n h
  put-placed n t e k = elim (mentioned-found D N C x f emb n (put-mentioned n t e k)) [
    | inl r ↦ (let bad : None ≡ Some t = sym f.itself.root_stays ∙ ap (put_of N) (sym r) ∙ e in cc)
    | inr i ↦ (let g = has-map (λ (g : Found). g.node) (entries_of_change C).found n i in
        subst (λ m. (h : How) × PlacedAs D C m h) g.2 (g.0.how, found_placed D C x over g.0 g.1))
  ]

  pub row-how : (r : RowMarks) (c : CellId) (n : NodeId) (h : How) → Has C.rows r → Has (spread r.marks) (Touch c n h) → how (put_of N n) (To.Cell c) ≡ h
  row-how r c n h i j = (touch-row (part r.node) (content D r.node) c n h (subst (λ ms. Has ms (Touch c n h)) (row-look D N C x f emb r i).0 j)).1

  pub held-how : (r : RegMark) (n : NodeId) → Has C.regs r → r.held ≡ Some n → how (put_of N n) (To.Register r.field) ≡ r.how
  held-how r n i e = sym (ap (how_held r.field (register_part emb.mentioned N r.field)) e) ∙ how_is D N C x f emb r i

  -- ## Who is put into a cell

  in-old : (n r : NodeId) (c : CellId) → put_of N n ≡ Some (To.Cell c) → Has (D.rows r) (owned_cell c n)
      → (q : RowMarks) × Has C.rows q × (q.node ≡ r) × (Has (spread q.marks) (Touch c n Here) ⊎ Has (spread q.marks) (Fill c n))
  in-old n r c e h = go (slot D (owned_cell c n)).full refl (map-has (slot D) (D.rows r) (owned_cell c n) h)
    where
      here : how (put_of N n) (To.Cell c) ≡ Here
      here = put-is_here (put_of N n) (To.Cell c) e

      go : (b : Bool) → (slot D (owned_cell c n)).full ≡ b → Has (content D r) (slot D (owned_cell c n)) → (q : RowMarks) × Has C.rows q × (q.node ≡ r) × (Has (spread q.marks) (Touch c n Here) ⊎ Has (spread q.marks) (Fill c n))
      go false g i =
          let j = subst (λ b. Has (content D r) (record { cell = c; node = n; full = b })) g i in
          let q = mark-listed r (Fill c n) (skip-made (part r) ((part r).new_cells None) (embed_cells (part r) (content D r)) (Fill c n) (fills (part r) (content D r) c n j here)) refl in
          (q.0, q.1, q.2, inr q.3)
      go true g i =
          let j = subst (λ b. Has (content D r) (record { cell = c; node = n; full = b })) g i in
          let k = (x.cells_known r (owned_cell c n) h).1 in
          let t = touches (part r) (content D r) c n j (put-mentioned n (To.Cell c) e k) in
          let t2 = subst (λ w. Has (embed_cells (part r) (content D r)) (Touch c n w)) here t in
          let q = mark-listed r (Touch c n Here) (skip-made (part r) ((part r).new_cells None) (embed_cells (part r) (content D r)) (Touch c n Here) t2) refl in
          (q.0, q.1, q.2, inl q.3)

  -- a cell that a group makes is made in the group's row
  pub in-group : (g : Group) (o : Owned) → Has N.groups g → Has g.cells o
      → (q : RowMarks) × Has C.rows q × (q.node ≡ g.node) × Has (spread q.marks) (Make o.cell o.node (is_here (how (put_of N o.node) (To.Cell o.cell))))
  in-group g o i h = mark-listed g.node _ (at g.after refl (subst (λ l. Has l o) (sym (group_found N f.itself g i)) h)) refl
    where
      at : (a : Option CellId) → g.after ≡ a → Has (group_at N g.node g.after) o → Has (embed_row (part g.node) (content D g.node)) (Make o.cell o.node (is_here (how (put_of N o.node) (To.Cell o.cell))))
      at None q j = makes (part g.node) (group_at N g.node None) (embed_cells (part g.node) (content D g.node)) o (subst (λ a. Has (group_at N g.node a) o) q j)
      at (Some a) q j =
          let known = (all-has (λ (k : Group). IsKnown D N k.node × IfSome k.after (λ c. D.row_of c ≡ Some k.node)) N.groups g f.groups_known i).1 in
          let row = (x.one_row a g.node).0 (subst (λ a. IfSome a (λ c. D.row_of c ≡ Some g.node)) q known) in
          skip-made (part g.node) (group_at N g.node None) (embed_cells (part g.node) (content D g.node)) _
          (makes-behind (part g.node) (content D g.node) (slot D (owned_cell a row.0)) o (map-has (slot D) (D.rows g.node) (owned_cell a row.0) row.1) (subst (λ a. Has (group_at N g.node a) o) q j))

  -- whoever is put into a cell is told there
  pub put-in-cell : (n : NodeId) (c : CellId) → put_of N n ≡ Some (To.Cell c)
      → (q : RowMarks) × Has C.rows q × (Has (spread q.marks) (Touch c n Here) ⊎ Has (spread q.marks) (Fill c n) ⊎ Has (spread q.marks) (Make c n true))
  put-in-cell n c e = elim (known_put D N f n (To.Cell c) e).1 [
    | inl r ↦ (let q = in-old n r.0 c e r.1 in (q.0, q.1, elim q.3 [ inl t ↦ inl t | inr t ↦ inr (inl t) ]))
    | inr h ↦ (let g = has-flat_map (λ (g : Group). g.cells) N.groups (owned_cell c n) h in
        let q = in-group g.0 (owned_cell c n) g.1 g.2 in
        (q.0, q.1, inr (inr (subst (λ b. Has (spread q.0.marks) (Make c n b)) (ap is_here (put-is_here (put_of N n) (To.Cell c) e)) q.3))))
  ]

  -- the row of an old cell into which one is put is told
  pub target-told : (n r : NodeId) (c : CellId) → put_of N n ≡ Some (To.Cell c) → D.row_of c ≡ Some r
      → (q : RowMarks) × Has C.rows q × (q.node ≡ r) × (Has (spread q.marks) (Touch c n Here) ⊎ Has (spread q.marks) (Fill c n))
  target-told n r c e row = elim (known_put D N f n (To.Cell c) e).1 [
    | inl k ↦ (let same : k.0 ≡ r = some-node (sym ((x.one_row c k.0).1 (n, k.1)) ∙ row) in in-old n r c e (subst (λ j. Has (D.rows j) (owned_cell c n)) same k.1))
    | inr h ↦ (let bad : None ≡ Some r = sym (f.fresh_cells c (Rattle.st_marks.proofs.Lookups.made_there N (owned_cell c n) h)) ∙ row in cc)
  ]
    where
      some-node : {a b : NodeId} → ◌≡◌ {A = Option NodeId} (Some a) (Some b) → a ≡ b
      some-node q = cc

  -- ## Registers

  abbrev pub mark_of : FieldId → RegMark
  mark_of k = record { field = k; held = D.held k; how = how_held k (register_part emb.mentioned N k) (D.held k); clear = clears N k; fill = comes_in (D.held k) (put_in N k) }

  -- a register that is cleared is listed
  pub cleared-listed : (k : FieldId) → clears N k ≡ true → Has C.regs (mark_of k)
  cleared-listed k e = (item_of-has field_cmp field_cmp_total field_cmp_exact (λ (r : RegMark). r.field) C.regs k (mark_of k) (emb.regs.at_each k ∙ ap (λ b. cond (b || holds_mentioned emb.mentioned (D.held k)) (Some (mark_of k)) None) e)).0
