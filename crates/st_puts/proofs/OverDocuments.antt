-- The easy half, in part: an embedding is over its document, finds each mentioned node, and has fields of found nodes alone.
use Rattle.std.proofs.Common.{◌≡◌, ◌≢◌, ◌↔◌, ◌++◌, ◌||◌, ◌&&◌, ℕ, zero, suc, Bool, true, false, not, List, [], ◌∷◌, Option, Some, None, IsSome, IsTrue, IfSome, cond, refl, sym, ap, ◌∙◌, subst, inl, inr, ◌⊎◌, option_and_then}
use Rattle.std.specs.List.{AllByRecursion, flat_map, list_any}
use Rattle.st_ids.specs.Listing.{Has}
use Rattle.st_ids.specs.Order.{field_cmp, node_cmp, same_node}
use Rattle.st_ids.proofs.Orders.{field_cmp_exact, field_cmp_total, node_cmp_exact, node_cmp_total, same_node-true}
use Rattle.st_ids.specs.declared.names.CellId.{CellId}
use Rattle.st_ids.specs.declared.names.FieldId.{FieldId}
use Rattle.st_ids.specs.declared.names.NodeId.{NodeId}
use Rattle.st_marks.specs.declared.changes.Change.{Change}
use Rattle.st_marks.specs.declared.changes.NewNode.{NewNode}
use Rattle.st_marks.specs.declared.intents.Group.{Group}
use Rattle.st_marks.specs.declared.intents.Intent.{Intent}
use Rattle.st_marks.specs.declared.intents.Owned.{Owned}
use Rattle.st_marks.specs.declared.intents.To.{To}
use Rattle.st_normal.specs.declared.entries.Found.{Found}
use Rattle.st_marks.specs.declared.marks.Loose.{Loose}
use Rattle.st_marks.specs.declared.marks.RegMark.{RegMark}
use Rattle.st_marks.specs.declared.marks.RowMarks.{RowMarks}
use Rattle.st_marks.specs.declared.places.Slot.{Slot}
use Rattle.st_marks.specs.declared.places.Spot.{Spot}
use Rattle.st_marks.specs.Document.{Document, IsSoundInForm, above, climb, content}
use Rattle.st_ids.specs.Root.{root}
use Rattle.st_marks.specs.Embedding.{IsEmbedding, embed_loose, is_loose, is_nowhere, row_marks, row_part, register_part, tells}
use Rattle.st_marks.specs.Intent.{Fits, group_at, is_new, new_node}
use Rattle.st_marks.specs.Register.{RegisterPart, comes_in, embed_register, holds_mentioned, how_held}
use Rattle.st_marks.specs.Row.{CellMark, Counted, Gap, Touch, Fill, RowPart, embed_cell, embed_cells, embed_made, embed_row, how, merge, spread}
use Rattle.st_marks.specs.How.{is_here}
use Rattle.st_normal.specs.Rules.{IsFound, Entries, found_at, found_in, found_loose, in_rows, entries_of_change}
use Rattle.st_marks.specs.Listings.{cells_before, cells_made, nodes_new}
use Rattle.st_marks.proofs.Climb.{above_known, shown}
use Rattle.st_ids.proofs.Listings.{has-item_of, item_of-has}
use Rattle.st_marks.proofs.Lookups.{group_at-group, made_there}
use Rattle.st_marks.proofs.Members.{append_left, append_right, map-has, has-map, flat_map-has, has-flat_map, has-any}
use Rattle.st_rows.proofs.KindLaws.{spread-merge}
use Rattle.st_puts.specs.Seen.{AreAsSeen}
use Rattle.st_puts.proofs.RowsAsSeen.{change_sees}
use Rattle.st_puts.specs.Meant.{IsOver}
use Rattle.st_puts.proofs.FoundPlaces.{has-found_in, is-found_held}
use Rattle.st_lemmas.proofs.Bools.{or-right}

some-row : {a b : RowMarks} → ◌≡◌ {A = Option RowMarks} (Some a) (Some b) → a ≡ b
some-row {a = a} e = ap at e
  where
    at : Option RowMarks → RowMarks
    at None = a
    at (Some y) = y

-- a row that is listed tells something, and has these marks
pub row-told : (r : RowMarks) (n : NodeId) (cells : List CellMark) → row_marks n cells ≡ Some r → (spread r.marks ≡ cells) × (list_any tells cells ≡ true)
row-told r n cells e = go (list_any tells cells) refl
  where
    go : (b : Bool) → list_any tells cells ≡ b → (spread r.marks ≡ cells) × (list_any tells cells ≡ true)
    go true f = (sym (ap (λ (r : RowMarks). spread r.marks) (some-row (ap (λ b. cond b (Some (record { node = n; marks = merge cells })) None) (sym f) ∙ e))) ∙ spread-merge cells, f)
    go false f = let bad : None ≡ Some r = ap (λ b. cond b (Some (record { node = n; marks = merge cells })) None) (sym f) ∙ e in cc

-- a mark that a row's cells or groups give
made-of : (p : RowPart) (os : List Owned) (ms : List CellMark) (c : CellId) → Has (cells_made (embed_made p os ++ ms)) c → ((o : Owned) × Has os o × (o.cell ≡ c)) ⊎ Has (cells_made ms) c
made-of p [] ms c h = inr h
made-of p (o ∷ os) ms c (inl e) = inl (o, inl refl, e)
made-of p (o ∷ os) ms c (inr h) = elim (made-of p os ms c h) [ inl r ↦ inl (r.0, inr r.1, r.2) | inr i ↦ inr i ]

cells-of : (p : RowPart) (c : List Slot) (d : CellId) → Has (cells_made (embed_cells p c)) d → (a : Option CellId) × (o : Owned) × Has (p.new_cells a) o × (o.cell ≡ d)
cells-of p [] d h = absurd h
cells-of p (s ∷ c) d h = go s.full h (λ i. cells-of p c d i)
  where
    rest : Has (cells_made (embed_made p (p.new_cells (Some s.cell)) ++ embed_cells p c)) d → (Has (cells_made (embed_cells p c)) d → (a : Option CellId) × (o : Owned) × Has (p.new_cells a) o × (o.cell ≡ d)) → (a : Option CellId) × (o : Owned) × Has (p.new_cells a) o × (o.cell ≡ d)
    rest i more = elim (made-of p (p.new_cells (Some s.cell)) (embed_cells p c) d i) [ inl r ↦ (Some s.cell, r.0, r.1, r.2) | inr j ↦ more j ]

    go : (b : Bool) → Has (cells_made (embed_cell p s.cell s.node b ∷ (embed_made p (p.new_cells (Some s.cell)) ++ embed_cells p c))) d → (Has (cells_made (embed_cells p c)) d → (a : Option CellId) × (o : Owned) × Has (p.new_cells a) o × (o.cell ≡ d)) → (a : Option CellId) × (o : Owned) × Has (p.new_cells a) o × (o.cell ≡ d)
    go true i more = elim (p.mentioned s.node) as (λ b. Has (cells_made (cond b (Touch s.cell s.node (how (p.target_of s.node) (To.Cell s.cell))) Counted ∷ (embed_made p (p.new_cells (Some s.cell)) ++ embed_cells p c))) d → (a : Option CellId) × (o : Owned) × Has (p.new_cells a) o × (o.cell ≡ d)) [ true ↦ (λ j. rest j more) | false ↦ (λ j. rest j more) ] i
    go false i more = elim (is_here (how (p.target_of s.node) (To.Cell s.cell))) as (λ b. Has (cells_made (cond b (Fill s.cell s.node) (Gap s.cell) ∷ (embed_made p (p.new_cells (Some s.cell)) ++ embed_cells p c))) d → (a : Option CellId) × (o : Owned) × Has (p.new_cells a) o × (o.cell ≡ d)) [ true ↦ (λ j. rest j more) | false ↦ (λ j. rest j more) ] i

pub row-makes : (p : RowPart) (c : List Slot) (d : CellId) → Has (cells_made (embed_row p c)) d → (a : Option CellId) × (o : Owned) × Has (p.new_cells a) o × (o.cell ≡ d)
row-makes p c d h = elim (made-of p (p.new_cells None) (embed_cells p c) d h) [ inl r ↦ (None, r.0, r.1, r.2) | inr i ↦ cells-of p c d i ]

-- a full cell of a mentioned node is touched
pub skip-made : (p : RowPart) (os : List Owned) (ms : List CellMark) (y : CellMark) → Has ms y → Has (embed_made p os ++ ms) y
skip-made p [] ms y h = h
skip-made p (o ∷ os) ms y h = inr (skip-made p os ms y h)

pub touches : (p : RowPart) (c : List Slot) (d : CellId) (n : NodeId) → Has c (record { cell = d; node = n; full = true }) → p.mentioned n ≡ true → Has (embed_cells p c) (Touch d n (how (p.target_of n) (To.Cell d)))
touches p [] d n h e = absurd h
touches p (s ∷ c) d n (inl q) e = inl ((λ i. embed_cell p (q i).cell (q i).node (q i).full) ∙ ap (λ b. cond b (Touch d n (how (p.target_of n) (To.Cell d))) Counted) e)
touches p (s ∷ c) d n (inr h) e = inr (skip-made p (p.new_cells (Some s.cell)) (embed_cells p c) _ (touches p c d n h e))

-- a climb from a node that is there leads to one that is there
pub climb-known : (D : Document) → IsSoundInForm D → (k : ℕ) (s n : NodeId) → IsSome (D.nodes s) → climb (above D) k s ≡ Some n → IsSome (D.nodes n)
climb-known D x zero s n h e = let q : s ≡ n = cc in subst (λ y. IsSome (D.nodes y)) q h
climb-known D x (suc k) s n h e = go (above D s) refl (λ p a b. climb-known D x k p n a b)
  where
    go : (q : Option NodeId) → above D s ≡ q → ((p : NodeId) → IsSome (D.nodes p) → climb (above D) k p ≡ Some n → IsSome (D.nodes n)) → IsSome (D.nodes n)
    go None q rest = let bad : None ≡ Some n = ap (option_and_then (climb (above D) k)) (sym q) ∙ e in cc
    go (Some p) q rest = rest p (above_known D x s p q) (ap (option_and_then (climb (above D) k)) (sym q) ∙ e)

module _ (D : Document) (N : Intent) (C : Change) (x : IsSoundInForm D) (f : Fits D N) (emb : IsEmbedding D N C) where
  abbrev L : Entries
  L = entries_of_change C

  abbrev m : NodeId → Bool
  m = emb.mentioned

  abbrev part : NodeId → RowPart
  part n = row_part m N n

  pub row-look : (r : RowMarks) → Has C.rows r → (spread r.marks ≡ embed_row (part r.node) (content D r.node)) × (list_any tells (embed_row (part r.node) (content D r.node)) ≡ true)
  row-look r i = row-told r r.node (embed_row (part r.node) (content D r.node)) (sym (emb.rows.at_each r.node) ∙ has-item_of node_cmp node_cmp_total node_cmp_exact (λ (r : RowMarks). r.node) C.rows r emb.rows.rising i)

  pub reg-look : (r : RegMark) → Has C.regs r → embed_register r.field (register_part m N r.field) (D.held r.field) ≡ Some r
  reg-look r i = sym (emb.regs.at_each r.field) ∙ has-item_of field_cmp field_cmp_total field_cmp_exact (λ (r : RegMark). r.field) C.regs r emb.regs.rising i

  pub loose-look : (l : Loose) → Has C.loose l → embed_loose m D N l.node ≡ Some l
  loose-look l i = sym (emb.loose.at_each l.node) ∙ has-item_of node_cmp node_cmp_total node_cmp_exact (λ (l : Loose). l.node) C.loose l emb.loose.rising i

  pub held-is : (k : FieldId) (p : RegisterPart) (o : Option NodeId) (r : RegMark) → embed_register k p o ≡ Some r → (o ≡ r.held) × ((p.clear || holds_mentioned p.mentioned o) ≡ true)
  held-is k p o r e = go (p.clear || holds_mentioned p.mentioned o) refl
    where
      at : Option RegMark → Option NodeId
      at None = o
      at (Some z) = z.held

      go : (b : Bool) → (p.clear || holds_mentioned p.mentioned o) ≡ b → (o ≡ r.held) × ((p.clear || holds_mentioned p.mentioned o) ≡ true)
      go true q = (ap at (ap (λ b. cond b (Some (record { field = k; held = o; how = how_held k p o; clear = p.clear; fill = comes_in o p.fill })) None) (sym q) ∙ e), q)
      go false q = let bad : None ≡ Some r = ap (λ b. cond b (Some (record { field = k; held = o; how = how_held k p o; clear = p.clear; fill = comes_in o p.fill })) None) (sym q) ∙ e in cc

  pub mentioned-known : (n : NodeId) → m n ≡ true → IsSome (D.nodes n)
  mentioned-known n e = let k = (emb.which n).0 e in climb-known D x k.3 k.0 n k.2 k.4

  pub loose-is : (n : NodeId) (l : Loose) → embed_loose m D N n ≡ Some l → is_loose m D n ≡ true
  loose-is n l e = go (is_loose m D n) refl
    where
      go : (b : Bool) → is_loose m D n ≡ b → is_loose m D n ≡ true
      go true q = q
      go false q = let bad : None ≡ Some l = ap (λ b. cond b (Some (record { node = n; how = how (Rattle.st_marks.specs.Intent.put_of N n) To.Nowhere })) None) (sym q) ∙ e in cc

  pub parts : (a b : Bool) → (a && b) ≡ true → (a ≡ true) × (b ≡ true)
  parts true b e = (refl, e)
  parts false b e = cc

  nowhere-is : (s : Spot) → is_nowhere s ≡ true → s ≡ Spot.Nowhere
  nowhere-is Spot.Nowhere e = refl
  nowhere-is (Spot.Row a c) e = cc
  nowhere-is (Spot.Register k) e = cc

  made-fresh : (r : NodeId) (a : Option CellId) (o : Owned) → Has (group_at N r a) o → D.row_of o.cell ≡ None
  made-fresh r a o h = let g = group_at-group N r a o h in f.fresh_cells o.cell (made_there N o (flat_map-has (λ (k : Group). k.cells) N.groups g.group o g.listed g.cell))

  pub new-is : (n : NodeId) → Has (nodes_new C.new) n → is_new N n ≡ true
  new-is n h = let o = has-map (λ (k : NewNode). k.node) C.new n h in
      let e = sym (emb.new.at_each o.0.node) ∙ has-item_of node_cmp node_cmp_total node_cmp_exact (λ (k : NewNode). k.node) C.new o.0 emb.new.rising o.1 in
      subst (λ y. is_new N y ≡ true) o.2 (said o.0.node o.0 e)
    where
      said : (y : NodeId) (k : NewNode) → new_node N y ≡ Some k → is_new N y ≡ true
      said y k e = rw e refl

  -- an embedding finds what is so where it stands
  pub embedding_over : IsOver D C
  embedding_over = record {
    rows = λ r i. subst (λ ms. AreAsSeen (content D r.node) (cells_before ms)) (sym (row-look r i).0) (change_sees (part r.node) (content D r.node));
    held = λ r i. (held-is r.field (register_part m N r.field) (D.held r.field) r (reg-look r i)).0;
    loose = λ l i. let q = parts (m l.node && is_nowhere (D.place l.node)) (not (same_node l.node root)) (loose-is l.node l (loose-look l i)) in let p = parts (m l.node) (is_nowhere (D.place l.node)) q.0 in
        (nowhere-is (D.place l.node) p.1, mentioned-known l.node p.0);
    new_nodes = λ n h. f.fresh_nodes n (new-is n h);
    new_cells = λ c h. let r = has-flat_map (λ (r : RowMarks). cells_made (spread r.marks)) C.rows c h in
        let w = row-makes (part r.0.node) (content D r.0.node) c (subst (λ ms. Has (cells_made ms) c) (row-look r.0 r.1).0 r.2) in
        ap D.row_of (sym w.3) ∙ made-fresh r.0.node w.0 w.1 w.2;
    base = subst (λ u. IsTrue C.base ↔ Rattle.st_marks.specs.Verdict.HasBase D.schemas C.schema u) (sym emb.under) (subst (λ (s : Option (List ℕ)). IsTrue C.base ↔ Rattle.st_marks.specs.Verdict.HasBase D.schemas s N.under) (sym emb.schema) emb.base);
    new_schema = subst (λ u. IfSome C.schema (λ _. AllByRecursion (λ (e : Rattle.st_marks.specs.declared.schemas.SchemaEntry.SchemaEntry). e.rev ≢ u) D.schemas)) (sym emb.rev)
        (subst (λ (s : Option (List ℕ)). IfSome s (λ _. AllByRecursion (λ (e : Rattle.st_marks.specs.declared.schemas.SchemaEntry.SchemaEntry). e.rev ≢ N.rev) D.schemas)) (sym emb.schema) f.fresh_schema);
  }

  -- ## Each mentioned node is found where it stands

  pub row-listed : (n : NodeId) → list_any tells (embed_row (part n) (content D n)) ≡ true → (r : RowMarks) × Has C.rows r × (r.node ≡ n) × (spread r.marks ≡ embed_row (part n) (content D n))
  row-listed n e =
      let made : row_marks n (embed_row (part n) (content D n)) ≡ Some (record { node = n; marks = merge (embed_row (part n) (content D n)) }) = ap (λ b. cond b (Some (record { node = n; marks = merge (embed_row (part n) (content D n)) })) None) e in
      let i = item_of-has node_cmp node_cmp_total node_cmp_exact (λ (r : RowMarks). r.node) C.rows n (record { node = n; marks = merge (embed_row (part n) (content D n)) }) (emb.rows.at_each n ∙ made) in
      (record { node = n; marks = merge (embed_row (part n) (content D n)) }, i.0, refl, spread-merge (embed_row (part n) (content D n)))

  pub found-row : (n r : NodeId) (c : CellId) → m n ≡ true → D.place n ≡ Spot.Row r c → (q : RowMarks) × Has C.rows q × (q.node ≡ r) × IsFound L n
  found-row n r c e p =
      let t = skip-made (part r) ((part r).new_cells None) (embed_cells (part r) (content D r)) _ (touches (part r) (content D r) c n (shown D x n r c p) e) in
      let q = row-listed r (has-any tells (embed_row (part r) (content D r)) _ t refl) in (
        q.0,
        q.1,
        q.2,
        map-has (λ (g : Found). g.node) L.found (record { node = n; how = how (Rattle.st_marks.specs.Intent.put_of N n) (To.Cell c) })
            (append_left (in_rows found_in C.rows) (flat_map found_at C.regs ++ found_loose C.loose) _ (flat_map-has (λ (r : RowMarks). found_in (spread r.marks)) C.rows q.0 _ q.1
            (has-found_in (spread q.0.marks) c n (how (Rattle.st_marks.specs.Intent.put_of N n) (To.Cell c)) (subst (λ ms. Has ms (Touch c n (how (Rattle.st_marks.specs.Intent.put_of N n) (To.Cell c)))) (sym q.3) t)))),
      )

  pub found-register : (n : NodeId) (k : FieldId) → m n ≡ true → D.place n ≡ Spot.Register k → (r : RegMark) × Has C.regs r × (r.field ≡ k) × IsFound L n
  found-register n k e p =
      let held = (x.one_held n k).1 p in
      let tells_it = or-right (Rattle.st_marks.specs.Intent.clears N k) (holds_mentioned m (D.held k)) (ap (holds_mentioned m) held ∙ e) in
      go (Rattle.st_marks.specs.Intent.clears N k || holds_mentioned m (D.held k)) refl tells_it held
    where
      go : (b : Bool) → (Rattle.st_marks.specs.Intent.clears N k || holds_mentioned m (D.held k)) ≡ b → b ≡ true → D.held k ≡ Some n → (r : RegMark) × Has C.regs r × (r.field ≡ k) × IsFound L n
      go false q t held = cc
      go true q t held =
          let mark : RegMark = record { field = k; held = D.held k; how = how_held k (register_part m N k) (D.held k); clear = Rattle.st_marks.specs.Intent.clears N k; fill = comes_in (D.held k) (Rattle.st_marks.specs.Intent.put_in N k) } in
          let i = item_of-has field_cmp field_cmp_total field_cmp_exact (λ (r : RegMark). r.field) C.regs k mark (emb.regs.at_each k ∙ ap (λ b. cond b (Some mark) None) q) in (
            mark,
            i.0,
            refl,
            map-has (λ (g : Found). g.node) L.found (record { node = n; how = mark.how }) (append_right (in_rows found_in C.rows) (flat_map found_at C.regs ++ found_loose C.loose) _
                (append_left (flat_map found_at C.regs) (found_loose C.loose) _ (flat_map-has found_at C.regs mark _ i.0 (is-found_held mark.held n mark.how held)))),
          )

  found-nowhere : (n : NodeId) → m n ≡ true → D.place n ≡ Spot.Nowhere → (n ≡ root) ⊎ IsFound L n
  found-nowhere n e p = go (same_node n root) refl
    where
      go : (b : Bool) → same_node n root ≡ b → (n ≡ root) ⊎ IsFound L n
      go true q = inl (same_node-true n root q)
      go false q =
          let l : Loose = record { node = n; how = how (Rattle.st_marks.specs.Intent.put_of N n) To.Nowhere } in
          let said : is_loose m D n ≡ true = (λ i. (e i && is_nowhere (p i)) && not (q i)) in
          let i = item_of-has node_cmp node_cmp_total node_cmp_exact (λ (l : Loose). l.node) C.loose n l (emb.loose.at_each n ∙ ap (λ b. cond b (Some l) None) said) in
          inr (map-has (λ (g : Found). g.node) L.found (record { node = n; how = l.how }) (append_right (in_rows found_in C.rows) (flat_map found_at C.regs ++ found_loose C.loose) _
          (append_right (flat_map found_at C.regs) (found_loose C.loose) _ (map-has (λ (l : Loose). let g : Found = record { node = l.node; how = l.how } in g) C.loose l i.0))))

  -- so is the node above
  pub mentioned-found : (n : NodeId) → m n ≡ true → (n ≡ root) ⊎ IsFound L n
  mentioned-found n e = go (D.place n) refl
    where
      go : (s : Spot) → D.place n ≡ s → (n ≡ root) ⊎ IsFound L n
      go Spot.Nowhere p = found-nowhere n e p
      go (Spot.Row r c) p = inr (found-row n r c e p).3
      go (Spot.Register k) p = inr (found-register n k e p).3
