-- The easy half, in part: a node that stays is found because it is needed, or because a field of it is listed.
use Rattle.std.proofs.Common.{◌≡◌, ◌≢◌, ◌++◌, ◌||◌, ◌&&◌, ℕ, zero, suc, Bool, true, false, not, List, [], ◌∷◌, map, Option, Some, None, IsSome, IfSome, cond, refl, sym, ap, ◌∙◌, subst, inl, inr, ◌⊎◌, option_and_then}
use Rattle.std.specs.List.{filter_map, flat_map, list_any}
use Rattle.st_ids.specs.Listing.{Has}
use Rattle.st_ids.specs.Order.{field_cmp, node_cmp, same_node}
use Rattle.st_ids.proofs.Orders.{field_cmp_exact, field_cmp_total, node_cmp_exact, node_cmp_total}
use Rattle.st_ids.specs.declared.names.CellId.{CellId}
use Rattle.st_ids.specs.declared.names.FieldId.{FieldId}
use Rattle.st_ids.specs.declared.names.NodeId.{NodeId}
use Rattle.st_marks.specs.declared.changes.Change.{Change}
use Rattle.st_marks.specs.declared.intents.Group.{Group}
use Rattle.st_marks.specs.declared.intents.Intent.{Intent}
use Rattle.st_marks.specs.declared.intents.Owned.{Owned}
use Rattle.st_marks.specs.declared.intents.To.{To}
use Rattle.st_normal.specs.declared.entries.Found.{Found}
use Rattle.st_marks.specs.declared.marks.How.{How}
use Rattle.st_marks.specs.declared.marks.Loose.{Loose}
use Rattle.st_marks.specs.declared.marks.RegMark.{RegMark}
use Rattle.st_marks.specs.declared.marks.RowMarks.{RowMarks}
use Rattle.st_marks.specs.declared.places.Slot.{Slot}
use Rattle.st_marks.specs.declared.places.Spot.{Spot}
use Rattle.st_marks.specs.Document.{Document, IsSoundInForm, above, climb, content, node_of, owned_cell, slot}
use Rattle.st_ids.specs.Root.{root}
use Rattle.st_marks.specs.Embedding.{IsEmbedding, embed_loose, is_nowhere, row_part, register_part, tells, named_by_intent}
use Rattle.st_marks.specs.Intent.{Fits, group_at, IsKnown, cell_of, clears, put_of, Owns}
use Rattle.st_marks.specs.Register.{RegisterPart, comes_in, embed_register, holds_mentioned, how_held}
use Rattle.st_marks.specs.Row.{CellMark, Counted, Gap, Touch, Fill, RowPart, embed_cell, embed_cells, embed_made, embed_row, how, spread}
use Rattle.st_marks.specs.How.{is_here, is_stay}
use Rattle.st_normal.specs.Rules.{Entries, found_held, found_in, found_loose, in_rows, entries_of_change, HasListedField, StayingNodesAreMentioned, kept_at, staying_nodes}
use Rattle.st_marks.proofs.Climb.{stands}
use Rattle.st_ids.proofs.Listings.{item_of-has}
use Rattle.st_marks.proofs.Lookups.{made_there, group_found, has-put}
use Rattle.st_marks.proofs.Members.{all-has, append_left, append_right, has-append, map-has, has-map, has-flat_map, has-any, has-all}
use Rattle.st_marks.specs.declared.intents.Put.{Put}
use Rattle.st_puts.proofs.FoundPlaces.{found_in-has, found_held-is}
use Rattle.st_puts.proofs.OverDocuments.{held-is, reg-look, row-look, row-listed, found-row, found-register, loose-is, loose-look, parts}
use Rattle.st_normal.proofs.NoRings.{among_has}
use Rattle.st_puts.proofs.PutsOfIntents.{put-is_here}
use Rattle.st_lemmas.proofs.Bools.{or-right}

staying-has : (fs : List Found) (n : NodeId) → Has (staying_nodes fs) n → (g : Found) × Has fs g × (g.node ≡ n) × (is_stay g.how ≡ true)
staying-has [] n h = absurd h
staying-has (g ∷ fs) n h = go (is_stay g.how) refl (λ i. staying-has fs n i) h
  where
    go : (b : Bool) → is_stay g.how ≡ b → (Has (staying_nodes fs) n → (k : Found) × Has fs k × (k.node ≡ n) × (is_stay k.how ≡ true)) → Has (cond b (g.node ∷ staying_nodes fs) (staying_nodes fs)) n → (k : Found) × Has (g ∷ fs) k × (k.node ≡ n) × (is_stay k.how ≡ true)
    go false e rest i = let r = rest i in (r.0, inr r.1, r.2, r.3)
    go true e rest (inl q) = (g, inl refl, q, e)
    go true e rest (inr i) = let r = rest i in (r.0, inr r.1, r.2, r.3)

-- who stays isn't put
stay-none : (o : Option To) (t : To) → is_stay (how o t) ≡ true → o ≡ None
stay-none None t e = refl
stay-none (Some u) t e = go (Rattle.st_marks.specs.Row.same_to u t) e
  where
    go : (b : Bool) → is_stay (cond b Rattle.st_marks.specs.declared.marks.How.TheVariants.Here Rattle.st_marks.specs.declared.marks.How.TheVariants.Leave) ≡ true → Some u ≡ None
    go true e = cc
    go false e = cc

abbrev pub IsTouched : RowPart → CellId → NodeId → How → Type 0
IsTouched p d n h = (p.mentioned n ≡ true) × (how (p.target_of n) (To.Cell d) ≡ h)

touch-made : (p : RowPart) (os : List Owned) (ms : List CellMark) (d : CellId) (n : NodeId) (h : How) → Has (embed_made p os ++ ms) (Touch d n h) → (Has ms (Touch d n h) → IsTouched p d n h) → IsTouched p d n h
touch-made p [] ms d n h i rest = rest i
touch-made p (o ∷ os) ms d n h (inl q) rest = cc
touch-made p (o ∷ os) ms d n h (inr i) rest = touch-made p os ms d n h i rest

touch-cells : (p : RowPart) (c : List Slot) (d : CellId) (n : NodeId) (h : How) → Has (embed_cells p c) (Touch d n h) → IsTouched p d n h
touch-cells p [] d n h i = absurd i
touch-cells p (s ∷ c) d n h (inr i) = touch-made p (p.new_cells (Some s.cell)) (embed_cells p c) d n h i (λ j. touch-cells p c d n h j)
touch-cells p (s ∷ c) d n h (inl q) = go s.full q
  where
    go : (b : Bool) → embed_cell p s.cell s.node b ≡ Touch d n h → IsTouched p d n h
    go true e = full (p.mentioned s.node) refl e
      where
        full : (z : Bool) → p.mentioned s.node ≡ z → cond z (Touch s.cell s.node (how (p.target_of s.node) (To.Cell s.cell))) Counted ≡ Touch d n h → IsTouched p d n h
        full true g e = let a : s.cell ≡ d = cc in let b : s.node ≡ n = cc in let k : how (p.target_of s.node) (To.Cell s.cell) ≡ h = cc in (ap p.mentioned (sym b) ∙ g, (λ i. how (p.target_of (sym b i)) (To.Cell (sym a i))) ∙ k)
        full false g e = cc
    go false e = empty (is_here (how (p.target_of s.node) (To.Cell s.cell))) e
      where
        empty : (z : Bool) → cond z (Fill s.cell s.node) (Gap s.cell) ≡ Touch d n h → IsTouched p d n h
        empty true e = cc
        empty false e = cc

pub touch-row : (p : RowPart) (c : List Slot) (d : CellId) (n : NodeId) (h : How) → Has (embed_row p c) (Touch d n h) → IsTouched p d n h
touch-row p c d n h i = touch-made p (p.new_cells None) (embed_cells p c) d n h i (λ j. touch-cells p c d n h j)

-- a made cell, and a cell that is filled, tell
make-told : (p : RowPart) (os : List Owned) (ms : List CellMark) (o : Owned) → Has os o → list_any tells (embed_made p os ++ ms) ≡ true
make-told p [] ms o h = absurd h
make-told p (q ∷ os) ms o h = refl

rest-told : (p : RowPart) (os : List Owned) (ms : List CellMark) → list_any tells ms ≡ true → list_any tells (embed_made p os ++ ms) ≡ true
rest-told p [] ms e = e
rest-told p (q ∷ os) ms e = refl

after-told : (p : RowPart) (c : List Slot) (s : Slot) (o : Owned) → Has c s → Has (p.new_cells (Some s.cell)) o → list_any tells (embed_cells p c) ≡ true
after-told p [] s o h i = absurd h
after-told p (t ∷ c) s o (inl q) i = or-right (tells (embed_cell p t.cell t.node t.full)) _ (make-told p (p.new_cells (Some t.cell)) (embed_cells p c) o (subst (λ (t : Slot). Has (p.new_cells (Some t.cell)) o) (sym q) i))
after-told p (t ∷ c) s o (inr h) i = or-right (tells (embed_cell p t.cell t.node t.full)) _ (rest-told p (p.new_cells (Some t.cell)) (embed_cells p c) (after-told p c s o h i))

fill-told : (p : RowPart) (c : List Slot) (s : Slot) → Has c s → s.full ≡ false → how (p.target_of s.node) (To.Cell s.cell) ≡ Rattle.st_marks.specs.declared.marks.How.TheVariants.Here → list_any tells (embed_cells p c) ≡ true
fill-told p [] s h e f = absurd h
fill-told p (t ∷ c) s (inl q) e f = ap (λ y. tells y || list_any tells (embed_made p (p.new_cells (Some t.cell)) ++ embed_cells p c))
    ((λ i. embed_cell p (q i).cell (q i).node (q i).full) ∙ ap (embed_cell p s.cell s.node) e ∙ ap (λ h. cond (is_here h) (Fill s.cell s.node) (Gap s.cell)) f)
fill-told p (t ∷ c) s (inr h) e f = or-right (tells (embed_cell p t.cell t.node t.full)) _ (rest-told p (p.new_cells (Some t.cell)) (embed_cells p c) (fill-told p c s h e f))

climb-last : (up : NodeId → Option NodeId) (k : ℕ) (s n : NodeId) → climb up (suc k) s ≡ Some n → (q : NodeId) × (climb up k s ≡ Some q) × (up q ≡ Some n)
climb-last up zero s n e = go (up s) refl
  where
    go : (o : Option NodeId) → up s ≡ o → (q : NodeId) × (climb up zero s ≡ Some q) × (up q ≡ Some n)
    go None f = let bad : None ≡ Some n = ap (option_and_then (climb up zero)) (sym f) ∙ e in cc
    go (Some p) f = (s, refl, f ∙ (ap (option_and_then (climb up zero)) (sym f) ∙ e))
climb-last up (suc k) s n e = go (up s) refl (λ p f. climb-last up k p n f)
  where
    go : (o : Option NodeId) → up s ≡ o → ((p : NodeId) → climb up (suc k) p ≡ Some n → (q : NodeId) × (climb up k p ≡ Some q) × (up q ≡ Some n)) → (q : NodeId) × (climb up (suc k) s ≡ Some q) × (up q ≡ Some n)
    go None f rest = let bad : None ≡ Some n = ap (option_and_then (climb up (suc k))) (sym f) ∙ e in cc
    go (Some p) f rest = let r = rest p (ap (option_and_then (climb up (suc k))) (sym f) ∙ e) in (r.0, ap (option_and_then (climb up k)) f ∙ r.1, r.2)

module _ (D : Document) (N : Intent) (C : Change) (x : IsSoundInForm D) (f : Fits D N) (emb : IsEmbedding D N C) where
  abbrev L : Entries
  L = entries_of_change C

  abbrev m : NodeId → Bool
  m = emb.mentioned

  abbrev part : NodeId → RowPart
  part n = row_part m N n

  abbrev put_nodes : List NodeId
  put_nodes = map (λ (p : Put). p.node) N.put

  abbrev group_nodes : List NodeId
  group_nodes = map (λ (g : Group). g.node) N.groups

  abbrev target_nodes : List NodeId
  target_nodes = filter_map (λ (p : Put). option_and_then D.row_of (cell_of p.to)) N.put

  abbrev clear_nodes : List NodeId
  clear_nodes = map (λ (k : FieldId). k.node) N.clear

  abbrev Why : NodeId → Type 0
  Why n = Has C.need n ⊎ HasListedField L n

  row-why : (r : RowMarks) (n : NodeId) → Has C.rows r → r.node ≡ n → Why n
  row-why r n i e = inr (subst (HasListedField L) e (append_left (map (λ (r : RowMarks). r.node) C.rows) (map (λ (k : FieldId). k.node) L.registers) r.node (map-has (λ (r : RowMarks). r.node) C.rows r i)))

  reg-why : (r : RegMark) (n : NodeId) → Has C.regs r → r.field.node ≡ n → Why n
  reg-why r n i e = inr (subst (HasListedField L) e (append_right (map (λ (r : RowMarks). r.node) C.rows) (map (λ (k : FieldId). k.node) L.registers) r.field.node (map-has (λ (k : FieldId). k.node) L.registers r.field (map-has (λ (r : RegMark). r.field) C.regs r i))))

  told-why : (n : NodeId) → list_any tells (embed_cells (part n) (content D n)) ≡ true → Why n
  told-why n e = let r = row-listed D N C x f emb n (rest-told (part n) ((part n).new_cells None) (embed_cells (part n) (content D n)) e) in row-why r.0 n r.1 r.2

  some-node : {a b : NodeId} → ◌≡◌ {A = Option NodeId} (Some a) (Some b) → a ≡ b
  some-node q = cc

  need-why : (n : NodeId) → Has N.need n → Why n
  need-why n h = inl (item_of-has node_cmp node_cmp_total node_cmp_exact (λ (k : NodeId). k) C.need n n (emb.need.at_each n ∙ ap (λ b. cond b (Some n) None) ((among_has N.need n).1 h))).0

  group-why : (g : Group) → Has N.groups g → Why g.node
  group-why g h = go g.after refl g.cells refl
    where
      at : group_at N g.node g.after ≡ g.cells
      at = group_found N f.itself g h

      some : g.cells ≢ []
      some = all-has (λ (g : Group). g.cells ≢ []) N.groups g f.itself.group_some h

      known : IfSome g.after (λ c. D.row_of c ≡ Some g.node)
      known = (all-has (λ (k : Group). IsKnown D N k.node × IfSome k.after (λ c. D.row_of c ≡ Some k.node)) N.groups g f.groups_known h).1

      go : (a : Option CellId) → g.after ≡ a → (os : List Owned) → g.cells ≡ os → Why g.node
      go a e [] q = absurd (some q)
      go None e (o ∷ os) q =
          let made : Has (group_at N g.node None) o = subst (λ a. Has (group_at N g.node a) o) e (subst (λ l. Has l o) (sym at) (subst (λ l. Has l o) (sym q) (inl refl))) in
          let r = row-listed D N C x f emb g.node (make-told (part g.node) ((part g.node).new_cells None) (embed_cells (part g.node) (content D g.node)) o made) in row-why r.0 g.node r.1 r.2
      go (Some c) e (o ∷ os) q =
          let made : Has (group_at N g.node (Some c)) o = subst (λ a. Has (group_at N g.node a) o) e (subst (λ l. Has l o) (sym at) (subst (λ l. Has l o) (sym q) (inl refl))) in
          let row = (x.one_row c g.node).0 (subst (λ a. IfSome a (λ c. D.row_of c ≡ Some g.node)) e known) in
          told-why g.node (after-told (part g.node) (content D g.node) (slot D (owned_cell c row.0)) o (map-has (slot D) (D.rows g.node) (owned_cell c row.0) row.1) made)

  target-why : (p : Put) (c : CellId) (n : NodeId) → Has N.put p → p.to ≡ To.Cell c → D.row_of c ≡ Some n → Why n
  target-why p c n h e q = elim (subst (λ t. IfSome (cell_of t) (Owns D N p.node)) e (all-has (λ (p : Put). IsKnown D N p.node × IfSome (cell_of p.to) (Owns D N p.node) × IfSome (Rattle.st_marks.specs.Intent.register_of p.to) (λ k. IsKnown D N k.node)) N.put p f.puts_known h).1) [
    | inr g ↦ (let bad : None ≡ Some n = sym (f.fresh_cells c (made_there N (owned_cell c p.node) g)) ∙ q in cc)
    | inl r ↦ (let same = some-node (sym ((x.one_row c r.0).1 (p.node, r.1)) ∙ q) in at (slot D (owned_cell c p.node)).full refl (subst (λ k. Has (content D k) (slot D (owned_cell c p.node))) same (map-has (slot D) (D.rows r.0) (owned_cell c p.node) r.1)))
  ]
    where
      target_of : put_of N p.node ≡ Some (To.Cell c)
      target_of = has-put N f.itself p h ∙ ap (λ t. Some t) e

      at : (b : Bool) → (slot D (owned_cell c p.node)).full ≡ b → Has (content D n) (slot D (owned_cell c p.node)) → Why n
      at false g i = told-why n (fill-told (part n) (content D n) (slot D (owned_cell c p.node)) i g (put-is_here (put_of N p.node) (To.Cell c) target_of))
      at true g i =
          let j = subst (λ b. Has (content D n) (record { cell = c; node = p.node; full = b })) g i in
          let place = stands D x p.node n c j in
          let there = Rattle.st_marks.proofs.Climb.placed_known D x p.node (λ w. row-nowhere (sym place ∙ w)) in
          let said = (emb.which p.node).1 (p.node, append_left (put_nodes ++ N.need ++ group_nodes ++ target_nodes) clear_nodes p.node (append_left (put_nodes ++ N.need ++ group_nodes) target_nodes p.node (append_left (put_nodes ++ N.need) group_nodes p.node (append_left put_nodes N.need p.node (map-has (λ (p : Put). p.node) N.put p h)))), there, zero, refl) in
          let r = found-row D N C x f emb p.node n c said place in row-why r.0 n r.1 r.2
        where
          row-nowhere : Spot.Row n c ≡ Spot.Nowhere → ⊥
          row-nowhere s = cc

  clear-why : (k : FieldId) → Has N.clear k → Why k.node
  clear-why k h =
      let mark : RegMark = record { field = k; held = D.held k; how = how_held k (register_part m N k) (D.held k); clear = clears N k; fill = comes_in (D.held k) (Rattle.st_marks.specs.Intent.put_in N k) } in
      let said : clears N k ≡ true = has-any (λ g. Rattle.st_ids.specs.Order.same_field g k) N.clear k h (Rattle.st_ids.proofs.Orders.same_field-itself k) in
      let i = item_of-has field_cmp field_cmp_total field_cmp_exact (λ (r : RegMark). r.field) C.regs k mark (emb.regs.at_each k ∙ ap (λ b. cond (b || holds_mentioned m (D.held k)) (Some mark) None) said) in
      reg-why mark k.node i.0 refl

  cell-is : (t : To) (c : CellId) → cell_of t ≡ Some c → t ≡ To.Cell c
  cell-is To.Nowhere c e = cc
  cell-is (To.Cell d) c e = let q : d ≡ c = cc in ap (λ c. To.Cell c) q
  cell-is (To.Register g) c e = cc

  named-why : (n : NodeId) → put_of N n ≡ None → Has (named_by_intent D N) n → Why n
  named-why n free h = elim (has-append (put_nodes ++ N.need ++ group_nodes ++ target_nodes) clear_nodes n h) [
    | inr i ↦ (let k = has-map (λ (k : FieldId). k.node) N.clear n i in subst Why k.2 (clear-why k.0 k.1))
    | inl a ↦ elim (has-append (put_nodes ++ N.need ++ group_nodes) target_nodes n a) [
      | inr i ↦ (let p = Rattle.st_ids.proofs.Shared.filter-from (λ (p : Put). option_and_then D.row_of (cell_of p.to)) N.put n i in target p.0 p.1 (cell_of p.0.to) refl p.2)
      | inl b ↦ elim (has-append (put_nodes ++ N.need) group_nodes n b) [
        | inr i ↦ (let g = has-map (λ (g : Group). g.node) N.groups n i in subst Why g.2 (group-why g.0 g.1))
        | inl c ↦ elim (has-append put_nodes N.need n c) [
          | inr i ↦ need-why n i
          | inl i ↦ (let p = has-map (λ (p : Put). p.node) N.put n i in let bad : None ≡ Some p.0.to = sym free ∙ ap (put_of N) (sym p.2) ∙ has-put N f.itself p.0 p.1 in cc)
        ]
      ]
    ]
  ]
    where
      target : (p : Put) → Has N.put p → (q : Option CellId) → cell_of p.to ≡ q → option_and_then D.row_of q ≡ Some n → Why n
      target p i None e q = cc
      target p i (Some c) e q = target-why p c n i (cell-is p.to c e) q

  -- who is mentioned and isn't put is needed, or has a listed field
  pub why : (n : NodeId) → m n ≡ true → put_of N n ≡ None → Why n
  why n e free = let k = (emb.which n).0 e in go k.3 k.0 k.1 k.2 k.4
    where
      up : (q : NodeId) → m q ≡ true → (s : Spot) → D.place q ≡ s → node_of s ≡ Some n → Why n
      up q w Spot.Nowhere p t = cc
      up q w (Spot.Row r c) p t = let g = found-row D N C x f emb q r c w p in row-why g.0 n g.1 (g.2 ∙ some-node t)
      up q w (Spot.Register k) p t = let g = found-register D N C x f emb q k w p in reg-why g.0 n g.1 (ap (λ (k : FieldId). k.node) g.2 ∙ some-node t)

      go : (j : ℕ) (s : NodeId) → Has (named_by_intent D N) s → IsSome (D.nodes s) → climb (above D) j s ≡ Some n → Why n
      go zero s h k q = let same : s ≡ n = some-node q in named-why n free (subst (Has (named_by_intent D N)) same h)
      go (suc j) s h k q = let r = climb-last (above D) j s n q in up r.0 ((emb.which r.0).1 (s, h, k, j, r.1)) (D.place r.0) refl r.2

  pub reg-how : (k : FieldId) (p : RegisterPart) (q : Option NodeId) (r : RegMark) → embed_register k p q ≡ Some r → (how_held k p q ≡ r.how) × (p.clear ≡ r.clear)
  reg-how k p q r e = go (p.clear || holds_mentioned p.mentioned q) refl
    where
      at : Option RegMark → How
      at None = r.how
      at (Some z) = z.how

      cl : Option RegMark → Bool
      cl None = r.clear
      cl (Some z) = z.clear

      go : (b : Bool) → (p.clear || holds_mentioned p.mentioned q) ≡ b → (how_held k p q ≡ r.how) × (p.clear ≡ r.clear)
      go true g = let s = ap (λ b. cond b (Some (record { field = k; held = q; how = how_held k p q; clear = p.clear; fill = comes_in q p.fill })) None) (sym g) ∙ e in (ap at s, ap cl s)
      go false g = let bad : None ≡ Some r = ap (λ b. cond b (Some (record { field = k; held = q; how = how_held k p q; clear = p.clear; fill = comes_in q p.fill })) None) (sym g) ∙ e in cc

  pub loose-how : (n : NodeId) (l : Loose) → embed_loose m D N n ≡ Some l → how (put_of N n) To.Nowhere ≡ l.how
  loose-how n l e = ap at (ap (λ b. cond b (Some (record { node = n; how = how (put_of N n) To.Nowhere })) None) (sym (loose-is D N C x f emb n l e)) ∙ e)
    where
      at : Option Loose → How
      at None = l.how
      at (Some z) = z.how

  pub staying_are_mentioned : StayingNodesAreMentioned C
  staying_are_mentioned = has-all (λ n. Has C.need n ⊎ HasListedField L n) (staying_nodes (in_rows found_in C.rows ++ (flat_map kept_at C.regs ++ found_loose C.loose))) (λ n h.
      let g = staying-has (in_rows found_in C.rows ++ (flat_map kept_at C.regs ++ found_loose C.loose)) n h in subst Why g.2 (by g.0 g.1 g.3))
    where
      kept : (r : RegMark) (g : Found) → Has C.regs r → is_stay g.how ≡ true → (b : Bool) → r.clear ≡ b → Has (cond b [] (found_held r.held r.how)) g → Why g.node
      kept r g i s true e j = absurd j
      kept r g i s false e j =
          let q = found_held-is r.held r.how g j in
          let w = held-is D N C x f emb r.field (register_part m N r.field) (D.held r.field) r (reg-look D N C x f emb r i) in
          let z = reg-how r.field (register_part m N r.field) (D.held r.field) r (reg-look D N C x f emb r i) in
          let held = w.0 ∙ q.0 in
          let said : m g.node ≡ true = ap (holds_mentioned m) (sym held) ∙ (ap (λ b. b || holds_mentioned m (D.held r.field)) (sym (z.1 ∙ e)) ∙ w.1) in
          let is : how (put_of N g.node) (To.Register r.field) ≡ g.how = ap (how_held r.field (register_part m N r.field)) (sym held) ∙ z.0 ∙ q.1 in
          why g.node said (stay-none (put_of N g.node) (To.Register r.field) (ap is_stay is ∙ s))

      by : (g : Found) → Has (in_rows found_in C.rows ++ (flat_map kept_at C.regs ++ found_loose C.loose)) g → is_stay g.how ≡ true → Why g.node
      by g i s = elim (has-append (in_rows found_in C.rows) (flat_map kept_at C.regs ++ found_loose C.loose) g i) [
        | inl j ↦ (let r = has-flat_map (λ (r : RowMarks). found_in (spread r.marks)) C.rows g j in let t = found_in-has (spread r.0.marks) g r.2 in
            let w = touch-row (part r.0.node) (content D r.0.node) t.0 g.node g.how (subst (λ ms. Has ms (Touch t.0 g.node g.how)) (row-look D N C x f emb r.0 r.1).0 t.1) in
            why g.node w.0 (stay-none (put_of N g.node) (To.Cell t.0) (ap is_stay w.1 ∙ s)))
        | inr j ↦ elim (has-append (flat_map kept_at C.regs) (found_loose C.loose) g j) [
          | inl k ↦ (let r = has-flat_map kept_at C.regs g k in kept r.0 g r.1 s r.0.clear refl r.2)
          | inr k ↦ (let l = has-map (λ (l : Loose). let g : Found = record { node = l.node; how = l.how } in g) C.loose g k in
              let z = loose-look D N C x f emb l.0 l.1 in
              let q = parts D N C x f emb (m l.0.node && is_nowhere (D.place l.0.node)) (not (same_node l.0.node root)) (loose-is D N C x f emb l.0.node l.0 z) in
              subst Why (ap (λ (g : Found). g.node) l.2) (why l.0.node (parts D N C x f emb (m l.0.node) (is_nowhere (D.place l.0.node)) q.0).0 (stay-none (put_of N l.0.node) To.Nowhere (ap is_stay (loose-how l.0.node l.0 z ∙ ap (λ (g : Found). g.how) l.2) ∙ s))))
        ]
      ]
