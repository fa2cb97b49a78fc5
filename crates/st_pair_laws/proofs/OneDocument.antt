-- What two find that agree has one seed, in which both find what is so and nothing is there that either makes.
use Rattle.std.proofs.Common.{◌≡◌, ◌≢◌, ◌⊎◌, ℕ, zero, suc, Bool, true, false, not, List, [], ◌∷◌, map, length, slice_get, Option, Some, None, IsSome, cond, refl, sym, ap, ◌∙◌, subst, inl, inr}
use Rattle.std.specs.List.{filter, find, flat_map}
use Rattle.std.specs.Option.{option_map_or, option_or}
use Rattle.st_ids.specs.Listing.{Has}
use Rattle.st_ids.specs.Order.{same_node}
use Rattle.st_ids.specs.Root.{root}
use Rattle.st_ids.proofs.Listings.{}
use Rattle.st_ids.proofs.Shared.{at_has, filtered}
use Rattle.st_ids.specs.declared.names.CellId.{CellId}
use Rattle.st_ids.specs.declared.names.FieldId.{FieldId}
use Rattle.st_ids.specs.declared.names.NodeId.{NodeId}
use Rattle.st_marks.specs.declared.intents.Owned.{Owned}
use Rattle.st_marks.specs.declared.places.Slot.{Slot}
use Rattle.st_marks.specs.declared.places.Spot.{Spot}
use Rattle.st_marks.specs.Agree.{field_of, row_field}
use Rattle.st_marks.specs.Document.{Document, IsSoundInForm, node_of, owned_cell}
use Rattle.st_marks.specs.Embedding.{is_among}
use Rattle.st_marks.specs.Listings.{CellView, Listing, ListsCell, Places, placed_in_register, placed_in_row, placed_nowhere, nodes_standing, one_or_none}
use Rattle.st_marks.proofs.Members.{append_left, append_right, first-has, flat_map-has, has-append, has-flat_map, has-map}
use Rattle.st_normal.proofs.NoRings.{among_has}
use Rattle.st_normal_laws.specs.Laid.{LaidRow, cells_at, laid_document, owned_at}
use Rattle.st_normal_laws.specs.Seed.{CanBeFound, Finds, FoundHeld, FoundRow, IsBelow, cells_named, fresh_node, lay, lay_row, nodes_found, owners_laid, seed}
use Rattle.st_normal_laws.specs.Two.{AgreeBeside, IsNamedAt, IsUnder, cell_key, cells_of_both, cells_of_row, joined_finds, joined_row, lists_row, node_key}
use Rattle.st_normal_laws.proofs.LaidSound.{cell_found}
use Rattle.st_normal_laws.proofs.SeedSound.{cell_is, fresh-not, seed_layout, seed_nowhere, seed_sound}
use Rattle.st_normal_laws.proofs.TwoSeed.{both_can_be_found, found-of, row-cell}
use Rattle.st_puts.proofs.Basics.{is-one, one-is}
use Rattle.st_pair_laws.proofs.Alike.{IsApartFrom, ShowAlike}
use Rattle.st_pair_laws.proofs.Shown.{IsShown, Side}

-- ## Cells of a row by their places

at-of : {K : Type 0} (key : CellView → Option K) (xs : List CellView) (k : ℕ) (c : K) → IsNamedAt key xs k c → (x : CellView) × (slice_get xs k ≡ Some x) × (key x ≡ Some c)
at-of key [] k c h = absurd h
at-of key (x ∷ xs) zero c h = (x, refl, h)
at-of key (x ∷ xs) (suc k) c h = at-of key xs k c h

some-view : {x y : CellView} → ◌≡◌ {A = Option CellView} (Some x) (Some y) → x ≡ y
some-view q = cc

named-at : {K : Type 0} (key : CellView → Option K) (xs : List CellView) (k : ℕ) (c : K) (x : CellView) → slice_get xs k ≡ Some x → key x ≡ Some c → IsNamedAt key xs k c
named-at key [] k c x e f = cc
named-at key (y ∷ xs) zero c x e f = ap key (some-view e) ∙ f
named-at key (y ∷ xs) (suc k) c x e f = named-at key xs k c x e f

-- a node in a full cell
record StandsIn (xs : List CellView) (n : NodeId) : Type 0 where
  place : ℕ
  view : CellView
  here : slice_get xs place ≡ Some view
  full : view.full ≡ true
  node : view.node ≡ Some n

stands-in : (xs : List CellView) (n : NodeId) → Has (nodes_standing xs) n → StandsIn xs n
stands-in [] n h = absurd h
stands-in (x ∷ xs) n h = elim (has-append (cond x.full (one_or_none x.node) []) (nodes_standing xs) n h) [
  | inl i ↦ (let f = first x.full refl i in record { place = zero; view = x; here = refl; full = f.0; node = f.1 })
  | inr i ↦ (let r = stands-in xs n i in record { place = suc r.place; view = r.view; here = r.here; full = r.full; node = r.node })
]
  where
    first : (b : Bool) → x.full ≡ b → Has (cond b (one_or_none x.node) []) n → (x.full ≡ true) × (x.node ≡ Some n)
    first true e i = (e, one-is x.node n i)
    first false e i = absurd i

node-of-key : (x : CellView) (n : NodeId) → node_key x ≡ Some n → (x.full ≡ true) × (x.node ≡ Some n)
node-of-key x n h = go x.full refl h
  where
    go : (b : Bool) → x.full ≡ b → cond b x.node None ≡ Some n → (x.full ≡ true) × (x.node ≡ Some n)
    go true e f = (e, f)
    go false e f = cc

-- ## What one shows

none-field : (f : FieldId) → ◌≡◌ {A = Option FieldId} None (Some f) → ⊥
none-field f e = cc

-- a node is shown in a row or a register
record StandsSomewhere (L : Listing) (n : NodeId) : Type 0 where
  spot : Spot
  field : FieldId
  placed : Places L n spot
  there : field_of spot ≡ Some field

module _ (F : ℕ) (X : Side) (p : IsShown F X) where
  cell-listed : (r : FoundRow) (k : ℕ) (c : CellId) → Has X.finds.rows r → IsNamedAt cell_key r.cells k c → (o : Option NodeId) × ListsCell X.listing c r.node k o
  cell-listed r k c h i =
      let x = at-of cell_key r.cells k c i in
      (x.0.node, record { cells = r.cells; full = x.0.full; listed = p.rows r h; at_place = x.1 ∙ ap (λ (o : Option CellId). let y : CellView = record { cell = o; node = x.0.node; full = x.0.full } in Some y) x.2 })

  cell-there : (r : FoundRow) (k : ℕ) (c : CellId) → IsNamedAt cell_key r.cells k c → Has (cells_named r.cells) c
  cell-there r k c i = let x = at-of cell_key r.cells k c i in flat_map-has (λ (y : CellView). one_or_none y.cell) r.cells x.0 c (at_has r.cells k x.0 x.1) (is-one x.0.cell c x.2)

  node-placed : (r : FoundRow) (k : ℕ) (n : NodeId) (x : CellView) → Has X.finds.rows r → slice_get r.cells k ≡ Some x → x.full ≡ true → x.node ≡ Some n → (c : CellId) × Places X.listing n (Spot.Row r.node c) × (x.cell ≡ Some c)
  node-placed r k n x h e f g = let d = p.full_told r x n h (at_has r.cells k x e) f g in
      (d.0, placed_in_row r.node n d.0 r.cells k (p.rows r h) (e ∙ ap (λ x. Some x) d.1), ap (λ (x : CellView). x.cell) d.1)

  row-placed : (r : FoundRow) (n : NodeId) → Has X.finds.rows r → Has (nodes_standing r.cells) n → (c : CellId) × Places X.listing n (Spot.Row r.node c)
  row-placed r n h i = let a = stands-in r.cells n i in let d = node-placed r a.place n a.view h a.here a.full a.node in (d.0, d.1)

  held-placed : (h : FoundHeld) (n : NodeId) → Has X.finds.held h → h.node ≡ Some n → Places X.listing n (Spot.Register h.field)
  held-placed h n i e = placed_in_register h.field n (p.held h i ∙ ap (λ o. Some o) e)

  found-placed : (n : NodeId) → Has (nodes_found X.finds) n → StandsSomewhere X.listing n
  found-placed n h = elim (has-append (flat_map (λ (r : FoundRow). nodes_standing r.cells) X.finds.rows) (flat_map (λ (h : FoundHeld). one_or_none h.node) X.finds.held) n h) [
    | inl i ↦ (let r = has-flat_map (λ (r : FoundRow). nodes_standing r.cells) X.finds.rows n i in let d = row-placed r.0 n r.1 r.2 in record { spot = Spot.Row r.0.node d.0; field = row_field r.0.node; placed = d.1; there = refl })
    | inr i ↦ (let k = has-flat_map (λ (h : FoundHeld). one_or_none h.node) X.finds.held n i in record { spot = Spot.Register k.0.field; field = k.0.field; placed = held-placed k.0 n k.1 (one-is k.0.node n k.2); there = refl })
  ]

  under-found : (n : NodeId) (s : Spot) → IsUnder X.finds n s → Has (nodes_found X.finds) n
  under-found n s (inl (r, h, i, e)) = append_left (flat_map (λ (r : FoundRow). nodes_standing r.cells) X.finds.rows) (flat_map (λ (h : FoundHeld). one_or_none h.node) X.finds.held) n (flat_map-has (λ (r : FoundRow). nodes_standing r.cells) X.finds.rows r n h i)
  under-found n s (inr (h, i, e, f)) = append_right (flat_map (λ (r : FoundRow). nodes_standing r.cells) X.finds.rows) (flat_map (λ (h : FoundHeld). one_or_none h.node) X.finds.held) n (flat_map-has (λ (h : FoundHeld). one_or_none h.node) X.finds.held h n i (is-one h.node n e))

-- ## One beside the other

module _ (F : ℕ) (X Y : Side) (p : IsShown F X) (q : IsShown F Y) (a : CanBeFound F X.finds) (b : CanBeFound F Y.finds) (u : IsApartFrom X.listing Y.listing) where
  -- who is nowhere isn't found by the other
  pub loose-apart : (n : NodeId) → Has X.loose n → Has (nodes_found Y.finds) n → ⊥
  loose-apart n h i =
      let d = found-placed F Y q n i in
      none-field d.field (ap field_of (u.places n Spot.Nowhere d.spot d.field (placed_nowhere n (p.loose_shown n h)) d.placed (inr d.there)) ∙ d.there)

  closed-beside : (n m : NodeId) (s : Spot) → IsUnder X.finds n s → node_of s ≡ Some m → ((t : Spot) × IsUnder X.finds m t) ⊎ ((t : Spot) → IsUnder X.finds m t ⊎ IsUnder Y.finds m t → ⊥)
  closed-beside n m s h e = elim (p.closed n m s h e) [
    | inl i ↦ inr (λ t k. elim k [
      | inl j ↦ a.root_stays (subst (Has (nodes_found X.finds)) i (under-found F X p m t j))
      | inr j ↦ b.root_stays (subst (Has (nodes_found Y.finds)) i (under-found F Y q m t j))
    ])
    | inr c ↦ elim c [
      | inl i ↦ inl i
      | inr i ↦ inr (λ t k. elim k [
        | inl j ↦ p.loose_alone m i (under-found F X p m t j)
        | inr j ↦ loose-apart m i (under-found F Y q m t j)
      ])
    ]
  ]

  -- what one makes the other doesn't know
  new-apart : (n : NodeId) → Has X.new n → (n ≢ root) × (Has X.finds.known n → ⊥) × (Has Y.finds.known n → ⊥)
      × ((r : FoundRow) (x : CellView) → Has X.finds.rows r → Has r.cells x → x.node ≡ Some n → ⊥) × ((r : FoundRow) (x : CellView) → Has Y.finds.rows r → Has r.cells x → x.node ≡ Some n → ⊥)
  new-apart n h = (
    (p.new_apart n h).0,
    (p.new_apart n h).1,
    λ i. u.nodes n (p.new_told n h).0 (q.known_told n i),
    λ r x i j e. p.new_unowned n r x h i j e,
    λ r x i j e. u.nodes n (p.new_told n h).0 (q.owner_told r x n i j e),
  )

  made-apart : (c : CellId) → Has X.made c → ((r : FoundRow) → Has X.finds.rows r → Has (cells_named r.cells) c → ⊥) × ((r : FoundRow) → Has Y.finds.rows r → Has (cells_named r.cells) c → ⊥)
  made-apart c h = (λ r i j. p.made_apart c r h i j, λ r i j. u.cells c r.node (p.made_told c h).0 (q.cell_told r c i j))

-- ## Who owns a cell of the seed

lay-owner : (F : ℕ) (n : NodeId) (xs : List CellView) (s : Slot) → Has (lay F n xs) s → ((x : CellView) × Has xs x × (x.node ≡ Some s.node)) ⊎ (s.node ≡ root) ⊎ ((k : ℕ) × (s.node ≡ fresh_node F n k))
lay-owner F n [] s h = absurd h
lay-owner F n (x ∷ xs) s (inl e) = go x.node refl x.full (ap (λ (s : Slot). s.node) e)
  where
    go : (o : Option NodeId) → x.node ≡ o → (b : Bool) → option_map_or (λ (m : NodeId). m) o (cond b (fresh_node F n (length xs)) root) ≡ s.node → ((y : CellView) × Has (x ∷ xs) y × (y.node ≡ Some s.node)) ⊎ (s.node ≡ root) ⊎ ((k : ℕ) × (s.node ≡ fresh_node F n k))
    go (Some m) e b f = inl (x, inl refl, e ∙ ap (λ m. Some m) f)
    go None e true f = inr (inr (length xs, sym f))
    go None e false f = inr (inl (sym f))
lay-owner F n (x ∷ xs) s (inr h) = elim (lay-owner F n xs s h) [ inl (y, i, e) ↦ inl (y, inr i, e) | inr i ↦ inr i ]

joined-owner : (xs ys : List CellView) (z : CellView) (n : NodeId) → Has (cells_of_both xs ys) z → z.node ≡ Some n → ((x : CellView) × Has xs x × (x.node ≡ Some n)) ⊎ ((y : CellView) × Has ys y × (y.node ≡ Some n))
joined-owner [] ys z n h e = absurd h
joined-owner (x ∷ xs) [] z n h e = inl (z, h, e)
joined-owner (x ∷ xs) (y ∷ ys) z n (inl q) e = go x.node refl (ap (λ (z : CellView). z.node) q ∙ e)
  where
    go : (o : Option NodeId) → x.node ≡ o → option_or o y.node ≡ Some n → ((v : CellView) × Has (x ∷ xs) v × (v.node ≡ Some n)) ⊎ ((v : CellView) × Has (y ∷ ys) v × (v.node ≡ Some n))
    go None f g = inr (y, inl refl, g)
    go (Some m) f g = inl (x, inl refl, f ∙ g)
joined-owner (x ∷ xs) (y ∷ ys) z n (inr h) e = elim (joined-owner xs ys z n h e) [ inl (v, i, f) ↦ inl (v, inr i, f) | inr (v, i, f) ↦ inr (v, inr i, f) ]

row-cells : (rows : List FoundRow) (n : NodeId) (z : CellView) → Has (cells_of_row rows n) z → (r : FoundRow) × Has rows r × Has r.cells z
row-cells rows n z h = go (find (λ (r : FoundRow). same_node r.node n) rows) refl h
  where
    go : (o : Option FoundRow) → find (λ (r : FoundRow). same_node r.node n) rows ≡ o → Has (option_map_or (λ (r : FoundRow). r.cells) o []) z → (r : FoundRow) × Has rows r × Has r.cells z
    go None e i = absurd i
    go (Some r) e i = (r, (first-has (λ (r : FoundRow). same_node r.node n) rows r e).0, i)

-- ## The seed of both

module _ (F : ℕ) (X Y : Side) (p : IsShown F X) (q : IsShown F Y) (a : CanBeFound F X.finds) (b : CanBeFound F Y.finds)
    (alike : ShowAlike X.listing Y.listing) (u : IsApartFrom X.listing Y.listing) (v : IsApartFrom Y.listing X.listing) where
  rows-cells : (r t : FoundRow) (k l : ℕ) (c : CellId) → Has X.finds.rows r → Has Y.finds.rows t → IsNamedAt cell_key r.cells k c → IsNamedAt cell_key t.cells l c → (r.node ≡ t.node) × (k ≡ l)
  rows-cells r t k l c h i d e =
      let f = cell-listed F X p r k c h d in
      let g = cell-listed F Y q t l c i e in
      alike.cells c r.node t.node k l f.0 g.0 (p.cell_told r c h (cell-there F X p r k c d)) f.1 g.1

  one-row : (r t : FoundRow) (c d : CellId) → Spot.Row r.node c ≡ Spot.Row t.node d → c ≡ d
  one-row r t c d e = cc

  rows-nodes : (r t : FoundRow) (k l : ℕ) (n : NodeId) → Has X.finds.rows r → Has Y.finds.rows t → IsNamedAt node_key r.cells k n → IsNamedAt node_key t.cells l n → (r.node ≡ t.node) × (k ≡ l)
  rows-nodes r t k l n h i d e =
      let x = at-of node_key r.cells k n d in
      let z = at-of node_key t.cells l n e in
      let fx = node-of-key x.0 n x.2 in
      let fz = node-of-key z.0 n z.2 in
      let cx = node-placed F X p r k n x.0 h x.1 fx.0 fx.1 in
      let cz = node-placed F Y q t l n z.0 i z.1 fz.0 fz.1 in
      let same : cx.0 ≡ cz.0 = one-row r t cx.0 cz.0 (u.places n (Spot.Row r.node cx.0) (Spot.Row t.node cz.0) (row_field r.node) cx.1 cz.1 (inl refl)) in
      rows-cells r t k l cx.0 h i (named-at cell_key r.cells k cx.0 x.0 x.1 cx.2) (named-at cell_key t.cells l cx.0 z.0 z.1 (cz.2 ∙ ap (λ c. Some c) (sym same)))

  one-register : (f g : FieldId) → Spot.Register f ≡ Spot.Register g → f ≡ g
  one-register f g e = cc

  row-register : (n : NodeId) (c : CellId) (f : FieldId) → Spot.Row n c ≡ Spot.Register f → ⊥
  row-register n c f e = cc

  pub agree_beside : AgreeBeside X.finds Y.finds
  agree_beside = record {
    rows = λ r t h i e. alike.rows r.node r.cells t.cells (p.rows r h) (subst (λ n. Y.listing.row n ≡ Some t.cells) (sym e) (q.rows t i));
    cells = λ r t k l c h i d e. rows-cells r t k l c h i d e;
    nodes = λ r t k l n h i d e. rows-nodes r t k l n h i d e;
    held = λ h k i j e. alike.registers h.field h.node k.node (p.held h i) (subst (λ f. Y.listing.register f ≡ Some k.node) (sym e) (q.held k j));
    held_once = λ h k n i j e f. one-register h.field k.field (u.places n (Spot.Register h.field) (Spot.Register k.field) h.field (held-placed F X p h n i e) (held-placed F Y q k n j f) (inl refl));
    row_held = λ r k n h j i f. let c = row-placed F X p r n h i in row-register r.node c.0 k.field (u.places n (Spot.Row r.node c.0) (Spot.Register k.field) k.field c.1 (held-placed F Y q k n j f) (inr refl));
    held_row = λ h t n i j e f. let c = row-placed F Y q t n j f in row-register t.node c.0 h.field (sym (u.places n (Spot.Register h.field) (Spot.Row t.node c.0) h.field (held-placed F X p h n i e) c.1 (inl refl)));
    first_closed = λ n m s h e. closed-beside F X Y p q a b u n m s h e;
    second_closed = λ n m s h e. elim (closed-beside F Y X q p b a v n m s h e) [
      | inl i ↦ inl i
      | inr i ↦ inr (inr (λ t k. i t (elim k [ inl j ↦ inr j | inr j ↦ inl j ])))
    ];
  }

  abbrev pub J : Finds
  J = joined_finds X.finds Y.finds

  pub can_be_found : CanBeFound F J
  can_be_found = both_can_be_found F X.finds Y.finds a b agree_beside

  abbrev pub D : Document
  D = laid_document (seed F J)

  pub seed_is_sound : IsSoundInForm D
  seed_is_sound = seed_sound F J can_be_found

  -- whom a cell of the seed tells, one of both tells
  owner-from : (r : FoundRow) (x : CellView) (n : NodeId) → Has J.rows r → Has r.cells x → x.node ≡ Some n
      → ((t : FoundRow) × (z : CellView) × Has X.finds.rows t × Has t.cells z × (z.node ≡ Some n)) ⊎ ((t : FoundRow) × (z : CellView) × Has Y.finds.rows t × Has t.cells z × (z.node ≡ Some n))
  owner-from r x n h i e = elim (has-append (map (joined_row Y.finds.rows) X.finds.rows) (filter (λ (r : FoundRow). not (lists_row X.finds.rows r.node)) Y.finds.rows) r h) [
    | inr j ↦ inr (r, x, (filtered (λ (r : FoundRow). not (lists_row X.finds.rows r.node)) Y.finds.rows r j).0, i, e)
    | inl j ↦ (let t = has-map (joined_row Y.finds.rows) X.finds.rows r j in
        elim (joined-owner t.0.cells (cells_of_row Y.finds.rows t.0.node) x n (subst (λ (r : FoundRow). Has r.cells x) (sym t.2) i) e) [
          | inl (z, k, f) ↦ inl (t.0, z, t.1, k, f)
          | inr (z, k, f) ↦ (let o = row-cells Y.finds.rows t.0.node z k in inr (o.0, z, o.1, o.2, f))
        ])
  ]

  unknown : (n : NodeId) → IsBelow F n.0 → (n ≢ root) × (Has X.finds.known n → ⊥) × (Has Y.finds.known n → ⊥)
      × ((r : FoundRow) (x : CellView) → Has X.finds.rows r → Has r.cells x → x.node ≡ Some n → ⊥) × ((r : FoundRow) (x : CellView) → Has Y.finds.rows r → Has r.cells x → x.node ≡ Some n → ⊥)
      → D.nodes n ≡ None
  unknown n low w = go (is_among (root ∷ (seed F J).known) n) refl
    where
      owned : (r : FoundRow) (s : Slot) → Has J.rows r → Has (lay F r.node r.cells) s → s.node ≡ n → ⊥
      owned r s h i e = elim (lay-owner F r.node r.cells s i) [
        | inl (x, j, f) ↦ elim (owner-from r x n h j (f ∙ ap (λ n. Some n) e)) [
          | inl (t, z, k, l, g) ↦ w.3 t z k l g
          | inr (t, z, k, l, g) ↦ w.4 t z k l g
        ]
        | inr c ↦ elim c [ inl f ↦ w.0 (sym e ∙ f) | inr (k, f) ↦ fresh-not F r.node k n.0 low (ap (λ (n : NodeId). n.0) (sym e ∙ f)) ]
      ]

      absent : Has (root ∷ (seed F J).known) n → ⊥
      absent (inl e) = w.0 (sym e)
      absent (inr i) = elim (has-append J.known (owners_laid F J.rows) n i) [
        | inl j ↦ elim (has-append X.finds.known Y.finds.known n j) [ inl k ↦ w.1 k | inr k ↦ w.2 k ]
        | inr j ↦ (let r = has-flat_map (λ (r : FoundRow). map (λ (s : Slot). s.node) (lay F r.node r.cells)) J.rows n j in
            let s = has-map (λ (s : Slot). s.node) (lay F r.0.node r.0.cells) n r.2 in owned r.0 s.0 r.1 s.1 s.2)
      ]

      go : (b : Bool) → is_among (root ∷ (seed F J).known) n ≡ b → D.nodes n ≡ None
      go false e = rw e refl
      go true e = absurd (absent ((among_has (root ∷ (seed F J).known) n).0 e))

  absent : (c : CellId) → IsBelow F c.0 → ((r : FoundRow) → Has X.finds.rows r → Has (cells_named r.cells) c → ⊥) × ((r : FoundRow) → Has Y.finds.rows r → Has (cells_named r.cells) c → ⊥) → D.row_of c ≡ None
  absent c low w = go (D.row_of c) refl
    where
      named : (r : FoundRow) (s : Slot) → Has J.rows r → Has (lay F r.node r.cells) s → s.cell ≡ c → ⊥
      named r s h i e = elim (cell_is F r.node r.cells s i) [
        | inl j ↦ elim (row-cell F X.finds Y.finds a b agree_beside r c h (subst (Has (cells_named r.cells)) e j)) [
          | inl (t, k, f, l) ↦ w.0 t k l
          | inr (t, k, f, l) ↦ w.1 t k l
        ]
        | inr (k, l, f) ↦ fresh-not F r.node k c.0 low (ap (λ (c : CellId). c.0) (sym e ∙ f))
      ]

      go : (o : Option NodeId) → D.row_of c ≡ o → o ≡ None
      go None e = refl
      go (Some n) e =
          let o = (seed_is_sound.one_row c n).0 e in
          let s = has-map owned_at (cells_at (seed F J).rows n) (owned_cell c o.0) o.1 in
          let r = cell_found (seed F J) (seed_layout F J can_be_found) n s.0 s.1 in
          let f = has-map (lay_row F) J.rows r.0 r.1 in
          absurd (named f.0 s.0 f.1 (subst (λ (l : LaidRow). Has l.cells s.0) (sym f.2) r.2) (ap (λ (o : Owned). o.cell) s.2))

  -- ## What either makes isn't there

  pub first_new : (n : NodeId) → Has X.new n → D.nodes n ≡ None
  first_new n h = unknown n (p.new_below n h) (new-apart F X Y p q a b u n h)

  pub second_new : (n : NodeId) → Has Y.new n → D.nodes n ≡ None
  second_new n h = let w = new-apart F Y X q p b a v n h in unknown n (q.new_below n h) (w.0, w.2, w.1, w.4, w.3)

  pub first_made : (c : CellId) → Has X.made c → D.row_of c ≡ None
  first_made c h = absent c (p.made_below c h) (made-apart F X Y p q a b u c h)

  pub second_made : (c : CellId) → Has Y.made c → D.row_of c ≡ None
  second_made c h = let w = made-apart F Y X q p b a v c h in absent c (q.made_below c h) (w.1, w.0)

  -- ## Who is nowhere is there, and nowhere

  pub known_there : (n : NodeId) → Has J.known n → IsSome (D.nodes n)
  known_there n h = rw ((among_has (root ∷ (seed F J).known) n).1 (inr (append_left J.known (owners_laid F J.rows) n h))) refl

  nowhere : (n : NodeId) → IsBelow F n.0 → (Has (nodes_found X.finds) n → ⊥) → (Has (nodes_found Y.finds) n → ⊥) → D.place n ≡ Spot.Nowhere
  nowhere n low f g = seed_nowhere F J can_be_found n low (λ h. elim (found-of F X.finds Y.finds a b agree_beside n h) [ inl i ↦ f i | inr i ↦ g i ])

  pub first_loose : (n : NodeId) → Has X.loose n → (D.place n ≡ Spot.Nowhere) × IsSome (D.nodes n)
  first_loose n h = (
    nowhere n (p.loose_below n h) (λ i. p.loose_alone n h i) (λ i. loose-apart F X Y p q a b u n h i),
    known_there n (append_left X.finds.known Y.finds.known n (p.loose_known n h)),
  )

  pub second_loose : (n : NodeId) → Has Y.loose n → (D.place n ≡ Spot.Nowhere) × IsSome (D.nodes n)
  second_loose n h = (
    nowhere n (q.loose_below n h) (λ i. loose-apart F Y X q p b a v n h i) (λ i. q.loose_alone n h i),
    known_there n (append_right X.finds.known Y.finds.known n (q.loose_known n h)),
  )
