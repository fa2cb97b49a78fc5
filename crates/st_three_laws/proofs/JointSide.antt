-- What two steps from one document find of it, together: it is shown as each shows it.
use Rattle.std.proofs.Common.{◌≡◌, ◌⊎◌, ◌++◌, ◌||◌, ◌&&◌, ℕ, zero, suc, Bool, true, false, not, List, [], ◌∷◌, map, slice_get, Option, Some, None, IsSome, IsTrue, option_map, cond, refl, sym, ap, ◌∙◌, subst, inl, inr}
use Rattle.std.specs.List.{AllZip, filter, find, flat_map, list_any}
use Rattle.std.specs.Option.{option_map_or, option_or}
use Rattle.st_ids.specs.Listing.{Has}
use Rattle.st_ids.specs.Order.{same_cell, same_field, same_node}
use Rattle.st_ids.specs.Root.{root}
use Rattle.st_ids.proofs.Orders.{same_cell-itself, same_cell-true, same_field-itself, same_field-true, same_node-itself, same_node-true}
use Rattle.st_ids.proofs.Shared.{at_has, filter-has, filtered}
use Rattle.st_ids.specs.declared.names.CellId.{CellId}
use Rattle.st_ids.specs.declared.names.FieldId.{FieldId}
use Rattle.st_ids.specs.declared.names.NodeId.{NodeId}
use Rattle.st_lemmas.proofs.Bools.{and-both, and-true, or-cases, or-left, or-right, true-false}
use Rattle.st_lemmas.proofs.Options.{None-IsSome, one_some, option_map-Some}
use Rattle.st_marks.specs.declared.places.Slot.{Slot}
use Rattle.st_marks.specs.declared.places.Spot.{Spot}
use Rattle.st_marks.specs.Agree.{IsSameView, SameIfBoth, field_of, row_field}
use Rattle.st_marks.specs.Document.{Document, IsSoundInForm, content, node_of}
use Rattle.st_marks.specs.Embedding.{is_among}
use Rattle.st_marks.specs.Listings.{CellView, Listing, ListsCell, Places, cell_view, is_among_cells, nodes_standing, one_or_none, placed_in_register, placed_in_row, placed_nowhere}
use Rattle.st_marks.proofs.Members.{any-has, append_left, append_right, first-distinct, first-has, flat_map-has, has-any, has-append, has-flat_map, has-map, map-has}
use Rattle.st_normal.proofs.NoRings.{among_has}
use Rattle.st_normal_laws.specs.Seed.{CanBeFound, Finds, FoundHeld, FoundRow, cells_named, nodes_found}
use Rattle.st_normal_laws.specs.Two.{AgreeBeside, IsUnder, cells_of_both, cells_of_row, join, joined_finds, joined_row, lists_row}
use Rattle.st_normal_laws.proofs.TwoSeed.{both_can_be_found, found-of, row-cell, row-shown}
use Rattle.st_puts.specs.Seen.{AreAsSeen}
use Rattle.st_puts.proofs.Basics.{is-one, one-is}
use Rattle.st_puts.proofs.StepPlaces.{slot-known}
use Rattle.st_rows.proofs.Documents.{in_document}
use Rattle.st_pair_laws.proofs.Alike.{IsApartFrom, ShowAlike}
use Rattle.st_pair_laws.proofs.Shown.{IsShown, Side}
use Rattle.st_three_laws.proofs.Between.{seen-has, told-is}

-- ## One side without what it makes

abbrev quiet : Listing → Listing
quiet L = record L { names = record { names_node = L.names.names_node; names_cell = L.names.names_cell; makes_node = λ n. false; makes_cell = λ c. false } }

abbrev still : Side → Side
still X = record { listing = quiet X.listing; finds = X.finds; new = []; made = []; loose = X.loose }

still-shown : (F : ℕ) (X : Side) → IsShown F X → IsShown F (still X)
still-shown F X p = record {
  rows = p.rows;
  held = p.held;
  full_told = p.full_told;
  cell_told = p.cell_told;
  owner_told = p.owner_told;
  known_told = p.known_told;
  new_told = λ n h. absurd h;
  new_apart = λ n h. absurd h;
  new_unowned = λ n r x h. absurd h;
  new_below = λ n h. absurd h;
  made_told = λ c h. absurd h;
  made_apart = λ c r h. absurd h;
  made_below = λ c h. absurd h;
  loose_shown = p.loose_shown;
  loose_known = p.loose_known;
  loose_alone = p.loose_alone;
  loose_below = p.loose_below;
  closed = p.closed;
}

loud : (L : Listing) (n : NodeId) (s : Spot) → Places (quiet L) n s → Places L n s
loud L n s (placed_in_row r m c cells k e f) = placed_in_row r m c cells k e f
loud L n s (placed_in_register f m e) = placed_in_register f m e
loud L n s (placed_nowhere m e) = placed_nowhere m e

-- a node that both show is at one place
abbrev pub AtOnePlace : Listing → Listing → Type 0
AtOnePlace L M = (n : NodeId) (s t : Spot) (f : FieldId) → Places L n s → Places M n t → (field_of s ≡ Some f) ⊎ (field_of t ≡ Some f) → s ≡ t

quiet-apart : (L M : Listing) → AtOnePlace L M → IsApartFrom (quiet L) (quiet M)
quiet-apart L M one = record {
  places = λ n s t f h i k. one n s t f (loud L n s h) (loud M n t i) k;
  nodes = λ n m k. true-false m refl;
  cells = λ c q m k. true-false m refl;
}

pub back : (L M : Listing) → AtOnePlace L M → AtOnePlace M L
back L M one n s t f h i k = sym (one n t s f i h (elim k [ inl e ↦ inr e | inr e ↦ inl e ]))

quiet-alike : (L M : Listing) → ShowAlike L M → ShowAlike (quiet L) (quiet M)
quiet-alike L M a = record {
  rows = a.rows;
  cells = λ c n m k l o p named v w. a.cells c n m k l o p named (record { cells = v.cells; full = v.full; listed = v.listed; at_place = v.at_place }) (record { cells = w.cells; full = w.full; listed = w.listed; at_place = w.at_place });
  registers = a.registers;
}

-- ## Cells of a row that both show

some-view : {x y : CellView} → ◌≡◌ {A = Option CellView} (Some x) (Some y) → x ≡ y
some-view e = cc

both-none : (xs : List CellView) → cells_of_both xs [] ≡ xs
both-none [] = refl
both-none (x ∷ xs) = refl

record FromBoth (xs ys : List CellView) (k : ℕ) (z : CellView) : Type 0 where
  first : CellView
  other : CellView
  first_at : slice_get xs k ≡ Some first
  other_at : slice_get ys k ≡ Some other
  same : IsSameView first other
  joined : join first other ≡ z

both-at : (xs ys : List CellView) (k : ℕ) (z : CellView) → AllZip IsSameView xs ys → slice_get (cells_of_both xs ys) k ≡ Some z → FromBoth xs ys k z
both-at [] [] k z a e = cc
both-at [] (y ∷ ys) k z a e = absurd a
both-at (x ∷ xs) [] k z a e = absurd a
both-at (x ∷ xs) (y ∷ ys) zero z a e = record { first = x; other = y; first_at = refl; other_at = refl; same = a.0; joined = some-view e }
both-at (x ∷ xs) (y ∷ ys) (suc k) z a e = let r = both-at xs ys k z a.1 e in record { first = r.first; other = r.other; first_at = r.first_at; other_at = r.other_at; same = r.same; joined = r.joined }

view-at : (xs : List CellView) (x : CellView) → Has xs x → (k : ℕ) × (slice_get xs k ≡ Some x)
view-at [] x h = absurd h
view-at (y ∷ xs) x (inl e) = (zero, ap (λ v. Some v) e)
view-at (y ∷ xs) x (inr h) = let r = view-at xs x h in (suc r.0, r.1)

either-same : {A : Type 0} (o p q : Option A) → SameIfBoth o p → SameIfBoth o q → SameIfBoth o (option_or p q)
either-same o None q a b = b
either-same o (Some x) q a b = a

meets-both : (zs xs ys : List CellView) → AllZip IsSameView zs xs → AllZip IsSameView zs ys → AllZip IsSameView zs (cells_of_both xs ys)
meets-both [] [] [] a b = tt
meets-both [] [] (y ∷ ys) a b = absurd b
meets-both [] (x ∷ xs) ys a b = absurd a
meets-both (z ∷ zs) [] ys a b = absurd a
meets-both (z ∷ zs) (x ∷ xs) [] a b = absurd b
meets-both (z ∷ zs) (x ∷ xs) (y ∷ ys) a b = (
  record { full = a.0.full; cell = either-same z.cell x.cell y.cell a.0.cell b.0.cell; node = either-same z.node x.node y.node a.0.node b.0.node },
  meets-both zs xs ys a.1 b.1,
)

-- who stands in a row by one stands in it by both

abbrev standing : CellView → List NodeId
standing x = cond x.full (one_or_none x.node) []

first-standing : (xs ys : List CellView) (n : NodeId) → Has (nodes_standing xs) n → Has (nodes_standing (cells_of_both xs ys)) n
first-standing [] ys n h = absurd h
first-standing (x ∷ xs) [] n h = h
first-standing (x ∷ xs) (y ∷ ys) n h = elim (has-append (standing x) (nodes_standing xs) n h) [
  | inl i ↦ append_left (standing (join x y)) (nodes_standing (cells_of_both xs ys)) n (go x.full x.node i)
  | inr i ↦ append_right (standing (join x y)) (nodes_standing (cells_of_both xs ys)) n (first-standing xs ys n i)
]
  where
    go : (b : Bool) (o : Option NodeId) → Has (cond b (one_or_none o) []) n → Has (cond b (one_or_none (option_or o y.node)) []) n
    go true (Some m) i = i
    go true None i = absurd i
    go false o i = absurd i

other-standing : (xs ys : List CellView) (n : NodeId) → AllZip IsSameView xs ys → Has (nodes_standing ys) n → Has (nodes_standing (cells_of_both xs ys)) n
other-standing [] [] n a h = absurd h
other-standing [] (y ∷ ys) n a h = absurd a
other-standing (x ∷ xs) [] n a h = absurd h
other-standing (x ∷ xs) (y ∷ ys) n a h = elim (has-append (standing y) (nodes_standing ys) n h) [
  | inl i ↦ append_left (standing (join x y)) (nodes_standing (cells_of_both xs ys)) n (go x.full y.full x.node y.node a.0.full a.0.node i)
  | inr i ↦ append_right (standing (join x y)) (nodes_standing (cells_of_both xs ys)) n (other-standing xs ys n a.1 i)
]
  where
    go : (b c : Bool) (o p : Option NodeId) → b ≡ c → SameIfBoth o p → Has (cond c (one_or_none p) []) n → Has (cond b (one_or_none (option_or o p)) []) n
    go true true None p e s i = i
    go true true (Some m) (Some k) e s i = subst (λ m. Has (one_or_none (Some m)) n) (sym s) i
    go true true (Some m) None e s i = absurd i
    go true false o p e s i = absurd i
    go false true o p e s i = absurd (true-false {b = false} e refl)
    go false false o p e s i = absurd i

-- ## Both together

module _ (F : ℕ) (A B : Side) (p : IsShown F A) (q : IsShown F B) (a : CanBeFound F A.finds) (b : CanBeFound F B.finds)
    (alike : ShowAlike A.listing B.listing) (one : AtOnePlace A.listing B.listing) where
  pub agree : AgreeBeside A.finds B.finds
  agree = Rattle.st_pair_laws.proofs.OneDocument.agree_beside F (still A) (still B) (still-shown F A p) (still-shown F B q) a b (quiet-alike A.listing B.listing alike)
      (quiet-apart A.listing B.listing one) (quiet-apart B.listing A.listing (back A.listing B.listing one))

  abbrev pub J : Finds
  J = joined_finds A.finds B.finds

  pub joint_found : CanBeFound F J
  joint_found = both_can_be_found F A.finds B.finds a b agree

  abbrev pub shown : Listing
  shown = record {
    row = λ n. option_map (λ (r : FoundRow). r.cells) (find (λ (r : FoundRow). same_node r.node n) J.rows);
    register = λ f. option_map (λ (h : FoundHeld). h.node) (find (λ (h : FoundHeld). same_field h.field f) J.held);
    nowhere = is_among (A.loose ++ B.loose);
    names = record {
      names_node = λ n. A.listing.names.names_node n || B.listing.names.names_node n;
      names_cell = λ n c. A.listing.names.names_cell n c || B.listing.names.names_cell n c;
      makes_node = B.listing.names.makes_node;
      makes_cell = B.listing.names.makes_cell;
    };
  }

  abbrev pub joint : Side
  joint = record { listing = shown; finds = J; new = B.new; made = B.made; loose = A.loose ++ B.loose }

  -- ## Where a row is from

  pub data RowFrom (r : FoundRow) : Type 0 where
    from_first : (t : FoundRow) → Has A.finds.rows t → t.node ≡ r.node → t.cells ≡ r.cells → RowFrom r
    from_both : (t w : FoundRow) → Has A.finds.rows t → Has B.finds.rows w → t.node ≡ r.node → w.node ≡ r.node → AllZip IsSameView t.cells w.cells → cells_of_both t.cells w.cells ≡ r.cells → RowFrom r
    from_other : Has B.finds.rows r → RowFrom r

  pub row-from : (r : FoundRow) → Has J.rows r → RowFrom r
  row-from r h = elim (has-append (map (joined_row B.finds.rows) A.finds.rows) (filter (λ (r : FoundRow). not (lists_row A.finds.rows r.node)) B.finds.rows) r h) [
    | inr j ↦ from_other (filtered (λ (r : FoundRow). not (lists_row A.finds.rows r.node)) B.finds.rows r j).0
    | inl j ↦ (let t = has-map (joined_row B.finds.rows) A.finds.rows r j in go t.0 t.1 t.2 (find (λ (w : FoundRow). same_node w.node t.0.node) B.finds.rows) refl)
  ]
    where
      go : (t : FoundRow) → Has A.finds.rows t → joined_row B.finds.rows t ≡ r → (o : Option FoundRow) → find (λ (w : FoundRow). same_node w.node t.node) B.finds.rows ≡ o → RowFrom r
      go t i e None f = from_first t i (ap (λ (r : FoundRow). r.node) e) (sym (both-none t.cells) ∙ ap (λ o. cells_of_both t.cells (option_map_or (λ (r : FoundRow). r.cells) o [])) (sym f) ∙ ap (λ (r : FoundRow). r.cells) e)
      go t i e (Some w) f =
          let k = first-has (λ (w : FoundRow). same_node w.node t.node) B.finds.rows w f in
          let same = same_node-true w.node t.node k.1 in
          from_both t w i k.0 (ap (λ (r : FoundRow). r.node) e) (same ∙ ap (λ (r : FoundRow). r.node) e) (agree.rows t w i k.0 (sym same)) (ap (λ o. cells_of_both t.cells (option_map_or (λ (r : FoundRow). r.cells) o [])) (sym f) ∙ ap (λ (r : FoundRow). r.cells) e)

  first-shows : (t : FoundRow) (n : NodeId) (cells : List CellView) → Has A.finds.rows t → t.node ≡ n → t.cells ≡ cells → A.listing.row n ≡ Some cells
  first-shows t n cells i e f = ap A.listing.row (sym e) ∙ p.rows t i ∙ ap (λ c. Some c) f

  other-shows : (t : FoundRow) (n : NodeId) (cells : List CellView) → Has B.finds.rows t → t.node ≡ n → t.cells ≡ cells → B.listing.row n ≡ Some cells
  other-shows t n cells i e f = ap B.listing.row (sym e) ∙ q.rows t i ∙ ap (λ c. Some c) f

  -- a row that is shown
  record ShownRow (n : NodeId) (cells : List CellView) : Type 0 where
    row : FoundRow
    there : Has J.rows row
    node : row.node ≡ n
    same : row.cells ≡ cells

  shown-row : (n : NodeId) (cells : List CellView) → shown.row n ≡ Some cells → ShownRow n cells
  shown-row n cells e =
      let o = option_map-Some (λ (r : FoundRow). r.cells) (find (λ (r : FoundRow). same_node r.node n) J.rows) cells e in
      let f = first-has (λ (r : FoundRow). same_node r.node n) J.rows o.0 o.1 in
      record { row = o.0; there = f.0; node = same_node-true o.0.node n f.1; same = o.2 }

  held-from : (h : FoundHeld) → Has J.held h → Has A.finds.held h ⊎ Has B.finds.held h
  held-from h i = elim (has-append A.finds.held (filter (λ (h : FoundHeld). not (list_any (λ (k : FoundHeld). same_field k.field h.field) A.finds.held)) B.finds.held) h i) [
    | inl j ↦ inl j
    | inr j ↦ inr (filtered (λ (h : FoundHeld). not (list_any (λ (k : FoundHeld). same_field k.field h.field) A.finds.held)) B.finds.held h j).0
  ]

  -- a register that is shown, one of the two shows
  shown-register : (f : FieldId) (o : Option NodeId) → shown.register f ≡ Some o → (A.listing.register f ≡ Some o) ⊎ (B.listing.register f ≡ Some o)
  shown-register f o e =
      let h = option_map-Some (λ (h : FoundHeld). h.node) (find (λ (h : FoundHeld). same_field h.field f) J.held) o e in
      let k = first-has (λ (h : FoundHeld). same_field h.field f) J.held h.0 h.1 in
      let same = same_field-true h.0.field f k.1 in
      elim (held-from h.0 k.0) [
        | inl i ↦ inl (ap A.listing.register (sym same) ∙ p.held h.0 i ∙ ap (λ o. Some o) h.2)
        | inr i ↦ inr (ap B.listing.register (sym same) ∙ q.held h.0 i ∙ ap (λ o. Some o) h.2)
      ]

  -- who is named in a full cell that both show, one of the two names there
  full-from : (t w : FoundRow) → Has A.finds.rows t → Has B.finds.rows w → (k : ℕ) (z : CellView) (v : FromBoth t.cells w.cells k z) (n : NodeId) → z.full ≡ true → z.node ≡ Some n
      → (c : CellId) × (z ≡ cell_view c n true) × ((slice_get t.cells k ≡ Some (cell_view c n true)) ⊎ (slice_get w.cells k ≡ Some (cell_view c n true)))
  full-from t w i j k z v n f e = go v.first.node refl
    where
      full : v.first.full ≡ true
      full = ap (λ (x : CellView). x.full) v.joined ∙ f

      go : (o : Option NodeId) → v.first.node ≡ o → (c : CellId) × (z ≡ cell_view c n true) × ((slice_get t.cells k ≡ Some (cell_view c n true)) ⊎ (slice_get w.cells k ≡ Some (cell_view c n true)))
      go (Some m) g =
          let node : v.first.node ≡ Some n = g ∙ ap (λ o. option_or o v.other.node) (sym g) ∙ ap (λ (x : CellView). x.node) v.joined ∙ e in
          let r = p.full_told t v.first n i (at_has t.cells k v.first v.first_at) full node in
          (r.0, sym v.joined ∙ ap (λ x. join x v.other) r.1, inl (v.first_at ∙ ap (λ x. Some x) r.1))
      go None g =
          let node : v.other.node ≡ Some n = ap (λ o. option_or o v.other.node) (sym g) ∙ ap (λ (x : CellView). x.node) v.joined ∙ e in
          let r = q.full_told w v.other n j (at_has w.cells k v.other v.other_at) (sym v.same.full ∙ full) node in
          let z_is : join v.first (cell_view r.0 n true) ≡ z = ap (λ x. join v.first x) (sym r.1) ∙ v.joined in
          let cell : option_or v.first.cell (Some r.0) ≡ Some r.0 = named v.first.cell r.0 (subst (λ (x : CellView). SameIfBoth v.first.cell x.cell) r.1 v.same.cell) in
          (r.0, sym z_is ∙ (λ i. record { cell = cell i; node = option_or (g i) (Some n); full = full i }), inr (v.other_at ∙ ap (λ x. Some x) r.1))
        where
          named : (o : Option CellId) (c : CellId) → SameIfBoth o (Some c) → option_or o (Some c) ≡ Some c
          named None c s = refl
          named (Some d) c s = ap (λ d. Some d) s

  some-one : {c d : CellId} {n m : NodeId} → cell_view c n true ≡ cell_view d m true → c ≡ d
  some-one {c} {d} e = one_some c d (ap (λ (x : CellView). x.cell) e)

  -- where a node is shown, one of the two shows it
  pub places-from : (n : NodeId) (s : Spot) → Places shown n s → Places A.listing n s ⊎ Places B.listing n s
  places-from n s (placed_in_row m o c cells k e f) = let r = shown-row m cells e in at r (row-from r.row r.there)
    where
      at : (r : ShownRow m cells) → RowFrom r.row → Places A.listing o (Spot.Row m c) ⊎ Places B.listing o (Spot.Row m c)
      at r (from_first t i g h) = inl (placed_in_row m o c cells k (first-shows t m cells i (g ∙ r.node) (h ∙ r.same)) f)
      at r (from_other i) = inr (placed_in_row m o c cells k (other-shows r.row m cells i r.node r.same) f)
      at r (from_both t w i j g h z l) =
          let v = both-at t.cells w.cells k (cell_view c o true) z (ap (λ c. slice_get c k) (l ∙ r.same) ∙ f) in
          let d = full-from t w i j k (cell_view c o true) v o refl refl in
          let same : d.0 ≡ c = sym (some-one d.1) in
          elim d.2 [
            | inl x ↦ inl (placed_in_row m o c t.cells k (first-shows t m t.cells i (g ∙ r.node) refl) (x ∙ ap (λ c. Some (cell_view c o true)) same))
            | inr x ↦ inr (placed_in_row m o c w.cells k (other-shows w m w.cells j (h ∙ r.node) refl) (x ∙ ap (λ c. Some (cell_view c o true)) same))
          ]
  places-from n s (placed_in_register f m e) = elim (shown-register f (Some m) e) [ inl h ↦ inl (placed_in_register f m h) | inr h ↦ inr (placed_in_register f m h) ]
  places-from n s (placed_nowhere m e) = elim (has-append A.loose B.loose m ((among_has (A.loose ++ B.loose) m).0 e)) [
    | inl h ↦ inl (placed_nowhere m (p.loose_shown m h))
    | inr h ↦ inr (placed_nowhere m (q.loose_shown m h))
  ]

  -- a cell that is shown, one of the two shows at that place
  pub lists-from : (c : CellId) (m : NodeId) (k : ℕ) (o : Option NodeId) → ListsCell shown c m k o → ((x : Option NodeId) × ListsCell A.listing c m k x) ⊎ ((x : Option NodeId) × ListsCell B.listing c m k x)
  lists-from c m k o l = let r = shown-row m l.cells l.listed in at r (row-from r.row r.there)
    where
      at : (r : ShownRow m l.cells) → RowFrom r.row → ((x : Option NodeId) × ListsCell A.listing c m k x) ⊎ ((x : Option NodeId) × ListsCell B.listing c m k x)
      at r (from_first t i g h) = inl (o, record { cells = l.cells; full = l.full; listed = first-shows t m l.cells i (g ∙ r.node) (h ∙ r.same); at_place = l.at_place })
      at r (from_other i) = inr (o, record { cells = l.cells; full = l.full; listed = other-shows r.row m l.cells i r.node r.same; at_place = l.at_place })
      at r (from_both t w i j g h z e) = go v.first.cell refl
        where
          view : CellView
          view = record { cell = Some c; node = o; full = l.full }

          v : FromBoth t.cells w.cells k view
          v = both-at t.cells w.cells k view z (ap (λ c. slice_get c k) (e ∙ r.same) ∙ l.at_place)

          go : (d : Option CellId) → v.first.cell ≡ d → ((x : Option NodeId) × ListsCell A.listing c m k x) ⊎ ((x : Option NodeId) × ListsCell B.listing c m k x)
          go (Some d) f =
              let name : v.first.cell ≡ Some c = f ∙ ap (λ o. option_or o v.other.cell) (sym f) ∙ ap (λ (x : CellView). x.cell) v.joined in
              inl (
                v.first.node,
                record {
                  cells = t.cells;
                  full = v.first.full;
                  listed = first-shows t m t.cells i (g ∙ r.node) refl;
                  at_place = v.first_at ∙ ap (λ o. let x : CellView = record { cell = o; node = v.first.node; full = v.first.full } in Some x) name;
                },
              )
          go None f =
              let name : v.other.cell ≡ Some c = ap (λ o. option_or o v.other.cell) (sym f) ∙ ap (λ (x : CellView). x.cell) v.joined in
              inr (
                v.other.node,
                record {
                  cells = w.cells;
                  full = v.other.full;
                  listed = other-shows w m w.cells j (h ∙ r.node) refl;
                  at_place = v.other_at ∙ ap (λ o. let x : CellView = record { cell = o; node = v.other.node; full = v.other.full } in Some x) name;
                },
              )

  -- ## Beside a third

  module _ (L : Listing) (x : ShowAlike L A.listing) (y : ShowAlike L B.listing) where
    pub joint_alike : ShowAlike L shown
    joint_alike = record { rows = rows; cells = cells; registers = registers }
      where
        rows : (n : NodeId) (c d : List CellView) → L.row n ≡ Some c → shown.row n ≡ Some d → AllZip IsSameView c d
        rows n c d e f = let r = shown-row n d f in at r (row-from r.row r.there)
          where
            at : (r : ShownRow n d) → RowFrom r.row → AllZip IsSameView c d
            at r (from_first t i g h) = x.rows n c d e (first-shows t n d i (g ∙ r.node) (h ∙ r.same))
            at r (from_other i) = y.rows n c d e (other-shows r.row n d i r.node r.same)
            at r (from_both t w i j g h z l) = subst (AllZip IsSameView c) (l ∙ r.same)
                (meets-both c t.cells w.cells (x.rows n c t.cells e (first-shows t n t.cells i (g ∙ r.node) refl)) (y.rows n c w.cells e (other-shows w n w.cells j (h ∙ r.node) refl)))

        cells : (c : CellId) (n m : NodeId) (k l : ℕ) (o r : Option NodeId) → IsTrue (L.names.names_cell n c) → ListsCell L c n k o → ListsCell shown c m l r → (n ≡ m) × (k ≡ l)
        cells c n m k l o r named f g = elim (lists-from c m l r g) [
          | inl h ↦ x.cells c n m k l o h.0 named f h.1
          | inr h ↦ y.cells c n m k l o h.0 named f h.1
        ]

        registers : (f : FieldId) (c d : Option NodeId) → L.register f ≡ Some c → shown.register f ≡ Some d → c ≡ d
        registers f c d e g = elim (shown-register f d g) [ inl h ↦ x.registers f c d e h | inr h ↦ y.registers f c d e h ]

  pub joint_one : (L : Listing) → AtOnePlace L A.listing → AtOnePlace L B.listing → AtOnePlace L shown
  joint_one L u v n s t f h i k = elim (places-from n t i) [ inl j ↦ u n s t f h j k | inr j ↦ v n s t f h j k ]

  module _ (L : Listing) (u : IsApartFrom L A.listing) (v : IsApartFrom L B.listing) (w : IsApartFrom B.listing L) where
    pub joint_apart : IsApartFrom L shown
    joint_apart = record {
      places = joint_one L u.places v.places;
      nodes = λ n made named. elim (or-cases (A.listing.names.names_node n) (B.listing.names.names_node n) named) [ inl h ↦ u.nodes n made h | inr h ↦ v.nodes n made h ];
      cells = λ c k made named. elim (or-cases (A.listing.names.names_cell k c) (B.listing.names.names_cell k c) named) [ inl h ↦ u.cells c k made h | inr h ↦ v.cells c k made h ];
    }

    pub apart_joint : IsApartFrom shown L
    apart_joint = record { places = back L shown (joint_one L u.places v.places); nodes = w.nodes; cells = w.cells }

  -- ## It is shown

  module _ (O : Document) (sound : IsSoundInForm O) (seen : (r : FoundRow) → Has A.finds.rows r → AreAsSeen (content O r.node) r.cells) (known : (n : NodeId) → Has A.finds.known n → IsSome (O.nodes n))
      (lacks : (n : NodeId) → Has B.new n → O.nodes n ≡ None) (unmade : (c : CellId) → Has B.made c → O.row_of c ≡ None) where
    -- the first tells nobody that the second makes, and no cell
    untold-node : (n : NodeId) (r : FoundRow) (v : CellView) → Has B.new n → Has A.finds.rows r → Has r.cells v → v.node ≡ Some n → ⊥
    untold-node n r v h i j e =
        let s = seen-has (content O r.node) r.cells v (seen r i) j in
        None-IsSome (O.nodes n) (lacks n h) (subst (λ n. IsSome (O.nodes n)) (sym (told-is v.node n s.0.node e s.2.2)) (slot-known O sound r.node s.0 s.1).1)

    none-some : {n : NodeId} → ◌≡◌ {A = Option NodeId} None (Some n) → ⊥
    none-some e = cc

    untold-cell : (c : CellId) (r : FoundRow) → Has B.made c → Has A.finds.rows r → Has (cells_named r.cells) c → ⊥
    untold-cell c r h i j =
        let v = has-flat_map (λ (x : CellView). one_or_none x.cell) r.cells c j in
        let s = seen-has (content O r.node) r.cells v.0 (seen r i) v.1 in
        let same : c ≡ s.0.cell = told-is v.0.cell c s.0.cell (one-is v.0.cell c v.2) s.2.1 in
        none-some (sym (unmade c h) ∙ in_document O sound r.node c (subst (Has (map (λ (s : Slot). s.cell) (content O r.node))) (sym same) (map-has (λ (s : Slot). s.cell) (content O r.node) s.0 s.1)))

    looked-row : (r : FoundRow) → Has J.rows r → shown.row r.node ≡ Some r.cells
    looked-row r h = ap (option_map (λ (r : FoundRow). r.cells)) (first-distinct (λ (r : FoundRow). r.node) J.rows (λ (t : FoundRow). same_node t.node r.node) r joint_found.rows_once h (same_node-itself r.node) (λ t e. same_node-true t.node r.node e))

    looked-register : (h : FoundHeld) → Has J.held h → shown.register h.field ≡ Some h.node
    looked-register h i = ap (option_map (λ (h : FoundHeld). h.node)) (first-distinct (λ (h : FoundHeld). h.field) J.held (λ (k : FoundHeld). same_field k.field h.field) h joint_found.fields_once i (same_field-itself h.field) (λ k e. same_field-true k.field h.field e))

    full-named : (r : FoundRow) (v : CellView) (n : NodeId) → Has J.rows r → Has r.cells v → v.full ≡ true → v.node ≡ Some n → (c : CellId) × (v ≡ cell_view c n true)
    full-named r v n h i f e = at (row-from r h)
      where
        at : RowFrom r → (c : CellId) × (v ≡ cell_view c n true)
        at (from_first t j g k) = p.full_told t v n j (subst (λ c. Has c v) (sym k) i) f e
        at (from_other j) = q.full_told r v n j i f e
        at (from_both t w j l g k z m) =
            let y = view-at (cells_of_both t.cells w.cells) v (subst (λ c. Has c v) (sym m) i) in
            let d = full-from t w j l y.0 v (both-at t.cells w.cells y.0 v z y.1) n f e in (d.0, d.1)

    -- who is told in a cell that both show, one of the two tells
    pub owner-from : (r : FoundRow) (v : CellView) (n : NodeId) → Has J.rows r → Has r.cells v → v.node ≡ Some n
        → ((t : FoundRow) × (x : CellView) × Has A.finds.rows t × Has t.cells x × (x.node ≡ Some n)) ⊎ ((t : FoundRow) × (x : CellView) × Has B.finds.rows t × Has t.cells x × (x.node ≡ Some n))
    owner-from r v n h i e = at (row-from r h)
      where
        at : RowFrom r → ((t : FoundRow) × (x : CellView) × Has A.finds.rows t × Has t.cells x × (x.node ≡ Some n)) ⊎ ((t : FoundRow) × (x : CellView) × Has B.finds.rows t × Has t.cells x × (x.node ≡ Some n))
        at (from_first t j g k) = inl (t, v, j, subst (λ c. Has c v) (sym k) i, e)
        at (from_other j) = inr (r, v, j, i, e)
        at (from_both t w j l g k z m) = go y.0 (both-at t.cells w.cells y.0 v z y.1)
          where
            y : (k : ℕ) × (slice_get (cells_of_both t.cells w.cells) k ≡ Some v)
            y = view-at (cells_of_both t.cells w.cells) v (subst (λ c. Has c v) (sym m) i)

            go : (k : ℕ) (s : FromBoth t.cells w.cells k v) → ((t : FoundRow) × (x : CellView) × Has A.finds.rows t × Has t.cells x × (x.node ≡ Some n)) ⊎ ((t : FoundRow) × (x : CellView) × Has B.finds.rows t × Has t.cells x × (x.node ≡ Some n))
            go k s = look s.first.node refl
              where
                look : (o : Option NodeId) → s.first.node ≡ o → ((t : FoundRow) × (x : CellView) × Has A.finds.rows t × Has t.cells x × (x.node ≡ Some n)) ⊎ ((t : FoundRow) × (x : CellView) × Has B.finds.rows t × Has t.cells x × (x.node ≡ Some n))
                look (Some d) f = inl (t, s.first, j, at_has t.cells k s.first s.first_at, f ∙ ap (λ o. option_or o s.other.node) (sym f) ∙ ap (λ (x : CellView). x.node) s.joined ∙ e)
                look None f = inr (w, s.other, l, at_has w.cells k s.other s.other_at, ap (λ o. option_or o s.other.node) (sym f) ∙ ap (λ (x : CellView). x.node) s.joined ∙ e)

    -- ## Who is above

    abbrev a_rows : List NodeId
    a_rows = flat_map (λ (r : FoundRow). nodes_standing r.cells) A.finds.rows

    under-first : (n : NodeId) (s : Spot) → IsUnder A.finds n s → (t : Spot) × IsUnder J n t
    under-first n s (inl (r, h, i, e)) = (
      Spot.Register (row_field r.node),
      inl (
        joined_row B.finds.rows r,
        append_left (map (joined_row B.finds.rows) A.finds.rows) (filter (λ (r : FoundRow). not (lists_row A.finds.rows r.node)) B.finds.rows) (joined_row B.finds.rows r) (map-has (joined_row B.finds.rows) A.finds.rows r h),
        first-standing r.cells (cells_of_row B.finds.rows r.node) n i,
        refl,
      ),
    )
    under-first n s (inr (h, i, e, f)) = (Spot.Register h.field, inr (h, append_left A.finds.held (filter (λ (h : FoundHeld). not (list_any (λ (k : FoundHeld). same_field k.field h.field) A.finds.held)) B.finds.held) h i, e, refl))

    under-other : (n : NodeId) (s : Spot) → IsUnder B.finds n s → (t : Spot) × IsUnder J n t
    under-other n s (inl (r, h, i, e)) = go (lists_row A.finds.rows r.node) refl
      where
        looked : (m : NodeId) → m ≡ r.node → cells_of_row B.finds.rows m ≡ r.cells
        looked m g = ap (λ o. option_map_or (λ (r : FoundRow). r.cells) o []) (first-distinct (λ (r : FoundRow). r.node) B.finds.rows (λ (t : FoundRow). same_node t.node m) r b.rows_once h (ap (λ k. same_node k m) (sym g) ∙ same_node-itself m) (λ t f. same_node-true t.node m f ∙ g))

        go : (c : Bool) → lists_row A.finds.rows r.node ≡ c → (t : Spot) × IsUnder J n t
        go false f = (Spot.Register (row_field r.node), inl (r, append_right (map (joined_row B.finds.rows) A.finds.rows) (filter (λ (r : FoundRow). not (lists_row A.finds.rows r.node)) B.finds.rows) r (filter-has (λ (r : FoundRow). not (lists_row A.finds.rows r.node)) B.finds.rows r h (ap not f)), i, refl))
        go true f =
            let t = any-has (λ (t : FoundRow). same_node t.node r.node) A.finds.rows f in
            let same = same_node-true t.0.node r.node t.2 in (
              Spot.Register (row_field t.0.node),
              inl (
                joined_row B.finds.rows t.0,
                append_left (map (joined_row B.finds.rows) A.finds.rows) (filter (λ (r : FoundRow). not (lists_row A.finds.rows r.node)) B.finds.rows) (joined_row B.finds.rows t.0) (map-has (joined_row B.finds.rows) A.finds.rows t.0 t.1),
                subst (λ ys. Has (nodes_standing (cells_of_both t.0.cells ys)) n) (sym (looked t.0.node same)) (other-standing t.0.cells r.cells n (agree.rows t.0 r t.1 h same) i),
                refl,
              ),
            )
    under-other n s (inr (h, i, e, f)) = go (list_any (λ (k : FoundHeld). same_field k.field h.field) A.finds.held) refl
      where
        go : (c : Bool) → list_any (λ (k : FoundHeld). same_field k.field h.field) A.finds.held ≡ c → (t : Spot) × IsUnder J n t
        go false g = (Spot.Register h.field, inr (h, append_right A.finds.held (filter (λ (h : FoundHeld). not (list_any (λ (k : FoundHeld). same_field k.field h.field) A.finds.held)) B.finds.held) h (filter-has (λ (h : FoundHeld). not (list_any (λ (k : FoundHeld). same_field k.field h.field) A.finds.held)) B.finds.held h i (ap not g)), e, refl))
        go true g =
            let k = any-has (λ (k : FoundHeld). same_field k.field h.field) A.finds.held g in
            (Spot.Register k.0.field, inr (k.0, append_left A.finds.held (filter (λ (h : FoundHeld). not (list_any (λ (k : FoundHeld). same_field k.field h.field) A.finds.held)) B.finds.held) k.0 k.1, agree.held k.0 h k.1 i (same_field-true k.0.field h.field k.2) ∙ e, refl))

    abbrev Above : NodeId → Type 0
    Above m = (m ≡ root) ⊎ ((t : Spot) × IsUnder J m t) ⊎ Has (A.loose ++ B.loose) m

    closed-first : (n m : NodeId) (s : Spot) → IsUnder A.finds n s → node_of s ≡ Some m → Above m
    closed-first n m s h e = elim (p.closed n m s h e) [
      | inl i ↦ inl i
      | inr i ↦ inr (elim i [ inl t ↦ inl (under-first m t.0 t.1) | inr j ↦ inr (append_left A.loose B.loose m j) ])
    ]

    closed-other : (n m : NodeId) (s : Spot) → IsUnder B.finds n s → node_of s ≡ Some m → Above m
    closed-other n m s h e = elim (q.closed n m s h e) [
      | inl i ↦ inl i
      | inr i ↦ inr (elim i [ inl t ↦ inl (under-other m t.0 t.1) | inr j ↦ inr (append_right A.loose B.loose m j) ])
    ]

    above : (n m : NodeId) (s : Spot) → IsUnder J n s → node_of s ≡ Some m → Above m
    above n m s (inl (r, h, i, e)) g =
        let up : Some r.node ≡ Some m = sym (ap node_of e) ∙ g in
        elim (row-shown F A.finds B.finds a b agree r n h i) [
          | inl t ↦ closed-first n m (Spot.Register (row_field t.0.node)) (inl (t.0, t.1, t.3, refl)) (ap (λ k. Some k) t.2 ∙ up)
          | inr t ↦ closed-other n m (Spot.Register (row_field t.0.node)) (inl (t.0, t.1, t.3, refl)) (ap (λ k. Some k) t.2 ∙ up)
        ]
    above n m s (inr (h, i, e, f)) g = elim (held-from h i) [
      | inl j ↦ closed-first n m s (inr (h, j, e, f)) g
      | inr j ↦ closed-other n m s (inr (h, j, e, f)) g
    ]

    -- who is nowhere by one isn't found by the other
    loose-apart : (n : NodeId) → Has (A.loose ++ B.loose) n → Has (nodes_found J) n → ⊥
    loose-apart n h i = elim (has-append A.loose B.loose n h) [
      | inl j ↦ elim (found-of F A.finds B.finds a b agree n i) [
        | inl k ↦ p.loose_alone n j k
        | inr k ↦ Rattle.st_pair_laws.proofs.OneDocument.loose-apart F (still A) (still B) (still-shown F A p) (still-shown F B q) a b (quiet-apart A.listing B.listing one) n j k
      ]
      | inr j ↦ elim (found-of F A.finds B.finds a b agree n i) [
        | inl k ↦ Rattle.st_pair_laws.proofs.OneDocument.loose-apart F (still B) (still A) (still-shown F B q) (still-shown F A p) b a (quiet-apart B.listing A.listing (back A.listing B.listing one)) n j k
        | inr k ↦ q.loose_alone n j k
      ]
    ]

    pub joint_shown : IsShown F joint
    joint_shown = record {
      rows = looked-row;
      held = looked-register;
      full_told = full-named;
      cell_told = λ r c i j. elim (row-cell F A.finds B.finds a b agree r c i j) [
        | inl t ↦ or-left (A.listing.names.names_cell r.node c) (B.listing.names.names_cell r.node c) (subst (λ n. IsTrue (A.listing.names.names_cell n c)) t.2 (p.cell_told t.0 c t.1 t.3))
        | inr t ↦ or-right (A.listing.names.names_cell r.node c) (B.listing.names.names_cell r.node c) (subst (λ n. IsTrue (B.listing.names.names_cell n c)) t.2 (q.cell_told t.0 c t.1 t.3))
      ];
      owner_told = λ r v n i j e. elim (owner-from r v n i j e) [
        | inl (t, x, k, l, f) ↦ or-left (A.listing.names.names_node n) (B.listing.names.names_node n) (p.owner_told t x n k l f)
        | inr (t, x, k, l, f) ↦ or-right (A.listing.names.names_node n) (B.listing.names.names_node n) (q.owner_told t x n k l f)
      ];
      known_told = λ n h. elim (has-append A.finds.known B.finds.known n h) [
        | inl i ↦ or-left (A.listing.names.names_node n) (B.listing.names.names_node n) (p.known_told n i)
        | inr i ↦ or-right (A.listing.names.names_node n) (B.listing.names.names_node n) (q.known_told n i)
      ];
      new_told = λ n h. let w = q.new_told n h in (w.0, or-right (A.listing.names.names_node n) (B.listing.names.names_node n) w.1);
      new_apart = λ n h. ((q.new_apart n h).0, λ i. elim (has-append A.finds.known B.finds.known n i) [ inl j ↦ None-IsSome (O.nodes n) (lacks n h) (known n j) | inr j ↦ (q.new_apart n h).1 j ]);
      new_unowned = λ n r v h i j e. elim (owner-from r v n i j e) [ inl (t, x, k, l, f) ↦ untold-node n t x h k l f | inr (t, x, k, l, f) ↦ q.new_unowned n t x h k l f ];
      new_below = q.new_below;
      made_told = λ c h. let w = q.made_told c h in (w.0, (w.1.0, or-right (A.listing.names.names_cell w.1.0 c) (B.listing.names.names_cell w.1.0 c) w.1.1));
      made_apart = λ c r h i j. elim (row-cell F A.finds B.finds a b agree r c i j) [ inl t ↦ untold-cell c t.0 h t.1 t.3 | inr t ↦ q.made_apart c t.0 h t.1 t.3 ];
      made_below = q.made_below;
      loose_shown = λ n h. (among_has (A.loose ++ B.loose) n).1 h;
      loose_known = λ n h. elim (has-append A.loose B.loose n h) [ inl i ↦ append_left A.finds.known B.finds.known n (p.loose_known n i) | inr i ↦ append_right A.finds.known B.finds.known n (q.loose_known n i) ];
      loose_alone = loose-apart;
      loose_below = λ n h. elim (has-append A.loose B.loose n h) [ inl i ↦ p.loose_below n i | inr i ↦ q.loose_below n i ];
      closed = above;
    }

    -- ## Without what it makes and what it names beside that

    abbrev bare_nodes : List NodeId
    bare_nodes = J.known ++ flat_map (λ (r : FoundRow). flat_map (λ (x : CellView). one_or_none x.node) r.cells) J.rows

    abbrev pub bare_shown : Listing
    bare_shown = record {
      row = shown.row;
      register = shown.register;
      nowhere = shown.nowhere;
      names = record {
        names_node = is_among (J.known ++ flat_map (λ (r : FoundRow). flat_map (λ (x : CellView). one_or_none x.node) r.cells) J.rows);
        names_cell = λ n c. list_any (λ (r : FoundRow). same_node r.node n && is_among_cells (cells_named r.cells) c) J.rows;
        makes_node = λ n. false;
        makes_cell = λ c. false;
      };
    }

    abbrev pub bare : Side
    bare = record { listing = bare_shown; finds = J; new = []; made = []; loose = A.loose ++ B.loose }

    pub bare_is_shown : IsShown F bare
    bare_is_shown = record {
      rows = joint_shown.rows;
      held = joint_shown.held;
      full_told = joint_shown.full_told;
      cell_told = λ r c i j. has-any (λ (t : FoundRow). same_node t.node r.node && is_among_cells (cells_named t.cells) c) J.rows r i (and-both (same_node r.node r.node) (is_among_cells (cells_named r.cells) c) (same_node-itself r.node) (has-any (λ d. same_cell d c) (cells_named r.cells) c j (same_cell-itself c)));
      owner_told = λ r v n i j e. (among_has bare_nodes n).1 (append_right J.known (flat_map (λ (r : FoundRow). flat_map (λ (x : CellView). one_or_none x.node) r.cells) J.rows) n
          (flat_map-has (λ (r : FoundRow). flat_map (λ (x : CellView). one_or_none x.node) r.cells) J.rows r n i (flat_map-has (λ (x : CellView). one_or_none x.node) r.cells v n j (is-one v.node n e))));
      known_told = λ n h. (among_has bare_nodes n).1 (append_left J.known (flat_map (λ (r : FoundRow). flat_map (λ (x : CellView). one_or_none x.node) r.cells) J.rows) n h);
      new_told = λ n h. absurd h;
      new_apart = λ n h. absurd h;
      new_unowned = λ n r x h. absurd h;
      new_below = λ n h. absurd h;
      made_told = λ c h. absurd h;
      made_apart = λ c r h. absurd h;
      made_below = λ c h. absurd h;
      loose_shown = joint_shown.loose_shown;
      loose_known = joint_shown.loose_known;
      loose_alone = joint_shown.loose_alone;
      loose_below = joint_shown.loose_below;
      closed = joint_shown.closed;
    }

    module _ (L : Listing) (x : ShowAlike L A.listing) (y : ShowAlike L B.listing) (u : AtOnePlace L A.listing) (v : AtOnePlace L B.listing)
        (nodes : (n : NodeId) → IsTrue (L.names.makes_node n) → (Has A.finds.known n ⊎ Has B.finds.known n ⊎ ((r : FoundRow) × (c : CellView) × Has A.finds.rows r × Has r.cells c × (c.node ≡ Some n)) ⊎ ((r : FoundRow) × (c : CellView) × Has B.finds.rows r × Has r.cells c × (c.node ≡ Some n))) → ⊥)
        (cells : (c : CellId) → IsTrue (L.names.makes_cell c) → ((r : FoundRow) × Has A.finds.rows r × Has (cells_named r.cells) c) ⊎ ((r : FoundRow) × Has B.finds.rows r × Has (cells_named r.cells) c) → ⊥) where
      pub bare_alike : ShowAlike L bare_shown
      bare_alike = record {
        rows = (joint_alike L x y).rows;
        cells = λ c n m k l o p named f g. (joint_alike L x y).cells c n m k l o p named f (record { cells = g.cells; full = g.full; listed = g.listed; at_place = g.at_place });
        registers = (joint_alike L x y).registers;
      }

      of-shown : (n : NodeId) (s : Spot) → Places bare_shown n s → Places shown n s
      of-shown n s (placed_in_row r m c cells k e f) = placed_in_row r m c cells k e f
      of-shown n s (placed_in_register f m e) = placed_in_register f m e
      of-shown n s (placed_nowhere m e) = placed_nowhere m e

      bare-one : AtOnePlace L bare_shown
      bare-one n s t f h i k = joint_one L u v n s t f h (of-shown n t i) k

      pub bare_apart : IsApartFrom L bare_shown
      bare_apart = record {
        places = bare-one;
        nodes = λ n made named. elim (has-append J.known (flat_map (λ (r : FoundRow). flat_map (λ (x : CellView). one_or_none x.node) r.cells) J.rows) n ((among_has bare_nodes n).0 named)) [
          | inl i ↦ elim (has-append A.finds.known B.finds.known n i) [ inl j ↦ nodes n made (inl j) | inr j ↦ nodes n made (inr (inl j)) ]
          | inr i ↦ (let r = has-flat_map (λ (r : FoundRow). flat_map (λ (x : CellView). one_or_none x.node) r.cells) J.rows n i in
              let c = has-flat_map (λ (x : CellView). one_or_none x.node) r.0.cells n r.2 in
              elim (owner-from r.0 c.0 n r.1 c.1 (one-is c.0.node n c.2)) [ inl j ↦ nodes n made (inr (inr (inl j))) | inr j ↦ nodes n made (inr (inr (inr j))) ])
        ];
        cells = λ c k made named.
            let r = any-has (λ (t : FoundRow). same_node t.node k && is_among_cells (cells_named t.cells) c) J.rows named in
            let d = any-has (λ d. same_cell d c) (cells_named r.0.cells) (and-true (same_node r.0.node k) (is_among_cells (cells_named r.0.cells) c) r.2).1 in
            elim (row-cell F A.finds B.finds a b agree r.0 c r.1 (subst (Has (cells_named r.0.cells)) (same_cell-true d.0 c d.2) d.1)) [
              | inl t ↦ cells c made (inl (t.0, t.1, t.3))
              | inr t ↦ cells c made (inr (t.0, t.1, t.3))
            ];
      }

      pub apart_bare : IsApartFrom bare_shown L
      apart_bare = record { places = back L bare_shown bare-one; nodes = λ n made named. true-false made refl; cells = λ c k made named. true-false made refl }
