-- A row that is listed alone: what its kind refuses is what the rules name.
use Rattle.std.proofs.Common.{◌≡◌, ◌≢◌, ◌↔◌, ℕ, zero, suc, ◌+◌, ◌||◌, Bool, true, false, List, [], ◌∷◌, Option, Some, None, option_map, cond, refl, sym, ap, ◌∙◌, subst, arith, inl, inr, ◌⊎◌, slice_get}
use Rattle.std.specs.List.{AllZip, flat_map}
use Rattle.std.proofs.lemmas.List.{append-nil}
use Rattle.std.proofs.lemmas.Option.{same_Some}
use Rattle.st_field_laws.specs.Alone.{IsNamedBeside, ListsRowAlone, NamesOnce, StepsRowAlone}
use Rattle.st_field_laws.proofs.RowNames.{cell_named, first_is, first_itself, found_shown, listed_made, listed_named, made_listed, named_listed, node_named, StandsShown, shown_found, shown_stands, stands_shown}
use Rattle.st_ids.specs.Listing.{AreDistinct, Has, item_of}
use Rattle.st_ids.specs.Order.{field_cmp, node_cmp, same_cell, same_node}
use Rattle.st_ids.specs.declared.names.CellId.{CellId}
use Rattle.st_ids.specs.declared.names.FieldId.{FieldId}
use Rattle.st_ids.specs.declared.names.NodeId.{NodeId}
use Rattle.st_ids.proofs.Orders.{same_cell-itself, same_cell-true, same_node-itself, same_node-true}
use Rattle.st_marks.specs.Agree.{Differs, MadeAgain, IsNamedInRow, IsSameView, row_field}
use Rattle.st_marks.specs.Embedding.{is_among}
use Rattle.st_marks.specs.Listings.{CellView, Listing, ListsCell, Places, cell_view, cells_before, cells_in, cells_made, is_among_cells, listing_before_change, listing_before_step, marks_of, nodes_loose, nodes_new, rows_before}
use Rattle.st_marks.specs.Row.{CellMark, spread}
use Rattle.st_marks.specs.declared.changes.Change.{Change}
use Rattle.st_marks.specs.declared.marks.Mark.{Mark}
use Rattle.st_marks.specs.declared.marks.RegMark.{RegMark}
use Rattle.st_marks.specs.declared.marks.RegStep.{RegStep}
use Rattle.st_marks.specs.declared.marks.RowMarks.{RowMarks}
use Rattle.st_marks.specs.declared.places.Spot.{Spot}
use Rattle.st_marks.specs.declared.steps.Step.{Step}
use Rattle.st_marks.proofs.Members.{any-has, has-any}
use Rattle.st_rows.specs.Differences.{first_difference}
use Rattle.st_rows.specs.Views.{DifferAt}
use Rattle.st_rows.proofs.Differences.{Tells, first_difference-tells}
use Rattle.st_seq.specs.NamedApart.{ApartAt, CantBoth, NamedApart, SaidApart, found_at, named_before, standing_at}
use Rattle.st_seq.specs.declared.name_clashes.NamedAt.{NamedAt}

-- ## What a listing of one row shows

one_at : (r : RowMarks) (q : NodeId) → item_of node_cmp (λ (x : RowMarks). x.node) (r ∷ []) q ≡ cond (same_node q r.node) (Some r) None
unfolding same_node
one_at r q = refl

-- a listing that shows one row, and has the names of its marks
record ShowsRow (L : Listing) (n : NodeId) (xs : List CellMark) : Type 0 where
  here : L.row n ≡ Some (cells_before xs)
  only : (q : NodeId) (cells : List CellView) → L.row q ≡ Some cells → (q ≡ n) × (cells ≡ cells_before xs)
  register : (f : FieldId) → L.register f ≡ None
  nowhere : (q : NodeId) → L.nowhere q ≡ false
  no_node : (q : NodeId) → L.names.makes_node q ≡ false
  names : (c : CellId) → L.names.names_cell n c ≡ is_among_cells (cells_in xs) c
  names_else : (q : NodeId) (c : CellId) → L.names.names_cell q c ≡ true → is_among_cells (cells_in xs) c ≡ true
  makes : (c : CellId) → L.names.makes_cell c ≡ is_among_cells (cells_made xs) c

module _ (r : RowMarks) where
  before_at : (q : NodeId) → rows_before (r ∷ []) q ≡ cond (same_node q r.node) (Some (cells_before (spread r.marks))) None
  before_at q = ap (option_map (λ (x : RowMarks). cells_before (spread x.marks))) (one_at r q) ∙ go (same_node q r.node)
    where
      go : (b : Bool) → option_map (λ (x : RowMarks). cells_before (spread x.marks)) (cond b (Some r) None) ≡ cond b (Some (cells_before (spread r.marks))) None
      go true = refl
      go false = refl

  before_here : rows_before (r ∷ []) r.node ≡ Some (cells_before (spread r.marks))
  before_here = before_at r.node ∙ ap (λ b. cond b (Some (cells_before (spread r.marks))) None) (same_node-itself r.node)

  before_only : (q : NodeId) (cells : List CellView) → rows_before (r ∷ []) q ≡ Some cells → (q ≡ r.node) × (cells ≡ cells_before (spread r.marks))
  before_only q cells e = go (same_node q r.node) refl (sym (before_at q) ∙ e)
    where
      go : (b : Bool) → same_node q r.node ≡ b → cond b (Some (cells_before (spread r.marks))) None ≡ Some cells → (q ≡ r.node) × (cells ≡ cells_before (spread r.marks))
      go true t h = (same_node-true q r.node t, sym (same_Some (cells_before (spread r.marks)) cells h))
      go false t h = cc

  marks_at : (q : NodeId) → marks_of (r ∷ []) q ≡ cond (same_node q r.node) (spread r.marks) []
  marks_at q = go (same_node q r.node) (one_at r q)
    where
      go : (b : Bool) → item_of node_cmp (λ (x : RowMarks). x.node) (r ∷ []) q ≡ cond b (Some r) None → marks_of (r ∷ []) q ≡ cond b (spread r.marks) []
      go true e = rw e refl
      go false e = rw e refl

  marks_here : marks_of (r ∷ []) r.node ≡ spread r.marks
  marks_here = marks_at r.node ∙ ap (λ b. cond b (spread r.marks) []) (same_node-itself r.node)

  marks_else : (q : NodeId) (c : CellId) → is_among_cells (cells_in (marks_of (r ∷ []) q)) c ≡ true → is_among_cells (cells_in (spread r.marks)) c ≡ true
  marks_else q c e = go (same_node q r.node) (sym (ap (λ ms. is_among_cells (cells_in ms) c) (marks_at q)) ∙ e)
    where
      go : (b : Bool) → is_among_cells (cells_in (cond b (spread r.marks) [])) c ≡ true → is_among_cells (cells_in (spread r.marks)) c ≡ true
      go true h = h
      go false h = cc

  made_all : (c : CellId) → is_among_cells (flat_map (λ (x : RowMarks). cells_made (spread x.marks)) (r ∷ [])) c ≡ is_among_cells (cells_made (spread r.marks)) c
  made_all c = ap (λ l. is_among_cells l c) (append-nil (cells_made (spread r.marks)))

change_shows : (C : Change) (n : NodeId) (marks : List Mark) → ListsRowAlone n marks C → ShowsRow (listing_before_change C) n (spread marks)
change_shows C n marks l = record {
  here = ap (λ rows. rows_before rows n) l.rows ∙ before_here (record { node = n; marks = marks });
  only = λ q cells e. before_only (record { node = n; marks = marks }) q cells (ap (λ rows. rows_before rows q) (sym l.rows) ∙ e);
  register = λ f. ap (λ regs. option_map (λ (x : RegMark). x.held) (item_of field_cmp (λ (x : RegMark). x.field) regs f)) l.regs;
  nowhere = λ q. ap (λ loose. is_among (nodes_loose loose) q) l.loose;
  no_node = λ q. ap (λ new. is_among (nodes_new new) q) l.new;
  names = λ c. ap (λ rows. is_among_cells (cells_in (marks_of rows n)) c) l.rows ∙ ap (λ ms. is_among_cells (cells_in ms) c) (marks_here (record { node = n; marks = marks }));
  names_else = λ q c e. marks_else (record { node = n; marks = marks }) q c (ap (λ rows. is_among_cells (cells_in (marks_of rows q)) c) (sym l.rows) ∙ e);
  makes = λ c. ap (λ rows. is_among_cells (flat_map (λ (x : RowMarks). cells_made (spread x.marks)) rows) c) l.rows ∙ made_all (record { node = n; marks = marks }) c;
}

step_shows : (S : Step) (n : NodeId) (marks : List Mark) → StepsRowAlone n marks S → ShowsRow (listing_before_step S) n (spread marks)
step_shows S n marks l = record {
  here = ap (λ rows. rows_before rows n) l.rows ∙ before_here (record { node = n; marks = marks });
  only = λ q cells e. before_only (record { node = n; marks = marks }) q cells (ap (λ rows. rows_before rows q) (sym l.rows) ∙ e);
  register = λ f. ap (λ regs. option_map (λ (x : RegStep). x.before) (item_of field_cmp (λ (x : RegStep). x.field) regs f)) l.regs;
  nowhere = λ q. ap (λ loose. is_among (nodes_loose loose) q) l.loose;
  no_node = λ q. ap (λ new. is_among (nodes_new new) q) l.new;
  names = λ c. ap (λ rows. is_among_cells (cells_in (marks_of rows n)) c) l.rows ∙ ap (λ ms. is_among_cells (cells_in ms) c) (marks_here (record { node = n; marks = marks }));
  names_else = λ q c e. marks_else (record { node = n; marks = marks }) q c (ap (λ rows. is_among_cells (cells_in (marks_of rows q)) c) (sym l.rows) ∙ e);
  makes = λ c. ap (λ rows. is_among_cells (flat_map (λ (x : RowMarks). cells_made (spread x.marks)) rows) c) l.rows ∙ made_all (record { node = n; marks = marks }) c;
}

-- ## Small steps

or_first : (a b : Bool) → a ≡ true → (a || b) ≡ true
or_first true b e = refl
or_first false b e = cc

or_second : (a b : Bool) → b ≡ true → (a || b) ≡ true
or_second true b e = refl
or_second false b e = e

cells_has : (cs : List CellId) (c : CellId) → is_among_cells cs c ≡ true → Has cs c
cells_has cs c e = let r = any-has (λ d. same_cell d c) cs e in subst (Has cs) (same_cell-true r.0 c r.2) r.1

has_cells : (cs : List CellId) (c : CellId) → Has cs c → is_among_cells cs c ≡ true
has_cells cs c h = has-any (λ d. same_cell d c) cs c h (same_cell-itself c)

-- listings that differ nowhere aren't unlike
not_unlike : (X Y : List CellView) → ((k : ℕ) → DifferAt X Y k → ⊥) → (AllZip IsSameView X Y → ⊥) → ⊥
not_unlike [] [] h bad = bad tt
not_unlike [] (t ∷ Y) h bad = h 0 tt
not_unlike (s ∷ X) [] h bad = h 0 tt
not_unlike (s ∷ X) (t ∷ Y) h bad = h 0 (λ same. not_unlike X Y (λ k d. h (suc k) d) (λ rest. bad (same, rest)))

-- listings that are alike differ nowhere
alike_nowhere : (X Y : List CellView) → AllZip IsSameView X Y → (k : ℕ) → DifferAt X Y k → ⊥
alike_nowhere [] [] a zero d = d
alike_nowhere [] [] a (suc k) d = d
alike_nowhere [] (t ∷ Y) a k d = a
alike_nowhere (s ∷ X) [] a k d = a
alike_nowhere (s ∷ X) (t ∷ Y) a zero d = d a.0
alike_nowhere (s ∷ X) (t ∷ Y) a (suc k) d = alike_nowhere X Y a.1 k d

-- what both show at one place, where they differ nowhere, isn't unlike
same_there : (X Y : List CellView) → ((k : ℕ) → DifferAt X Y k → ⊥) → (k : ℕ) (s t : CellView) → slice_get X k ≡ Some s → slice_get Y k ≡ Some t → (IsSameView s t → ⊥) → ⊥
same_there X Y h k s t e f bad = h k (rw (e, f) bad)

row_of : (n q : NodeId) → row_field n ≡ row_field q → n ≡ q
row_of n q e = ap (λ (f : FieldId). f.node) e

-- ## Two listings of one row

module _ (L M : Listing) (n : NodeId) (xs ys : List CellMark) (first : ShowsRow L n xs) (then : ShowsRow M n ys) where
  abbrev X : List CellView
  X = cells_before xs

  abbrev Y : List CellView
  Y = cells_before ys

  abbrev A : List NamedAt
  A = named_before 0 xs

  abbrev B : List NamedAt
  B = named_before 0 ys

  abbrev IsNamed : Type 0
  IsNamed = Differs L M (row_field n) ⊎ MadeAgain L M (row_field n) ⊎ MadeAgain M L (row_field n)

  -- a cell that the first names is named in the row
  in_row : (c : CellId) → Has (cells_in xs) c → IsNamedInRow L M c n
  in_row c h = or_first (L.names.names_cell n c) (M.names.names_cell n c) (first.names c ∙ has_cells (cells_in xs) c h)

  in_row_back : (c : CellId) → Has (cells_in ys) c → IsNamedInRow M L c n
  in_row_back c h = or_first (M.names.names_cell n c) (L.names.names_cell n c) (then.names c ∙ has_cells (cells_in ys) c h)

  twice : (c : CellId) (k l : ℕ) (o p : Option NodeId) (a b : Bool) → k ≢ l → slice_get X k ≡ Some (record { cell = Some c; node = o; full = a }) → slice_get Y l ≡ Some (record { cell = Some c; node = p; full = b })
      → Has (cells_in xs) c → Differs L M (row_field n)
  twice c k l o p a b other e f h = Differs.cell_twice c n n k l o p
      (record { cells = X; full = a; listed = first.here; at_place = e }) (record { cells = Y; full = b; listed = then.here; at_place = f }) (λ t. other t.1) n (in_row c h)

  same_name : (e f : NamedAt) → e.name ≡ f.name → cell_named e.name ≡ cell_named f.name
  same_name e f q = ap cell_named q

  cells_apart : (e f : NamedAt) → Has A e → Has B f → e.name ≡ f.name → CantBoth e f → IsNamed
  cells_apart e f h w q cant = go e.made refl f.made refl
    where
      c : CellId
      c = cell_named f.name

      has_c : Has (cells_in xs) c
      has_c = subst (Has (cells_in xs)) (same_name e f q) (named_listed 0 xs e h)

      go : (a : Bool) → e.made ≡ a → (b : Bool) → f.made ≡ b → IsNamed
      go a ea true fb = inr (inl (MadeAgain.cell_again c n n (then.makes c ∙ has_cells (cells_made ys) c (made_listed 0 ys f w fb)) (first.names c ∙ has_cells (cells_in xs) c has_c) (in_row c has_c)))
      go true ea false fb = inr (inr (MadeAgain.cell_again c n n (first.makes c ∙ has_cells (cells_made xs) c (subst (Has (cells_made xs)) (same_name e f q) (made_listed 0 xs e h ea)))
          (then.names c ∙ has_cells (cells_in ys) c (named_listed 0 ys f w)) (in_row_back c (named_listed 0 ys f w))))
      go false ea false fb =
          let x = found_shown 0 xs e h ea in
          let y = found_shown 0 ys f w fb in
          inl (twice c x.0 y.0 x.1.owner y.1.owner x.1.full y.1.full (λ t. cant ea fb (x.1.at ∙ ap (λ z. 0 + z) t ∙ sym y.1.at))
          (x.1.shown ∙ ap (λ d. Some (record { cell = Some d; node = x.1.owner; full = x.1.full })) (same_name e f q)) y.1.shown has_c)

  nodes_apart : (e f : NamedAt) → Has (standing_at 0 X) e → Has (standing_at 0 Y) f → e.name ≡ f.name → CantBoth e f → IsNamed
  nodes_apart e f h w q cant = stand_apart (stands_shown 0 xs e h) (stands_shown 0 ys f w)
    where
      m : NodeId
      m = node_named f.name

      stand_apart : ((i : ℕ) × StandsShown X 0 e i) → ((i : ℕ) × StandsShown Y 0 f i) → IsNamed
      stand_apart x y = go (same_cell x.1.cell y.1.cell) refl
        where
          other : x.0 ≢ y.0
          other t = cant x.1.found y.1.found (x.1.at ∙ ap (λ z. 0 + z) t ∙ sym y.1.at)

          at_x : slice_get X x.0 ≡ Some (cell_view x.1.cell m true)
          at_x = x.1.shown ∙ ap (λ a. Some (cell_view x.1.cell (node_named a) true)) q

          in_spot : Spot → CellId
          in_spot Spot.Nowhere = x.1.cell
          in_spot (Spot.Row r d) = d
          in_spot (Spot.Register g) = x.1.cell

          cell_of_row : Spot.Row n x.1.cell ≡ Spot.Row n y.1.cell → x.1.cell ≡ y.1.cell
          cell_of_row s = ap in_spot s

          go : (b : Bool) → same_cell x.1.cell y.1.cell ≡ b → IsNamed
          go true t =
              let one = same_cell-true x.1.cell y.1.cell t in
              let at_y : slice_get Y y.0 ≡ Some (cell_view x.1.cell m true) = y.1.shown ∙ ap (λ d. Some (cell_view d m true)) (sym one) in
              let has = shown_found 0 xs x.0 x.1.cell (Some m) true at_x in
              inl (twice x.1.cell x.0 y.0 (Some m) (Some m) true true other at_x at_y (named_listed 0 xs (found_at x.1.cell.0 (0 + x.0)) has))
          go false t = inl (Differs.node_twice m (Spot.Row n x.1.cell) (Spot.Row n y.1.cell) (Places.placed_in_row n m x.1.cell X x.0 first.here at_x) (Places.placed_in_row n m y.1.cell Y y.0 then.here y.1.shown)
              (λ s. let z : ◌≡◌ {A = Bool} false true = sym t ∙ ap (same_cell x.1.cell) (sym (cell_of_row s)) ∙ same_cell-itself x.1.cell in cc) (row_field n) (inl refl))

  -- what the kind refuses is named
  refused_named : (k : ℕ) → ApartAt X Y A B k → IsNamed
  refused_named k (inl d) = inl (Differs.rows_differ n X Y first.here then.here (λ a. alike_nowhere X Y a k d))
  refused_named k (inr (none, inl (NamedApart.named_apart e f q w cant j at))) = let r = first_is A f.name e q in cells_apart e f r.0 w r.1 cant
  refused_named k (inr (none, inr (NamedApart.named_apart e f q w cant j at))) = let r = first_is (standing_at 0 X) f.name e q in nodes_apart e f r.0 w r.1 cant

  -- ## What is named is refused, where the listings differ nowhere

  module _ (once : AreDistinct (λ (e : NamedAt). e.name) A) (stand : AreDistinct (λ (e : NamedAt). e.name) (standing_at 0 X)) (none : (k : ℕ) → DifferAt X Y k → ⊥) where
    abbrev IsSaid : Type 0
    IsSaid = (k : ℕ) × SaidApart X Y A B k

    cell_said : (e f : NamedAt) → Has A e → Has B f → e.name ≡ f.name → CantBoth e f → IsSaid
    cell_said e f h w q cant = (e.left, inl (NamedApart.named_apart e f (first_itself A e once h f.name q) w cant e.left (inl refl)))

    node_said : (e f : NamedAt) → Has (standing_at 0 X) e → Has (standing_at 0 Y) f → e.name ≡ f.name → CantBoth e f → IsSaid
    node_said e f h w q cant = (e.left, inr (NamedApart.named_apart e f (first_itself (standing_at 0 X) e stand h f.name q) w cant e.left (inl refl)))

    -- shown as listed, in the row
    at_first : (c : CellId) (q : NodeId) (k : ℕ) (o : Option NodeId) → ListsCell L c q k o → (q ≡ n) × ((b : Bool) × (slice_get X k ≡ Some (record { cell = Some c; node = o; full = b })))
    at_first c q k o l = let r = first.only q l.cells l.listed in (r.0, (l.full, ap (λ cells. slice_get cells k) (sym r.1) ∙ l.at_place))

    at_then : (c : CellId) (q : NodeId) (k : ℕ) (o : Option NodeId) → ListsCell M c q k o → (q ≡ n) × ((b : Bool) × (slice_get Y k ≡ Some (record { cell = Some c; node = o; full = b })))
    at_then c q k o l = let r = then.only q l.cells l.listed in (r.0, (l.full, ap (λ cells. slice_get cells k) (sym r.1) ∙ l.at_place))

    same_number : (k l : ℕ) → (k ≡ l) ⊎ (k ≢ l)
    same_number zero zero = inl refl
    same_number zero (suc l) = inr (λ e. omega (arith, e))
    same_number (suc k) zero = inr (λ e. omega (arith, e))
    same_number (suc k) (suc l) = elim (same_number k l) [ inl e ↦ inl (ap suc e) | inr h ↦ inr (λ e. h (omega (arith, e))) ]

    apart_found : (k l : ℕ) → k ≢ l → (e f : NamedAt) → e.left ≡ 0 + k → f.left ≡ 0 + l → CantBoth e f
    apart_found k l other e f p q a b s = other (omega (arith, p, q, s))

    -- where a node is shown in a row
    record StandsIn (Z : List CellView) (m : NodeId) (s : Spot) : Type 0 where
      cell : CellId
      spot : s ≡ Spot.Row n cell
      place : ℕ
      shown : slice_get Z place ≡ Some (cell_view cell m true)

    first_stands : (m : NodeId) (s : Spot) → Places L m s → StandsIn X m s
    first_stands m s (Places.placed_in_row r q c cells k e h) = let w = first.only r cells e in record { cell = c; spot = ap (λ z. Spot.Row z c) w.0; place = k; shown = ap (λ z. slice_get z k) (sym w.1) ∙ h }
    first_stands m s (Places.placed_in_register f q e) = let z = sym (first.register f) ∙ e in cc
    first_stands m s (Places.placed_nowhere q e) = let z = sym (first.nowhere q) ∙ e in cc

    then_stands : (m : NodeId) (s : Spot) → Places M m s → StandsIn Y m s
    then_stands m s (Places.placed_in_row r q c cells k e h) = let w = then.only r cells e in record { cell = c; spot = ap (λ z. Spot.Row z c) w.0; place = k; shown = ap (λ z. slice_get z k) (sym w.1) ∙ h }
    then_stands m s (Places.placed_in_register f q e) = let z = sym (then.register f) ∙ e in cc
    then_stands m s (Places.placed_nowhere q e) = let z = sym (then.nowhere q) ∙ e in cc

    differs_said : (g : FieldId) → g ≡ row_field n → Differs L M g → IsSaid
    differs_said g same (Differs.rows_differ q a b e f bad) =
        let x = first.only q a e in
        let y = then.only q b f in
        absurd (not_unlike X Y none (λ z. bad (subst (λ u. AllZip IsSameView u b) (sym x.1) (subst (AllZip IsSameView X) (sym y.1) z))))
    differs_said g same (Differs.cell_twice c q m k l o p u v bad r w) =
        let x = at_first c q k o u in
        let y = at_then c m l p v in
        elim (same_number k l) [
          | inl e ↦ absurd (same_there X Y none k _ _ x.1.1 (ap (slice_get Y) e ∙ y.1.1) (λ z. bad (x.0 ∙ sym y.0, e, z.node)))
          | inr other ↦ cell_said (found_at c.0 (0 + k)) (found_at c.0 (0 + l)) (shown_found 0 xs k c o x.1.0 x.1.1) (shown_found 0 ys l c p y.1.0 y.1.1) refl (apart_found k l other (found_at c.0 (0 + k)) (found_at c.0 (0 + l)) refl refl)
        ]
    differs_said g same (Differs.registers_differ f a b e h bad) = let z = sym (first.register f) ∙ e in cc
    differs_said g same (Differs.node_twice m s t u v bad f w) =
        let x = first_stands m s u in
        let y = then_stands m t v in
        elim (same_number x.place y.place) [
          | inl e ↦ absurd (same_there X Y none x.place _ _ x.shown (ap (slice_get Y) e ∙ y.shown) (λ z. bad (x.spot ∙ ap (Spot.Row n) z.cell ∙ sym y.spot)))
          | inr other ↦ node_said (found_at m.0 (0 + x.place)) (found_at m.0 (0 + y.place)) (shown_stands 0 X x.place x.cell m x.shown) (shown_stands 0 Y y.place y.cell m y.shown) refl (apart_found x.place y.place other (found_at m.0 (0 + x.place)) (found_at m.0 (0 + y.place)) refl refl)
        ]

    again_said : (g : FieldId) → g ≡ row_field n → MadeAgain L M g → IsSaid
    again_said g same (MadeAgain.node_again q u v) = let z : ◌≡◌ {A = Bool} false true = sym (then.no_node q) ∙ u in cc
    again_said g same (MadeAgain.cell_again c q r u v w) =
        let made = listed_made 0 ys c (cells_has (cells_made ys) c (sym (then.makes c) ∙ u)) in
        let named = listed_named 0 xs c (cells_has (cells_in xs) c (first.names_else q c v)) in
        cell_said named.0 made.0 named.1 made.1 (ap (λ (d : CellId). d.0) (named.2 ∙ sym made.2)) (λ a b s. let z : ◌≡◌ {A = Bool} true false = sym made.3 ∙ b in cc)

    back_said : (g : FieldId) → g ≡ row_field n → MadeAgain M L g → IsSaid
    back_said g same (MadeAgain.node_again q u v) = let z : ◌≡◌ {A = Bool} false true = sym (first.no_node q) ∙ u in cc
    back_said g same (MadeAgain.cell_again c q r u v w) =
        let made = listed_made 0 xs c (cells_has (cells_made xs) c (sym (first.makes c) ∙ u)) in
        let named = listed_named 0 ys c (cells_has (cells_in ys) c (then.names_else q c v)) in
        cell_said made.0 named.0 made.1 named.1 (ap (λ (d : CellId). d.0) (made.2 ∙ sym named.2)) (λ a b s. let z : ◌≡◌ {A = Bool} true false = sym made.3 ∙ a in cc)

    named_said : IsNamed → IsSaid
    named_said (inl d) = differs_said (row_field n) refl d
    named_said (inr (inl d)) = again_said (row_field n) refl d
    named_said (inr (inr d)) = back_said (row_field n) refl d

  named_refused : AreDistinct (λ (e : NamedAt). e.name) A → AreDistinct (λ (e : NamedAt). e.name) (standing_at 0 X) → IsNamed → (k : ℕ) × ApartAt X Y A B k
  named_refused once stand w = go (first_difference X Y) (first_difference-tells X Y)
    where
      go : (o : Option ℕ) → Tells X Y o → (k : ℕ) × ApartAt X Y A B k
      go None none = let r = named_said once stand none w in (r.0, inr (none, r.1))
      go (Some k) d = (k, inl d.0)

pub row_clash : (C : Change) (S : Step) (n : NodeId) (xs ys : List Mark) → ListsRowAlone n xs C → StepsRowAlone n ys S → NamesOnce (spread xs)
    → ((k : ℕ) × ApartAt (cells_before (spread xs)) (cells_before (spread ys)) (named_before 0 (spread xs)) (named_before 0 (spread ys)) k) ↔ IsNamedBeside C S (row_field n)
row_clash C S n xs ys c t once =
    let first = change_shows C n xs c in
    let then = step_shows S n ys t in (
      (λ d. refused_named (listing_before_change C) (listing_before_step S) n (spread xs) (spread ys) first then d.0 d.1),
      (λ w. named_refused (listing_before_change C) (listing_before_step S) n (spread xs) (spread ys) first then once.cells once.nodes w),
    )
