-- What a step shows of the document before it and of the document after it, list by list, and that it names what it shows.
use Rattle.std.proofs.Common.{◌≡◌, ◌≢◌, ◌++◌, ℕ, zero, suc, Bool, true, false, not, List, [], ◌∷◌, map, slice_get, Option, Some, None, IsTrue, option_map, cond, refl, sym, ap, ◌∙◌, subst, inl, inr, ◌⊎◌}
use Rattle.std.specs.List.{flat_map}
use Rattle.std.specs.Option.{option_map_or, option_or}
use Rattle.st_ids.specs.Listing.{AreDistinct, Has, item_of}
use Rattle.st_ids.specs.Order.{field_cmp, node_cmp, same_cell}
use Rattle.st_ids.proofs.Listings.{has-item_of, item_of-has}
use Rattle.st_ids.proofs.Orders.{field_cmp_exact, field_cmp_total, node_cmp_exact, node_cmp_total, same_cell-itself, same_cell-true}
use Rattle.st_ids.specs.declared.names.CellId.{CellId}
use Rattle.st_ids.specs.declared.names.FieldId.{FieldId}
use Rattle.st_ids.specs.declared.names.NodeId.{NodeId}
use Rattle.st_marks.specs.declared.marks.How.TheVariants.{Stay, Here, Leave}
use Rattle.st_marks.specs.declared.marks.Loose.{Loose}
use Rattle.st_marks.specs.declared.marks.RegStep.{RegStep}
use Rattle.st_marks.specs.declared.marks.RowMarks.{RowMarks}
use Rattle.st_marks.specs.declared.places.Spot.{Spot}
use Rattle.st_marks.specs.declared.steps.Step.{Step}
use Rattle.st_marks.specs.Embedding.{is_among}
use Rattle.st_marks.specs.Listings.{CellView, ListsCell, Listing, Places, cell_after, cell_view, cells_after, cells_before, cells_in, cells_made, is_among_cells, listing_after_step, listing_before_step, marks_of, names_of_step, nodes_in, nodes_loose, nodes_new, nodes_of_rows, nodes_standing, one_or_none, placed_after, placed_before, placed_in_register, placed_in_row, placed_nowhere}
use Rattle.st_marks.specs.Row.{CellMark, Counted, Gap, Touch, Make, Fill, spread}
use Rattle.st_marks.proofs.Members.{all-has, any-has, append_left, append_right, distinct-between, distinct-right, flat_map-has, has-any, has-append, has-flat_map, has-map, list_distinct, map-has, one_list}
use Rattle.st_normal.specs.declared.entries.Found.{Found}
use Rattle.st_normal.specs.Rules.{Entries, IsFound, ObeysStepRules, entries_of_step, fill_owners, found_in, found_loose, found_over, hole_owners, how_over, in_rows}
use Rattle.st_normal.proofs.NoRings.{among_has}
use Rattle.st_lemmas.proofs.Options.{one_some}
use Rattle.st_puts.proofs.Basics.{is-one, one-is}
use Rattle.st_puts.proofs.FoundPlaces.{found_held-is, is-found_held}
use Rattle.st_normal_laws.specs.Seed.{cells_named}
use Rattle.st_marks.specs.How.{is_leave}
use Rattle.st_lemmas.proofs.Bools.{and-both}

abbrev pub row_key : RowMarks → NodeId
row_key r = r.node

abbrev pub reg_key : RegStep → FieldId
reg_key r = r.field

pub none-some : {A : Type 0} {a : A} → None ≡ Some a → ⊥
none-some e = cc

pub cell-has : (cs : List CellId) (c : CellId) → is_among_cells cs c ≡ true → Has cs c
cell-has cs c e = let r = any-has (λ d. same_cell d c) cs e in subst (Has cs) (same_cell-true r.0 c r.2) r.1

pub has-cell : (cs : List CellId) (c : CellId) → Has cs c → is_among_cells cs c ≡ true
has-cell cs c h = has-any (λ d. same_cell d c) cs c h (same_cell-itself c)

-- ## One row

-- a cell that marks show after them is in them
after-in : (ms : List CellMark) (k : ℕ) (c : CellId) (v : CellView) → slice_get (cells_after ms) k ≡ Some v → v.cell ≡ Some c → Has (cells_in ms) c
after-in [] k c v e f = absurd (none-some e)
after-in (Counted ∷ ms) zero c v e f = absurd (none-some (ap (λ (x : CellView). x.cell) (one_some _ v e) ∙ f))
after-in (Counted ∷ ms) (suc k) c v e f = after-in ms k c v e f
after-in (Gap d ∷ ms) zero c v e f = inl (one_some d c (ap (λ (x : CellView). x.cell) (one_some _ v e) ∙ f))
after-in (Gap d ∷ ms) (suc k) c v e f = inr (after-in ms k c v e f)
after-in (Touch d n h ∷ ms) zero c v e f = inl (one_some d c (ap (λ (x : CellView). x.cell) (one_some _ v e) ∙ f))
after-in (Touch d n h ∷ ms) (suc k) c v e f = inr (after-in ms k c v e f)
after-in (Make d n b ∷ ms) zero c v e f = inl (one_some d c (ap (λ (x : CellView). x.cell) (one_some _ v e) ∙ f))
after-in (Make d n b ∷ ms) (suc k) c v e f = inr (after-in ms k c v e f)
after-in (Fill d n ∷ ms) zero c v e f = inl (one_some d c (ap (λ (x : CellView). x.cell) (one_some _ v e) ∙ f))
after-in (Fill d n ∷ ms) (suc k) c v e f = inr (after-in ms k c v e f)

-- so is one that they show before them
before-in : (ms : List CellMark) (k : ℕ) (c : CellId) (v : CellView) → slice_get (cells_before ms) k ≡ Some v → v.cell ≡ Some c → Has (cells_in ms) c
before-in [] k c v e f = absurd (none-some e)
before-in (Counted ∷ ms) zero c v e f = absurd (none-some (ap (λ (x : CellView). x.cell) (one_some _ v e) ∙ f))
before-in (Counted ∷ ms) (suc k) c v e f = before-in ms k c v e f
before-in (Gap d ∷ ms) zero c v e f = inl (one_some d c (ap (λ (x : CellView). x.cell) (one_some _ v e) ∙ f))
before-in (Gap d ∷ ms) (suc k) c v e f = inr (before-in ms k c v e f)
before-in (Touch d n h ∷ ms) zero c v e f = inl (one_some d c (ap (λ (x : CellView). x.cell) (one_some _ v e) ∙ f))
before-in (Touch d n h ∷ ms) (suc k) c v e f = inr (before-in ms k c v e f)
before-in (Make d n b ∷ ms) k c v e f = inr (before-in ms k c v e f)
before-in (Fill d n ∷ ms) zero c v e f = inl (one_some d c (ap (λ (x : CellView). x.cell) (one_some _ v e) ∙ f))
before-in (Fill d n ∷ ms) (suc k) c v e f = inr (before-in ms k c v e f)

-- each cell that marks name they show after them, and one that they make with its owner
abbrev pub IsCellAt : List CellView → CellId → Option NodeId → Type 0
IsCellAt cells c o = (k : ℕ) × (b : Bool) × (slice_get cells k ≡ Some (record { cell = Some c; node = o; full = b }))

behind : (x : CellView) (cells : List CellView) (c : CellId) (o : Option NodeId) → IsCellAt cells c o → IsCellAt (x ∷ cells) c o
behind x cells c o (k, b, e) = (suc k, b, e)

pub in-after : (ms : List CellMark) (c : CellId) → Has (cells_in ms) c → (o : Option NodeId) × IsCellAt (cells_after ms) c o
in-after [] c h = absurd h
in-after (Counted ∷ ms) c h = let r = in-after ms c h in (r.0, behind _ (cells_after ms) c r.0 r.1)
in-after (Gap d ∷ ms) c (inl e) = (None, (zero, false, ap (λ d. Some (record { cell = Some d; node = None; full = false })) e))
in-after (Gap d ∷ ms) c (inr h) = let r = in-after ms c h in (r.0, behind _ (cells_after ms) c r.0 r.1)
in-after (Touch d n g ∷ ms) c (inl e) = (Some n, (zero, _, ap (λ d. Some (cell_view d n (not (is_leave g)))) e))
in-after (Touch d n g ∷ ms) c (inr h) = let r = in-after ms c h in (r.0, behind _ (cells_after ms) c r.0 r.1)
in-after (Make d n b ∷ ms) c (inl e) = (Some n, (zero, b, ap (λ d. Some (cell_view d n b)) e))
in-after (Make d n b ∷ ms) c (inr h) = let r = in-after ms c h in (r.0, behind _ (cells_after ms) c r.0 r.1)
in-after (Fill d n ∷ ms) c (inl e) = (Some n, (zero, true, ap (λ d. Some (cell_view d n true)) e))
in-after (Fill d n ∷ ms) c (inr h) = let r = in-after ms c h in (r.0, behind _ (cells_after ms) c r.0 r.1)

pub made-after : (ms : List CellMark) (c : CellId) → Has (cells_made ms) c → (n : NodeId) × IsCellAt (cells_after ms) c (Some n)
made-after [] c h = absurd h
made-after (Counted ∷ ms) c h = let r = made-after ms c h in (r.0, behind _ (cells_after ms) c (Some r.0) r.1)
made-after (Gap d ∷ ms) c h = let r = made-after ms c h in (r.0, behind _ (cells_after ms) c (Some r.0) r.1)
made-after (Touch d n g ∷ ms) c h = let r = made-after ms c h in (r.0, behind _ (cells_after ms) c (Some r.0) r.1)
made-after (Make d n b ∷ ms) c (inl e) = (n, (zero, b, ap (λ d. Some (cell_view d n b)) e))
made-after (Make d n b ∷ ms) c (inr h) = let r = made-after ms c h in (r.0, behind _ (cells_after ms) c (Some r.0) r.1)
made-after (Fill d n ∷ ms) c h = let r = made-after ms c h in (r.0, behind _ (cells_after ms) c (Some r.0) r.1)

-- what a mark leaves is shown after it
one-after : (y : CellMark) → (v : CellView) × (cell_after y ≡ v ∷ [])
one-after Counted = (_, refl)
one-after (Gap c) = (_, refl)
one-after (Touch c n h) = (_, refl)
one-after (Make c n b) = (_, refl)
one-after (Fill c n) = (_, refl)

pub after-of : (ms : List CellMark) (y : CellMark) (v : CellView) → Has ms y → cell_after y ≡ v ∷ [] → (k : ℕ) × (slice_get (cells_after ms) k ≡ Some v)
after-of [] y v h e = absurd h
after-of (z ∷ ms) y v (inl q) e = (zero, subst (λ (l : List CellView). slice_get (l ++ cells_after ms) zero ≡ Some v) (sym (ap cell_after q ∙ e)) refl)
after-of (z ∷ ms) y v (inr h) e =
    let r = after-of ms y v h e in
    (suc r.0, subst (λ (l : List CellView). slice_get (l ++ cells_after ms) (suc r.0) ≡ Some v) (sym (one-after z).1) r.1)

-- a cell of which an owner is told before has a name
pub before-told : (ms : List CellMark) (k : ℕ) (v : CellView) (n : NodeId) → slice_get (cells_before ms) k ≡ Some v → v.node ≡ Some n → (c : CellId) × (v.cell ≡ Some c)
before-told [] k v n e f = absurd (none-some e)
before-told (Counted ∷ ms) zero v n e f = absurd (none-some (ap (λ (x : CellView). x.node) (one_some _ v e) ∙ f))
before-told (Counted ∷ ms) (suc k) v n e f = before-told ms k v n e f
before-told (Gap d ∷ ms) zero v n e f = absurd (none-some (ap (λ (x : CellView). x.node) (one_some _ v e) ∙ f))
before-told (Gap d ∷ ms) (suc k) v n e f = before-told ms k v n e f
before-told (Touch d m h ∷ ms) zero v n e f = (d, ap (λ (x : CellView). x.cell) (sym (one_some _ v e)))
before-told (Touch d m h ∷ ms) (suc k) v n e f = before-told ms k v n e f
before-told (Make d m b ∷ ms) k v n e f = before-told ms k v n e f
before-told (Fill d m ∷ ms) zero v n e f = (d, ap (λ (x : CellView). x.cell) (sym (one_some _ v e)))
before-told (Fill d m ∷ ms) (suc k) v n e f = before-told ms k v n e f

-- who is told before is found or owns a cell that is filled, and is in the marks
pub told-before : (ms : List CellMark) (v : CellView) (n : NodeId) → Has (cells_before ms) v → v.node ≡ Some n → Has (map (λ (f : Found). f.node) (found_in ms)) n ⊎ Has (fill_owners ms) n
told-before [] v n h f = absurd h
told-before (Counted ∷ ms) v n (inl e) f = absurd (none-some (ap (λ (x : CellView). x.node) e ∙ f))
told-before (Counted ∷ ms) v n (inr h) f = told-before ms v n h f
told-before (Gap d ∷ ms) v n (inl e) f = absurd (none-some (ap (λ (x : CellView). x.node) e ∙ f))
told-before (Gap d ∷ ms) v n (inr h) f = told-before ms v n h f
told-before (Touch d m g ∷ ms) v n (inl e) f = inl (inl (one_some m n (ap (λ (x : CellView). x.node) e ∙ f)))
told-before (Touch d m g ∷ ms) v n (inr h) f = elim (told-before ms v n h f) [ inl i ↦ inl (inr i) | inr i ↦ inr i ]
told-before (Make d m b ∷ ms) v n h f = told-before ms v n h f
told-before (Fill d m ∷ ms) v n (inl e) f = inr (inl (one_some m n (ap (λ (x : CellView). x.node) e ∙ f)))
told-before (Fill d m ∷ ms) v n (inr h) f = elim (told-before ms v n h f) [ inl i ↦ inl i | inr i ↦ inr (inr i) ]

found-in : (ms : List CellMark) (n : NodeId) → Has (map (λ (f : Found). f.node) (found_in ms)) n → Has (nodes_in ms) n
found-in [] n h = absurd h
found-in (Counted ∷ ms) n h = found-in ms n h
found-in (Gap d ∷ ms) n h = found-in ms n h
found-in (Touch d m g ∷ ms) n (inl e) = inl e
found-in (Touch d m g ∷ ms) n (inr h) = inr (found-in ms n h)
found-in (Make d m b ∷ ms) n h = inr (found-in ms n h)
found-in (Fill d m ∷ ms) n h = inr (found-in ms n h)

fill-in : (ms : List CellMark) (n : NodeId) → Has (fill_owners ms) n → Has (nodes_in ms) n
fill-in [] n h = absurd h
fill-in (Counted ∷ ms) n h = fill-in ms n h
fill-in (Gap d ∷ ms) n h = fill-in ms n h
fill-in (Touch d m g ∷ ms) n h = inr (fill-in ms n h)
fill-in (Make d m b ∷ ms) n h = inr (fill-in ms n h)
fill-in (Fill d m ∷ ms) n (inl e) = inl e
fill-in (Fill d m ∷ ms) n (inr h) = inr (fill-in ms n h)

hole-in : (ms : List CellMark) (n : NodeId) → Has (hole_owners ms) n → Has (nodes_in ms) n
hole-in [] n h = absurd h
hole-in (Counted ∷ ms) n h = hole-in ms n h
hole-in (Gap d ∷ ms) n h = hole-in ms n h
hole-in (Touch d m g ∷ ms) n h = inr (hole-in ms n h)
hole-in (Make d m true ∷ ms) n h = inr (hole-in ms n h)
hole-in (Make d m false ∷ ms) n (inl e) = inl e
hole-in (Make d m false ∷ ms) n (inr h) = inr (hole-in ms n h)
hole-in (Fill d m ∷ ms) n h = inr (hole-in ms n h)

-- who is found in a row is shown standing in it before
found-stands : (ms : List CellMark) (n : NodeId) → Has (map (λ (f : Found). f.node) (found_in ms)) n → Has (nodes_standing (cells_before ms)) n
found-stands [] n h = absurd h
found-stands (Counted ∷ ms) n h = found-stands ms n h
found-stands (Gap d ∷ ms) n h = found-stands ms n h
found-stands (Touch d m g ∷ ms) n (inl e) = inl e
found-stands (Touch d m g ∷ ms) n (inr h) = inr (found-stands ms n h)
found-stands (Make d m b ∷ ms) n h = found-stands ms n h
found-stands (Fill d m ∷ ms) n h = found-stands ms n h

pub stands-found : (ms : List CellMark) (n : NodeId) → Has (nodes_standing (cells_before ms)) n → Has (map (λ (f : Found). f.node) (found_in ms)) n
stands-found [] n h = absurd h
stands-found (Counted ∷ ms) n h = stands-found ms n h
stands-found (Gap d ∷ ms) n h = stands-found ms n h
stands-found (Touch d m g ∷ ms) n (inl e) = inl e
stands-found (Touch d m g ∷ ms) n (inr h) = inr (stands-found ms n h)
stands-found (Make d m b ∷ ms) n h = stands-found ms n h
stands-found (Fill d m ∷ ms) n h = stands-found ms n h

-- who is shown standing in a row after is at a place of it
pub stands-at : (ms : List CellMark) (n : NodeId) → Has (nodes_standing (cells_after ms)) n → (k : ℕ) × (c : CellId) × (slice_get (cells_after ms) k ≡ Some (cell_view c n true))
stands-at [] n h = absurd h
stands-at (Counted ∷ ms) n h = let r = stands-at ms n h in (suc r.0, r.1, r.2)
stands-at (Gap d ∷ ms) n h = let r = stands-at ms n h in (suc r.0, r.1, r.2)
stands-at (Touch d m Stay ∷ ms) n (inl e) = (zero, d, ap (λ m. Some (cell_view d m true)) e)
stands-at (Touch d m Stay ∷ ms) n (inr h) = let r = stands-at ms n h in (suc r.0, r.1, r.2)
stands-at (Touch d m Here ∷ ms) n (inl e) = (zero, d, ap (λ m. Some (cell_view d m true)) e)
stands-at (Touch d m Here ∷ ms) n (inr h) = let r = stands-at ms n h in (suc r.0, r.1, r.2)
stands-at (Touch d m Leave ∷ ms) n h = let r = stands-at ms n h in (suc r.0, r.1, r.2)
stands-at (Make d m true ∷ ms) n (inl e) = (zero, d, ap (λ m. Some (cell_view d m true)) e)
stands-at (Make d m true ∷ ms) n (inr h) = let r = stands-at ms n h in (suc r.0, r.1, r.2)
stands-at (Make d m false ∷ ms) n h = let r = stands-at ms n h in (suc r.0, r.1, r.2)
stands-at (Fill d m ∷ ms) n (inl e) = (zero, d, ap (λ m. Some (cell_view d m true)) e)
stands-at (Fill d m ∷ ms) n (inr h) = let r = stands-at ms n h in (suc r.0, r.1, r.2)

pub has-at : {A : Type 0} (xs : List A) (x : A) → Has xs x → (k : ℕ) × (slice_get xs k ≡ Some x)
has-at [] x h = absurd h
has-at (y ∷ xs) x (inl e) = (zero, ap (λ y. Some y) e)
has-at (y ∷ xs) x (inr h) = let r = has-at xs x h in (suc r.0, r.1)

-- who stands is told, of a full cell
pub standing-told : (xs : List CellView) (n : NodeId) → Has (nodes_standing xs) n → (v : CellView) × Has xs v × (v.full ≡ true) × (v.node ≡ Some n)
standing-told [] n h = absurd h
standing-told (x ∷ xs) n h = elim (has-append (cond x.full (one_or_none x.node) []) (nodes_standing xs) n h) [
  | inl i ↦ (let r = go x.full refl i in (x, inl refl, r.0, r.1))
  | inr i ↦ (let r = standing-told xs n i in (r.0, inr r.1, r.2, r.3))
]
  where
    go : (b : Bool) → x.full ≡ b → Has (cond b (one_or_none x.node) []) n → (x.full ≡ true) × (x.node ≡ Some n)
    go true e h = (e, one-is x.node n h)
    go false e h = absurd h

pub told-stands : (xs : List CellView) (v : CellView) (n : NodeId) → Has xs v → v.full ≡ true → v.node ≡ Some n → Has (nodes_standing xs) n
told-stands [] v n h f e = absurd h
told-stands (x ∷ xs) v n (inl q) f e = append_left (cond x.full (one_or_none x.node) []) (nodes_standing xs) n
    (subst (λ b. Has (cond b (one_or_none x.node) []) n) (sym (ap (λ (v : CellView). v.full) q ∙ f)) (is-one x.node n (ap (λ (v : CellView). v.node) q ∙ e)))
told-stands (x ∷ xs) v n (inr h) f e = append_right (cond x.full (one_or_none x.node) []) (nodes_standing xs) n (told-stands xs v n h f e)

pub named-in_row : (ms : List CellMark) (c : CellId) → Has (cells_named (cells_before ms)) c → Has (cells_in ms) c
named-in_row ms c h =
    let v = has-flat_map (λ (x : CellView). one_or_none x.cell) (cells_before ms) c h in
    let k = has-at (cells_before ms) v.0 v.1 in
    before-in ms k.0 c v.0 k.1 (one-is v.0.cell c v.2)

pub made-in : (ms : List CellMark) (c : CellId) → Has (cells_made ms) c → Has (cells_in ms) c
made-in [] c h = absurd h
made-in (Counted ∷ ms) c h = made-in ms c h
made-in (Gap d ∷ ms) c h = inr (made-in ms c h)
made-in (Touch d m g ∷ ms) c h = inr (made-in ms c h)
made-in (Make d m b ∷ ms) c (inl e) = inl e
made-in (Make d m b ∷ ms) c (inr h) = inr (made-in ms c h)
made-in (Fill d m ∷ ms) c h = inr (made-in ms c h)

-- a cell that is found isn't made
found-unmade : (ms : List CellMark) (c : CellId) → AreDistinct (λ (c : CellId). c) (cells_in ms) → Has (cells_named (cells_before ms)) c → Has (cells_made ms) c → ⊥
found-unmade [] c d h i = h
found-unmade (Counted ∷ ms) c d h i = found-unmade ms c d h i
found-unmade (Gap e ∷ ms) c d (inl q) i = all-has (λ c. c ≢ e) (cells_in ms) c d.0 (made-in ms c i) (sym q)
found-unmade (Gap e ∷ ms) c d (inr h) i = found-unmade ms c d.1 h i
found-unmade (Touch e m g ∷ ms) c d (inl q) i = all-has (λ c. c ≢ e) (cells_in ms) c d.0 (made-in ms c i) (sym q)
found-unmade (Touch e m g ∷ ms) c d (inr h) i = found-unmade ms c d.1 h i
found-unmade (Make e m b ∷ ms) c d h (inl q) = all-has (λ c. c ≢ e) (cells_in ms) c d.0 (named-in_row ms c h) (sym q)
found-unmade (Make e m b ∷ ms) c d h (inr i) = found-unmade ms c d.1 h i
found-unmade (Fill e m ∷ ms) c d (inl q) i = all-has (λ c. c ≢ e) (cells_in ms) c d.0 (made-in ms c i) (sym q)
found-unmade (Fill e m ∷ ms) c d (inr h) i = found-unmade ms c d.1 h i

-- ## A step

module _ (S : Step) (w : ObeysStepRules S) where
  abbrev N : Entries
  N = entries_of_step S

  abbrev L : Listing
  L = listing_after_step S

  abbrev M : Listing
  M = listing_before_step S

  pub row-item : (r : RowMarks) → Has S.rows r → item_of node_cmp row_key S.rows r.node ≡ Some r
  row-item r i = has-item_of node_cmp node_cmp_total node_cmp_exact row_key S.rows r w.rising.rows i

  pub item-row : (n : NodeId) (r : RowMarks) → item_of node_cmp row_key S.rows n ≡ Some r → Has S.rows r × (r.node ≡ n)
  item-row n r e = item_of-has node_cmp node_cmp_total node_cmp_exact row_key S.rows n r e

  pub reg-item : (r : RegStep) → Has S.regs r → item_of field_cmp reg_key S.regs r.field ≡ Some r
  reg-item r i = has-item_of field_cmp field_cmp_total field_cmp_exact reg_key S.regs r w.rising.regs i

  pub item-reg : (f : FieldId) (r : RegStep) → item_of field_cmp reg_key S.regs f ≡ Some r → Has S.regs r × (r.field ≡ f)
  item-reg f r e = item_of-has field_cmp field_cmp_total field_cmp_exact reg_key S.regs f r e

  -- ## Rows

  pub found-row : (r : RowMarks) → Has S.rows r → M.row r.node ≡ Some (cells_before (spread r.marks))
  found-row r i = ap (option_map (λ (r : RowMarks). cells_before (spread r.marks))) (row-item r i)

  pub left-row : (r : RowMarks) → Has S.rows r → L.row r.node ≡ Some (cells_after (spread r.marks))
  left-row r i = ap (λ o. option_or (option_map (λ (r : RowMarks). cells_after (spread r.marks)) o) (cond (is_among (nodes_new S.new) r.node) (Some []) None)) (row-item r i)

  pub left-new_row : (n : NodeId) → item_of node_cmp row_key S.rows n ≡ None → Has (nodes_new S.new) n → L.row n ≡ Some []
  left-new_row n e h =
      ap (λ o. option_or (option_map (λ (r : RowMarks). cells_after (spread r.marks)) o) (cond (is_among (nodes_new S.new) n) (Some []) None)) e
      ∙ ap (λ b. cond b (Some []) None) ((among_has (nodes_new S.new) n).1 h)

  -- a row that isn't listed has no cell
  pub left-bare : (n : NodeId) → item_of node_cmp row_key S.rows n ≡ None → (cells : List CellView) → L.row n ≡ Some cells → cells ≡ []
  left-bare n e cells f = go (is_among (nodes_new S.new) n) (sym (ap (λ o. option_or (option_map (λ (r : RowMarks). cells_after (spread r.marks)) o) (cond (is_among (nodes_new S.new) n) (Some []) None)) e) ∙ f)
    where
      go : (b : Bool) → cond b (Some []) None ≡ Some cells → cells ≡ []
      go true g = sym (one_some [] cells g)
      go false g = absurd (none-some g)

  -- ## Registers

  pub found-register : (r : RegStep) → Has S.regs r → M.register r.field ≡ Some r.before
  found-register r i = ap (option_map (λ (r : RegStep). r.before)) (reg-item r i)

  pub left-register : (r : RegStep) → Has S.regs r → L.register r.field ≡ Some r.after
  left-register r i = ap (λ o. option_or (option_map (λ (r : RegStep). r.after) o) (cond (is_among (nodes_new S.new) r.field.node) (Some None) None)) (reg-item r i)

  pub left-new_register : (f : FieldId) → item_of field_cmp reg_key S.regs f ≡ None → Has (nodes_new S.new) f.node → L.register f ≡ Some None
  left-new_register f e h =
      ap (λ o. option_or (option_map (λ (r : RegStep). r.after) o) (cond (is_among (nodes_new S.new) f.node) (Some None) None)) e
      ∙ ap (λ b. cond b (Some None) None) ((among_has (nodes_new S.new) f.node).1 h)

  -- a register that isn't listed has no occupant
  pub left-empty : (f : FieldId) → item_of field_cmp reg_key S.regs f ≡ None → (n : NodeId) → L.register f ≡ Some (Some n) → ⊥
  left-empty f e n g = go (is_among (nodes_new S.new) f.node) (sym (ap (λ o. option_or (option_map (λ (r : RegStep). r.after) o) (cond (is_among (nodes_new S.new) f.node) (Some None) None)) e) ∙ g)
    where
      go : (b : Bool) → cond b (Some None) None ≡ Some (Some n) → ⊥
      go true g = none-some (one_some None (Some n) g)
      go false g = none-some g

  -- ## Cells

  pub named-cell : (r : RowMarks) (c : CellId) → Has S.rows r → Has (cells_in (spread r.marks)) c → IsTrue ((names_of_step S).names_cell r.node c)
  named-cell r c i h = has-cell (cells_in (marks_of S.rows r.node)) c
      (subst (λ ms. Has (cells_in ms) c) (sym (ap (λ (q : Option RowMarks). option_map_or (λ (r : RowMarks). spread r.marks) q []) (row-item r i))) h)

  pub makes-cell : (c : CellId) → Has (in_rows cells_made S.rows) c → IsTrue ((names_of_step S).makes_cell c)
  makes-cell c h = has-cell (flat_map (λ (r : RowMarks). cells_made (spread r.marks)) S.rows) c h

  pub cell-makes : (c : CellId) → (names_of_step S).makes_cell c ≡ true → Has (in_rows cells_made S.rows) c
  cell-makes c e = cell-has (flat_map (λ (r : RowMarks). cells_made (spread r.marks)) S.rows) c e

  -- it names what it shows, after it
  pub left-named : (c : CellId) (n : NodeId) (k : ℕ) (o : Option NodeId) → ListsCell L c n k o → IsTrue ((names_of_step S).names_cell n c)
  left-named c n k o l = go (item_of node_cmp row_key S.rows n) refl
    where
      go : (q : Option RowMarks) → item_of node_cmp row_key S.rows n ≡ q → IsTrue ((names_of_step S).names_cell n c)
      go None e = absurd (none-some (ap (λ cells. slice_get cells k) (sym (left-bare n e l.cells l.listed)) ∙ l.at_place))
      go (Some r) e =
          let i = item-row n r e in
          let same = one_some (cells_after (spread r.marks)) l.cells (sym (left-row r i.0) ∙ ap L.row i.1 ∙ l.listed) in
          subst (λ n. IsTrue ((names_of_step S).names_cell n c)) i.1 (named-cell r c i.0 (after-in (spread r.marks) k c _ (ap (λ cells. slice_get cells k) same ∙ l.at_place) refl))

  -- and before it
  pub found-named : (c : CellId) (n : NodeId) (k : ℕ) (o : Option NodeId) → ListsCell M c n k o → IsTrue ((names_of_step S).names_cell n c)
  found-named c n k o l = go (item_of node_cmp row_key S.rows n) refl
    where
      go : (q : Option RowMarks) → item_of node_cmp row_key S.rows n ≡ q → IsTrue ((names_of_step S).names_cell n c)
      go None e = absurd (none-some (sym (ap (option_map (λ (r : RowMarks). cells_before (spread r.marks))) e) ∙ l.listed))
      go (Some r) e =
          let i = item-row n r e in
          let same = one_some (cells_before (spread r.marks)) l.cells (sym (found-row r i.0) ∙ ap M.row i.1 ∙ l.listed) in
          subst (λ n. IsTrue ((names_of_step S).names_cell n c)) i.1 (named-cell r c i.0 (before-in (spread r.marks) k c _ (ap (λ cells. slice_get cells k) same ∙ l.at_place) refl))

  -- it shows what it names, after it
  pub cell-left : (r : RowMarks) (c : CellId) → Has S.rows r → Has (cells_in (spread r.marks)) c → (k : ℕ) × (o : Option NodeId) × ListsCell L c r.node k o
  cell-left r c i h = let a = in-after (spread r.marks) c h in (a.1.0, a.0, record { cells = cells_after (spread r.marks); full = a.1.1; listed = left-row r i; at_place = a.1.2 })

  -- a cell that it makes with its owner
  pub made-left : (c : CellId) → Has (in_rows cells_made S.rows) c → (r : NodeId) × (k : ℕ) × (n : NodeId) × ListsCell L c r k (Some n)
  made-left c h =
      let r = has-flat_map (λ (r : RowMarks). cells_made (spread r.marks)) S.rows c h in
      let a = made-after (spread r.0.marks) c r.2 in
      (r.0.node, a.1.0, a.0, record { cells = cells_after (spread r.0.marks); full = a.1.1; listed = left-row r.0 r.1; at_place = a.1.2 })

  -- a cell that it finds it doesn't make
  pub unmade : (r : RowMarks) (c : CellId) → Has S.rows r → Has (cells_named (cells_before (spread r.marks))) c → Has (in_rows cells_made S.rows) c → ⊥
  unmade r c i h made =
      let m = has-flat_map (λ (r : RowMarks). cells_made (spread r.marks)) S.rows c made in
      let same = one_list (λ (r : RowMarks). cells_in (spread r.marks)) (λ (c : CellId). c) S.rows r m.0 c c w.common.cells_once i m.1 (named-in_row (spread r.marks) c h) (made-in (spread m.0.marks) c m.2) refl in
      found-unmade (spread r.marks) c (list_distinct (λ (r : RowMarks). cells_in (spread r.marks)) (λ (c : CellId). c) S.rows r w.common.cells_once i) h (subst (λ (r : RowMarks). Has (cells_made (spread r.marks)) c) (sym same) m.2)

  -- ## Nodes

  abbrev found_rows : List Found
  found_rows = in_rows found_in S.rows

  abbrev found_regs : List Found
  found_regs = flat_map found_over S.regs

  abbrev in_regs : List NodeId
  in_regs = flat_map (λ (r : RegStep). r.field.node ∷ (one_or_none r.before ++ one_or_none r.after)) S.regs

  abbrev all_named : List NodeId
  all_named = nodes_new S.new ++ nodes_of_rows S.rows ++ in_regs ++ nodes_loose S.loose

  -- whom it finds, it finds in a row, in a register or nowhere
  pub found-cases : (n : NodeId) → IsFound N n → ((r : RowMarks) × Has S.rows r × Has (map (λ (f : Found). f.node) (found_in (spread r.marks))) n) ⊎ ((r : RegStep) × Has S.regs r × (r.before ≡ Some n)) ⊎ Has (nodes_loose S.loose) n
  found-cases n h = let f = has-map (λ (f : Found). f.node) N.found n h in
      elim (has-append found_rows (found_regs ++ found_loose S.loose) f.0 f.1) [
        | inl i ↦ (let r = has-flat_map (λ (r : RowMarks). found_in (spread r.marks)) S.rows f.0 i in
            inl (r.0, r.1, subst (Has (map (λ (f : Found). f.node) (found_in (spread r.0.marks)))) f.2 (map-has (λ (f : Found). f.node) (found_in (spread r.0.marks)) f.0 r.2)))
        | inr i ↦ elim (has-append found_regs (found_loose S.loose) f.0 i) [
          | inl j ↦ (let r = has-flat_map found_over S.regs f.0 j in inr (inl (r.0, r.1, (found_held-is r.0.before (how_over r.0) f.0 r.2).0 ∙ ap (λ m. Some m) f.2)))
          | inr j ↦ (let l = has-map (λ (l : Loose). let f : Found = record { node = l.node; how = l.how } in f) S.loose f.0 j in
              inr (inr (subst (Has (nodes_loose S.loose)) (ap (λ (f : Found). f.node) l.2 ∙ f.2) (map-has (λ (l : Loose). l.node) S.loose l.0 l.1))))
        ]
      ]

  pub row-finds : (r : RowMarks) (n : NodeId) → Has S.rows r → Has (map (λ (f : Found). f.node) (found_in (spread r.marks))) n → IsFound N n
  row-finds r n i h = let f = has-map (λ (f : Found). f.node) (found_in (spread r.marks)) n h in
      subst (IsFound N) f.2 (map-has (λ (f : Found). f.node) N.found f.0 (append_left found_rows (found_regs ++ found_loose S.loose) f.0 (flat_map-has (λ (r : RowMarks). found_in (spread r.marks)) S.rows r f.0 i f.1)))

  abbrev as_held : RegStep → NodeId → Found
  as_held r n = record { node = n; how = how_over r }

  in-held : (r : RegStep) (n : NodeId) → Has S.regs r → r.before ≡ Some n → Has found_regs (as_held r n)
  in-held r n i e = flat_map-has found_over S.regs r (as_held r n) i (is-found_held r.before n (how_over r) e)

  pub reg-finds : (r : RegStep) (n : NodeId) → Has S.regs r → r.before ≡ Some n → IsFound N n
  reg-finds r n i e = map-has (λ (f : Found). f.node) N.found (as_held r n) (append_right found_rows (found_regs ++ found_loose S.loose) (as_held r n) (append_left found_regs (found_loose S.loose) (as_held r n) (in-held r n i e)))

  abbrev as_loose : Loose → Found
  as_loose l = record { node = l.node; how = l.how }

  pub loose-finds : (l : Loose) → Has S.loose l → IsFound N l.node
  loose-finds l i = map-has (λ (f : Found). f.node) N.found (as_loose l) (append_right found_rows (found_regs ++ found_loose S.loose) (as_loose l) (append_right found_regs (found_loose S.loose) (as_loose l) (map-has as_loose S.loose l i)))

  -- whom it finds nowhere it finds in no row and in no register
  pub loose-in_no_row : (l : Loose) (r : RowMarks) → Has S.loose l → Has S.rows r → Has (map (λ (f : Found). f.node) (found_in (spread r.marks))) l.node → ⊥
  loose-in_no_row l r i j h = let f = has-map (λ (f : Found). f.node) (found_in (spread r.marks)) l.node h in
      distinct-between (λ (f : Found). f.node) found_rows (found_regs ++ found_loose S.loose) f.0 (as_loose l) w.common.found_once (flat_map-has (λ (r : RowMarks). found_in (spread r.marks)) S.rows r f.0 j f.1)
      (append_right found_regs (found_loose S.loose) (as_loose l) (map-has as_loose S.loose l i)) (sym f.2)

  pub loose-in_no_register : (l : Loose) (r : RegStep) → Has S.loose l → Has S.regs r → r.before ≡ Some l.node → ⊥
  loose-in_no_register l r i j e = distinct-between (λ (f : Found). f.node) found_regs (found_loose S.loose) (as_held r l.node) (as_loose l)
      (distinct-right (λ (f : Found). f.node) found_rows (found_regs ++ found_loose S.loose) w.common.found_once) (in-held r l.node j e) (map-has as_loose S.loose l i) refl

  pub named-new : (n : NodeId) → Has (nodes_new S.new) n → IsTrue ((names_of_step S).names_node n)
  named-new n h = (among_has all_named n).1 (append_left (nodes_new S.new ++ nodes_of_rows S.rows ++ in_regs) (nodes_loose S.loose) n (append_left (nodes_new S.new ++ nodes_of_rows S.rows) in_regs n (append_left (nodes_new S.new) (nodes_of_rows S.rows) n h)))

  named-rows : (n : NodeId) → Has (nodes_of_rows S.rows) n → IsTrue ((names_of_step S).names_node n)
  named-rows n h = (among_has all_named n).1 (append_left (nodes_new S.new ++ nodes_of_rows S.rows ++ in_regs) (nodes_loose S.loose) n (append_left (nodes_new S.new ++ nodes_of_rows S.rows) in_regs n (append_right (nodes_new S.new) (nodes_of_rows S.rows) n h)))

  pub named-in : (r : RowMarks) (n : NodeId) → Has S.rows r → Has (nodes_in (spread r.marks)) n → IsTrue ((names_of_step S).names_node n)
  named-in r n i h = named-rows n (flat_map-has (λ (r : RowMarks). r.node ∷ nodes_in (spread r.marks)) S.rows r n i (inr h))

  pub named-found : (n : NodeId) → IsFound N n → IsTrue ((names_of_step S).names_node n)
  named-found n h = elim (found-cases n h) [
    | inl r ↦ named-in r.0 n r.1 (found-in (spread r.0.marks) n r.2)
    | inr a ↦ elim a [
      | inl r ↦ (among_has all_named n).1 (append_left (nodes_new S.new ++ nodes_of_rows S.rows ++ in_regs) (nodes_loose S.loose) n (append_right (nodes_new S.new ++ nodes_of_rows S.rows) in_regs n
          (flat_map-has (λ (r : RegStep). r.field.node ∷ (one_or_none r.before ++ one_or_none r.after)) S.regs r.0 n r.1 (inr (append_left (one_or_none r.0.before) (one_or_none r.0.after) n (is-one r.0.before n r.2))))))
      | inr l ↦ (among_has all_named n).1 (append_right (nodes_new S.new ++ nodes_of_rows S.rows ++ in_regs) (nodes_loose S.loose) n l)
    ]
  ]

  pub named-hole : (n : NodeId) → Has (in_rows hole_owners S.rows) n → IsTrue ((names_of_step S).names_node n)
  named-hole n h = let r = has-flat_map (λ (r : RowMarks). hole_owners (spread r.marks)) S.rows n h in named-in r.0 n r.1 (hole-in (spread r.0.marks) n r.2)

  pub named-told : (r : RowMarks) (v : CellView) (n : NodeId) → Has S.rows r → Has (cells_before (spread r.marks)) v → v.node ≡ Some n → IsTrue ((names_of_step S).names_node n)
  named-told r v n i h e = named-in r n i (elim (told-before (spread r.marks) v n h e) [ inl j ↦ found-in (spread r.marks) n j | inr j ↦ fill-in (spread r.marks) n j ])

  -- ## Places

  abbrev there : List NodeId
  there = nodes_new S.new ++ nodes_loose S.loose ++ placed_before S.rows (map (λ (r : RegStep). r.before) S.regs)

  abbrev placed : List NodeId
  placed = placed_after S.rows (map (λ (r : RegStep). r.after) S.regs)

  is-there : (n : NodeId) → IsFound N n ⊎ Has (nodes_new S.new) n → Has there n
  is-there n (inr h) = append_left (nodes_new S.new ++ nodes_loose S.loose) (placed_before S.rows (map (λ (r : RegStep). r.before) S.regs)) n (append_left (nodes_new S.new) (nodes_loose S.loose) n h)
  is-there n (inl h) = elim (found-cases n h) [
    | inl r ↦ append_right (nodes_new S.new ++ nodes_loose S.loose) (placed_before S.rows (map (λ (r : RegStep). r.before) S.regs)) n
        (append_left (flat_map (λ (r : RowMarks). nodes_standing (cells_before (spread r.marks))) S.rows) (flat_map one_or_none (map (λ (r : RegStep). r.before) S.regs)) n
        (flat_map-has (λ (r : RowMarks). nodes_standing (cells_before (spread r.marks))) S.rows r.0 n r.1 (found-stands (spread r.0.marks) n r.2)))
    | inr a ↦ elim a [
      | inl r ↦ append_right (nodes_new S.new ++ nodes_loose S.loose) (placed_before S.rows (map (λ (r : RegStep). r.before) S.regs)) n
          (append_right (flat_map (λ (r : RowMarks). nodes_standing (cells_before (spread r.marks))) S.rows) (flat_map one_or_none (map (λ (r : RegStep). r.before) S.regs)) n
          (flat_map-has one_or_none (map (λ (r : RegStep). r.before) S.regs) r.0.before n (map-has (λ (r : RegStep). r.before) S.regs r.0 r.1) (is-one r.0.before n r.2)))
      | inr l ↦ append_left (nodes_new S.new ++ nodes_loose S.loose) (placed_before S.rows (map (λ (r : RegStep). r.before) S.regs)) n (append_right (nodes_new S.new) (nodes_loose S.loose) n l)
    ]
  ]

  -- whom it finds or makes it places after it
  pub left-place : (n : NodeId) → IsFound N n ⊎ Has (nodes_new S.new) n → (t : Spot) × Places L n t
  left-place n h = go (is_among placed n) refl
    where
      in-row : Has (flat_map (λ (r : RowMarks). nodes_standing (cells_after (spread r.marks))) S.rows) n → (t : Spot) × Places L n t
      in-row i =
          let r = has-flat_map (λ (r : RowMarks). nodes_standing (cells_after (spread r.marks))) S.rows n i in
          let k = stands-at (spread r.0.marks) n r.2 in
          (Spot.Row r.0.node k.1, placed_in_row r.0.node n k.1 (cells_after (spread r.0.marks)) k.0 (left-row r.0 r.1) k.2)

      in-register : Has (flat_map one_or_none (map (λ (r : RegStep). r.after) S.regs)) n → (t : Spot) × Places L n t
      in-register i =
          let o = has-flat_map one_or_none (map (λ (r : RegStep). r.after) S.regs) n i in
          let r = has-map (λ (r : RegStep). r.after) S.regs o.0 o.1 in
          (Spot.Register r.0.field, placed_in_register r.0.field n (left-register r.0 r.1 ∙ ap (λ o. Some o) (r.2 ∙ one-is o.0 n o.2)))

      go : (b : Bool) → is_among placed n ≡ b → (t : Spot) × Places L n t
      go true e = elim (has-append (flat_map (λ (r : RowMarks). nodes_standing (cells_after (spread r.marks))) S.rows) (flat_map one_or_none (map (λ (r : RegStep). r.after) S.regs)) n ((among_has placed n).0 e)) [
        | inl i ↦ in-row i
        | inr i ↦ in-register i
      ]
      go false e = (Spot.Nowhere, placed_nowhere n (and-both (is_among there n) (not (is_among placed n)) ((among_has there n).1 (is-there n h)) (ap not e)))

  -- whom it finds nowhere it places nowhere
  pub loose-place : (l : Loose) → Has S.loose l → Places M l.node Spot.Nowhere
  loose-place l i = placed_nowhere l.node ((among_has (nodes_loose S.loose) l.node).1 (map-has (λ (l : Loose). l.node) S.loose l i))
