-- What the marks of one row show before them and after them, and which names are in them.
use Rattle.std.proofs.Common.{◌≡◌, ◌≢◌, ℕ, zero, suc, Bool, true, false, not, List, [], ◌∷◌, map, slice_get, Option, Some, None, cond, sym, refl, ap, ◌∙◌, subst, inl, inr, ◌⊎◌}
use Rattle.st_ids.specs.Listing.{AreDistinct, Has}
use Rattle.st_ids.specs.Order.{same_cell}
use Rattle.st_ids.proofs.Orders.{same_cell-itself, same_cell-true}
use Rattle.st_ids.specs.declared.names.CellId.{CellId}
use Rattle.st_ids.specs.declared.names.NodeId.{NodeId}
use Rattle.st_marks.specs.declared.marks.How.TheVariants.{Stay, Here, Leave}
use Rattle.st_marks.specs.declared.marks.RowMarks.{RowMarks}
use Rattle.st_marks.specs.Listings.{CellView, cell_view, cells_after, cells_before, cells_in, cells_made, is_among_cells, nodes_in, nodes_standing, one_or_none}
use Rattle.st_marks.specs.Row.{CellMark, Counted, Gap, Touch, Make, Fill}
use Rattle.st_marks.specs.How.{is_leave}
use Rattle.st_marks.proofs.Members.{all-has, any-has, append_left, append_right, has-any, has-append, has-flat_map}
use Rattle.st_normal.specs.declared.entries.Found.{Found}
use Rattle.st_normal.specs.Rules.{fill_owners, found_in}
use Rattle.st_lemmas.proofs.Options.{one_some}
use Rattle.st_puts.proofs.Basics.{is-one, one-is}
use Rattle.st_normal_laws.specs.Seed.{cells_named}

abbrev pub row_key : RowMarks → NodeId
row_key r = r.node

pub none-some : {A : Type 0} {a : A} → None ≡ Some a → ⊥
none-some e = cc

pub cell-has : (cs : List CellId) (c : CellId) → is_among_cells cs c ≡ true → Has cs c
cell-has cs c e = let r = any-has (λ d. same_cell d c) cs e in subst (Has cs) (same_cell-true r.0 c r.2) r.1

pub has-cell : (cs : List CellId) (c : CellId) → Has cs c → is_among_cells cs c ≡ true
has-cell cs c h = has-any (λ d. same_cell d c) cs c h (same_cell-itself c)

-- ## One row

-- a cell that marks show after them is in them
pub after-in : (ms : List CellMark) (k : ℕ) (c : CellId) (v : CellView) → slice_get (cells_after ms) k ≡ Some v → v.cell ≡ Some c → Has (cells_in ms) c
after-in [] k c v e f = absurd (none-some e)
after-in (Counted ∷ ms) zero c v e f = absurd (none-some (ap (λ (x : CellView). x.cell) (one_some _ v e) ∙ f))
after-in (Counted ∷ ms) (suc k) c v e f = after-in ms k c v e f
after-in (Gap d ∷ ms) zero c v e f = inl (one_some d c (ap (λ (x : CellView). x.cell) (one_some _ v e) ∙ f))
after-in (Gap d ∷ ms) (suc k) c v e f = inr (after-in ms k c v e f)
after-in (Touch d n h ∷ ms) zero c v e f = inl (one_some d c (ap (λ (x : CellView). x.cell) (one_some _ v e) ∙ f))
after-in (Touch d n h ∷ ms) (suc k) c v e f = inr (after-in ms k c v e f)
after-in (Make d n b ∷ ms) zero c v e f = inl (one_some d c (ap (λ (x : CellView). x.cell) (one_some _ v e) ∙ f))
after-in (Make d n b ∷ ms) (suc k) c v e f = inr (after-in ms k c v e f)
after-in (Fill d n ∷ ms) zero c v e f = inl (one_some d c (ap (λ (x : CellView). x.cell) (one_some _ v e) ∙ f))
after-in (Fill d n ∷ ms) (suc k) c v e f = inr (after-in ms k c v e f)

-- so is one that they show before them
pub before-in : (ms : List CellMark) (k : ℕ) (c : CellId) (v : CellView) → slice_get (cells_before ms) k ≡ Some v → v.cell ≡ Some c → Has (cells_in ms) c
before-in [] k c v e f = absurd (none-some e)
before-in (Counted ∷ ms) zero c v e f = absurd (none-some (ap (λ (x : CellView). x.cell) (one_some _ v e) ∙ f))
before-in (Counted ∷ ms) (suc k) c v e f = before-in ms k c v e f
before-in (Gap d ∷ ms) zero c v e f = inl (one_some d c (ap (λ (x : CellView). x.cell) (one_some _ v e) ∙ f))
before-in (Gap d ∷ ms) (suc k) c v e f = inr (before-in ms k c v e f)
before-in (Touch d n h ∷ ms) zero c v e f = inl (one_some d c (ap (λ (x : CellView). x.cell) (one_some _ v e) ∙ f))
before-in (Touch d n h ∷ ms) (suc k) c v e f = inr (before-in ms k c v e f)
before-in (Make d n b ∷ ms) k c v e f = inr (before-in ms k c v e f)
before-in (Fill d n ∷ ms) zero c v e f = inl (one_some d c (ap (λ (x : CellView). x.cell) (one_some _ v e) ∙ f))
before-in (Fill d n ∷ ms) (suc k) c v e f = inr (before-in ms k c v e f)

-- each cell that marks name they show after them, and one that they make with its owner
abbrev pub IsCellAt : List CellView → CellId → Option NodeId → Type 0
IsCellAt cells c o = (k : ℕ) × (b : Bool) × (slice_get cells k ≡ Some (record { cell = Some c; node = o; full = b }))

pub behind : (x : CellView) (cells : List CellView) (c : CellId) (o : Option NodeId) → IsCellAt cells c o → IsCellAt (x ∷ cells) c o
behind x cells c o (k, b, e) = (suc k, b, e)

pub in-after : (ms : List CellMark) (c : CellId) → Has (cells_in ms) c → (o : Option NodeId) × IsCellAt (cells_after ms) c o
in-after [] c h = absurd h
in-after (Counted ∷ ms) c h = let r = in-after ms c h in (r.0, behind _ (cells_after ms) c r.0 r.1)
in-after (Gap d ∷ ms) c (inl e) = (None, (zero, false, ap (λ d. Some (record { cell = Some d; node = None; full = false })) e))
in-after (Gap d ∷ ms) c (inr h) = let r = in-after ms c h in (r.0, behind _ (cells_after ms) c r.0 r.1)
in-after (Touch d n g ∷ ms) c (inl e) = (Some n, (zero, _, ap (λ d. Some (cell_view d n (not (is_leave g)))) e))
in-after (Touch d n g ∷ ms) c (inr h) = let r = in-after ms c h in (r.0, behind _ (cells_after ms) c r.0 r.1)
in-after (Make d n b ∷ ms) c (inl e) = (Some n, (zero, b, ap (λ d. Some (cell_view d n b)) e))
in-after (Make d n b ∷ ms) c (inr h) = let r = in-after ms c h in (r.0, behind _ (cells_after ms) c r.0 r.1)
in-after (Fill d n ∷ ms) c (inl e) = (Some n, (zero, true, ap (λ d. Some (cell_view d n true)) e))
in-after (Fill d n ∷ ms) c (inr h) = let r = in-after ms c h in (r.0, behind _ (cells_after ms) c r.0 r.1)

pub made-after : (ms : List CellMark) (c : CellId) → Has (cells_made ms) c → (n : NodeId) × IsCellAt (cells_after ms) c (Some n)
made-after [] c h = absurd h
made-after (Counted ∷ ms) c h = let r = made-after ms c h in (r.0, behind _ (cells_after ms) c (Some r.0) r.1)
made-after (Gap d ∷ ms) c h = let r = made-after ms c h in (r.0, behind _ (cells_after ms) c (Some r.0) r.1)
made-after (Touch d n g ∷ ms) c h = let r = made-after ms c h in (r.0, behind _ (cells_after ms) c (Some r.0) r.1)
made-after (Make d n b ∷ ms) c (inl e) = (n, (zero, b, ap (λ d. Some (cell_view d n b)) e))
made-after (Make d n b ∷ ms) c (inr h) = let r = made-after ms c h in (r.0, behind _ (cells_after ms) c (Some r.0) r.1)
made-after (Fill d n ∷ ms) c h = let r = made-after ms c h in (r.0, behind _ (cells_after ms) c (Some r.0) r.1)

-- a cell of which an owner is told before has a name
pub before-told : (ms : List CellMark) (k : ℕ) (v : CellView) (n : NodeId) → slice_get (cells_before ms) k ≡ Some v → v.node ≡ Some n → (c : CellId) × (v.cell ≡ Some c)
before-told [] k v n e f = absurd (none-some e)
before-told (Counted ∷ ms) zero v n e f = absurd (none-some (ap (λ (x : CellView). x.node) (one_some _ v e) ∙ f))
before-told (Counted ∷ ms) (suc k) v n e f = before-told ms k v n e f
before-told (Gap d ∷ ms) zero v n e f = absurd (none-some (ap (λ (x : CellView). x.node) (one_some _ v e) ∙ f))
before-told (Gap d ∷ ms) (suc k) v n e f = before-told ms k v n e f
before-told (Touch d m h ∷ ms) zero v n e f = (d, ap (λ (x : CellView). x.cell) (sym (one_some _ v e)))
before-told (Touch d m h ∷ ms) (suc k) v n e f = before-told ms k v n e f
before-told (Make d m b ∷ ms) k v n e f = before-told ms k v n e f
before-told (Fill d m ∷ ms) zero v n e f = (d, ap (λ (x : CellView). x.cell) (sym (one_some _ v e)))
before-told (Fill d m ∷ ms) (suc k) v n e f = before-told ms k v n e f

-- who is told before is found or owns a cell that is filled, and is in the marks
pub told-before : (ms : List CellMark) (v : CellView) (n : NodeId) → Has (cells_before ms) v → v.node ≡ Some n → Has (map (λ (f : Found). f.node) (found_in ms)) n ⊎ Has (fill_owners ms) n
told-before [] v n h f = absurd h
told-before (Counted ∷ ms) v n (inl e) f = absurd (none-some (ap (λ (x : CellView). x.node) e ∙ f))
told-before (Counted ∷ ms) v n (inr h) f = told-before ms v n h f
told-before (Gap d ∷ ms) v n (inl e) f = absurd (none-some (ap (λ (x : CellView). x.node) e ∙ f))
told-before (Gap d ∷ ms) v n (inr h) f = told-before ms v n h f
told-before (Touch d m g ∷ ms) v n (inl e) f = inl (inl (one_some m n (ap (λ (x : CellView). x.node) e ∙ f)))
told-before (Touch d m g ∷ ms) v n (inr h) f = elim (told-before ms v n h f) [ inl i ↦ inl (inr i) | inr i ↦ inr i ]
told-before (Make d m b ∷ ms) v n h f = told-before ms v n h f
told-before (Fill d m ∷ ms) v n (inl e) f = inr (inl (one_some m n (ap (λ (x : CellView). x.node) e ∙ f)))
told-before (Fill d m ∷ ms) v n (inr h) f = elim (told-before ms v n h f) [ inl i ↦ inl i | inr i ↦ inr (inr i) ]

pub found-in : (ms : List CellMark) (n : NodeId) → Has (map (λ (f : Found). f.node) (found_in ms)) n → Has (nodes_in ms) n
found-in [] n h = absurd h
found-in (Counted ∷ ms) n h = found-in ms n h
found-in (Gap d ∷ ms) n h = found-in ms n h
found-in (Touch d m g ∷ ms) n (inl e) = inl e
found-in (Touch d m g ∷ ms) n (inr h) = inr (found-in ms n h)
found-in (Make d m b ∷ ms) n h = inr (found-in ms n h)
found-in (Fill d m ∷ ms) n h = inr (found-in ms n h)

pub fill-in : (ms : List CellMark) (n : NodeId) → Has (fill_owners ms) n → Has (nodes_in ms) n
fill-in [] n h = absurd h
fill-in (Counted ∷ ms) n h = fill-in ms n h
fill-in (Gap d ∷ ms) n h = fill-in ms n h
fill-in (Touch d m g ∷ ms) n h = inr (fill-in ms n h)
fill-in (Make d m b ∷ ms) n h = inr (fill-in ms n h)
fill-in (Fill d m ∷ ms) n (inl e) = inl e
fill-in (Fill d m ∷ ms) n (inr h) = inr (fill-in ms n h)

-- who is found in a row is shown standing in it before
pub found-stands : (ms : List CellMark) (n : NodeId) → Has (map (λ (f : Found). f.node) (found_in ms)) n → Has (nodes_standing (cells_before ms)) n
found-stands [] n h = absurd h
found-stands (Counted ∷ ms) n h = found-stands ms n h
found-stands (Gap d ∷ ms) n h = found-stands ms n h
found-stands (Touch d m g ∷ ms) n (inl e) = inl e
found-stands (Touch d m g ∷ ms) n (inr h) = inr (found-stands ms n h)
found-stands (Make d m b ∷ ms) n h = found-stands ms n h
found-stands (Fill d m ∷ ms) n h = found-stands ms n h

pub stands-found : (ms : List CellMark) (n : NodeId) → Has (nodes_standing (cells_before ms)) n → Has (map (λ (f : Found). f.node) (found_in ms)) n
stands-found [] n h = absurd h
stands-found (Counted ∷ ms) n h = stands-found ms n h
stands-found (Gap d ∷ ms) n h = stands-found ms n h
stands-found (Touch d m g ∷ ms) n (inl e) = inl e
stands-found (Touch d m g ∷ ms) n (inr h) = inr (stands-found ms n h)
stands-found (Make d m b ∷ ms) n h = stands-found ms n h
stands-found (Fill d m ∷ ms) n h = stands-found ms n h

-- who is shown standing in a row after is at a place of it
pub stands-at : (ms : List CellMark) (n : NodeId) → Has (nodes_standing (cells_after ms)) n → (k : ℕ) × (c : CellId) × (slice_get (cells_after ms) k ≡ Some (cell_view c n true))
stands-at [] n h = absurd h
stands-at (Counted ∷ ms) n h = let r = stands-at ms n h in (suc r.0, r.1, r.2)
stands-at (Gap d ∷ ms) n h = let r = stands-at ms n h in (suc r.0, r.1, r.2)
stands-at (Touch d m Stay ∷ ms) n (inl e) = (zero, d, ap (λ m. Some (cell_view d m true)) e)
stands-at (Touch d m Stay ∷ ms) n (inr h) = let r = stands-at ms n h in (suc r.0, r.1, r.2)
stands-at (Touch d m Here ∷ ms) n (inl e) = (zero, d, ap (λ m. Some (cell_view d m true)) e)
stands-at (Touch d m Here ∷ ms) n (inr h) = let r = stands-at ms n h in (suc r.0, r.1, r.2)
stands-at (Touch d m Leave ∷ ms) n h = let r = stands-at ms n h in (suc r.0, r.1, r.2)
stands-at (Make d m true ∷ ms) n (inl e) = (zero, d, ap (λ m. Some (cell_view d m true)) e)
stands-at (Make d m true ∷ ms) n (inr h) = let r = stands-at ms n h in (suc r.0, r.1, r.2)
stands-at (Make d m false ∷ ms) n h = let r = stands-at ms n h in (suc r.0, r.1, r.2)
stands-at (Fill d m ∷ ms) n (inl e) = (zero, d, ap (λ m. Some (cell_view d m true)) e)
stands-at (Fill d m ∷ ms) n (inr h) = let r = stands-at ms n h in (suc r.0, r.1, r.2)

pub has-at : {A : Type 0} (xs : List A) (x : A) → Has xs x → (k : ℕ) × (slice_get xs k ≡ Some x)
has-at [] x h = absurd h
has-at (y ∷ xs) x (inl e) = (zero, ap (λ y. Some y) e)
has-at (y ∷ xs) x (inr h) = let r = has-at xs x h in (suc r.0, r.1)

-- who stands is told, of a full cell
pub standing-told : (xs : List CellView) (n : NodeId) → Has (nodes_standing xs) n → (v : CellView) × Has xs v × (v.full ≡ true) × (v.node ≡ Some n)
standing-told [] n h = absurd h
standing-told (x ∷ xs) n h = elim (has-append (cond x.full (one_or_none x.node) []) (nodes_standing xs) n h) [
  | inl i ↦ (let r = go x.full refl i in (x, inl refl, r.0, r.1))
  | inr i ↦ (let r = standing-told xs n i in (r.0, inr r.1, r.2, r.3))
]
  where
    go : (b : Bool) → x.full ≡ b → Has (cond b (one_or_none x.node) []) n → (x.full ≡ true) × (x.node ≡ Some n)
    go true e h = (e, one-is x.node n h)
    go false e h = absurd h

pub told-stands : (xs : List CellView) (v : CellView) (n : NodeId) → Has xs v → v.full ≡ true → v.node ≡ Some n → Has (nodes_standing xs) n
told-stands [] v n h f e = absurd h
told-stands (x ∷ xs) v n (inl q) f e = append_left (cond x.full (one_or_none x.node) []) (nodes_standing xs) n
    (subst (λ b. Has (cond b (one_or_none x.node) []) n) (sym (ap (λ (v : CellView). v.full) q ∙ f)) (is-one x.node n (ap (λ (v : CellView). v.node) q ∙ e)))
told-stands (x ∷ xs) v n (inr h) f e = append_right (cond x.full (one_or_none x.node) []) (nodes_standing xs) n (told-stands xs v n h f e)

pub named-in_row : (ms : List CellMark) (c : CellId) → Has (cells_named (cells_before ms)) c → Has (cells_in ms) c
named-in_row ms c h =
    let v = has-flat_map (λ (x : CellView). one_or_none x.cell) (cells_before ms) c h in
    let k = has-at (cells_before ms) v.0 v.1 in
    before-in ms k.0 c v.0 k.1 (one-is v.0.cell c v.2)

pub made-in : (ms : List CellMark) (c : CellId) → Has (cells_made ms) c → Has (cells_in ms) c
made-in [] c h = absurd h
made-in (Counted ∷ ms) c h = made-in ms c h
made-in (Gap d ∷ ms) c h = inr (made-in ms c h)
made-in (Touch d m g ∷ ms) c h = inr (made-in ms c h)
made-in (Make d m b ∷ ms) c (inl e) = inl e
made-in (Make d m b ∷ ms) c (inr h) = inr (made-in ms c h)
made-in (Fill d m ∷ ms) c h = inr (made-in ms c h)

-- a cell that is found isn't made
pub found-unmade : (ms : List CellMark) (c : CellId) → AreDistinct (λ (c : CellId). c) (cells_in ms) → Has (cells_named (cells_before ms)) c → Has (cells_made ms) c → ⊥
found-unmade [] c d h i = h
found-unmade (Counted ∷ ms) c d h i = found-unmade ms c d h i
found-unmade (Gap e ∷ ms) c d (inl q) i = all-has (λ c. c ≢ e) (cells_in ms) c d.0 (made-in ms c i) (sym q)
found-unmade (Gap e ∷ ms) c d (inr h) i = found-unmade ms c d.1 h i
found-unmade (Touch e m g ∷ ms) c d (inl q) i = all-has (λ c. c ≢ e) (cells_in ms) c d.0 (made-in ms c i) (sym q)
found-unmade (Touch e m g ∷ ms) c d (inr h) i = found-unmade ms c d.1 h i
found-unmade (Make e m b ∷ ms) c d h (inl q) = all-has (λ c. c ≢ e) (cells_in ms) c d.0 (named-in_row ms c h) (sym q)
found-unmade (Make e m b ∷ ms) c d h (inr i) = found-unmade ms c d.1 h i
found-unmade (Fill e m ∷ ms) c d (inl q) i = all-has (λ c. c ≢ e) (cells_in ms) c d.0 (made-in ms c i) (sym q)
found-unmade (Fill e m ∷ ms) c d (inr h) i = found-unmade ms c d.1 h i
