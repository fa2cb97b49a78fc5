-- Where no cell is listed twice, none is shown at two places or with two owners.
use Rattle.std.proofs.Common.{◌≡◌, ◌≢◌, ◌+◌, ℕ, List, [], ◌∷◌, refl, sym, ap, subst, inl, inr}
use Rattle.std.specs.List.{AllByRecursion, flat_map}
use Rattle.st_ids.specs.Listing.{AreDistinct, Has, IsRising}
use Rattle.st_ids.specs.Order.{node_cmp}
use Rattle.st_ids.specs.declared.names.CellId.{CellId}
use Rattle.st_ids.specs.declared.names.NodeId.{NodeId}
use Rattle.st_marks.specs.declared.marks.Mark.{Mark}
use Rattle.st_marks.specs.declared.marks.RowMarks.{RowMarks}
use Rattle.st_marks.specs.Listings.{Listing, cells_in, rows_before}
use Rattle.st_marks.specs.Row.{spread}
use Rattle.st_marks.proofs.Members.{all-has, distinct-append, distinct-between, distinct-has, distinct-left, distinct-right, flat_map-has, has-all, has-flat_map}
use Rattle.st_clash.specs.Cells.{AreCellsOnce}
use Rattle.st_clash.specs.declared.seen.Seen.{Seen}
use Rattle.st_clash.specs.inside.Made.{cell_of_mark, named_in_rows}
use Rattle.st_clash.specs.inside.Seen.{row_seen, seen_from}
use Rattle.st_clash.proofs.Names.{marks_name}
use Rattle.st_clash.proofs.SeenCells.{cells_shown}

abbrev cell_of : Seen → CellId
cell_of s = s.cell

-- what is seen is named
seen-named : (r : NodeId) (k : ℕ) (ms : List Mark) (s : Seen) → Has (seen_from r k ms) s → Has (flat_map cell_of_mark ms) s.cell
seen-named r k [] s h = absurd h
seen-named r k (Mark.Skip j ∷ ms) s h = seen-named r (k + j) ms s h
seen-named r k (Mark.Gap c ∷ ms) s (inl e) = inl (ap cell_of e)
seen-named r k (Mark.Gap c ∷ ms) s (inr h) = inr (seen-named r (k + 1) ms s h)
seen-named r k (Mark.Touch c n g ∷ ms) s (inl e) = inl (ap cell_of e)
seen-named r k (Mark.Touch c n g ∷ ms) s (inr h) = inr (seen-named r (k + 1) ms s h)
seen-named r k (Mark.Make c n b ∷ ms) s h = inr (seen-named r (k + 0) ms s h)
seen-named r k (Mark.Fill c n ∷ ms) s (inl e) = inl (ap cell_of e)
seen-named r k (Mark.Fill c n ∷ ms) s (inr h) = inr (seen-named r (k + 1) ms s h)

abbrev id_of : CellId → CellId
id_of c = c

-- one more that is seen
seen-apart : (r : NodeId) (k : ℕ) (c : CellId) (ms : List Mark) → AllByRecursion (λ d. d ≢ c) (flat_map cell_of_mark ms) → AllByRecursion (λ (s : Seen). s.cell ≢ c) (seen_from r k ms)
seen-apart r k c ms a = has-all (λ (s : Seen). s.cell ≢ c) (seen_from r k ms) (λ s h. all-has (λ d. d ≢ c) (flat_map cell_of_mark ms) s.cell a (seen-named r k ms s h))

row-once : (r : NodeId) (k : ℕ) (ms : List Mark) → AreDistinct id_of (flat_map cell_of_mark ms) → AreDistinct cell_of (seen_from r k ms)
row-once r k [] d = tt
row-once r k (Mark.Skip j ∷ ms) d = row-once r (k + j) ms d
row-once r k (Mark.Gap c ∷ ms) d = (seen-apart r (k + 1) c ms d.0, row-once r (k + 1) ms d.1)
row-once r k (Mark.Touch c n g ∷ ms) d = (seen-apart r (k + 1) c ms d.0, row-once r (k + 1) ms d.1)
row-once r k (Mark.Make c n b ∷ ms) d = row-once r (k + 0) ms d.1
row-once r k (Mark.Fill c n ∷ ms) d = (seen-apart r (k + 1) c ms d.0, row-once r (k + 1) ms d.1)

in-row : (r : RowMarks) (s : Seen) → Has (row_seen r) s → Has (cells_in (spread r.marks)) s.cell
in-row r s h = subst (λ l. Has l s.cell) (sym (marks_name r.marks)) (seen-named r.node 0 r.marks s h)

rows-once : (rows : List RowMarks) → AreDistinct id_of (named_in_rows rows) → AreDistinct cell_of (flat_map row_seen rows)
rows-once [] d = tt
rows-once (r ∷ rows) d = distinct-append cell_of (row_seen r) (flat_map row_seen rows)
    (row-once r.node 0 r.marks (subst (AreDistinct id_of) (marks_name r.marks) (distinct-left id_of (cells_in (spread r.marks)) (named_in_rows rows) d)))
    (rows-once rows (distinct-right id_of (cells_in (spread r.marks)) (named_in_rows rows) d))
    (λ x y h k.
    let o = has-flat_map row_seen rows y k in
    distinct-between id_of (cells_in (spread r.marks)) (named_in_rows rows) x.cell y.cell d (in-row r x h) (flat_map-has (λ (q : RowMarks). cells_in (spread q.marks)) rows o.0 y.cell o.1 (in-row o.0 y o.2)))

pub cells-once : (L : Listing) (rows : List RowMarks) → IsRising node_cmp (λ (r : RowMarks). r.node) rows → ((n : NodeId) → L.row n ≡ rows_before rows n) → AreDistinct id_of (named_in_rows rows) → AreCellsOnce L
cells-once L rows rise row_is d c n m k l o p v w =
    let s : Seen = record { cell = c; row = n; place = k; owner = o } in
    let t : Seen = record { cell = c; row = m; place = l; owner = p } in
    let e = distinct-has cell_of (flat_map row_seen rows) s t (rows-once rows d) ((cells_shown L rows rise row_is s).1 v) ((cells_shown L rows rise row_is t).1 w) refl in
    (ap (λ (z : Seen). z.row) e, ap (λ (z : Seen). z.place) e, ap (λ (z : Seen). z.owner) e)
