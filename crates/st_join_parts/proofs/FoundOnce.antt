-- A change in normal form finds each node once and each cell.
use Rattle.std.proofs.Common.{◌≡◌, ℕ, zero, suc, List, [], ◌∷◌, ◌++◌, map, Option, Some, None, refl, sym, ap, ◌∙◌, subst, append_assoc}
use Rattle.std.specs.List.{flat_map}
use Rattle.std.specs.Prelude.{MatchOption}
use Rattle.st_ids.specs.Listing.{AreDistinct, IsRising}
use Rattle.st_ids.specs.Order.{field_cmp, node_cmp}
use Rattle.st_ids.specs.declared.names.CellId.{CellId}
use Rattle.st_ids.specs.declared.names.NodeId.{NodeId}
use Rattle.st_lemmas.proofs.Lists.{map-append}
use Rattle.st_marks.specs.declared.changes.Change.{Change}
use Rattle.st_marks.specs.declared.changes.NewNode.{NewNode}
use Rattle.st_marks.specs.declared.marks.Loose.{Loose}
use Rattle.st_marks.specs.declared.marks.Mark.{Mark}
use Rattle.st_marks.specs.declared.marks.RegMark.{RegMark}
use Rattle.st_marks.specs.declared.marks.RegStep.{RegStep}
use Rattle.st_marks.specs.declared.marks.RowMarks.{RowMarks}
use Rattle.st_marks.specs.Listings.{cells_in, listing_before_step}
use Rattle.st_marks.specs.Row.{CellMark, counted_cells, spread}
use Rattle.st_marks.proofs.Members.{all-has, distinct-has, has-all, has-map, map-has}
use Rattle.st_normal.specs.declared.entries.Found.{Found}
use Rattle.st_normal.specs.Rules.{ObeysChangeRules, ObeysDataRules, ObeysSchemaRules, entries_by, found_at, found_held, found_in, found_loose, in_rows, put_at}
use Rattle.st_clash.specs.Cells.{AreCellsOnce}
use Rattle.st_clash.proofs.CellsOnce.{cells-once}
use Rattle.st_turn_places.specs.Rules.{IsPlacedOnce}
use Rattle.st_agree.specs.declared.places.Placed.{Placed}
use Rattle.st_agree.specs.inside.Places.{placed_by, placed_held, placed_loose, placements_of_step, row_placed}
use Rattle.st_part_rings.specs.Told.{register_over, step_of}
use Rattle.st_part_rings.proofs.ToldListings.{registers_rise}
use Rattle.st_join_parts.proofs.PlacesBefore.{step_placed}

-- ## Who is placed, and who is found

abbrev node_of : Placed → NodeId
node_of p = p.node

abbrev found_node : Found → NodeId
found_node f = f.node

counted : (k : ℕ) (xs : List CellMark) → found_in (counted_cells k xs) ≡ found_in xs
counted zero xs = refl
counted (suc k) xs = counted k xs

by-marks : (r : NodeId) (ms : List Mark) → map node_of (flat_map (placed_by r) ms) ≡ map found_node (found_in (spread ms))
by-marks r [] = refl
by-marks r (Mark.Skip k ∷ ms) = by-marks r ms ∙ ap (map found_node) (sym (counted k (spread ms)))
by-marks r (Mark.Gap c ∷ ms) = by-marks r ms
by-marks r (Mark.Touch c n h ∷ ms) = ap (λ l. n ∷ l) (by-marks r ms)
by-marks r (Mark.Make c n b ∷ ms) = by-marks r ms
by-marks r (Mark.Fill c n ∷ ms) = by-marks r ms

by-rows : (rows : List RowMarks) → map node_of (flat_map row_placed rows) ≡ map found_node (in_rows found_in rows)
by-rows [] = refl
by-rows (r ∷ rows) = map-append node_of (row_placed r) (flat_map row_placed rows)
    ∙ (λ i. by-marks r.node r.marks i ++ by-rows rows i)
    ∙ sym (map-append found_node (found_in (spread r.marks)) (in_rows found_in rows))

abbrev register_placed : RegStep → List Placed
register_placed r = placed_held r.field r.before

held : (r : RegMark) (o : Option NodeId) → map node_of (placed_held r.field o) ≡ map found_node (found_held o r.how)
held r None = refl
held r (Some n) = refl

by-registers : (regs : List RegMark) → map node_of (flat_map register_placed (map register_over regs)) ≡ map found_node (flat_map found_at regs)
by-registers [] = refl
by-registers (r ∷ regs) = map-append node_of (placed_held r.field r.held) (flat_map register_placed (map register_over regs))
    ∙ (λ i. held r r.held i ++ by-registers regs i)
    ∙ sym (map-append found_node (found_at r) (flat_map found_at regs))

by-loose : (ls : List Loose) → map node_of (map placed_loose ls) ≡ map found_node (found_loose ls)
by-loose [] = refl
by-loose (l ∷ ls) = ap (λ xs. l.node ∷ xs) (by-loose ls)

same_nodes : (C : Change) → map node_of (placements_of_step (step_of C)) ≡ map found_node (in_rows found_in C.rows ++ (flat_map found_at C.regs ++ found_loose C.loose))
same_nodes C =
    let regs = flat_map register_placed (map register_over C.regs) in
    ap (map node_of) (append_assoc (flat_map row_placed C.rows) regs (map placed_loose C.loose))
    ∙ map-append node_of (flat_map row_placed C.rows) (regs ++ map placed_loose C.loose)
    ∙ ap (λ l. map node_of (flat_map row_placed C.rows) ++ l) (map-append node_of regs (map placed_loose C.loose))
    ∙ (λ i. by-rows C.rows i ++ (by-registers C.regs i ++ by-loose C.loose i))
    ∙ ap (λ l. map found_node (in_rows found_in C.rows) ++ l) (sym (map-append found_node (flat_map found_at C.regs) (found_loose C.loose)))
    ∙ sym (map-append found_node (in_rows found_in C.rows) (flat_map found_at C.regs ++ found_loose C.loose))

-- distinct by a name where the names are
mapped-distinct : {A K : Type 0} (key : A → K) (xs : List A) → AreDistinct key xs → AreDistinct (λ (k : K). k) (map key xs)
mapped-distinct key [] d = tt
mapped-distinct key (x ∷ xs) d = (
  has-all (λ k. k ≡ key x → ⊥) (map key xs) (λ k h e. let w = has-map key xs k h in all-has (λ y. key y ≡ key x → ⊥) xs w.0 d.0 w.1 (w.2 ∙ e)),
  mapped-distinct key xs d.1,
)

distinct-mapped : {A K : Type 0} (key : A → K) (xs : List A) → AreDistinct (λ (k : K). k) (map key xs) → AreDistinct key xs
distinct-mapped key [] d = tt
distinct-mapped key (x ∷ xs) d = (
  has-all (λ y. key y ≡ key x → ⊥) xs (λ y h e. all-has (λ k. k ≡ key x → ⊥) (map key xs) (key y) d.0 (map-has key xs y h) e),
  distinct-mapped key xs d.1,
)

-- ## What the rules say of it

record IsListedOnce (new : List NewNode) (rows : List RowMarks) (regs : List RegMark) (loose : List Loose) : Type 0 where
  pub found_once : AreDistinct found_node (entries_by found_at put_at (λ (r : RegMark). r.field) new rows regs loose).found
  pub cells_once : AreDistinct (λ (c : CellId). c) (in_rows cells_in rows)
  pub rows_rise : IsRising node_cmp (λ (r : RowMarks). r.node) rows
  pub regs_rise : IsRising field_cmp (λ (r : RegMark). r.field) regs

nothing-listed : IsListedOnce [] [] [] []
nothing-listed = record { found_once = tt; cells_once = tt; rows_rise = refl; regs_rise = refl }

listed-once : (C : Change) → ObeysChangeRules C → IsListedOnce C.new C.rows C.regs C.loose
listed-once C w = go C.schema w
  where
    go : (o : Option (List ℕ)) → MatchOption o (ObeysDataRules C) (λ _. ObeysSchemaRules C) → IsListedOnce C.new C.rows C.regs C.loose
    go None d = record { found_once = d.common.found_once; cells_once = d.common.cells_once; rows_rise = d.rising.rows; regs_rise = d.rising.regs }
    go (Some t) d =
        subst (λ new. IsListedOnce new C.rows C.regs C.loose) (sym d.alone.1)
        (subst (λ rows. IsListedOnce [] rows C.regs C.loose) (sym d.alone.2)
        (subst (λ regs. IsListedOnce [] [] regs C.loose) (sym d.alone.3)
        (subst (λ loose. IsListedOnce [] [] [] loose) (sym d.alone.4) nothing-listed)))

pub lists_rise : (C : Change) → ObeysChangeRules C → IsRising node_cmp (λ (r : RowMarks). r.node) C.rows × IsRising field_cmp (λ (r : RegMark). r.field) C.regs
lists_rise C w = let d = listed-once C w in (d.rows_rise, d.regs_rise)

pub cells_once : (C : Change) → ObeysChangeRules C → AreCellsOnce (listing_before_step (step_of C))
cells_once C w = let d = listed-once C w in cells-once (listing_before_step (step_of C)) C.rows d.rows_rise (λ n. refl) d.cells_once

pub placed_once : (C : Change) → ObeysChangeRules C → IsPlacedOnce (listing_before_step (step_of C))
placed_once C w n s t p q =
    let S = step_of C in
    let l = listed-once C w in
    let regs = registers_rise C l.regs_rise in
    let d = distinct-mapped node_of (placements_of_step S) (subst (AreDistinct (λ (k : NodeId). k)) (sym (same_nodes C)) (mapped-distinct found_node (in_rows found_in C.rows ++ (flat_map found_at C.regs ++ found_loose C.loose)) l.found_once)) in
    ap (λ (r : Placed). r.spot) (distinct-has node_of (placements_of_step S) (record { node = n; spot = s }) (record { node = n; spot = t }) d
    ((step_placed S l.rows_rise regs (record { node = n; spot = s })).1 p) ((step_placed S l.rows_rise regs (record { node = n; spot = t })).1 q) refl)
