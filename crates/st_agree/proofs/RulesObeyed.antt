-- What the rules of normal form give: listings that rise, and a step that finds each node and each cell once.
use Rattle.std.proofs.Common.{◌≡◌, ℕ, zero, suc, List, [], ◌∷◌, ◌++◌, map, Option, Some, None, refl, sym, ap, ◌∙◌, subst, append_assoc}
use Rattle.std.specs.List.{flat_map}
use Rattle.std.specs.Prelude.{MatchOption}
use Rattle.st_ids.specs.Listing.{AreDistinct, IsRising}
use Rattle.st_ids.specs.Order.{field_cmp, node_cmp}
use Rattle.st_ids.specs.declared.names.NodeId.{NodeId}
use Rattle.st_lemmas.proofs.Lists.{map-append}
use Rattle.st_marks.specs.declared.changes.Change.{Change}
use Rattle.st_marks.specs.declared.changes.NewNode.{NewNode}
use Rattle.st_marks.specs.declared.marks.Loose.{Loose}
use Rattle.st_marks.specs.declared.marks.Mark.{Mark}
use Rattle.st_marks.specs.declared.marks.RegMark.{RegMark}
use Rattle.st_marks.specs.declared.marks.RegStep.{RegStep}
use Rattle.st_marks.specs.declared.marks.RowMarks.{RowMarks}
use Rattle.st_marks.specs.declared.steps.Step.{Step}
use Rattle.st_marks.specs.Listings.{listing_before_step}
use Rattle.st_marks.specs.Row.{CellMark, counted_cells, spread}
use Rattle.st_marks.proofs.Members.{all-has, distinct-has, has-all, has-map, map-has}
use Rattle.st_normal.specs.declared.entries.Found.{Found}
use Rattle.st_normal.specs.Rules.{ObeysChangeRules, ObeysDataRules, ObeysSchemaRules, ObeysStepRules, found_held, found_in, found_loose, found_over, how_over, in_rows}
use Rattle.st_clash.proofs.CellsOnce.{cells-once}
use Rattle.st_agree.specs.declared.places.Placed.{Placed}
use Rattle.st_agree.specs.inside.Clashes.{IsClear, IsPlacedOnce, ListsRise}
use Rattle.st_agree.specs.inside.Places.{placed_by, placed_held, placed_loose, placements_of_step, row_placed}
use Rattle.st_agree.proofs.ShownPlaces.{step_placed}

-- ## Rising

pub lists_rise : (C : Change) (S : Step) → ObeysChangeRules C → ObeysStepRules S → ListsRise C S
lists_rise C S change step = go C.schema change
  where
    go : (o : Option (List ℕ)) → MatchOption o (ObeysDataRules C) (λ _. ObeysSchemaRules C) → ListsRise C S
    go None d = record { rows = d.rising.rows; rows_over = step.rising.rows; regs = d.rising.regs; regs_over = step.rising.regs; new = d.rising.new; new_over = step.rising.new }
    go (Some t) d = record {
      rows = subst (IsRising node_cmp (λ (r : RowMarks). r.node)) (sym d.alone.2) refl;
      rows_over = step.rising.rows;
      regs = subst (IsRising field_cmp (λ (r : RegMark). r.field)) (sym d.alone.3) refl;
      regs_over = step.rising.regs;
      new = subst (IsRising node_cmp (λ (m : NewNode). m.node)) (sym d.alone.1) refl;
      new_over = step.rising.new;
    }

-- ## Each node once

abbrev node_of : Placed → NodeId
node_of p = p.node

abbrev found_node : Found → NodeId
found_node f = f.node

counted : (k : ℕ) (xs : List CellMark) → found_in (counted_cells k xs) ≡ found_in xs
counted zero xs = refl
counted (suc k) xs = counted k xs

by-marks : (r : NodeId) (ms : List Mark) → map node_of (flat_map (placed_by r) ms) ≡ map found_node (found_in (spread ms))
by-marks r [] = refl
by-marks r (Mark.Skip k ∷ ms) = by-marks r ms ∙ ap (map found_node) (sym (counted k (spread ms)))
by-marks r (Mark.Gap c ∷ ms) = by-marks r ms
by-marks r (Mark.Touch c n h ∷ ms) = ap (λ l. n ∷ l) (by-marks r ms)
by-marks r (Mark.Make c n b ∷ ms) = by-marks r ms
by-marks r (Mark.Fill c n ∷ ms) = by-marks r ms

by-rows : (rows : List RowMarks) → map node_of (flat_map row_placed rows) ≡ map found_node (in_rows found_in rows)
by-rows [] = refl
by-rows (r ∷ rows) = map-append node_of (row_placed r) (flat_map row_placed rows)
    ∙ (λ i. by-marks r.node r.marks i ++ by-rows rows i)
    ∙ sym (map-append found_node (found_in (spread r.marks)) (in_rows found_in rows))

held : (r : RegStep) (o : Option NodeId) → map node_of (placed_held r.field o) ≡ map found_node (found_held o (how_over r))
held r None = refl
held r (Some n) = refl

by-registers : (regs : List RegStep) → map node_of (flat_map (λ (r : RegStep). placed_held r.field r.before) regs) ≡ map found_node (flat_map found_over regs)
by-registers [] = refl
by-registers (r ∷ regs) = map-append node_of (placed_held r.field r.before) (flat_map (λ (r : RegStep). placed_held r.field r.before) regs)
    ∙ (λ i. held r r.before i ++ by-registers regs i)
    ∙ sym (map-append found_node (found_over r) (flat_map found_over regs))

by-loose : (ls : List Loose) → map node_of (map placed_loose ls) ≡ map found_node (found_loose ls)
by-loose [] = refl
by-loose (l ∷ ls) = ap (λ xs. l.node ∷ xs) (by-loose ls)

-- who is placed and who is found
same_nodes : (S : Step) → map node_of (placements_of_step S) ≡ map found_node (in_rows found_in S.rows ++ (flat_map found_over S.regs ++ found_loose S.loose))
same_nodes S =
    ap (map node_of) (append_assoc (flat_map row_placed S.rows) (flat_map (λ (r : RegStep). placed_held r.field r.before) S.regs) (map placed_loose S.loose))
    ∙ map-append node_of (flat_map row_placed S.rows) (flat_map (λ (r : RegStep). placed_held r.field r.before) S.regs ++ map placed_loose S.loose)
    ∙ ap (λ l. map node_of (flat_map row_placed S.rows) ++ l) (map-append node_of (flat_map (λ (r : RegStep). placed_held r.field r.before) S.regs) (map placed_loose S.loose))
    ∙ (λ i. by-rows S.rows i ++ (by-registers S.regs i ++ by-loose S.loose i))
    ∙ ap (λ l. map found_node (in_rows found_in S.rows) ++ l) (sym (map-append found_node (flat_map found_over S.regs) (found_loose S.loose)))
    ∙ sym (map-append found_node (in_rows found_in S.rows) (flat_map found_over S.regs ++ found_loose S.loose))

-- distinct by a name where the names are
mapped-distinct : {A K : Type 0} (key : A → K) (xs : List A) → AreDistinct key xs → AreDistinct (λ (k : K). k) (map key xs)
mapped-distinct key [] d = tt
mapped-distinct key (x ∷ xs) d = (
  has-all (λ k. k ≡ key x → ⊥) (map key xs) (λ k h e. let w = has-map key xs k h in all-has (λ y. key y ≡ key x → ⊥) xs w.0 d.0 w.1 (w.2 ∙ e)),
  mapped-distinct key xs d.1,
)

distinct-mapped : {A K : Type 0} (key : A → K) (xs : List A) → AreDistinct (λ (k : K). k) (map key xs) → AreDistinct key xs
distinct-mapped key [] d = tt
distinct-mapped key (x ∷ xs) d = (
  has-all (λ y. key y ≡ key x → ⊥) xs (λ y h e. all-has (λ k. k ≡ key x → ⊥) (map key xs) (key y) d.0 (map-has key xs y h) e),
  distinct-mapped key xs d.1,
)

placed_once : (S : Step) → ObeysStepRules S → IsPlacedOnce (listing_before_step S)
placed_once S w n s t p q =
    let d = distinct-mapped node_of (placements_of_step S) (subst (AreDistinct (λ (k : NodeId). k)) (sym (same_nodes S)) (mapped-distinct found_node (in_rows found_in S.rows ++ (flat_map found_over S.regs ++ found_loose S.loose)) w.common.found_once)) in
    let a : Placed = record { node = n; spot = s } in
    let b : Placed = record { node = n; spot = t } in
    let e = distinct-has node_of (placements_of_step S) a b d ((step_placed S w.rising.rows w.rising.regs a).1 p) ((step_placed S w.rising.rows w.rising.regs b).1 q) refl in
    ap (λ (z : Placed). z.spot) e

-- ## All together

pub step_is_clear : (S : Step) → ObeysStepRules S → IsClear S
step_is_clear S w = record {
  nodes = placed_once S w;
  cells = cells-once (listing_before_step S) S.rows w.rising.rows (λ n. refl) w.common.cells_once;
  schemas = w.schema;
}
