-- Who is found before a step, read off its marks.
use Rattle.std.proofs.Common.{◌≡◌, ◌||◌, ℕ, zero, suc, Bool, List, [], ◌∷◌, ◌++◌, map, refl, sym, ap, ◌∙◌}
use Rattle.std.specs.List.{flat_map}
use Rattle.st_ids.specs.declared.names.NodeId.{NodeId}
use Rattle.st_lemmas.proofs.Lists.{flat_map-map, flat_map-same}
use Rattle.st_climb.proofs.GrownSets.{added_then}
use Rattle.st_marks.specs.declared.marks.Mark.{Mark}
use Rattle.st_marks.specs.declared.marks.RegStep.{RegStep}
use Rattle.st_marks.specs.declared.marks.RowMarks.{RowMarks}
use Rattle.st_marks.specs.Embedding.{is_among}
use Rattle.st_marks.specs.Listings.{cells_before, nodes_standing, one_or_none, placed_before}
use Rattle.st_marks.specs.Row.{CellMark, counted_cells, spread}
use Rattle.st_listings.specs.inside.Stood.{finds}

none_counted : (k : ℕ) (xs : List CellMark) → nodes_standing (cells_before (counted_cells k xs)) ≡ nodes_standing (cells_before xs)
none_counted zero xs = refl
none_counted (suc k) xs = none_counted k xs

pub standing_is : (ms : List Mark) → flat_map (λ (m : Mark). one_or_none (finds m)) ms ≡ nodes_standing (cells_before (spread ms))
standing_is [] = refl
standing_is (Mark.Skip k ∷ ms) = standing_is ms ∙ sym (none_counted k (spread ms))
standing_is (Mark.Gap c ∷ ms) = standing_is ms
standing_is (Mark.Touch c n h ∷ ms) = ap (λ l. n ∷ l) (standing_is ms)
standing_is (Mark.Make c n b ∷ ms) = standing_is ms
standing_is (Mark.Fill c n ∷ ms) = standing_is ms

-- what is added for rows and then for registers
pub found_of : (rows : List RowMarks) (regs : List RegStep) (n : NodeId) (old before now : Bool)
    → before ≡ (old || is_among (flat_map (λ (r : RowMarks). flat_map (λ (m : Mark). one_or_none (finds m)) r.marks) rows) n)
    → now ≡ (before || is_among (flat_map (λ (r : RegStep). one_or_none r.before) regs) n)
    → now ≡ (old || is_among (placed_before rows (map (λ (r : RegStep). r.before) regs)) n)
found_of rows regs n old before now e f =
    added_then old before now (flat_map (λ (r : RowMarks). flat_map (λ (m : Mark). one_or_none (finds m)) r.marks) rows) (flat_map (λ (r : RegStep). one_or_none r.before) regs) n e f
    ∙ (λ i. old || is_among (flat_map-same (λ (r : RowMarks). flat_map (λ (m : Mark). one_or_none (finds m)) r.marks) (λ (r : RowMarks). nodes_standing (cells_before (spread r.marks))) (λ r. standing_is r.marks) rows i
    ++ sym (flat_map-map one_or_none (λ (r : RegStep). r.before) regs) i) n)
