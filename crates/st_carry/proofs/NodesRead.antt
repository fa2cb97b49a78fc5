-- Who stands somewhere, read off marks and registers.
use Rattle.std.proofs.Common.{◌≡◌, ◌||◌, ◌&&◌, ℕ, zero, suc, Bool, true, false, List, [], ◌∷◌, ◌++◌, map, Option, Some, None, cond, not, refl, sym, ap, ◌∙◌}
use Rattle.std.specs.List.{flat_map}
use Rattle.st_ids.specs.declared.names.NodeId.{NodeId}
use Rattle.st_lemmas.proofs.Lists.{flat_map-map, flat_map-same}
use Rattle.st_climb.proofs.GrownSets.{added_then}
use Rattle.st_marks.specs.declared.marks.Mark.{Mark}
use Rattle.st_marks.specs.declared.marks.RegMark.{RegMark}
use Rattle.st_marks.specs.declared.marks.RegStep.{RegStep}
use Rattle.st_marks.specs.declared.marks.RowMarks.{RowMarks}
use Rattle.st_marks.specs.Embedding.{is_among}
use Rattle.st_marks.specs.How.{is_leave}
use Rattle.st_marks.specs.Listings.{cells_after, cells_before, nodes_standing, one_or_none, placed_before}
use Rattle.st_marks.specs.Row.{CellMark, counted_cells, spread}
use Rattle.st_carry.specs.inside.Standing.{held_by, placed_at, stands_by}

none_before : (k : ℕ) (xs : List CellMark) → nodes_standing (cells_before (counted_cells k xs)) ≡ nodes_standing (cells_before xs)
none_before zero xs = refl
none_before (suc k) xs = none_before k xs

none_after : (k : ℕ) (xs : List CellMark) → nodes_standing (cells_after (counted_cells k xs)) ≡ nodes_standing (cells_after xs)
none_after zero xs = refl
none_after (suc k) xs = none_after k xs

pub before_is : (ms : List Mark) → flat_map (λ (m : Mark). one_or_none (stands_by false m)) ms ≡ nodes_standing (cells_before (spread ms))
before_is [] = refl
before_is (Mark.Skip k ∷ ms) = before_is ms ∙ sym (none_before k (spread ms))
before_is (Mark.Gap c ∷ ms) = before_is ms
before_is (Mark.Touch c n h ∷ ms) = ap (λ l. n ∷ l) (before_is ms)
before_is (Mark.Make c n b ∷ ms) = before_is ms
before_is (Mark.Fill c n ∷ ms) = before_is ms

touched : (b : Bool) (n : NodeId) → one_or_none (cond {A = Option NodeId} (true && b) None (Some n)) ≡ cond (not b) (n ∷ []) []
touched true n = refl
touched false n = refl

made : (b : Bool) (n : NodeId) → one_or_none (cond {A = Option NodeId} (true && b) (Some n) None) ≡ cond b (n ∷ []) []
made true n = refl
made false n = refl

pub after_is : (ms : List Mark) → flat_map (λ (m : Mark). one_or_none (stands_by true m)) ms ≡ nodes_standing (cells_after (spread ms))
after_is [] = refl
after_is (Mark.Skip k ∷ ms) = after_is ms ∙ sym (none_after k (spread ms))
after_is (Mark.Gap c ∷ ms) = after_is ms
after_is (Mark.Touch c n h ∷ ms) = λ i. touched (is_leave h) n i ++ after_is ms i
after_is (Mark.Make c n b ∷ ms) = λ i. made b n i ++ after_is ms i
after_is (Mark.Fill c n ∷ ms) = ap (λ l. n ∷ l) (after_is ms)

abbrev pub in_rows : Bool → List RowMarks → List NodeId
in_rows after rows = flat_map (λ (r : RowMarks). flat_map (λ (m : Mark). one_or_none (stands_by after m)) r.marks) rows

abbrev pub in_registers : Bool → List RegStep → List NodeId
in_registers after regs = flat_map (λ (r : RegStep). one_or_none (held_by after r)) regs

rows_before : (rows : List RowMarks) → in_rows false rows ≡ flat_map (λ (r : RowMarks). nodes_standing (cells_before (spread r.marks))) rows
rows_before rows = flat_map-same (λ (r : RowMarks). flat_map (λ (m : Mark). one_or_none (stands_by false m)) r.marks) (λ (r : RowMarks). nodes_standing (cells_before (spread r.marks))) (λ r. before_is r.marks) rows

pub placed_is : (after : Bool) (rows : List RowMarks) (regs : List RegStep) → in_rows after rows ++ in_registers after regs ≡ placed_at after rows regs
placed_is false rows regs = λ i. rows_before rows i ++ sym (flat_map-map one_or_none (λ (r : RegStep). r.before) regs) i
placed_is true rows regs = λ i.
    flat_map-same (λ (r : RowMarks). flat_map (λ (m : Mark). one_or_none (stands_by true m)) r.marks) (λ (r : RowMarks). nodes_standing (cells_after (spread r.marks))) (λ r. after_is r.marks) rows i
    ++ sym (flat_map-map one_or_none (λ (r : RegStep). r.after) regs) i

-- what is added for rows and then for registers
pub placed_then : (after : Bool) (rows : List RowMarks) (regs : List RegStep) (n : NodeId) (old before now : Bool) → before ≡ (old || is_among (in_rows after rows) n) → now ≡ (before || is_among (in_registers after regs) n)
    → now ≡ (old || is_among (placed_at after rows regs) n)
placed_then after rows regs n old before now e f = added_then old before now (in_rows after rows) (in_registers after regs) n e f ∙ ap (λ l. old || is_among l n) (placed_is after rows regs)

pub held_then : (rows : List RowMarks) (regs : List RegMark) (n : NodeId) (old before now : Bool) → before ≡ (old || is_among (in_rows false rows) n) → now ≡ (before || is_among (flat_map (λ (r : RegMark). one_or_none r.held) regs) n)
    → now ≡ (old || is_among (placed_before rows (map (λ (r : RegMark). r.held) regs)) n)
held_then rows regs n old before now e f =
    added_then old before now (in_rows false rows) (flat_map (λ (r : RegMark). one_or_none r.held) regs) n e f
    ∙ (λ i. old || is_among (rows_before rows i ++ sym (flat_map-map one_or_none (λ (r : RegMark). r.held) regs) i) n)

-- who is new, whom the step finds, and whom the change finds
pub named_then : (first stepped last made found other : Bool) → first ≡ made → stepped ≡ (first || found) → last ≡ (stepped || other) → last ≡ (found || (made || other))
named_then first stepped last made found other e f g = g ∙ (λ i. f i || other) ∙ (λ i. (e i || found) || other) ∙ go made found
  where
    go : (a b : Bool) → ((a || b) || other) ≡ (b || (a || other))
    go true true = refl
    go true false = refl
    go false b = refl

pub unless_true : (b : Bool) → b ≡ (b || false)
unless_true true = refl
unless_true false = refl
