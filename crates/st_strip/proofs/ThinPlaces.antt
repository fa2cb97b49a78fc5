-- Who is found before a step, whichever empty cells it names.
use Rattle.std.proofs.Common.{◌≡◌, List, [], ◌∷◌, ◌++◌, map, refl, ap, ◌∙◌}
use Rattle.std.specs.List.{flat_map}
use Rattle.st_ids.specs.declared.names.NodeId.{NodeId}
use Rattle.st_marks.specs.declared.marks.RegStep.{RegStep}
use Rattle.st_marks.specs.declared.marks.RowMarks.{RowMarks}
use Rattle.st_marks.specs.declared.steps.Step.{Step}
use Rattle.st_marks.specs.Listings.{cells_before, nodes_standing, one_or_none, placed_before}
use Rattle.st_marks.specs.Row.{CellMark, Counted, Gap, Touch, Make, Fill, spread}
use Rattle.st_mention_laws.specs.Shown.{thin_marks, thin_step, unnamed}
use Rattle.st_mention_laws.proofs.ThinForms.{alike_step, flat_map-rows, spread-thin}

standing-unnamed : (cells : List CellMark) → nodes_standing (cells_before (map unnamed cells)) ≡ nodes_standing (cells_before cells)
standing-unnamed [] = refl
standing-unnamed (Counted ∷ ms) = standing-unnamed ms
standing-unnamed (Gap c ∷ ms) = standing-unnamed ms
standing-unnamed (Touch c n h ∷ ms) = ap (λ l. n ∷ l) (standing-unnamed ms)
standing-unnamed (Make c n b ∷ ms) = standing-unnamed ms
standing-unnamed (Fill c n ∷ ms) = standing-unnamed ms

standing-thin : (r : RowMarks) → nodes_standing (cells_before (spread (thin_marks r.marks))) ≡ nodes_standing (cells_before (spread r.marks))
standing-thin r = ap (λ cells. nodes_standing (cells_before cells)) (spread-thin r.marks) ∙ standing-unnamed (spread r.marks)

-- whom a step finds somewhere
abbrev placed : Step → List NodeId
placed S = placed_before S.rows (map (λ (r : RegStep). r.before) S.regs)

placed_thin : (S : Step) → placed (thin_step S) ≡ placed S
placed_thin S = λ i. flat_map-rows (λ (r : RowMarks). nodes_standing (cells_before (spread r.marks))) standing-thin S.rows i ++ flat_map one_or_none (map (λ (r : RegStep). r.before) S.regs)

pub same_placed : (x s : Step) → thin_step x ≡ thin_step s → placed_before x.rows (map (λ (r : RegStep). r.before) x.regs) ≡ placed_before s.rows (map (λ (r : RegStep). r.before) s.regs)
same_placed x s e = alike_step placed placed_thin x s e
