-- What changes and steps tell is the same where they are alike but for which empty cells they name.
use Rattle.std.proofs.Common.{◌≡◌, ◌&&◌, not, List, [], ◌∷◌, ◌++◌, map, refl, ap, ◌∙◌}
use Rattle.std.specs.List.{flat_map}
use Rattle.std.specs.Option.{option_or}
use Rattle.st_ids.specs.declared.names.NodeId.{NodeId}
use Rattle.st_marks.specs.declared.changes.Change.{Change}
use Rattle.st_marks.specs.declared.marks.RegMark.{RegMark}
use Rattle.st_marks.specs.declared.marks.RegStep.{RegStep}
use Rattle.st_marks.specs.declared.marks.RowMarks.{RowMarks}
use Rattle.st_marks.specs.declared.steps.Step.{Step}
use Rattle.st_marks.specs.Embedding.{is_among}
use Rattle.st_marks.specs.Listings.{cells_before, nodes_loose, nodes_new, nodes_standing, one_or_none, placed_before}
use Rattle.st_marks.specs.Row.{CellMark, Counted, Gap, Touch, Make, Fill, spread}
use Rattle.st_mention_laws.specs.Shown.{thin, thin_marks, thin_row, thin_step, unnamed}
use Rattle.st_mention_laws.proofs.ThinForms.{alike, alike_step, flat_map-rows, flat_map-told, spread-thin}
use Rattle.st_puts.specs.declared.puts.Fate.{Fate}
use Rattle.st_puts.specs.declared.spots.Told.{Told}
use Rattle.st_puts.specs.inside.First.{first_at}
use Rattle.st_puts.specs.inside.Names.{loose_names, names_by, names_told, register_names, row_names}
use Rattle.st_puts.specs.inside.Puts.{comes_told, fate_by, goes_told, into_nowhere, into_register, leaving, loose_put, row_fate, set_here}
use Rattle.st_puts.specs.inside.Spots.{found_before, gone_after, gone_spot, held_spot, loose_spot, new_spot, row_told, stands_after, told_by}

-- ## Where nodes are put

comes_rows : (rows : List RowMarks) → flat_map (row_fate Fate.Comes) (map thin_row rows) ≡ flat_map (row_fate Fate.Comes) rows
comes_rows rows = flat_map-told (λ n. fate_by Fate.Comes) (λ n k. refl) (λ n c. refl) rows

goes_rows : (rows : List RowMarks) → flat_map (row_fate Fate.Goes) (map thin_row rows) ≡ flat_map (row_fate Fate.Goes) rows
goes_rows rows = flat_map-told (λ n. fate_by Fate.Goes) (λ n k. refl) (λ n c. refl) rows

comes_thin : (C : Change) → comes_told (thin C) ≡ comes_told C
comes_thin C = λ i. comes_rows C.rows i ++ flat_map (λ (r : RegMark). into_register r.field r.fill ++ into_register r.field (set_here r)) C.regs

goes_thin : (C : Change) → goes_told (thin C) ≡ goes_told C
goes_thin C = λ i. goes_rows C.rows i ++ flat_map (λ (r : RegMark). into_nowhere (leaving r)) C.regs ++ flat_map loose_put C.loose

pub same_puts : (x c : Change) → thin x ≡ thin c → (n : NodeId) → option_or (first_at (comes_told x) n) (first_at (goes_told x) n) ≡ option_or (first_at (comes_told c) n) (first_at (goes_told c) n)
same_puts x c e n = alike (λ C. option_or (first_at (comes_told C) n) (first_at (goes_told C) n)) (λ C i. option_or (first_at (comes_thin C i) n) (first_at (goes_thin C i) n)) x c e

-- ## Which nodes are named

names_rows : (rows : List RowMarks) → flat_map row_names (map thin_row rows) ≡ flat_map row_names rows
names_rows rows = flat_map-told names_by (λ n k. refl) (λ n c. refl) rows

names_thin : (C : Change) → names_told (thin C) ≡ names_told C
names_thin C = λ i. names_rows C.rows i ++ flat_map register_names C.regs ++ flat_map loose_names C.loose ++ C.need

pub same_named : (x c : Change) → thin x ≡ thin c → (n : NodeId)
    → (is_among (names_told x) n && not (is_among (nodes_new x.new) n)) ≡ (is_among (names_told c) n && not (is_among (nodes_new c.new) n))
same_named x c e n = alike (λ C. is_among (names_told C) n && not (is_among (nodes_new C.new) n)) (λ C i. is_among (names_thin C i) n && not (is_among (nodes_new C.new) n)) x c e

-- ## Where nodes stand

told_rows : (w : Told) (rows : List RowMarks) → flat_map (row_told w) (map thin_row rows) ≡ flat_map (row_told w) rows
told_rows Told.After rows = flat_map-told (told_by Told.After) (λ n k. refl) (λ n c. refl) rows
told_rows Told.Left rows = flat_map-told (told_by Told.Left) (λ n k. refl) (λ n c. refl) rows
told_rows Told.Before rows = flat_map-told (told_by Told.Before) (λ n k. refl) (λ n c. refl) rows

stands_thin : (S : Step) → stands_after (thin_step S) ≡ stands_after S
stands_thin S = λ i. told_rows Told.After S.rows i ++ flat_map (λ (r : RegStep). held_spot r.field r.after) S.regs

gone_thin : (S : Step) → gone_after (thin_step S) ≡ gone_after S
gone_thin S = λ i. told_rows Told.Left S.rows i ++ flat_map (λ (r : RegStep). gone_spot r.before) S.regs ++ map loose_spot S.loose ++ map new_spot S.new

found_thin : (C : Change) → found_before (thin C) ≡ found_before C
found_thin C = λ i. told_rows Told.Before C.rows i ++ flat_map (λ (r : RegMark). held_spot r.field r.held) C.regs ++ map loose_spot C.loose

pub same_after : (x s : Step) → thin_step x ≡ thin_step s → (n : NodeId) → option_or (first_at (stands_after x) n) (first_at (gone_after x) n) ≡ option_or (first_at (stands_after s) n) (first_at (gone_after s) n)
same_after x s e n = alike_step (λ S. option_or (first_at (stands_after S) n) (first_at (gone_after S) n)) (λ S i. option_or (first_at (stands_thin S i) n) (first_at (gone_thin S i) n)) x s e

pub same_found : (x c : Change) → thin x ≡ thin c → found_before x ≡ found_before c
same_found x c e = alike found_before found_thin x c e

-- who stands in a row before, as its cells show it
standing-unnamed : (cells : List CellMark) → nodes_standing (cells_before (map unnamed cells)) ≡ nodes_standing (cells_before cells)
standing-unnamed [] = refl
standing-unnamed (Counted ∷ ms) = standing-unnamed ms
standing-unnamed (Gap c ∷ ms) = standing-unnamed ms
standing-unnamed (Touch c n h ∷ ms) = ap (λ l. n ∷ l) (standing-unnamed ms)
standing-unnamed (Make c n b ∷ ms) = standing-unnamed ms
standing-unnamed (Fill c n ∷ ms) = standing-unnamed ms

standing-thin : (r : RowMarks) → nodes_standing (cells_before (spread (thin_marks r.marks))) ≡ nodes_standing (cells_before (spread r.marks))
standing-thin r = ap (λ cells. nodes_standing (cells_before cells)) (spread-thin r.marks) ∙ standing-unnamed (spread r.marks)

-- whom a step finds or makes
abbrev pub listed : Step → List NodeId
listed S = nodes_new S.new ++ nodes_loose S.loose ++ placed_before S.rows (map (λ (r : RegStep). r.before) S.regs)

listed_thin : (S : Step) → listed (thin_step S) ≡ listed S
listed_thin S = λ i. nodes_new S.new ++ nodes_loose S.loose
    ++ (flat_map-rows (λ (r : RowMarks). nodes_standing (cells_before (spread r.marks))) standing-thin S.rows i ++ flat_map one_or_none (map (λ (r : RegStep). r.before) S.regs))

pub same_listed : (x s : Step) → thin_step x ≡ thin_step s → listed x ≡ listed s
same_listed x s e = alike_step listed listed_thin x s e
