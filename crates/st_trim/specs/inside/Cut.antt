-- A listing of which less is told, item by item.
use Rattle.std.specs.Prelude.{◌≡◌, ◌<◌, ◌^◌, ◌||◌, ℕ, zero, suc, Bool, true, false, not, List, [], ◌∷◌, map, filter, length, Option}
use Rattle.std.specs.List.{filter_map, list_any}
use Rattle.st_ids.specs.Listing.{Has}
use Rattle.st_ids.specs.Order.{same_node}
use Rattle.st_kind.specs.Named.{Nodes}
use Rattle.st_marks.specs.declared.marks.How.{How}
use Rattle.st_marks.specs.declared.marks.How.TheVariants.{Stay, Here, Leave}
use Rattle.st_marks.specs.declared.marks.Loose.{Loose}
use Rattle.st_marks.specs.declared.marks.Mark.{Mark}
use Rattle.st_marks.specs.declared.marks.RegStep.{RegStep}
use Rattle.st_marks.specs.declared.marks.RowMarks.{RowMarks}
use Rattle.st_marks.specs.declared.steps.Step.{Step}
use Rattle.st_marks.specs.Embedding.{row_marks}
use Rattle.st_marks.specs.Intent.{same_option}
use Rattle.st_marks.specs.Register.{holds_mentioned}
use Rattle.st_marks.specs.Row.{spread}
use Rattle.st_trim.specs.Trimmed.{trim_mark}

-- so many counted cells, as marks
abbrev pub skips : ℕ → List Mark
skips zero = []
skips (suc k) = Mark.Skip (suc k) ∷ []

-- a row, with k alone named, if it still tells something
abbrev pub cut_row : Nodes → RowMarks → Option RowMarks
cut_row k r = row_marks r.node (map (trim_mark k) (spread r.marks))

-- whether a register is listed, with k alone named
abbrev pub tells_register : Nodes → RegStep → Bool
tells_register k r = not (same_option same_node r.before r.after) || holds_mentioned k r.before

-- whether a mark names a node that stays in its cell
abbrev pub is_stay : How → Bool
is_stay Stay = true
is_stay Here = false
is_stay Leave = false

abbrev pub names_stay : Mark → Bool
names_stay (Mark.Skip k) = false
names_stay (Mark.Gap c) = false
names_stay (Mark.Touch c n h) = is_stay h
names_stay (Mark.Make c n b) = false
names_stay (Mark.Fill c n) = false

-- no mark names a node that stays, each register differs, and no node is told to be nowhere: so what is told is told whoever is named
pub record TellsOfChangesAlone (G : Step) : Type 0 where
  pub rows : list_any (λ (r : RowMarks). list_any names_stay r.marks) G.rows ≡ false
  pub regs : list_any (λ (r : RegStep). same_option same_node r.before r.after) G.regs ≡ false
  pub loose : G.loose ≡ []

-- each row lists fewer than 2^32 cells
abbrev pub AreShort : List RowMarks → Type 0
AreShort rows = (r : RowMarks) → Has rows r → length (spread r.marks) < 2 ^ 32

-- T is G with k alone named, item by item
pub record IsCutTo (k : Nodes) (G T : Step) : Type 0 where
  pub schema : T.schema ≡ G.schema
  pub new : T.new ≡ G.new
  pub rows : AreShort G.rows → T.rows ≡ filter_map (cut_row k) G.rows
  pub regs : T.regs ≡ filter (tells_register k) G.regs
  pub loose : T.loose ≡ filter (λ (l : Loose). k l.node) G.loose
