-- What a step makes, told mark by mark: nodes that were there stay in their places, and no others stand in their fields.
use Rattle.std.specs.Prelude.{◌≡◌, ◌&&◌, Bool, map, None}
use Rattle.st_kind.specs.Named.{Nodes}
use Rattle.st_marks.specs.declared.marks.How.TheVariants.{Stay}
use Rattle.st_marks.specs.declared.marks.Loose.{Loose}
use Rattle.st_marks.specs.declared.marks.Mark.{Mark}
use Rattle.st_marks.specs.declared.marks.RegStep.{RegStep}
use Rattle.st_marks.specs.declared.marks.RowMarks.{RowMarks}
use Rattle.st_marks.specs.declared.steps.Step.{Step}
use Rattle.st_steps.specs.WayBack.{register_back}

-- a mark: what was full stays full, what was empty stays empty, and a new cell is full where its owner and its row are new
abbrev pub mark_made : Nodes → Bool → Mark → Mark
mark_made new young (Mark.Skip k) = Mark.Skip k
mark_made new young (Mark.Gap c) = Mark.Gap c
mark_made new young (Mark.Touch c n h) = Mark.Touch c n Stay
mark_made new young (Mark.Make c n b) = Mark.Make c n (b && (young && new n))
mark_made new young (Mark.Fill c n) = Mark.Gap c

-- a row, mark by mark
abbrev pub row_made : Nodes → RowMarks → RowMarks
row_made new r = record { node = r.node; marks = map (mark_made new (new r.node)) r.marks }

-- a register: who was there, and then who is there on the way back
abbrev pub register_made : Nodes → RegStep → RegStep
register_made new r = record { field = r.field; before = r.before; after = (register_back new r).after }

-- a node that is nowhere stays so
abbrev pub loose_made : Loose → Loose
loose_made l = record { node = l.node; how = Stay }

-- G says all that the makings of S say; it may name more
pub record ToldMade (S G : Step) (new : Nodes) : Type 0 where
  pub schema : G.schema ≡ None
  pub new_nodes : G.new ≡ S.new
  pub rows : G.rows ≡ map (row_made new) S.rows
  pub regs : G.regs ≡ map (register_made new) S.regs
  pub loose : G.loose ≡ map loose_made S.loose
