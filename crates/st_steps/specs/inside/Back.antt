-- The way back over a step, as code tells it.
use Rattle.std.specs.Prelude.{◌≡◌, ◌++◌, Bool, map, [], Option, None, if◌then◌else◌}
use Rattle.st_ids.specs.Listing.{IsListing}
use Rattle.st_ids.specs.Order.{node_cmp}
use Rattle.st_ids.specs.declared.names.NodeId.{NodeId}
use Rattle.st_kind.specs.Named.{Nodes}
use Rattle.st_marks.specs.declared.marks.How.TheVariants.{Stay, Here, Leave}
use Rattle.st_marks.specs.declared.marks.Loose.{Loose}
use Rattle.st_marks.specs.declared.marks.Mark.{Mark}
use Rattle.st_marks.specs.declared.marks.RegStep.{RegStep}
use Rattle.st_marks.specs.declared.marks.RowMarks.{RowMarks}
use Rattle.st_marks.specs.declared.places.Spot.{Spot}
use Rattle.st_marks.specs.declared.steps.Step.{Step}
use Rattle.st_marks.specs.Embedding.{is_among}
use Rattle.st_marks.specs.Listings.{nodes_loose, nodes_new, placed_before}
use Rattle.st_marks.specs.Row.{merge, spread}
use Rattle.st_rows.specs.Cells.{invert_row}
use Rattle.st_steps.specs.WayBack.{loose_back, register_back, schema_back}

-- who leaves the row of a new node stays, if it is new itself
abbrev pub stay_if : Nodes → Mark → Mark
stay_if new (Mark.Touch c n Leave) = Mark.Touch c n (if new n then Stay else Leave)
stay_if new (Mark.Touch c n Stay) = Mark.Touch c n Stay
stay_if new (Mark.Touch c n Here) = Mark.Touch c n Here
stay_if new (Mark.Skip k) = Mark.Skip k
stay_if new (Mark.Gap c) = Mark.Gap c
stay_if new (Mark.Make c n b) = Mark.Make c n b
stay_if new (Mark.Fill c n) = Mark.Fill c n

-- a row, turned round; that of a new node keeps new nodes
abbrev pub row_turned : Nodes → RowMarks → RowMarks
row_turned new r = record { node = r.node; marks = if new r.node then map (stay_if new) (merge (invert_row (spread r.marks))) else merge (invert_row (spread r.marks)) }

-- whether a step finds a node somewhere or nowhere, or makes it
abbrev pub lists_node : Step → NodeId → Bool
lists_node S n = is_among (nodes_new S.new ++ nodes_loose S.loose ++ placed_before S.rows (map (λ (r : RegStep). r.before) S.regs)) n

-- where some nodes are told to be
abbrev pub told_of : Nodes → (NodeId → Option Spot) → NodeId → Option Spot
told_of listed spots n = if listed n then spots n else None

-- G says all that the way back over S says
pub record ToldBack (S G : Step) (new stood : Nodes) (spots : NodeId → Option Spot) : Type 0 where
  pub schema : G.schema ≡ schema_back S.schema
  pub new_nodes : G.new ≡ []
  pub rows : G.rows ≡ map (row_turned new) S.rows
  pub regs : G.regs ≡ map (register_back new) S.regs
  pub loose : IsListing node_cmp (λ (l : Loose). l.node) G.loose (λ n. loose_back (stood n) (spots n) n)
