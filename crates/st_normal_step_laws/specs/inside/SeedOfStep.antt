-- What one step finds, of which its seed is made.
use Rattle.std.specs.Prelude.{◌++◌, not, List, [], ◌∷◌, map, Option, Some, None, if◌then◌else◌}
use Rattle.std.specs.List.{filter}
use Rattle.st_ids.specs.Order.{same_rev}
use Rattle.st_ids.specs.Root.{opening}
use Rattle.st_ids.specs.declared.names.Atom.{Atom}
use Rattle.st_ids.specs.declared.names.NodeId.{NodeId}
use Rattle.st_ids.specs.declared.names.Rev.{Rev}
use Rattle.st_marks.specs.declared.marks.RegStep.{RegStep}
use Rattle.st_marks.specs.declared.schemas.SchemaEntry.{SchemaEntry}
use Rattle.st_marks.specs.declared.schemas.SchemaStep.{SchemaStep}
use Rattle.st_marks.specs.declared.steps.Step.{Step}
use Rattle.st_marks.specs.Embedding.{is_among}
use Rattle.st_marks.specs.Listings.{cells_in, nodes_new}
use Rattle.st_normal.specs.declared.entries.Found.{Found}
use Rattle.st_normal.specs.Rules.{entries_of_step, fields_of, hole_owners, in_rows}
use Rattle.st_normal_laws.specs.Seed.{Finds, FoundHeld}
use Rattle.st_normal_laws.specs.inside.One.{cell_atoms, entry, found_row, node_atoms}

-- a listed register as it is before
abbrev pub found_before : RegStep → FoundHeld
found_before r = record { field = r.field; node = r.before }

-- the shortest entries of which the last has a revision
abbrev pub entries_start : Rev → List SchemaEntry
entries_start on =
    if same_rev on opening then entry opening ∷ [] else entry opening ∷ entry on ∷ []

-- the shortest entries from which a step can lead
abbrev pub entries_before : Option SchemaStep → List SchemaEntry
entries_before None = entry opening ∷ []
entries_before (Some s) = entries_start s.on ++ s.cut

-- the nodes that a step finds
abbrev pub nodes_found_by : Step → List NodeId
nodes_found_by S = map (λ (f : Found). f.node) (entries_of_step S).found

-- the owners of empty cells that it makes, other than new nodes
abbrev pub old_holes : Step → List NodeId
old_holes S =
    filter (λ n. not (is_among (nodes_new S.new) n)) (in_rows hole_owners S.rows)

-- what a step finds
abbrev pub finds_of_step : Step → Finds
finds_of_step S = record {
  rows = map found_row S.rows;
  held = map found_before S.regs;
  known = nodes_found_by S ++ old_holes S;
  schemas = entries_before S.schema;
}

-- all names that it has
abbrev pub names_in_step : Step → List Atom
names_in_step S = node_atoms (nodes_new S.new)
    ++ (node_atoms (nodes_found_by S)
    ++ (node_atoms (fields_of (entries_of_step S)) ++ cell_atoms (in_rows cells_in S.rows)))
