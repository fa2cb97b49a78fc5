-- Words of the private functions behind `OwnedEarly`.
use Rattle.std.specs.Prelude.{◌&&◌, ℕ, suc, Bool, not, is_some, List, [], ◌∷◌, Option, Some, None, if◌then◌else◌}
use Rattle.st_ids.specs.declared.names.Atom.{Atom}
use Rattle.st_ids.specs.declared.names.CellId.{CellId}
use Rattle.st_ids.specs.declared.names.NodeId.{NodeId}
use Rattle.st_marks.specs.Listings.{CellView}
use Rattle.st_seq.specs.NamedApart.{first_named}
use Rattle.st_ids.specs.Order.{lesser}
use Rattle.st_seq.specs.declared.name_clashes.NamedAt.{NamedAt}

-- ## The same as a search

-- whether something has a name
abbrev pub has_name : List NamedAt → Atom → Bool
has_name names a = is_some (first_named names a)

-- the place of a cell whose owner is among some nodes, and which isn't among some cells
abbrev pub early_place : List NamedAt → List NamedAt → ℕ → Option CellId → Option NodeId → Option ℕ
early_place N M k None o = None
early_place N M k (Some c) None = None
early_place N M k (Some c) (Some n) = if has_name N n.0 && not (has_name M c.0) then Some k else None

-- the first of these places
abbrev pub first_early : List NamedAt → List NamedAt → ℕ → List CellView → Option ℕ
first_early N M k [] = None
first_early N M k (s ∷ X) = lesser (early_place N M k s.cell s.node) (first_early N M (suc k) X)
