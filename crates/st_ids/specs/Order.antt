-- The orders of names, and the tests whether two names are one.
use Rattle.std.specs.Prelude.{◌≡◌, Bool, ℕ, Option, Some, None, min}
use Rattle.std.specs.Cmp.Lexicographic.{slice_cmp}
use Rattle.std.specs.declared.cmp.Ordering.{Ordering}
use Rattle.std.specs.declared.cmp.Ordering.TheVariants.{Equal}
use Rattle.std.specs.Ordering.{nat_cmp, ordering_then, is_eq}
use Rattle.st_ids.specs.declared.names.Rev.{Rev}
use Rattle.st_ids.specs.declared.names.Atom.{Atom}
use Rattle.st_ids.specs.declared.names.NodeId.{NodeId}
use Rattle.st_ids.specs.declared.names.CellId.{CellId}
use Rattle.st_ids.specs.declared.names.FieldId.{FieldId}

-- by session, then by number
abbrev pub rev_cmp : Rev → Rev → Ordering
rev_cmp a b = ordering_then (nat_cmp a.session b.session) (nat_cmp a.num b.num)

abbrev pub atom_cmp : Atom → Atom → Ordering
atom_cmp a b = ordering_then (rev_cmp a.rev b.rev) (nat_cmp a.at b.at)

abbrev pub node_cmp : NodeId → NodeId → Ordering
node_cmp a b = atom_cmp a.0 b.0

abbrev pub cell_cmp : CellId → CellId → Ordering
cell_cmp a b = atom_cmp a.0 b.0

-- by node, then by the bytes of the key
abbrev pub field_cmp : FieldId → FieldId → Ordering
field_cmp a b = ordering_then (node_cmp a.node b.node) (slice_cmp nat_cmp a.key.0 b.key.0)

-- names that tie are one
abbrev pub IsExact : {K : Type 0} → (K → K → Ordering) → Type 0
IsExact {K} R = (a b : K) → R a b ≡ Equal → a ≡ b

-- whether two names are one
unfoldable pub same_rev : Rev → Rev → Bool
same_rev a b = is_eq (rev_cmp a b)

unfoldable pub same_node : NodeId → NodeId → Bool
same_node a b = is_eq (node_cmp a b)

unfoldable pub same_cell : CellId → CellId → Bool
same_cell a b = is_eq (cell_cmp a b)

unfoldable pub same_field : FieldId → FieldId → Bool
same_field a b = is_eq (field_cmp a b)

-- the lesser of two places, if there is any
abbrev pub lesser : Option ℕ → Option ℕ → Option ℕ
lesser None o = o
lesser (Some a) None = Some a
lesser (Some a) (Some b) = Some (min a b)
