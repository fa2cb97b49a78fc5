-- Things that are named by atoms.
use Rattle.std.specs.Prelude.{Bool}
use Rattle.std.specs.Ordering.{is_eq}
use Rattle.st_ids.specs.Order.{atom_cmp}
use Rattle.st_ids.specs.declared.names.Atom.{Atom}

-- whether a thing has a name
abbrev pub is_named : {I : Type 0} → (I → Atom) → Atom → I → Bool
is_named name a x = is_eq (atom_cmp (name x) a)
