use Rattle.std.proofs.Common.{◌≡◌, List, length, take}
use Rattle.std.specs.BTreeMap.{get}
use Rattle.st_ids.specs.Order.{atom_cmp}
use Rattle.st_ids.specs.declared.names.Atom.{Atom}
use Rattle.st_marks.specs.Row.{spread}
use Rattle.st_marks.specs.Listings.{cells_before}
use Rattle.st_seq.specs.NamedApart.{first_named}
use Rattle.st_seq.specs.inside.OwnedEarly.{first_early as early_in}
use Rattle.st_seq.specs.declared.name_clashes.NamedAt.{NamedAt}
use Rattle.st_seq.proofs.owners.first_early.Given as goal

abbrev pub invariant-loop-mark : goal.invariant-loop-mark
invariant-loop-mark l = record {
  place : (N M : List NamedAt) → ((a : Atom) → get atom_cmp l.made.nodes a ≡ first_named N a) → ((a : Atom) → get atom_cmp l.made.cells a ≡ first_named M a)
      → l.place ≡ early_in N M 0 (cells_before (spread (take l.mark-index l.marks)));
  left : l.left ≡ length (cells_before (spread (take l.mark-index l.marks)));
}
