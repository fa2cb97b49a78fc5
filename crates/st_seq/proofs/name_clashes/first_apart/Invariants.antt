use Rattle.std.proofs.Common.{◌≡◌, List, take}
use Rattle.std.specs.BTreeMap.{get}
use Rattle.st_ids.specs.Order.{atom_cmp}
use Rattle.st_ids.specs.declared.names.Atom.{Atom}
use Rattle.st_seq.specs.NamedApart.{first_named}
use Rattle.st_seq.specs.inside.NamedApart.{first_clash}
use Rattle.st_seq.specs.declared.name_clashes.NamedAt.{NamedAt}
use Rattle.st_seq.proofs.name_clashes.first_apart.Given as goal

abbrev pub invariant-loop-name : goal.invariant-loop-name
invariant-loop-name l = (A : List NamedAt) → ((a : Atom) → get atom_cmp l.first a ≡ first_named A a) → l.place ≡ first_clash A (take l.name-index l.then)
