use Rattle.std.proofs.Common.{◌≡◌, take}
use Rattle.std.specs.BTreeMap.{get}
use Rattle.st_ids.specs.Order.{atom_cmp}
use Rattle.st_ids.specs.declared.names.Atom.{Atom}
use Rattle.st_seq.specs.NamedApart.{first_named}
use Rattle.st_seq.proofs.name_clashes.by_name.Given as goal

abbrev pub invariant-loop-name : goal.invariant-loop-name
invariant-loop-name l = (a : Atom) → get atom_cmp l.map a ≡ first_named (take l.name-index l.names) a
