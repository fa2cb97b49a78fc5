use Rattle.std.proofs.Common.{◌∙◌, ap}
use Rattle.st_ids.specs.Names.{read_atom}
use Rattle.st_ids.proofs.Points.{read_atom-atom_text, atom_text-read_atom}
use Rattle.st_ids.proofs.names.Atom.read.Goals as goal

pub returns-clause-back : goal.returns-clause-back
returns-clause-back c = λ a session num at is. c.atom_of.ensures ∙ ap read_atom is ∙ read_atom-atom_text a session num at

pub returns-clause-only : goal.returns-clause-only
returns-clause-only c = rw c.atom_of.ensures (atom_text-read_atom c.args.text.now)
