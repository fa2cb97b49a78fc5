use Rattle.st_idcodec.proofs.Back.{rev_back, atom_back}
use Rattle.st_idcodec.proofs.laws.names_are_read_back.Goals as goal

pub returns-clause-revs : goal.returns-clause-revs
returns-clause-revs c = rev_back

pub returns-clause-atoms : goal.returns-clause-atoms
returns-clause-atoms c = atom_back
