use Rattle.st_mark_reader.specs.OpSpace.{op_form, op_naming}
use Rattle.st_change_laws.specs.Within.{AtomHasNumber, HasNumber}
use Rattle.st_change_laws.proofs.OpNumbersTold.{atom_writes, rev_writes}
use Rattle.st_change_laws.proofs.ToldValues.{change_writes}
use Rattle.st_change_laws.proofs.op_changes_are_read_back.Goals as goal

pub returns : goal.returns
returns c =
    let a = c.args.at.now in
    let one = c.names_are_distinct.ensures.op a.later.now a.own a.have in
    change_writes (op_naming a) (op_form a) (HasNumber a) (AtomHasNumber a) (rev_writes a c.names_are_read_back.ensures.revs one) (atom_writes a c.names_are_read_back.ensures.revs one)
