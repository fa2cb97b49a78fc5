use Rattle.st_mark_reader.specs.Naming.{plain_form, plain_naming}
use Rattle.st_change_laws.specs.Within.{IsShortAtom, IsShortRev}
use Rattle.st_change_laws.proofs.Plain.{atom_reads, atom_writes, rev_reads, rev_writes}
use Rattle.st_change_laws.proofs.Steps.{step_reads}
use Rattle.st_change_laws.proofs.ToldSteps.{step_writes}
use Rattle.st_change_laws.proofs.plain_steps_are_read_back.Goals as goal

pub returns : goal.returns
returns c = record {
  written = step_writes plain_naming plain_form IsShortRev IsShortAtom rev_writes atom_writes;
  read = step_reads plain_naming plain_form IsShortRev IsShortAtom rev_reads atom_reads;
}
