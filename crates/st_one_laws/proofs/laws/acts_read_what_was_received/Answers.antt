use Rattle.st_one_laws.proofs.OneMeaning.{lines_stand_on_received}
use Rattle.st_one_laws.proofs.ReceivedEntries.{reads_received}
use Rattle.st_world.specs.World.{opening_document}
use Rattle.st_one_laws.proofs.laws.acts_read_what_was_received.Goals as goal

pub returns : goal.returns
returns c = record {
  of_lines = λ O history log act c d k l a within is never. reads_received O history log c within d a act k l never is;
  in_worlds = λ h w act i c d k l a world at is never. reads_received (opening_document h) h.history w.log c (lines_stand_on_received h w i c world at) d a act k l never is;
}
