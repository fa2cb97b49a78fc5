-- the entries so far are read
use Rattle.std.proofs.Common.{◌≤◌, ◌-◌}
use Rattle.st_entry_texts.specs.Numbered.{IsNumberedTo}
use Rattle.st_entry_texts.proofs.numbers.Numbers.read_to.Given as goal

abbrev pub invariant-reading : goal.invariant-reading
invariant-reading l = record {
  numbered : IsNumberedTo l.log l.self.read l.self;
  on : l.self.read ≤ l.reference;
}

abbrev pub decreases-reading : goal.decreases-reading
decreases-reading l = l.reference - l.self.read
