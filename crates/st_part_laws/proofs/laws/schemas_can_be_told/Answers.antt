use Rattle.st_part_laws.proofs.Told.{told_chain, told_closed, told_entries, told_others, told_part, told_under, told_within}
use Rattle.st_part_laws.proofs.laws.schemas_can_be_told.Goals as goal

pub returns : goal.returns
returns c = record {
  under = told_under;
  chain = told_chain;
  others = told_others;
  entries = told_entries;
  parts = told_part;
  closed = told_closed;
  intents = told_within;
}
