use Rattle.st_schema_laws.proofs.Earlier.{come_first, earlier_front, earlier_longer, earlier_rest, earlier_then, in_effect_made, made_among, made_by, unders_made}
use Rattle.st_schema_laws.proofs.Entries.{entries_count, entries_from}
use Rattle.st_schema_laws.proofs.upgrade_laws.schemas_come_earlier.Goals as goal

pub returns : goal.returns
returns c = record {
  front = earlier_front;
  rest = earlier_rest;
  then = earlier_then;
  longer = earlier_longer;
  in_effect = in_effect_made;
  unders = unders_made;
  among = made_among;
  by = made_by;
  entries = entries_from;
  count = entries_count;
  first = come_first;
}
