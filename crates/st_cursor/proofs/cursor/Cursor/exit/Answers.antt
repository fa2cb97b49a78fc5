use Rattle.std.proofs.Common.{subst}
use Rattle.st_ids.specs.Root.{root}
use Rattle.st_cursor.specs.At.{Leads}
use Rattle.st_cursor.proofs.Ways.{leads_front}
use Rattle.st_cursor.proofs.cursor.Cursor.exit.Goals as goal

pub returns-in-Some-clause-at : goal.returns-in-Some-clause-at
returns-in-Some-clause-at c = λ D i. record {
  tables = i.tables;
  way = leads_front D root c.pop.new.self c.in-Some.hop (subst (Leads D root) c.in-Some.ensures.taken i.way);
}
