-- An intent that fits two documents fits the retreat from the later one.
use Rattle.st_marks.specs.declared.intents.Intent.{Intent}
use Rattle.st_marks.specs.Back.{retreat}
use Rattle.st_marks.specs.Document.{Document}
use Rattle.st_marks.specs.Intent.{Fits}

pub fits_retreat : (D E : Document) (N : Intent) → Fits D N → Fits E N → Fits (retreat D E) N
fits_retreat D E N f g = record {
  itself = g.itself;
  fresh_nodes = g.fresh_nodes;
  fresh_cells = g.fresh_cells;
  fresh_schema = f.fresh_schema;
  groups_known = g.groups_known;
  owners_known = g.owners_known;
  puts_known = g.puts_known;
  clears_known = g.clears_known;
  needs_known = g.needs_known;
}
