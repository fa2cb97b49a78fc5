-- The easy half: the change of an intent obeys the rules on changes of data.
use Rattle.std.specs.Prelude.{◌≡◌, None}
use Rattle.st_marks.specs.declared.changes.Change.{Change}
use Rattle.st_marks.specs.declared.intents.Intent.{Intent}
use Rattle.st_marks.specs.CarryOut.{full}
use Rattle.st_marks.specs.Document.{Document, HasShortRows, IsSoundInForm}
use Rattle.st_marks.specs.Embedding.{IsEmbedding}
use Rattle.st_marks.specs.Intent.{Fits}
use Rattle.st_normal.specs.Rules.{ObeysDataRules}
use Rattle.st_normal_laws.proofs.EasyCells.{cells_are_once}
use Rattle.st_puts.proofs.FoundOnce.{fields_are_found, nodes_are_found_once}
use Rattle.st_normal_laws.proofs.EasyLoose.{loose_are_put}
use Rattle.st_normal_laws.proofs.EasyNames.{filled_cells_are_old, holes_have_movers, new_names_have_its_revision, rows_are_short}
use Rattle.st_normal_laws.proofs.EasyPutOnce.{nodes_are_put_once}
use Rattle.st_normal_laws.proofs.EasyPuts.{put_nodes_leave, root_stays}
use Rattle.st_puts.proofs.RegisterRules.{filled_are_cleared, keys_are_there, marks_fit, new_rows_are_made, registers_tell}
use Rattle.st_normal_laws.proofs.EasyRing.{no_ring_of_new}
use Rattle.st_normal_laws.proofs.EasyRules.{lists_rise, marks_are_merged, needed_are_found, new_not_found, new_registers_are_empty, no_ring_before, opening_is_base, rows_tell}
use Rattle.st_puts.proofs.StayingNodes.{staying_are_mentioned}

pub embedding_obeys : (D : Document) (N : Intent) (C : Change) → IsSoundInForm D → Fits D N → HasShortRows (full D N) → N.schema ≡ None → IsEmbedding D N C → ObeysDataRules C
embedding_obeys D N C x f s p e = record {
  common = record {
    merged = marks_are_merged D N C x f e;
    tells = rows_tell D N C x f e;
    short = rows_are_short D N C x f e s;
    cells_once = cells_are_once D N C x f e;
    new_rows = new_rows_are_made D N C x f e;
    found_once = nodes_are_found_once D N C x f e;
    put_once = nodes_are_put_once D N C x f e;
    put_leave = put_nodes_leave D N C x f e;
    new_not_found = new_not_found D N C x f e;
    root_stays = root_stays D N C x f e;
    filled_old = filled_cells_are_old D N C x f e;
    fields_found = fields_are_found D N C x f e;
    keys = keys_are_there D N C x f e;
  };
  rising = lists_rise D N C x f e;
  revision = new_names_have_its_revision D N C x f e;
  holes = holes_have_movers D N C x f e;
  cleared = filled_are_cleared D N C x f e;
  registers_fit = marks_fit D N C x f e;
  registers_tell = registers_tell D N C x f e;
  new_registers = new_registers_are_empty D N C x f e;
  loose_put = loose_are_put D N C x f e;
  needed = needed_are_found D N C x f e;
  mentioned = staying_are_mentioned D N C x f e;
  no_ring = no_ring_before D N C x f e;
  no_new_ring = no_ring_of_new D N C x f e;
  base = opening_is_base D N C x f e p;
}
