-- the sessions so far stand in, and the table stays that of the same ranges
use Rattle.std.proofs.Common.{◌≤◌, ◌-◌, List, length}
use Rattle.st_clusters.specs.Ids.{ids_of}
use Rattle.st_clusters.specs.Log.{IsTableOf}
use Rattle.st_clusters.specs.declared.ids.IdRange.{IdRange}
use Rattle.st_entry_texts.specs.Numbered.{AreStandIns}
use Rattle.st_entry_texts.proofs.numbers.add_sessions.Given as goal

abbrev pub invariant-joining : goal.invariant-joining
invariant-joining l = record {
  stand_ins : AreStandIns (ids_of l.ids).sessions;
  table : (rs : List IdRange) → IsTableOf rs (ids_of l.initial.ids) → IsTableOf rs (ids_of l.ids);
}

abbrev pub decreases-joining : goal.decreases-joining
decreases-joining l = l.session - length (ids_of l.ids).sessions
