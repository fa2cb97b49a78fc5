-- Words of the private functions behind `Rules`.
use Rattle.std.specs.Prelude.{Option, option_map}
use Rattle.std.specs.List.{find}
use Rattle.st_ids.specs.declared.names.NodeId.{NodeId}
use Rattle.st_normal.specs.declared.entries.Found.{Found}
use Rattle.st_marks.specs.declared.marks.How.{How}
use Rattle.st_normal.specs.inside.Naming.{is_named}
use Rattle.st_normal.specs.Rules.{Entries}

-- ## What is listed

-- what becomes of a node, where it finds it first
abbrev pub how_found : Entries → NodeId → Option How
how_found L n = option_map (λ (f : Found). f.how) (find (is_named (λ (f : Found). f.node.0) n.0) L.found)
