-- A compressor as the table that it stands for, and the op-space names in it.
use Rattle.std.specs.Prelude.{ℕ, ℤ, []}
use Rattle.st_ids.specs.declared.names.Rev.{Rev}
use Rattle.st_clusters.specs.Names.{IsOp, generated_by}
use Rattle.st_clusters.specs.Table.{Ids, session_of}
use Rattle.st_clusters.specs.declared.at.At.{At}
use Rattle.st_clusters.specs.declared.compressor.Compressor.{Compressor}

abbrev pub ids_of : Compressor → Ids
ids_of c = record { sessions = c.sessions.items; clusters = c.clusters.items }

-- z is the op-space number of an id, to a session of the table
abbrev pub IsOpOf : Compressor → ℕ → Rev → ℤ → Type 0
IsOpOf c own r z = IsOp c.clusters.items [] own (generated_by (session_of c.sessions.items own)) r z

-- z is the op-space number of an id, as the author of a message saw the table
abbrev pub IsOpAt : At → Rev → ℤ → Type 0
IsOpAt a r z = IsOp a.ids.now.clusters.items a.later.now a.own a.have r z
