-- Over what the author of a message wrote it.
use Rattle.std.specs.Prelude.{ℕ, ℤ, ◌+◌, ◌-◌, ◌^◌, min, List, [], ◌++◌, take, drop}
use Rattle.st_ids.specs.declared.names.Rev.{Rev}
use Rattle.st_clusters.specs.Names.{IsOp}
use Rattle.st_clusters.specs.Table.{table_of}
use Rattle.st_clusters.specs.declared.ids.IdRange.{IdRange}
use Rattle.st_lists.specs.Log.{commits_by, commits_in, ranges_in}
use Rattle.st_lists.specs.declared.lists.Entry.{Entry}
use Rattle.st_marks.specs.declared.intents.Intent.{Intent}

-- the commits over which a session writes, of a log and a reference: those up to the reference, and after them its own
abbrev pub author_list : List Entry → ℕ → ℕ → List Intent
author_list log session reference = commits_in (take reference log) ++ commits_by session (drop reference log)

-- how many ids the author had generated: all up to the last that its message carries
abbrev pub generated_with : IdRange → ℕ
generated_with ids = min (ids.first + ids.count - 1) (2 ^ 32 - 1)

-- z is the op-space number of an id, as the author of a message saw it: it knew the ranges that came up to the reference, and
-- the ids that it had generated itself
abbrev pub IsSeenBy : List Entry → ℕ → ℕ → IdRange → Rev → ℤ → Type 0
IsSeenBy log session reference ids r z = IsOp (table_of (ranges_in (take reference log))) [] session (generated_with ids) r z
