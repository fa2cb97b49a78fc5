-- Which ids have an op-space number for the author of a message.
use Rattle.std.specs.Prelude.{◌≡◌, ◌⊎◌, ◌≤◌, ℕ, List, take}
use Rattle.st_clusters.specs.Names.{IsOwn}
use Rattle.st_clusters.specs.declared.ids.IdRange.{IdRange}
use Rattle.st_ids.specs.Root.{opening}
use Rattle.st_ids.specs.declared.names.Rev.{Rev}
use Rattle.st_lists.specs.declared.lists.Entry.{Entry}
use Rattle.st_valid.specs.Author.{generated_with}
use Rattle.st_valid.specs.Ids.{carried_in}

-- an id is the opening's, or one that the log carries up to the reference, or the author's own
abbrev pub IsSeen : List Entry → ℕ → ℕ → IdRange → Rev → Type 0
IsSeen log session reference ids r = (r ≡ opening) ⊎ (((1 ≤ r.num) × (r.num ≤ carried_in (take reference log) r.session)) ⊎ IsOwn session (generated_with ids) r)
