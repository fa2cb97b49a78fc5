-- By which numbers the author of a message tells ids: those that it saw.
use Rattle.std.specs.Prelude.{◌⊎◌, ◌≡◌, ◌+◌, ◌<◌, ◌≤◌, ℕ, ℤ, List, [], Option, take}
use Rattle.st_clusters.specs.Log.{carried_count}
use Rattle.st_clusters.specs.Table.{table_of}
use Rattle.st_clusters.specs.declared.ids.IdRange.{IdRange}
use Rattle.st_ids.specs.declared.names.Rev.{Rev}
use Rattle.st_idcodec.specs.OpText.{atom_data, rev_data}
use Rattle.st_lists.specs.Log.{ranges_in}
use Rattle.st_lists.specs.declared.lists.Entry.{Entry}
use Rattle.st_mark_reader.specs.Naming.{Naming}
use Rattle.st_mark_reader.specs.OpSpace.{number_or_null, op_number_in}
use Rattle.st_valid.specs.Author.{generated_with}

-- the op-space number of an id, of a log, the author's session, and the reference and the ids of its message: the final number by
-- the ranges up to the reference, or else the negative of its own number, if the session has generated it
abbrev pub number_seen : List Entry → ℕ → ℕ → IdRange → Rev → Option ℤ
number_seen log session reference ids r = op_number_in (table_of (ranges_in (take reference log))) [] session (generated_with ids) r

-- names, told by these numbers
abbrev pub names_seen : List Entry → ℕ → ℕ → IdRange → Naming
names_seen log session reference ids = record {
  rev = λ r. number_or_null (number_seen log session reference ids r) rev_data;
  atom = λ x. number_or_null (number_seen log session reference ids x.rev) (λ z. atom_data z x.at);
}

-- one who has read the entries of a log up to the reference of a session's text, and which ids the text carries, knows a
-- number for a revision: the entries carry it, or it is one of the session's own, none after those that the text carries
abbrev pub IsKnownAt : List Entry → ℕ → ℕ → IdRange → Rev → Type 0
IsKnownAt log session reference ids r = (r.num ≤ carried_count r.session (ranges_in (take reference log))) ⊎ ((r.session ≡ session) × (r.num < ids.first + ids.count))
