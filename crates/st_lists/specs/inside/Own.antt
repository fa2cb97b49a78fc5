-- Words of the private functions that count commits.
use Rattle.std.specs.Prelude.{ℕ, ◌==◌, ◌&&◌, Bool, is_some}
use Rattle.st_lists.specs.Log.{commit_of}
use Rattle.st_lists.specs.declared.lists.Entry.{Entry}

-- whether an entry is a commit of a session
abbrev pub is_own_of : Entry → ℕ → Bool
is_own_of e session = is_some (commit_of e) && (e.session == session)
