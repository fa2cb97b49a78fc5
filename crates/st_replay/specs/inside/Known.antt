-- Whether entries have the commit of a revision.
use Rattle.std.specs.Prelude.{ℕ, Bool, false, ◌==◌, ◌&&◌}
use Rattle.std.specs.Option.{option_map_or}
use Rattle.st_ids.specs.Order.{same_rev}
use Rattle.st_ids.specs.declared.names.Rev.{Rev}
use Rattle.st_lists.specs.Log.{commit_of}
use Rattle.st_lists.specs.declared.lists.Entry.{Entry}
use Rattle.st_marks.specs.declared.intents.Intent.{Intent}

-- the entry has the commit of a revision
abbrev pub has_commit : Rev → Entry → Bool
has_commit rev e = option_map_or (λ (N : Intent). same_rev N.rev rev) (commit_of e) false

-- and is of a session
abbrev pub has_own_commit : ℕ → Rev → Entry → Bool
has_own_commit session rev e = e.session == session && has_commit rev e
