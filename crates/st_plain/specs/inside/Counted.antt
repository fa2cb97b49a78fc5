-- Words of the private functions behind the counts of the log.
use Rattle.std.specs.BTreeMap.{BTreeMap, get}
use Rattle.std.specs.Prelude.{Bool, false, Option, Some, None}
use Rattle.std.specs.Option.{option_map_or}
use Rattle.st_ids.specs.Order.{rev_cmp}
use Rattle.st_ids.specs.declared.names.Rev.{Rev}
use Rattle.st_marks.specs.declared.intents.Intent.{Intent}
use Rattle.st_lists.specs.Log.{commit_of}
use Rattle.st_lists.specs.declared.lists.Entry.{Entry}
use Rattle.st_plain_undo.specs.declared.logged.Logged.{Logged}

-- whether what is kept of a commit says that it was void
abbrev pub kept_void : BTreeMap Rev Logged → Intent → Bool
kept_void logged N = option_map_or (λ (l : Logged). l.carried.void) (get rev_cmp logged N.rev) false

-- whether the commit of an entry was
abbrev pub came_out_void : BTreeMap Rev Logged → Entry → Bool
came_out_void logged e = option_map_or (kept_void logged) (commit_of e) false
