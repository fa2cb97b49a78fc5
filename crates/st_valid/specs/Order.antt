-- Where a message stands in the order of the log.
use Rattle.std.specs.Prelude.{◌+◌, ◌==◌, Bool, List, length}
use Rattle.st_lists.specs.declared.lists.Entry.{Entry}
use Rattle.st_valid.specs.declared.message.Message.{Message}

-- a message has the number after the last one
abbrev pub is_in_order : List Entry → Message → Bool
is_in_order log m = m.n == length log + 1
