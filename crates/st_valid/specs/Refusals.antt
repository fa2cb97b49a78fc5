-- Why a message is refused, as far as the log alone tells.
use Rattle.std.specs.Prelude.{List, Option, None, Some, if◌then◌else◌}
use Rattle.st_lists.specs.declared.lists.Entry.{Entry}
use Rattle.st_valid.specs.Ids.{has_new_revision, has_next_ids}
use Rattle.st_valid.specs.Order.{is_in_order}
use Rattle.st_valid.specs.References.{is_in_window, is_no_step_back}
use Rattle.st_valid.specs.Room.{has_room}
use Rattle.st_valid.specs.Sessions.{is_of_session}
use Rattle.st_valid.specs.declared.message.Message.{Message}
use Rattle.st_valid.specs.declared.message.ReplayCause.{ReplayCause}
use Rattle.st_valid.specs.declared.message.ReplayCause.TheVariants.{Sequence, Session, Window, RefBack, Ids, Revision, Limit}

-- whether a revision and the room are as they should be
abbrev pub refused_for_revision : List Entry → Message → Option ReplayCause
refused_for_revision log m =
    if has_new_revision log m then if has_room log m then None else Some Limit else Some Revision

-- and before them the reference and the ids
abbrev pub refused_for_reference : List Entry → Message → Option ReplayCause
refused_for_reference log m =
    if is_no_step_back log m then if has_next_ids log m then refused_for_revision log m else Some Ids else Some RefBack

-- the first test that a message fails, of those that read the log alone
abbrev pub refused_by_log : List Entry → Message → Option ReplayCause
refused_by_log log m =
    if is_in_order log m then
    if is_of_session log m then
    if is_in_window log m then refused_for_reference log m else Some Window else Some Session else Some Sequence
