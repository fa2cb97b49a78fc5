-- What two parts of one commit say of it and of its schema.
use Rattle.std.specs.Prelude.{◌&&◌, ◌||◌, Bool, not, is_some}
use Rattle.std.specs.Bool.{beq}
use Rattle.st_ids.specs.Order.{same_rev}
use Rattle.st_ids.specs.Root.{opening}
use Rattle.st_marks.specs.declared.changes.Change.{Change}

-- they are of one commit under one schema, and bring none
abbrev pub are_of_one : Change → Change → Bool
are_of_one C K = same_rev C.rev K.rev && same_rev C.under K.under && not (is_some C.schema) && not (is_some K.schema)

-- both say the same of the schema in effect; the opening's always is
abbrev pub bases_fit : Change → Change → Bool
bases_fit C K = beq C.base K.base && (C.base || not (same_rev C.under opening))
