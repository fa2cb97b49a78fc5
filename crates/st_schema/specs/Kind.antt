-- The tests of a field's kind.
use Rattle.std.specs.Prelude.{Bool, true, false}
use Rattle.st_schema.specs.declared.names.KindName.{KindName}
use Rattle.st_schema.specs.declared.names.KindName.TheVariants.{Required, Optional, Sequence}

-- a row
abbrev pub is_row : KindName → Bool
is_row Required = false
is_row Optional = false
is_row Sequence = true

-- a field of at most one item
abbrev pub is_single_kind : KindName → Bool
is_single_kind Required = true
is_single_kind Optional = true
is_single_kind Sequence = false

-- a field of exactly one item
abbrev pub is_required : KindName → Bool
is_required Required = true
is_required Optional = false
is_required Sequence = false

-- a field of at most one item, which may be empty
abbrev pub is_optional : KindName → Bool
is_optional Required = false
is_optional Optional = true
is_optional Sequence = false

-- a field whose items may leave and come: a row, or an optional field
abbrev pub is_open : KindName → Bool
is_open Required = false
is_open Optional = true
is_open Sequence = true
