-- The members for the registers of a node.
use Rattle.std.specs.Prelude.{List, [], ◌∷◌}
use Rattle.serde_json.specs.Data.{Data, Members, no_members, member, put}
use Rattle.serde_json.specs.View.{view}
use Rattle.serde_json.specs.declared.value.Value.{Value}
use Rattle.st_ids.specs.declared.names.FieldId.{FieldId}
use Rattle.st_ids.specs.declared.names.NodeId.{NodeId}
use Rattle.st_doc.specs.declared.seats.Seat.{Seat}

-- under the key of each register a value, in order
abbrev pub members_with : List Seat → List Value → Members
members_with [] vs = no_members
members_with (s ∷ ss) [] = no_members
members_with (s ∷ ss) (v ∷ vs) = member s.key (view v) (members_with ss vs)

-- a value under the key of the first of some registers, if there are any
abbrev pub put_first : List (FieldId × NodeId) → Data → Members → Members
put_first [] d ms = ms
put_first (e ∷ es) d ms = put e.0.key.0 d ms
