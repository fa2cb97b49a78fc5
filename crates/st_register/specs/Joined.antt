-- Two parts of one commit in turn, seen from one register.
use Rattle.std.specs.Prelude.{◌≡◌, ◌&&◌, ◌||◌, Bool, not, Option, Some, None, IfSome, is_some, if◌then◌else◌}
use Rattle.std.specs.Option.{option_or}
use Rattle.st_ids.specs.Order.{same_node}
use Rattle.st_ids.specs.declared.names.NodeId.{NodeId}
use Rattle.st_marks.specs.declared.intents.To.{To}
use Rattle.st_marks.specs.Intent.{same_option}
use Rattle.st_marks.specs.Row.{how}
use Rattle.st_register.specs.declared.values.RegHeld.{RegHeld}
use Rattle.st_register.specs.Register.{RegPart, held_whole}

-- whether the part puts a node into the register
abbrev pub fills : RegPart → NodeId → Bool
fills p n = same_option same_node p.part.fill (Some n)

-- where both in turn put a node: where the second does, or else where the first does, unless that is this register and
-- the second clears it
abbrev pub goes_in_turn : RegPart → RegPart → NodeId → Option To
goes_in_turn p q n = option_or (q.part.target_of n) (if fills p n && q.part.clear then Some To.Nowhere else p.part.target_of n)

-- whether the part evicts a node that it finds in the register
abbrev pub evicts : RegPart → NodeId → Bool
evicts p n = p.part.clear && not (is_some (p.part.target_of n))

-- the same, as far as the register's two changes tell. Of a node that the first evicts they tell only whether the second
-- puts it back, since it isn't there any more in the second
abbrev pub told_in_turn : RegPart → RegPart → NodeId → Option To
told_in_turn p q n = if evicts p n && not (fills q n) then None else goes_in_turn p q n

-- j is the part of both in turn, where the first finds this, as far as the two changes tell
pub record AreRegPartsJoined (p q : RegPart) (c : RegHeld) (j : RegPart) : Type 0 where
  pub field : (p.field ≡ j.field) × (q.field ≡ j.field)
  pub rev : p.rev ≡ j.rev
  pub clear : j.part.clear ≡ (p.part.clear || q.part.clear)
  -- who is put there: whom the second finds put there by the first, carried on by the second
  pub fill : j.part.fill ≡ held_whole q.part p.part.fill
  -- how the occupant goes, seen from here
  pub target_of : IfSome c.node (λ n. how (j.part.target_of n) (To.Register j.field) ≡ how (told_in_turn p q n) (To.Register j.field))
  -- whether the register is that of a new node
  pub in_new : j.makes j.field.node ≡ (p.makes p.field.node || q.makes q.field.node)
  -- whether who comes in is new. Of a node that the first makes and doesn't put there the two changes don't tell it
  pub made : IfSome j.part.fill (λ n. j.makes n ≡ ((fills p n && p.makes n) || (fills q n && q.makes n)))
