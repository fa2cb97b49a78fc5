-- Words of the private functions behind `Conforms`.
use Rattle.std.specs.Prelude.{ℕ, ◌+◌, List, [], ◌∷◌, Bool, true, false, Option, None, Some}
use Rattle.st_schema.specs.declared.allows.Walk.{Walk}
use Rattle.st_schema.specs.declared.names.NotAllowed.{NotAllowed}

-- the earlier refusal, or that of the node of this number
abbrev pub first_fault : Option NotAllowed → ℕ → Option NotAllowed
first_fault None n = Some (record { at = n })
first_fault (Some f) n = Some f

abbrev pub fault_after : Option NotAllowed → ℕ → Bool → Option NotAllowed
fault_after fault n true = fault
fault_after fault n false = first_fault fault n

-- one node further
abbrev pub walk_on : Walk → Bool → Walk
walk_on w ok = record { next = w.next + 1; fault = fault_after w.fault w.next ok }

-- further by nodes with these verdicts
abbrev pub walk_over : Walk → List Bool → Walk
walk_over w [] = w
walk_over w (ok ∷ vs) = walk_over (walk_on w ok) vs
