-- Where the occupants agree nothing is refused.
use Rattle.std.proofs.Common.{◌≡◌, Option, Err}
use Rattle.st_ids.specs.declared.fault.Or.{Or}
use Rattle.st_ids.specs.declared.fault.Or.TheVariants.{Fault, NoMemory}
use Rattle.st_ids.specs.declared.names.NodeId.{NodeId}
use Rattle.st_kind.specs.declared.apart.Apart.{Apart}
use Rattle.st_kind.specs.Refused.{IfMemory, IsApartWhere}
use Rattle.st_register.specs.Register.{DifferAt}

pub never_apart : (S T : Type 0) (P : T → Type 0) (e : Or Apart) (a b : Option NodeId) → IsApartWhere {T = S} (Err e) (DifferAt a b) → a ≡ b → IfMemory {T = T} (Err e) P
never_apart S T P (Fault f) a b h e = absurd (h.0.1 e)
never_apart S T P NoMemory a b h e = tt
