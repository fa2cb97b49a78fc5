-- Calls in turn: what the first tells, and then what comes behind it.
use Rattle.std.proofs.Common.{inl, inr}
use Rattle.std.specs.Prelude.{Result, Ok, Err}
use Rattle.st_ids.specs.declared.fault.Or.{Or}
use Rattle.st_ids.specs.declared.fault.Or.TheVariants.{Fault, NoMemory}
use Rattle.st_ids.specs.declared.names.FieldId.{FieldId}
use Rattle.st_agree.specs.declared.agreement.FieldApart.{FieldApart}
use Rattle.st_laws.specs.InOrder.{Then, Told}

-- the calls behind one that has a value
pub behind_it : (V T : Type 0) (call : Result V FieldId → Type 0) (behind : V → Result T FieldId → Type 0) (v : V) (r : Result T (Or FieldApart))
    → call (Ok v) → Told r (behind v) → Told r (Then call behind)
behind_it V T call behind v (Ok t) h k = (v, h, k)
behind_it V T call behind v (Err (Fault a)) h k = inr (v, h, k)
behind_it V T call behind v (Err NoMemory) h k = tt

-- no call comes behind one that is refused
pub refused_before : (V T : Type 0) (call : Result V FieldId → Type 0) (behind : V → Result T FieldId → Type 0) (why : Or FieldApart)
    → Told {T = V} (Err why) call → Told {T = T} (Err why) (Then call behind)
refused_before V T call behind (Fault a) h = inl h
refused_before V T call behind NoMemory h = tt
