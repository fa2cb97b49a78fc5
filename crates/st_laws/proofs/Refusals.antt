-- A refusal that is handed on.
use Rattle.std.proofs.Common.{inl, inr}
use Rattle.std.specs.Prelude.{Result, Ok, Err, IfOk}
use Rattle.st_ids.specs.Or.{IfRefused}
use Rattle.st_ids.specs.declared.fault.Or.{Or}
use Rattle.st_ids.specs.declared.fault.Or.TheVariants.{Fault, NoMemory}
use Rattle.st_ids.specs.declared.names.FieldId.{FieldId}
use Rattle.st_kind.specs.Refused.{IfMemory}
use Rattle.st_marks.specs.Agree.{Agrees}
use Rattle.st_agree.specs.Apart.{TellsLeast}
use Rattle.st_agree.specs.declared.agreement.FieldApart.{FieldApart}
use Rattle.st_laws.specs.First.{TellsLeastFirst}

-- want of memory is none of a refusal, whatever was to come
pub memory_on : (A B F : Type 0) (P : A → Type 0) (Q : B → Type 0) (why : Or F) → IfMemory {T = A} {F = F} (Err why) P → IfMemory {T = B} {F = F} (Err why) Q
memory_on A B F P Q (Fault f) h = absurd h
memory_on A B F P Q NoMemory h = tt

pub refused_same : (A T F : Type 0) (Q : F → Type 0) (why : Or F) → IfRefused {T = A} {F = F} (Err why) Q → IfRefused {T = T} {F = F} (Err why) Q
refused_same A T F Q (Fault f) h = h
refused_same A T F Q NoMemory h = tt

pub least_same : (A T : Type 0) (Clash : FieldId → Type 0) (why : Or FieldApart) → TellsLeast {T = A} (Err why) Clash → TellsLeast {T = T} (Err why) Clash
least_same A T Clash (Fault f) h = h
least_same A T Clash NoMemory h = tt

-- what is refused nowhere tells that two agree
pub least_of_whole : (T : Type 0) (P : T → Type 0) (Clash : FieldId → Type 0) (r : Result T (Or FieldApart)) → Agrees Clash → IfMemory r P → TellsLeast r Clash
least_of_whole T P Clash (Ok v) g h = g
least_of_whole T P Clash (Err (Fault f)) g h = absurd h
least_of_whole T P Clash (Err NoMemory) g h = tt

-- of what is refused nowhere, what holds wherever something is answered
pub ok_of_whole : (T F : Type 0) (P Q : T → Type 0) (r : Result T (Or F)) → ((v : T) → P v → Q v) → IfMemory r P → IfOk r Q
ok_of_whole T F P Q (Ok v) part h = part v h
ok_of_whole T F P Q (Err why) part h = tt

-- a part of what is said of an answer
pub memory_part : (T F : Type 0) (P Q : T → Type 0) (r : Result T (Or F)) → ((v : T) → P v → Q v) → IfMemory r P → IfMemory r Q
memory_part T F P Q (Ok v) part h = part v h
memory_part T F P Q (Err (Fault f)) part h = absurd h
memory_part T F P Q (Err NoMemory) part h = tt

-- what holds of each answer
pub ok_always : (T E : Type 0) (Q : T → Type 0) (r : Result T E) → ((v : T) → Q v) → IfOk r Q
ok_always T E Q (Ok v) h = h v
ok_always T E Q (Err e) h = tt

-- a call behind one that let both through
pub first_agreed : (T : Type 0) (Clash : FieldId → Type 0) (r : Result T (Or FieldApart)) → Agrees Clash → TellsLeastFirst r Clash
first_agreed T Clash (Ok v) g = g
first_agreed T Clash (Err (Fault f)) g = inl g
first_agreed T Clash (Err NoMemory) g = tt

-- the refusal of the first call
pub first_refused : (A T : Type 0) (Clash : FieldId → Type 0) (why : Or FieldApart) → TellsLeast {T = A} (Err why) Clash → TellsLeastFirst {T = T} (Err why) Clash
first_refused A T Clash (Fault f) h = inr h
first_refused A T Clash NoMemory h = tt

pub first_same : (A T : Type 0) (Clash : FieldId → Type 0) (why : Or FieldApart) → TellsLeastFirst {T = A} (Err why) Clash → TellsLeastFirst {T = T} (Err why) Clash
first_same A T Clash (Fault f) h = h
first_same A T Clash NoMemory h = tt
