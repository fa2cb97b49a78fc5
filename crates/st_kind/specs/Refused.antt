-- What a call says that may refuse two arguments and may find no memory.
use Rattle.std.specs.Prelude.{◌<◌, ℕ, Result, Ok, Err}
use Rattle.st_ids.specs.declared.fault.Or.{Or}
use Rattle.st_ids.specs.declared.fault.Or.TheVariants.{Fault, NoMemory}
use Rattle.st_kind.specs.declared.apart.Apart.{Apart}

-- a fact of the value, where only want of memory takes its place
abbrev pub IfMemory : {T F : Type 0} → Result T (Or F) → (T → Type 0) → Type 0
IfMemory (Ok v) P = P v
IfMemory (Err (Fault f)) P = ⊥
IfMemory (Err NoMemory) P = Unit {0}

-- the first place at which two arguments differ
abbrev pub IsFirstPlace : (ℕ → Type 0) → ℕ → Type 0
IsFirstPlace Differs k = Differs k × ((j : ℕ) → j < k → Differs j → ⊥)

-- refused exactly where the arguments differ, with the first place
abbrev pub IsApartWhere : {T : Type 0} → Result T (Or Apart) → (ℕ → Type 0) → Type 0
IsApartWhere (Ok v) Differs = (k : ℕ) → Differs k → ⊥
IsApartWhere (Err (Fault a)) Differs = IsFirstPlace Differs a.place
IsApartWhere (Err NoMemory) Differs = Unit {0}
