-- An answer that is never refused.
use Rattle.std.specs.Prelude.{◌≡◌, Err, refl}
use Rattle.st_ids.specs.Or.{IfRefused}
use Rattle.st_ids.specs.declared.fault.Or.{Or}
use Rattle.st_ids.specs.declared.fault.Or.TheVariants.{Fault, NoMemory}

pub never_refused : (T : Type 0) {F : Type 0} (e : Or F) (P : F → Type 0) → ((f : F) → P f → ⊥) → IfRefused {T = T} (Err e) P → e ≡ NoMemory
never_refused T (Fault f) P never h = absurd (never f h)
never_refused T NoMemory P never h = refl
