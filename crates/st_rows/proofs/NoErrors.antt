-- What holds of an answer that isn't an error.
use Rattle.std.proofs.Common.{◌≡◌, ℕ, Option, Some, None, sym, ◌∙◌}
use Rattle.std.specs.Prelude.{Result, Ok, Err, IfOk}
use Rattle.st_ids.specs.declared.fault.Or.{Or}
use Rattle.st_ids.specs.declared.fault.Or.TheVariants.{Fault, NoMemory}
use Rattle.st_kind.specs.Refused.{IfMemory}
use Rattle.st_kind.specs.declared.apart.Apart.{Apart}
use Rattle.st_rows.specs.Differences.{IsApart}

pub both_ok : {A E : Type 0} {P Q R : A → Type 0} (r : Result A E) → IfOk r P → IfOk r Q → ((a : A) → P a → Q a → R a) → IfOk r R
both_ok (Ok a) p q f = f a p q
both_ok (Err e) p q f = tt

-- where there is no difference, only want of memory takes the value's place
pub none_apart : {T : Type 0} {P Q R : T → Type 0} (o : Option ℕ) (r : Result T (Or Apart)) → IfOk r P → IfOk r Q → IsApart o r → o ≡ None → ((t : T) → P t → Q t → R t) → IfMemory r R
none_apart o (Ok t) p q a e f = f t p q
none_apart o (Err (Fault x)) p q a e f = let z : ◌≡◌ {A = Option ℕ} None (Some x.place) = sym e ∙ a in cc
none_apart o (Err NoMemory) p q a e f = tt
