-- On orderings and comparisons of numbers.
use Rattle.std.proofs.Common.{◌≡◌, true, refl, ℕ, ◌≤◌, false, nat_lt, arith}
use Rattle.std.specs.declared.cmp.Ordering.{Ordering}
use Rattle.std.specs.declared.cmp.Ordering.TheVariants.{Less, Equal, Greater}
use Rattle.std.specs.Ordering.{is_lt}
use Rattle.std.proofs.lemmas.Bool.Decides.{nat_tests}

pub is_lt-Less : (o : Ordering) → is_lt o ≡ true → o ≡ Less
is_lt-Less Less e = refl
is_lt-Less Equal e = cc
is_lt-Less Greater e = cc

pub nat_lt-false : (n m : ℕ) → nat_lt m n ≡ false → n ≤ m
nat_lt-false n m h = grind (arith, nat_tests)
