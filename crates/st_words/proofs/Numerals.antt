-- What std's `parse` says of words that are numbers.
use Rattle.std.proofs.Common.{◌≡◌, ℕ, ◌<◌, ◌^◌, true, List, length, Result, Ok, Err, arith, rules}
use Rattle.std.specs.Result.{result_ok, OkIff}
use Rattle.std.specs.List.{list_all}
use Rattle.std.specs.Char.{is_ascii_digit}
use Rattle.std.specs.Str.Parse.{digits_value, ParsesUnsigned}
use Rattle.std.proofs.lemmas.Str.Parse.{IsDigitsTest, IsNumeralModel, numerals_by_value, parse_digits}
use Rattle.std.proofs.lemmas.Bool.Decides.{nat_tests}
use Rattle.st_words.specs.Table.{is_number, max_seed, number_in}

tells : IsDigitsTest (λ ds. list_all is_ascii_digit ds ≡ true)
tells = search rules

own : IsNumeralModel (λ ds. list_all is_ascii_digit ds ≡ true) (digits_value 10)
own = numerals_by_value _ tells

all_digits : (bs : List ℕ) → is_number bs ≡ true → list_all is_ascii_digit bs ≡ true
all_digits bs plain = grind (arith, nat_tests)

number_parsed : {E : Type 0} (bs : List ℕ) (r : Result ℕ E) → is_number bs ≡ true → OkIff r ((0 < length bs) × (digits_value 10 bs < 2 ^ 64)) (digits_value 10 bs) → result_ok r ≡ number_in max_seed bs
number_parsed bs (Ok x) plain h = grind (arith, nat_tests)
number_parsed bs (Err e) plain h = grind (arith, nat_tests)

pub number_read : {E : Type 0} (bs : List ℕ) (r : Result ℕ E) → is_number bs ≡ true → ParsesUnsigned 64 10 bs r → result_ok r ≡ number_in max_seed bs
number_read bs r plain h = number_parsed bs r plain (parse_digits own 64 bs r h (all_digits bs plain))
