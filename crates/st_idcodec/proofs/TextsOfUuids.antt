-- The text of a UUID is read as that UUID.
use Rattle.std.proofs.Common.{◌≡◌, ◌<◌, ◌^◌, ◌&&◌, ℕ, Bool, true, false, cond, nat_lt, List, Option, None, Some, option_and_then, refl, sym, ap, ◌∙◌, subst, arith}
use Rattle.std.proofs.lemmas.Bool.Decides.{nat_tests}
use Rattle.std.specs.Int.{w128, to_be_bytes, from_be_bytes}
use Rattle.std.specs.Option.{option_map}
use Rattle.uuid.specs.Text.{parsed}
use Rattle.uuid.proofs.OrderLemmas.{from_be_bytes-to_be_bytes_16}
use Rattle.st_clusters.specs.Free.{is_v4}
use Rattle.st_idcodec.specs.TableText.{uuid_text}
use Rattle.st_idcodec.specs.Uuids.{of_version_4, uuid_read}
use Rattle.st_idcodec.proofs.Complete.{parsed_back}

number_read : (s xs : List ℕ) (u : ℕ) → Some xs ≡ parsed s → from_be_bytes w128 xs ≡ u → u < 2 ^ 128 → is_v4 u ≡ true → uuid_read s ≡ Some u
number_read s xs u form number wide v4 =
    let low : nat_lt u (2 ^ 128) ≡ true = grind (arith, nat_tests, wide) in
    rw (sym form, number, low, v4) refl

pub read_back : (u : ℕ) → u < 2 ^ 128 → is_v4 u ≡ true → uuid_read (uuid_text u) ≡ Some u
read_back u wide v4 = number_read (uuid_text u) (to_be_bytes w128 u) u (parsed_back u) (from_be_bytes-to_be_bytes_16 u wide) wide v4

-- what is read has the number that its bytes have
pub number_of : (s xs : List ℕ) (u : ℕ) (r : Option ℕ) → Some xs ≡ parsed s → u ≡ from_be_bytes w128 xs → r ≡ of_version_4 u → r ≡ uuid_read s
number_of s xs u r form number is = rw (sym form) (is ∙ ap of_version_4 number)

-- what is read is of version 4, and has 128 bits
pub read_is_v4 : (s : List ℕ) (u : ℕ) → uuid_read s ≡ Some u → (u < 2 ^ 128) × (is_v4 u ≡ true)
read_is_v4 s u e = by (option_map (from_be_bytes w128) (parsed s)) e
  where
    low : (n : ℕ) → nat_lt n (2 ^ 128) ≡ true → n < 2 ^ 128
    low n p = grind (arith, nat_tests)

    of_version : (n : ℕ) (a : Bool) → nat_lt n (2 ^ 128) ≡ a → (b : Bool) → is_v4 n ≡ b → ◌≡◌ {A = Option ℕ} (cond (a && b) (Some n) None) (Some u) → (u < 2 ^ 128) × (is_v4 u ≡ true)
    of_version n true p true q e = let same : n ≡ u = cc in subst (λ m. (m < 2 ^ 128) × (is_v4 m ≡ true)) same (low n p, q)
    of_version n true p false q e = absurd (cc)
    of_version n false p b q e = absurd (cc)

    by : (o : Option ℕ) → option_and_then of_version_4 o ≡ Some u → (u < 2 ^ 128) × (is_v4 u ≡ true)
    by None e = absurd (cc)
    by (Some n) e = of_version n (nat_lt n (2 ^ 128)) refl (is_v4 n) refl e
