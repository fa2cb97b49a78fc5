-- A value, some times over, cut and joined.
use Rattle.std.proofs.Common.{◌≡◌, ◌≤◌, ◌+◌, ◌-◌, ℕ, ◌++◌, length, take, drop, replicate, sym}
use Rattle.std.proofs.lemmas.List.{length-replicate, take-replicate, drop-replicate, replicate-append-replicate}

pub length_repeated : (value n : ℕ) → length (replicate n value) ≡ n
length_repeated value n = length-replicate n value

pub repeated_more : (value m n : ℕ) → replicate (m + n) value ≡ replicate m value ++ replicate n value
repeated_more value m n = sym (replicate-append-replicate m n value)

pub repeated_front : (value m n : ℕ) → m ≤ n → replicate m value ≡ take m (replicate n value)
repeated_front value m n h = sym (take-replicate m n value h)

pub repeated_rest : (value m n : ℕ) → replicate (n - m) value ≡ drop m (replicate n value)
repeated_rest value m n = sym (drop-replicate m n value)
