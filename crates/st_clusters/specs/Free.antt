-- UUIDs of version 4, their free numbers, and spans of free numbers.
use Rattle.std.specs.Prelude.{ℕ, Bool, ◌+◌, ◌-◌, ◌*◌, ◌/◌, ◌%◌, ◌^◌, ◌==◌, ◌&&◌, ◌||◌, nat_lt}

-- whether the version is 4 and the variant that of RFC 9562
unfoldable pub is_v4 : ℕ → Bool
is_v4 u = (u / 2 ^ 76 % 16 == 4) && (u / 2 ^ 62 % 4 == 2)

-- the free number of a UUID: its first 48 bits, the 12 bits after the version, the 62 bits after the variant
unfoldable pub free_number : ℕ → ℕ
free_number u = u / 2 ^ 80 * 2 ^ 74 + u / 2 ^ 64 % 2 ^ 12 * 2 ^ 62 + u % 2 ^ 62

-- the UUID of version 4 that has a free number
unfoldable pub uuid_of : ℕ → ℕ
uuid_of f = f / 2 ^ 74 * 2 ^ 80 + 4 * 2 ^ 76 + f / 2 ^ 62 % 2 ^ 12 * 2 ^ 64 + 2 * 2 ^ 62 + f % 2 ^ 62

-- how far free number b comes after a, where the numbers go round
unfoldable pub ahead : ℕ → ℕ → ℕ
ahead a b = (b + 2 ^ 122 - a) % 2 ^ 122

-- the free number that comes n after f
unfoldable pub free_after : ℕ → ℕ → ℕ
free_after f n = (f + n) % 2 ^ 122

-- whether the spans of 2^32 free numbers that begin at a and at b meet
abbrev pub spans_meet : ℕ → ℕ → Bool
spans_meet a b = nat_lt (ahead a b) (2 ^ 32) || nat_lt (ahead b a) (2 ^ 32)
