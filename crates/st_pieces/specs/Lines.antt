-- The lines of some bytes, and which of them are too long.
use Rattle.std.specs.Prelude.{ℕ, ◌+◌, ◌==◌, ◌||◌, Bool, false, nat_lt, List, [], ◌∷◌, ◌++◌, length, take, drop, if◌then◌else◌}
use Rattle.std.specs.List.{AllByRecursion}
use Rattle.std.specs.Prelude.{◌≡◌}

-- a line, and how many line feeds end it: one, or none at the end of the input
pub record Line : Type 0 where
  pub bytes : List ℕ
  pub feed : ℕ

abbrev pub line_of : List ℕ → ℕ → Line
line_of bytes feed = record { bytes = bytes; feed = feed }

-- a byte before the first line
abbrev pub cons_byte : ℕ → List Line → List Line
cons_byte b [] = line_of (b ∷ []) 0 ∷ []
cons_byte b (l ∷ ls) = line_of (b ∷ l.bytes) l.feed ∷ ls

abbrev pub cut : List ℕ → List Line
cut [] = []
cut (b ∷ bs) = if b == 10 then line_of [] 1 ∷ cut bs else cons_byte b (cut bs)

-- the bytes of lines, with the line feeds that end them
abbrev pub size_of : List Line → ℕ
size_of [] = 0
size_of (l ∷ ls) = length l.bytes + l.feed + size_of ls

-- a line is too long where it is one too many, has too many bytes, or holds the byte by which the
-- input passes its limit; n is its number, and `start` counts the bytes before it
abbrev pub is_long : ℕ → ℕ → Line → Bool
is_long n start l =
    nat_lt 65536 n || (nat_lt 1048576 (length l.bytes)
    || nat_lt 16777216 (start + length l.bytes + l.feed))

-- no line feed is among some bytes
abbrev pub NoFeed : List ℕ → Type 0
NoFeed bs = AllByRecursion (λ b. (b == 10) ≡ false) bs

-- the first line feed stands at a place
pub record IsFeedAt (bs : List ℕ) (at : ℕ) : Type 0 where
  pub before : NoFeed (take at bs)
  pub whole : bs ≡ take at bs ++ 10 ∷ drop (at + 1) bs
