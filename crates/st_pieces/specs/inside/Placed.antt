-- Where a run stands in what was read.
use Rattle.std.specs.Prelude.{ℕ, ◌+◌, ◌-◌, ◌*◌, ◌≤◌, ◌<◌, ◌^◌, List, length, take, drop}
use Rattle.st_pieces.specs.Lines.{NoFeed}
use Rattle.st_pieces.specs.declared.reading.Reading.{Reading}

-- what was read and isn't answered yet
abbrev pub tail_of : Reading → List ℕ
tail_of r = drop r.from r.pending.items

pub record IsPlaced (r : Reading) : Type 0 where
  pub from : r.from ≤ length r.pending.items
  pub number : r.number ≤ 65537
  pub start : r.start ≤ 16777216
  -- no more was read than a piece past the limit
  pub within : r.start + length r.pending.items ≤ 16777216 + 65536 + r.from
  -- of the tail so much was searched, and has no line feed
  pub seen : r.from + r.seen ≤ length r.pending.items
  pub searched : NoFeed (take r.seen (tail_of r))
  pub size : length r.pending.items < 2 ^ 32

-- how many more turns there can be: each answers a line or reads at least one byte
abbrev pub turns_left : Reading → ℕ
turns_left r = 2 * (16777216 + 65536) + r.from - (2 * r.start + length r.pending.items)
