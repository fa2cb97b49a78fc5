-- Lists of commits that are ahead.
use Rattle.std.specs.Prelude.{ℕ, nat_lt, List, filter}
use Rattle.st_window.specs.declared.kept.Kept.{Kept}
use Rattle.st_ahead.specs.declared.lag.Ahead.{Ahead}

-- those whose number is above this one
abbrev pub ahead_above : ℕ → List Ahead → List Ahead
ahead_above n xs = filter (λ (x : Ahead). nat_lt n x.n) xs

-- a commit that is kept, as one that is ahead
abbrev pub ahead_of : Kept → Ahead
ahead_of k = record { n = k.n; step = k.step }
