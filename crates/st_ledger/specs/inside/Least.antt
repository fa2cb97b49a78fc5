-- The least known reference of the sessions that are connected, after one of them said something.
use Rattle.std.specs.Prelude.{ℕ, ◌==◌, Bool, not, min, max, List, fold, if◌then◌else◌}
use Rattle.std.specs.BTreeMap.{BTreeMap}
use Rattle.st_lists.specs.Known.{known_so_far}

-- of some sessions, where it is at most a number
abbrev pub least_of : List ℕ → BTreeMap ℕ ℕ → ℕ → ℕ
least_of connected known n = fold (λ least (t : ℕ). min least (known_so_far known t)) n connected

-- of all but that one, where the others' is at most a number
abbrev pub least_without : List ℕ → BTreeMap ℕ ℕ → ℕ → ℕ → ℕ
least_without connected known s n = fold (λ least (t : ℕ). if not (t == s) then min least (known_so_far known t) else least) n connected

-- and of that one, if it is connected then, with the reference that it tells
abbrev pub least_after : List ℕ → BTreeMap ℕ ℕ → ℕ → Bool → ℕ → ℕ → ℕ
least_after connected known s on reference n = if on then min (least_without connected known s n) (max (known_so_far known s) reference) else least_without connected known s n
