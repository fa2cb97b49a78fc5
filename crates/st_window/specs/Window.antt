-- The commits that a client keeps: those above a floor.
use Rattle.std.specs.Prelude.{ℕ, ◌<◌, nat_lt, List, [], ◌∷◌, Option, filter}
use Rattle.std.specs.List.{find}
use Rattle.st_ids.specs.Order.{same_rev}
use Rattle.st_ids.specs.declared.names.Rev.{Rev}
use Rattle.st_window.specs.declared.kept.Kept.{Kept}

-- a window: the number up to which commits are dropped, and the commits that are kept
pub record WindowView : Type 0 where
  pub floor : ℕ
  pub kept : List Kept

-- the numbers of commits rise strictly: the first is above this number, and each other above the one before it
abbrev pub RiseFrom : ℕ → List Kept → Type 0
RiseFrom n [] = Unit {0}
RiseFrom n (k ∷ ks) = (n < k.n) × RiseFrom k.n ks

-- the commits whose number is above this one
abbrev pub kept_above : ℕ → List Kept → List Kept
kept_above n ks = filter (λ (k : Kept). nat_lt n k.n) ks

-- the first commit that has a revision, if one has
abbrev pub kept_with : Rev → List Kept → Option Kept
kept_with rev ks = find (λ (k : Kept). same_rev k.change.rev rev) ks
