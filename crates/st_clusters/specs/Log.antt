-- The ranges of the log, each of which goes on where the last one of its session ended.
use Rattle.std.specs.Prelude.{ℕ, ◌≡◌, ◌+◌, ◌<◌, ◌≤◌, ◌==◌, List, [], ◌∷◌, ◌++◌, length, cond, Some}
use Rattle.std.specs.List.{sum_by}
use Rattle.st_clusters.specs.Table.{Ids, session_of, table_of}
use Rattle.st_clusters.specs.declared.ids.IdRange.{IdRange}
use Rattle.st_clusters.specs.declared.ids.SessionIds.{SessionIds}

-- how many ids of a session some ranges carry
abbrev pub carried_count : ℕ → List IdRange → ℕ
carried_count s rs = sum_by (λ (r : IdRange). cond (r.session == s) r.count 0) rs

-- ranges that go on after some others
abbrev pub GoOn : List IdRange → List IdRange → Type 0
GoOn before [] = Unit {0}
GoOn before (r ∷ rs) = (1 ≤ r.session) × (r.first ≡ carried_count r.session before + 1) × GoOn (before ++ r ∷ []) rs

-- ranges that go on from the beginning
abbrev pub AreInTurn : List IdRange → Type 0
AreInTurn rs = GoOn [] rs

-- ## A table and its ranges

-- the table is that of some ranges, in their order: each goes on where the last one of its session ended, the clusters are
-- those of the fold, and each session has finalised what they carry of it; they carry nothing of a session that isn't there
pub record IsTableOf (rs : List IdRange) (t : Ids) : Type 0 where
  pub in_turn : AreInTurn rs
  pub clusters : t.clusters ≡ table_of rs
  pub finalised : (s : ℕ) (x : SessionIds) → session_of t.sessions s ≡ Some x → x.finalised ≡ carried_count s rs
  pub later : (s : ℕ) → length t.sessions < s → carried_count s rs ≡ 0
