-- Words of the private functions behind `Replicas`.
use Rattle.std.specs.BTreeMap.{BTreeMap, get}
use Rattle.std.specs.Prelude.{ℕ, is_some, if◌then◌else◌, ◌≡◌, ◌+◌, [], ◌∷◌, Option, Some, None}
use Rattle.st_marks.specs.declared.intents.Intent.{Intent}
use Rattle.st_marks.specs.Document.{Document}
use Rattle.st_ids.specs.Order.{rev_cmp, same_rev}
use Rattle.st_ids.specs.declared.names.Rev.{Rev}
use Rattle.st_heads.specs.declared.ways.Carried.{Carried}
use Rattle.st_plain_undo.specs.declared.logged.Logged.{Logged}
use Rattle.st_heads.specs.Heads as head
use Rattle.st_heads.specs.Remembered.{AreCarried}
use Rattle.st_script.specs.declared.answer.Answer.TheVariants as answer
use Rattle.st_script.specs.declared.refusal.Refusal.TheVariants as no
use Rattle.st_plain.specs.declared.world.World.{World}
use Rattle.st_plain.specs.Replicas.{IsSoundAfter}

-- ## The world

-- the same with one step more
abbrev pub IsSoundNext : World → Type 0
IsSoundNext w = IsSoundAfter (w.steps + 1) w

-- ## The log

-- the same, and it is noted how the commit came out, as that of the entry of a number
abbrev pub HasLogged : Document → BTreeMap Rev Logged → ℕ → Option Intent → Document → BTreeMap Rev Logged → Type 0
HasLogged D old n None E new = (E ≡ D) × (new ≡ old)
HasLogged D old n (Some N) E new = (k : Carried) × AreCarried D (N ∷ []) (k ∷ []) E
    × ((rev : Rev) → get rev_cmp new rev ≡ (if same_rev N.rev rev then Some (record { n = n; is_schema = is_some N.schema; carried = k }) else get rev_cmp old rev))
