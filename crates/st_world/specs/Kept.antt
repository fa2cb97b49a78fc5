-- Steps that change nothing of a client.
use Rattle.std.specs.Prelude.{◌≡◌, Option, Some, None}
use Rattle.st_script.specs.declared.answer.Answer.{Answer}
use Rattle.st_script.specs.declared.answer.Answer.TheVariants as answer
use Rattle.st_script.specs.declared.refusal.Refusal.{Refusal}
use Rattle.st_lists.specs.declared.lists.Client.{Client}

-- the client after it is that before it, and the answer is this one
abbrev pub IsKept : Client → Client → Answer → Answer → Type 0
IsKept c d a b = (d ≡ c) × (a ≡ b)

-- where a step is refused nothing changes, and else this holds
abbrev pub Unless : Option Refusal → Client → Client → Answer → Type 0 → Type 0
Unless None c d a holds = holds
Unless (Some why) c d a holds = IsKept c d a (answer.No why)
