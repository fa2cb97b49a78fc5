-- What a load makes of a world: its steps one after the other, and the ones that each client makes at the end until there
-- is nothing left to do.
use Rattle.std.specs.Prelude.{◌≡◌, ℕ, ◌+◌, List, [], ◌∷◌, codes}
use Rattle.st_lists.specs.declared.lists.WorldState.{WorldState}
use Rattle.st_script.specs.Header.{HeaderView}
use Rattle.st_script.specs.Steps.{ActView, StepView}
use Rattle.st_script.specs.declared.answer.Answer.{Answer}
use Rattle.st_script.specs.declared.answer.Answer.TheVariants as answer
use Rattle.st_script.specs.declared.refusal.Refusal.{Refusal}
use Rattle.st_world.specs.World.{IsNext}

-- the four clients, in the order in which they join
abbrev pub load_clients : List (List ℕ)
load_clients = codes "A" ∷ codes "B" ∷ codes "C" ∷ codes "D" ∷ []

-- what a client does as a whole
abbrev pub step_by : ActView → List ℕ → StepView
step_by act name = record { client = name; branch = 0; act = act }

-- ## Steps in turn

-- how many refusals an answer is
abbrev pub refusals : Answer → ℕ
refusals (answer.No why) = 1
refusals a = 0

-- steps are made one after the other, and so many of them are refused
abbrev pub AreMade : HeaderView → WorldState → List StepView → WorldState → ℕ → Type 0
AreMade h w [] v refused = (v ≡ w) × (refused ≡ 0)
AreMade h w (s ∷ steps) v refused = (u : WorldState) × (a : Answer) × (rest : ℕ) × IsNext h w s u a
    × AreMade h u steps v rest × (refused ≡ refusals a + rest)

-- ## Steps until an answer

-- a step is made again and again, until its answer is this one
pub data IsMadeUntil (h : HeaderView) (s : StepView) (last : Answer) : WorldState → WorldState → Type 0 where
  ends : {w v : WorldState} → IsNext h w s v last → IsMadeUntil h s last w v
  goes : {w u v : WorldState} (a : Answer) → (a ≡ last → ⊥) → IsNext h w s u a → IsMadeUntil h s last u v → IsMadeUntil h s last w v

-- each client in turn does so
abbrev pub EachUntil : HeaderView → ActView → Refusal → List (List ℕ) → WorldState → WorldState → Type 0
EachUntil h act why [] w v = v ≡ w
EachUntil h act why (name ∷ names) w v = (u : WorldState) × IsMadeUntil h (step_by act name) (answer.No why) w u
    × EachUntil h act why names u v
