-- What a world stands for in a load, and what the steps of a load lead to.
use Rattle.std.specs.Prelude.{◌≡◌, ◌↔◌, ℕ, ◌+◌, ◌<◌, ◌≤◌, ◌^◌, Bool, true, List, Option, Some, None}
use Rattle.st_ids.specs.Listing.{Has}
use Rattle.st_lists.specs.declared.lists.WorldState.{WorldState}
use Rattle.st_script.specs.Header.{HeaderView}
use Rattle.st_script.specs.Steps.{StepView}
use Rattle.st_script.specs.Steps as step
use Rattle.st_script.specs.declared.answer.Answer.{Answer}
use Rattle.st_script.specs.declared.answer.Answer.TheVariants as answer
use Rattle.st_world.specs.World.{IsNext}
use Rattle.st_load_laws.specs.Load.{IsMadeUntil, load_clients, refusals, step_by}
use Rattle.st_load_laws.specs.Loaded.{EndsSoon, IsLoaded}
use Rattle.st_plain.specs.Stands.{Stands}
use Rattle.st_plain.specs.declared.world.World.{World}
use Rattle.st_words.specs.declared.request.Request.{Request}
use Rattle.st_words.specs.declared.request.Request.TheVariants.{Trace, Replay, Algebra, Compat, Work}

-- it stands for some lists, and may make so many steps more
abbrev pub IsUnder : ℕ → World → Type 0
IsUnder room world = (k : ℕ) × (h : HeaderView) × (w : WorldState) × Stands k world h w × (k + room < 2 ^ 32)

-- a step is answered so at last, whatever it leads to
abbrev pub EndsIn : World → StepView → Answer → Type 0
EndsIn world s last = (k : ℕ) × (h : HeaderView) × (w : WorldState) × Stands k world h w × (k + 262144 < 2 ^ 32) × EndsSoon h s last w

-- it stands for the lists of a load with at most so many texts, and may make so many steps more
abbrev pub IsLoadedFor : ℕ → World → Type 0
IsLoadedFor room world = (k : ℕ) × (h : HeaderView) × (w : WorldState) × Stands k world h w × (k + room < 2 ^ 32) × IsLoaded load_clients 60000 w

-- a step shows what a client of the load shows
abbrev pub IsShowingStep : World → StepView → Type 0
IsShowingStep world s = (name : List ℕ) × Has load_clients name × (s ≡ step_by step.show name) × IsLoadedFor 1 world

-- ## What steps lead to

-- a step is refused so often: once, or not at all
abbrev pub IsCounted : World → World → StepView → ℕ → Type 0
IsCounted old new s refused = (k : ℕ) (h : HeaderView) (w : WorldState) → Stands k old h w
    → (v : WorldState) × (a : Answer) × IsNext h w s v a × (refused ≡ refusals a) × Stands (k + 1) new h v

-- whether a step is answered so
abbrev pub IsTurned : World → World → StepView → Answer → Bool → Type 0
IsTurned old new s last b = (k : ℕ) (h : HeaderView) (w : WorldState) → Stands k old h w
    → (v : WorldState) × (a : Answer) × IsNext h w s v a × ((b ≡ true) ↔ (a ≡ last)) × Stands (k + 1) new h v

-- a step is made until it is answered so
abbrev pub IsEmptied : World → World → StepView → Answer → Type 0
IsEmptied old new s last = (k : ℕ) (h : HeaderView) (w : WorldState) → Stands k old h w
    → (v : WorldState) × (j : ℕ) × (j ≤ 262144) × IsMadeUntil h s last w v × Stands (k + j) new h v

-- a step shows this text, and changes nothing
abbrev pub IsShown : World → World → StepView → List ℕ → Type 0
IsShown old new s text = (k : ℕ) (h : HeaderView) (w : WorldState) → Stands k old h w
    → IsNext h w s w (answer.Show text) × Stands (k + 1) new h w

-- ## What is asked for

-- a load that is asked for has at most so many steps
abbrev pub IsShortWork : Option Request → Type 0
IsShortWork None = Unit {0}
IsShortWork (Some Trace) = Unit {0}
IsShortWork (Some Replay) = Unit {0}
IsShortWork (Some Algebra) = Unit {0}
IsShortWork (Some Compat) = Unit {0}
IsShortWork (Some (Work seed steps)) = steps ≤ 50000
