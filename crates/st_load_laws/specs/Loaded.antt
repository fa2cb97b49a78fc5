-- What holds of each world of a load, and why the steps at its end come to an end.
use Rattle.std.specs.Prelude.{◌≡◌, ◌⊎◌, ◌≤◌, ℕ, zero, suc, ◌+◌, true, List, [], ◌∷◌, length, map, None}
use Rattle.std.specs.List.{AllByRecursion}
use Rattle.st_lists.specs.Names.{names_in_text}
use Rattle.st_lists.specs.declared.lists.Body.{Body}
use Rattle.st_lists.specs.declared.lists.Client.{Client}
use Rattle.st_lists.specs.declared.lists.Entry.{Entry}
use Rattle.st_lists.specs.declared.lists.WorldState.{WorldState}
use Rattle.st_script.specs.Header.{HeaderView}
use Rattle.st_script.specs.Steps.{StepView}
use Rattle.st_script.specs.declared.answer.Answer.{Answer}
use Rattle.st_world.specs.World.{IsNext}

-- a text makes at most two names: those of one text and of its cell
abbrev pub MakesFew : Body → Type 0
MakesFew text = names_in_text text ≤ 2

-- a client is connected, and has no transaction open; what waits makes few names each
pub record IsLoading (c : Client) : Type 0 where
  pub connected : c.connected ≡ true
  pub transaction : c.transaction ≡ None
  pub queue : AllByRecursion MakesFew c.queue

-- a number of each client, together
abbrev pub total : (Client → ℕ) → List Client → ℕ
total f [] = 0
total f (c ∷ cs) = f c + total f cs

-- how many texts wait at a client
abbrev pub queued : Client → ℕ
queued c = length c.queue

-- the clients of these names are there, and no others; at most so many texts are in the log or wait, each with few names
pub record IsLoaded (names : List (List ℕ)) (n : ℕ) (w : WorldState) : Type 0 where
  pub named : map (λ (c : Client). c.name) w.clients ≡ names
  pub clients : AllByRecursion IsLoading w.clients
  pub log : AllByRecursion (λ (e : Entry). MakesFew e.body) w.log
  pub few : length w.log + total queued w.clients ≤ n

-- whatever it leads to, a step that is made so many times is answered so at last
abbrev pub EndsWithin : ℕ → HeaderView → StepView → Answer → WorldState → Type 0
EndsWithin zero h s last w = ⊥
EndsWithin (suc n) h s last w = (v : WorldState) (a : Answer) → IsNext h w s v a → (a ≡ last) ⊎ ((a ≡ last → ⊥) × EndsWithin n h s last v)

-- it is so after few enough times
abbrev pub EndsSoon : HeaderView → StepView → Answer → WorldState → Type 0
EndsSoon h s last w = (turns : ℕ) × (turns ≤ 262144) × EndsWithin turns h s last w
