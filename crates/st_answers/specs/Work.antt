-- The load that the program makes and runs itself: nothing is read, and one line is told of it.
use Rattle.std.specs.Prelude.{◌≡◌, ℕ, Bool, true, List, [], ◌∷◌, ◌++◌, length, map, nat_eq, None, Ok, codes}
use Rattle.std.specs.Cmp.Lexicographic.{pointwise}
use Rattle.std.specs.List.{list_all}
use Rattle.serde_json.specs.Data.{Data, boolean, number, unsigned, string, object, no_members, member}
use Rattle.serde_json.specs.Written.{compact_text}
use Rattle.st_ids.specs.declared.names.Rev.{Rev}
use Rattle.st_lists.specs.Clients.{empty_state}
use Rattle.st_lists.specs.Log.{commits_in}
use Rattle.st_lists.specs.Voids.{AreVoid}
use Rattle.st_lists.specs.declared.lists.WorldState.{WorldState}
use Rattle.st_script.specs.Header.{HeaderView, header_line}
use Rattle.st_script.specs.Steps as step
use Rattle.st_script.specs.declared.answer.Answer.TheVariants as answer
use Rattle.st_script.specs.declared.refusal.Refusal.TheVariants as no
use Rattle.st_world.specs.World.{IsNext, opening_document}
use Rattle.st_load_laws.specs.Load.{AreMade, EachUntil, load_clients, step_by}
use Rattle.st_work.specs.Generator.{steps_of}
use Rattle.st_answers.specs.Endings.{Output, ended}
use Rattle.st_answers.specs.declared.tally.Tally.{Tally}

-- the header that opens it: a list of texts, and the empty list
abbrev pub load_header : List ℕ
load_header = codes "{\"schema\":{\"root\":[\"list\"],\"types\":[{\"array\":[\"text\"],\"name\":\"list\"}]},\"trace\":1,\"tree\":{\"list\":[]}}"

-- ## What is shown at the end

-- the texts of the trees that clients show, each where it is asked for one
abbrev pub AreShown : HeaderView → WorldState → List (List ℕ) → List (List ℕ) → Type 0
AreShown h w [] texts = texts ≡ []
AreShown h w (name ∷ names) texts = (text : List ℕ) × (rest : List (List ℕ)) × IsNext h w (step_by step.show name) w (answer.Show text)
    × AreShown h w names rest × (texts ≡ text ∷ rest)

-- whether all are as the first
abbrev pub are_same : List (List ℕ) → Bool
are_same [] = true
are_same (text ∷ texts) = list_all (λ other. pointwise nat_eq other text) texts

-- ## The load

-- what is counted of a load of so many steps of a seed: the clients join, make the steps that are drawn, send all that they
-- have to send, each in turn, and then receive all that there is to receive
pub record IsTallied (h : HeaderView) (seed steps : ℕ) (t : Tally) : Type 0 where
  pub joined : WorldState
  pub unjoined : ℕ
  pub joins : AreMade h empty_state (map (step_by (step.join None)) load_clients) joined unjoined
  pub drawn : WorldState
  pub draws : AreMade h joined (steps_of seed steps) drawn t.refused
  pub sent : WorldState
  pub sends : EachUntil h step.sequence no.NothingToSend load_clients drawn sent
  pub last : WorldState
  pub receives : EachUntil h step.deliver no.NothingNew load_clients sent last
  -- whether all then show the same, and which commits of the log are void where they come
  pub shown : List (List ℕ)
  pub shows : AreShown h last load_clients shown
  pub equal : t.equal ≡ are_same shown
  pub void : List Rev
  pub voids : AreVoid (opening_document h) (commits_in last.log) void
  pub voided : t.voided ≡ length void
  pub entries : t.entries ≡ length last.log
  pub steps_made : t.steps ≡ steps

-- ## The line

abbrev pub work_data : Tally → Data
work_data t = object (member (codes "entries") (number (unsigned t.entries)) (member (codes "equal") (boolean t.equal)
    (member (codes "ok") (string (codes "work")) (member (codes "refused") (number (unsigned t.refused)) (member (codes "steps") (number (unsigned t.steps))
    (member (codes "voided") (number (unsigned t.voided)) no_members))))))

abbrev pub work_line : Tally → List ℕ
work_line t = compact_text (work_data t) ++ 10 ∷ []

-- the line that is told of so many steps of a seed
pub record IsWorkLine (seed steps : ℕ) (line : List ℕ) : Type 0 where
  pub header : HeaderView
  pub opens : header_line (codes "trace") load_header ≡ Ok header
  pub tally : Tally
  pub tallied : IsTallied header seed steps tally
  pub told : line ≡ work_line tally

-- that line is all that is told
abbrev pub IsWorkOutput : ℕ → ℕ → Output → Type 0
IsWorkOutput seed steps out = (line : List ℕ) × IsWorkLine seed steps line × (out ≡ ended line)
