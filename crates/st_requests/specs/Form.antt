-- Which value is which request, by its form alone. Names are plain.
use Rattle.std.specs.Prelude.{ℕ, List, [], ◌∷◌, Option, None, option_and_then, option_map, codes, if◌then◌else◌}
use Rattle.serde_json.specs.Data.{Data}
use Rattle.serde_json.specs.Find.{as_str}
use Rattle.st_ids.specs.declared.names.Rev.{Rev}
use Rattle.st_marks.specs.declared.changes.Change.{Change}
use Rattle.st_marks.specs.declared.steps.Step.{Step}
use Rattle.st_schema.specs.Schema.{same}
use Rattle.st_mark_reader.specs.Naming.{plain_form}
use Rattle.st_mark_reader.specs.Reading.{is_named, member_of}
use Rattle.st_change_reader.specs.Reading.{change_of}
use Rattle.st_change_reader.specs.StepReading.{step_of}
use Rattle.st_requests.specs.declared.request.Request.{Request}
use Rattle.st_requests.specs.declared.request.Request.TheVariants.{Compose, Join, Invert, Rebase, Bridge, Effect, Revert}

-- ## Members

abbrev pub change_in : List ℕ → Data → Option Change
change_in = member_of (change_of plain_form)

abbrev pub step_in : List ℕ → Data → Option Step
step_in = member_of (step_of plain_form)

abbrev pub rev_in : List ℕ → Data → Option Rev
rev_in = member_of plain_form.rev

-- ## Requests by their members

abbrev pub two_steps : Data → Option Request
two_steps d = option_and_then (λ first. option_map (λ last. Compose first last) (step_in (codes "then") d)) (step_in (codes "first") d)

abbrev pub two_changes : Data → Option Request
two_changes d = option_and_then (λ first. option_map (λ last. Join first last) (change_in (codes "then") d)) (change_in (codes "first") d)

abbrev pub step_back : Data → Option Request
step_back d = option_map (λ step. Invert step) (step_in (codes "step") d)

abbrev pub change_over : Data → Option Request
change_over d = option_and_then (λ change. option_map (λ over. Rebase change over) (step_in (codes "over") d)) (change_in (codes "change") d)

abbrev pub step_over : Data → Option Request
step_over d = option_and_then (λ change. option_map (λ step. Bridge change step) (step_in (codes "step") d)) (change_in (codes "change") d)

abbrev pub carried_out : Data → Option Request
carried_out d = option_map (λ change. Effect change) (change_in (codes "change") d)

abbrev pub taken_back : Data → Option Request
taken_back d =
    option_and_then (λ rev.
    option_and_then (λ under.
    option_map (λ step. Revert step rev under)
    (step_in (codes "step") d)) (rev_in (codes "under") d)) (rev_in (codes "rev") d)

-- ## Requests by their words

-- what the value is, where it has the members of these names and no others
abbrev pub if_named : List (List ℕ) → (Data → Option Request) → Data → Option Request
if_named names f d = if is_named names d then f d else None

abbrev pub request_named : List ℕ → Data → Option Request
request_named word d =
    if same word (codes "compose") then if_named (codes "do" ∷ codes "first" ∷ codes "then" ∷ []) two_steps d else
    if same word (codes "join") then if_named (codes "do" ∷ codes "first" ∷ codes "then" ∷ []) two_changes d else
    if same word (codes "invert") then if_named (codes "do" ∷ codes "step" ∷ []) step_back d else
    if same word (codes "rebase") then if_named (codes "change" ∷ codes "do" ∷ codes "over" ∷ []) change_over d else
    if same word (codes "bridge") then if_named (codes "change" ∷ codes "do" ∷ codes "step" ∷ []) step_over d else
    if same word (codes "effect") then if_named (codes "change" ∷ codes "do" ∷ []) carried_out d else
    if same word (codes "revert") then if_named (codes "do" ∷ codes "rev" ∷ codes "step" ∷ codes "under" ∷ []) taken_back d else None

-- the request that a value is of the form of
abbrev pub form_of : Data → Option Request
form_of d = option_and_then (λ word. request_named word d) (member_of as_str (codes "do") d)
