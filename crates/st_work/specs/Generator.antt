-- The generator of a load: each step draws its client, then its kind, and then the indexes of that kind in turn.
use Rattle.std.specs.Prelude.{ℕ, zero, suc, ◌+◌, ◌*◌, ◌/◌, ◌%◌, ◌^◌, ◌==◌, nat_lt, List, [], ◌∷◌, Some, codes, if◌then◌else◌}
use Rattle.std.specs.Fmt.{decimal}
use Rattle.st_ids.specs.declared.names.Key.{Key}
use Rattle.st_ids.specs.declared.names.Leaf.TheVariants.{Words}
use Rattle.st_tree.specs.Node.{Node, node, no_fields}
use Rattle.st_script.specs.Steps.{ActView, StepView, edit, insert, remove, move, sequence, deliver}
use Rattle.st_work.specs.declared.work.Plan.{Plan}
use Rattle.st_work.specs.declared.work.Plan.TheVariants as plan
use Rattle.st_work.specs.declared.work.Work.{Work}

-- ## Numbers

-- the number after a draw
abbrev pub turned : ℕ → ℕ
turned x = (x * 6364136223846793005 + 1442695040888963407) % 2 ^ 64

-- what is drawn below a bound, where that is the number
abbrev pub drawn : ℕ → ℕ → ℕ
drawn below x = x / 2 ^ 33 % below

-- ## What is drawn for a step

-- what a step of a kind is to do, and the number after its indexes are drawn: of 32 kinds two insert, one removes, one
-- moves, four sequence, and the others deliver
abbrev pub plan_after : ℕ → ℕ → Plan × ℕ
plan_after kind x =
    if nat_lt kind 2 then (plan.Insert (drawn 8 (turned x)), turned x) else
    if kind == 2 then (plan.Remove (drawn 8 (turned x)), turned x) else
    if kind == 3 then (plan.Move (drawn 8 (turned x)) (drawn 8 (turned (turned x))), turned (turned x)) else
    if nat_lt kind 8 then (plan.Sequence, x) else (plan.Deliver, x)

-- the four clients
abbrev pub client_drawn : ℕ → List ℕ
client_drawn k = if k == 0 then codes "A" else if k == 1 then codes "B" else if k == 2 then codes "C" else codes "D"

-- ## Steps

-- the item that the step of a number inserts: the number, as a text
abbrev pub text_item : ℕ → Node
text_item n = node (codes "text") (Some (Words (decimal n))) no_fields

-- the key of a row
abbrev pub row_key : Key
row_key = record { 0 = [] }

abbrev pub inserted : ℕ → ℕ → ActView
inserted n index = edit (insert [] row_key index (text_item n ∷ []))

abbrev pub removed : ℕ → ActView
removed index = edit (remove [] row_key index 1)

abbrev pub moved : ℕ → ℕ → ActView
moved index to_index = edit (move [] row_key index 1 [] row_key to_index)

-- what the step of a number does
abbrev pub act_planned : ℕ → Plan → ActView
act_planned n (plan.Insert index) = inserted n index
act_planned n (plan.Remove index) = removed index
act_planned n (plan.Move index to_index) = moved index to_index
act_planned n plan.Sequence = sequence
act_planned n plan.Deliver = deliver

abbrev pub step_planned : ℕ → ℕ → Plan → StepView
step_planned n client p = record { client = client_drawn client; branch = 0; act = act_planned n p }

-- ## The generator

-- before the first step
abbrev pub first_work : ℕ → Work
first_work seed = record { state = seed; made = 0 }

-- what the next step is to do, after the client and the kind are drawn
abbrev pub next_plan : Work → Plan × ℕ
next_plan w = plan_after (drawn 32 (turned (turned w.state))) (turned (turned w.state))

-- the next step
abbrev pub step_drawn : Work → StepView
step_drawn w = step_planned (w.made + 1) (drawn 4 (turned w.state)) (next_plan w).0

-- the generator after it
abbrev pub after_step : Work → Work
after_step w = record { state = (next_plan w).1; made = w.made + 1 }

-- so many steps
abbrev pub steps_from : Work → ℕ → List StepView
steps_from w zero = []
steps_from w (suc count) = step_drawn w ∷ steps_from (after_step w) count

-- the steps of a seed
abbrev pub steps_of : ℕ → ℕ → List StepView
steps_of seed count = steps_from (first_work seed) count
