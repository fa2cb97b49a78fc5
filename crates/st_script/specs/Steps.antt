-- Which value is which step.
use Rattle.std.specs.Prelude.{◌≡◌, ◌<◌, ◌^◌, Ok, length, ℕ, List, nat_eq, Bool, Option, Some, None, option_and_then, option_map, map, codes, if◌then◌else◌}
use Rattle.std.specs.Cmp.Lexicographic.{pointwise}
use Rattle.serde_json.specs.Data.{Data}
use Rattle.serde_json.specs.Find.{get, as_str}
use Rattle.st_ids.specs.declared.names.Key.{Key}
use Rattle.st_ids.specs.declared.names.Place.{Place}
use Rattle.st_ids.specs.declared.names.Rev.{Rev}
use Rattle.st_json.specs.Look.{has_only}
use Rattle.st_schema.specs.Schema.{SchemaView}
use Rattle.st_tree.specs.Node.{Node, view, nodes_of}
use Rattle.st_tree.specs.Size.{check_of, check_items}
use Rattle.st_script.specs.declared.step.TraceStep.{TraceStep}
use Rattle.st_script.specs.declared.step.Act.{Act}
use Rattle.st_script.specs.declared.step.Act.TheVariants as acts
use Rattle.st_script.specs.declared.step.EditAct.{EditAct}
use Rattle.st_script.specs.declared.step.EditAct.TheVariants as edits
use Rattle.st_script.specs.declared.read.Target.{Target}
use Rattle.st_script.specs.declared.read.Span.{Span}
use Rattle.st_script.specs.declared.read.Goal.{Goal}
use Rattle.st_script.specs.Members.{client_in, number_in, number_or, count_of, key_or_empty, path_in, rev_in, items_in, item_in, schema_in, uuid_in}

-- ## Steps as contracts see them

-- an edit, with its trees as nodes and its members in the order of `EditAct`
pub data EditView : Type 0 where
  insert : List Place → Key → ℕ → List Node → EditView
  remove : List Place → Key → ℕ → ℕ → EditView
  move : List Place → Key → ℕ → ℕ → List Place → Key → ℕ → EditView
  set : List Place → Key → Node → EditView
  clear : List Place → Key → EditView

-- what a step does
pub data ActView : Type 0 where
  join : Option ℕ → ActView
  edit : EditView → ActView
  need : List Place → ActView
  begin : ActView
  commit : ActView
  abort : ActView
  fork : ActView
  rebase : ActView
  merge : ActView
  drop_branch : ActView
  undo : Rev → ActView
  upgrade : SchemaView → ActView
  sequence : ActView
  ack : ActView
  deliver : ActView
  leave : ActView
  drop_client : ActView
  reconnect : ActView
  show : ActView
  pending : ActView

-- a step of a client, on a branch
pub record StepView : Type 0 where
  pub client : List ℕ
  pub branch : ℕ
  pub act : ActView

abbrev pub edit_view : EditAct → EditView
edit_view (edits.Insert at key index items) = insert at key index (map view items)
edit_view (edits.Remove at key index count) = remove at key index count
edit_view (edits.Move at key index count to to_key to_index) = move at key index count to to_key to_index
edit_view (edits.Set at key item) = set at key (view item)
edit_view (edits.Clear at key) = clear at key

abbrev pub act_view : Act → ActView
act_view (acts.Join uuid) = join uuid
act_view (acts.Edit e) = edit (edit_view e)
act_view (acts.Need at) = need at
act_view acts.Begin = begin
act_view acts.Commit = commit
act_view acts.Abort = abort
act_view acts.Fork = fork
act_view acts.Rebase = rebase
act_view acts.Merge = merge
act_view acts.DropBranch = drop_branch
act_view (acts.Undo rev) = undo rev
act_view (acts.Upgrade schema) = upgrade schema
act_view acts.Sequence = sequence
act_view acts.Ack = ack
act_view acts.Deliver = deliver
act_view acts.Leave = leave
act_view acts.Drop = drop_client
act_view acts.Reconnect = reconnect
act_view acts.Show = show
act_view acts.Pending = pending

abbrev pub step_view : TraceStep → StepView
step_view s = record { client = s.client; branch = s.branch; act = act_view s.act }

-- ## Limits

-- its trees are within the limits of trees, and its paths short
abbrev pub IsEditWithin : EditView → Type 0
IsEditWithin (insert at key index items) = (check_items (nodes_of items) ≡ Ok tt) × (length at < 2 ^ 32)
IsEditWithin (remove at key index count) = length at < 2 ^ 32
IsEditWithin (move at key index count to to_key to_index) = (length at < 2 ^ 32) × (length to < 2 ^ 32)
IsEditWithin (set at key item) = (check_of item ≡ Ok tt) × (length at < 2 ^ 32)
IsEditWithin (clear at key) = length at < 2 ^ 32

-- its trees are within the limits of trees, and its paths short
abbrev pub IsActWithin : ActView → Type 0
IsActWithin (join uuid) = Unit {0}
IsActWithin (edit e) = IsEditWithin e
IsActWithin (need at) = length at < 2 ^ 32
IsActWithin begin = Unit {0}
IsActWithin commit = Unit {0}
IsActWithin abort = Unit {0}
IsActWithin fork = Unit {0}
IsActWithin rebase = Unit {0}
IsActWithin merge = Unit {0}
IsActWithin drop_branch = Unit {0}
IsActWithin (undo rev) = Unit {0}
IsActWithin (upgrade schema) = Unit {0}
IsActWithin sequence = Unit {0}
IsActWithin ack = Unit {0}
IsActWithin deliver = Unit {0}
IsActWithin leave = Unit {0}
IsActWithin drop_client = Unit {0}
IsActWithin reconnect = Unit {0}
IsActWithin show = Unit {0}
IsActWithin pending = Unit {0}

-- its trees are within the limits of trees, and its paths short
abbrev pub IsWithinLimits : StepView → Type 0
IsWithinLimits s = IsActWithin s.act

-- ## Members of a value

-- the field of a node, by the names of the members that hold its path and its key
abbrev pub target_of : List ℕ → List ℕ → Data → Option Target
target_of path key d = option_and_then (λ at. option_map (λ k. record { at = at; key = k }) (key_or_empty (get key d))) (path_in path d)

-- the field that is edited
abbrev pub site_of : Data → Option Target
site_of d = target_of (codes "at") (codes "key") d

-- which items of a row
abbrev pub span_of : Data → Option Span
span_of d = option_and_then (λ index. option_map (λ count. record { index = index; count = count }) (count_of d)) (number_in (codes "index") d)

-- where items are moved to
abbrev pub goal_of : Data → Option Goal
goal_of d = option_and_then (λ index. option_map (λ target. record { to = target.at; to_key = target.key; to_index = index }) (target_of (codes "to") (codes "to_key") d))
    (number_or 0 (get (codes "to_index") d))

-- ## What a value does

abbrev pub read_insert : Data → Option ActView
read_insert d =
    if has_only (codes "at branch client do index items key") d then
    option_and_then (λ t.
    option_and_then (λ index.
    option_map (λ items. edit (insert t.at t.key index items))
    (items_in d)) (number_in (codes "index") d)) (site_of d)
    else None

abbrev pub read_remove : Data → Option ActView
read_remove d =
    if has_only (codes "at branch client count do index key") d then
    option_and_then (λ t.
    option_map (λ span. edit (remove t.at t.key span.index span.count))
    (span_of d)) (site_of d)
    else None

abbrev pub read_move : Data → Option ActView
read_move d =
    if has_only (codes "at branch client count do index key to to_index to_key") d then
    option_and_then (λ t.
    option_and_then (λ span.
    option_map (λ goal. edit (move t.at t.key span.index span.count goal.to goal.to_key goal.to_index))
    (goal_of d)) (span_of d)) (site_of d)
    else None

abbrev pub read_set : Data → Option ActView
read_set d =
    if has_only (codes "at branch client do item key") d then
    option_and_then (λ t.
    option_map (λ item. edit (set t.at t.key item))
    (item_in d)) (site_of d)
    else None

abbrev pub read_clear : Data → Option ActView
read_clear d =
    if has_only (codes "at branch client do key") d then
    option_map (λ t. edit (clear t.at t.key)) (site_of d)
    else None

abbrev pub read_join : Data → Option ActView
read_join d =
    if has_only (codes "client do uuid") d then
    option_map (λ uuid. join uuid) (uuid_in d)
    else None

abbrev pub read_need : Data → Option ActView
read_need d =
    if has_only (codes "at branch client do") d then
    option_map (λ at. need at) (path_in (codes "at") d)
    else None

abbrev pub read_undo : Data → Option ActView
read_undo d =
    if has_only (codes "client do rev") d then
    option_map (λ rev. undo rev) (rev_in (codes "rev") d)
    else None

abbrev pub read_upgrade : Data → Option ActView
read_upgrade d =
    if has_only (codes "client do schema") d then
    option_map (λ schema. upgrade schema) (schema_in d)
    else None

-- an act without members of its own, where a value has no members but those of the names
abbrev pub plain_act : List ℕ → ActView → Data → Option ActView
plain_act names a d = if has_only names d then Some a else None

-- two texts have the same bytes
abbrev pub same : List ℕ → List ℕ → Bool
same = pointwise nat_eq

-- the edit of a word
abbrev pub read_edit : List ℕ → Data → Option ActView
read_edit word d =
    if same word (codes "insert") then read_insert d else
    if same word (codes "remove") then read_remove d else
    if same word (codes "move") then read_move d else
    if same word (codes "set") then read_set d else
    if same word (codes "clear") then read_clear d else None

-- the act of a word, which is an edit's where it is no other act's
abbrev pub read_of : List ℕ → Data → Option ActView
read_of word d =
    if same word (codes "join") then read_join d else
    if same word (codes "need") then read_need d else
    if same word (codes "begin") then plain_act (codes "branch client do") begin d else
    if same word (codes "commit") then plain_act (codes "branch client do") commit d else
    if same word (codes "abort") then plain_act (codes "branch client do") abort d else
    if same word (codes "fork") then plain_act (codes "branch client do") fork d else
    if same word (codes "rebase") then plain_act (codes "branch client do") rebase d else
    if same word (codes "merge") then plain_act (codes "branch client do") merge d else
    if same word (codes "drop_branch") then plain_act (codes "branch client do") drop_branch d else
    if same word (codes "undo") then read_undo d else
    if same word (codes "upgrade") then read_upgrade d else
    if same word (codes "sequence") then plain_act (codes "client do") sequence d else
    if same word (codes "ack") then plain_act (codes "client do") ack d else
    if same word (codes "deliver") then plain_act (codes "client do") deliver d else
    if same word (codes "leave") then plain_act (codes "client do") leave d else
    if same word (codes "drop") then plain_act (codes "client do") drop_client d else
    if same word (codes "reconnect") then plain_act (codes "client do") reconnect d else
    if same word (codes "show") then plain_act (codes "branch client do") show d else
    if same word (codes "pending") then plain_act (codes "client do") pending d else read_edit word d

-- the word of a step
abbrev pub step_word : Data → Option (List ℕ)
step_word d = option_and_then as_str (get (codes "do") d)

-- what a value does, by its word
abbrev pub act_of : Data → Option ActView
act_of d = option_and_then (λ word. read_of word d) (step_word d)

-- ## Steps

-- the step that a value is: its branch is 0 where nothing is said
abbrev pub step_of : Data → Option StepView
step_of d =
    option_and_then (λ branch.
    option_and_then (λ client.
    option_map (λ act. record { client = client; branch = branch; act = act })
    (act_of d)) (client_in d)) (number_or 0 (get (codes "branch") d))
