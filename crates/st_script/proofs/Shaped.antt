-- The trees of the steps that lines are read as have the shape of trees that values show.
use Rattle.std.proofs.Common.{◌≡◌, ℕ, ◌==◌, nat_le, Bool, true, false, cond, ◌&&◌, List, ◌∷◌, length, Option, Some, None, option_and_then, option_map, is_ok, Ordering, Less, Equal, Greater, Ok, codes, refl, subst}
use Rattle.std.specs.Ordering.{nat_cmp, match_ordering}
use Rattle.std.specs.Option.{ok_or}
use Rattle.std.specs.Str.Lossy.{utf8_valid_len}
use Rattle.std.specs.Cmp.Lexicographic.{slice_cmp}
use Rattle.serde_json.specs.Data.{Data, null, boolean, number, string, array, object, Items, no_items, item, Members, no_members, member}
use Rattle.serde_json.specs.Find.{get, get_member, as_array}
use Rattle.serde_json.specs.Read.{read}
use Rattle.st_ids.specs.declared.names.Place.{Place}
use Rattle.st_ids.specs.declared.names.Rev.{Rev}
use Rattle.st_json.specs.Line.{line_value}
use Rattle.st_json.specs.Look.{has_only}
use Rattle.st_json.specs.Order.{NamesRise, ItemsRise, MembersRise}
use Rattle.st_json.specs.declared.fault.BadCause.{BadCause}
use Rattle.st_json.proofs.Rising.{read_rises, Holds-map, Holds-and_then, Holds}
use Rattle.st_tree.specs.Node.{Node, nodes_of}
use Rattle.st_tree.specs.Size.{check_items}
use Rattle.st_schema.specs.Schema.{SchemaView}
use Rattle.st_schema.specs.Shape.{has_shape, all_have_shape}
use Rattle.st_schema.specs.TreeText.{tree_of}
use Rattle.st_schema.proofs.Holds.{Holds-cond}
use Rattle.st_schema.proofs.Shaped.{IsShaped, shown_shaped}
use Rattle.st_script.specs.Line.{step_of_line, step_of_value}
use Rattle.st_script.specs.Members.{client_in, number_in, number_or, path_in, rev_in, trees_in, few, items_in, item_in, schema_in, uuid_in}
use Rattle.st_script.specs.Steps.{insert, remove, move, set, clear, ActView, join, edit, need, begin, commit, abort, fork, rebase, merge, drop_branch, undo, upgrade, sequence, ack, deliver, leave, drop_client, reconnect, show, pending, StepView, same, site_of, span_of, goal_of, read_insert, read_remove, read_move, read_set, read_clear, read_join, read_need, read_undo, read_upgrade, read_edit, read_of, step_word, act_of, step_of}
use Rattle.st_script.specs.StepText.{act_has_shape, trees_have_shape}
use Rattle.st_script.specs.declared.read.Goal.{Goal}
use Rattle.st_script.specs.declared.read.Span.{Span}
use Rattle.st_script.specs.declared.read.Target.{Target}
use Rattle.st_lemmas.proofs.Bools.{and-both}

-- ---- members and items of a value whose names rise

get_at_rises : (o : Ordering) (d : Data) (rest : Option Data) → NamesRise d → Holds NamesRise rest → Holds NamesRise (match_ordering o rest (Some d) rest)
get_at_rises Less d rest p q = q
get_at_rises Equal d rest p q = p
get_at_rises Greater d rest p q = q

member_rises : (k : List ℕ) (ms : Members) → MembersRise ms → Holds NamesRise (get_member k ms)
member_rises k no_members p = tt
member_rises k (member l e ms) p = get_at_rises (slice_cmp nat_cmp k l) e (get_member k ms) p.1 (member_rises k ms p.2)

get_rises : (k : List ℕ) (d : Data) → NamesRise d → Holds NamesRise (get k d)
get_rises k null p = tt
get_rises k (boolean b) p = tt
get_rises k (number n) p = tt
get_rises k (string s) p = tt
get_rises k (array ds) p = tt
get_rises k (object ms) p = member_rises k ms p

array_rises : (d : Data) → NamesRise d → Holds ItemsRise (as_array d)
array_rises null p = tt
array_rises (boolean b) p = tt
array_rises (number n) p = tt
array_rises (string s) p = tt
array_rises (array ds) p = p
array_rises (object ms) p = tt

line_rises : (bytes : List ℕ) → Holds NamesRise (line_value bytes)
line_rises bytes = Holds-cond NamesRise (utf8_valid_len bytes == length bytes) (read bytes) None (λ _. text_rises (read bytes) refl) tt
  where
    text_rises : (o : Option Data) → read bytes ≡ o → Holds NamesRise o
    text_rises None is = tt
    text_rises (Some d) is = read_rises bytes d is

-- ---- trees

abbrev AreShaped : List Node → Type 0
AreShaped ts = all_have_shape (nodes_of ts) ≡ true

trees_shaped : (ds : Items) → ItemsRise ds → Holds AreShaped (trees_in ds)
trees_shaped no_items p = refl
trees_shaped (item d ds) p =
    Holds-and_then IsShaped AreShaped (λ (t : Node). option_map (λ (ts : List Node). t ∷ ts) (trees_in ds))
    (λ t h. Holds-map AreShaped AreShaped (λ (ts : List Node). t ∷ ts) (λ ts hs. and-both (has_shape t) (all_have_shape (nodes_of ts)) h hs) (trees_in ds) (trees_shaped ds p.1)) (tree_of d) (shown_shaped d p.0)

few_shaped : (ts : List Node) → AreShaped ts → Holds AreShaped (few ts)
few_shaped ts h = Holds-cond AreShaped (nat_le 1 (length ts) && is_ok (check_items (nodes_of ts))) (Some ts) None (λ _. h) tt

items_shaped : (d : Data) → NamesRise d → Holds AreShaped (items_in d)
items_shaped d p =
    Holds-and_then ItemsRise AreShaped (λ ds. option_and_then few (trees_in ds)) (λ ds s. Holds-and_then AreShaped AreShaped few few_shaped (trees_in ds) (trees_shaped ds s)) (option_and_then as_array (get (codes "items") d))
    (Holds-and_then NamesRise ItemsRise as_array array_rises (get (codes "items") d) (get_rises (codes "items") d p))

item_shaped : (d : Data) → NamesRise d → Holds IsShaped (item_in d)
item_shaped d p = Holds-and_then NamesRise IsShaped tree_of shown_shaped (get (codes "item") d) (get_rises (codes "item") d p)

-- ---- acts

abbrev IsAct : ActView → Type 0
IsAct a = act_has_shape a ≡ true

abbrev Shaped : Option ActView → Type 0
Shaped o = Holds IsAct o

-- where a value has only these members
only : (names : List ℕ) (d : Data) (o : Option ActView) → Shaped o → Shaped (cond (has_only names d) o None)
only names d o h = Holds-cond IsAct (has_only names d) o None (λ _. h) tt

-- whatever the values are that something is made of
made : {A B : Type 0} (P : B → Type 0) (f : A → B) → ((a : A) → P (f a)) → (o : Option A) → Holds P (option_map f o)
made P f each None = tt
made P f each (Some a) = each a

bound : {A B : Type 0} (P : B → Type 0) (f : A → Option B) → ((a : A) → Holds P (f a)) → (o : Option A) → Holds P (option_and_then f o)
bound P f each None = tt
bound P f each (Some a) = each a

abbrev inserted : Target → ℕ → List Node → ActView
inserted t index items = edit (insert t.at t.key index items)

insert_shaped : (d : Data) → NamesRise d → Shaped (read_insert d)
insert_shaped d rise =
    only (codes "at branch client do index items key") d (option_and_then (λ t. option_and_then (λ index. option_map (inserted t index) (items_in d)) (number_in (codes "index") d)) (site_of d))
    (bound IsAct (λ t. option_and_then (λ index. option_map (inserted t index) (items_in d)) (number_in (codes "index") d))
    (λ t. bound IsAct (λ index. option_map (inserted t index) (items_in d)) (λ n. Holds-map AreShaped IsAct (inserted t n) (λ ts h. h) (items_in d) (items_shaped d rise)) (number_in (codes "index") d)) (site_of d))

abbrev removed : Target → Span → ActView
removed t span = edit (remove t.at t.key span.index span.count)

remove_shaped : (d : Data) → Shaped (read_remove d)
remove_shaped d =
    only (codes "at branch client count do index key") d (option_and_then (λ t. option_map (removed t) (span_of d)) (site_of d))
    (bound IsAct (λ t. option_map (removed t) (span_of d)) (λ t. made IsAct (removed t) (λ span. refl) (span_of d)) (site_of d))

abbrev moved : Target → Span → Goal → ActView
moved t span goal = edit (move t.at t.key span.index span.count goal.to goal.to_key goal.to_index)

move_shaped : (d : Data) → Shaped (read_move d)
move_shaped d =
    only (codes "at branch client count do index key to to_index to_key") d (option_and_then (λ t. option_and_then (λ span. option_map (moved t span) (goal_of d)) (span_of d)) (site_of d))
    (bound IsAct (λ t. option_and_then (λ span. option_map (moved t span) (goal_of d)) (span_of d))
    (λ t. bound IsAct (λ span. option_map (moved t span) (goal_of d)) (λ span. made IsAct (moved t span) (λ goal. refl) (goal_of d)) (span_of d)) (site_of d))

abbrev put_there : Target → Node → ActView
put_there t tree = edit (set t.at t.key tree)

set_shaped : (d : Data) → NamesRise d → Shaped (read_set d)
set_shaped d rise =
    only (codes "at branch client do item key") d (option_and_then (λ t. option_map (put_there t) (item_in d)) (site_of d))
    (bound IsAct (λ t. option_map (put_there t) (item_in d)) (λ t. Holds-map IsShaped IsAct (put_there t) (λ u h. h) (item_in d) (item_shaped d rise)) (site_of d))

abbrev cleared : Target → ActView
cleared t = edit (clear t.at t.key)

clear_shaped : (d : Data) → Shaped (read_clear d)
clear_shaped d = only (codes "at branch client do key") d (option_map cleared (site_of d)) (made IsAct cleared (λ t. refl) (site_of d))

abbrev needed : List Place → ActView
needed at = need at

need_shaped : (d : Data) → Shaped (read_need d)
need_shaped d = only (codes "at branch client do") d (option_map needed (path_in (codes "at") d)) (made IsAct needed (λ at. refl) (path_in (codes "at") d))

abbrev joined : Option ℕ → ActView
joined uuid = join uuid

join_shaped : (d : Data) → Shaped (read_join d)
join_shaped d = only (codes "client do uuid") d (option_map joined (uuid_in d)) (made IsAct joined (λ uuid. refl) (uuid_in d))

abbrev undone : Rev → ActView
undone rev = undo rev

undo_shaped : (d : Data) → Shaped (read_undo d)
undo_shaped d = only (codes "client do rev") d (option_map undone (rev_in (codes "rev") d)) (made IsAct undone (λ rev. refl) (rev_in (codes "rev") d))

abbrev upgraded : SchemaView → ActView
upgraded schema = upgrade schema

upgrade_shaped : (d : Data) → Shaped (read_upgrade d)
upgrade_shaped d = only (codes "client do schema") d (option_map upgraded (schema_in d)) (made IsAct upgraded (λ schema. refl) (schema_in d))

-- one of two, each of which has the shape
either : (b : Bool) (o p : Option ActView) → Shaped o → Shaped p → Shaped (cond b o p)
either true o p l r = l
either false o p l r = r

edit_word_shaped : (word : List ℕ) (d : Data) → NamesRise d → Shaped (read_edit word d)
edit_word_shaped word d rise =
    either (same word (codes "insert")) _ _ (insert_shaped d rise)
    (either (same word (codes "remove")) _ _ (remove_shaped d)
    (either (same word (codes "move")) _ _ (move_shaped d)
    (either (same word (codes "set")) _ _ (set_shaped d rise)
    (either (same word (codes "clear")) _ _ (clear_shaped d) tt))))

word_shaped : (word : List ℕ) (d : Data) → NamesRise d → Shaped (read_of word d)
word_shaped word d rise =
    either (same word (codes "join")) _ _ (join_shaped d)
    (either (same word (codes "need")) _ _ (need_shaped d)
    (either (same word (codes "begin")) _ _ (only (codes "branch client do") d (Some begin) refl)
    (either (same word (codes "commit")) _ _ (only (codes "branch client do") d (Some commit) refl)
    (either (same word (codes "abort")) _ _ (only (codes "branch client do") d (Some abort) refl)
    (either (same word (codes "fork")) _ _ (only (codes "branch client do") d (Some fork) refl)
    (either (same word (codes "rebase")) _ _ (only (codes "branch client do") d (Some rebase) refl)
    (either (same word (codes "merge")) _ _ (only (codes "branch client do") d (Some merge) refl)
    (either (same word (codes "drop_branch")) _ _ (only (codes "branch client do") d (Some drop_branch) refl)
    (either (same word (codes "undo")) _ _ (undo_shaped d)
    (either (same word (codes "upgrade")) _ _ (upgrade_shaped d)
    (either (same word (codes "sequence")) _ _ (only (codes "client do") d (Some sequence) refl)
    (either (same word (codes "ack")) _ _ (only (codes "client do") d (Some ack) refl)
    (either (same word (codes "deliver")) _ _ (only (codes "client do") d (Some deliver) refl)
    (either (same word (codes "leave")) _ _ (only (codes "client do") d (Some leave) refl)
    (either (same word (codes "drop")) _ _ (only (codes "client do") d (Some drop_client) refl)
    (either (same word (codes "reconnect")) _ _ (only (codes "client do") d (Some reconnect) refl)
    (either (same word (codes "show")) _ _ (only (codes "branch client do") d (Some show) refl)
    (either (same word (codes "pending")) _ _ (only (codes "client do") d (Some pending) refl) (edit_word_shaped word d rise)))))))))))))))))))

act_shaped : (d : Data) → NamesRise d → Shaped (act_of d)
act_shaped d rise = bound IsAct (λ word. read_of word d) (λ word. word_shaped word d rise) (step_word d)

-- ---- steps

abbrev IsStep : StepView → Type 0
IsStep s = trees_have_shape s ≡ true

value_step_shaped : (d : Data) → NamesRise d → Holds IsStep (step_of d)
value_step_shaped d rise =
    let step : ℕ → List ℕ → ActView → StepView = λ b c a. record { client = c; branch = b; act = a } in
    bound IsStep (λ b. option_and_then (λ c. option_map (step b c) (act_of d)) (client_in d))
    (λ b. bound IsStep (λ c. option_map (step b c) (act_of d)) (λ c. Holds-map IsAct IsStep (step b c) (λ a h. h) (act_of d) (act_shaped d rise)) (client_in d)) (number_or 0 (get (codes "branch") d))

-- the step of a line
pub line_shaped : (bytes : List ℕ) (s : StepView) → step_of_line bytes ≡ Ok s → trees_have_shape s ≡ true
line_shaped bytes s e = go (line_value bytes) (line_rises bytes) e
  where
    step : (o : Option StepView) → Holds IsStep o → ok_or o BadCause.Shape ≡ Ok s → trees_have_shape s ≡ true
    step None h f = absurd cc
    step (Some x) h f = let same_step : x ≡ s = cc in subst IsStep same_step h

    go : (o : Option Data) → Holds NamesRise o → step_of_value o ≡ Ok s → trees_have_shape s ≡ true
    go None h e = absurd cc
    go (Some d) h e = step (step_of d) (value_step_shaped d h) e
