-- The value of a step that a line can hold is read as that step.
use Rattle.std.proofs.Common.{arith, ◌≡◌, ℕ, ◌<◌, ◌≤◌, ◌^◌, nat_lt, nat_le, Bool, true, cond, ◌&&◌, List, [], ◌∷◌, length, Option, Some, None, IfSome, option_and_then, option_map, is_ok, Ok, codes, refl, sym, ap, ◌∙◌}
use Rattle.std.proofs.lemmas.Bool.Decides.{nat_tests}
use Rattle.serde_json.specs.Data.{Data, number, unsigned, string}
use Rattle.serde_json.specs.Find.{get, as_str, as_array}
use Rattle.serde_json.specs.View.{items_of}
use Rattle.st_ids.specs.declared.names.Key.{Key}
use Rattle.st_ids.specs.declared.names.Place.{Place}
use Rattle.st_ids.specs.declared.names.Rev.{Rev}
use Rattle.st_ids.specs.Names.{read_rev, rev_text}
use Rattle.st_ids.proofs.Points.{read_rev-rev_text}
use Rattle.st_json.specs.Look.{has_only}
use Rattle.st_tree.specs.Node.{Node, nodes_of}
use Rattle.st_tree.specs.Size.{check_items}
use Rattle.st_schema.specs.Schema.{SchemaView, is_sound}
use Rattle.st_schema.specs.TreeText.{tree_of, tree_data, trees_data}
use Rattle.st_schema.specs.Written.{schema_data}
use Rattle.st_script.specs.Members.{as_client_name, client_in, as_small, number_in, number_or, at_least_one, one_or_more, count_of, key_within, key_or_empty, as_place, places_in, short_path, path_in, rev_in, trees_in, few, items_in, item_in, sound_schema, schema_in, uuid_in, uuid_or_none}
use Rattle.st_ids.specs.Numeral.{small}
use Rattle.st_script.specs.Steps.{EditView, insert, remove, move, set, clear, ActView, join, edit, need, begin, commit, abort, fork, rebase, merge, drop_branch, undo, upgrade, sequence, ack, deliver, leave, drop_client, reconnect, show, pending, StepView, target_of, site_of, span_of, goal_of, read_insert, read_remove, read_move, read_set, read_clear, read_join, read_need, read_undo, read_upgrade, act_of, step_of}
use Rattle.st_script.specs.StepText.{places_data, path_data, items_data, plain_data, join_data, undo_data, upgrade_data, edit_data, act_data, step_data, IsName, IsActor, IsRev, IsUuid, ArePlaces, IsPath, IsTarget, IsSpan, AreShown, AreItems, FitsEdit, FitsAct, FitsLine}
use Rattle.st_script.specs.declared.read.Goal.{Goal}
use Rattle.st_script.specs.declared.read.Span.{Span}
use Rattle.st_script.specs.declared.read.Target.{Target}
use Rattle.st_idcodec.specs.TableText.{uuid_text}
use Rattle.st_idcodec.proofs.TextsOfUuids.{read_back}
use Rattle.st_script.proofs.Schemas.{schema_seen}

-- ---- options

option_and_then-of_some : {A B : Type 0} (f : A → Option B) (o : Option A) (x : A) (y : Option B) → o ≡ Some x → f x ≡ y → option_and_then f o ≡ y
option_and_then-of_some f o x y e g = ap (option_and_then f) e ∙ g

passed : {A : Type 0} (b : Bool) (o : Option A) (y : Option A) → b ≡ true → o ≡ y → cond b o None ≡ y
passed b o y e g = ap (λ (c : Bool). cond c o None) e ∙ g

-- ---- members

name_kept : (t : List ℕ) → IsName t → as_client_name t ≡ Some t
name_kept t h =
    let some : nat_le 1 (length t) ≡ true = grind (arith, nat_tests, h.0) in
    let few : nat_le (length t) 64 ≡ true = grind (arith, nat_tests, h.1) in
    (λ i. cond (some i && few i) (Some t) None)

client_kept : (d : Data) (t : List ℕ) → get (codes "client") d ≡ Some (string t) → IsName t → client_in d ≡ Some t
client_kept d t there h = ap (λ (o : Option Data). option_and_then as_client_name (option_and_then as_str o)) there ∙ name_kept t h

small_kept : (n : ℕ) → n < 2 ^ 32 → small n ≡ Some n
small_kept n h = let low : nat_lt n (2 ^ 32) ≡ true = grind (arith, nat_tests) in ap (λ (b : Bool). cond b (Some n) None) low

number_kept : (name : List ℕ) (d : Data) (n : ℕ) → get name d ≡ Some (number (unsigned n)) → n < 2 ^ 32 → number_in name d ≡ Some n
number_kept name d n there h = ap (option_and_then as_small) there ∙ small_kept n h

number_or_kept : (m : ℕ) (o : Option Data) (n : ℕ) → o ≡ Some (number (unsigned n)) → n < 2 ^ 32 → number_or m o ≡ Some n
number_or_kept m o n there h = ap (number_or m) there ∙ small_kept n h

count_kept : (d : Data) (n : ℕ) → get (codes "count") d ≡ Some (number (unsigned n)) → 1 ≤ n → n < 2 ^ 32 → count_of d ≡ Some n
count_kept d n there some h =
    let one : nat_le 1 n ≡ true = grind (arith, nat_tests) in
    ap one_or_more there ∙ ap (option_and_then at_least_one) (small_kept n h) ∙ ap (λ (b : Bool). cond b (Some n) None) one

key_kept : (k : Key) → length k.0 ≤ 64 → key_within k.0 ≡ Some k
key_kept k h = let short : nat_le (length k.0) 64 ≡ true = grind (arith, nat_tests) in ap (λ (b : Bool). cond b (Some k) None) short

key_or_kept : (o : Option Data) (k : Key) → o ≡ Some (string k.0) → length k.0 ≤ 64 → key_or_empty o ≡ Some k
key_or_kept o k there h = ap key_or_empty there ∙ key_kept k h

place_kept : (p : Place) → length p.key.0 ≤ 64 → p.index < 2 ^ 32 → as_place (string p.key.0) (number (unsigned p.index)) ≡ Some p
place_kept p short low =
    let f : ℕ → Key → Place = λ index key. record { key = key; index = index } in
    option_and_then-of_some (λ index. option_map (f index) (key_within p.key.0)) (small p.index) p.index (Some p) (small_kept p.index low) (ap (option_map (f p.index)) (key_kept p.key short))

places_kept : (ps : List Place) → ArePlaces ps → places_in (items_of (places_data ps)) ≡ Some ps
places_kept [] h = refl
places_kept (p ∷ ps) h =
    option_and_then-of_some (λ (q : Place). option_map (λ (qs : List Place). q ∷ qs) (places_in (items_of (places_data ps)))) (as_place (string p.key.0) (number (unsigned p.index))) p (Some (p ∷ ps))
    (place_kept p h.0 h.1) (ap (option_map (λ (qs : List Place). p ∷ qs)) (places_kept ps h.2))

path_kept : (name : List ℕ) (d : Data) (ps : List Place) → get name d ≡ Some (path_data ps) → IsPath ps → path_in name d ≡ Some ps
path_kept name d ps there h =
    let short : nat_lt (length ps) (2 ^ 32) ≡ true = grind (arith, nat_tests, h.0) in
    ap (λ (o : Option Data). option_and_then short_path (option_and_then places_in (option_and_then as_array o))) there
    ∙ ap (option_and_then short_path) (places_kept ps h.1)
    ∙ ap (λ (b : Bool). cond b (Some ps) None) short

rev_kept : (name : List ℕ) (d : Data) (rev : Rev) → get name d ≡ Some (string (rev_text rev)) → IsRev rev → rev_in name d ≡ Some rev
rev_kept name d rev there h = ap (λ (o : Option Data). option_and_then read_rev (option_and_then as_str o)) there ∙ read_rev-rev_text rev h.0 h.1

schema_kept : (d : Data) (s : SchemaView) → get (codes "schema") d ≡ Some (schema_data s) → is_sound s ≡ true → schema_in d ≡ Some s
schema_kept d s there sound = ap (option_and_then sound_schema) there ∙ sym (schema_seen (schema_data s) s refl sound)

target_kept : (path key : List ℕ) (d : Data) (at : List Place) (k : Key) → get path d ≡ Some (path_data at) → get key d ≡ Some (string k.0) → IsTarget at k → target_of path key d ≡ Some (record { at = at; key = k })
target_kept path key d at k path_there key_there h =
    let f : List Place → Key → Target = λ at k. record { at = at; key = k } in
    option_and_then-of_some (λ at. option_map (f at) (key_or_empty (get key d))) (path_in path d) at (Some (f at k)) (path_kept path d at path_there h.0) (ap (option_map (f at)) (key_or_kept (get key d) k key_there h.1))

span_kept : (d : Data) (index count : ℕ) → get (codes "index") d ≡ Some (number (unsigned index)) → get (codes "count") d ≡ Some (number (unsigned count)) → IsSpan index count
    → span_of d ≡ Some (record { index = index; count = count })
span_kept d index count index_there count_there h =
    let f : ℕ → ℕ → Span = λ index count. record { index = index; count = count } in
    option_and_then-of_some (λ index. option_map (f index) (count_of d)) (number_in (codes "index") d) index (Some (f index count))
    (number_kept (codes "index") d index index_there h.0) (ap (option_map (f index)) (count_kept d count count_there h.1 h.2))

goal_kept : (d : Data) (t : Target) (index : ℕ) → get (codes "to_index") d ≡ Some (number (unsigned index)) → target_of (codes "to") (codes "to_key") d ≡ Some t → index < 2 ^ 32
    → goal_of d ≡ Some (record { to = t.at; to_key = t.key; to_index = index })
goal_kept d t index there target h =
    let f : ℕ → Target → Goal = λ index target. record { to = target.at; to_key = target.key; to_index = index } in
    option_and_then-of_some (λ index. option_map (f index) (target_of (codes "to") (codes "to_key") d)) (number_or 0 (get (codes "to_index") d)) index (Some (f index t))
    (number_or_kept 0 (get (codes "to_index") d) index there h) (ap (option_map (f index)) target)

shown_kept : (ts : List Node) → AreShown ts → trees_in (trees_data (nodes_of ts)) ≡ Some ts
shown_kept [] h = refl
shown_kept (t ∷ ts) h =
    option_and_then-of_some (λ (u : Node). option_map (λ (us : List Node). u ∷ us) (trees_in (trees_data (nodes_of ts)))) (tree_of (tree_data t)) t (Some (t ∷ ts)) h.0 (ap (option_map (λ (us : List Node). t ∷ us)) (shown_kept ts h.1))

few_kept : (ts : List Node) → 1 ≤ length ts → check_items (nodes_of ts) ≡ Ok tt → few ts ≡ Some ts
few_kept ts some within =
    let one : nat_le 1 (length ts) ≡ true = grind (arith, nat_tests) in
    (λ i. cond (one i && is_ok (within i)) (Some ts) None)

items_kept : (d : Data) (ts : List Node) → get (codes "items") d ≡ Some (items_data ts) → AreItems ts → items_in d ≡ Some ts
items_kept d ts there h =
    ap (λ (o : Option Data). option_and_then (λ ds. option_and_then few (trees_in ds)) (option_and_then as_array o)) there
    ∙ ap (option_and_then few) (shown_kept ts h.2)
    ∙ few_kept ts h.0 h.1

-- ---- acts of a value whose members are read so

insert_read : (d : Data) (t : Target) (index : ℕ) (items : List Node) → has_only (codes "at branch client do index items key") d ≡ true → site_of d ≡ Some t
    → number_in (codes "index") d ≡ Some index → items_in d ≡ Some items → read_insert d ≡ Some (edit (insert t.at t.key index items))
insert_read d t index items only site index_there items_there =
    let f : Target → ℕ → List Node → ActView = λ t index items. edit (insert t.at t.key index items) in
    passed (has_only (codes "at branch client do index items key") d) (option_and_then (λ t. option_and_then (λ index. option_map (f t index) (items_in d)) (number_in (codes "index") d)) (site_of d)) (Some (f t index items)) only
    (option_and_then-of_some (λ t. option_and_then (λ index. option_map (f t index) (items_in d)) (number_in (codes "index") d)) (site_of d) t (Some (f t index items)) site
    (option_and_then-of_some (λ index. option_map (f t index) (items_in d)) (number_in (codes "index") d) index (Some (f t index items)) index_there
    (ap (option_map (f t index)) items_there)))

remove_read : (d : Data) (t : Target) (span : Span) → has_only (codes "at branch client count do index key") d ≡ true → site_of d ≡ Some t → span_of d ≡ Some span
    → read_remove d ≡ Some (edit (remove t.at t.key span.index span.count))
remove_read d t span only site span_there =
    let f : Target → Span → ActView = λ t span. edit (remove t.at t.key span.index span.count) in
    passed (has_only (codes "at branch client count do index key") d) (option_and_then (λ t. option_map (f t) (span_of d)) (site_of d)) (Some (f t span)) only
    (option_and_then-of_some (λ t. option_map (f t) (span_of d)) (site_of d) t (Some (f t span)) site (ap (option_map (f t)) span_there))

move_read : (d : Data) (t : Target) (span : Span) (goal : Goal) → has_only (codes "at branch client count do index key to to_index to_key") d ≡ true → site_of d ≡ Some t
    → span_of d ≡ Some span → goal_of d ≡ Some goal → read_move d ≡ Some (edit (move t.at t.key span.index span.count goal.to goal.to_key goal.to_index))
move_read d t span goal only site span_there goal_there =
    let f : Target → Span → Goal → ActView = λ t span goal. edit (move t.at t.key span.index span.count goal.to goal.to_key goal.to_index) in
    passed (has_only (codes "at branch client count do index key to to_index to_key") d) (option_and_then (λ t. option_and_then (λ span. option_map (f t span) (goal_of d)) (span_of d)) (site_of d)) (Some (f t span goal)) only
    (option_and_then-of_some (λ t. option_and_then (λ span. option_map (f t span) (goal_of d)) (span_of d)) (site_of d) t (Some (f t span goal)) site
    (option_and_then-of_some (λ span. option_map (f t span) (goal_of d)) (span_of d) span (Some (f t span goal)) span_there
    (ap (option_map (f t span)) goal_there)))

set_read : (d : Data) (t : Target) (item : Node) → has_only (codes "at branch client do item key") d ≡ true → site_of d ≡ Some t → item_in d ≡ Some item
    → read_set d ≡ Some (edit (set t.at t.key item))
set_read d t item only site item_there =
    let f : Target → Node → ActView = λ t item. edit (set t.at t.key item) in
    passed (has_only (codes "at branch client do item key") d) (option_and_then (λ t. option_map (f t) (item_in d)) (site_of d)) (Some (f t item)) only
    (option_and_then-of_some (λ t. option_map (f t) (item_in d)) (site_of d) t (Some (f t item)) site (ap (option_map (f t)) item_there))

clear_read : (d : Data) (t : Target) → has_only (codes "at branch client do key") d ≡ true → site_of d ≡ Some t → read_clear d ≡ Some (edit (clear t.at t.key))
clear_read d t only site =
    let f : Target → ActView = λ t. edit (clear t.at t.key) in
    passed (has_only (codes "at branch client do key") d) (option_map f (site_of d)) (Some (f t)) only (ap (option_map f) site)

need_read : (d : Data) (at : List Place) → has_only (codes "at branch client do") d ≡ true → path_in (codes "at") d ≡ Some at → read_need d ≡ Some (need at)
need_read d at only there =
    let f : List Place → ActView = λ at. need at in
    passed (has_only (codes "at branch client do") d) (option_map f (path_in (codes "at") d)) (Some (f at)) only (ap (option_map f) there)

uuid_none : (d : Data) → get (codes "uuid") d ≡ None → uuid_in d ≡ Some None
uuid_none d none = ap uuid_or_none none

uuid_kept : (d : Data) (u : ℕ) → get (codes "uuid") d ≡ Some (string (uuid_text u)) → IsUuid u → uuid_in d ≡ Some (Some u)
uuid_kept d u there h = ap uuid_or_none there ∙ ap (option_map (λ (n : ℕ). Some n)) (read_back u h.0 h.1)

join_read : (d : Data) (uuid : Option ℕ) → has_only (codes "client do uuid") d ≡ true → uuid_in d ≡ Some uuid → read_join d ≡ Some (join uuid)
join_read d uuid only there =
    let f : Option ℕ → ActView = λ uuid. join uuid in
    passed (has_only (codes "client do uuid") d) (option_map f (uuid_in d)) (Some (f uuid)) only (ap (option_map f) there)

undo_read : (d : Data) (rev : Rev) → has_only (codes "client do rev") d ≡ true → rev_in (codes "rev") d ≡ Some rev → read_undo d ≡ Some (undo rev)
undo_read d rev only there =
    let f : Rev → ActView = λ rev. undo rev in
    passed (has_only (codes "client do rev") d) (option_map f (rev_in (codes "rev") d)) (Some (f rev)) only (ap (option_map f) there)

upgrade_read : (d : Data) (s : SchemaView) → has_only (codes "client do schema") d ≡ true → schema_in d ≡ Some s → read_upgrade d ≡ Some (upgrade s)
upgrade_read d s only there =
    let f : SchemaView → ActView = λ schema. upgrade schema in
    passed (has_only (codes "client do schema") d) (option_map f (schema_in d)) (Some (f s)) only (ap (option_map f) there)

-- ---- each step

step_kept : (d : Data) (client : List ℕ) (branch : ℕ) (a : ActView) → number_or 0 (get (codes "branch") d) ≡ Some branch
    → client_in d ≡ Some client → act_of d ≡ Some a → step_of d ≡ Some (record { client = client; branch = branch; act = a })
step_kept d client branch a branch_there client_there act_there =
    let f : ℕ → List ℕ → ActView → StepView = λ b c act. record { client = c; branch = b; act = act } in
    let of_client = λ (b : ℕ) (c : List ℕ). option_map (f b c) (act_of d) in
    option_and_then-of_some (λ b. option_and_then (of_client b) (client_in d)) (number_or 0 (get (codes "branch") d)) branch (Some (f branch client a)) branch_there
    (option_and_then-of_some (of_client branch) (client_in d) client (Some (f branch client a)) client_there (ap (option_map (f branch client)) act_there))

-- a value with a member for the branch
branch_kept : (d : Data) (client : List ℕ) (branch : ℕ) (a : ActView) → get (codes "client") d ≡ Some (string client)
    → get (codes "branch") d ≡ Some (number (unsigned branch)) → IsActor client branch → act_of d ≡ Some a
    → step_of d ≡ Some (record { client = client; branch = branch; act = a })
branch_kept d client branch a client_there branch_there h act_there =
    step_kept d client branch a (number_or_kept 0 (get (codes "branch") d) branch branch_there h.1) (client_kept d client client_there h.0) act_there

-- a value without one
main_kept : (d : Data) (client : List ℕ) (branch : ℕ) (a : ActView) → get (codes "client") d ≡ Some (string client)
    → get (codes "branch") d ≡ None → IsName client → branch ≡ 0 → act_of d ≡ Some a
    → step_of d ≡ Some (record { client = client; branch = branch; act = a })
main_kept d client branch a client_there none h zero act_there =
    step_kept d client branch a (ap (number_or 0) none ∙ ap Some (sym zero)) (client_kept d client client_there h) act_there

edit_again : (client : List ℕ) (branch : ℕ) (e : EditView) → IsActor client branch → FitsEdit e
    → step_of (edit_data client branch e) ≡ Some (record { client = client; branch = branch; act = edit e })
edit_again client branch (insert at key index items) by h =
    let d = edit_data client branch (insert at key index items) in
    branch_kept d client branch (edit (insert at key index items)) refl refl by
    (insert_read d (record { at = at; key = key }) index items refl (target_kept (codes "at") (codes "key") d at key refl refl h.0)
    (number_kept (codes "index") d index refl h.1) (items_kept d items refl h.2))
edit_again client branch (remove at key index count) by h =
    let d = edit_data client branch (remove at key index count) in
    branch_kept d client branch (edit (remove at key index count)) refl refl by
    (remove_read d (record { at = at; key = key }) (record { index = index; count = count }) refl
    (target_kept (codes "at") (codes "key") d at key refl refl h.0) (span_kept d index count refl refl h.1))
edit_again client branch (move at key index count to to_key to_index) by h =
    let d = edit_data client branch (move at key index count to to_key to_index) in
    let aim = goal_kept d (record { at = to; key = to_key }) to_index refl (target_kept (codes "to") (codes "to_key") d to to_key refl refl h.2) h.3 in
    branch_kept d client branch (edit (move at key index count to to_key to_index)) refl refl by
    (move_read d (record { at = at; key = key }) (record { index = index; count = count }) (record { to = to; to_key = to_key; to_index = to_index }) refl
    (target_kept (codes "at") (codes "key") d at key refl refl h.0) (span_kept d index count refl refl h.1) aim)
edit_again client branch (set at key item) by h =
    let d = edit_data client branch (set at key item) in
    branch_kept d client branch (edit (set at key item)) refl refl by
    (set_read d (record { at = at; key = key }) item refl (target_kept (codes "at") (codes "key") d at key refl refl h.0) h.1)
edit_again client branch (clear at key) by h =
    let d = edit_data client branch (clear at key) in
    branch_kept d client branch (edit (clear at key)) refl refl by
    (clear_read d (record { at = at; key = key }) refl (target_kept (codes "at") (codes "key") d at key refl refl h))

-- an act that names no branch
plain_again : (word client : List ℕ) (branch : ℕ) (a : ActView) → IsName client → branch ≡ 0 → act_of (plain_data word client) ≡ Some a
    → step_of (plain_data word client) ≡ Some (record { client = client; branch = branch; act = a })
plain_again word client branch a name zero is = main_kept (plain_data word client) client branch a refl refl name zero is

join_again : (client : List ℕ) (branch : ℕ) (uuid : Option ℕ) → IsName client → branch ≡ 0 → IfSome uuid IsUuid
    → step_of (join_data client uuid) ≡ Some (record { client = client; branch = branch; act = join uuid })
join_again client branch None name zero h =
    let d = join_data client None in
    main_kept d client branch (join None) refl refl name zero (join_read d None refl (uuid_none d refl))
join_again client branch (Some u) name zero h =
    let d = join_data client (Some u) in
    main_kept d client branch (join (Some u)) refl refl name zero (join_read d (Some u) refl (uuid_kept d u refl h))

act_again : (client : List ℕ) (branch : ℕ) (a : ActView) → IsActor client branch → FitsAct branch a
    → step_of (act_data client branch a) ≡ Some (record { client = client; branch = branch; act = a })
act_again client branch (join uuid) by h = join_again client branch uuid by.0 h.0 h.1
act_again client branch (edit e) by h = edit_again client branch e by h
act_again client branch (need at) by h =
    let d = act_data client branch (need at) in
    branch_kept d client branch (need at) refl refl by (need_read d at refl (path_kept (codes "at") d at refl h))
act_again client branch begin by h = branch_kept (act_data client branch begin) client branch begin refl refl by refl
act_again client branch commit by h = branch_kept (act_data client branch commit) client branch commit refl refl by refl
act_again client branch abort by h = branch_kept (act_data client branch abort) client branch abort refl refl by refl
act_again client branch fork by h = branch_kept (act_data client branch fork) client branch fork refl refl by refl
act_again client branch rebase by h = branch_kept (act_data client branch rebase) client branch rebase refl refl by refl
act_again client branch merge by h = branch_kept (act_data client branch merge) client branch merge refl refl by refl
act_again client branch drop_branch by h = branch_kept (act_data client branch drop_branch) client branch drop_branch refl refl by refl
act_again client branch (undo rev) by h =
    let d = undo_data client rev in
    main_kept d client branch (undo rev) refl refl by.0 h.0 (undo_read d rev refl (rev_kept (codes "rev") d rev refl h.1))
act_again client branch (upgrade schema) by h =
    let d = upgrade_data client schema in
    main_kept d client branch (upgrade schema) refl refl by.0 h.0 (upgrade_read d schema refl (schema_kept d schema refl h.1))
act_again client branch sequence by h = plain_again (codes "sequence") client branch sequence by.0 h refl
act_again client branch ack by h = plain_again (codes "ack") client branch ack by.0 h refl
act_again client branch deliver by h = plain_again (codes "deliver") client branch deliver by.0 h refl
act_again client branch leave by h = plain_again (codes "leave") client branch leave by.0 h refl
act_again client branch drop_client by h = plain_again (codes "drop") client branch drop_client by.0 h refl
act_again client branch reconnect by h = plain_again (codes "reconnect") client branch reconnect by.0 h refl
act_again client branch show by h = branch_kept (act_data client branch show) client branch show refl refl by refl
act_again client branch pending by h = plain_again (codes "pending") client branch pending by.0 h refl

pub read_again : (s : StepView) → FitsLine s → step_of (step_data s) ≡ Some s
read_again s h = act_again s.client s.branch s.act h.0 h.1
