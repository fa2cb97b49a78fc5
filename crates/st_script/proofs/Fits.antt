-- The steps that lines are read as are steps that a line can hold.
use Rattle.std.proofs.Common.{arith, ◌≡◌, ℕ, ◌<◌, ◌≤◌, ◌^◌, nat_lt, nat_le, Bool, true, false, cond, ◌&&◌, ◌==◌, List, ◌∷◌, length, Option, Some, None, IfSome, option_and_then, option_map, is_ok, Result, Ok, Err, codes, refl, sym, ap, ◌∙◌, subst}
use Rattle.std.proofs.lemmas.Bool.Decides.{nat_tests}
use Rattle.std.specs.Prelude.{⊤}
use Rattle.std.specs.List.{before_first, after_first}
use Rattle.std.specs.Option.{ok_or}
use Rattle.std.specs.Str.Parse.{digits_value}
use Rattle.serde_json.specs.Data.{Data, Items, no_items, item}
use Rattle.serde_json.specs.Find.{get, as_str, as_array, as_number, as_u64}
use Rattle.st_ids.specs.declared.names.Key.{Key}
use Rattle.st_ids.specs.declared.names.Place.{Place}
use Rattle.st_ids.specs.declared.names.Rev.{Rev}
use Rattle.st_ids.specs.Names.{read_pair, read_rev}
use Rattle.st_ids.specs.Numeral.{is_plain, number_of}
use Rattle.st_json.specs.Line.{line_value}
use Rattle.st_json.specs.Look.{is_listed, has_only}
use Rattle.st_json.specs.declared.fault.BadCause.{BadCause}
use Rattle.st_tree.specs.Node.{Node, nodes_of}
use Rattle.st_tree.specs.Size.{check_of, check_items}
use Rattle.st_tree.specs.declared.limits.TreeFault.{TreeFault}
use Rattle.st_schema.specs.Reading.{schema_of}
use Rattle.st_schema.specs.Schema.{SchemaView, is_sound}
use Rattle.st_schema.specs.TreeText.{tree_of, tree_in, tree_data, within_limits}
use Rattle.st_script.specs.Line.{step_of_line, step_of_value}
use Rattle.st_script.specs.Members.{as_client_name, client_in, as_small, number_in, number_or, at_least_one, one_or_more, count_of, key_within, key_of, key_or_empty, as_place, places_in, short_path, path_in, rev_in, trees_in, few, items_in, item_in, sound_schema, schema_in, as_uuid, uuid_or_none, uuid_in}
use Rattle.st_idcodec.specs.Uuids.{uuid_read}
use Rattle.st_idcodec.proofs.TextsOfUuids.{read_is_v4}
use Rattle.st_ids.specs.Numeral.{small}
use Rattle.st_script.specs.Steps.{EditView, insert, remove, move, set, clear, ActView, join, edit, need, begin, commit, abort, fork, rebase, merge, drop_branch, undo, upgrade, sequence, ack, deliver, leave, drop_client, reconnect, show, pending, StepView, IsEditWithin, IsActWithin, IsWithinLimits, same, target_of, site_of, span_of, goal_of, plain_act, read_insert, read_remove, read_move, read_set, read_clear, read_join, read_need, read_undo, read_upgrade, read_edit, read_of, step_word, act_of, step_of}
use Rattle.st_script.specs.StepText.{IsName, IsRev, IsUuid, ArePlaces, IsPath, IsTarget, IsSpan, IsShown, AreShown, AreItems, FitsEdit, FitsAct, FitsLine}
use Rattle.st_script.specs.declared.read.Goal.{Goal}
use Rattle.st_script.specs.declared.read.Span.{Span}
use Rattle.st_script.specs.declared.read.Target.{Target}
use Rattle.st_schema.proofs.Holds.{Holds-cond}
use Rattle.st_json.proofs.Rising.{Holds, Holds-map, Holds-and_then}
use Rattle.st_schema.proofs.Sound.{Sound, SoundItems, line_sound, get_sound, array_sound}
use Rattle.st_script.proofs.Sound.{tree_shown, trees_shown}
use Rattle.st_script.proofs.Listed.{get-unlisted}
use Rattle.st_lemmas.proofs.Bools.{and-true}

-- ---- tests

within : (r : Result (Unit {0}) TreeFault) → is_ok r ≡ true → r ≡ Ok tt
within (Ok u) e = refl
within (Err f) e = absurd cc

at_most : (n m : ℕ) → nat_le n m ≡ true → n ≤ m
at_most n m h = grind (arith, nat_tests)

below : (n m : ℕ) → nat_lt n m ≡ true → n < m
below n m h = grind (arith, nat_tests)

-- nothing is said of a value
abbrev Any : {A : Type 0} → A → Type 0
Any a = ⊤

any : {A : Type 0} (o : Option A) → Holds Any o
any None = tt
any (Some a) = tt

-- ---- members

abbrev IsSmall : ℕ → Type 0
IsSmall n = n < 2 ^ 32

abbrev IsCount : ℕ → Type 0
IsCount n = (1 ≤ n) × (n < 2 ^ 32)

abbrev IsKey : Key → Type 0
IsKey k = length k.0 ≤ 64

abbrev IsPlace : Place → Type 0
IsPlace p = (length p.key.0 ≤ 64) × (p.index < 2 ^ 32)

name_fits : (t : List ℕ) → Holds IsName (as_client_name t)
name_fits t = Holds-cond IsName (nat_le 1 (length t) && nat_le (length t) 64) (Some t) None (λ h. let b = and-true (nat_le 1 (length t)) (nat_le (length t) 64) h in (at_most 1 (length t) b.0, at_most (length t) 64 b.1)) tt

client_fits : (d : Data) → Holds IsName (client_in d)
client_fits d = Holds-and_then Any IsName as_client_name (λ t _. name_fits t) (option_and_then as_str (get (codes "client") d)) (any _)

small_fits : (n : ℕ) → Holds IsSmall (small n)
small_fits n = Holds-cond IsSmall (nat_lt n (2 ^ 32)) (Some n) None (λ h. below n (2 ^ 32) h) tt

value_fits : (d : Data) → Holds IsSmall (as_small d)
value_fits d = Holds-and_then Any IsSmall small (λ n _. small_fits n) (option_and_then as_u64 (as_number d)) (any _)

number_fits : (name : List ℕ) (d : Data) → Holds IsSmall (number_in name d)
number_fits name d = Holds-and_then Any IsSmall as_small (λ e _. value_fits e) (get name d) (any _)

number_or_fits : (o : Option Data) → Holds IsSmall (number_or 0 o)
number_or_fits None = omega arith
number_or_fits (Some d) = value_fits d

one_fits : (n : ℕ) → n < 2 ^ 32 → Holds IsCount (at_least_one n)
one_fits n h = Holds-cond IsCount (nat_le 1 n) (Some n) None (λ some. (at_most 1 n some, h)) tt

count_fits : (o : Option Data) → Holds IsCount (one_or_more o)
count_fits None = (omega arith, omega arith)
count_fits (Some d) = Holds-and_then IsSmall IsCount at_least_one one_fits (as_small d) (value_fits d)

key_fits : (t : List ℕ) → Holds IsKey (key_within t)
key_fits t = Holds-cond IsKey (nat_le (length t) 64) (Some (record { 0 = t })) None (λ h. at_most (length t) 64 h) tt

key_of_fits : (d : Data) → Holds IsKey (key_of d)
key_of_fits d = Holds-and_then Any IsKey key_within (λ t _. key_fits t) (as_str d) (any _)

key_or_fits : (o : Option Data) → Holds IsKey (key_or_empty o)
key_or_fits None = omega arith
key_or_fits (Some d) = key_of_fits d

abbrev IsToldUuid : Option ℕ → Type 0
IsToldUuid uuid = IfSome uuid IsUuid

text_fits : (s : List ℕ) → Holds IsUuid (uuid_read s)
text_fits s = go (uuid_read s) refl
  where
    go : (o : Option ℕ) → uuid_read s ≡ o → Holds IsUuid o
    go None e = tt
    go (Some u) e = read_is_v4 s u e

uuid_fits : (o : Option Data) → Holds IsToldUuid (uuid_or_none o)
uuid_fits None = tt
uuid_fits (Some d) = Holds-map IsUuid IsToldUuid (λ (u : ℕ). Some u) (λ u h. h) (as_uuid d) (Holds-and_then Any IsUuid uuid_read (λ s _. text_fits s) (as_str d) (any _))

place_fits : (k i : Data) → Holds IsPlace (as_place k i)
place_fits k i =
    Holds-and_then IsSmall IsPlace (λ index. option_map (λ key. record { key = key; index = index }) (key_of k))
    (λ n low. Holds-map IsKey IsPlace (λ key. record { key = key; index = n }) (λ c short. (short, low)) (key_of k) (key_of_fits k)) (as_small i) (value_fits i)

places_fit : (ds : Items) → Holds ArePlaces (places_in ds)
places_fit no_items = tt
places_fit (item k no_items) = tt
places_fit (item k (item i ds)) =
    Holds-and_then IsPlace ArePlaces (λ (p : Place). option_map (λ (ps : List Place). p ∷ ps) (places_in ds))
    (λ p here. Holds-map ArePlaces ArePlaces (λ (ps : List Place). p ∷ ps) (λ ps rest. (here.0, here.1, rest)) (places_in ds) (places_fit ds)) (as_place k i) (place_fits k i)

short_fits : (ps : List Place) → ArePlaces ps → Holds IsPath (short_path ps)
short_fits ps h = Holds-cond IsPath (nat_lt (length ps) (2 ^ 32)) (Some ps) None (λ short. (below (length ps) (2 ^ 32) short, h)) tt

path_fits : (name : List ℕ) (d : Data) → Holds IsPath (path_in name d)
path_fits name d =
    Holds-and_then ArePlaces IsPath short_path short_fits (option_and_then places_in (option_and_then as_array (get name d)))
    (Holds-and_then Any ArePlaces places_in (λ ds _. places_fit ds) (option_and_then as_array (get name d)) (any _))

numeral_fits : (ds : List ℕ) → Holds IsSmall (number_of ds)
numeral_fits ds =
    Holds-cond IsSmall (is_plain ds && nat_lt (digits_value 10 ds) (2 ^ 32)) (Some (digits_value 10 ds)) None
    (λ h. below (digits_value 10 ds) (2 ^ 32) (and-true (is_plain ds) (nat_lt (digits_value 10 ds) (2 ^ 32)) h).1) tt

abbrev ArePair : ℕ × ℕ → Type 0
ArePair p = (p.0 < 2 ^ 32) × (p.1 < 2 ^ 32)

pair_fits : (t : List ℕ) → Holds ArePair (read_pair t)
pair_fits t =
    let front = number_of (before_first (λ b. b == 46) t) in
    let back = number_of (after_first (λ b. b == 46) t) in
    Holds-and_then IsSmall ArePair (λ (m : ℕ). option_map (λ (n : ℕ). (m, n)) back)
    (λ m low. Holds-map IsSmall ArePair (λ (n : ℕ). (m, n)) (λ n h. (low, h)) back (numeral_fits (after_first (λ b. b == 46) t))) front (numeral_fits (before_first (λ b. b == 46) t))

rev_fits : (name : List ℕ) (d : Data) → Holds IsRev (rev_in name d)
rev_fits name d =
    Holds-and_then Any IsRev read_rev (λ t _. Holds-map ArePair IsRev (λ p. record { session = p.0; num = p.1 }) (λ p h. h) (read_pair t) (pair_fits t))
    (option_and_then as_str (get name d)) (any _)

abbrev AtTarget : Target → Type 0
AtTarget t = IsTarget t.at t.key

target_fits : (path key : List ℕ) (d : Data) → Holds AtTarget (target_of path key d)
target_fits path key d =
    Holds-and_then IsPath AtTarget (λ at. option_map (λ k. record { at = at; key = k }) (key_or_empty (get key d)))
    (λ at p. Holds-map IsKey AtTarget (λ k. record { at = at; key = k }) (λ k short. (p, short)) (key_or_empty (get key d)) (key_or_fits (get key d))) (path_in path d) (path_fits path d)

site_fits : (d : Data) → Holds AtTarget (site_of d)
site_fits d = target_fits (codes "at") (codes "key") d

abbrev OfSpan : Span → Type 0
OfSpan s = IsSpan s.index s.count

span_fits : (d : Data) → Holds OfSpan (span_of d)
span_fits d =
    Holds-and_then IsSmall OfSpan (λ index. option_map (λ count. record { index = index; count = count }) (count_of d))
    (λ n low. Holds-map IsCount OfSpan (λ count. record { index = n; count = count }) (λ c some. (low, some.0, some.1)) (count_of d) (count_fits (get (codes "count") d))) (number_in (codes "index") d) (number_fits (codes "index") d)

abbrev ToGoal : Goal → Type 0
ToGoal g = IsTarget g.to g.to_key × (g.to_index < 2 ^ 32)

goal_fits : (d : Data) → Holds ToGoal (goal_of d)
goal_fits d =
    Holds-and_then IsSmall ToGoal (λ index. option_map (λ (target : Target). record { to = target.at; to_key = target.key; to_index = index }) (target_of (codes "to") (codes "to_key") d))
    (λ n low. Holds-map AtTarget ToGoal (λ (target : Target). record { to = target.at; to_key = target.key; to_index = n }) (λ t here. (here, low)) (target_of (codes "to") (codes "to_key") d) (target_fits (codes "to") (codes "to_key") d))
    (number_or 0 (get (codes "to_index") d)) (number_or_fits (get (codes "to_index") d))

few_fit : (ts : List Node) → AreShown ts → Holds AreItems (few ts)
few_fit ts h =
    Holds-cond AreItems (nat_le 1 (length ts) && is_ok (check_items (nodes_of ts))) (Some ts) None
    (λ e. let b = and-true (nat_le 1 (length ts)) (is_ok (check_items (nodes_of ts))) e in (at_most 1 (length ts) b.0, within (check_items (nodes_of ts)) b.1, h)) tt

items_fit : (d : Data) → Sound d → Holds AreItems (items_in d)
items_fit d sound =
    Holds-and_then SoundItems AreItems (λ ds. option_and_then few (trees_in ds)) (λ ds s. Holds-and_then AreShown AreItems few few_fit (trees_in ds) (trees_shown ds s)) (option_and_then as_array (get (codes "items") d))
    (Holds-and_then Sound SoundItems as_array array_sound (get (codes "items") d) (get_sound (codes "items") d sound))

item_fits : (d : Data) → Sound d → Holds IsShown (item_in d)
item_fits d sound = Holds-and_then Sound IsShown tree_of tree_shown (get (codes "item") d) (get_sound (codes "item") d sound)

abbrev pub KeepsRules : SchemaView → Type 0
KeepsRules s = is_sound s ≡ true

form_fits : (d : Data) → Holds KeepsRules (sound_schema d)
form_fits d =
    Holds-and_then Any KeepsRules (λ (s : SchemaView). cond (is_sound s) (Some s) None) (λ s _. Holds-cond KeepsRules (is_sound s) (Some s) None (λ h. h) tt) (schema_of d) (any _)

pub schema_fits : (d : Data) → Holds KeepsRules (schema_in d)
schema_fits d = Holds-and_then Any KeepsRules sound_schema (λ e _. form_fits e) (get (codes "schema") d) (any _)

-- ---- acts

-- what a value does on a branch
module _ (d : Data) (b : ℕ) (is_branch : number_or 0 (get (codes "branch") d) ≡ Some b) where
  abbrev Fits : Option ActView → Type 0
  Fits o = Holds (FitsAct b) o

  -- where the value has only these members
  only : (names : List ℕ) (o : Option ActView) → Fits o → Fits (cond (has_only names d) o None)
  only names o h = Holds-cond (FitsAct b) (has_only names d) o None (λ _. h) tt

  -- it is done on the main branch where there is no member for another
  on_main : (names : List ℕ) → is_listed names (codes "branch") ≡ false → has_only names d ≡ true → b ≡ 0
  on_main names other h = let none : Some 0 ≡ Some b = sym (ap (number_or 0) (get-unlisted names (codes "branch") d other h)) ∙ is_branch in cc

  main_fits : (a : ActView) → (b ≡ 0 → FitsAct b a) → Fits (plain_act (codes "client do") a d)
  main_fits a h = Holds-cond (FitsAct b) (has_only (codes "client do") d) (Some a) None (λ o. h (on_main (codes "client do") refl o)) tt

  abbrev inserted : Target → ℕ → List Node → ActView
  inserted t index items = edit (insert t.at t.key index items)

  insert_fits : Sound d → Fits (read_insert d)
  insert_fits sound =
      only (codes "at branch client do index items key") (option_and_then (λ t. option_and_then (λ index. option_map (inserted t index) (items_in d)) (number_in (codes "index") d)) (site_of d))
      (Holds-and_then AtTarget (FitsAct b) (λ t. option_and_then (λ index. option_map (inserted t index) (items_in d)) (number_in (codes "index") d))
      (λ t here. Holds-and_then IsSmall (FitsAct b) (λ index. option_map (inserted t index) (items_in d))
      (λ n low. Holds-map AreItems (FitsAct b) (inserted t n) (λ ts h. (here, low, h)) (items_in d) (items_fit d sound)) (number_in (codes "index") d) (number_fits (codes "index") d)) (site_of d) (site_fits d))

  abbrev removed : Target → Span → ActView
  removed t span = edit (remove t.at t.key span.index span.count)

  remove_fits : Fits (read_remove d)
  remove_fits =
      only (codes "at branch client count do index key") (option_and_then (λ t. option_map (removed t) (span_of d)) (site_of d))
      (Holds-and_then AtTarget (FitsAct b) (λ t. option_map (removed t) (span_of d)) (λ t here. Holds-map OfSpan (FitsAct b) (removed t) (λ s h. (here, h)) (span_of d) (span_fits d)) (site_of d) (site_fits d))

  abbrev moved : Target → Span → Goal → ActView
  moved t span goal = edit (move t.at t.key span.index span.count goal.to goal.to_key goal.to_index)

  move_fits : Fits (read_move d)
  move_fits =
      only (codes "at branch client count do index key to to_index to_key") (option_and_then (λ t. option_and_then (λ span. option_map (moved t span) (goal_of d)) (span_of d)) (site_of d))
      (Holds-and_then AtTarget (FitsAct b) (λ t. option_and_then (λ span. option_map (moved t span) (goal_of d)) (span_of d))
      (λ t here. Holds-and_then OfSpan (FitsAct b) (λ span. option_map (moved t span) (goal_of d))
      (λ s h. Holds-map ToGoal (FitsAct b) (moved t s) (λ g aim. (here, h, aim.0, aim.1)) (goal_of d) (goal_fits d)) (span_of d) (span_fits d)) (site_of d) (site_fits d))

  abbrev put_there : Target → Node → ActView
  put_there t tree = edit (set t.at t.key tree)

  set_fits : Sound d → Fits (read_set d)
  set_fits sound =
      only (codes "at branch client do item key") (option_and_then (λ t. option_map (put_there t) (item_in d)) (site_of d))
      (Holds-and_then AtTarget (FitsAct b) (λ t. option_map (put_there t) (item_in d)) (λ t here. Holds-map IsShown (FitsAct b) (put_there t) (λ u h. (here, h)) (item_in d) (item_fits d sound)) (site_of d) (site_fits d))

  abbrev cleared : Target → ActView
  cleared t = edit (clear t.at t.key)

  clear_fits : Fits (read_clear d)
  clear_fits = only (codes "at branch client do key") (option_map cleared (site_of d)) (Holds-map AtTarget (FitsAct b) cleared (λ t here. here) (site_of d) (site_fits d))

  abbrev needed : List Place → ActView
  needed at = need at

  need_fits : Fits (read_need d)
  need_fits = only (codes "at branch client do") (option_map needed (path_in (codes "at") d)) (Holds-map IsPath (FitsAct b) needed (λ at h. h) (path_in (codes "at") d) (path_fits (codes "at") d))

  abbrev joined : Option ℕ → ActView
  joined uuid = join uuid

  join_fits : Fits (read_join d)
  join_fits =
      Holds-cond (FitsAct b) (has_only (codes "client do uuid") d) (option_map joined (uuid_in d)) None
      (λ o. Holds-map IsToldUuid (FitsAct b) joined (λ uuid h. (on_main (codes "client do uuid") refl o, h)) (uuid_in d) (uuid_fits (get (codes "uuid") d))) tt

  abbrev undone : Rev → ActView
  undone rev = undo rev

  undo_fits : Fits (read_undo d)
  undo_fits =
      Holds-cond (FitsAct b) (has_only (codes "client do rev") d) (option_map undone (rev_in (codes "rev") d)) None
      (λ o. Holds-map IsRev (FitsAct b) undone (λ rev h. (on_main (codes "client do rev") refl o, h)) (rev_in (codes "rev") d) (rev_fits (codes "rev") d)) tt

  abbrev upgraded : SchemaView → ActView
  upgraded schema = upgrade schema

  upgrade_fits : Fits (read_upgrade d)
  upgrade_fits =
      Holds-cond (FitsAct b) (has_only (codes "client do schema") d) (option_map upgraded (schema_in d)) None
      (λ o. Holds-map KeepsRules (FitsAct b) upgraded (λ schema h. (on_main (codes "client do schema") refl o, h)) (schema_in d) (schema_fits d)) tt

  -- on whatever branch
  actor_fits : (a : ActView) → FitsAct b a → Fits (plain_act (codes "branch client do") a d)
  actor_fits a h = only (codes "branch client do") (Some a) h

  -- one of two, each of which fits
  either : (c : Bool) (o p : Option ActView) → Fits o → Fits p → Fits (cond c o p)
  either true o p l r = l
  either false o p l r = r

  edit_word_fits : (word : List ℕ) → Sound d → Fits (read_edit word d)
  edit_word_fits word sound =
      either (same word (codes "insert")) _ _ (insert_fits sound)
      (either (same word (codes "remove")) _ _ remove_fits
      (either (same word (codes "move")) _ _ move_fits
      (either (same word (codes "set")) _ _ (set_fits sound)
      (either (same word (codes "clear")) _ _ clear_fits tt))))

  word_fits : (word : List ℕ) → Sound d → Fits (read_of word d)
  word_fits word sound =
      either (same word (codes "join")) _ _ join_fits
      (either (same word (codes "need")) _ _ need_fits
      (either (same word (codes "begin")) _ _ (actor_fits begin tt)
      (either (same word (codes "commit")) _ _ (actor_fits commit tt)
      (either (same word (codes "abort")) _ _ (actor_fits abort tt)
      (either (same word (codes "fork")) _ _ (actor_fits fork tt)
      (either (same word (codes "rebase")) _ _ (actor_fits rebase tt)
      (either (same word (codes "merge")) _ _ (actor_fits merge tt)
      (either (same word (codes "drop_branch")) _ _ (actor_fits drop_branch tt)
      (either (same word (codes "undo")) _ _ undo_fits
      (either (same word (codes "upgrade")) _ _ upgrade_fits
      (either (same word (codes "sequence")) _ _ (main_fits sequence (λ zero. zero))
      (either (same word (codes "ack")) _ _ (main_fits ack (λ zero. zero))
      (either (same word (codes "deliver")) _ _ (main_fits deliver (λ zero. zero))
      (either (same word (codes "leave")) _ _ (main_fits leave (λ zero. zero))
      (either (same word (codes "drop")) _ _ (main_fits drop_client (λ zero. zero))
      (either (same word (codes "reconnect")) _ _ (main_fits reconnect (λ zero. zero))
      (either (same word (codes "show")) _ _ (actor_fits show tt)
      (either (same word (codes "pending")) _ _ (main_fits pending (λ zero. zero)) (edit_word_fits word sound)))))))))))))))))))

  act_fits : Sound d → Fits (act_of d)
  act_fits sound = Holds-and_then Any (FitsAct b) (λ word. read_of word d) (λ word _. word_fits word sound) (step_word d) (any _)

-- ---- steps

-- a value is the one that there is
Holds-itself : {A : Type 0} (P : A → Type 0) (o : Option A) → Holds P o → Holds (λ a. (o ≡ Some a) × P a) o
Holds-itself P None h = tt
Holds-itself P (Some a) h = (refl, h)

value_step_fits : (d : Data) → Sound d → Holds FitsLine (step_of d)
value_step_fits d sound =
    let branch = number_or 0 (get (codes "branch") d) in
    let step : ℕ → List ℕ → ActView → StepView = λ b c a. record { client = c; branch = b; act = a } in
    Holds-and_then (λ b. (branch ≡ Some b) × IsSmall b) FitsLine (λ b. option_and_then (λ c. option_map (step b c) (act_of d)) (client_in d))
    (λ b is. Holds-and_then IsName FitsLine (λ c. option_map (step b c) (act_of d))
    (λ c name. Holds-map (FitsAct b) FitsLine (step b c) (λ a h. ((name, is.1), h)) (act_of d) (act_fits d b is.0 sound)) (client_in d) (client_fits d))
    branch (Holds-itself IsSmall branch (number_or_fits (get (codes "branch") d)))

-- the step of a line is one that a line can hold
pub line_fits : (bytes : List ℕ) (s : StepView) → step_of_line bytes ≡ Ok s → FitsLine s
line_fits bytes s e = go (line_value bytes) (line_sound bytes) e
  where
    step : (o : Option StepView) → Holds FitsLine o → ok_or o BadCause.Shape ≡ Ok s → FitsLine s
    step None h f = absurd cc
    step (Some x) h f = let same_step : x ≡ s = cc in subst FitsLine same_step h

    go : (o : Option Data) → Holds Sound o → step_of_value o ≡ Ok s → FitsLine s
    go None h e = absurd cc
    go (Some d) h e = step (step_of d) (value_step_fits d h) e

-- a tree that is read of its form is within the limits
limited : (o : Option Node) → Holds (λ t. check_of t ≡ Ok tt) (option_and_then within_limits o)
limited None = tt
limited (Some t) = Holds-cond (λ (u : Node). check_of u ≡ Ok tt) (is_ok (check_of t)) (Some t) None (λ h. within (check_of t) h) tt

shown_within : (t : Node) → IsShown t → check_of t ≡ Ok tt
shown_within t e = subst (Holds (λ u. check_of u ≡ Ok tt)) e (limited (tree_in (tree_data t) 48))

edit_form : (e : EditView) → FitsEdit e → IsEditWithin e
edit_form (insert at key index items) h = (h.2.1, h.0.0.0)
edit_form (remove at key index count) h = h.0.0.0
edit_form (move at key index count to to_key to_index) h = (h.0.0.0, h.2.0.0)
edit_form (set at key tree) h = (shown_within tree h.1, h.0.0.0)
edit_form (clear at key) h = h.0.0

act_form : (b : ℕ) (a : ActView) → FitsAct b a → IsActWithin a
act_form b (join uuid) h = tt
act_form b (edit e) h = edit_form e h
act_form b (need at) h = h.0
act_form b begin h = tt
act_form b commit h = tt
act_form b abort h = tt
act_form b fork h = tt
act_form b rebase h = tt
act_form b merge h = tt
act_form b drop_branch h = tt
act_form b (undo rev) h = tt
act_form b (upgrade schema) h = tt
act_form b sequence h = tt
act_form b ack h = tt
act_form b deliver h = tt
act_form b leave h = tt
act_form b drop_client h = tt
act_form b reconnect h = tt
act_form b show h = tt
act_form b pending h = tt

-- a step that a line can hold keeps the limits
pub fits_form : (s : StepView) → FitsLine s → IsWithinLimits s
fits_form s h = act_form s.branch s.act h.1
