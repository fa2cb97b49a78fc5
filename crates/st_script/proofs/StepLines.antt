-- The value of a step has no floating-point number and nests no deeper than a text may, and its line is read as the step.
use Rattle.std.proofs.Common.{arith, ◌≡◌, ◌∙◌, ℕ, ◌≤◌, ◌==◌, Bool, true, false, ◌||◌, List, [], ◌∷◌, ◌++◌, length, Option, None, Some, Result, Ok, Err, String, string_bytes, Global, if◌then◌else◌, IfOk, OnOk, eq-eqb, refl, sym, ap, subst}
use Rattle.std.proofs.lemmas.Str.{IsUtf8-string_bytes, utf8_valid_len-IsUtf8}
use Rattle.std.specs.Option.{ok_or}
use Rattle.std.specs.Str.Lossy.{utf8_valid_len}
use Rattle.serde_json.specs.Data.{Data, depth, items_depth}
use Rattle.serde_json.specs.Read.{read, max_depth}
use Rattle.serde_json.specs.View.{items_of}
use Rattle.serde_json.specs.Written.{compact_text, has_float, items_have_float}
use Rattle.st_ids.specs.declared.names.Place.{Place}
use Rattle.st_json.specs.Line.{line_value}
use Rattle.st_json.specs.declared.fault.BadCause.{BadCause}
use Rattle.st_tree.specs.Node.{Node, nodes_of}
use Rattle.st_schema.specs.TreeText.{trees_data}
use Rattle.st_schema.proofs.Plain.{schema_plain, schema_low}
use Rattle.st_schema.proofs.PlainTrees.{tree_plain, tree_low, items_low}
use Rattle.st_script.specs.Line.{step_of_line, step_of_value}
use Rattle.st_script.specs.Steps.{EditView, insert, remove, move, set, clear, ActView, join, edit, need, begin, commit, abort, fork, rebase, merge, drop_branch, undo, upgrade, sequence, ack, deliver, leave, drop_client, reconnect, show, pending, StepView}
use Rattle.st_script.specs.StepText.{places_data, join_data, edit_data, act_data, step_data, step_text, edit_limits, act_limits, limits_of, trees_have_shape, IsReadBack, FitsLine}
use Rattle.st_script.proofs.Again.{read_again}
use Rattle.st_script.proofs.Fits.{line_fits}
use Rattle.st_script.proofs.Shaped.{line_shaped}
use Rattle.st_script.proofs.Written.{all_small, one_small}

-- ---- no floating-point number

path_plain : (ps : List Place) → items_have_float (items_of (places_data ps)) ≡ false
path_plain [] = refl
path_plain (p ∷ ps) = path_plain ps

trees_plain : (ts : List Node) → items_have_float (trees_data (nodes_of ts)) ≡ false
trees_plain [] = refl
trees_plain (t ∷ ts) = rw (tree_plain t) (trees_plain ts)

edit_plain : (client : List ℕ) (branch : ℕ) (e : EditView) → has_float (edit_data client branch e) ≡ false
edit_plain client branch (insert at key index items) = rw (path_plain at, trees_plain items) refl
edit_plain client branch (remove at key index count) = rw (path_plain at) refl
edit_plain client branch (move at key index count to to_key to_index) = rw (path_plain at, path_plain to) refl
edit_plain client branch (set at key item) = rw (path_plain at, tree_plain item) refl
edit_plain client branch (clear at key) = rw (path_plain at) refl

join_plain : (client : List ℕ) (uuid : Option ℕ) → has_float (join_data client uuid) ≡ false
join_plain client None = refl
join_plain client (Some u) = refl

act_plain : (client : List ℕ) (branch : ℕ) (a : ActView) → has_float (act_data client branch a) ≡ false
act_plain client branch (join uuid) = join_plain client uuid
act_plain client branch (edit e) = edit_plain client branch e
act_plain client branch (need at) = rw (path_plain at) refl
act_plain client branch begin = refl
act_plain client branch commit = refl
act_plain client branch abort = refl
act_plain client branch fork = refl
act_plain client branch rebase = refl
act_plain client branch merge = refl
act_plain client branch drop_branch = refl
act_plain client branch (undo rev) = refl
act_plain client branch (upgrade schema) = ap (λ (b : Bool). b || false) (schema_plain schema)
act_plain client branch sequence = refl
act_plain client branch ack = refl
act_plain client branch deliver = refl
act_plain client branch leave = refl
act_plain client branch drop_client = refl
act_plain client branch reconnect = refl
act_plain client branch show = refl
act_plain client branch pending = refl

pub step_plain : (s : StepView) → has_float (step_data s) ≡ false
step_plain s = act_plain s.client s.branch s.act

-- ---- how deep it nests

path_low : (ps : List Place) → items_depth (items_of (places_data ps)) ≤ 0
path_low [] = omega arith
path_low (p ∷ ps) = omega (arith, path_low ps)

edit_low : (client : List ℕ) (branch : ℕ) (e : EditView) → edit_limits e ≡ Ok tt → depth (edit_data client branch e) ≤ max_depth
edit_low client branch (insert at key index items) h = omega (arith, path_low at, items_low (nodes_of items), (all_small (nodes_of items) h).1)
edit_low client branch (remove at key index count) h = omega (arith, path_low at)
edit_low client branch (move at key index count to to_key to_index) h = omega (arith, path_low at, path_low to)
edit_low client branch (set at key item) h = omega (arith, path_low at, tree_low item, (one_small item h).1)
edit_low client branch (clear at key) h = omega (arith, path_low at)

join_low : (client : List ℕ) (uuid : Option ℕ) → depth (join_data client uuid) ≤ max_depth
join_low client None = omega arith
join_low client (Some u) = omega arith

act_low : (client : List ℕ) (branch : ℕ) (a : ActView) → act_limits a ≡ Ok tt → depth (act_data client branch a) ≤ max_depth
act_low client branch (join uuid) h = join_low client uuid
act_low client branch (edit e) h = edit_low client branch e h
act_low client branch (need at) h = omega (arith, path_low at)
act_low client branch begin h = omega arith
act_low client branch commit h = omega arith
act_low client branch abort h = omega arith
act_low client branch fork h = omega arith
act_low client branch rebase h = omega arith
act_low client branch merge h = omega arith
act_low client branch drop_branch h = omega arith
act_low client branch (undo rev) h = omega arith
act_low client branch (upgrade schema) h = omega (arith, schema_low schema)
act_low client branch sequence h = omega arith
act_low client branch ack h = omega arith
act_low client branch deliver h = omega arith
act_low client branch leave h = omega arith
act_low client branch drop_client h = omega arith
act_low client branch reconnect h = omega arith
act_low client branch show h = omega arith
act_low client branch pending h = omega arith

pub step_low : (s : StepView) → limits_of s ≡ Ok tt → depth (step_data s) ≤ max_depth
step_low s h = act_low s.client s.branch s.act h

-- ---- the line

-- the text of a value, which is UTF-8, is read as a line
pub text_read : (s : String Global) (d : Data) → string_bytes s ≡ compact_text d → read (string_bytes s) ≡ Some d → line_value (compact_text d) ≡ Some d
text_read s d text back =
    let whole : (utf8_valid_len (string_bytes s) == length (string_bytes s)) ≡ true = eq-eqb _ _ (utf8_valid_len-IsUtf8 (string_bytes s) (IsUtf8-string_bytes s)) in
    subst (λ (x : List ℕ). line_value x ≡ Some d) text (ap (λ (b : Bool). if b then read (string_bytes s) else None) whole ∙ back)

pub line_again : (s : StepView) (d : Data) → d ≡ step_data s → line_value (compact_text d) ≡ Some d → FitsLine s → step_of_line (step_text s) ≡ Ok s
line_again s d is back fits =
    let told : line_value (step_text s) ≡ Some (step_data s) = subst (λ (e : Data). line_value (compact_text e) ≡ Some e) is back in
    ap step_of_value told ∙ ap (λ (o : Option StepView). ok_or o BadCause.Shape) (read_again s fits)

-- the line of a step's value
pub told_text : {E : Type 0} (r : Result (List ℕ) E) (s : StepView) (d : Data) → (trees_have_shape s ≡ true → d ≡ step_data s) → IfOk r (λ t. has_float d ≡ false → t ≡ compact_text d ++ 10 ∷ [])
    → IfOk r (λ t. trees_have_shape s ≡ true → t ≡ step_text s ++ 10 ∷ [])
told_text (Ok t) s d is h = λ form. h (ap has_float (is form) ∙ step_plain s) ∙ ap (λ (e : Data). compact_text e ++ 10 ∷ []) (is form)
told_text (Err e) s d is h = tt

pub told_back : {T E : Type 0} (r : Result T E) (s : StepView) (d : Data) → limits_of s ≡ Ok tt → (trees_have_shape s ≡ true → d ≡ step_data s)
    → OnOk r (has_float d ≡ false → depth d ≤ max_depth → line_value (compact_text d) ≡ Some d) → OnOk r (trees_have_shape s ≡ true → FitsLine s → step_of_line (step_text s) ≡ Ok s)
told_back (Ok t) s d within is h = λ form fits.
    line_again s d (is form) (h (ap has_float (is form) ∙ step_plain s) (subst (λ (e : Data). depth e ≤ max_depth) (sym (is form)) (step_low s within))) fits
told_back (Err e) s d within is h = tt

-- the line of a step that a line is
pub told_again : {E : Type 0} (r : Result (List ℕ) E) (s : StepView) → IfOk r (λ t. trees_have_shape s ≡ true → t ≡ step_text s ++ 10 ∷ [])
    → OnOk r (trees_have_shape s ≡ true → FitsLine s → step_of_line (step_text s) ≡ Ok s) → IfOk r (λ t. (bytes : List ℕ) → step_of_line bytes ≡ Ok s → IsReadBack t s)
told_again (Ok t) s text back = λ bytes is. (text (line_shaped bytes s is), back (line_shaped bytes s is) (line_fits bytes s is))
told_again (Err e) s text back = tt
