-- The steps and headers that lines are read as keep the limits.
use Rattle.std.proofs.Common.{◌≡◌, ℕ, Bool, true, false, cond, List, Option, Some, None, option_and_then, option_map, Ok, codes, refl, ap, ◌∙◌, subst}
use Rattle.std.specs.Option.{ok_or}
use Rattle.serde_json.specs.Data.{Data}
use Rattle.serde_json.specs.Find.{get}
use Rattle.st_json.specs.Line.{line_value}
use Rattle.st_json.specs.declared.fault.BadCause.{BadCause}
use Rattle.st_json.proofs.Rising.{Holds}
use Rattle.st_schema.specs.Schema.{is_sound}
use Rattle.st_script.specs.Header.{HeaderView, header_line, header_or_cause, header_of, header_that_opens, may_open, parts_of, tree_in, history_or_64, is_begun}
use Rattle.st_script.specs.Line.{step_of_line}
use Rattle.st_script.specs.Members.{schema_in}
use Rattle.st_script.specs.Steps.{StepView, IsWithinLimits}
use Rattle.st_script.proofs.Fits.{KeepsRules, schema_fits, line_fits, fits_form}
use Rattle.st_lemmas.proofs.Options.{option_map-Some, option_and_then-Some}

-- ## What gave a value

guarded : {A : Type 0} (b : Bool) (o : Option A) (y : A) → cond b o None ≡ Some y → (b ≡ true) × (o ≡ Some y)
guarded true o y e = (refl, e)
guarded false o y e = absurd cc

-- ## Steps

-- the step of a line keeps the limits
pub line_formed : (bytes : List ℕ) (s : StepView) → step_of_line bytes ≡ Ok s → IsWithinLimits s
line_formed bytes s e = fits_form s (line_fits bytes s e)

-- ## Headers

header_kept : (d : Data) (word : List ℕ) (h : HeaderView) → header_of word d ≡ Some h → (is_sound h.schema ≡ true) × (may_open h.schema h.tree ≡ true)
header_kept d word h e =
    let g = guarded (is_begun word d) (option_and_then header_that_opens (parts_of d)) h e in
    let p = option_and_then-Some header_that_opens (parts_of d) h g.1 in
    let o = guarded (may_open p.0.schema p.0.tree) (Some p.0) h p.2 in
    let same_header : p.0 ≡ h = cc in
    let n = option_and_then-Some (λ history. option_and_then (λ schema. option_map (λ tree. record { history = history; schema = schema; tree = tree }) (tree_in d)) (schema_in d)) (history_or_64 (get (codes "history") d)) p.0 p.1 in
    let s = option_and_then-Some (λ schema. option_map (λ tree. record { history = n.0; schema = schema; tree = tree }) (tree_in d)) (schema_in d) p.0 n.2 in
    let t = option_map-Some (λ tree. record { history = n.0; schema = s.0; tree = tree }) (tree_in d) p.0 s.2 in
    let sound : is_sound s.0 ≡ true = subst (Holds KeepsRules) s.1 (schema_fits d) in
    let here : is_sound p.0.schema ≡ true = subst (λ (y : HeaderView). is_sound y.schema ≡ true) t.2 sound in
    subst (λ (y : HeaderView). (is_sound y.schema ≡ true) × (may_open y.schema y.tree ≡ true)) same_header (here, o.0)

-- the header of a line opens a document that its schema allows
pub header_line_kept : (word bytes : List ℕ) (h : HeaderView) → header_line word bytes ≡ Ok h → (is_sound h.schema ≡ true) × (may_open h.schema h.tree ≡ true)
header_line_kept word bytes h e = go (line_value bytes) e
  where
    one : (d : Data) (o : Option HeaderView) → header_of word d ≡ o → ok_or o BadCause.Header ≡ Ok h → (is_sound h.schema ≡ true) × (may_open h.schema h.tree ≡ true)
    one d None f e = absurd cc
    one d (Some x) f e = let same_one : x ≡ h = cc in header_kept d word h (f ∙ ap Some same_one)

    go : (o : Option Data) → header_or_cause word o ≡ Ok h → (is_sound h.schema ≡ true) × (may_open h.schema h.tree ≡ true)
    go None e = absurd cc
    go (Some d) e = one d (header_of word d) refl e
