-- A member goes to the end of an object whose names are all before its own.
use Rattle.std.proofs.Common.{◌≡◌, ◌∙◌, ℕ, suc, ◌+◌, ◌<◌, true, List, [], ◌∷◌, ◌++◌, length, take, drop, get_or, Less, String, string_bytes, refl, sym, ap, arith, append_assoc, ◌≤◌, take_all}
use Rattle.std.specs.declared.alloc.Global.{Global}
use Rattle.std.specs.Ordering.{nat_cmp, is_lt, match_ordering, ordering_reverse}
use Rattle.std.specs.Cmp.Lexicographic.{slice_cmp}
use Rattle.std.proofs.lemmas.Cmp.{nat_list_cmp_total}
use Rattle.std.proofs.Math.Seq.{take-suc}
use Rattle.serde_json.specs.Data.{member, object, put as put_member, put}
use Rattle.serde_json.specs.View.{view, members_view}
use Rattle.serde_json.proofs.Views.{members_view-insert_entry, view-Object}
use Rattle.serde_json.specs.declared.value.Value.{Value, Object}
use Rattle.std.specs.BTreeMap.{BTreeMap, insert_entry}
use Rattle.std.specs.String.{string_cmp}
use Rattle.std.proofs.lemmas.List.{take-append-drop}
use Rattle.st_schema.specs.Schema.{defs_rise}
use Rattle.st_schema.specs.Written.{field_data, fields_data}
use Rattle.st_schema.specs.declared.names.FieldDef.{FieldDef}
use Rattle.st_lemmas.proofs.Orders.{is_lt-Less}
use Rattle.st_lemmas.proofs.Bools.{and-true}

-- each key is above the first bound
above : (before : List ℕ) (done : List FieldDef) (f : FieldDef) (rest : List FieldDef) → defs_rise before (done ++ f ∷ rest) ≡ true → slice_cmp nat_cmp before f.key.0 ≡ Less
above before [] f rest h = is_lt-Less _ (and-true (is_lt (slice_cmp nat_cmp before f.key.0)) (defs_rise f.key.0 rest) h).0
above before (e ∷ done) f rest h =
    let parts = and-true (is_lt (slice_cmp nat_cmp before e.key.0)) (defs_rise e.key.0 (done ++ f ∷ rest)) h in
    nat_list_cmp_total.trans before e.key.0 f.key.0 (is_lt-Less _ parts.0) (above e.key.0 done f rest parts.1)

put_after : (before : List ℕ) (done : List FieldDef) (f : FieldDef) (rest : List FieldDef) → defs_rise before (done ++ f ∷ rest) ≡ true → put f.key.0 (field_data f) (fields_data done) ≡ fields_data (done ++ f ∷ [])
put_after before [] f rest h = refl
put_after before (e ∷ done) f rest h =
    let later = (and-true (is_lt (slice_cmp nat_cmp before e.key.0)) (defs_rise e.key.0 (done ++ f ∷ rest)) h).1 in
    let greater = nat_list_cmp_total.antisymm f.key.0 e.key.0 ∙ ap ordering_reverse (above e.key.0 done f rest later) in
    ap (λ o. match_ordering o (member f.key.0 (field_data f) (fields_data (e ∷ done))) (member e.key.0 (field_data f) (fields_data done)) (member e.key.0 (field_data e) (put f.key.0 (field_data f) (fields_data done)))) greater
    ∙ ap (λ ms. member e.key.0 (field_data e) ms) (put_after e.key.0 done f rest later)

fields_put : (fs : List FieldDef) (i : ℕ) (f : FieldDef) → defs_rise [] fs ≡ true → i < length fs → f ≡ get_or fs i f → put f.key.0 (field_data f) (fields_data (take i fs)) ≡ fields_data (take (i + 1) fs)
fields_put fs i f h within is =
    let here : take (suc i) fs ≡ take i fs ++ f ∷ [] = take-suc fs i f within ∙ ap (λ g. take i fs ++ g ∷ []) (sym is) in
    let one : i + 1 ≡ suc i = omega arith in
    let whole : take i fs ++ f ∷ drop (suc i) fs ≡ fs = sym (append_assoc (take i fs) (f ∷ []) (drop (suc i) fs)) ∙ ap (λ gs. gs ++ drop (suc i) fs) (sym here) ∙ take-append-drop (suc i) fs in
    put_after [] (take i fs) f (drop (suc i) fs) (ap (defs_rise []) whole ∙ h) ∙ ap fields_data (sym here) ∙ ap (λ n. fields_data (take n fs)) (sym one)

-- one more field is written
pub field_written : (fs : List FieldDef) (i : ℕ) (f : FieldDef) (old new : List (String Global × Value)) (k : String Global) (v : Value) → defs_rise [] fs ≡ true → i < length fs → f ≡ get_or fs i f
    → members_view old ≡ fields_data (take i fs) → string_bytes k ≡ f.key.0 → view v ≡ field_data f → new ≡ insert_entry string_cmp old k v → members_view new ≡ fields_data (take (i + 1) fs)
field_written fs i f old new k v h within is so_far key value put =
    ap members_view put
    ∙ members_view-insert_entry old k v
    ∙ (λ j. put_member (key j) (value j) (so_far j))
    ∙ fields_put fs i f h within is

pub fields_written : (m : BTreeMap (String Global) Value) (fs gs : List FieldDef) (i : ℕ) → gs ≡ fs → length gs ≤ i → members_view m.entries ≡ fields_data (take i gs) → view (Object m) ≡ object (fields_data fs)
fields_written m fs gs i same all so_far = view-Object m ∙ ap object (so_far ∙ ap fields_data (take_all i gs all ∙ same))
