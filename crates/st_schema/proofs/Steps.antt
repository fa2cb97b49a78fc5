-- One more field is read.
use Rattle.std.proofs.Common.{◌≡◌, ◌∙◌, ℕ, List, [], ◌∷◌, ◌++◌, Option, None, Some, option_map, option_and_then, String, string_bytes, refl, sym, ap, append_assoc}
use Rattle.std.specs.declared.alloc.Global.{Global}
use Rattle.serde_json.specs.View.{view, members_view}
use Rattle.serde_json.specs.declared.value.Value.{Value}
use Rattle.st_schema.specs.Reading.{field_of_data, fields_of_members}
use Rattle.st_schema.specs.declared.names.FieldDef.{FieldDef}

moved : (old : List FieldDef) (f : FieldDef) (o : Option (List FieldDef)) → option_map (λ fs. (old ++ f ∷ []) ++ fs) o ≡ option_map (λ fs. old ++ fs) (option_map (λ fs. f ∷ fs) o)
moved old f None = refl
moved old f (Some fs) = ap Some (append_assoc old (f ∷ []) fs)

pub fields_next : (old new : List FieldDef) (left rest : List (String Global × Value)) (key : String Global) (name : List ℕ) (v : Value) (f : FieldDef) (all : Option (List FieldDef))
    → left ≡ (key, v) ∷ rest → name ≡ string_bytes key → field_of_data name (view v) ≡ Some f → new ≡ old ++ f ∷ []
    → option_map (λ fs. old ++ fs) (fields_of_members (members_view left)) ≡ all → option_map (λ fs. new ++ fs) (fields_of_members (members_view rest)) ≡ all
fields_next old new left rest key name v f all first named read put so_far =
    let r = fields_of_members (members_view rest) in
    ap (λ (gs : List FieldDef). option_map (λ fs. gs ++ fs) r) put
    ∙ moved old f r
    ∙ ap (λ (o : Option FieldDef). option_map (λ fs. old ++ fs) (option_and_then (λ g. option_map (λ fs. g ∷ fs) r) o)) (sym read ∙ ap (λ k. field_of_data k (view v)) named)
    ∙ ap (λ es. option_map (λ fs. old ++ fs) (fields_of_members (members_view es))) (sym first)
    ∙ so_far
