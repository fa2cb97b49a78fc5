-- Each declared field of a schema is found by its key, since keys rise.
use Rattle.std.proofs.Common.{◌≡◌, ◌≢◌, ℕ, true, List, [], ◌∷◌, map, length, nat_le, Some, refl, sym, ap, ◌∙◌, inl, inr}
use Rattle.std.specs.List.{list_all}
use Rattle.std.specs.Ordering.{nat_cmp, is_lt}
use Rattle.std.specs.Cmp.Lexicographic.{slice_cmp, nat_list_cmp_total, bytes_decides}
use Rattle.std.specs.declared.cmp.Ordering.TheVariants.{Less, Equal}
use Rattle.std.proofs.lemmas.Cmp.{tied_itself}
use Rattle.st_ids.specs.Listing.{AreDistinct, Has}
use Rattle.st_schema.specs.Schema.{SchemaView, same, form_of, declared_field, field_is_sound, form_is_sound, defs_rise, type_names, forms_are_sound, names_are_sound, is_sound}
use Rattle.st_schema.specs.declared.names.FieldDef.{FieldDef}
use Rattle.st_schema.specs.declared.names.Form.TheVariants.{Object}
use Rattle.st_schema.proofs.Forms.{text_same}
use Rattle.st_marks.proofs.Members.{has-all, first-distinct}
use Rattle.st_edits.proofs.Fits.{all_pass, looked_up}
use Rattle.st_lemmas.proofs.Bools.{and-true}
use Rattle.st_lemmas.proofs.Orders.{is_lt-Less}

above_all : (before : List ℕ) (defs : List FieldDef) → defs_rise before defs ≡ true → (d : FieldDef) → Has defs d → slice_cmp nat_cmp before d.key.0 ≡ Less
above_all before [] e d h = absurd h
above_all before (f ∷ fs) e d (inl q) = ap (λ (g : FieldDef). slice_cmp nat_cmp before g.key.0) (sym q) ∙ is_lt-Less _ (and-true _ _ e).0
above_all before (f ∷ fs) e d (inr h) = let b = and-true _ _ e in nat_list_cmp_total.trans before f.key.0 d.key.0 (is_lt-Less _ b.0) (above_all f.key.0 fs b.1 d h)

defs_distinct : (before : List ℕ) (defs : List FieldDef) → defs_rise before defs ≡ true → AreDistinct (λ (f : FieldDef). f.key.0) defs
defs_distinct before [] e = tt
defs_distinct before (f ∷ fs) e =
    let rest : defs_rise f.key.0 fs ≡ true = (and-true (is_lt (slice_cmp nat_cmp before f.key.0)) (defs_rise f.key.0 fs) e).1 in (
      has-all (λ (g : FieldDef). g.key.0 ≢ f.key.0) fs (λ g h same.
          let less : slice_cmp nat_cmp f.key.0 g.key.0 ≡ Less = above_all f.key.0 fs rest g h in
          let bad : Equal ≡ Less = sym (tied_itself nat_list_cmp_total f.key.0) ∙ ap (slice_cmp nat_cmp f.key.0) (sym same) ∙ less in
          absurd (cc bad)),
      defs_distinct f.key.0 fs rest,
    )

pub rising_defs : (s : SchemaView) → is_sound s ≡ true → (ty : List ℕ) (defs : List FieldDef) (d : FieldDef) → form_of s.types ty ≡ Some (Object defs) → Has defs d → declared_field defs d.key.0 ≡ Some d
rising_defs s sound ty defs d e h =
    let forms = (and-true (forms_are_sound s.types) _ (and-true (names_are_sound (type_names s.types)) _ sound).1).0 in
    let form = all_pass (form_is_sound (type_names s.types)) (map (λ d. d.1) s.types) (Object defs) forms (looked_up (same ty) s.types (Object defs) e) in
    let rise = (and-true (list_all (field_is_sound (type_names s.types)) defs) _ (and-true (nat_le (length defs) 64) _ form).1).1 in
    first-distinct (λ (f : FieldDef). f.key.0) defs (λ (f : FieldDef). same f.key.0 d.key.0) d (defs_distinct [] defs rise) h ((bytes_decides d.key.0 d.key.0).1 refl) (λ f t. text_same f.key.0 d.key.0 t)
