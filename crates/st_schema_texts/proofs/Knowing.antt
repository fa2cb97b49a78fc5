-- A schema that comes to those that are known.
use Rattle.std.proofs.Common.{◌≡◌, ◌∙◌, ℕ, Bool, true, false, List, Some, None, IsSome, cond, refl, sym, ap, subst}
use Rattle.std.specs.Cmp.Lexicographic.{slice_cmp}
use Rattle.std.specs.Ordering.{is_eq, nat_cmp}
use Rattle.std.proofs.lemmas.Map.Lookups.{exact_bytes}
use Rattle.st_ids.proofs.Orders.{is_eq_equal}
use Rattle.st_schema.specs.Schema.{SchemaView}
use Rattle.st_schema_texts.specs.Known.{AreRead, known_of}
use Rattle.st_schema_texts.specs.Reading.{IsSchemaOf}

module _ (old new : List (List ℕ × SchemaView)) (text : List ℕ) (s : SchemaView) (put : (t : List ℕ) → known_of new t ≡ cond (is_eq (slice_cmp nat_cmp text t)) (Some s) (known_of old t)) where
  pub put_read : IsSchemaOf text (Some s) → AreRead old → AreRead new
  put_read is read t v at = go (is_eq (slice_cmp nat_cmp text t)) refl (sym (put t) ∙ at)
    where
      go : (b : Bool) → is_eq (slice_cmp nat_cmp text t) ≡ b → cond b (Some s) (known_of old t) ≡ Some v → IsSchemaOf t (Some v)
      go true e here =
          let same : text ≡ t = exact_bytes text t (is_eq_equal (slice_cmp nat_cmp text t) e) in
          subst (IsSchemaOf t) here (subst (λ u. IsSchemaOf u (Some s)) same is)
      go false e there = read t v there

  put_stays : known_of old text ≡ None → (t : List ℕ) → IsSome (known_of old t) → known_of new t ≡ known_of old t
  put_stays none t some = put t ∙ go (is_eq (slice_cmp nat_cmp text t)) refl
    where
      go : (b : Bool) → is_eq (slice_cmp nat_cmp text t) ≡ b → cond b (Some s) (known_of old t) ≡ known_of old t
      go true e =
          let same : text ≡ t = exact_bytes text t (is_eq_equal (slice_cmp nat_cmp text t) e) in
          let there : false ≡ true = subst IsSome (ap (known_of old) (sym same) ∙ none) some in
          absurd (cc)
      go false e = refl

  -- the same, of what they are seen as
  pub seen_stays : (seen : List (List ℕ × SchemaView)) → old ≡ seen → known_of seen text ≡ None → (t : List ℕ) → IsSome (known_of seen t) → known_of new t ≡ known_of seen t
  seen_stays seen e = subst (λ (l : List (List ℕ × SchemaView)). known_of l text ≡ None → (t : List ℕ) → IsSome (known_of l t) → known_of new t ≡ known_of l t) e put_stays
