-- Whether schema entries suit two parts of one commit, told from the two alone.
use Rattle.std.proofs.Common.{◌≡◌, ◌≢◌, ◌↔◌, ◌||◌, ◌&&◌, ℕ, Bool, true, false, not, is_some, List, [], ◌∷◌, Option, Some, None, refl, sym, ap, ◌∙◌, subst, inl, inr, ◌⊎◌}
use Rattle.std.specs.Bool.{beq}
use Rattle.std.specs.List.{AllByRecursion}
use Rattle.std.specs.Prelude.{IfSome, IsTrue}
use Rattle.st_ids.specs.Listing.{Has}
use Rattle.st_ids.specs.Order.{same_rev}
use Rattle.st_ids.specs.Root.{opening}
use Rattle.st_ids.specs.declared.names.Rev.{Rev}
use Rattle.st_ids.proofs.Orders.{same_rev-itself, same_rev-true}
use Rattle.st_lemmas.proofs.Bools.{and-both, and-true, both-ways-same, not-true, true-false}
use Rattle.st_lemmas.proofs.Options.{one_some}
use Rattle.st_marks.specs.declared.changes.Change.{Change}
use Rattle.st_marks.specs.declared.schemas.SchemaEntry.{SchemaEntry}
use Rattle.st_marks.specs.Agree.{CanBeParts, HaveSchemasOfParts, MadeAt, SchemasAtChange}
use Rattle.st_marks.specs.Document.{CanBeInEffect, first_of, revs}
use Rattle.st_marks.specs.Listings.{Places, listing_after_change}
use Rattle.st_marks.specs.Verdict.{HasBase}
use Rattle.st_part_rings.specs.Under.{HasRing}
use Rattle.st_join_parts.specs.inside.Parts.{are_of_one, bases_fit}

same-as : (a b : Rev) → a ≡ b → same_rev a b ≡ true
same-as a b e = subst (λ z. same_rev a z ≡ true) e (same_rev-itself a)

same-truth : (a b : Bool) → a ≡ b → beq a b ≡ true
same-truth true b e = subst (λ z. beq true z ≡ true) e refl
same-truth false b e = subst (λ z. beq false z ≡ true) e refl

truth-same : (a b : Bool) → beq a b ≡ true → a ≡ b
truth-same true true e = refl
truth-same true false e = cc
truth-same false true e = cc
truth-same false false e = refl

-- ## Of one commit

-- they are of one commit under one schema, and bring none
pub record AreOfOne (C K : Change) : Type 0 where
  pub one_rev : C.rev ≡ K.rev
  pub one_under : C.under ≡ K.under
  pub no_schema : C.schema ≡ None
  pub no_schema_then : K.schema ≡ None

none-there : {A : Type 0} (o : Option A) → not (is_some o) ≡ true → o ≡ None
none-there None e = refl
none-there (Some a) e = cc

pub of_one : (C K : Change) → are_of_one C K ≡ true → AreOfOne C K
of_one C K e =
    let a = and-true (same_rev C.rev K.rev && same_rev C.under K.under && not (is_some C.schema)) (not (is_some K.schema)) e in
    let b = and-true (same_rev C.rev K.rev && same_rev C.under K.under) (not (is_some C.schema)) a.0 in
    let d = and-true (same_rev C.rev K.rev) (same_rev C.under K.under) b.0 in
    record { one_rev = same_rev-true C.rev K.rev d.0; one_under = same_rev-true C.under K.under d.1; no_schema = none-there C.schema b.1; no_schema_then = none-there K.schema a.1 }

one_of : (C K : Change) → AreOfOne C K → are_of_one C K ≡ true
one_of C K w = and-both (same_rev C.rev K.rev && same_rev C.under K.under && not (is_some C.schema)) (not (is_some K.schema))
    (and-both (same_rev C.rev K.rev && same_rev C.under K.under) (not (is_some C.schema)) (and-both (same_rev C.rev K.rev) (same_rev C.under K.under) (same-as C.rev K.rev w.one_rev) (same-as C.under K.under w.one_under))
    (ap (λ (o : Option (List ℕ)). not (is_some o)) w.no_schema))
    (ap (λ (o : Option (List ℕ)). not (is_some o)) w.no_schema_then)

abbrev entry : Rev → SchemaEntry
entry r = record { rev = r; text = [] }

-- ## Entries that suit both

-- a change of data that says of its schema what the entries have
at_change : (C : Change) (b : Bool) (under : Rev) (es : List SchemaEntry) → C.schema ≡ None → C.base ≡ b → C.under ≡ under → CanBeInEffect es → (IsTrue b ↔ Has (revs es) under) → SchemasAtChange es C
at_change C b under es plain base is w suits = record {
  in_effect = w;
  base = subst (λ (o : Option (List ℕ)). IsTrue C.base ↔ HasBase es o C.under) (sym plain) (subst (λ x. IsTrue x ↔ Has (revs es) C.under) (sym base) (subst (λ u. IsTrue b ↔ Has (revs es) u) (sym is) suits));
  fresh = subst (λ (o : Option (List ℕ)). IfSome o (λ _. AllByRecursion (λ (e : SchemaEntry). e.rev ≢ C.rev) es)) (sym plain) tt;
}

one : CanBeInEffect (entry opening ∷ [])
one = record { begun = refl; once = (tt, tt) }

two : (r : Rev) → r ≢ opening → CanBeInEffect (entry opening ∷ entry r ∷ [])
two r apart = record { begun = refl; once = ((apart, tt), (tt, tt)) }

module _ (C K : Change) (of : AreOfOne C K) where
  both : (b : Bool) (es : List SchemaEntry) → C.base ≡ b → K.base ≡ b → CanBeInEffect es → (IsTrue b ↔ Has (revs es) C.under) → HaveSchemasOfParts C K
  both b es mine yours w suits = (
    es,
    at_change C b C.under es of.no_schema mine refl w suits,
    at_change K b C.under es of.no_schema_then yours (sym of.one_under) w suits,
  )

  pub have_schemas : bases_fit C K ≡ true → HaveSchemasOfParts C K
  have_schemas h = go C.base refl (sym (truth-same C.base K.base p.0)) p.1
    where
      p : (beq C.base K.base ≡ true) × ((C.base || not (same_rev C.under opening)) ≡ true)
      p = and-true (beq C.base K.base) (C.base || not (same_rev C.under opening)) h

      go : (b : Bool) → C.base ≡ b → K.base ≡ C.base → (b || not (same_rev C.under opening)) ≡ true → HaveSchemasOfParts C K
      go true e f q = under (same_rev C.under opening) refl
        where
          under : (k : Bool) → same_rev C.under opening ≡ k → HaveSchemasOfParts C K
          under true k = both true (entry opening ∷ []) e (f ∙ e) one ((λ t. inl (sym (same_rev-true C.under opening k))), (λ h. refl))
          under false k = both true (entry opening ∷ entry C.under ∷ []) e (f ∙ e) (two C.under (λ q. true-false (same-as C.under opening q) k)) ((λ t. inr (inl refl)), (λ h. refl))
      go false e f q = both false (entry opening ∷ []) e (f ∙ e) one (
        (λ t. absurd (let bad : ◌≡◌ {A = Bool} false true = t in cc)),
        (λ h. apart h),
      )
        where
          apart : Has (revs (entry opening ∷ [])) C.under → IsTrue false
          apart (inl r) = absurd (true-false (same-as C.under opening (sym r)) (not-true (same_rev C.under opening) q))
          apart (inr r) = absurd r

  -- ## What entries that suit both say

  first-has : (es : List SchemaEntry) (r : Rev) → first_of (revs es) ≡ Some r → Has (revs es) r
  first-has [] r e = cc
  first-has (x ∷ es) r e = inl (one_some x.rev r e)

  base_of : (X : Change) (es : List SchemaEntry) → X.schema ≡ None → SchemasAtChange es X → IsTrue X.base ↔ Has (revs es) X.under
  base_of X es plain at = subst (λ (o : Option (List ℕ)). IsTrue X.base ↔ HasBase es o X.under) plain at.base

  pub suits : HaveSchemasOfParts C K → bases_fit C K ≡ true
  suits (es, a, b) =
      let mine = base_of C es of.no_schema a in
      let yours = subst (λ u. IsTrue K.base ↔ Has (revs es) u) (sym of.one_under) (base_of K es of.no_schema_then b) in
      and-both (beq C.base K.base) (C.base || not (same_rev C.under opening))
      (same-truth C.base K.base (both-ways-same C.base K.base (λ t. yours.1 (mine.0 t)) (λ t. mine.1 (yours.0 t))))
      (opening_is C.base (same_rev C.under opening) refl (λ k. mine.1 (subst (Has (revs es)) (sym (same_rev-true C.under opening k)) (first-has es opening a.in_effect.begun))))
    where
      opening_is : (b k : Bool) → same_rev C.under opening ≡ k → (same_rev C.under opening ≡ true → b ≡ true) → (b || not k) ≡ true
      opening_is true k e f = refl
      opening_is false false e f = refl
      opening_is false true e f = absurd (let bad : ◌≡◌ {A = Bool} false true = f e in cc)

-- ## All together

pub not_of_one : (C K : Change) → are_of_one C K ≡ false → CanBeParts C K → ⊥
not_of_one C K e w = true-false (one_of C K (record { one_rev = w.one_rev; one_under = w.one_under; no_schema = w.no_schema.0; no_schema_then = w.no_schema.1 })) e

pub ring_breaks : (C K : Change) → HasRing (Places (listing_after_change C)) ⊎ HasRing (MadeAt C K) → CanBeParts C K → ⊥
ring_breaks C K (inl r) w = w.first_no_ring r.0 r.1
ring_breaks C K (inr r) w = w.made_no_ring r.0 r.1

pub parts : (C K : Change) → AreOfOne C K → (HasRing (Places (listing_after_change C)) ⊎ HasRing (MadeAt C K) → ⊥) → CanBeParts C K
parts C K w none = record {
  one_rev = w.one_rev;
  one_under = w.one_under;
  no_schema = (w.no_schema, w.no_schema_then);
  first_no_ring = λ n l. none (inl (n, l));
  made_no_ring = λ n l. none (inr (n, l));
}

pub not_not : (b : Bool) → not b ≡ false → b ≡ true
not_not true e = refl
not_not false e = cc
