-- Schema entries in two parts.
use Rattle.std.proofs.Common.{◌≡◌, ◌≢◌, ◌↔◌, ◌++◌, ℕ, IsTrue, IfSome, Bool, true, not, List, [], ◌∷◌, Option, Some, None, refl, sym, ap, ◌∙◌, subst, inl, inr}
use Rattle.std.specs.List.{AllByRecursion, last_or, list_any}
use Rattle.st_ids.specs.Listing.{Has}
use Rattle.st_ids.specs.Order.{same_rev}
use Rattle.st_ids.specs.declared.names.Rev.{Rev}
use Rattle.st_ids.proofs.Orders.{same_rev-itself, same_rev-true}
use Rattle.st_marks.specs.declared.schemas.SchemaEntry.{SchemaEntry}
use Rattle.st_marks.specs.Document.{last_of, revs}
use Rattle.st_marks.specs.Verdict.{HasBase}
use Rattle.st_marks.proofs.Members.{all-has, has-all, has-map, map-has}
use Rattle.st_lemmas.proofs.Bools.{not-true, or-cases, or-left, or-right, refuted-false, true-false}

-- ## The last

last-append : (d : Option Rev) (front more : List SchemaEntry) → last_or d (revs (front ++ more)) ≡ last_or (last_or d (revs front)) (revs more)
last-append d [] more = refl
last-append d (e ∷ front) more = last-append (Some e.rev) front more

pub last_behind_none : (front behind : List SchemaEntry) → last_of (revs behind) ≡ None → last_of (revs (front ++ behind)) ≡ last_of (revs front)
last_behind_none front [] e = last-append None front []
last_behind_none front (x ∷ behind) e = absurd (some x.rev behind e)
  where
    some : (r : Rev) (es : List SchemaEntry) → last_or (Some r) (revs es) ≡ None → ⊥
    some r [] e = cc
    some r (y ∷ es) e = some y.rev es e

pub last_behind : (front behind : List SchemaEntry) → last_of (revs behind) ≢ None → last_of (revs (front ++ behind)) ≡ last_of (revs behind)
last_behind front [] e = absurd (e refl)
last_behind front (x ∷ behind) e = last-append None front (x ∷ behind)

-- ## Whether one is of a revision

pub any_rev : (es : List SchemaEntry) (r : Rev) → (list_any (λ (e : SchemaEntry). same_rev e.rev r) es ≡ true) ↔ Has (revs es) r
any_rev [] r = (λ e. cc, λ h. absurd h)
any_rev (x ∷ es) r =
    let rest = any_rev es r in (
      λ e. elim (or-cases (same_rev x.rev r) (list_any (λ (e : SchemaEntry). same_rev e.rev r) es) e) [ inl t ↦ inl (same_rev-true x.rev r t) | inr t ↦ inr (rest.0 t) ],
      λ h. elim h [ inl e ↦ or-left (same_rev x.rev r) (list_any (λ (e : SchemaEntry). same_rev e.rev r) es) (ap (same_rev x.rev) (sym e) ∙ same_rev-itself x.rev) | inr i ↦ or-right (same_rev x.rev r) (list_any (λ (e : SchemaEntry). same_rev e.rev r) es) (rest.1 i) ],
    )

no_rev : (es : List SchemaEntry) (r : Rev) → IsTrue (not (list_any (λ (e : SchemaEntry). same_rev e.rev r) es)) ↔ AllByRecursion (λ (e : SchemaEntry). e.rev ≢ r) es
no_rev es r = (
  λ t. has-all (λ (e : SchemaEntry). e.rev ≢ r) es (λ e h q. true-false ((any_rev es r).1 (subst (Has (revs es)) q (map-has (λ (e : SchemaEntry). e.rev) es e h))) (not-true _ t)),
  λ a. ap not (refuted-false _ (λ t. let f = has-map (λ (e : SchemaEntry). e.rev) es r ((any_rev es r).0 t) in all-has (λ (e : SchemaEntry). e.rev ≢ r) es f.0 a f.1 f.2)),
)

pub base_of_data : (es : List SchemaEntry) (o : Option (List ℕ)) (u : Rev) (b : Bool) → o ≡ None → b ≡ list_any (λ (e : SchemaEntry). same_rev e.rev u) es → IsTrue b ↔ HasBase es o u
base_of_data es o u b e f = subst (λ o. IsTrue b ↔ HasBase es o u) (sym e) (subst (λ c. IsTrue c ↔ Has (revs es) u) (sym f) (any_rev es u))

pub schema_is_new : (es : List SchemaEntry) (o : Option (List ℕ)) (s : List ℕ) (r : Rev) (b : Bool) → o ≡ Some s → b ≡ list_any (λ (e : SchemaEntry). same_rev e.rev r) es
    → IsTrue (not b) ↔ IfSome o (λ _. AllByRecursion (λ (e : SchemaEntry). e.rev ≢ r) es)
schema_is_new es o s r b e f =
    subst (λ o. IsTrue (not b) ↔ IfSome o (λ _. AllByRecursion (λ (e : SchemaEntry). e.rev ≢ r) es)) (sym e)
    (subst (λ c. IsTrue (not c) ↔ AllByRecursion (λ (e : SchemaEntry). e.rev ≢ r) es) (sym f) (no_rev es r))
