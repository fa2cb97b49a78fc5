-- The schemas in effect after a step.
use Rattle.std.proofs.Common.{◌≡◌, ◌-◌, ℕ, suc, Bool, true, false, ◌||◌, ◌&&◌, not, List, [], ◌∷◌, ◌++◌, length, slice_get, Option, Some, None, refl, sym, ap, ◌∙◌, subst, inl, inr, ◌↔◌, IsTrue, arith}
use Rattle.std.proofs.lemmas.Option.{same_Some}
use Rattle.std.specs.List.{last_or, list_any}
use Rattle.std.specs.Option.{option_map_or}
use Rattle.st_ids.specs.Listing.{AreDistinct, Has}
use Rattle.st_ids.specs.Order.{same_rev}
use Rattle.st_ids.proofs.Orders.{same_rev-itself, same_rev-true}
use Rattle.st_ids.specs.declared.names.Rev.{Rev}
use Rattle.st_marks.specs.declared.schemas.SchemaEntry.{SchemaEntry}
use Rattle.st_marks.specs.declared.changes.Change.{Change}
use Rattle.st_marks.specs.declared.intents.Intent.{Intent}
use Rattle.st_marks.specs.declared.schemas.SchemaStep.{SchemaStep}
use Rattle.st_marks.specs.declared.steps.Step.{Step}
use Rattle.st_marks.specs.Document.{Document, last_of, revs}
use Rattle.st_marks.specs.Embedding.{IsEmbedding}
use Rattle.st_marks.specs.Extends.{IsExtendedBy}
use Rattle.st_marks.specs.Step.{IsSchemaStep, IsStep}
use Rattle.st_marks.specs.Verdict.{HasBase, IsBaseInEffect}
use Rattle.st_lean.specs.inside.Base.{IsBaseOver}
use Rattle.st_marks.proofs.Members.{any-has, append_left, append_right, distinct-between, has-any, has-append, has-map, map-has}

-- ## The last entry

abbrev pub rev_of : SchemaEntry → Rev
rev_of e = e.rev

-- the last of some items, by its place
last-at : {A : Type 0} (xs : List A) → last_of xs ≡ slice_get xs (length xs - 1)
last-at [] = refl
last-at (x ∷ []) = refl
last-at (x ∷ (y ∷ xs)) =
    let e : suc (suc (length xs)) - 1 ≡ suc (suc (length xs) - 1) = omega arith in
    last-at (y ∷ xs) ∙ ap (slice_get (x ∷ (y ∷ xs))) (sym e)

pub last-none : (add : List SchemaEntry) (on : Rev) (es : List SchemaEntry) → es ≡ add → None ≡ slice_get es (length es - 1) → on ≡ option_map_or rev_of (last_of add) on
last-none add on es e at = ap (λ o. option_map_or rev_of o on) (at ∙ sym (last-at es) ∙ ap last_of e)

pub last-some : (add : List SchemaEntry) (on : Rev) (es : List SchemaEntry) (x : SchemaEntry) → es ≡ add → Some x ≡ slice_get es (length es - 1) → x.rev ≡ option_map_or rev_of (last_of add) on
last-some add on es x e at = ap (λ o. option_map_or rev_of o on) (at ∙ sym (last-at es) ∙ ap last_of e)

last-told : (o : Option SchemaEntry) (on : Rev) (more : List SchemaEntry) → last_or (Some (option_map_or rev_of o on)) (revs more) ≡ Some (option_map_or rev_of (last_or o more) on)
last-told o on [] = refl
last-told o on (x ∷ more) = last-told (Some x) on more

-- ## What is told of entries

there : (es : List SchemaEntry) (u : Rev) → Has (revs es) u → list_any (λ (e : SchemaEntry). same_rev e.rev u) es ≡ true
there es u h = let w = has-map (λ (e : SchemaEntry). e.rev) es u h in has-any (λ (e : SchemaEntry). same_rev e.rev u) es w.0 w.1 (ap (λ r. same_rev r u) w.2 ∙ same_rev-itself u)

told : (es : List SchemaEntry) (u : Rev) → list_any (λ (e : SchemaEntry). same_rev e.rev u) es ≡ true → (e : SchemaEntry) × Has es e × (e.rev ≡ u)
told es u h = let w = any-has (λ (e : SchemaEntry). same_rev e.rev u) es h in (w.0, w.1, same_rev-true w.0.rev u w.2)

-- data: the schema comes, or was there and doesn't go
pub data_base : (front cut add : List SchemaEntry) (u : Rev) (base : Bool) → AreDistinct (λ (e : SchemaEntry). e.rev) (front ++ cut) → IsTrue base ↔ Has (revs (front ++ cut)) u
    → IsTrue (list_any (λ (e : SchemaEntry). same_rev e.rev u) add || (base && not (list_any (λ (e : SchemaEntry). same_rev e.rev u) cut))) ↔ Has (revs (front ++ add)) u
data_base front cut add u base once b = (into, back)
  where
    into : IsTrue (list_any (λ (e : SchemaEntry). same_rev e.rev u) add || (base && not (list_any (λ (e : SchemaEntry). same_rev e.rev u) cut))) → Has (revs (front ++ add)) u
    into h = go (list_any (λ (e : SchemaEntry). same_rev e.rev u) add) refl base refl (list_any (λ (e : SchemaEntry). same_rev e.rev u) cut) refl h
      where
        go : (a : Bool) → list_any (λ (e : SchemaEntry). same_rev e.rev u) add ≡ a → (d : Bool) → base ≡ d → (c : Bool) → list_any (λ (e : SchemaEntry). same_rev e.rev u) cut ≡ c → IsTrue (a || (d && not c)) → Has (revs (front ++ add)) u
        go true e d f c k h = let w = told add u e in subst (Has (revs (front ++ add))) w.2 (map-has (λ (e : SchemaEntry). e.rev) (front ++ add) w.0 (append_right front add w.0 w.1))
        go false e false f c k h = cc
        go false e true f true k h = cc
        go false e true f false k h =
            let w = has-map (λ (e : SchemaEntry). e.rev) (front ++ cut) u (b.0 f) in
            elim (has-append front cut w.0 w.1) [
              | inl i ↦ subst (Has (revs (front ++ add))) w.2 (map-has (λ (e : SchemaEntry). e.rev) (front ++ add) w.0 (append_left front add w.0 i))
              | inr i ↦ (let bad : ◌≡◌ {A = Bool} false true = sym k ∙ has-any (λ (e : SchemaEntry). same_rev e.rev u) cut w.0 i (ap (λ r. same_rev r u) w.2 ∙ same_rev-itself u) in cc)
            ]

    or_second : (a c : Bool) → c ≡ true → (a || c) ≡ true
    or_second true c e = refl
    or_second false c e = e

    or_first : (a c : Bool) → a ≡ true → (a || c) ≡ true
    or_first a c e = ap (λ z. z || c) e

    back : Has (revs (front ++ add)) u → IsTrue (list_any (λ (e : SchemaEntry). same_rev e.rev u) add || (base && not (list_any (λ (e : SchemaEntry). same_rev e.rev u) cut)))
    back h =
        let w = has-map (λ (e : SchemaEntry). e.rev) (front ++ add) u h in
        elim (has-append front add w.0 w.1) [
          | inr i ↦ or_first (list_any (λ (e : SchemaEntry). same_rev e.rev u) add) _ (has-any (λ (e : SchemaEntry). same_rev e.rev u) add w.0 i (ap (λ r. same_rev r u) w.2 ∙ same_rev-itself u))
          | inl i ↦ or_second (list_any (λ (e : SchemaEntry). same_rev e.rev u) add) _ (stays w.0 i w.2 (list_any (λ (e : SchemaEntry). same_rev e.rev u) cut) refl)
        ]
      where
        stays : (e : SchemaEntry) → Has front e → e.rev ≡ u → (c : Bool) → list_any (λ (e : SchemaEntry). same_rev e.rev u) cut ≡ c → (base && not c) ≡ true
        stays e i f true k = let v = told cut u k in absurd (distinct-between (λ (e : SchemaEntry). e.rev) front cut e v.0 once i v.1 (v.2 ∙ sym f))
        stays e i f false k = ap (λ z. z && true) (b.1 (subst (Has (revs (front ++ cut))) f (map-has (λ (e : SchemaEntry). e.rev) (front ++ cut) e (append_left front cut e i))))

-- schema: the last of what is there after
last-behind : (d : Option Rev) (front more : List SchemaEntry) → last_or d (revs (front ++ more)) ≡ last_or (last_or d (revs front)) (revs more)
last-behind d [] more = refl
last-behind d (x ∷ front) more = last-behind (Some x.rev) front more

pub schema_base : (front add : List SchemaEntry) (on u : Rev) → last_of (revs front) ≡ Some on → IsTrue (same_rev (option_map_or rev_of (last_of add) on) u) ↔ (last_of (revs (front ++ add)) ≡ Some u)
schema_base front add on u e =
    let last : last_of (revs (front ++ add)) ≡ Some (option_map_or rev_of (last_of add) on) = last-behind None front add ∙ ap (λ d. last_or d (revs add)) e ∙ last-told None on add in (
      (λ h. last ∙ ap (λ r. Some r) (same_rev-true (option_map_or rev_of (last_of add) on) u h)),
      (λ h. ap (λ r. same_rev r u) (same_Some (option_map_or rev_of (last_of add) on) u (sym last ∙ h)) ∙ same_rev-itself u),
    )

-- ## Over a step

module _ (part : SchemaStep) (C : Change) where
  pub data_over : C.schema ≡ None → (b : Bool) → b ≡ (list_any (λ (e : SchemaEntry). same_rev e.rev C.under) part.add || (C.base && not (list_any (λ (e : SchemaEntry). same_rev e.rev C.under) part.cut))) → IsBaseOver part C b
  data_over none b e before after sound step base =
      let here : IsTrue C.base ↔ Has (revs (step.0 ++ part.cut)) C.under = subst (λ es. IsTrue C.base ↔ Has (revs es) C.under) step.1 (subst (λ s. IsTrue C.base ↔ HasBase before s C.under) none base) in
      let once : AreDistinct rev_of (step.0 ++ part.cut) = subst (AreDistinct rev_of) step.1 sound.once in
      subst (λ s. IsTrue b ↔ HasBase after s C.under) (sym none) (subst (λ es. IsTrue b ↔ Has (revs es) C.under) (sym step.2)
      (subst (λ z. IsTrue z ↔ Has (revs (step.0 ++ part.add)) C.under) (sym e) (data_base step.0 part.cut part.add C.under C.base once here)))

  pub schema_over : (t : List ℕ) → C.schema ≡ Some t → (b : Bool) → b ≡ same_rev (option_map_or rev_of (last_of part.add) part.on) C.under → IsBaseOver part C b
  schema_over t schema b e before after sound step base =
      subst (λ s. IsTrue b ↔ HasBase after s C.under) (sym schema) (subst (λ es. IsTrue b ↔ (last_of (revs es) ≡ Some C.under)) (sym step.2)
      (subst (λ z. IsTrue z ↔ (last_of (revs (step.0 ++ part.add)) ≡ Some C.under)) (sym e) (schema_base step.0 part.add part.on C.under step.3)))

-- over documents
pub later_none : (D E : Document) (N : Intent) (C : Change) (S : Step) → IsEmbedding D N C → IsStep D E S → S.schema ≡ None → IsTrue C.base ↔ IsBaseInEffect E N
later_none D E N C S change step e =
    let same : D.schemas ≡ E.schemas = subst (IsSchemaStep D.schemas E.schemas) e step.schema in
    subst (λ es. IsTrue C.base ↔ HasBase es N.schema N.under) same change.base

pub later_some : (D E : Document) (N : Intent) (C : Change) (S : Step) (part : SchemaStep) (b : Bool) → IsExtendedBy D E → IsEmbedding D N C → IsStep D E S → S.schema ≡ Some part → IsBaseOver part C b → IsTrue b ↔ IsBaseInEffect E N
later_some D E N C S part b x change step e over =
    let moved : IsSchemaStep D.schemas E.schemas (Some part) = subst (IsSchemaStep D.schemas E.schemas) e step.schema in
    let here : IsTrue C.base ↔ HasBase D.schemas C.schema C.under = subst (λ s. IsTrue C.base ↔ HasBase D.schemas s C.under) (sym change.schema) (subst (λ u. IsTrue C.base ↔ HasBase D.schemas N.schema u) (sym change.under) change.base) in
    subst (λ s. IsTrue b ↔ HasBase E.schemas s N.under) change.schema (subst (λ u. IsTrue b ↔ HasBase E.schemas C.schema u) change.under (over D.schemas E.schemas x.before.in_effect moved here))
