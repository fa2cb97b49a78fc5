-- Schema entries that can be in effect where a change and a step stand.
use Rattle.std.proofs.Common.{◌≡◌, ◌≢◌, ◌↔◌, ◌||◌, ◌&&◌, ◌-◌, ◌+◌, ◌<◌, ℕ, suc, Bool, true, false, not, List, [], ◌∷◌, ◌++◌, Option, Some, None, length, slice_get, get_or, take, refl, sym, ap, ◌∙◌, subst, inl, inr, ◌⊎◌, arith}
use Rattle.std.specs.Bool.{beq}
use Rattle.std.specs.List.{AllByRecursion, last_or}
use Rattle.std.specs.Option.{option_map_or}
use Rattle.std.specs.Prelude.{IfSome, IsTrue}
use Rattle.st_ids.specs.Listing.{AreDistinct, Has}
use Rattle.st_ids.specs.Order.{same_rev}
use Rattle.st_ids.specs.Root.{opening}
use Rattle.st_ids.specs.declared.names.Rev.{Rev}
use Rattle.st_ids.proofs.Orders.{same_rev-itself, same_rev-true}
use Rattle.st_lemmas.proofs.Bools.{and-both, and-true, or-cases, or-left, or-right, not-true, true-false}
use Rattle.st_lemmas.proofs.FirstItems.{any_more}
use Rattle.st_lemmas.proofs.Lists.{map-append}
use Rattle.st_lemmas.proofs.Options.{one_some}
use Rattle.st_marks.specs.declared.changes.Change.{Change}
use Rattle.st_marks.specs.declared.schemas.SchemaEntry.{SchemaEntry}
use Rattle.st_marks.specs.declared.schemas.SchemaStep.{SchemaStep}
use Rattle.st_marks.specs.declared.steps.Step.{Step}
use Rattle.st_marks.specs.Agree.{HaveSchemasBeside, SchemasAtChange, SchemasOverStep}
use Rattle.st_marks.specs.Document.{CanBeInEffect, first_of, last_of, revs}
use Rattle.st_marks.specs.Step.{IsSchemaStep}
use Rattle.st_marks.specs.Verdict.{HasBase}
use Rattle.st_marks.proofs.Members.{all-has, has-any, append_left, append_right, distinct-append, distinct-between, distinct-left, has-all, has-append, has-map, map-has}
use Rattle.st_normal.specs.Rules.{AreEntriesBehind, SchemaStepFits}
use Rattle.st_clash.proofs.LeastFields.{there}
use Rattle.st_clash.specs.inside.Schemas.{has_rev, is_known, last_before, may_be_between, suits_alone, suits_data, suits_part, suits_schema}

-- the name of an entry
abbrev rev_of : SchemaEntry → Rev
rev_of e = e.rev

-- ## Revisions of entries

pub rev-has : (es : List SchemaEntry) (r : Rev) → has_rev es r ≡ true → Has (revs es) r
rev-has [] r e = cc
rev-has (x ∷ es) r e = elim (or-cases (same_rev x.rev r) (has_rev es r) e) [ inl f ↦ inl (same_rev-true x.rev r f) | inr f ↦ inr (rev-has es r f) ]

pub has-rev : (es : List SchemaEntry) (r : Rev) → Has (revs es) r → has_rev es r ≡ true
has-rev [] r h = absurd h
has-rev (x ∷ es) r (inl e) = or-left (same_rev x.rev r) (has_rev es r) (subst (λ z. same_rev x.rev z ≡ true) e (same_rev-itself x.rev))
has-rev (x ∷ es) r (inr h) = or-right (same_rev x.rev r) (has_rev es r) (has-rev es r h)

-- one that has it, among those that are gone through
pub rev-here : (es : List SchemaEntry) (r : Rev) (i : ℕ) (x : SchemaEntry) → i < length es → get_or es i x ≡ x → same_rev x.rev r ≡ true → has_rev es r ≡ true
rev-here es r i x l e t = let w = there es i l in has-any (λ (y : SchemaEntry). same_rev y.rev r) es x (subst (Has es) (sym (w.3 x) ∙ e) w.2) t

pub rev-not-yet : (es : List SchemaEntry) (r : Rev) (i : ℕ) (x : SchemaEntry) → i < length es → get_or es i x ≡ x → same_rev x.rev r ≡ false → has_rev (take i es) r ≡ false → has_rev (take (i + 1) es) r ≡ false
rev-not-yet es r i x l e t so_far = any_more (λ (y : SchemaEntry). same_rev y.rev r) es i x x l e ∙ (λ k. so_far k || t k)

same-as : (a b : Rev) → a ≡ b → same_rev a b ≡ true
same-as a b e = subst (λ z. same_rev a z ≡ true) e (same_rev-itself a)

-- in a front, or behind it
either-has : (front more : List SchemaEntry) (r : Rev) → Has (revs (front ++ more)) r → Has (revs front) r ⊎ Has (revs more) r
either-has front more r h = has-append (revs front) (revs more) r (subst (λ l. Has l r) (map-append rev_of front more) h)

front-has : (front more : List SchemaEntry) (r : Rev) → Has (revs front) r → Has (revs (front ++ more)) r
front-has front more r h = subst (λ l. Has l r) (sym (map-append rev_of front more)) (append_left (revs front) (revs more) r h)

more-has : (front more : List SchemaEntry) (r : Rev) → Has (revs more) r → Has (revs (front ++ more)) r
more-has front more r h = subst (λ l. Has l r) (sym (map-append rev_of front more)) (append_right (revs front) (revs more) r h)

-- no revision of the front is behind it
once-only : (front more : List SchemaEntry) (r : Rev) → AreDistinct rev_of (front ++ more) → Has (revs front) r → Has (revs more) r → ⊥
once-only front more r once h k =
    let a = has-map rev_of front r h in
    let b = has-map rev_of more r k in
    distinct-between rev_of front more a.0 b.0 once a.1 b.1 (b.2 ∙ sym a.2)

first-has : (es : List SchemaEntry) (r : Rev) → first_of (revs es) ≡ Some r → Has (revs es) r
first-has [] r e = cc
first-has (x ∷ es) r e = inl (one_some x.rev r e)

last-in : (d : Option Rev) (es : List SchemaEntry) (r : Rev) → last_or d (revs es) ≡ Some r → Has (revs es) r ⊎ (d ≡ Some r)
last-in d [] r e = inr e
last-in d (x ∷ es) r e = elim (last-in (Some x.rev) es r e) [ inl h ↦ inl (inr h) | inr f ↦ inl (inl (one_some x.rev r f)) ]

last-has : (es : List SchemaEntry) (r : Rev) → last_of (revs es) ≡ Some r → Has (revs es) r
last-has es r e = elim (last-in None es r e) [ inl h ↦ h | inr f ↦ (let bad : ◌≡◌ {A = Option Rev} None (Some r) = f in cc) ]

-- the last of some items, by its place
pub last-at : {A : Type 0} (xs : List A) → last_of xs ≡ slice_get xs (length xs - 1)
last-at [] = refl
last-at (x ∷ []) = refl
last-at (x ∷ (y ∷ xs)) =
    let e : suc (suc (length xs)) - 1 ≡ suc (suc (length xs) - 1) = omega arith in
    last-at (y ∷ xs) ∙ ap (slice_get (x ∷ (y ∷ xs))) (sym e)

-- the last of a front and more
last-behind : (d : Option Rev) (front more : List SchemaEntry) → last_or d (revs (front ++ more)) ≡ last_or (last_or d (revs front)) (revs more)
last-behind d [] more = refl
last-behind d (x ∷ front) more = last-behind (Some x.rev) front more

last-told : (o : Option SchemaEntry) (on : Rev) (more : List SchemaEntry) → last_or (Some (option_map_or rev_of o on)) (revs more) ≡ Some (option_map_or rev_of (last_or o more) on)
last-told o on [] = refl
last-told o on (x ∷ more) = last-told (Some x) on more

-- the last before a step is that of those that go, or else the last that both lists share
pub last-is : (s : SchemaStep) (front : List SchemaEntry) → last_of (revs front) ≡ Some s.on → last_of (revs (front ++ s.cut)) ≡ Some (last_before s)
last-is s front e = last-behind None front s.cut ∙ ap (λ d. last_or d (revs s.cut)) e ∙ last-told None s.on s.cut

pub last-of-none : (s : SchemaStep) (es : List SchemaEntry) → es ≡ s.cut → None ≡ slice_get es (length es - 1) → s.on ≡ last_before s
last-of-none s es e at = ap (λ o. option_map_or rev_of o s.on) (at ∙ sym (last-at es) ∙ ap last_of e)

pub last-of-some : (s : SchemaStep) (es : List SchemaEntry) (x : SchemaEntry) → es ≡ s.cut → Some x ≡ slice_get es (length es - 1) → x.rev ≡ last_before s
last-of-some s es x e at = ap (λ o. option_map_or rev_of o s.on) (at ∙ sym (last-at es) ∙ ap last_of e)

-- where the opening's entry is first and last, there is no other
only-opening : (front : List SchemaEntry) (r : Rev) → AreDistinct rev_of front → first_of (revs front) ≡ Some opening → last_of (revs front) ≡ Some opening → Has (revs front) r → r ≡ opening
only-opening [] r once e f h = absurd h
only-opening (x ∷ []) r once e f (inl g) = sym g ∙ one_some x.rev opening e
only-opening (x ∷ []) r once e f (inr h) = absurd h
only-opening (x ∷ (y ∷ more)) r once e f h =
    let o : x.rev ≡ opening = one_some x.rev opening e in
    let k : Has (revs (y ∷ more)) opening = last-has (y ∷ more) opening f in
    let w = has-map rev_of (y ∷ more) opening k in
    absurd (all-has (λ (z : SchemaEntry). z.rev ≢ x.rev) (y ∷ more) w.0 once.0 w.1 (w.2 ∙ sym o))

begins : (front more : List SchemaEntry) (r : Rev) → Has (revs front) r → first_of (revs (front ++ more)) ≡ Some opening → first_of (revs front) ≡ Some opening
begins [] more r h e = absurd h
begins (x ∷ front) more r h e = e

begun : (front more : List SchemaEntry) → first_of (revs front) ≡ Some opening → first_of (revs (front ++ more)) ≡ Some opening
begun [] more e = cc
begun (x ∷ front) more e = e

-- ## Known revisions

known-cases : (s : SchemaStep) (r : Rev) → is_known s r ≡ true → (r ≡ opening) ⊎ (r ≡ s.on) ⊎ Has (revs s.cut) r
known-cases s r e = elim (or-cases (same_rev r opening || same_rev r s.on) (has_rev s.cut r) e) [
  | inl f ↦ elim (or-cases (same_rev r opening) (same_rev r s.on) f) [ inl g ↦ inl (same_rev-true r opening g) | inr g ↦ inr (inl (same_rev-true r s.on g)) ]
  | inr f ↦ inr (inr (rev-has s.cut r f))
]

cases-known : (s : SchemaStep) (r : Rev) → (r ≡ opening) ⊎ (r ≡ s.on) ⊎ Has (revs s.cut) r → is_known s r ≡ true
cases-known s r (inl e) = or-left (same_rev r opening || same_rev r s.on) (has_rev s.cut r) (or-left (same_rev r opening) (same_rev r s.on) (same-as r opening e))
cases-known s r (inr (inl e)) = or-left (same_rev r opening || same_rev r s.on) (has_rev s.cut r) (or-right (same_rev r opening) (same_rev r s.on) (same-as r s.on e))
cases-known s r (inr (inr h)) = or-right (same_rev r opening || same_rev r s.on) (has_rev s.cut r) (has-rev s.cut r h)

not-so : (b : Bool) → (b ≡ true → ⊥) → not b ≡ true
not-so true e = absurd (e refl)
not-so false e = refl

same-truth : (a b : Bool) → (a ≡ true → b ≡ true) → (b ≡ true → a ≡ true) → beq a b ≡ true
same-truth true true f g = refl
same-truth true false f g = absurd (true-false (f refl) refl)
same-truth false true f g = absurd (true-false (g refl) refl)
same-truth false false f g = refl

truth-same : (a b : Bool) → beq a b ≡ true → a ≡ b
truth-same true true e = refl
truth-same true false e = cc
truth-same false true e = cc
truth-same false false e = refl

-- ## Where entries are in effect, the change suits the step

module _ (C : Change) (before after : List SchemaEntry) (at : SchemasAtChange before C) (before_in : CanBeInEffect before) (after_in : CanBeInEffect after) (fresh : IfSome C.schema (λ _. AllByRecursion (λ (e : SchemaEntry). e.rev ≢ C.rev) after)) where
  module _ (s : SchemaStep) (w : IsSchemaStep before after (Some s)) where
    abbrev front : List SchemaEntry
    front = w.0

    old : AreDistinct rev_of (front ++ s.cut)
    old = subst (AreDistinct rev_of) w.1 before_in.once

    new : AreDistinct rev_of (front ++ s.add)
    new = subst (AreDistinct rev_of) w.2 after_in.once

    on-there : Has (revs front) s.on
    on-there = last-has front s.on w.3

    first : first_of (revs front) ≡ Some opening
    first = begins front s.cut s.on on-there (subst (λ es. first_of (revs es) ≡ Some opening) w.1 before_in.begun)

    before-has : (r : Rev) → Has (revs before) r → Has (revs front) r ⊎ Has (revs s.cut) r
    before-has r h = either-has front s.cut r (subst (λ es. Has (revs es) r) w.1 h)

    has-before : (r : Rev) → Has (revs (front ++ s.cut)) r → Has (revs before) r
    has-before r h = subst (λ es. Has (revs es) r) (sym w.1) h

    known-there : (r : Rev) → is_known s r ≡ true → Has (revs before) r
    known-there r e = elim (known-cases s r e) [
      | inl f ↦ has-before r (front-has front s.cut r (subst (Has (revs front)) (sym f) (first-has front opening first)))
      | inr k ↦ elim k [
        | inl f ↦ has-before r (front-has front s.cut r (subst (Has (revs front)) (sym f) on-there))
        | inr h ↦ has-before r (more-has front s.cut r h)
      ]
    ]

    in-front : (r : Rev) → Has (revs front) r → (is_known s r || may_be_between s r) ≡ true
    in-front r h = go (same_rev s.on opening) refl
      where
        between : same_rev s.on opening ≡ false → may_be_between s r ≡ true
        between f = and-both (not (same_rev s.on opening)) (not (has_rev s.add r)) (ap not f) (not-so (has_rev s.add r) (λ e. once-only front s.add r new h (rev-has s.add r e)))

        go : (b : Bool) → same_rev s.on opening ≡ b → (is_known s r || may_be_between s r) ≡ true
        go true f = or-left (is_known s r) (may_be_between s r) (cases-known s r (inl (only-opening front r (distinct-left rev_of front s.cut old) first (w.3 ∙ ap (λ z. Some z) (same_rev-true s.on opening f)) h)))
        go false f = or-right (is_known s r) (may_be_between s r) (between f)

    data-suits : (b : Bool) → C.base ≡ b → HasBase before None C.under ↔ IsTrue C.base → suits_data s C.under b ≡ true
    data-suits true e i = elim (before-has C.under (i.1 e)) [
      | inl h ↦ in-front C.under h
      | inr h ↦ or-left (is_known s C.under) (may_be_between s C.under) (cases-known s C.under (inr (inr h)))
    ]
    data-suits false e i = not-so (is_known s C.under) (λ k. true-false (i.0 (known-there C.under k)) e)

    schema-suits : (t : List ℕ) → HasBase before (Some t) C.under ↔ IsTrue C.base → AllByRecursion (λ (e : SchemaEntry). e.rev ≢ C.rev) before → AllByRecursion (λ (e : SchemaEntry). e.rev ≢ C.rev) after → suits_schema s C.rev C.under C.base ≡ true
    schema-suits t i none none_after =
        let last : last_of (revs before) ≡ Some (last_before s) = ap (λ es. last_of (revs es)) w.1 ∙ last-is s front w.3 in
        and-both (not (is_known s C.rev) && not (has_rev s.add C.rev)) (beq C.base (same_rev (last_before s) C.under))
        (and-both (not (is_known s C.rev)) (not (has_rev s.add C.rev))
        (not-so (is_known s C.rev) (λ k. absent before none (known-there C.rev k)))
        (not-so (has_rev s.add C.rev) (λ k. absent after none_after (subst (λ es. Has (revs es) C.rev) (sym w.2) (more-has front s.add C.rev (rev-has s.add C.rev k))))))
        (same-truth C.base (same_rev (last_before s) C.under)
        (λ b. same-as (last_before s) C.under (one_some _ _ (sym last ∙ i.1 b)))
        (λ b. i.0 (last ∙ ap (λ z. Some z) (same_rev-true (last_before s) C.under b))))
      where
        absent : (es : List SchemaEntry) → AllByRecursion (λ (e : SchemaEntry). e.rev ≢ C.rev) es → Has (revs es) C.rev → ⊥
        absent es none h = let e = has-map rev_of es C.rev h in all-has (λ (e : SchemaEntry). e.rev ≢ C.rev) es e.0 none e.1 e.2

    pub part-suits : suits_part s C ≡ true
    part-suits = go C.schema at.base at.fresh fresh
      where
        go : (o : Option (List ℕ)) → IsTrue C.base ↔ HasBase before o C.under → IfSome o (λ _. AllByRecursion (λ (e : SchemaEntry). e.rev ≢ C.rev) before) → IfSome o (λ _. AllByRecursion (λ (e : SchemaEntry). e.rev ≢ C.rev) after)
            → option_map_or (λ (t : List ℕ). suits_schema s C.rev C.under C.base) o (suits_data s C.under C.base) ≡ true
        go None i none none_after = data-suits C.base refl (i.1, i.0)
        go (Some t) i none none_after = schema-suits t (i.1, i.0) none none_after

  pub alone-suits : suits_alone C ≡ true
  alone-suits = go C.schema at.base at.fresh
    where
      opening-there : Has (revs before) opening
      opening-there = first-has before opening before_in.begun

      base-or : (b : Bool) → C.base ≡ b → (Has (revs before) C.under → IsTrue C.base) → (b || not (same_rev C.under opening)) ≡ true
      base-or true e f = refl
      base-or false e f = not-so (same_rev C.under opening) (λ k. true-false (f (subst (Has (revs before)) (sym (same_rev-true C.under opening k)) opening-there)) e)

      absent : AllByRecursion (λ (e : SchemaEntry). e.rev ≢ C.rev) before → Has (revs before) C.rev → ⊥
      absent none h = let e = has-map rev_of before C.rev h in all-has (λ (e : SchemaEntry). e.rev ≢ C.rev) before e.0 none e.1 e.2

      go : (o : Option (List ℕ)) → IsTrue C.base ↔ HasBase before o C.under → IfSome o (λ _. AllByRecursion (λ (e : SchemaEntry). e.rev ≢ C.rev) before)
          → option_map_or (λ (t : List ℕ). not (same_rev C.rev opening) && not (C.base && same_rev C.under C.rev)) o (C.base || not (same_rev C.under opening)) ≡ true
      go None i none = base-or C.base refl i.1
      go (Some t) i none = and-both (not (same_rev C.rev opening)) (not (C.base && same_rev C.under C.rev))
          (not-so (same_rev C.rev opening) (λ k. absent none (subst (Has (revs before)) (sym (same_rev-true C.rev opening k)) opening-there)))
          (not-so (C.base && same_rev C.under C.rev) (λ k.
          let p = and-true C.base (same_rev C.under C.rev) k in
          absent none (subst (Has (revs before)) (same_rev-true C.under C.rev p.1) (last-has before C.under (i.0 p.0)))))

-- whether a change suits a step
abbrev pub suits : Change → Option SchemaStep → Bool
suits C o = option_map_or (λ (s : SchemaStep). suits_part s C) o (suits_alone C)

pub suits-there : (C : Change) (S : Step) → HaveSchemasBeside C S → suits C S.schema ≡ true
suits-there C S w = go S.schema w.3.step
  where
    go : (o : Option SchemaStep) → IsSchemaStep w.0 w.1 o → suits C o ≡ true
    go None e = alone-suits C w.0 w.1 w.2 w.3.before_in_effect w.3.after_in_effect w.4
    go (Some s) e = part-suits C w.0 w.1 w.2 w.3.before_in_effect w.3.after_in_effect w.4 s e

-- ## Where a change suits a step, there are such entries

abbrev entry : Rev → SchemaEntry
entry r = record { rev = r; text = [] }

-- entries behind which others can stand
record IsFrontOf (s : SchemaStep) (front : List SchemaEntry) : Type 0 where
  first : first_of (revs front) ≡ Some opening
  last : last_of (revs front) ≡ Some s.on
  once : AreDistinct rev_of front
  cut : (r : Rev) → Has (revs front) r → Has (revs s.cut) r → ⊥
  add : (r : Rev) → Has (revs front) r → Has (revs s.add) r → ⊥

in-effect : (front more : List SchemaEntry) → first_of (revs front) ≡ Some opening → AreDistinct rev_of front → AreDistinct rev_of more → ((r : Rev) → Has (revs front) r → Has (revs more) r → ⊥) → CanBeInEffect (front ++ more)
in-effect front more first once once_more apart = record {
  begun = begun front more first;
  once = distinct-append rev_of front more once once_more (λ x y h k q. apart x.rev (map-has rev_of front x h) (subst (Has (revs more)) q (map-has rev_of more y k)));
}

behind : (on : Rev) (more : List SchemaEntry) (r : Rev) → AreEntriesBehind on more → Has (revs more) r → (r ≢ opening) × (r ≢ on)
behind on more r b h =
    let e = has-map rev_of more r h in
    let w = all-has (λ (e : SchemaEntry). (e.rev ≢ opening) × (e.rev ≢ on)) more e.0 b.behind e.1 in
    (λ q. w.0 (e.2 ∙ q), λ q. w.1 (e.2 ∙ q))

module _ (s : SchemaStep) (fits : SchemaStepFits s) where
  -- the front of the opening's entry and the last that both share
  least_front : (b : Bool) → same_rev s.on opening ≡ b → (front : List SchemaEntry) × IsFrontOf s front × ((r : Rev) → Has (revs front) r → (r ≡ opening) ⊎ (r ≡ s.on))
  least_front true e = (
    entry opening ∷ [],
    record {
      first = refl;
      last = ap (λ z. Some z) (sym (same_rev-true s.on opening e));
      once = (tt, tt);
      cut = λ r h k. elim h [ inl q ↦ (behind s.on s.cut r fits.cut k).0 (sym q) | inr w ↦ w ];
      add = λ r h k. elim h [ inl q ↦ (behind s.on s.add r fits.add k).0 (sym q) | inr w ↦ w ];
    },
    λ r h. elim h [ inl q ↦ inl (sym q) | inr w ↦ absurd w ],
  )
  least_front false e = (
    entry opening ∷ (entry s.on ∷ []),
    record {
      first = refl;
      last = refl;
      once = (((λ q. true-false (same-as s.on opening q) e), tt), (tt, tt));
      cut = λ r h k. elim h [ inl q ↦ (behind s.on s.cut r fits.cut k).0 (sym q) | inr w ↦ elim w [ inl q ↦ (behind s.on s.cut r fits.cut k).1 (sym q) | inr w ↦ w ] ];
      add = λ r h k. elim h [ inl q ↦ (behind s.on s.add r fits.add k).0 (sym q) | inr w ↦ elim w [ inl q ↦ (behind s.on s.add r fits.add k).1 (sym q) | inr w ↦ w ] ];
    },
    λ r h. elim h [ inl q ↦ inl (sym q) | inr w ↦ elim w [ inl q ↦ inr (sym q) | inr w ↦ absurd w ] ],
  )

  -- the front that has another revision too
  front_with : (u : Rev) → may_be_between s u ≡ true → (is_known s u ≡ true → ⊥) → (front : List SchemaEntry) × IsFrontOf s front × Has (revs front) u
  front_with u e unknown =
      let p = and-true (not (same_rev s.on opening)) (not (has_rev s.add u)) e in
      let no_add : Has (revs s.add) u → ⊥ = λ h. true-false (has-rev s.add u h) (not-true (has_rev s.add u) p.1) in
      let no_cut : Has (revs s.cut) u → ⊥ = λ h. unknown (cases-known s u (inr (inr h))) in (
        entry opening ∷ (entry u ∷ (entry s.on ∷ [])),
        record {
          first = refl;
          last = refl;
          once = (
            ((λ q. unknown (cases-known s u (inl q))), ((λ q. true-false (same-as s.on opening q) (not-true (same_rev s.on opening) p.0)), tt)),
            (((λ q. unknown (cases-known s u (inr (inl (sym q))))), tt), (tt, tt)),
          );
          cut = λ r h k. elim h [ inl q ↦ (behind s.on s.cut r fits.cut k).0 (sym q) | inr w ↦ elim w [ inl q ↦ no_cut (subst (Has (revs s.cut)) (sym q) k) | inr w ↦ elim w [ inl q ↦ (behind s.on s.cut r fits.cut k).1 (sym q) | inr w ↦ w ] ] ];
          add = λ r h k. elim h [ inl q ↦ (behind s.on s.add r fits.add k).0 (sym q) | inr w ↦ elim w [ inl q ↦ no_add (subst (Has (revs s.add)) (sym q) k) | inr w ↦ elim w [ inl q ↦ (behind s.on s.add r fits.add k).1 (sym q) | inr w ↦ w ] ] ];
        },
        inr (inl refl),
      )

  old_in : (front : List SchemaEntry) → IsFrontOf s front → CanBeInEffect (front ++ s.cut)
  old_in front f = in-effect front s.cut f.first f.once fits.cut.once f.cut

  new_in : (front : List SchemaEntry) → IsFrontOf s front → CanBeInEffect (front ++ s.add)
  new_in front f = in-effect front s.add f.first f.once fits.add.once f.add

  module _ (C : Change) (S : Step) (of : S.schema ≡ Some s) where
    over : (front : List SchemaEntry) → IsFrontOf s front → SchemasOverStep (front ++ s.cut) (front ++ s.add) S
    over front f = record {
      before_in_effect = old_in front f;
      after_in_effect = new_in front f;
      step = subst (IsSchemaStep (front ++ s.cut) (front ++ s.add)) (sym of) (front, refl, refl, f.last, fits.differ);
    }

    -- of a change of data
    data_there : C.schema ≡ None → (front : List SchemaEntry) → IsFrontOf s front → (IsTrue C.base ↔ Has (revs (front ++ s.cut)) C.under) → HaveSchemasBeside C S
    data_there e front f base = (
      front ++ s.cut,
      front ++ s.add,
      record {
        in_effect = old_in front f;
        base = subst (λ o. IsTrue C.base ↔ HasBase (front ++ s.cut) o C.under) (sym e) base;
        fresh = subst (λ (o : Option (List ℕ)). IfSome o (λ _. AllByRecursion (λ (e : SchemaEntry). e.rev ≢ C.rev) (front ++ s.cut))) (sym e) tt;
      },
      over front f,
      subst (λ (o : Option (List ℕ)). IfSome o (λ _. AllByRecursion (λ (e : SchemaEntry). e.rev ≢ C.rev) (front ++ s.add))) (sym e) tt,
    )

    abbrev least : (front : List SchemaEntry) × IsFrontOf s front × ((r : Rev) → Has (revs front) r → (r ≡ opening) ⊎ (r ≡ s.on))
    least = least_front (same_rev s.on opening) refl

    known_there : (front : List SchemaEntry) → IsFrontOf s front → (r : Rev) → is_known s r ≡ true → Has (revs (front ++ s.cut)) r
    known_there front f r e = elim (known-cases s r e) [
      | inl q ↦ front-has front s.cut r (subst (Has (revs front)) (sym q) (first-has front opening f.first))
      | inr k ↦ elim k [
        | inl q ↦ front-has front s.cut r (subst (Has (revs front)) (sym q) (last-has front s.on f.last))
        | inr h ↦ more-has front s.cut r h
      ]
    ]

    there_known : (r : Rev) → Has (revs (least.0 ++ s.cut)) r → is_known s r ≡ true
    there_known r h = cases-known s r (elim (either-has least.0 s.cut r h) [
      | inl k ↦ elim (least.2 r k) [ inl q ↦ inl q | inr q ↦ inr (inl q) ]
      | inr k ↦ inr (inr k)
    ])

    data_suited : C.schema ≡ None → (b : Bool) → C.base ≡ b → suits_data s C.under b ≡ true → HaveSchemasBeside C S
    data_suited e true b h = go (is_known s C.under) refl
      where
        go : (k : Bool) → is_known s C.under ≡ k → HaveSchemasBeside C S
        go true k = data_there e least.0 least.1 ((λ t. known_there least.0 least.1 C.under k), (λ h. b))
        go false k =
            let w = front_with C.under (elim (or-cases (is_known s C.under) (may_be_between s C.under) h) [ inl q ↦ absurd (true-false q k) | inr q ↦ q ]) (λ q. true-false q k) in
            data_there e w.0 w.1 ((λ t. front-has w.0 s.cut C.under w.2), (λ h. b))
    data_suited e false b h = data_there e least.0 least.1 ((λ t. absurd (true-false t b)), (λ k. absurd (true-false (there_known C.under k) (not-true (is_known s C.under) h))))

    schema_suited : (t : List ℕ) → C.schema ≡ Some t → suits_schema s C.rev C.under C.base ≡ true → HaveSchemasBeside C S
    schema_suited t e h =
        let p = and-true (not (is_known s C.rev) && not (has_rev s.add C.rev)) (beq C.base (same_rev (last_before s) C.under)) h in
        let q = and-true (not (is_known s C.rev)) (not (has_rev s.add C.rev)) p.0 in
        let same : C.base ≡ same_rev (last_before s) C.under = truth-same C.base (same_rev (last_before s) C.under) p.1 in
        let last : last_of (revs (least.0 ++ s.cut)) ≡ Some (last_before s) = last-is s least.0 least.1.last in
        let unknown : is_known s C.rev ≡ false = not-true (is_known s C.rev) q.0 in
        let old : AllByRecursion (λ (e : SchemaEntry). e.rev ≢ C.rev) (least.0 ++ s.cut) = has-all (λ (e : SchemaEntry). e.rev ≢ C.rev) (least.0 ++ s.cut) (λ x k z. true-false (there_known C.rev (subst (Has (revs (least.0 ++ s.cut))) z (map-has rev_of (least.0 ++ s.cut) x k))) unknown) in
        let new : AllByRecursion (λ (e : SchemaEntry). e.rev ≢ C.rev) (least.0 ++ s.add) = has-all (λ (e : SchemaEntry). e.rev ≢ C.rev) (least.0 ++ s.add) (λ x k z. elim (either-has least.0 s.add C.rev (subst (Has (revs (least.0 ++ s.add))) z (map-has rev_of (least.0 ++ s.add) x k))) [
          | inl i ↦ true-false (there_known C.rev (front-has least.0 s.cut C.rev i)) unknown
          | inr i ↦ true-false (has-rev s.add C.rev i) (not-true (has_rev s.add C.rev) q.1)
        ]) in (
          least.0 ++ s.cut,
          least.0 ++ s.add,
          record {
            in_effect = old_in least.0 least.1;
            base = subst (λ o. IsTrue C.base ↔ HasBase (least.0 ++ s.cut) o C.under) (sym e) (
              (λ b. last ∙ ap (λ z. Some z) (same_rev-true (last_before s) C.under (sym same ∙ b))),
              (λ k. same ∙ same-as (last_before s) C.under (one_some _ _ (sym last ∙ k))),
            );
            fresh = subst (λ (o : Option (List ℕ)). IfSome o (λ _. AllByRecursion (λ (e : SchemaEntry). e.rev ≢ C.rev) (least.0 ++ s.cut))) (sym e) old;
          },
          over least.0 least.1,
          subst (λ (o : Option (List ℕ)). IfSome o (λ _. AllByRecursion (λ (e : SchemaEntry). e.rev ≢ C.rev) (least.0 ++ s.add))) (sym e) new,
        )

    pub part_suited : suits_part s C ≡ true → HaveSchemasBeside C S
    part_suited h = go C.schema refl h
      where
        go : (o : Option (List ℕ)) → C.schema ≡ o → option_map_or (λ (t : List ℕ). suits_schema s C.rev C.under C.base) o (suits_data s C.under C.base) ≡ true → HaveSchemasBeside C S
        go None e h = data_suited e C.base refl h
        go (Some t) e h = schema_suited t e h

-- ## A step that leaves the schemas as they are

module _ (C : Change) (S : Step) (of : S.schema ≡ None) where
  stay : (es : List SchemaEntry) → CanBeInEffect es → SchemasOverStep es es S
  stay es w = record { before_in_effect = w; after_in_effect = w; step = subst (IsSchemaStep es es) (sym of) refl }

  one : CanBeInEffect (entry opening ∷ [])
  one = record { begun = refl; once = (tt, tt) }

  two : (r : Rev) → r ≢ opening → CanBeInEffect (entry opening ∷ (entry r ∷ []))
  two r apart = record { begun = refl; once = ((apart, tt), (tt, tt)) }

  data_stays : C.schema ≡ None → (es : List SchemaEntry) → CanBeInEffect es → (IsTrue C.base ↔ Has (revs es) C.under) → HaveSchemasBeside C S
  data_stays e es w base = (
    es,
    es,
    record {
      in_effect = w;
      base = subst (λ o. IsTrue C.base ↔ HasBase es o C.under) (sym e) base;
      fresh = subst (λ (o : Option (List ℕ)). IfSome o (λ _. AllByRecursion (λ (e : SchemaEntry). e.rev ≢ C.rev) es)) (sym e) tt;
    },
    stay es w,
    subst (λ (o : Option (List ℕ)). IfSome o (λ _. AllByRecursion (λ (e : SchemaEntry). e.rev ≢ C.rev) es)) (sym e) tt,
  )

  schema_stays : (t : List ℕ) → C.schema ≡ Some t → (es : List SchemaEntry) → CanBeInEffect es → AllByRecursion (λ (e : SchemaEntry). e.rev ≢ C.rev) es → (IsTrue C.base ↔ (last_of (revs es) ≡ Some C.under)) → HaveSchemasBeside C S
  schema_stays t e es w none base = (
    es,
    es,
    record {
      in_effect = w;
      base = subst (λ o. IsTrue C.base ↔ HasBase es o C.under) (sym e) base;
      fresh = subst (λ (o : Option (List ℕ)). IfSome o (λ _. AllByRecursion (λ (e : SchemaEntry). e.rev ≢ C.rev) es)) (sym e) none;
    },
    stay es w,
    subst (λ (o : Option (List ℕ)). IfSome o (λ _. AllByRecursion (λ (e : SchemaEntry). e.rev ≢ C.rev) es)) (sym e) none,
  )

  data_alone : C.schema ≡ None → (b : Bool) → C.base ≡ b → (b || not (same_rev C.under opening)) ≡ true → HaveSchemasBeside C S
  data_alone e true b h = go (same_rev C.under opening) refl
    where
      go : (k : Bool) → same_rev C.under opening ≡ k → HaveSchemasBeside C S
      go true k = data_stays e (entry opening ∷ []) one ((λ t. inl (sym (same_rev-true C.under opening k))), (λ h. b))
      go false k = data_stays e (entry opening ∷ (entry C.under ∷ [])) (two C.under (λ q. true-false (same-as C.under opening q) k)) ((λ t. inr (inl refl)), (λ h. b))
  data_alone e false b h = data_stays e (entry opening ∷ []) one (
    (λ t. absurd (true-false t b)),
    (λ k. elim k [ inl q ↦ absurd (true-false (same-as C.under opening (sym q)) (not-true (same_rev C.under opening) h)) | inr w ↦ absurd w ]),
  )

  -- a revision that is neither the opening's nor the given one
  another : Rev → Rev
  another r = record { session = suc r.session; num = 0 }

  other_than : (r : Rev) → another r ≢ r
  unfolding another
  other_than r q = let e : suc r.session ≡ r.session = ap (λ (z : Rev). z.session) q in absurd (omega (arith, e))

  other_than_opening : (r : Rev) → another r ≢ opening
  unfolding another
  other_than_opening r q = let e : suc r.session ≡ 0 = ap (λ (z : Rev). z.session) q in absurd (omega (arith, e))

  schema_alone : (t : List ℕ) → C.schema ≡ Some t → (b : Bool) → C.base ≡ b → not (same_rev C.rev opening) ≡ true → not (b && same_rev C.under C.rev) ≡ true → HaveSchemasBeside C S
  schema_alone t e b base h k = go b base k (same_rev C.under opening) refl
    where
      not_opening : opening ≢ C.rev
      not_opening q = true-false (same-as C.rev opening (sym q)) (not-true (same_rev C.rev opening) h)

      go : (b : Bool) → C.base ≡ b → not (b && same_rev C.under C.rev) ≡ true → (o : Bool) → same_rev C.under opening ≡ o → HaveSchemasBeside C S
      go true base k true o = schema_stays t e (entry opening ∷ []) one (not_opening, tt) ((λ t. ap (λ z. Some z) (sym (same_rev-true C.under opening o))), (λ h. base))
      go true base k false o = schema_stays t e (entry opening ∷ (entry C.under ∷ [])) (two C.under (λ q. true-false (same-as C.under opening q) o)) (not_opening, ((λ q. true-false (same-as C.under C.rev q) (not-true (same_rev C.under C.rev) k)), tt)) ((λ t. refl), (λ h. base))
      go false base k true o = schema_stays t e (entry opening ∷ (entry (another C.rev) ∷ [])) (two (another C.rev) (other_than_opening C.rev)) (not_opening, (other_than C.rev, tt)) (
        (λ t. absurd (true-false t base)),
        (λ q. absurd (other_than_opening C.rev (one_some (another C.rev) C.under q ∙ same_rev-true C.under opening o))),
      )
      go false base k false o = schema_stays t e (entry opening ∷ []) one (not_opening, tt) (
        (λ t. absurd (true-false t base)),
        (λ q. absurd (true-false (same-as C.under opening (sym (one_some opening C.under q))) o)),
      )

  pub alone_suited : suits_alone C ≡ true → HaveSchemasBeside C S
  alone_suited h = go C.schema refl h
    where
      go : (o : Option (List ℕ)) → C.schema ≡ o → option_map_or (λ (t : List ℕ). not (same_rev C.rev opening) && not (C.base && same_rev C.under C.rev)) o (C.base || not (same_rev C.under opening)) ≡ true → HaveSchemasBeside C S
      go None e h = data_alone e C.base refl h
      go (Some t) e h = let p = and-true (not (same_rev C.rev opening)) (not (C.base && same_rev C.under C.rev)) h in schema_alone t e C.base refl p.0 p.1

pub there-suited : (C : Change) (S : Step) → IfSome S.schema SchemaStepFits → suits C S.schema ≡ true → HaveSchemasBeside C S
there-suited C S fits h = go S.schema refl fits h
  where
    go : (o : Option SchemaStep) → S.schema ≡ o → IfSome o SchemaStepFits → suits C o ≡ true → HaveSchemasBeside C S
    go None e f h = alone_suited C S e h
    go (Some s) e f h = part_suited s f C S e h
