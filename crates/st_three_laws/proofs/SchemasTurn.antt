-- Entries that suit a change and two steps in turn, both of which change them.
use Rattle.std.proofs.Common.{◌≡◌, ◌≢◌, ◌⊎◌, ◌↔◌, ◌++◌, ℕ, Bool, true, false, not, List, [], ◌∷◌, Option, Some, None, IsTrue, IfSome, cond, refl, sym, ap, ◌∙◌, subst, inl, inr}
use Rattle.std.specs.List.{AllByRecursion, filter, last_or, list_any}
use Rattle.st_ids.specs.Listing.{AreDistinct, Has}
use Rattle.st_ids.specs.Order.{same_rev}
use Rattle.st_ids.specs.Root.{opening}
use Rattle.st_ids.specs.declared.names.Rev.{Rev}
use Rattle.st_ids.proofs.Orders.{same_rev-itself, same_rev-true}
use Rattle.st_ids.proofs.Shared.{filter-has, filtered}
use Rattle.st_lemmas.proofs.Options.{one_some}
use Rattle.st_marks.specs.declared.changes.Change.{Change}
use Rattle.st_marks.specs.declared.schemas.SchemaEntry.{SchemaEntry}
use Rattle.st_marks.specs.declared.schemas.SchemaStep.{SchemaStep}
use Rattle.st_marks.specs.declared.steps.Step.{Step}
use Rattle.st_marks.specs.Agree.{Agrees, HaveSchemasBeside, RebaseClash}
use Rattle.st_marks.specs.Document.{CanBeInEffect, first_of, last_of, revs}
use Rattle.st_marks.specs.Step.{IsSchemaStep}
use Rattle.st_marks.specs.Verdict.{HasBase}
use Rattle.st_normal.specs.Rules.{ObeysChangeRules, ObeysStepRules}
use Rattle.st_marks.proofs.Members.{all-has, any-has, append_left, append_right, distinct-append, distinct-between, distinct-left, distinct-right, has-all, has-any, has-append, has-map, map-has}
use Rattle.st_puts.proofs.Basics.{not-false, not-true}
use Rattle.st_puts.proofs.MeaningFits.{append-assoc}
use Rattle.st_three_laws.proofs.Schemas.{HaveSchemasInTurn, beside_step, one_changes, one_schema_step, same_rest}

abbrev pub rev_of : SchemaEntry → Rev
rev_of e = e.rev

-- ## Lists of entries

-- of two fronts of one list, one goes on from the other
pub split : (f a g b : List SchemaEntry) → f ++ a ≡ g ++ b → ((m : List SchemaEntry) × (f ≡ g ++ m) × (b ≡ m ++ a)) ⊎ ((m : List SchemaEntry) × (g ≡ f ++ m) × (a ≡ m ++ b))
split [] a g b e = inr (g, refl, e)
split (x ∷ f) a [] b e = inl (x ∷ f, refl, sym e)
split (x ∷ f) a (y ∷ g) b e =
    let head : x ≡ y = cc in
    elim (split f a g b (let r : f ++ a ≡ g ++ b = cc in r)) [
      | inl (m, h, k) ↦ inl (m, (λ i. head i ∷ h i), k)
      | inr (m, h, k) ↦ inr (m, (λ i. sym head i ∷ h i), k)
    ]

pub append-nil : (xs : List SchemaEntry) → xs ++ [] ≡ xs
append-nil [] = refl
append-nil (x ∷ xs) = ap (λ l. x ∷ l) (append-nil xs)

pub last-append : (d : Option Rev) (front more : List SchemaEntry) → last_or d (revs (front ++ more)) ≡ last_or (last_or d (revs front)) (revs more)
last-append d [] more = refl
last-append d (e ∷ front) more = last-append (Some e.rev) front more

none-rev : {A : Type 0} {r : Rev} → ◌≡◌ {A = Option Rev} None (Some r) → A
none-rev e = cc

last-in : (d : Option Rev) (es : List SchemaEntry) (r : Rev) → last_or d (revs es) ≡ Some r → ((e : SchemaEntry) × Has es e × (e.rev ≡ r)) ⊎ (d ≡ Some r)
last-in d [] r e = inr e
last-in d (x ∷ es) r e = elim (last-in (Some x.rev) es r e) [ inl (y, h, k) ↦ inl (y, inr h, k) | inr k ↦ inl (x, inl refl, one_some x.rev r k) ]

pub last-entry : (es : List SchemaEntry) (r : Rev) → last_of (revs es) ≡ Some r → (e : SchemaEntry) × Has es e × (e.rev ≡ r)
last-entry es r e = elim (last-in None es r e) [ inl h ↦ h | inr k ↦ none-rev k ]

pub first-entry : (es : List SchemaEntry) (r : Rev) → first_of (revs es) ≡ Some r → (e : SchemaEntry) × Has es e × (e.rev ≡ r)
first-entry [] r e = none-rev e
first-entry (x ∷ es) r e = (x, inl refl, one_some x.rev r e)

pub first-front : (h t : List SchemaEntry) (a b : Rev) → first_of (revs (h ++ t)) ≡ Some a → last_of (revs h) ≡ Some b → first_of (revs h) ≡ Some a
first-front [] t a b e l = none-rev l
first-front (x ∷ h) t a b e l = e

front-first : (h t : List SchemaEntry) (a : Rev) → first_of (revs h) ≡ Some a → first_of (revs (h ++ t)) ≡ Some a
front-first [] t a e = none-rev e
front-first (x ∷ h) t a e = e

rev-entry : (es : List SchemaEntry) (r : Rev) → Has (revs es) r → (e : SchemaEntry) × Has es e × (e.rev ≡ r)
rev-entry es r h = has-map rev_of es r h

entry-rev : (es : List SchemaEntry) (e : SchemaEntry) (r : Rev) → Has es e → e.rev ≡ r → Has (revs es) r
entry-rev es e r h k = subst (Has (revs es)) k (map-has rev_of es e h)

-- ## A front without some entries

abbrev kept_by : List SchemaEntry → SchemaEntry → Bool
kept_by tails e = not (list_any (λ (x : SchemaEntry). same_rev x.rev e.rev) tails)

abbrev kept : List SchemaEntry → List SchemaEntry → List SchemaEntry
kept tails front = filter (kept_by tails) front

abbrev IsApart : List SchemaEntry → SchemaEntry → Type 0
IsApart tails e = (y : SchemaEntry) → Has tails y → y.rev ≡ e.rev → ⊥

apart-kept : (tails : List SchemaEntry) (e : SchemaEntry) → IsApart tails e → kept_by tails e ≡ true
apart-kept tails e h = not-false (list_any (λ (x : SchemaEntry). same_rev x.rev e.rev) tails) (λ k. let y = any-has (λ (x : SchemaEntry). same_rev x.rev e.rev) tails k in h y.0 y.1 (same_rev-true y.0.rev e.rev y.2))

has-kept : (tails front : List SchemaEntry) (e : SchemaEntry) → Has front e → IsApart tails e → Has (kept tails front) e
has-kept tails front e h k = filter-has (kept_by tails) front e h (apart-kept tails e k)

kept-has : (tails front : List SchemaEntry) (e : SchemaEntry) → Has (kept tails front) e → Has front e × IsApart tails e
kept-has tails front e h =
    let f = filtered (kept_by tails) front e h in
    (f.0, λ y i k. not-true (list_any (λ (x : SchemaEntry). same_rev x.rev e.rev) tails) f.1 (has-any (λ (x : SchemaEntry). same_rev x.rev e.rev) tails y i (ap (λ r. same_rev r e.rev) k ∙ same_rev-itself e.rev)))

first-kept : (p : SchemaEntry → Bool) (es : List SchemaEntry) (r : Rev) → first_of (revs es) ≡ Some r → ((e : SchemaEntry) → e.rev ≡ r → p e ≡ true) → first_of (revs (filter p es)) ≡ Some r
first-kept p [] r e k = none-rev e
first-kept p (x ∷ es) r e k = ap (λ b. first_of (revs (cond b (x ∷ filter p es) (filter p es)))) (k x (one_some x.rev r e)) ∙ e

last-kept : (p : SchemaEntry → Bool) (d c : Option Rev) (es : List SchemaEntry) (r : Rev) → last_or d (revs es) ≡ Some r → ((e : SchemaEntry) → e.rev ≡ r → p e ≡ true) → (d ≡ Some r → c ≡ Some r) → last_or c (revs (filter p es)) ≡ Some r
last-kept p d c [] r e k h = h e
last-kept p d c (x ∷ es) r e k h = go (p x) refl (last-kept p (Some x.rev) (Some x.rev) es r e k (λ q. q)) (λ h. last-kept p (Some x.rev) c es r e k h)
  where
    bad : {A : Type 0} → true ≡ false → A
    bad e = cc

    go : (b : Bool) → p x ≡ b → last_or (Some x.rev) (revs (filter p es)) ≡ Some r → ((Some x.rev ≡ Some r → c ≡ Some r) → last_or c (revs (filter p es)) ≡ Some r) → last_or c (revs (cond b (x ∷ filter p es) (filter p es))) ≡ Some r
    go true f one other = one
    go false f one other = other (λ q. bad (sym (k x (one_some x.rev r q)) ∙ f))

kept-once : (p : SchemaEntry → Bool) (es : List SchemaEntry) → AreDistinct rev_of es → AreDistinct rev_of (filter p es)
kept-once p [] d = tt
kept-once p (x ∷ es) d = elim (p x) as (λ b. AreDistinct rev_of (cond b (x ∷ filter p es) (filter p es))) [
  | true ↦ (has-all (λ (h : SchemaEntry). h.rev ≢ x.rev) (filter p es) (λ h i. all-has (λ (h : SchemaEntry). h.rev ≢ x.rev) es h d.0 (filtered p es h i).0), kept-once p es d.1)
  | false ↦ kept-once p es d.1
]

-- ## A change of schema, and its base

module _ (C : Change) where
  abbrev IsFresh : List SchemaEntry → Type 0
  IsFresh es = IfSome C.schema (λ _. AllByRecursion (λ (e : SchemaEntry). e.rev ≢ C.rev) es)

  fresh-all : (es : List SchemaEntry) → ((text : List ℕ) → C.schema ≡ Some text → (e : SchemaEntry) → Has es e → e.rev ≢ C.rev) → IsFresh es
  fresh-all es k = go C.schema k
    where
      go : (o : Option (List ℕ)) → ((text : List ℕ) → o ≡ Some text → (e : SchemaEntry) → Has es e → e.rev ≢ C.rev) → IfSome o (λ _. AllByRecursion (λ (e : SchemaEntry). e.rev ≢ C.rev) es)
      go None k = tt
      go (Some text) k = has-all (λ (e : SchemaEntry). e.rev ≢ C.rev) es (k text refl)

  fresh-has : (es : List SchemaEntry) → IsFresh es → (text : List ℕ) → C.schema ≡ Some text → (e : SchemaEntry) → Has es e → e.rev ≢ C.rev
  fresh-has es f text q e h = go C.schema f q
    where
      go : (o : Option (List ℕ)) → IfSome o (λ _. AllByRecursion (λ (e : SchemaEntry). e.rev ≢ C.rev) es) → o ≡ Some text → e.rev ≢ C.rev
      go None f q = cc
      go (Some text) f q = all-has (λ (e : SchemaEntry). e.rev ≢ C.rev) es e f h

  base-same : (es old : List SchemaEntry) → (C.schema ≡ None → IsTrue C.base → Has (revs old) C.under → Has (revs es) C.under) → (Has (revs es) C.under → Has (revs old) C.under) → last_of (revs es) ≡ last_of (revs old)
      → IsTrue C.base ↔ HasBase old C.schema C.under → IsTrue C.base ↔ HasBase es C.schema C.under
  base-same es old on back last b = go C.schema refl b
    where
      go : (o : Option (List ℕ)) → C.schema ≡ o → IsTrue C.base ↔ HasBase old o C.under → IsTrue C.base ↔ HasBase es o C.under
      go None e b = (λ t. on e t (b.0 t), λ h. b.1 (back h))
      go (Some text) e b = (λ t. last ∙ b.0 t, λ h. b.1 (sym last ∙ h))

-- ## All three over another front

-- an entry's tail, and what a step cuts and adds of it
abbrev pub Parts : Rev → List SchemaEntry → List SchemaEntry → SchemaStep → Type 0
Parts on t later s = (m : List SchemaEntry) × (t ≡ m ++ s.cut) × (later ≡ m ++ s.add) × (last_or (Some on) (revs m) ≡ Some s.on)

module _ (C : Change) (a b : Step) (ds es fs : List SchemaEntry) (cd : CanBeInEffect ds) (ce : CanBeInEffect es) (cf : CanBeInEffect fs)
    (p q : SchemaStep) (ea : a.schema ≡ Some p) (eb : b.schema ≡ Some q) (dp : first_of p.cut ≢ first_of p.add) (dq : first_of q.cut ≢ first_of q.add)
    (h front t0 t1 t2 : List SchemaEntry) (on : Rev) (hd : ds ≡ h ++ t0) (he : es ≡ h ++ t1) (hf : fs ≡ h ++ t2) (lh : last_of (revs h) ≡ Some on)
    (ff : first_of (revs front) ≡ Some opening) (once : AreDistinct rev_of front) (lf : last_of (revs front) ≡ Some on)
    (pa : Parts on t0 t1 p) (pb : Parts on t1 t2 q) where
  abbrev tails : List SchemaEntry
  tails = t0 ++ (t1 ++ t2)

  abbrev left : List SchemaEntry
  left = kept tails front

  in-tails : (y : SchemaEntry) → Has tails y → Has t0 y ⊎ Has t1 y ⊎ Has t2 y
  in-tails y i = elim (has-append t0 (t1 ++ t2) y i) [ inl j ↦ inl j | inr j ↦ inr (has-append t1 t2 y j) ]

  -- what stands in the front of the three lists isn't in their tails
  far : (e : SchemaEntry) (r : Rev) → Has h e → e.rev ≡ r → (x : SchemaEntry) → x.rev ≡ r → IsApart tails x
  far e r i f x g y j l =
      let same : y.rev ≡ e.rev = l ∙ g ∙ sym f in
      elim (in-tails y j) [
        | inl v ↦ distinct-between rev_of h t0 e y (subst (AreDistinct rev_of) hd cd.once) i v same
        | inr v ↦ elim v [
          | inl w ↦ distinct-between rev_of h t1 e y (subst (AreDistinct rev_of) he ce.once) i w same
          | inr w ↦ distinct-between rev_of h t2 e y (subst (AreDistinct rev_of) hf cf.once) i w same
        ]
      ]

  begins : first_of (revs left) ≡ Some opening
  begins =
      let e = first-entry h opening (first-front h t0 opening on (ap (λ l. first_of (revs l)) (sym hd) ∙ cd.begun) lh) in
      first-kept (kept_by tails) front opening ff (λ x f. apart-kept tails x (far e.0 opening e.1 e.2 x f))

  ends : last_of (revs left) ≡ Some on
  ends = let e = last-entry h on lh in last-kept (kept_by tails) None None front on lf (λ x f. apart-kept tails x (far e.0 on e.1 e.2 x f)) (λ f. f)

  in-effect : (t : List SchemaEntry) → AreDistinct rev_of t → ((y : SchemaEntry) → Has t y → Has tails y) → CanBeInEffect (left ++ t)
  in-effect t d i = record {
    begun = front-first left t opening begins;
    once = distinct-append rev_of left t (kept-once (kept_by tails) front once) d (λ x y j l e. (kept-has tails front x j).1 y (i y l) e);
  }

  over-front : (s : SchemaStep) (t later : List SchemaEntry) → first_of s.cut ≢ first_of s.add → Parts on t later s → IsSchemaStep (left ++ t) (left ++ later) (Some s)
  over-front s t later d w = (
    left ++ w.0,
    ap (λ l. left ++ l) w.1 ∙ sym (append-assoc left w.0 s.cut),
    ap (λ l. left ++ l) w.2 ∙ sym (append-assoc left w.0 s.add),
    last-append None left w.0 ∙ ap (λ o. last_or o (revs w.0)) ends ∙ w.3,
    d,
  )

  over0 : CanBeInEffect (left ++ t0)
  over0 = in-effect t0 (distinct-right rev_of h t0 (subst (AreDistinct rev_of) hd cd.once)) (λ y i. append_left t0 (t1 ++ t2) y i)

  over1 : CanBeInEffect (left ++ t1)
  over1 = in-effect t1 (distinct-right rev_of h t1 (subst (AreDistinct rev_of) he ce.once)) (λ y i. append_right t0 (t1 ++ t2) y (append_left t1 t2 y i))

  over2 : CanBeInEffect (left ++ t2)
  over2 = in-effect t2 (distinct-right rev_of h t2 (subst (AreDistinct rev_of) hf cf.once)) (λ y i. append_right t0 (t1 ++ t2) y (append_right t1 t2 y i))

  -- these suit all three, where the change has its base among the first, as it has among others with this front
  refronted : (old : List SchemaEntry) → old ≡ front ++ t0 → (C.schema ≡ None → IsTrue C.base → (x : SchemaEntry) → Has front x → x.rev ≡ C.under → IsApart tails x) → IsTrue C.base ↔ HasBase old C.schema C.under
      → ((text : List ℕ) → C.schema ≡ Some text → (e : SchemaEntry) → Has front e → e.rev ≢ C.rev)
      → ((text : List ℕ) → C.schema ≡ Some text → (e : SchemaEntry) → Has tails e → e.rev ≢ C.rev)
      → HaveSchemasInTurn C a b
  refronted old o stays base f1 f2 = (
    left ++ t0,
    left ++ t1,
    left ++ t2,
    record { in_effect = over0; base = base-same C (left ++ t0) old forth back last base; fresh = fresh t0 (λ y i. append_left t0 (t1 ++ t2) y i) },
    record { before_in_effect = over0; after_in_effect = over1; step = subst (IsSchemaStep (left ++ t0) (left ++ t1)) (sym ea) (over-front p t0 t1 dp pa) },
    record { before_in_effect = over1; after_in_effect = over2; step = subst (IsSchemaStep (left ++ t1) (left ++ t2)) (sym eb) (over-front q t1 t2 dq pb) },
    fresh t1 (λ y i. append_right t0 (t1 ++ t2) y (append_left t1 t2 y i)),
    fresh t2 (λ y i. append_right t0 (t1 ++ t2) y (append_right t1 t2 y i)),
  )
    where
      fresh : (t : List SchemaEntry) → ((y : SchemaEntry) → Has t y → Has tails y) → IsFresh C (left ++ t)
      fresh t i = fresh-all C (left ++ t) (λ text q e j. elim (has-append left t e j) [ inl l ↦ f1 text q e (kept-has tails front e l).0 | inr l ↦ f2 text q e (i e l) ])

      last : last_of (revs (left ++ t0)) ≡ last_of (revs old)
      last = last-append None left t0 ∙ ap (λ o. last_or o (revs t0)) (ends ∙ sym lf) ∙ sym (last-append None front t0) ∙ ap (λ l. last_of (revs l)) (sym o)

      forth : C.schema ≡ None → IsTrue C.base → Has (revs old) C.under → Has (revs (left ++ t0)) C.under
      forth none t i = let e = rev-entry (front ++ t0) C.under (subst (λ l. Has (revs l) C.under) o i) in
          elim (has-append front t0 e.0 e.1) [
            | inl j ↦ entry-rev (left ++ t0) e.0 C.under (append_left left t0 e.0 (has-kept tails front e.0 j (stays none t e.0 j e.2))) e.2
            | inr j ↦ entry-rev (left ++ t0) e.0 C.under (append_right left t0 e.0 j) e.2
          ]

      back : Has (revs (left ++ t0)) C.under → Has (revs old) C.under
      back i = let e = rev-entry (left ++ t0) C.under i in
          subst (λ l. Has (revs l) C.under) (sym o) (entry-rev (front ++ t0) e.0 C.under (elim (has-append left t0 e.0 e.1) [
            | inl j ↦ append_left front t0 e.0 (kept-has tails front e.0 j).0
            | inr j ↦ append_right front t0 e.0 j
          ]) e.2)

-- ## Both steps change them

module _ (C : Change) (a b u : Step) (ds es fs : List SchemaEntry) (cd : CanBeInEffect ds) (ce : CanBeInEffect es) (cf : CanBeInEffect fs)
    (p q : SchemaStep) (ea : a.schema ≡ Some p) (eb : b.schema ≡ Some q) (s : IsSchemaStep ds es (Some p)) (t : IsSchemaStep es fs (Some q)) (r : IsSchemaStep ds fs u.schema)
    (one : HaveSchemasBeside C a) (both : HaveSchemasBeside C u) where
  abbrev f : List SchemaEntry
  f = s.0

  abbrev g : List SchemaEntry
  g = t.0

  -- what the first does where it stands beside the change
  beside : IsSchemaStep one.0 one.1 (Some p)
  beside = subst (IsSchemaStep one.0 one.1) ea one.3.step

  abbrev front : List SchemaEntry
  front = beside.0

  apart-cut : (x y : SchemaEntry) → Has front x → Has p.cut y → y.rev ≡ x.rev → ⊥
  apart-cut x y i j e = distinct-between rev_of front p.cut x y (subst (AreDistinct rev_of) beside.1 one.3.before_in_effect.once) i j e

  apart-add : (x y : SchemaEntry) → Has front x → Has p.add y → y.rev ≡ x.rev → ⊥
  apart-add x y i j e = distinct-between rev_of front p.add x y (subst (AreDistinct rev_of) beside.2 one.3.after_in_effect.once) i j e

  based : (S : Step) (w : HaveSchemasBeside C S) → C.schema ≡ None → IsTrue C.base → Has (revs w.0) C.under
  based S w none t = (subst (λ o. IsTrue C.base ↔ HasBase w.0 o C.under) none w.2.base).0 t

  -- ## The second goes on behind what the first keeps

  module _ (m : List SchemaEntry) (later : fs ≡ f ++ (m ++ q.add)) (added : p.add ≡ m ++ q.cut) (behind : last_or (Some p.on) (revs m) ≡ Some q.on) where
    abbrev t2 : List SchemaEntry
    t2 = m ++ q.add

    -- an entry of the last list stands in the first list's tail, or both as one add it; and what they cut is of that tail
    abbrev IsFrom : SchemaEntry → Type 0
    IsFrom y = Has p.cut y ⊎ ((v : SchemaStep) × (u.schema ≡ Some v) × Has v.add y × ((x : SchemaEntry) → Has v.cut x → Has p.cut x))

    from : (y : SchemaEntry) → Has t2 y → IsFrom y
    from y i = go u.schema refl r
      where
        go : (o : Option SchemaStep) → u.schema ≡ o → IsSchemaStep ds fs o → IsFrom y
        go None e d = inl (subst (λ l. Has l y) (same_rest f t2 p.cut (sym later ∙ sym d ∙ s.1)) i)
        go (Some v) e (c, cut, add, last, differ) = elim (split f p.cut c v.cut (sym s.1 ∙ cut)) [
          | inr (n, k, l) ↦ elim (has-append n v.add y (subst (λ l. Has l y) (same_rest f t2 (n ++ v.add) (sym later ∙ add ∙ ap (λ l. l ++ v.add) k ∙ append-assoc f n v.add)) i)) [
            | inl j ↦ inl (subst (λ l. Has l y) (sym l) (append_left n v.cut y j))
            | inr j ↦ inr (v, e, j, λ x o. subst (λ l. Has l x) (sym l) (append_right n v.cut x o))
          ]
          | inl (n, k, l) ↦ (let rest : v.add ≡ n ++ t2 = same_rest c v.add (n ++ t2) (sym add ∙ later ∙ ap (λ l. l ++ t2) k ∙ append-assoc c n t2) in at n l rest differ)
        ]
          where
            at : (n : List SchemaEntry) → v.cut ≡ n ++ p.cut → v.add ≡ n ++ t2 → first_of v.cut ≢ first_of v.add → IsFrom y
            at [] l k d = inr (v, e, subst (λ l. Has l y) (sym k) i, λ x o. subst (λ l. Has l x) l o)
            at (z ∷ n) l k d = absurd (d (ap first_of l ∙ sym (ap first_of k)))

    under-stays : C.schema ≡ None → IsTrue C.base → (x : SchemaEntry) → Has front x → x.rev ≡ C.under → IsApart (p.cut ++ (p.add ++ t2)) x
    under-stays none base x i e y j l = elim (has-append p.cut (p.add ++ t2) y j) [
      | inl k ↦ apart-cut x y i k l
      | inr k ↦ elim (has-append p.add t2 y k) [
        | inl n ↦ apart-add x y i n l
        | inr n ↦ elim (from y n) [
          | inl o ↦ apart-cut x y i o l
          | inr (v, w, o, c) ↦ (let d = subst (IsSchemaStep both.0 both.1) w both.3.step in
              let z = rev-entry (d.0 ++ v.cut) C.under (subst (λ l. Has (revs l) C.under) d.1 (based u both none base)) in
              elim (has-append d.0 v.cut z.0 z.1) [
                | inl n ↦ distinct-between rev_of d.0 v.add z.0 y (subst (AreDistinct rev_of) d.2 both.3.after_in_effect.once) n o (l ∙ e ∙ sym z.2)
                | inr n ↦ apart-cut x z.0 i (c z.0 n) (z.2 ∙ sym e)
              ])
        ]
      ]
    ]

    pub second_goes_on : HaveSchemasInTurn C a b
    second_goes_on = refronted C a b ds es fs cd ce cf p q ea eb s.4 t.4 f front p.cut p.add t2 p.on s.1 s.2 later s.3
        (first-front front p.cut opening p.on (ap (λ l. first_of (revs l)) (sym beside.1) ∙ one.3.before_in_effect.begun) beside.3)
        (distinct-left rev_of front p.cut (subst (AreDistinct rev_of) beside.1 one.3.before_in_effect.once)) beside.3
        ([], refl, refl, refl) (m, added, refl, behind)
        one.0 beside.1 under-stays one.2.base
        (λ text c e i. fresh-has C one.0 one.2.fresh text c e (subst (λ l. Has l e) (sym beside.1) (append_left front p.cut e i)))
        (λ text c e i. elim (has-append p.cut (p.add ++ t2) e i) [
          | inl j ↦ fresh-has C one.0 one.2.fresh text c e (subst (λ l. Has l e) (sym beside.1) (append_right front p.cut e j))
          | inr j ↦ elim (has-append p.add t2 e j) [
            | inl k ↦ fresh-has C one.1 one.4 text c e (subst (λ l. Has l e) (sym beside.2) (append_right front p.add e k))
            | inr k ↦ elim (from e k) [
              | inl o ↦ fresh-has C one.0 one.2.fresh text c e (subst (λ l. Has l e) (sym beside.1) (append_right front p.cut e o))
              | inr (v, w, o, n) ↦ (let d = subst (IsSchemaStep both.0 both.1) w both.3.step in fresh-has C both.1 both.4 text c e (subst (λ l. Has l e) (sym d.2) (append_right d.0 v.add e o)))
            ]
          ]
        ])

  -- ## The second cuts into what the first keeps

  module _ (e : SchemaEntry) (n : List SchemaEntry) (m_is : f ≡ g ++ (e ∷ n)) (cut : q.cut ≡ (e ∷ n) ++ p.add) where
    abbrev m : List SchemaEntry
    m = e ∷ n

    abbrev t0 : List SchemaEntry
    t0 = m ++ p.cut

    abbrev t1 : List SchemaEntry
    t1 = m ++ p.add

    -- what both as one do
    abbrev v : SchemaStep
    v = record { on = q.on; cut = t0; add = q.add }

    d_is : ds ≡ g ++ t0
    d_is = s.1 ∙ ap (λ l. l ++ p.cut) m_is ∙ append-assoc g m p.cut

    e_is : es ≡ g ++ t1
    e_is = s.2 ∙ ap (λ l. l ++ p.add) m_is ∙ append-assoc g m p.add

    v_is : u.schema ≡ Some v
    v_is = one_schema_step ds fs u.schema (Some v) r (g, d_is, t.2, t.3, λ k. t.4 (ap first_of cut ∙ k))

    over-both : IsSchemaStep both.0 both.1 (Some v)
    over-both = subst (IsSchemaStep both.0 both.1) v_is both.3.step

    abbrev front_both : List SchemaEntry
    front_both = over-both.0

    apart-cut_both : (x y : SchemaEntry) → Has front_both x → Has t0 y → y.rev ≡ x.rev → ⊥
    apart-cut_both x y i j l = distinct-between rev_of front_both t0 x y (subst (AreDistinct rev_of) over-both.1 both.3.before_in_effect.once) i j l

    under-stays_both : C.schema ≡ None → IsTrue C.base → (x : SchemaEntry) → Has front_both x → x.rev ≡ C.under → IsApart (t0 ++ (t1 ++ q.add)) x
    under-stays_both none base x i k y j l = elim (has-append t0 (t1 ++ q.add) y j) [
      | inl w ↦ apart-cut_both x y i w l
      | inr w ↦ elim (has-append t1 q.add y w) [
        | inl o ↦ elim (has-append m p.add y o) [
          | inl z ↦ apart-cut_both x y i (append_left m p.cut y z) l
          | inr z ↦ (let c = rev-entry (front ++ p.cut) C.under (subst (λ l. Has (revs l) C.under) beside.1 (based a one none base)) in
              elim (has-append front p.cut c.0 c.1) [
                | inl w ↦ apart-add c.0 y w z (l ∙ k ∙ sym c.2)
                | inr w ↦ apart-cut_both x c.0 i (append_right m p.cut c.0 w) (c.2 ∙ sym k)
              ])
        ]
        | inr o ↦ distinct-between rev_of front_both q.add x y (subst (AreDistinct rev_of) over-both.2 both.3.after_in_effect.once) i o l
      ]
    ]

    last-m : last_or (Some q.on) (revs m) ≡ Some p.on
    last-m = ap (λ o. last_or o (revs m)) (sym t.3) ∙ sym (last-append None g m) ∙ ap (λ l. last_of (revs l)) (sym m_is) ∙ s.3

    pub second_cuts_in : HaveSchemasInTurn C a b
    second_cuts_in = refronted C a b ds es fs cd ce cf p q ea eb s.4 t.4 g front_both t0 t1 q.add q.on d_is e_is t.2 t.3
        (first-front front_both t0 opening q.on (ap (λ l. first_of (revs l)) (sym over-both.1) ∙ both.3.before_in_effect.begun) over-both.3)
        (distinct-left rev_of front_both t0 (subst (AreDistinct rev_of) over-both.1 both.3.before_in_effect.once)) over-both.3
        (m, refl, refl, last-m) ([], sym cut, refl, refl)
        both.0 over-both.1 under-stays_both both.2.base
        (λ text c x i. fresh-has C both.0 both.2.fresh text c x (subst (λ l. Has l x) (sym over-both.1) (append_left front_both t0 x i)))
        (λ text c x i. elim (has-append t0 (t1 ++ q.add) x i) [
          | inl j ↦ fresh-has C both.0 both.2.fresh text c x (subst (λ l. Has l x) (sym over-both.1) (append_right front_both t0 x j))
          | inr j ↦ elim (has-append t1 q.add x j) [
            | inl k ↦ elim (has-append m p.add x k) [
              | inl o ↦ fresh-has C both.0 both.2.fresh text c x (subst (λ l. Has l x) (sym over-both.1) (append_right front_both t0 x (append_left m p.cut x o)))
              | inr o ↦ fresh-has C one.1 one.4 text c x (subst (λ l. Has l x) (sym beside.2) (append_right front p.add x o))
            ]
            | inr k ↦ fresh-has C both.1 both.4 text c x (subst (λ l. Has l x) (sym over-both.2) (append_right front_both q.add x k))
          ]
        ])

  -- ## Either way

  goes-on : (m : List SchemaEntry) → g ≡ f ++ m → p.add ≡ m ++ q.cut → HaveSchemasInTurn C a b
  goes-on m k l = second_goes_on m (t.2 ∙ ap (λ l. l ++ q.add) k ∙ append-assoc f m q.add) l
      (ap (λ o. last_or o (revs m)) (sym s.3) ∙ sym (last-append None f m) ∙ ap (λ l. last_of (revs l)) (sym k) ∙ t.3)

  pub both_change : HaveSchemasInTurn C a b
  both_change = elim (split f p.add g q.cut (sym s.2 ∙ t.1)) [
    | inr (m, k, l) ↦ goes-on m k l
    | inl (m, k, l) ↦ at m k l
  ]
    where
      at : (m : List SchemaEntry) → f ≡ g ++ m → q.cut ≡ m ++ p.add → HaveSchemasInTurn C a b
      at [] k l = goes-on [] (sym (append-nil g) ∙ sym k ∙ sym (append-nil f)) (sym l)
      at (e ∷ n) k l = second_cuts_in e n k l

-- a change that agrees with two steps from one list of entries has entries that suit it and both steps in turn
pub schemas_in_turn : (C : Change) (a b u : Step) → ObeysChangeRules C → ObeysStepRules a → ObeysStepRules u → Agrees (RebaseClash C a) → Agrees (RebaseClash C u)
    → (ds es fs : List SchemaEntry) → CanBeInEffect ds → CanBeInEffect es → CanBeInEffect fs → IsSchemaStep ds es a.schema → IsSchemaStep es fs b.schema → IsSchemaStep ds fs u.schema → HaveSchemasInTurn C a b
schemas_in_turn C a b u w va vu ga gu ds es fs cd ce cf s t r = go a.schema refl b.schema refl
  where
    go : (o : Option SchemaStep) → a.schema ≡ o → (n : Option SchemaStep) → b.schema ≡ n → HaveSchemasInTurn C a b
    go None e n k = one_changes C a b u w va vu ga gu ds es fs s t r (inl e)
    go (Some p) e None k = one_changes C a b u w va vu ga gu ds es fs s t r (inr k)
    go (Some p) e (Some q) k = both_change C a b u ds es fs cd ce cf p q e k (subst (IsSchemaStep ds es) e s) (subst (IsSchemaStep es fs) k t) r (beside_step C a w va ga) (beside_step C u w vu gu)
