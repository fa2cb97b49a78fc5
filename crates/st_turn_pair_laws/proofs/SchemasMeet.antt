-- Schema entries that can be in effect before two steps in turn, between them and after them: where it isn't so that there are none,
-- there are some.
use Rattle.std.proofs.Common.{◌≡◌, ◌≢◌, ◌≤◌, ◌<◌, ◌-◌, nat_eq, nat_lt, ℕ, suc, Bool, true, false, List, [], ◌∷◌, ◌++◌, length, take, drop, Option, Some, None, cond, refl, sym, ap, ◌∙◌, subst, append_assoc, arith, inl, inr, ◌⊎◌, IfSome}
use Rattle.std.proofs.lemmas.List.{length-append}
use Rattle.std.proofs.lemmas.List.{take-append-drop}
use Rattle.std.proofs.Math.Seq.{drop-append_seam, take-append_seam}
use Rattle.std.proofs.lemmas.Bool.Decides.{nat_tests}
use Rattle.std.proofs.lemmas.Option.{same_Some}
use Rattle.std.specs.List.{AllByRecursion, last_or}
use Rattle.std.specs.Option.{option_map_or}
use Rattle.st_ids.specs.Listing.{AreDistinct, Has}
use Rattle.st_ids.specs.Order.{same_rev}
use Rattle.st_ids.specs.Root.{opening}
use Rattle.st_ids.specs.declared.names.Rev.{Rev}
use Rattle.st_ids.proofs.Orders.{same_rev-itself, same_rev-true}
use Rattle.st_lemmas.proofs.Bools.{true-false}
use Rattle.st_marks.specs.declared.schemas.SchemaEntry.{SchemaEntry}
use Rattle.st_marks.specs.declared.schemas.SchemaStep.{SchemaStep}
use Rattle.st_marks.specs.declared.steps.Step.{Step}
use Rattle.st_marks.specs.Agree.{HaveSchemasInTurn, SchemasOverStep}
use Rattle.st_marks.specs.Document.{CanBeInEffect, last_of, revs}
use Rattle.st_marks.specs.Step.{IsSchemaStep}
use Rattle.st_marks.proofs.Members.{all-has, append_left, append_right, distinct-append, distinct-between, distinct-left, has-all, has-append, has-map, map-has}
use Rattle.st_normal.specs.Rules.{AreEntriesBehind, SchemaStepFits}
use Rattle.st_turn_pair_laws.proofs.Meeting.{NotNot}
use Rattle.st_turn_pair_laws.specs.inside.Meets.{AreApartFrom, Meets, last_behind}

abbrev rev_of : SchemaEntry → Rev
rev_of e = e.rev

-- ## The last entry

last-append : (d : Option Rev) (front more : List SchemaEntry) → last_or d (revs (front ++ more)) ≡ last_or (last_or d (revs front)) (revs more)
last-append d [] more = refl
last-append d (x ∷ front) more = last-append (Some x.rev) front more

last-told : (o : Option SchemaEntry) (on : Rev) (more : List SchemaEntry) → last_or (Some (option_map_or rev_of o on)) (revs more) ≡ Some (option_map_or rev_of (last_or o more) on)
last-told o on [] = refl
last-told o on (x ∷ more) = last-told (Some x) on more

-- behind a front that ends at an entry
last-is : (front m : List SchemaEntry) (on : Rev) → last_of (revs front) ≡ Some on → last_of (revs (front ++ m)) ≡ Some (last_behind on m)
last-is front m on e = last-append None front m ∙ ap (λ d. last_or d (revs m)) e ∙ last-told None on m

last-in : (d : Option Rev) (es : List SchemaEntry) (r : Rev) → last_or d (revs es) ≡ Some r → Has (revs es) r ⊎ (d ≡ Some r)
last-in d [] r e = inr e
last-in d (x ∷ es) r e = elim (last-in (Some x.rev) es r e) [ inl h ↦ inl (inr h) | inr q ↦ inl (inl (same_Some x.rev r q)) ]

last-has : (es : List SchemaEntry) (r : Rev) → last_of (revs es) ≡ Some r → Has (revs es) r
last-has es r e = elim (last-in None es r e) [ inl h ↦ h | inr q ↦ (let bad : None ≡ Some r = q in cc) ]

-- ## Two ends of one list

ends_alike : {A : Type 0} (f a g b : List A) → f ++ a ≡ g ++ b → length b ≤ length a → (m : List A) × (a ≡ m ++ b) × (g ≡ f ++ m)
ends_alike [] a g b e l = (g, e, refl)
ends_alike (x ∷ f) a [] b e l =
    let n : length b ≡ suc (length (f ++ a)) = ap length (sym e) in
    let bad : ⊥ = omega (arith, l, n, length-append f a) in absurd bad
ends_alike (x ∷ f) a (y ∷ g) b e l =
    let h : x ≡ y = cc in
    let r = ends_alike f a g b (let q : f ++ a ≡ g ++ b = cc in q) l in
    (r.0, r.1, (λ i. sym h i ∷ r.2 i))

-- ## What holds where both stand somewhere

-- entries that stand behind a front and some of which may go
apart_there : (front m others : List SchemaEntry) (on : Rev) → last_of (revs front) ≡ Some on → AreDistinct rev_of ((front ++ m) ++ others) → AreApartFrom on m others
apart_there front m others on last once = has-all (λ (e : SchemaEntry). (e.rev ≢ on) × (Has (revs m) e.rev → ⊥)) others (λ e h. (
  λ q. let w = has-map rev_of front on (last-has front on last) in distinct-between rev_of (front ++ m) others w.0 e once (append_left front m w.0 w.1) h (q ∙ sym w.2),
  λ k. let w = has-map rev_of m e.rev k in distinct-between rev_of (front ++ m) others w.0 e once (append_right front m w.0 w.1) h (sym w.2),
))

module _ (before between after : List SchemaEntry) (s t : SchemaStep) (h : IsSchemaStep before between (Some s)) (k : IsSchemaStep between after (Some t)) (first : CanBeInEffect before) (last : CanBeInEffect after) where
  meet : h.0 ++ s.add ≡ k.0 ++ t.cut
  meet = sym h.2 ∙ k.1

  pub longer_first : length t.cut ≤ length s.add → Meets s.on s.add t.on t.cut t.add
  longer_first l =
      let r = ends_alike h.0 s.add k.0 t.cut meet l in (
        r.0,
        r.1,
        same_Some (last_behind s.on r.0) t.on (sym (last-is h.0 r.0 s.on h.3) ∙ ap (λ es. last_of (revs es)) (sym r.2) ∙ k.3),
        apart_there h.0 r.0 t.add s.on h.3 (subst (λ es. AreDistinct rev_of (es ++ t.add)) r.2 (subst (AreDistinct rev_of) k.2 last.once)),
      )

  pub longer_then : length s.add ≤ length t.cut → Meets t.on t.cut s.on s.add s.cut
  longer_then l =
      let r = ends_alike k.0 t.cut h.0 s.add (sym meet) l in (
        r.0,
        r.1,
        same_Some (last_behind t.on r.0) s.on (sym (last-is k.0 r.0 t.on k.3) ∙ ap (λ es. last_of (revs es)) (sym r.2) ∙ h.3),
        apart_there k.0 r.0 s.cut t.on k.3 (subst (λ es. AreDistinct rev_of (es ++ s.cut)) r.2 (subst (AreDistinct rev_of) h.1 first.once)),
      )

-- ## Entries that can be in effect

abbrev no_text : Rev → SchemaEntry
no_text r = record { rev = r; text = [] }

-- the least list that ends at an entry
abbrev base : Rev → List SchemaEntry
base on = cond (same_rev on opening) (no_text opening ∷ []) (no_text opening ∷ no_text on ∷ [])

base_last : (on : Rev) → last_of (revs (base on)) ≡ Some on
base_last on = go (same_rev on opening) refl
  where
    go : (b : Bool) → same_rev on opening ≡ b → last_of (revs (cond b (no_text opening ∷ []) (no_text opening ∷ no_text on ∷ []))) ≡ Some on
    go true e = ap (λ r. Some r) (sym (same_rev-true on opening e))
    go false e = refl

base_in : (on : Rev) (es : List SchemaEntry) → AreEntriesBehind on es → CanBeInEffect (base on ++ es)
base_in on es a = go (same_rev on opening) refl
  where
    opening_apart : AllByRecursion (λ (y : SchemaEntry). y.rev ≢ opening) es
    opening_apart = has-all (λ (y : SchemaEntry). y.rev ≢ opening) es (λ y h. (all-has (λ (e : SchemaEntry). (e.rev ≢ opening) × (e.rev ≢ on)) es y a.behind h).0)

    on_apart : AllByRecursion (λ (y : SchemaEntry). y.rev ≢ on) es
    on_apart = has-all (λ (y : SchemaEntry). y.rev ≢ on) es (λ y h. (all-has (λ (e : SchemaEntry). (e.rev ≢ opening) × (e.rev ≢ on)) es y a.behind h).1)

    go : (b : Bool) → same_rev on opening ≡ b → CanBeInEffect (cond b (no_text opening ∷ []) (no_text opening ∷ no_text on ∷ []) ++ es)
    go true e = record { begun = refl; once = (opening_apart, a.once) }
    go false e = record { begun = refl; once = (((λ q. true-false (subst (λ r. same_rev r opening ≡ true) (sym q) (same_rev-itself opening)) e), opening_apart), (on_apart, a.once)) }

-- entries behind one, of which a front stays, and others come behind that
behind_front : (on : Rev) (long m short others : List SchemaEntry) → long ≡ m ++ short → AreEntriesBehind on long → AreDistinct rev_of others → AllByRecursion (λ (e : SchemaEntry). e.rev ≢ opening) others → AreApartFrom on m others
    → AreEntriesBehind on (m ++ others)
behind_front on long m short others e a once far apart = record {
  once = distinct-append rev_of m others (distinct-left rev_of m short (subst (AreDistinct rev_of) e a.once)) once
      (λ x y h k q. (all-has (λ (e : SchemaEntry). (e.rev ≢ on) × (Has (revs m) e.rev → ⊥)) others y apart k).1 (subst (Has (revs m)) (sym q) (map-has rev_of m x h)));
  behind = has-all (λ (e : SchemaEntry). (e.rev ≢ opening) × (e.rev ≢ on)) (m ++ others) (λ y h. elim (has-append m others y h) [
    | inl i ↦ all-has (λ (e : SchemaEntry). (e.rev ≢ opening) × (e.rev ≢ on)) (m ++ short) y (subst (AllByRecursion (λ (e : SchemaEntry). (e.rev ≢ opening) × (e.rev ≢ on))) e a.behind) (append_left m short y i)
    | inr i ↦ (all-has (λ (e : SchemaEntry). e.rev ≢ opening) others y far i, (all-has (λ (e : SchemaEntry). (e.rev ≢ on) × (Has (revs m) e.rev → ⊥)) others y apart i).0)
  ]);
}

far_from : (on : Rev) (es : List SchemaEntry) → AreEntriesBehind on es → AllByRecursion (λ (e : SchemaEntry). e.rev ≢ opening) es
far_from on es a = has-all (λ (y : SchemaEntry). y.rev ≢ opening) es (λ y h. (all-has (λ (e : SchemaEntry). (e.rev ≢ opening) × (e.rev ≢ on)) es y a.behind h).0)

-- ## There are such entries

-- a step alone stands somewhere
step_over : (S : Step) (o : Option SchemaStep) → S.schema ≡ o → IfSome o SchemaStepFits → (before : List SchemaEntry) × (after : List SchemaEntry) × SchemasOverStep before after S
step_over S None e h =
    let c = base_in opening [] (record { once = tt; behind = tt }) in
    (base opening ++ [], base opening ++ [], record { before_in_effect = c; after_in_effect = c; step = subst (IsSchemaStep (base opening ++ []) (base opening ++ [])) (sym e) refl })
step_over S (Some s) e h = (
  base s.on ++ s.cut,
  base s.on ++ s.add,
  record {
    before_in_effect = base_in s.on s.cut h.cut;
    after_in_effect = base_in s.on s.add h.add;
    step = subst (IsSchemaStep (base s.on ++ s.cut) (base s.on ++ s.add)) (sym e) (base s.on, refl, refl, base_last s.on, h.differ);
  },
)

stays_over : (S : Step) (es : List SchemaEntry) → CanBeInEffect es → S.schema ≡ None → SchemasOverStep es es S
stays_over S es c e = record { before_in_effect = c; after_in_effect = c; step = subst (IsSchemaStep es es) (sym e) refl }

both_over : (S T : Step) (s t : SchemaStep) → S.schema ≡ Some s → T.schema ≡ Some t → SchemaStepFits s → SchemaStepFits t → Meets s.on s.add t.on t.cut t.add → HaveSchemasInTurn S T
both_over S T s t e g f h w =
    let F = base s.on in
    let m = w.0 in
    let between = base_in s.on s.add f.add in
    let after = base_in s.on (m ++ t.add) (behind_front s.on s.add m t.cut t.add w.1 f.add h.add.once (far_from t.on t.add h.add) w.3) in (
      F ++ s.cut,
      F ++ s.add,
      F ++ (m ++ t.add),
      record { before_in_effect = base_in s.on s.cut f.cut; after_in_effect = between; step = subst (IsSchemaStep (F ++ s.cut) (F ++ s.add)) (sym e) (F, refl, refl, base_last s.on, f.differ) },
      record {
        before_in_effect = between;
        after_in_effect = after;
        step = subst (IsSchemaStep (F ++ s.add) (F ++ (m ++ t.add))) (sym g) (
          F ++ m,
          ap (λ l. F ++ l) w.1 ∙ sym (append_assoc F m t.cut),
          sym (append_assoc F m t.add),
          last-is F m s.on (base_last s.on) ∙ ap (λ r. Some r) w.2,
          h.differ,
        );
      },
    )

then_over : (S T : Step) (s t : SchemaStep) → S.schema ≡ Some s → T.schema ≡ Some t → SchemaStepFits s → SchemaStepFits t → Meets t.on t.cut s.on s.add s.cut → HaveSchemasInTurn S T
then_over S T s t e g f h w =
    let F = base t.on in
    let m = w.0 in
    let between = base_in t.on t.cut h.cut in
    let before = base_in t.on (m ++ s.cut) (behind_front t.on t.cut m s.add s.cut w.1 h.cut f.cut.once (far_from s.on s.cut f.cut) w.3) in (
      F ++ (m ++ s.cut),
      F ++ t.cut,
      F ++ t.add,
      record {
        before_in_effect = before;
        after_in_effect = between;
        step = subst (IsSchemaStep (F ++ (m ++ s.cut)) (F ++ t.cut)) (sym e) (
          F ++ m,
          sym (append_assoc F m s.cut),
          ap (λ l. F ++ l) w.1 ∙ sym (append_assoc F m s.add),
          last-is F m t.on (base_last t.on) ∙ ap (λ r. Some r) w.2,
          f.differ,
        );
      },
      record { before_in_effect = between; after_in_effect = base_in t.on t.add h.add; step = subst (IsSchemaStep (F ++ t.cut) (F ++ t.add)) (sym g) (F, refl, refl, base_last t.on, h.differ) },
    )

-- ## All together

pub one_changes : (S T : Step) → (S.schema ≡ None) ⊎ (T.schema ≡ None) → IfSome S.schema SchemaStepFits → IfSome T.schema SchemaStepFits → HaveSchemasInTurn S T
one_changes S T (inl e) f h = let w = step_over T T.schema refl h in (w.0, w.0, w.1, stays_over S w.0 w.2.before_in_effect e, w.2)
one_changes S T (inr e) f h = let w = step_over S S.schema refl f in (w.0, w.1, w.1, w.2, stays_over T w.1 w.2.after_in_effect e)

module _ (S T : Step) (s t : SchemaStep) (e : S.schema ≡ Some s) (g : T.schema ≡ Some t) where
  fits_of : (U : Step) (u : SchemaStep) → U.schema ≡ Some u → IfSome U.schema SchemaStepFits → SchemaStepFits u
  fits_of U u q f = subst (λ o. IfSome o SchemaStepFits) q f

  pub first_meets : length t.cut ≤ length s.add → HaveSchemasInTurn S T → Meets s.on s.add t.on t.cut t.add
  first_meets l w = longer_first w.0 w.1 w.2 s t (subst (IsSchemaStep w.0 w.1) e w.3.step) (subst (IsSchemaStep w.1 w.2) g w.4.step) w.3.before_in_effect w.4.after_in_effect l

  pub then_meets : length s.add ≤ length t.cut → HaveSchemasInTurn S T → Meets t.on t.cut s.on s.add s.cut
  then_meets l w = longer_then w.0 w.1 w.2 s t (subst (IsSchemaStep w.0 w.1) e w.3.step) (subst (IsSchemaStep w.1 w.2) g w.4.step) w.3.before_in_effect w.4.after_in_effect l

  pub first_some : IfSome S.schema SchemaStepFits → IfSome T.schema SchemaStepFits → Meets s.on s.add t.on t.cut t.add → HaveSchemasInTurn S T
  first_some f h w = both_over S T s t e g (fits_of S s e f) (fits_of T t g h) w

  pub then_some : IfSome S.schema SchemaStepFits → IfSome T.schema SchemaStepFits → Meets t.on t.cut s.on s.add s.cut → HaveSchemasInTurn S T
  then_some f h w = then_over S T s t e g (fits_of S s e f) (fits_of T t g h) w

-- where a list ends with another, that is what stands behind the front
fronts_are : (m short : List SchemaEntry) → take (length (m ++ short) - length short) (m ++ short) ≡ m
fronts_are m short =
    let n : length (m ++ short) - length short ≡ length m = omega (arith, length-append m short) in
    ap (λ k. take k (m ++ short)) n ∙ take-append_seam m short

ends_are : (m short : List SchemaEntry) → drop (length (m ++ short) - length short) (m ++ short) ≡ short
ends_are m short =
    let n : length (m ++ short) - length short ≡ length m = omega (arith, length-append m short) in
    ap (λ k. drop k (m ++ short)) n ∙ drop-append_seam m short

-- ## What isn't not so is so

number-is : (a b : ℕ) → NotNot (a ≡ b) → a ≡ b
number-is a b h = go (nat_eq a b) refl
  where
    go : (c : Bool) → nat_eq a b ≡ c → a ≡ b
    go true e = grind (arith, nat_tests)
    go false e = absurd (h (λ q. let n : nat_eq b b ≡ true = grind (arith, nat_tests) in true-false (ap (λ x. nat_eq x b) q ∙ n) e))

rev-is : (a b : Rev) → NotNot (a ≡ b) → a ≡ b
rev-is a b h = go (same_rev a b) refl
  where
    go : (c : Bool) → same_rev a b ≡ c → a ≡ b
    go true e = same_rev-true a b e
    go false e = absurd (h (λ q. true-false (ap (λ x. same_rev x b) q ∙ same_rev-itself b) e))

not-empty : {A : Type 0} {x : A} {xs : List A} → x ∷ xs ≡ [] → ⊥
not-empty e = cc

list-is : {A : Type 0} → ((a b : A) → NotNot (a ≡ b) → a ≡ b) → (xs ys : List A) → NotNot (xs ≡ ys) → xs ≡ ys
list-is one [] [] h = refl
list-is one [] (y ∷ ys) h = absurd (h (λ e. not-empty (sym e)))
list-is one (x ∷ xs) [] h = absurd (h (λ e. not-empty e))
list-is {A} one (x ∷ xs) (y ∷ ys) h = λ i. one x y (λ n. h (λ e. n (head e))) i ∷ list-is one xs ys (λ n. h (λ e. n (rest e))) i
  where
    head : x ∷ xs ≡ y ∷ ys → x ≡ y
    head e = cc

    rest : x ∷ xs ≡ y ∷ ys → xs ≡ ys
    rest e = cc

entry-is : (a b : SchemaEntry) → NotNot (a ≡ b) → a ≡ b
entry-is a b h = λ i. record {
  rev = rev-is a.rev b.rev (λ n. h (λ e. n (ap rev_of e))) i;
  text = list-is number-is a.text b.text (λ n. h (λ e. n (ap (λ (x : SchemaEntry). x.text) e))) i;
}

apart-is : (on : Rev) (m others : List SchemaEntry) → NotNot (AreApartFrom on m others) → AreApartFrom on m others
apart-is on m [] h = tt
apart-is on m (e ∷ others) h = ((λ q. h (λ w. w.0.0 q), λ k. h (λ w. w.0.1 k)), apart-is on m others (λ n. h (λ w. n w.1)))

meets-is : (on at : Rev) (long short others : List SchemaEntry) → NotNot (Meets on long at short others) → Meets on long at short others
meets-is on at long short others h = (
  front,
  sym (take-append-drop (length long - length short) long) ∙ ap (λ l. front ++ l) (list-is entry-is end short (λ n. h (λ w. n (end_is w)))),
  rev-is (last_behind on front) at (λ n. h (λ w. n (ap (last_behind on) (front_is w) ∙ w.2))),
  apart-is on front others (λ n. h (λ w. n (subst (λ f. AreApartFrom on f others) (sym (front_is w)) w.3))),
)
  where
    front : List SchemaEntry
    front = take (length long - length short) long

    end : List SchemaEntry
    end = drop (length long - length short) long

    end_is : Meets on long at short others → end ≡ short
    end_is w = ap (λ l. drop (length l - length short) l) w.1 ∙ ends_are w.0 short

    front_is : (w : Meets on long at short others) → front ≡ w.0
    front_is w = ap (λ l. take (length l - length short) l) w.1 ∙ fronts_are w.0 short

-- which of the two lists is the longer one
which_longer : (m n : ℕ) → (n ≤ m) ⊎ (m < n)
which_longer m n = go (nat_lt m n) refl
  where
    go : (b : Bool) → nat_lt m n ≡ b → (n ≤ m) ⊎ (m < n)
    go true e = inr (grind (arith, nat_tests))
    go false e = inl (grind (arith, nat_tests))

less_le : (m n : ℕ) → m < n → m ≤ n
less_le m n h = omega (arith, h)

-- two steps have entries where they don't have none
pub schemas-are : (S T : Step) → IfSome S.schema SchemaStepFits → IfSome T.schema SchemaStepFits → NotNot (HaveSchemasInTurn S T) → HaveSchemasInTurn S T
schemas-are S T f h w = go S.schema refl T.schema refl
  where
    go : (p : Option SchemaStep) → S.schema ≡ p → (q : Option SchemaStep) → T.schema ≡ q → HaveSchemasInTurn S T
    go None e q k = one_changes S T (inl e) f h
    go (Some s) e None k = one_changes S T (inr k) f h
    go (Some s) e (Some t) k = elim (which_longer (length s.add) (length t.cut)) [
      | inl l ↦ first_some S T s t e k f h (meets-is s.on t.on s.add t.cut t.add (λ n. w (λ v. n (first_meets S T s t e k l v))))
      | inr l ↦ then_some S T s t e k f h (meets-is t.on s.on t.cut s.add s.cut (λ n. w (λ v. n (then_meets S T s t e k (less_le (length s.add) (length t.cut) l) v))))
    ]
