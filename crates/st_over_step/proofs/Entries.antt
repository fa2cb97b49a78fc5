-- What a step says of schemas, told from the entries in effect.
use Rattle.std.proofs.Common.{◌≡◌, ◌≢◌, ◌↔◌, ◌&&◌, ◌-◌, ◌+◌, ℕ, Bool, true, false, List, [], ◌∷◌, ◌++◌, Option, Some, None, MatchOption, IsTrue, option_map, slice_get, length, take, drop, nat_eq, refl, sym, ap, ◌∙◌, subst, arith}
use Rattle.std.proofs.lemmas.Bool.Decides.{nat_tests}
use Rattle.std.proofs.lemmas.List.{append_cancel_right, take-append-drop}
use Rattle.std.proofs.Math.Nat.{add-sub_cancel}
use Rattle.std.proofs.Math.Seq.{drop-append_seam}
use Rattle.std.specs.Cmp.Lexicographic.{bytes_decides, pointwise}
use Rattle.std.specs.List.{AllByRecursion}
use Rattle.st_ids.specs.Root.{opening}
use Rattle.st_ids.specs.declared.names.Rev.{Rev}
use Rattle.st_lemmas.proofs.Bools.{and-true, and-both, true-false}
use Rattle.st_lemmas.proofs.Options.{one_some}
use Rattle.st_lemmas.proofs.Lists.{length-append}
use Rattle.st_marks.specs.declared.schemas.SchemaEntry.{SchemaEntry}
use Rattle.st_marks.specs.declared.schemas.SchemaStep.{SchemaStep}
use Rattle.st_marks.specs.Document.{CanBeInEffect, first_of, last_of, revs}
use Rattle.st_marks.proofs.Members.{all-has, has-all, distinct-append, distinct-between, distinct-left}
use Rattle.st_normal.specs.Rules.{SchemaStepFits}
use Rattle.st_forest.proofs.Entries.{last_entry}
use Rattle.st_normal_step_laws.specs.StepOver.{EndsWithCut}
use Rattle.st_over_step.specs.inside.Tables.{IsNotAmong}

-- ## Entries that are one

-- the test of two entries, as it is derived
abbrev same_entry : SchemaEntry → SchemaEntry → Bool
same_entry a b = (nat_eq a.rev.session b.rev.session && nat_eq a.rev.num b.rev.num) && pointwise nat_eq a.text b.text

same_number : (m n : ℕ) → nat_eq m n ≡ true → m ≡ n
same_number m n e = grind (arith, nat_tests)

number_itself : (n : ℕ) → nat_eq n n ≡ true
number_itself n = grind (arith, nat_tests)

one_entry : (a b : SchemaEntry) → same_entry a b ≡ true → a ≡ b
one_entry a b e =
    let p = and-true (nat_eq a.rev.session b.rev.session && nat_eq a.rev.num b.rev.num) (pointwise nat_eq a.text b.text) e in
    let q = and-true (nat_eq a.rev.session b.rev.session) (nat_eq a.rev.num b.rev.num) p.0 in
    λ i. record { rev = record { session = same_number a.rev.session b.rev.session q.0 i; num = same_number a.rev.num b.rev.num q.1 i }; text = (bytes_decides a.text b.text).0 p.1 i }

entry_itself : (a : SchemaEntry) → same_entry a a ≡ true
entry_itself a =
    and-both (nat_eq a.rev.session a.rev.session && nat_eq a.rev.num a.rev.num) (pointwise nat_eq a.text a.text)
    (and-both (nat_eq a.rev.session a.rev.session) (nat_eq a.rev.num a.rev.num) (number_itself a.rev.session) (number_itself a.rev.num)) ((bytes_decides a.text a.text).1 refl)

one_list : (xs ys : List SchemaEntry) → pointwise same_entry xs ys ≡ true → xs ≡ ys
one_list [] [] e = refl
one_list [] (y ∷ ys) e = cc
one_list (x ∷ xs) [] e = cc
one_list (x ∷ xs) (y ∷ ys) e = let p = and-true (same_entry x y) (pointwise same_entry xs ys) e in λ i. one_entry x y p.0 i ∷ one_list xs ys p.1 i

list_itself : (xs : List SchemaEntry) → pointwise same_entry xs xs ≡ true
list_itself [] = refl
list_itself (x ∷ xs) = and-both (same_entry x x) (pointwise same_entry xs xs) (entry_itself x) (list_itself xs)

-- ## The end that goes

ends_otherwise : (entries last : List SchemaEntry) → pointwise same_entry (drop (length entries - length last) entries) last ≡ false → (front : List SchemaEntry) → entries ≢ front ++ last
ends_otherwise entries last e front is =
    let n : length entries - length last ≡ length front = ap (λ l. length l - length last) is ∙ ap (λ k. k - length last) (length-append front last) ∙ add-sub_cancel (length front) (length last) in
    let end : drop (length entries - length last) entries ≡ last = (λ i. drop (n i) (is i)) ∙ drop-append_seam front last in
    true-false (ap (λ l. pointwise same_entry l last) end ∙ list_itself last) e

ends_so : (entries front last : List SchemaEntry) → pointwise same_entry (drop (length entries - length last) entries) last ≡ true → front ≡ take (length entries - length last) entries → entries ≡ front ++ last
ends_so entries front last e is =
    let n = length entries - length last in
    sym ((λ i. is i ++ sym (one_list (drop n entries) last e) i) ∙ take-append-drop n entries)

-- ## Those that come

-- the last of some entries tells that there is a first
begun_more : (front cut add : List SchemaEntry) (on : Rev) → last_of (revs front) ≡ Some on → first_of (revs (front ++ cut)) ≡ Some opening → first_of (revs (front ++ add)) ≡ Some opening
begun_more [] cut add on e b = cc
begun_more (f ∷ front) cut add on e b = b

goes_on : (front : List SchemaEntry) (s : SchemaStep) → CanBeInEffect (front ++ s.cut) → SchemaStepFits s
    → ((last_of (revs front) ≡ Some s.on) × AllByRecursion (IsNotAmong front) s.add) ↔ ((last_of (revs front) ≡ Some s.on) × CanBeInEffect (front ++ s.add))
goes_on front s can fits = (
  λ h. (
    h.0,
    record {
      begun = begun_more front s.cut s.add s.on h.0 can.begun;
      once = distinct-append (λ (e : SchemaEntry). e.rev) front s.add (distinct-left (λ (e : SchemaEntry). e.rev) front s.cut can.once) fits.add.once
          (λ x y hx hy. all-has (λ (f : SchemaEntry). y.rev ≢ f.rev) front x (all-has (IsNotAmong front) s.add y h.1 hy) hx);
    },
  ),
  λ h. (h.0, has-all (IsNotAmong front) s.add (λ y hy. has-all (λ (f : SchemaEntry). y.rev ≢ f.rev) front (λ x hx. distinct-between (λ (e : SchemaEntry). e.rev) front s.add x y h.1.once hx hy))),
)

-- ## The whole part

ends_with_cut : (entries front : List SchemaEntry) (s : SchemaStep) → entries ≡ front ++ s.cut → ((last_of (revs front) ≡ Some s.on) × CanBeInEffect (front ++ s.add)) ↔ EndsWithCut entries s
ends_with_cut entries front s is = (
  λ h. (front, is, h.0, h.1),
  λ h.
      let same : h.0 ≡ front = append_cancel_right h.0 front s.cut (sym h.1 ∙ is) in
      subst (λ (l : List SchemaEntry). (last_of (revs l) ≡ Some s.on) × CanBeInEffect (l ++ s.add)) same (h.2, h.3),
)

-- ## As they are tested

pub split_told : {X : Type 0} (now : X → List SchemaEntry) (entries last : List SchemaEntry) (o : Option X)
    → MatchOption o (pointwise same_entry (drop (length entries - length last) entries) last ≡ false)
    (λ x. (pointwise same_entry (drop (length entries - length last) entries) last ≡ true) × (now x ≡ take (length entries - length last) entries) × (length (now x) + length last ≡ length entries))
    → MatchOption o ((front : List SchemaEntry) → entries ≢ front ++ last) (λ x. entries ≡ now x ++ last)
split_told now entries last None h = ends_otherwise entries last h
split_told now entries last (Some x) h = ends_so entries (now x) last h.0 h.1

pub last_is : (es : List SchemaEntry) (e : SchemaEntry) (r : Rev) (b : Bool) → Some e ≡ slice_get es (length es - 1) → IsTrue b ↔ (e.rev ≡ r) → IsTrue b ↔ (last_of (revs es) ≡ Some r)
last_is es e r b at test =
    let last : last_of (revs es) ≡ Some e.rev = sym (ap (option_map (λ (x : SchemaEntry). x.rev)) at ∙ last_entry es) in
    (λ t. last ∙ ap (λ x. Some x) (test.0 t), λ q. test.1 (one_some e.rev r (sym last ∙ q)))

pub goes_on_if : (front adds : List SchemaEntry) (s : SchemaStep) (last r : Bool) → IsTrue last ↔ (last_of (revs front) ≡ Some s.on) → last ≡ true → adds ≡ s.add → IsTrue r ↔ AllByRecursion (IsNotAmong front) adds
    → CanBeInEffect (front ++ s.cut) → SchemaStepFits s → IsTrue r ↔ ((last_of (revs front) ≡ Some s.on) × CanBeInEffect (front ++ s.add))
goes_on_if front adds s last r is t same test can fits = (
  λ q. (goes_on front s can fits).0 (is.0 t, subst (AllByRecursion (IsNotAmong front)) same (test.0 q)),
  λ h. test.1 (subst (AllByRecursion (IsNotAmong front)) (sym same) ((goes_on front s can fits).1 h).1),
)

pub ends_if : (entries front cut : List SchemaEntry) (s : SchemaStep) (r : Bool) → cut ≡ s.cut → entries ≡ front ++ cut
    → (CanBeInEffect (front ++ s.cut) → SchemaStepFits s → IsTrue r ↔ ((last_of (revs front) ≡ Some s.on) × CanBeInEffect (front ++ s.add)))
    → CanBeInEffect entries → SchemaStepFits s → IsTrue r ↔ EndsWithCut entries s
ends_if entries front cut s r same is test can fits =
    let e : entries ≡ front ++ s.cut = is ∙ ap (λ l. front ++ l) same in
    let t = test (subst CanBeInEffect e can) fits in
    let w = ends_with_cut entries front s e in
    (λ q. w.0 (t.0 q), λ h. t.1 (w.1 h))
