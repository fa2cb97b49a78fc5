-- The marks of reachable types.
use Rattle.std.proofs.Common.{◌≡◌, ◌≢◌, ◌∙◌, ℕ, zero, suc, ◌<◌, ◌+◌, nat_lt, nat_eq, List, length, set, replicate, Bool, true, false, cond, ◌&&◌, ◌||◌, Option, Some, None, refl, sym, ap, arith, ⊎_elim, get_or-set_same, get_or-set_other, true≢false}
use Rattle.std.specs.List.{slice_get, slice_index_or}
use Rattle.std.proofs.lemmas.Bool.Decides.{nat_tests}
use Rattle.std.proofs.lemmas.List.Sums.{sum_by-set}
use Rattle.st_lemmas.proofs.Bools.{or-left, or-right, or-cases, or-false}
use Rattle.st_schema.specs.Schema.{SchemaView, is_among, form_of}
use Rattle.st_schema.specs.declared.names.Form.{Form}
use Rattle.st_compat.specs.Relation.{IsReachable, at_root, below, types_below}
use Rattle.st_compat.specs.inside.Marks.{flag, names_one, is_named, below_form, below_one, below_number, IsMarkedToo, IsMarkedBelow, IsMarking, AreMarks, AllFollowed, left}
use Rattle.st_compat.proofs.Numbers.{NameAt, at_number, all_below, number_of}

-- ---- a list of types

named_is : (s : SchemaView) (i : ℕ) (name : List ℕ) (types : List (List ℕ)) → NameAt s i (Some name) → is_named s types i ≡ is_among name types
named_is s i name types e = ap (λ o. names_one o types) (at_number s i name e).1

pub name_marked : (s : SchemaView) (types : List (List ℕ)) (old marks : List Bool) (i : ℕ) (name : List ℕ) → NameAt s i (Some name) → i < length marks → is_among name types ≡ true
    → IsMarkedBelow s types old marks i → IsMarkedBelow s types old (set marks i true) (i + 1)
name_marked s types old marks i name e within among so_far k = go (nat_eq k i) refl
  where
    go : (x : Bool) → nat_eq k i ≡ x → flag (set marks i true) k ≡ (flag old k || (nat_lt k (i + 1) && is_named s types k))
    go true is =
        let at : k ≡ i = grind (arith, nat_tests) in
        let low : nat_lt k (i + 1) ≡ true = grind (arith, nat_tests) in
        let named : is_named s types k ≡ true = ap (is_named s types) at ∙ named_is s i name types e ∙ among in
        ap (flag (set marks i true)) at ∙ get_or-set_same marks i true false within ∙ sym (or-right (flag old k) (nat_lt k (i + 1) && is_named s types k) (rw (low, named) refl))
    go false is =
        let other : k ≢ i = grind (arith, nat_tests) in
        let low : nat_lt k (i + 1) ≡ nat_lt k i = grind (arith, nat_tests) in
        get_or-set_other marks i k true false other ∙ so_far k ∙ ap (λ (b : Bool). flag old k || (b && is_named s types k)) (sym low)

pub name_left : (s : SchemaView) (types : List (List ℕ)) (old marks : List Bool) (i : ℕ) (name : List ℕ) → NameAt s i (Some name) → is_among name types ≡ false
    → IsMarkedBelow s types old marks i → IsMarkedBelow s types old marks (i + 1)
name_left s types old marks i name e lacks so_far k = go (nat_eq k i) refl
  where
    go : (x : Bool) → nat_eq k i ≡ x → flag marks k ≡ (flag old k || (nat_lt k (i + 1) && is_named s types k))
    go true is =
        let at : k ≡ i = grind (arith, nat_tests) in
        let low : nat_lt k i ≡ false = grind (arith, nat_tests) in
        let more : nat_lt k (i + 1) ≡ true = grind (arith, nat_tests) in
        let named : is_named s types k ≡ false = ap (is_named s types) at ∙ named_is s i name types e ∙ lacks in
        so_far k ∙ ap (λ (b : Bool). flag old k || (b && is_named s types k)) low ∙ sym (rw (more, named) refl)
    go false is =
        let low : nat_lt k (i + 1) ≡ nat_lt k i = grind (arith, nat_tests) in
        so_far k ∙ ap (λ (b : Bool). flag old k || (b && is_named s types k)) (sym low)

pub list_marked : (s : SchemaView) (types : List (List ℕ)) (old marks : List Bool) (i : ℕ) → NameAt s i None → IsMarkedBelow s types old marks i → IsMarkedToo s types old marks
list_marked s types old marks i none so_far k = so_far k ∙ ap (λ (b : Bool). flag old k || b) (go (slice_get s.types k) refl)
  where
    go : (o : Option (List ℕ × Form)) → slice_get s.types k ≡ o → (nat_lt k i && names_one o types) ≡ names_one o types
    go None at = grind (arith, nat_tests)
    go (Some d) at = let within : k < i = all_below s i k d none at in let low : nat_lt k i ≡ true = grind (arith, nat_tests) in ap (λ (b : Bool). b && is_among d.0 types) low

pub none_named : (s : SchemaView) (types : List (List ℕ)) (marks : List Bool) → IsMarkedBelow s types marks marks 0
none_named s types marks k = let low : nat_lt k 0 ≡ false = grind (arith, nat_tests) in sym (ap (λ (b : Bool). flag marks k || (b && is_named s types k)) low ∙ or-false (flag marks k))

-- ---- marks that are followed

is_named_at : (s : SchemaView) (types : List (List ℕ)) (k : ℕ) (d : List ℕ × Form) → slice_get s.types k ≡ Some d → is_named s types k ≡ is_among d.0 types
is_named_at s types k d at = ap (λ (o : Option (List ℕ × Form)). names_one o types) at

pub marks_begin : (s : SchemaView) (none followed marks : List Bool) → ((k : ℕ) → flag none k ≡ false) → ((k : ℕ) → flag followed k ≡ false) → IsMarkedToo s s.root none marks → AreMarks s marks followed
marks_begin s none followed marks empty unfollowed marked = record {
  only = λ k d at is. at_root d.0 (sym (is_named_at s s.root k d at) ∙ ap (λ (b : Bool). b || is_named s s.root k) (sym (empty k)) ∙ sym (marked k) ∙ is);
  root = λ k named. marked k ∙ or-right (flag none k) (is_named s s.root k) named;
  closed = λ j k f named. absurd (true≢false (sym f ∙ unfollowed j));
}

reached_below : (s : SchemaView) (i k : ℕ) (d : List ℕ × Form) → slice_get s.types k ≡ Some d → is_named s (below_number s i) k ≡ true → ((e : List ℕ × Form) → slice_get s.types i ≡ Some e → IsReachable s e.0) → IsReachable s d.0
reached_below s i k d at named above = go (slice_get s.types i) refl (sym (is_named_at s (below_number s i) k d at) ∙ named)
  where
    formed : (e : List ℕ × Form) → slice_get s.types i ≡ Some e → (o : Option Form) → form_of s.types e.0 ≡ o → is_among d.0 (below_form o) ≡ true → IsReachable s d.0
    formed e here None is among = absurd (cc)
    formed e here (Some form) is among = below e.0 d.0 form (above e here) is among

    go : (o : Option (List ℕ × Form)) → slice_get s.types i ≡ o → is_among d.0 (below_one s o) ≡ true → IsReachable s d.0
    go None here among = absurd (cc)
    go (Some e) here among = formed e here (form_of s.types e.0) refl among

pub marks_next : (s : SchemaView) (old followed new : List Bool) (i : ℕ) → flag old i ≡ true → i < length followed → IsMarkedToo s (below_number s i) old new → AreMarks s old followed → AreMarks s new (set followed i true)
marks_next s old followed new i marked_i within marked are = record {
  only = λ k d at is. ⊎_elim (λ was. are.only k d at was) (λ named. reached_below s i k d at named (λ e here. are.only i e here marked_i))
      (or-cases (flag old k) (is_named s (below_number s i) k) (sym (marked k) ∙ is));
  root = λ k named. kept k (are.root k named);
  closed = λ j k f named. go j k (nat_eq j i) refl f named;
}
  where
    kept : (k : ℕ) → flag old k ≡ true → flag new k ≡ true
    kept k was = marked k ∙ or-left (flag old k) (is_named s (below_number s i) k) was

    go : (j k : ℕ) (x : Bool) → nat_eq j i ≡ x → flag (set followed i true) j ≡ true → is_named s (below_number s j) k ≡ true → flag new k ≡ true
    go j k true is f named =
        let e : j ≡ i = grind (arith, nat_tests) in
        marked k ∙ or-right (flag old k) (is_named s (below_number s i) k) (ap (λ (n : ℕ). is_named s (below_number s n) k) (sym e) ∙ named)
    go j k false is f named =
        let other : j ≢ i = grind (arith, nat_tests) in
        kept k (are.closed j k (sym (get_or-set_other followed i j true false other) ∙ f) named)

pub marks_all : (s : SchemaView) (marks followed : List Bool) → AllFollowed marks followed → AreMarks s marks followed → IsMarking s marks
marks_all s marks followed all are = record { only = are.only; all = λ k d at r. go d.0 r k d at refl }
  where
    go : (ty : List ℕ) → IsReachable s ty → (k : ℕ) (d : List ℕ × Form) → slice_get s.types k ≡ Some d → d.0 ≡ ty → flag marks k ≡ true
    go ty (at_root root_ty among) k d at is = are.root k (is_named_at s s.root k d at ∙ ap (λ (t : List ℕ). is_among t s.root) is ∙ among)
    go ty (below up below_ty form r formed among) k d at is =
        let j = number_of s up form formed in
        let followed_j = all j.0 (go up r j.0 (up, form) j.1 refl) in
        let held : below_number s j.0 ≡ types_below form = ap (below_one s) j.1 ∙ ap below_form formed in
        are.closed j.0 k followed_j (ap (λ (ts : List (List ℕ)). is_named s ts k) held ∙ is_named_at s (types_below form) k d at ∙ ap (λ (t : List ℕ). is_among t (types_below form)) is ∙ among)

pub left_less : (followed : List Bool) (i : ℕ) → i < length followed → flag followed i ≡ false → left (set followed i true) < left followed
left_less followed i within unfollowed =
    let weigh : Bool → ℕ = λ b. cond b 0 1 in
    let one : weigh (slice_index_or followed i false) ≡ 1 = ap weigh unfollowed in
    omega (arith, sum_by-set weigh followed i true false within, one)

pub unmarked : (n k : ℕ) → flag (replicate n false) k ≡ false
unmarked zero k = refl
unmarked (suc n) zero = refl
unmarked (suc n) (suc k) = unmarked n k
