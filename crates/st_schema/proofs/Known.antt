-- A name is found where it is among the names.
use Rattle.std.proofs.Common.{◌≡◌, ◌∙◌, ℕ, Bool, true, false, not, ◌&&◌, ◌||◌, List, [], ◌∷◌, ◌++◌, map, is_some, refl, sym, ap, append_assoc}
use Rattle.std.proofs.lemmas.List.{map-append}
use Rattle.std.specs.List.{list_any}
use Rattle.std.specs.Map.{lookup}
use Rattle.std.specs.Prelude.{if◌then◌else◌, Some}
use Rattle.indexmap.specs.IndexMap.{insert_entry}
use Rattle.std.proofs.lemmas.Map.Made.{is_some-lookup}
use Rattle.std.proofs.lemmas.Cmp.{nat_list_eq_equiv}
use Rattle.st_schema.specs.Schema.{same, is_among, is_distinct}

among_turned : (t : List ℕ) (us : List (List ℕ)) → list_any (same t) us ≡ is_among t us
among_turned t [] = refl
among_turned t (u ∷ us) = λ i. nat_list_eq_equiv.symm t u i || among_turned t us i

pub known_found : {X : Type 0} (t : List ℕ) (es : List (List ℕ × X)) → is_some (lookup (same t) es) ≡ is_among t (map (λ e. e.0) es)
known_found t es = is_some-lookup (same t) es ∙ among_turned t (map (λ e. e.0) es)

put_after : {X : Type 0} (b : Bool) (e : List ℕ × X) (es : List (List ℕ × X)) (k : List ℕ) (x : X) → is_some (if b then Some e.1 else lookup (same k) es) ≡ false
    → (is_some (lookup (same k) es) ≡ false → insert_entry same es k x ≡ es ++ (k, x) ∷ []) → (if b then (e.0, x) ∷ es else e ∷ insert_entry same es k x) ≡ e ∷ (es ++ (k, x) ∷ [])
put_after true e es k x h later = absurd (cc)
put_after false e es k x h later = ap (λ fs. e ∷ fs) (later h)

-- a name that is not among the names goes last
pub put_new : {X : Type 0} (es : List (List ℕ × X)) (k : List ℕ) (x : X) → is_some (lookup (same k) es) ≡ false → insert_entry same es k x ≡ es ++ (k, x) ∷ []
put_new [] k x h = refl
put_new (e ∷ es) k x h = put_after (same k e.0) e es k x h (put_new es k x)

-- ---- distinct names

or_more : (a b c : Bool) → a || (b || c) ≡ (a || b) || c
or_more true b c = refl
or_more false b c = refl

among-append : (t : List ℕ) (us vs : List (List ℕ)) → is_among t (us ++ vs) ≡ is_among t us || is_among t vs
among-append t [] vs = refl
among-append t (u ∷ us) vs = ap (λ b. same u t || b) (among-append t us vs) ∙ or_more (same u t) (is_among t us) (is_among t vs)

and-none_of_both : (a s r d e : Bool) → not a && d ≡ true → s || r ≡ false → (d ≡ true → r ≡ false → e ≡ true) → not (a || (s || false)) && e ≡ true
and-none_of_both true s r d e p q later = absurd (cc)
and-none_of_both false true r d e p q later = absurd (cc)
and-none_of_both false false r d e p q later = later p q

pub distinct_more : (us : List (List ℕ)) (t : List ℕ) → is_distinct us ≡ true → is_among t us ≡ false → is_distinct (us ++ t ∷ []) ≡ true
distinct_more [] t p q = refl
distinct_more (u ∷ us) t p q =
    ap (λ b. not b && is_distinct (us ++ t ∷ [])) (among-append u us (t ∷ []) ∙ ap (λ b. is_among u us || (b || false)) (nat_list_eq_equiv.symm t u))
    ∙ and-none_of_both (is_among u us) (same u t) (is_among t us) (is_distinct us) (is_distinct (us ++ t ∷ [])) p q (distinct_more us t)

one_twice : (a s w r e : Bool) → s || r ≡ true → (r ≡ true → e ≡ false) → not (a || (s || w)) && e ≡ false
one_twice true s w r e q later = refl
one_twice false true w r e q later = refl
one_twice false false true r e q later = refl
one_twice false false false r e q later = later q

pub distinct_fails : (us : List (List ℕ)) (t : List ℕ) (vs : List (List ℕ)) → is_among t us ≡ true → is_distinct (us ++ t ∷ vs) ≡ false
distinct_fails [] t vs q = absurd (cc)
distinct_fails (u ∷ us) t vs q =
    ap (λ b. not b && is_distinct (us ++ t ∷ vs)) (among-append u us (t ∷ vs) ∙ ap (λ b. is_among u us || (b || is_among u vs)) (nat_list_eq_equiv.symm t u))
    ∙ one_twice (is_among u us) (same u t) (is_among u vs) (is_among t us) (is_distinct (us ++ t ∷ vs)) q (distinct_fails us t vs)

-- ---- a table that is filled

pub taken_again : {X : Type 0} (old left rest all : List (List ℕ × X)) (n : List ℕ) (x : X) → old ++ left ≡ all → left ≡ (n, x) ∷ rest → is_some (lookup (same n) old) ≡ true
    → is_distinct (map (λ e. e.0) all) ≡ false
taken_again {X} old left rest all n x whole first taken =
    let name : List ℕ × X → List ℕ = λ e. e.0 in
    ap (λ es. is_distinct (map name es)) (sym whole ∙ ap (λ es. old ++ es) first)
    ∙ ap is_distinct (map-append name old ((n, x) ∷ rest))
    ∙ distinct_fails (map name old) n (map name rest) (sym (known_found n old) ∙ taken)

pub put_next : {X : Type 0} (old new left rest all : List (List ℕ × X)) (n : List ℕ) (x : X) → old ++ left ≡ all → left ≡ (n, x) ∷ rest → new ≡ old ++ (n, x) ∷ [] → new ++ rest ≡ all
put_next old new left rest all n x whole first put = ap (λ es. es ++ rest) put ∙ append_assoc old ((n, x) ∷ []) rest ∙ ap (λ es. old ++ es) (sym first) ∙ whole

pub distinct_next : {X : Type 0} (old new : List (List ℕ × X)) (n : List ℕ) (x : X) → is_distinct (map (λ e. e.0) old) ≡ true → is_some (lookup (same n) old) ≡ false → new ≡ old ++ (n, x) ∷ []
    → is_distinct (map (λ e. e.0) new) ≡ true
distinct_next {X} old new n x distinct free put =
    let name : List ℕ × X → List ℕ = λ e. e.0 in
    ap (λ es. is_distinct (map name es)) put
    ∙ ap is_distinct (map-append name old ((n, x) ∷ []))
    ∙ distinct_more (map name old) n distinct (sym (known_found n old) ∙ free)
