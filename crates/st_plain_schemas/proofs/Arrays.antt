-- The types of a schema whose nodes have a row, told in the order of the schema.
use Rattle.std.proofs.Common.{◌≡◌, ◌≤◌, ◌<◌, ◌+◌, ℕ, zero, suc, Bool, true, false, cond, ◌&&◌, ◌||◌, nat_le, nat_eq, List, [], ◌∷◌, ◌++◌, length, take, map, filter, Option, Some, None, option_map, refl, sym, ap, ◌∙◌, subst, arith}
use Rattle.std.specs.List.{list_any, slice_get}
use Rattle.std.specs.Map.{lookup}
use Rattle.std.specs.Cmp.Lexicographic.{pointwise}
use Rattle.std.proofs.Math.Bool.{or-true}
use Rattle.std.proofs.lemmas.Bool.Decides.{nat_tests}
use Rattle.std.proofs.lemmas.List.{take_all}
use Rattle.std.proofs.lemmas.List.Elements.{filter-append}
use Rattle.std.proofs.lemmas.Map.Views.{any-filter_same}
use Rattle.st_ids.proofs.Orders.{bytes-itself}
use Rattle.st_schema.specs.Schema.{SchemaView}
use Rattle.st_schema.specs.declared.names.Form.{Form}
use Rattle.st_doc.specs.LiveText.{is_among}
use Rattle.st_edits.specs.ArrayTypes.{is_array_form, is_array_type}
use Rattle.st_lists.proofs.Logs.{take-get}
use Rattle.st_lemmas.proofs.Lists.{map-append}
use Rattle.st_lemmas.proofs.Bools.{and-true}

text_same : (xs ys : List ℕ) → pointwise nat_eq xs ys ≡ true → xs ≡ ys
text_same [] [] e = refl
text_same [] (y ∷ ys) e = cc
text_same (x ∷ xs) [] e = cc
text_same (x ∷ xs) (y ∷ ys) e =
    let both = and-true (nat_eq x y) (pointwise nat_eq xs ys) e in
    let test : nat_eq x y ≡ true = both.0 in
    let first : x ≡ y = grind (arith, nat_tests) in
    λ i. first i ∷ text_same xs ys both.1 i

-- the names of the first types whose nodes have a row
abbrev pub arrays_before : SchemaView → ℕ → List (List ℕ)
arrays_before s i = filter (is_array_type s) (map (λ (d : List ℕ × Form). d.0) (take i s.types))

next_type : (s : SchemaView) (i : ℕ) (d : List ℕ × Form) → slice_get s.types i ≡ Some d → arrays_before s (i + 1) ≡ arrays_before s i ++ filter (is_array_type s) (d.0 ∷ [])
next_type s i d at =
    ap (λ l. filter (is_array_type s) (map (λ (d : List ℕ × Form). d.0) l)) (take-get s.types i d at)
    ∙ ap (filter (is_array_type s)) (map-append (λ (d : List ℕ × Form). d.0) (take i s.types) (d ∷ []))
    ∙ filter-append (is_array_type s) (map (λ (d : List ℕ × Form). d.0) (take i s.types)) (d.0 ∷ [])

-- the definition of a name
defined : (es : List (List ℕ × Form)) (i : ℕ) (name : List ℕ) → Some name ≡ option_map (λ (d : List ℕ × Form). d.0) (slice_get es i) → (d : List ℕ × Form) × (slice_get es i ≡ Some d) × (d.0 ≡ name)
defined es i name e = go (slice_get es i) refl e
  where
    go : (o : Option (List ℕ × Form)) → slice_get es i ≡ o → Some name ≡ option_map (λ (d : List ℕ × Form). d.0) o → (d : List ℕ × Form) × (slice_get es i ≡ Some d) × (d.0 ≡ name)
    go None at e = cc
    go (Some d) at e = (d, at, cc)

pub array_more : (s : SchemaView) (i : ℕ) (name : List ℕ) (types : List (List ℕ)) → Some name ≡ option_map (λ (d : List ℕ × Form). d.0) (slice_get s.types i) → is_array_type s name ≡ true → types ≡ arrays_before s i
    → types ++ name ∷ [] ≡ arrays_before s (i + 1)
array_more s i name types e has is =
    let d = defined s.types i name e in
    let one : filter (is_array_type s) (d.0.0 ∷ []) ≡ name ∷ [] = ap (λ n. filter (is_array_type s) (n ∷ [])) d.2 ∙ rw has refl in
    (λ j. is j ++ name ∷ []) ∙ sym (next_type s i d.0 d.1 ∙ ap (λ l. arrays_before s i ++ l) one)

pub array_none : (s : SchemaView) (i : ℕ) (name : List ℕ) (types : List (List ℕ)) → Some name ≡ option_map (λ (d : List ℕ × Form). d.0) (slice_get s.types i) → is_array_type s name ≡ false → types ≡ arrays_before s i
    → types ≡ arrays_before s (i + 1)
array_none s i name types e lacks is =
    let d = defined s.types i name e in
    let one : filter (is_array_type s) (d.0.0 ∷ []) ≡ [] = ap (λ n. filter (is_array_type s) (n ∷ [])) d.2 ∙ rw lacks refl in
    is ∙ sym (next_type s i d.0 d.1 ∙ ap (λ l. arrays_before s i ++ l) one ∙ append_none (arrays_before s i))
  where
    append_none : (xs : List (List ℕ)) → xs ++ [] ≡ xs
    append_none [] = refl
    append_none (x ∷ xs) = ap (λ l. x ∷ l) (append_none xs)

within : {X : Type 0} (xs : List X) (i : ℕ) (x : X) → slice_get xs i ≡ Some x → i < length xs
within [] i x e = cc
within (y ∷ ys) zero x e = omega arith
within (y ∷ ys) (suc i) x e = omega (arith, within ys i x e)

pub name_within : (s : SchemaView) (i : ℕ) (name : List ℕ) → Some name ≡ option_map (λ (d : List ℕ × Form). d.0) (slice_get s.types i) → i < length s.types
name_within s i name e = let d = defined s.types i name e in within s.types i d.0 d.1

length_map : {A B : Type 0} (f : A → B) (xs : List A) → length (map f xs) ≡ length xs
length_map f [] = refl
length_map f (x ∷ xs) = ap suc (length_map f xs)

few_names : (names : List (List ℕ)) (b : Bool) → nat_le (length names) 256 ≡ b → b ≡ true → length names ≤ 256
few_names names b is holds = grind (arith, nat_tests)

past : {X : Type 0} (xs : List X) (i : ℕ) → slice_get xs i ≡ None → length xs ≤ i
past [] i e = omega arith
past (x ∷ xs) zero e = cc
past (x ∷ xs) (suc i) e = omega (arith, past xs i e)

-- a type that a definition makes an array's is among the names
is_named : (es : List (List ℕ × Form)) (ty : List ℕ) → is_array_form (lookup (pointwise nat_eq ty) es) ≡ true → list_any (λ t. pointwise nat_eq t ty) (map (λ (d : List ℕ × Form). d.0) es) ≡ true
is_named [] ty e = cc
is_named (d ∷ es) ty e = go (pointwise nat_eq ty d.0) refl e (λ f. is_named es ty f)
  where
    go : (b : Bool) → pointwise nat_eq ty d.0 ≡ b → is_array_form (cond b (Some d.1) (lookup (pointwise nat_eq ty) es)) ≡ true
        → (is_array_form (lookup (pointwise nat_eq ty) es) ≡ true → list_any (λ t. pointwise nat_eq t ty) (map (λ (d : List ℕ × Form). d.0) es) ≡ true)
        → pointwise nat_eq d.0 ty || list_any (λ t. pointwise nat_eq t ty) (map (λ (d : List ℕ × Form). d.0) es) ≡ true
    go true same e rest = let at : pointwise nat_eq d.0 ty ≡ true = subst (λ x. pointwise nat_eq x ty ≡ true) (text_same ty d.0 same) (bytes-itself ty) in rw at refl
    go false other e rest = rw (rest e) (or-true (pointwise nat_eq d.0 ty))

among_all : (s : SchemaView) (ty : List ℕ) → is_among (filter (is_array_type s) (map (λ (d : List ℕ × Form). d.0) s.types)) ty ≡ is_array_type s ty
among_all s ty =
    any-filter_same (λ t. pointwise nat_eq t ty) (is_array_type s) (is_array_type s ty) (λ k e. ap (is_array_type s) (text_same k ty e)) (map (λ (d : List ℕ × Form). d.0) s.types)
    ∙ go (is_array_type s ty) (λ e. is_named s.types ty e)
  where
    go : (b : Bool) → (b ≡ true → list_any (λ t. pointwise nat_eq t ty) (map (λ (d : List ℕ × Form). d.0) s.types) ≡ true) → (b && list_any (λ t. pointwise nat_eq t ty) (map (λ (d : List ℕ × Form). d.0) s.types)) ≡ b
    go true h = h refl
    go false h = refl

pub arrays_all : (s : SchemaView) (i : ℕ) (types : List (List ℕ)) → option_map (λ (d : List ℕ × Form). d.0) (slice_get s.types i) ≡ None → types ≡ arrays_before s i → is_among types ≡ is_array_type s
arrays_all s i types none is = λ j ty. (ap (λ l. is_among l ty) (is ∙ whole) ∙ among_all s ty) j
  where
    no : (o : Option (List ℕ × Form)) → option_map (λ (d : List ℕ × Form). d.0) o ≡ None → o ≡ None
    no None e = refl
    no (Some d) e = cc

    whole : arrays_before s i ≡ filter (is_array_type s) (map (λ (d : List ℕ × Form). d.0) s.types)
    whole = ap (λ l. filter (is_array_type s) (map (λ (d : List ℕ × Form). d.0) l)) (take_all i s.types (past s.types i (no (slice_get s.types i) none)))
