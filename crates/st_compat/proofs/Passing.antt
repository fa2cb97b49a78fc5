-- Which marked types pass, and the causes of those that fail.
use Rattle.std.proofs.Common.{◌≡◌, ◌∙◌, ℕ, zero, suc, ◌<◌, ◌+◌, nat_eq, List, [], ◌∷◌, ◌++◌, take, replicate, Bool, true, false, Option, Some, None, is_some, refl, sym, ap, subst, arith, true≢false}
use Rattle.std.specs.List.{slice_get}
use Rattle.std.proofs.lemmas.Bool.Decides.{nat_tests}
use Rattle.std.proofs.lemmas.List.{append-nil, get_or-replicate}
use Rattle.std.proofs.lemmas.Option.{slice_get_within}
use Rattle.st_lemmas.proofs.Lists.{map-append}
use Rattle.st_schema.specs.Schema.{SchemaView, is_sound, form_of, type_names}
use Rattle.st_schema.specs.Wider.{contains_all}
use Rattle.st_schema.specs.declared.names.Form.{Form}
use Rattle.st_schema.proofs.Widening.{few_types}
use Rattle.st_compat.specs.Relation.{IsReachable, Reads, CausesOf, none, fails, passes, unreached, AreCauses, AreEqual, IsUpgrade, IsRelation, root_cause, why, why_form}
use Rattle.st_compat.specs.declared.relation.Cause.{Cause}
use Rattle.st_compat.specs.declared.relation.Why.{Why}
use Rattle.st_compat.specs.inside.Marks.{flag, IsMarking, PassesWhere, PassesBelow, cause_of, relation_by}
use Rattle.st_compat.proofs.Numbers.{NameAt, at_number, all_below, number_of}

-- ---- marked types that pass

-- the definition of a number is the one that was found there
named_at : (s : SchemaView) (i : ℕ) (name : List ℕ) (d : List ℕ × Form) → NameAt s i (Some name) → slice_get s.types i ≡ Some d → name ≡ d.0
named_at s i name d e at = let f = at_number s i name e in let same_one : ◌≡◌ {A = Option (List ℕ × Form)} (Some (name, f.0)) (Some d) = sym f.1 ∙ at in cc

pub pass_next : (marks : List Bool) (s v : SchemaView) (i : ℕ) (name : List ℕ) → NameAt s i (Some name) → (flag marks i ≡ true → why s v name ≡ None) → PassesBelow marks s v i → PassesBelow marks s v (i + 1)
pass_next marks s v i name e here so_far k d low at f = go (nat_eq k i) refl
  where
    go : (x : Bool) → nat_eq k i ≡ x → why s v d.0 ≡ None
    go true is =
        let same_number : k ≡ i = grind (arith, nat_tests) in
        let found : slice_get s.types i ≡ Some d = subst (λ (n : ℕ). slice_get s.types n ≡ Some d) same_number at in
        ap (why s v) (sym (named_at s i name d e found)) ∙ here (sym (ap (flag marks) same_number) ∙ f)
    go false is = let before : k < i = grind (arith, nat_tests) in so_far k d before at f

pub pass_all : (marks : List Bool) (s v : SchemaView) (i : ℕ) → NameAt s i None → PassesBelow marks s v i → PassesWhere marks s v
pass_all marks s v i e so_far k d at f = so_far k d (all_below s i k d e at) at f

pub one_fails : (marks : List Bool) (s v : SchemaView) (i : ℕ) (name : List ℕ) → NameAt s i (Some name) → flag marks i ≡ true → is_some (why s v name) ≡ true → PassesWhere marks s v → ⊥
one_fails marks s v i name e f failing pass =
    let d = at_number s i name e in
    true≢false (sym failing ∙ ap is_some (pass i (name, d.0) d.1 f))

-- ---- schemas that pass

pub why_of : (s v : SchemaView) (ty : List ℕ) → ((form : Form) → form_of s.types ty ≡ Some form → why s v ty ≡ None) → why s v ty ≡ None
why_of s v ty each = go (form_of s.types ty) refl
  where
    go : (o : Option Form) → form_of s.types ty ≡ o → why s v ty ≡ None
    go None is = ap (λ (o : Option Form). why_form o (form_of v.types ty)) is
    go (Some form) is = each form is

pub all_pass : (s v : SchemaView) → is_sound s ≡ true → PassesWhere (replicate 256 true) s v → (ty : List ℕ) → why s v ty ≡ None
all_pass s v sound pass ty =
    why_of s v ty (λ form is.
    let k = number_of s ty form is in
    pass k.0 (ty, form) k.1 (get_or-replicate 256 k.0 true false (omega (arith, slice_get_within s.types k.0 (ty, form) k.1, few_types s sound))))

pub reached_pass : (s v : SchemaView) (marks : List Bool) → IsMarking s marks → PassesWhere marks s v → (ty : List ℕ) → IsReachable s ty → why s v ty ≡ None
reached_pass s v marks marking pass ty r =
    why_of s v ty (λ form is.
    let k = number_of s ty form is in
    pass k.0 (ty, form) k.1 (marking.all k.0 (ty, form) k.1 r))

-- ---- causes

causes-append : (s v : SchemaView) (tys more : List (List ℕ)) (cs ds : List Cause) → CausesOf s v tys cs → CausesOf s v more ds → CausesOf s v (tys ++ more) (cs ++ ds)
causes-append s v tys more cs ds none next = next
causes-append s v tys more cs ds (fails ty w rest causes r is below) next = fails ty w (rest ++ more) (causes ++ ds) r is (causes-append s v rest more causes ds below next)
causes-append s v tys more cs ds (passes ty rest causes is below) next = passes ty (rest ++ more) (causes ++ ds) is (causes-append s v rest more causes ds below next)
causes-append s v tys more cs ds (unreached ty rest causes apart below) next = unreached ty (rest ++ more) (causes ++ ds) apart (causes-append s v rest more causes ds below next)

one_cause : (s v : SchemaView) (ty : List ℕ) → IsReachable s ty → CausesOf s v (ty ∷ []) (cause_of ty (why s v ty))
one_cause s v ty r = go (why s v ty) refl
  where
    go : (o : Option Why) → why s v ty ≡ o → CausesOf s v (ty ∷ []) (cause_of ty o)
    go None is = passes ty [] [] is none
    go (Some w) is = fails ty w [] [] r is none

take-next : {X : Type 0} (xs : List X) (i : ℕ) (x : X) → slice_get xs i ≡ Some x → take (i + 1) xs ≡ take i xs ++ x ∷ []
take-next [] i x at = absurd (cc)
take-next (y ∷ ys) zero x at = cc
take-next (y ∷ ys) (suc i) x at = let e : suc i + 1 ≡ suc (i + 1) = omega arith in rw e (ap (λ zs. y ∷ zs) (take-next ys i x at))

names-next : (s : SchemaView) (i : ℕ) (name : List ℕ) → NameAt s i (Some name) → type_names (take (i + 1) s.types) ≡ type_names (take i s.types) ++ name ∷ []
names-next s i name e =
    let d = at_number s i name e in
    ap type_names (take-next s.types i (name, d.0) d.1) ∙ map-append (λ (x : List ℕ × Form). x.0) (take i s.types) ((name, d.0) ∷ [])

pub cause_next : (s v : SchemaView) (marks : List Bool) (i : ℕ) (name : List ℕ) (causes : List Cause) → IsMarking s marks → NameAt s i (Some name) → flag marks i ≡ true
    → CausesOf s v (type_names (take i s.types)) causes → CausesOf s v (type_names (take (i + 1) s.types)) (causes ++ cause_of name (why s v name))
cause_next s v marks i name causes marking e f so_far =
    let d = at_number s i name e in
    let r = marking.only i (name, d.0) d.1 f in
    subst (λ (tys : List (List ℕ)). CausesOf s v tys (causes ++ cause_of name (why s v name))) (sym (names-next s i name e))
    (causes-append s v (type_names (take i s.types)) (name ∷ []) causes (cause_of name (why s v name)) so_far (one_cause s v name r))

pub cause_none : (s v : SchemaView) (marks : List Bool) (i : ℕ) (name : List ℕ) (causes : List Cause) → IsMarking s marks → NameAt s i (Some name) → flag marks i ≡ false
    → CausesOf s v (type_names (take i s.types)) causes → CausesOf s v (type_names (take (i + 1) s.types)) causes
cause_none s v marks i name causes marking e f so_far =
    let d = at_number s i name e in
    let apart : IsReachable s name → ⊥ = λ r. true≢false (sym (marking.all i (name, d.0) d.1 r) ∙ f) in
    subst (λ (cs : List Cause). CausesOf s v (type_names (take (i + 1) s.types)) cs) (append-nil causes)
    (subst (λ (tys : List (List ℕ)). CausesOf s v tys (causes ++ [])) (sym (names-next s i name e))
    (causes-append s v (type_names (take i s.types)) (name ∷ []) causes [] so_far (unreached name [] [] apart none)))

take-past : {X : Type 0} (xs : List X) (i : ℕ) → ((k : ℕ) (x : X) → slice_get xs k ≡ Some x → k < i) → take i xs ≡ xs
take-past [] zero past = refl
take-past [] (suc i) past = refl
take-past (x ∷ xs) zero past = absurd (omega (arith, past 0 x refl))
take-past (x ∷ xs) (suc i) past = ap (λ ys. x ∷ ys) (take-past xs i (λ k y at. omega (arith, past (suc k) y at)))

pub cause_all : (s v : SchemaView) (i : ℕ) (causes : List Cause) → NameAt s i None → CausesOf s v (type_names (take i s.types)) causes → CausesOf s v (type_names s.types) causes
cause_all s v i causes e so_far = subst (λ (ds : List (List ℕ × Form)). CausesOf s v (type_names ds) causes) (take-past s.types i (λ k d at. all_below s i k d e at)) so_far

-- ---- the relation by the causes

no_cause : (s v : SchemaView) (tys : List (List ℕ)) (causes : List Cause) (k : ℕ) (ty : List ℕ) → CausesOf s v tys causes → causes ≡ [] → slice_get tys k ≡ Some ty → IsReachable s ty → why s v ty ≡ None
no_cause s v tys causes k ty none empty at r = absurd (cc)
no_cause s v tys causes k ty (fails t w rest cs reach is below) empty at r = absurd (cc)
no_cause s v tys causes zero ty (passes t rest cs is below) empty at r = let same_one : t ≡ ty = cc in subst (λ (x : List ℕ). why s v x ≡ None) same_one is
no_cause s v tys causes (suc k) ty (passes t rest cs is below) empty at r = no_cause s v rest causes k ty below empty at r
no_cause s v tys causes zero ty (unreached t rest cs apart below) empty at r = let same_one : t ≡ ty = cc in absurd (apart (subst (IsReachable s) (sym same_one) r))
no_cause s v tys causes (suc k) ty (unreached t rest cs apart below) empty at r = no_cause s v rest causes k ty below empty at r

a_cause : (s v : SchemaView) (tys : List (List ℕ)) (causes : List Cause) → CausesOf s v tys causes → (causes ≡ [] → ⊥) → ((ty : List ℕ) → IsReachable s ty → why s v ty ≡ None) → ⊥
a_cause s v tys causes none some pass = some refl
a_cause s v tys causes (fails ty w rest cs r is below) some pass = let wrong : ◌≡◌ {A = Option Why} (Some w) None = sym is ∙ pass ty r in cc
a_cause s v tys causes (passes ty rest cs is below) some pass = a_cause s v rest cs below some pass
a_cause s v tys causes (unreached ty rest cs apart below) some pass = a_cause s v rest cs below some pass

names_at : (ds : List (List ℕ × Form)) (k : ℕ) (d : List ℕ × Form) → slice_get ds k ≡ Some d → slice_get (type_names ds) k ≡ Some d.0
names_at [] k d at = absurd (cc)
names_at (e ∷ ds) zero d at = ap (λ (x : Option (List ℕ)). x) cc
names_at (e ∷ ds) (suc k) d at = names_at ds k d at

root_reads : (s v : SchemaView) (b : Bool) → contains_all v.root s.root ≡ b → root_cause s v ≡ [] → contains_all v.root s.root ≡ true
root_reads s v true is empty = is
root_reads s v false is empty = absurd (let one : root_cause s v ≡ record { ty = []; why = Why.Root } ∷ [] = rw is refl in cc)

empty_both : {X : Type 0} (xs ys : List X) → [] ≡ xs ++ ys → (xs ≡ []) × (ys ≡ [])
empty_both [] ys e = (refl, sym e)
empty_both (x ∷ xs) ys e = absurd (cc)

reads_without : (s v : SchemaView) → AreCauses s v [] → Reads s v
reads_without s v are =
    let empty = empty_both are.0 (root_cause s v) are.2 in
    record {
      types = λ ty r. why_of s v ty (λ form is. let k = number_of s ty form is in no_cause s v (type_names s.types) are.0 k.0 ty are.1 empty.0 (names_at s.types k.0 (ty, form) k.1) r);
      root = root_reads s v (contains_all v.root s.root) refl empty.1;
    }

some_cause : (s v : SchemaView) (c : Cause) (cs of_types : List Cause) → c ∷ cs ≡ of_types ++ root_cause s v → CausesOf s v (type_names s.types) of_types → Reads s v → ⊥
some_cause s v c cs [] is of_types reads = let none : root_cause s v ≡ [] = rw reads.root refl in let wrong : c ∷ cs ≡ [] = is ∙ none in cc
some_cause s v c cs (d ∷ ds) is of_types reads = a_cause s v (type_names s.types) (d ∷ ds) of_types (λ e. cc) reads.types

pub relation_told : (s v : SchemaView) (causes : List Cause) → (AreEqual s v → ⊥) → (IsUpgrade s v → ⊥) → AreCauses s v causes → IsRelation s v (relation_by causes)
relation_told s v [] unequal narrower are = (unequal, narrower, reads_without s v are)
relation_told s v (c ∷ cs) unequal narrower are = (unequal, narrower, some_cause s v c cs are.0 are.2 are.1, are)
