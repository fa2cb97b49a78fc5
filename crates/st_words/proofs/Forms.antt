-- Words that have the form of a command are taken by clap, and read as the table says.
use Rattle.std.proofs.Common.{◌≡◌, ◌⊎◌, ℕ, ◌==◌, ◌&&◌, ◌++◌, Bool, true, false, List, [], ◌∷◌, length, take, drop, Option, Some, None, option_map, option_and_then, is_some, codes, refl, sym, ◌∙◌, ap, ap₂, subst, cond, inl, inr, arith}
use Rattle.std.specs.Char.{is_ascii_digit}
use Rattle.std.specs.Option.{option_or}
use Rattle.std.specs.Str.{bytes_eq}
use Rattle.std.proofs.lemmas.Bool.Decides.{nat_tests}
use Rattle.std.proofs.lemmas.List.{take-append-drop}
use Rattle.std.proofs.lemmas.Slice.Eq.{bytes_eq-Decides}
use Rattle.clap.specs.Words.{Row, Text, first_of, subcommand_of, takes}
use Rattle.st_words.specs.inside.Forms.{are_numbers, is_form, request_read}
use Rattle.st_words.specs.Parser.{program}
use Rattle.st_words.specs.Table.{Words, after_prefix, alone, both_in, first_and_rest, is_number, max_seed, named, named_alone, number_in, only_option, option_in, request_in, swapped, values_in, work_in, work_of}
use Rattle.st_words.proofs.Taken.{IsDigit, IsNamed, Reads, algebra_named, apart_seed, apart_steps, apart_tied_seed, apart_tied_steps, compat_named, d0, d1, d2, d3, d4, d5, d6, d7, d8, d9, name_of, replay_named, tied_apart_seed, tied_apart_steps, tied_seed, tied_steps, trace_named, values}

-- ## Numbers

pick : (b n : ℕ) (t : Bool) → (b == n) ≡ t → IsDigit n → ((b == n) ≡ false → IsDigit b) → IsDigit b
pick b n true t d later = let is : n ≡ b = grind (arith, nat_tests) in subst IsDigit is d
pick b n false t d later = later t

digit : (b : ℕ) → is_ascii_digit b ≡ true → IsDigit b
digit b h =
    pick b 48 (b == 48) refl d0 (λ n0. pick b 49 (b == 49) refl d1 (λ n1. pick b 50 (b == 50) refl d2 (λ n2.
    pick b 51 (b == 51) refl d3 (λ n3. pick b 52 (b == 52) refl d4 (λ n4. pick b 53 (b == 53) refl d5 (λ n5.
    pick b 54 (b == 54) refl d6 (λ n6. pick b 55 (b == 55) refl d7 (λ n7. pick b 56 (b == 56) refl d8 (λ n8.
    pick b 57 (b == 57) refl d9 (λ n9. absurd (no_more n0 n1 n2 n3 n4 n5 n6 n7 n8 n9)))))))))))
  where
    no_more : (b == 48) ≡ false → (b == 49) ≡ false → (b == 50) ≡ false → (b == 51) ≡ false → (b == 52) ≡ false
        → (b == 53) ≡ false → (b == 54) ≡ false → (b == 55) ≡ false → (b == 56) ≡ false → (b == 57) ≡ false → ⊥
    no_more n0 n1 n2 n3 n4 n5 n6 n7 n8 n9 = grind (arith, nat_tests)

-- a text that begins with a digit
record IsNumber (v : List ℕ) : Type 0 where
  first : ℕ
  rest : List ℕ
  whole : v ≡ first ∷ rest
  digit : IsDigit first

number_begins : (v : List ℕ) → is_number v ≡ true → IsNumber v
number_begins [] h = cc
number_begins (b ∷ v) h =
    let first : is_ascii_digit b ≡ true = grind (arith, nat_tests) in
    record { first = b; rest = v; whole = refl; digit = digit b first }

-- ## Options

prefix_by : (p w v : List ℕ) (t : Bool) → bytes_eq (take (length p) w) p ≡ t → cond t (Some (drop (length p) w)) None ≡ Some v → w ≡ p ++ v
prefix_by p w v true t e =
    let front : take (length p) w ≡ p = (bytes_eq-Decides (take (length p) w) p).0 t in
    let rest : drop (length p) w ≡ v = cc in
    sym (take-append-drop (length p) w) ∙ ap₂ (λ x y. x ++ y) front rest
prefix_by p w v false t e = cc

abbrev IsOption : List ℕ → List ℕ → Words → List ℕ → Words → Type 0
IsOption name tied ws v rest = (ws ≡ name ∷ v ∷ rest) ⊎ (ws ≡ (tied ++ v) ∷ rest)

apart_told : (name ws : List ℕ) (us : Words) (v : List ℕ) (rest : Words) → ws ≡ name → first_and_rest us ≡ Some (v, rest) → ws ∷ us ≡ name ∷ v ∷ rest
apart_told name w [] v rest is e = cc
apart_told name w (u ∷ us) v rest is e =
    let both : ◌≡◌ {A = List ℕ × Words} (u, us) (v, rest) = cc in
    ap₂ (λ x y. x ∷ y) is (ap₂ (λ x y. x ∷ y) (ap (λ p. p.0) both) (ap (λ p. p.1) both))

tied_told : (tied w : List ℕ) (ws : Words) (v : List ℕ) (rest : Words) (o : Option (List ℕ)) → after_prefix tied w ≡ o
    → option_map {U = List ℕ × Words} (λ u. (u, ws)) o ≡ Some (v, rest) → w ∷ ws ≡ (tied ++ v) ∷ rest
tied_told tied w ws v rest None found e = cc
tied_told tied w ws v rest (Some u) found e =
    let both : ◌≡◌ {A = List ℕ × Words} (u, ws) (v, rest) = cc in
    let value : u ≡ v = ap (λ p. p.0) both in
    ap₂ (λ x y. x ∷ y) (prefix_by tied w v (bytes_eq (take (length tied) w) tied) refl (found ∙ ap Some value)) (ap (λ p. p.1) both)

option_by : (name tied w : List ℕ) (ws : Words) (v : List ℕ) (rest : Words) (t : Bool) → bytes_eq w name ≡ t
    → cond t (first_and_rest ws) (option_map {U = List ℕ × Words} (λ u. (u, ws)) (after_prefix tied w)) ≡ Some (v, rest) → IsOption name tied (w ∷ ws) v rest
option_by name tied w ws v rest true t e = inl (apart_told name w ws v rest ((bytes_eq-Decides w name).0 t) e)
option_by name tied w ws v rest false t e = inr (tied_told tied w ws v rest (after_prefix tied w) refl e)

option_told : (name tied : List ℕ) (ws : Words) (v : List ℕ) (rest : Words) → option_in name tied ws ≡ Some (v, rest) → IsOption name tied ws v rest
option_told name tied [] v rest e = cc
option_told name tied (w ∷ ws) v rest e = option_by name tied w ws v rest (bytes_eq w name) refl e

only_by : (name tied : List ℕ) (ws : Words) (v : List ℕ) (o : Option (List ℕ × Words)) → option_in name tied ws ≡ o → option_and_then alone o ≡ Some v → IsOption name tied ws v []
only_by name tied ws v None told e = cc
only_by name tied ws v (Some (u, [])) told e = let is : u ≡ v = cc in option_told name tied ws v [] (told ∙ ap (λ x. Some (x, [])) is)
only_by name tied ws v (Some (u, x ∷ xs)) told e = cc

-- two options in an order
record AreBoth (a tied_a b tied_b : List ℕ) (ws : Words) (v u : List ℕ) : Type 0 where
  behind : Words
  first : IsOption a tied_a ws v behind
  second : IsOption b tied_b behind u []

second_by : (a tied_a b tied_b : List ℕ) (ws : Words) (v u w : List ℕ) (rest : Words) (o : Option (List ℕ)) → option_in a tied_a ws ≡ Some (w, rest)
    → only_option b tied_b rest ≡ o → option_map {U = List ℕ × List ℕ} (λ x. (w, x)) o ≡ Some (v, u) → AreBoth a tied_a b tied_b ws v u
second_by a tied_a b tied_b ws v u w rest None first second e = cc
second_by a tied_a b tied_b ws v u w rest (Some x) first second e =
    let both : ◌≡◌ {A = List ℕ × List ℕ} (w, x) (v, u) = cc in
    record {
      behind = rest;
      first = option_told a tied_a ws v rest (first ∙ ap (λ y. Some (y, rest)) (ap (λ p. p.0) both));
      second = only_by b tied_b rest u (option_in b tied_b rest) refl (second ∙ ap Some (ap (λ p. p.1) both));
    }

both_by : (a tied_a b tied_b : List ℕ) (ws : Words) (v u : List ℕ) (o : Option (List ℕ × Words)) → option_in a tied_a ws ≡ o
    → option_and_then {T = List ℕ × Words} {U = List ℕ × List ℕ} (λ p. option_map (λ x. (p.0, x)) (only_option b tied_b p.1)) o ≡ Some (v, u) → AreBoth a tied_a b tied_b ws v u
both_by a tied_a b tied_b ws v u None first e = cc
both_by a tied_a b tied_b ws v u (Some (w, rest)) first e = second_by a tied_a b tied_b ws v u w rest (only_option b tied_b rest) first refl e

-- ## The load

abbrev seed : List ℕ
seed = codes "--seed"

abbrev seed_is : List ℕ
seed_is = codes "--seed="

abbrev steps : List ℕ
steps = codes "--steps"

abbrev steps_is : List ℕ
steps_is = codes "--steps="

-- the two values are read where they are numbers
seed_first : (ws : Words) (v u : List ℕ) → IsNumber v → IsNumber u → AreBoth seed seed_is steps steps_is ws v u → Reads ws v u
seed_first ws v u n m b = elim b.first [
  | inl f ↦ elim b.second [
    | inl s ↦ at (seed ∷ v ∷ steps ∷ u ∷ []) (f ∙ ap (λ x. seed ∷ v ∷ x) s)
        (subst (λ x. Reads (seed ∷ x ∷ steps ∷ u ∷ []) x u) (sym n.whole)
        (subst (λ y. Reads (seed ∷ (n.first ∷ n.rest) ∷ steps ∷ y ∷ []) (n.first ∷ n.rest) y) (sym m.whole) (apart_seed n.first m.first n.rest m.rest n.digit m.digit)))
    | inr s ↦ at (seed ∷ v ∷ (steps_is ++ u) ∷ []) (f ∙ ap (λ x. seed ∷ v ∷ x) s)
        (subst (λ x. Reads (seed ∷ x ∷ (steps_is ++ u) ∷ []) x u) (sym n.whole) (apart_tied_seed n.first n.rest u n.digit))
  ]
  | inr f ↦ elim b.second [
    | inl s ↦ at ((seed_is ++ v) ∷ steps ∷ u ∷ []) (f ∙ ap (λ x. (seed_is ++ v) ∷ x) s)
        (subst (λ y. Reads ((seed_is ++ v) ∷ steps ∷ y ∷ []) v y) (sym m.whole) (tied_apart_seed m.first v m.rest m.digit))
    | inr s ↦ at ((seed_is ++ v) ∷ (steps_is ++ u) ∷ []) (f ∙ ap (λ x. (seed_is ++ v) ∷ x) s) (tied_seed v u)
  ]
]
  where
    at : (us : Words) → ws ≡ us → Reads us v u → Reads ws v u
    at us e r = subst (λ x. Reads x v u) (sym e) r

steps_first : (ws : Words) (v u : List ℕ) → IsNumber v → IsNumber u → AreBoth steps steps_is seed seed_is ws v u → Reads ws u v
steps_first ws v u n m b = elim b.first [
  | inl f ↦ elim b.second [
    | inl s ↦ at (steps ∷ v ∷ seed ∷ u ∷ []) (f ∙ ap (λ x. steps ∷ v ∷ x) s)
        (subst (λ x. Reads (steps ∷ x ∷ seed ∷ u ∷ []) u x) (sym n.whole)
        (subst (λ y. Reads (steps ∷ (n.first ∷ n.rest) ∷ seed ∷ y ∷ []) y (n.first ∷ n.rest)) (sym m.whole) (apart_steps n.first m.first n.rest m.rest n.digit m.digit)))
    | inr s ↦ at (steps ∷ v ∷ (seed_is ++ u) ∷ []) (f ∙ ap (λ x. steps ∷ v ∷ x) s)
        (subst (λ x. Reads (steps ∷ x ∷ (seed_is ++ u) ∷ []) u x) (sym n.whole) (apart_tied_steps n.first n.rest u n.digit))
  ]
  | inr f ↦ elim b.second [
    | inl s ↦ at ((steps_is ++ v) ∷ seed ∷ u ∷ []) (f ∙ ap (λ x. (steps_is ++ v) ∷ x) s)
        (subst (λ y. Reads ((steps_is ++ v) ∷ seed ∷ y ∷ []) y v) (sym m.whole) (tied_apart_steps m.first v m.rest m.digit))
    | inr s ↦ at ((steps_is ++ v) ∷ (seed_is ++ u) ∷ []) (f ∙ ap (λ x. (steps_is ++ v) ∷ x) s) (tied_steps v u)
  ]
]
  where
    at : (us : Words) → ws ≡ us → Reads us u v → Reads ws u v
    at us e r = subst (λ x. Reads x u v) (sym e) r

last_by : (ws : Words) (p : List ℕ × List ℕ) (o : Option (List ℕ × List ℕ)) → both_in steps steps_is seed seed_is ws ≡ o → option_map swapped o ≡ Some p
    → is_number p.0 ≡ true → is_number p.1 ≡ true → Reads ws p.0 p.1
last_by ws p None told e n m = cc
last_by ws p (Some q) told e n m =
    let same : swapped q ≡ p = cc in
    let v : q.1 ≡ p.0 = ap (λ x. x.0) same in
    let u : q.0 ≡ p.1 = ap (λ x. x.1) same in
    let told_p : both_in steps steps_is seed seed_is ws ≡ Some (p.1, p.0) = told ∙ ap₂ (λ x y. Some (x, y)) u v in
    steps_first ws p.1 p.0 (number_begins p.1 m) (number_begins p.0 n) (both_by steps steps_is seed seed_is ws p.1 p.0 (option_in steps steps_is ws) refl told_p)

values_by : (ws : Words) (p : List ℕ × List ℕ) (o : Option (List ℕ × List ℕ)) → both_in seed seed_is steps steps_is ws ≡ o
    → option_or o (option_map swapped (both_in steps steps_is seed seed_is ws)) ≡ Some p → is_number p.0 ≡ true → is_number p.1 ≡ true → Reads ws p.0 p.1
values_by ws p None told e n m = last_by ws p (both_in steps steps_is seed seed_is ws) refl e n m
values_by ws p (Some q) told e n m =
    let same : q ≡ p = cc in
    seed_first ws p.0 p.1 (number_begins p.0 n) (number_begins p.1 m) (both_by seed seed_is steps steps_is ws p.0 p.1 (option_in seed seed_is ws) refl (told ∙ ap Some same))

-- ## What is read

abbrev IsRead : Words → Type 0
IsRead ws = (takes program ws ≡ true) × (request_read (subcommand_of program ws) ≡ request_in ws)

load_read : (x : Option (Text × List Row)) (s t : List ℕ) → values x ≡ Some (codes "work", Some s, Some t) → request_read x ≡ work_of s t
load_read None s t e = cc
load_read (Some p) s t e =
    let parts : ◌≡◌ {A = Text × Option Text × Option Text} (p.0, first_of (codes "seed") p.1, first_of (codes "steps") p.1) (codes "work", Some s, Some t) = cc in
    rw (ap (λ q. q.0) parts, ap (λ q. q.1) parts, ap (λ q. q.2) parts) refl

name_read : (x : Option (Text × List Row)) (w : List ℕ) → name_of x ≡ Some w → bytes_eq w (codes "work") ≡ false → request_read x ≡ named w
name_read None w e other = cc
name_read (Some p) w e other =
    let is : p.0 ≡ w = cc in
    rw (is, other) refl

load_by : (w : List ℕ) (ws : Words) (o : Option (List ℕ × List ℕ)) → w ≡ codes "work" → values_in ws ≡ o → are_numbers o ≡ true → bytes_eq w (codes "work") ≡ true → IsRead (w ∷ ws)
load_by w ws None is told n test = cc
load_by w ws (Some p) is told n test =
    let first : is_number p.0 ≡ true = grind (arith, nat_tests) in
    let second : is_number p.1 ≡ true = grind (arith, nat_tests) in
    let r : Reads ws p.0 p.1 = values_by ws p (both_in seed seed_is steps steps_is ws) refl told first second in
    let request : request_in (codes "work" ∷ ws) ≡ work_of p.0 p.1 = ap (option_and_then (λ q. work_of q.0 q.1)) told in
    subst (λ x. IsRead (x ∷ ws)) (sym is) (r.0, load_read (subcommand_of program (codes "work" ∷ ws)) p.0 p.1 r.1 ∙ sym request)

-- a name alone
named_read : (w : List ℕ) → IsNamed w → bytes_eq w (codes "work") ≡ false → IsRead (w ∷ [])
named_read w h other =
    let request : request_in (w ∷ []) ≡ named w = rw other refl in
    (h.0, name_read (subcommand_of program (w ∷ [])) w h.1 other ∙ sym request)

name_by : (w name : List ℕ) → bytes_eq w name ≡ true → IsNamed name → bytes_eq w (codes "work") ≡ false → IsRead (w ∷ [])
name_by w name is h other =
    let same : w ≡ name = (bytes_eq-Decides w name).0 is in
    named_read w (subst IsNamed (sym same) h) other

alone_by : (w : List ℕ) (t r a c : Bool) → bytes_eq w (codes "trace") ≡ t → bytes_eq w (codes "replay") ≡ r → bytes_eq w (codes "algebra") ≡ a → bytes_eq w (codes "compat") ≡ c
    → is_some (named w) ≡ true → bytes_eq w (codes "work") ≡ false → IsRead (w ∷ [])
alone_by w true r a c t0 r0 a0 c0 some other = name_by w (codes "trace") t0 trace_named other
alone_by w false true a c t0 r0 a0 c0 some other = name_by w (codes "replay") r0 replay_named other
alone_by w false false true c t0 r0 a0 c0 some other = name_by w (codes "algebra") a0 algebra_named other
alone_by w false false false true t0 r0 a0 c0 some other = name_by w (codes "compat") c0 compat_named other
alone_by w false false false false t0 r0 a0 c0 some other =
    let none : named w ≡ None = rw (t0, r0, a0, c0) refl in
    cc

form_by : (w : List ℕ) (ws : Words) (t : Bool) → bytes_eq w (codes "work") ≡ t → cond t (are_numbers (values_in ws)) (is_some (named_alone w ws)) ≡ true → IsRead (w ∷ ws)
form_by w ws true t h = load_by w ws (values_in ws) ((bytes_eq-Decides w (codes "work")).0 t) refl h t
form_by w [] false t h = alone_by w (bytes_eq w (codes "trace")) (bytes_eq w (codes "replay")) (bytes_eq w (codes "algebra")) (bytes_eq w (codes "compat")) refl refl refl refl h t
form_by w (v ∷ ws) false t h = cc

pub form_read : (ws : Words) → is_form ws ≡ true → IsRead ws
form_read [] h = cc
form_read (w ∷ ws) h = form_by w ws (bytes_eq w (codes "work")) refl h

-- ## What has no form

none_then : {A B : Type 0} (o : Option A) → option_and_then {T = A} {U = B} (λ x. None) o ≡ None
none_then None = refl
none_then (Some x) = refl

no_numbers_by : (v u : List ℕ) (t r : Bool) → is_number v ≡ t → is_number u ≡ r → (t && r) ≡ false → work_of v u ≡ None
no_numbers_by v u false r t0 r0 h = rw t0 refl
no_numbers_by v u true false t0 r0 h = rw r0 (none_then (number_in max_seed v))
no_numbers_by v u true true t0 r0 h = cc

no_load : (ws : Words) (o : Option (List ℕ × List ℕ)) → values_in ws ≡ o → are_numbers o ≡ false → work_in ws ≡ None
no_load ws None told h = ap (option_and_then (λ q. work_of q.0 q.1)) told
no_load ws (Some p) told h = ap (option_and_then (λ q. work_of q.0 q.1)) told ∙ no_numbers_by p.0 p.1 (is_number p.0) (is_number p.1) refl refl h

none_some : {A : Type 0} (o : Option A) → is_some o ≡ false → o ≡ None
none_some None h = refl
none_some (Some x) h = cc

no_form_by : (w : List ℕ) (ws : Words) (t : Bool) → bytes_eq w (codes "work") ≡ t → cond t (are_numbers (values_in ws)) (is_some (named_alone w ws)) ≡ false → request_in (w ∷ ws) ≡ None
no_form_by w ws true t h = rw t (no_load ws (values_in ws) refl h)
no_form_by w ws false t h = rw t (none_some (named_alone w ws) h)

pub no_form : (ws : Words) → is_form ws ≡ false → request_in ws ≡ None
no_form [] h = refl
no_form (w ∷ ws) h = no_form_by w ws (bytes_eq w (codes "work")) refl h
