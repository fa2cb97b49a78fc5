-- Clusters that are put at a place or behind the others.
use Rattle.std.proofs.Common.{◌≡◌, ◌≢◌, inl, inr, ◌<◌, ◌≤◌, ◌+◌, ◌-◌, ℕ, zero, suc, true, false, cond, List, [], ◌∷◌, ◌++◌, length, get_or, set, refl, sym, subst, ap, ◌∙◌, arith, length-set}
use Rattle.std.proofs.lemmas.List.{get_or-set_same, get_or-set_other, get_or_read, get_or_append_left, get_or_push, length_push, set-append_left}
use Rattle.std.proofs.lemmas.Bool.{cases_eq, cases_lt, cases_Bool}
use Rattle.std.proofs.lemmas.Bool.Decides.{nat_tests}
use Rattle.std.proofs.lemmas.Option.{slice_get-get_or}
use Rattle.std.specs.Prelude.{◌==◌, Result, Ok, Err, OnOk, Option, Some, slice_get, nat_le}
use Rattle.st_clusters.specs.Table.{at, no_cluster, room, new_cluster, put_at, places_from, places_of, last_of}
use Rattle.st_clusters.specs.inside.Kept.{AreApart, IsLastOf}
use Rattle.st_clusters.specs.declared.ids.Cluster.{Cluster}
use Rattle.st_clusters.specs.declared.ids.IdRange.{IdRange}

-- ## The cluster at a place, after a change

-- one is set
pub at_set : (Q : ℕ → Cluster → Type 0) (cs : List Cluster) (i : ℕ) (c : Cluster) (j : ℕ) → i < length cs → Q i c → Q j (at cs j) → Q j (at (set cs i c) j)
at_set Q cs i c j within here there = elim (cases_eq j i) [
  | inl e ↦ subst (λ (k : ℕ). Q k (at (set cs i c) k)) (sym e) (subst (Q i) (sym (get_or-set_same cs i c no_cluster within)) here)
  | inr ne ↦ subst (Q j) (sym (get_or-set_other cs i j c no_cluster ne)) there
]

-- one is put behind the others
pub at_push : (Q : ℕ → Cluster → Type 0) (cs : List Cluster) (c : Cluster) (j : ℕ) → j < length (cs ++ c ∷ []) → Q (length cs) c → (j < length cs → Q j (at cs j)) → Q j (at (cs ++ c ∷ []) j)
at_push Q cs c j within here there = elim (cases_eq j (length cs)) [
  | inl e ↦ subst (λ (k : ℕ). Q k (at (cs ++ c ∷ []) k)) (sym e) (subst (Q (length cs)) (sym (get_or_push cs c no_cluster (length cs) refl)) here)
  | inr ne ↦ let long : length (cs ++ c ∷ []) ≡ length cs + 1 = length_push cs c in
      let less : j < length cs = omega (arith, within, long, ne) in
      subst (Q j) (sym (get_or_append_left cs (c ∷ []) no_cluster j less)) (there less)
]

pub at_front : (cs : List Cluster) (c : Cluster) (j : ℕ) → j < length cs → at (cs ++ c ∷ []) j ≡ at cs j
at_front cs c j h = get_or_append_left cs (c ∷ []) no_cluster j h

-- a fact that a cluster keeps when another with that fact is set in its place
pub same_at : {B : Type 0} (f : Cluster → B) (cs : List Cluster) (i : ℕ) (c : Cluster) (j : ℕ) → i < length cs → f c ≡ f (at cs i) → f (at (set cs i c) j) ≡ f (at cs j)
same_at f cs i c j within same = at_set (λ k x. f x ≡ f (at cs k)) cs i c j within same refl

-- ## Clusters stay apart

pub apart_set : (cs : List Cluster) (i : ℕ) (c : Cluster) → AreApart cs → i < length cs → c.session ≡ (at cs i).session → c.first ≡ (at cs i).first → c.first_final ≡ (at cs i).first_final
    → 1 ≤ c.used → c.used ≤ c.capacity
    → ((j : ℕ) → i < j → j < length cs → c.first_final + c.capacity ≤ (at cs j).first_final)
    → ((j : ℕ) → i < j → j < length cs → c.session ≡ (at cs j).session → c.first + c.used ≤ (at cs j).first)
    → AreApart (set cs i c)
apart_set cs i c apart within session first final some fits numbers ids =
    let long : length (set cs i c) ≡ length cs = length-set cs i c in
    let finals : (j : ℕ) → (at (set cs i c) j).first_final ≡ (at cs j).first_final = λ j. same_at (λ x. x.first_final) cs i c j within final in
    let firsts : (j : ℕ) → (at (set cs i c) j).first ≡ (at cs j).first = λ j. same_at (λ x. x.first) cs i c j within first in
    let sessions : (j : ℕ) → (at (set cs i c) j).session ≡ (at cs j).session = λ j. same_at (λ x. x.session) cs i c j within session in
    record {
      some = λ j h. at_set (λ k x. 1 ≤ x.used) cs i c j within some (apart.some j (omega (arith, long, h)));
      fits = λ j h. at_set (λ k x. x.used ≤ x.capacity) cs i c j within fits (apart.fits j (omega (arith, long, h)));
      numbers_begin = λ j h. omega (arith, finals j, apart.numbers_begin j (omega (arith, long, h)));
      ids_begin = λ j h. omega (arith, firsts j, apart.ids_begin j (omega (arith, long, h)));
      numbers = λ a b l h. let less : b < length cs = omega (arith, long, h) in
          let in_old : (at (set cs i c) a).first_final + (at (set cs i c) a).capacity ≤ (at cs b).first_final =
          at_set (λ k x. k < b → x.first_final + x.capacity ≤ (at cs b).first_final) cs i c a within (λ m. numbers b m less) (λ m. apart.numbers a b m less) l in
          omega (arith, finals b, in_old);
      ids = λ a b l h same. let less : b < length cs = omega (arith, long, h) in
          let in_old : (at (set cs i c) a).first + (at (set cs i c) a).used ≤ (at cs b).first =
          at_set (λ k x. k < b → x.session ≡ (at cs b).session → x.first + x.used ≤ (at cs b).first) cs i c a within (λ m e. ids b m less e) (λ m e. apart.ids a b m less e) l (same ∙ sessions b) in
          omega (arith, firsts b, in_old);
    }

pub apart_push : (cs : List Cluster) (c : Cluster) → AreApart cs → 1 ≤ c.used → c.used ≤ c.capacity → 1 ≤ c.first_final → 1 ≤ c.first
    → ((j : ℕ) → j < length cs → (at cs j).first_final + (at cs j).capacity ≤ c.first_final)
    → ((j : ℕ) → j < length cs → (at cs j).session ≡ c.session → (at cs j).first + (at cs j).used ≤ c.first)
    → AreApart (cs ++ c ∷ [])
apart_push cs c apart some fits final first numbers ids =
    let long : length (cs ++ c ∷ []) ≡ length cs + 1 = length_push cs c in
    record {
      some = λ j h. at_push (λ k x. 1 ≤ x.used) cs c j h some (apart.some j);
      fits = λ j h. at_push (λ k x. x.used ≤ x.capacity) cs c j h fits (apart.fits j);
      numbers_begin = λ j h. at_push (λ k x. 1 ≤ x.first_final) cs c j h final (apart.numbers_begin j);
      ids_begin = λ j h. at_push (λ k x. 1 ≤ x.first) cs c j h first (apart.ids_begin j);
      numbers = λ a b l h. let less : a < length cs = omega (arith, long, l, h) in
          rw (at_front cs c a less) (at_push (λ k x. a < k → (at cs a).first_final + (at cs a).capacity ≤ x.first_final) cs c b h (λ m. numbers a less) (λ g m. apart.numbers a b m g) l);
      ids = λ a b l h. let less : a < length cs = omega (arith, long, l, h) in
          rw (at_front cs c a less) (at_push (λ k x. a < k → (at cs a).session ≡ x.session → (at cs a).first + (at cs a).used ≤ x.first) cs c b h (λ m e. ids a less e) (λ g m e. apart.ids a b m g e) l);
    }

-- ## Places

pub places_push : (s i : ℕ) (cs : List Cluster) (c : Cluster) → places_from s i (cs ++ c ∷ []) ≡ places_from s i cs ++ cond (c.session == s) ((i + length cs) ∷ []) []
places_push s i [] c = let e : i + 0 ≡ i = omega arith in rw e (elim (c.session == s) as (λ b. cond b (i ∷ []) [] ≡ cond b (i ∷ []) []) [ true ↦ refl | false ↦ refl ])
places_push s i (d ∷ cs) c =
    let e : i + suc (length cs) ≡ (i + 1) + length cs = omega arith in
    rw (places_push s (i + 1) cs c, e) (elim (d.session == s) as (λ b. cond b (i ∷ (places_from s (i + 1) cs ++ cond (c.session == s) (((i + 1) + length cs) ∷ []) [])) (places_from s (i + 1) cs ++ cond (c.session == s) (((i + 1) + length cs) ∷ []) [])
    ≡ cond b (i ∷ places_from s (i + 1) cs) (places_from s (i + 1) cs) ++ cond (c.session == s) (((i + 1) + length cs) ∷ []) []) [ true ↦ refl | false ↦ refl ])

pub places_set : (s i j : ℕ) (cs : List Cluster) (c : Cluster) → c.session ≡ (at cs j).session → places_from s i (set cs j c) ≡ places_from s i cs
places_set s i j [] c same = refl
places_set s i zero (d ∷ cs) c same = rw same refl
places_set s i (suc j) (d ∷ cs) c same = rw (places_set s (i + 1) j cs c same) refl

-- ## The places of a session's clusters

-- what a place among some clusters is
abbrev IsPlace : ℕ → ℕ → List Cluster → ℕ → Type 0
IsPlace s i cs p = (i ≤ p) × (p < i + length cs) × ((at cs (p - i)).session ≡ s)

place_step : (s i : ℕ) (c : Cluster) (cs : List Cluster) (p : ℕ) → IsPlace s (i + 1) cs p → IsPlace s i (c ∷ cs) p
place_step s i c cs p h =
    let e : p - i ≡ suc (p - (i + 1)) = omega (arith, h.0) in
    (omega (arith, h.0), omega (arith, h.1), rw e h.2)

place_first : (s i : ℕ) (c : Cluster) (cs : List Cluster) → c.session ≡ s → IsPlace s i (c ∷ cs) i
place_first s i c cs own =
    let e : i - i ≡ 0 = omega arith in
    (omega arith, omega arith, rw e own)

-- the places where a session's cluster stands first
IsPlace-places_from : (s i : ℕ) (c : Cluster) (cs : List Cluster) (k : ℕ) → c.session ≡ s → ((j : ℕ) → j < length (places_from s (i + 1) cs) → IsPlace s (i + 1) cs (get_or (places_from s (i + 1) cs) j 0))
    → k < length (i ∷ places_from s (i + 1) cs) → IsPlace s i (c ∷ cs) (get_or (i ∷ places_from s (i + 1) cs) k 0)
IsPlace-places_from s i c cs zero own others h = place_first s i c cs own
IsPlace-places_from s i c cs (suc k) own others h = place_step s i c cs (get_or (places_from s (i + 1) cs) k 0) (others k (omega (arith, h)))

pub places_are : (s i : ℕ) (cs : List Cluster) (k : ℕ) → k < length (places_from s i cs) → IsPlace s i cs (get_or (places_from s i cs) k 0)
places_are s i [] k h = absurd (omega (arith, h))
places_are s i (c ∷ cs) k h = elim (cases_Bool (c.session == s)) [
  | inl e ↦ rw e (IsPlace-places_from s i c cs k (grind (arith, nat_tests, e)) (places_are s (i + 1) cs) (rw e at h))
  | inr e ↦ rw e (place_step s i c cs (get_or (places_from s (i + 1) cs) k 0) (places_are s (i + 1) cs k (rw e at h)))
]

-- they rise
rise_more : (s i : ℕ) (cs : List Cluster) → ((k l : ℕ) → k < l → l < length (places_from s (i + 1) cs) → get_or (places_from s (i + 1) cs) k 0 < get_or (places_from s (i + 1) cs) l 0)
    → (k l : ℕ) → k < l → l < length (i ∷ places_from s (i + 1) cs) → get_or (i ∷ places_from s (i + 1) cs) k 0 < get_or (i ∷ places_from s (i + 1) cs) l 0
rise_more s i cs rise k zero less h = absurd (omega (arith, less))
rise_more s i cs rise zero (suc l) less h = let p : IsPlace s (i + 1) cs (get_or (places_from s (i + 1) cs) l 0) = places_are s (i + 1) cs l (omega (arith, h)) in omega (arith, p.0)
rise_more s i cs rise (suc k) (suc l) less h = rise k l (omega (arith, less)) (omega (arith, h))

pub places_rise : (s i : ℕ) (cs : List Cluster) (k l : ℕ) → k < l → l < length (places_from s i cs) → get_or (places_from s i cs) k 0 < get_or (places_from s i cs) l 0
places_rise s i [] k l less h = absurd (omega (arith, h))
places_rise s i (c ∷ cs) k l less h = elim (cases_Bool (c.session == s)) [
  | inl e ↦ rw e (rise_more s i cs (places_rise s (i + 1) cs) k l less (rw e at h))
  | inr e ↦ rw e (places_rise s (i + 1) cs k l less (rw e at h))
]

-- each cluster of the session has its place among them
abbrev HasPlace : List ℕ → ℕ → Type 0
HasPlace ps p = (l : ℕ) × (l < length ps) × (get_or ps l 0 ≡ p)

has_behind : (i p : ℕ) (ps : List ℕ) → HasPlace ps p → HasPlace (i ∷ ps) p
has_behind i p ps h = (suc h.0, omega (arith, h.1), h.2)

pub places_all : (s i : ℕ) (cs : List Cluster) (k : ℕ) → k < length cs → (at cs k).session ≡ s → HasPlace (places_from s i cs) (i + k)
places_all s i [] k h own = absurd (omega (arith, h))
places_all s i (c ∷ cs) zero h own =
    let test : (c.session == s) ≡ true = grind (arith, nat_tests, own) in
    let e : i + 0 ≡ i = omega arith in
    rw (test, e) (zero, omega arith, refl)
places_all s i (c ∷ cs) (suc k) h own =
    let e : i + suc k ≡ (i + 1) + k = omega arith in
    let there : HasPlace (places_from s (i + 1) cs) ((i + 1) + k) = places_all s (i + 1) cs k (omega (arith, h)) own in
    rw e (elim (cases_Bool (c.session == s)) [
      | inl t ↦ rw t (has_behind i ((i + 1) + k) (places_from s (i + 1) cs) there)
      | inr t ↦ rw t there
    ])

-- the last one
some_last : (ps : List ℕ) (p : ℕ) → last_of ps ≡ Some p → (0 < length ps) × (get_or ps (length ps - 1) 0 ≡ p)
some_last [] p e = cc
some_last (q ∷ qs) p e =
    let within : length (q ∷ qs) - 1 < length (q ∷ qs) = omega arith in
    let got : slice_get (q ∷ qs) (length (q ∷ qs) - 1) ≡ Some (get_or (q ∷ qs) (length (q ∷ qs) - 1) 0) = slice_get-get_or (q ∷ qs) (length (q ∷ qs) - 1) 0 within in
    (omega arith, cc (e, got))

pub last_is : (s : ℕ) (cs : List Cluster) (p : ℕ) → last_of (places_of s cs) ≡ Some p → IsLastOf s cs p
last_is s cs p e =
    let last : (0 < length (places_of s cs)) × (get_or (places_of s cs) (length (places_of s cs) - 1) 0 ≡ p) = some_last (places_of s cs) p e in
    let n : ℕ = length (places_of s cs) - 1 in
    let place : IsPlace s 0 cs (get_or (places_of s cs) n 0) = places_are s 0 cs n (omega (arith, last.0)) in
    let there : IsPlace s 0 cs p = rw last.1 at place in
    let back : p - 0 ≡ p = omega arith in
    record {
      there = omega (arith, there.1);
      own = rw back at there.2;
      last = λ j less h own.
          let has : HasPlace (places_of s cs) (0 + j) = places_all s 0 cs j h own in
          elim (cases_lt has.0 n) [
            | inl l ↦ let low : get_or (places_of s cs) has.0 0 < get_or (places_of s cs) n 0 = places_rise s 0 cs has.0 n l (omega (arith, last.0)) in
                omega (arith, low, has.2, last.1, less)
            | inr g ↦ let same : has.0 ≡ n = omega (arith, g, has.1) in
                let at_last : get_or (places_of s cs) has.0 0 ≡ p = rw same last.1 in
                omega (arith, has.2, at_last, less)
          ];
    }

-- ## What a range comes to

read_at : (cs : List Cluster) (i : ℕ) (c : Cluster) → i < length cs → c ≡ get_or cs i c → at cs i ≡ c
read_at cs i c within is = sym (get_or_read cs i c within is no_cluster)

pub put_rest : (r : IdRange) (cs : List Cluster) (i : ℕ) (last : Cluster) (n : ℕ) (next : Cluster) (after : List Cluster) → i < length cs → last ≡ get_or cs i last → n ≡ room last → n < r.count → i + 1 ≢ length cs
    → next ≡ new_cluster cs r.session (r.first + n) (r.count - n) → after ≡ cs ++ next ∷ []
    → set after i (record last { used = last.used + n }) ≡ put_at r cs i
put_rest r cs i last n next after within is rest less more made put =
    let here : at cs i ≡ last = read_at cs i last within is in
    let past : nat_le r.count (room last) ≡ false = grind (arith, nat_tests, rest, less) in
    let inner : (i + 1 == length cs) ≡ false = grind (arith, nat_tests, more) in
    rw (here, past, inner, put, made, rest) (set-append_left cs (new_cluster cs r.session (r.first + room last) (r.count - room last) ∷ []) i (record last { used = last.used + room last }) within)

-- the places after a cluster is set that is of the same session
pub places_kept : (s : ℕ) (cs : List Cluster) (i : ℕ) (last c : Cluster) (ps : List ℕ) → i < length cs → last ≡ get_or cs i last → c.session ≡ last.session → ps ≡ places_of s cs → ps ≡ places_of s (set cs i c)
places_kept s cs i last c ps within is same kept =
    kept ∙ sym (places_set s 0 i cs c (same ∙ sym (ap (λ (x : Cluster). x.session) (read_at cs i last within is))))

-- and after one of the session is put behind the others
pub places_more : (s : ℕ) (cs : List Cluster) (c : Cluster) (ps more : List ℕ) (n : ℕ) → n ≡ length cs → c.session ≡ s → ps ≡ places_of s cs → more ≡ ps ++ n ∷ [] → more ≡ places_of s (cs ++ c ∷ [])
places_more s cs c ps more n long own kept put =
    let test : (c.session == s) ≡ true = grind (arith, nat_tests, own) in
    let e : 0 + length cs ≡ length cs = omega arith in
    put ∙ rw (places_push s 0 cs c, test, e, kept, long) refl

pub places_rest : (s : ℕ) (cs : List Cluster) (i : ℕ) (last c next : Cluster) (after : List Cluster) (ps more : List ℕ) (n : ℕ) → i < length cs → last ≡ get_or cs i last → c.session ≡ last.session → after ≡ cs ++ next ∷ [] → n ≡ length cs → next.session ≡ s
    → more ≡ ps ++ n ∷ [] → ps ≡ places_of s cs → more ≡ places_of s (set after i c)
places_rest s cs i last c next after ps more n within is same put long own grew kept =
    let front : at after i ≡ last = ap (λ (xs : List Cluster). at xs i) put ∙ at_front cs next i within ∙ read_at cs i last within is in
    places_more s cs next ps more n long own kept grew ∙ ap (λ (xs : List Cluster). places_of s xs) (sym put)
    ∙ sym (places_set s 0 i after c (same ∙ sym (ap (λ (x : Cluster). x.session) front)))

pub both_ok : {T E : Type 0} (A B : Type 0) (r : Result T E) → OnOk r A → OnOk r B → OnOk r (A × B)
both_ok A B (Ok v) a b = (a, b)
both_ok A B (Err e) a b = a

pub last_found : (s : ℕ) (cs : List Cluster) (ps slice : List ℕ) (o : Option ℕ) (p : ℕ) → ps ≡ places_of s cs → slice ≡ ps → o ≡ last_of slice → Some p ≡ o → IsLastOf s cs p
last_found s cs ps slice o p kept is last some =
    last_is s cs p (sym (some ∙ last ∙ ap (λ (l : List ℕ). last_of l) (is ∙ kept)))
