-- Hops along a path, and items of rows by their index.
use Rattle.std.proofs.Common.{◌≡◌, ◌≤◌, ◌+◌, ◌-◌, ℕ, zero, suc, Bool, true, false, List, [], ◌∷◌, ◌++◌, length, length-append, map, filter, take, Option, Some, None, refl, sym, ap, ◌∙◌, subst, arith, cond}
use Rattle.std.proofs.lemmas.Option.{same_Some}
use Rattle.std.specs.Prelude.{slice_get, slice_set, drop, is_some, Result, Ok, Err, IfOk, IfSome}
use Rattle.st_chunks.specs.Slots.{IsFullPlace, count_full, one_if}
use Rattle.st_cursor.specs.At.{IsBehind, Leads, behind, end_of}
use Rattle.st_cursor.specs.declared.hops.Hop.{Hop}
use Rattle.st_edits.specs.Paths.{child, or_refuse, walk_from}
use Rattle.st_lemmas.proofs.Lists.{drop-slice_get}
use Rattle.st_ids.specs.Or.{and_then}
use Rattle.st_ids.specs.Root.{root}
use Rattle.st_ids.specs.declared.names.NodeId.{NodeId}
use Rattle.st_ids.specs.declared.names.Place.{Place}
use Rattle.st_marks.specs.Document.{Document}
use Rattle.st_marks.specs.declared.places.Slot.{Slot}
use Rattle.st_tree.specs.declared.edit.EditFault.TheVariants.{NoNode}

-- ## Rows

abbrev is_full : Slot → Bool
is_full s = s.full

-- the full slot before which so many stand is the one of that index among the full ones
pub full_found : (c : List Slot) (index place : ℕ) → IsFullPlace c index place → slice_get (filter is_full c) index ≡ slice_get c place
full_found [] index place h = let bad : None ≡ Some h.slot = h.there in cc
full_found (s ∷ c) index zero h =
    let e : s ≡ h.slot = same_Some s h.slot h.there in
    let full : s.full ≡ true = ap is_full e ∙ h.full in
    subst (λ i. slice_get (filter is_full (s ∷ c)) i ≡ Some s) h.before (rw full refl)
full_found (s ∷ c) index (suc place) h =
    let rest = full_found c (count_full (take place c)) place (record { slot = h.slot; there = h.there; full = h.full; before = refl }) in
    subst (λ i. slice_get (filter is_full (s ∷ c)) i ≡ slice_get c place) h.before (go s.full refl rest)
  where
    go : (b : Bool) → s.full ≡ b → slice_get (filter is_full c) (count_full (take place c)) ≡ slice_get c place → slice_get (filter is_full (s ∷ c)) (one_if s.full + count_full (take place c)) ≡ slice_get c place
    go b e rest = subst (λ b. slice_get (cond b (s ∷ filter is_full c) (filter is_full c)) (one_if b + count_full (take place c)) ≡ slice_get c place) (sym e) (either b)
      where
        either : (b : Bool) → slice_get (cond b (s ∷ filter is_full c) (filter is_full c)) (one_if b + count_full (take place c)) ≡ slice_get c place
        either true = let z : suc (count_full (take place c)) ≡ 1 + count_full (take place c) = omega arith in subst (λ k. slice_get (s ∷ filter is_full c) k ≡ slice_get c place) z rest
        either false = let z : count_full (take place c) ≡ 0 + count_full (take place c) = omega arith in subst (λ k. slice_get (filter is_full c) k ≡ slice_get c place) z rest

pub none_found : (c : List Slot) (index : ℕ) → count_full c ≤ index → slice_get (filter is_full c) index ≡ None
none_found [] index l = refl
none_found (s ∷ c) index l = go s.full refl index l (λ i. none_found c i)
  where
    go : (b : Bool) → s.full ≡ b → (index : ℕ) → one_if s.full + count_full c ≤ index → ((i : ℕ) → count_full c ≤ i → slice_get (filter is_full c) i ≡ None) → slice_get (filter is_full (s ∷ c)) index ≡ None
    go true e zero l rest = let one = ap one_if e in absurd (omega (arith, l, one))
    go true e (suc i) l rest = let one = ap one_if e in rw e (rest i (omega (arith, l, one)))
    go false e index l rest = let one = ap one_if e in rw e (rest index (omega (arith, l, one)))

at_most_one : (b : Bool) → one_if b ≤ 1
at_most_one true = omega arith
at_most_one false = omega arith

pub count_within : (c : List Slot) → count_full c ≤ length c
count_within [] = omega arith
count_within (s ∷ c) = let a = count_within c in let b = at_most_one s.full in omega (arith, a, b)

-- ## Hops

pub leads_on : (D : Document) (n : NodeId) (hs : List Hop) (h : Hop) → Leads D n hs → child D (end_of n hs) h.place ≡ Some h.node → Leads D n (hs ++ h ∷ [])
leads_on D n [] h l e = (e, tt)
leads_on D n (g ∷ hs) h l e = (l.0, leads_on D g.node hs h l.1 e)

pub leads_front : (D : Document) (n : NodeId) (hs : List Hop) (h : Hop) → Leads D n (hs ++ h ∷ []) → Leads D n hs
leads_front D n [] h l = tt
leads_front D n (g ∷ hs) h l = (l.0, leads_front D g.node hs h l.1)

pub end_last : (n : NodeId) (hs : List Hop) (h : Hop) → end_of n (hs ++ h ∷ []) ≡ h.node
end_last n [] h = refl
end_last n (g ∷ hs) h = end_last g.node hs h

-- the places of hops lead to their end
pub walked : (D : Document) (k : ℕ) (n : NodeId) (hs : List Hop) → Leads D n hs → walk_from D k n (map (λ (h : Hop). h.place) hs) ≡ Ok (end_of n hs)
walked D k n [] l = refl
walked D k n (h ∷ hs) l = ap (λ o. and_then (or_refuse o (NoNode k)) (λ m. walk_from D (k + 1) m (map (λ (h : Hop). h.place) hs))) l.0 ∙ walked D (k + 1) h.node hs l.1

-- a list with a last one
split_at_last : {A : Type 0} (xs : List A) (n : ℕ) (x : A) → length xs ≡ suc n → slice_get xs n ≡ Some x → xs ≡ take n xs ++ x ∷ []
split_at_last [] n x l e = cc
split_at_last (y ∷ []) zero x l e = ap (λ z. z ∷ []) (same_Some y x e)
split_at_last (y ∷ []) (suc n) x l e = absurd (omega (arith, l))
split_at_last (y ∷ z ∷ xs) zero x l e = absurd (omega (arith, l))
split_at_last (y ∷ z ∷ xs) (suc n) x l e = ap (λ l. y ∷ l) (split_at_last (z ∷ xs) n x (omega (arith, l)) e)

pub last_split : {A : Type 0} (xs : List A) (x : A) → slice_get xs (length xs - 1) ≡ Some x → xs ≡ take (length xs - 1) xs ++ x ∷ []
last_split [] x e = cc
last_split (y ∷ xs) x e = split_at_last (y ∷ xs) (length (y ∷ xs) - 1) x (omega arith) e

pub end_read : (n : NodeId) (hs : List Hop) (h : Hop) → slice_get hs (length hs - 1) ≡ Some h → end_of n hs ≡ h.node
end_read n hs h e = ap (end_of n) (last_split hs h e) ∙ end_last n (take (length hs - 1) hs) h

one_less : {A : Type 0} (front : List A) (x : A) → length (front ++ x ∷ []) - 1 ≡ length front
one_less front x = let e = length-append front (x ∷ []) in omega (arith, e)

-- another at the last place
set_at_last : {A : Type 0} (front : List A) (x y : A) → slice_set (front ++ x ∷ []) (length front) y ≡ front ++ y ∷ []
set_at_last [] x y = refl
set_at_last (z ∷ front) x y = ap (λ l. z ∷ l) (set_at_last front x y)

pub last_set : {A : Type 0} (hs front : List A) (x y : A) → hs ≡ front ++ x ∷ [] → slice_set hs (length hs - 1) y ≡ front ++ y ∷ []
last_set hs front x y e = (λ i. slice_set (e i) (length (e i) - 1) y) ∙ ap (λ n. slice_set (front ++ x ∷ []) n y) (one_less front x) ∙ set_at_last front x y

pub set_past : {A : Type 0} (xs : List A) (i : ℕ) (y : A) → slice_get xs i ≡ None → xs ≡ slice_set xs i y
set_past [] i y e = refl
set_past (x ∷ xs) zero y e = cc
set_past (x ∷ xs) (suc i) y e = ap (λ l. x ∷ l) (set_past xs i y e)

-- ## Along a path

take_suc : {A : Type 0} (xs : List A) (i : ℕ) (x : A) → slice_get xs i ≡ Some x → take (suc i) xs ≡ take i xs ++ x ∷ []
take_suc [] i x e = cc
take_suc (y ∷ xs) zero x e = ap (λ z. z ∷ []) (same_Some y x e)
take_suc (y ∷ xs) (suc i) x e = ap (λ l. y ∷ l) (take_suc xs i x e)

take_next : {A : Type 0} (xs : List A) (i : ℕ) (x : A) → slice_get xs i ≡ Some x → take (i + 1) xs ≡ take i xs ++ x ∷ []
take_next xs i x e = let z : i + 1 ≡ suc i = omega arith in ap (λ n. take n xs) z ∙ take_suc xs i x e

abbrev places : List Hop → List Place
places hs = map (λ (h : Hop). h.place) hs

places_more : (hs : List Hop) (h : Hop) → places (hs ++ h ∷ []) ≡ places hs ++ h.place ∷ []
places_more [] h = refl
places_more (g ∷ hs) h = ap (λ l. g.place ∷ l) (places_more hs h)

pub places_on : (ps : List Place) (i : ℕ) (hs : List Hop) (p : Place) (h : Hop) → slice_get ps i ≡ Some p → h.place ≡ p → places hs ≡ take i ps → places (hs ++ h ∷ []) ≡ take (i + 1) ps
places_on ps i hs p h there is so_far = places_more hs h ∙ (λ k. so_far k ++ is k ∷ []) ∙ sym (take_next ps i p there)

-- the hops so far lead to a node from which the rest of a path leads on
pub record OnTheWay (D : Document) (ps : List Place) (i : ℕ) (n : NodeId) (hs : List Hop) : Type 0 where
  pub on : walk_from D i n (drop i ps) ≡ walk_from D 0 root ps
  pub way : Leads D root hs
  pub end : end_of root hs ≡ n

pub hopped : (D : Document) (ps : List Place) (i : ℕ) (n : NodeId) (hs : List Hop) (p : Place) (h : Hop) → slice_get ps i ≡ Some p → h.place ≡ p → child D n p ≡ Some h.node
    → OnTheWay D ps i n hs → OnTheWay D ps (i + 1) h.node (hs ++ h ∷ [])
hopped D ps i n hs p h there is leads w = record {
  on = sym (ap (walk_from D i n) (drop-slice_get ps i p there) ∙ ap (λ o. and_then (or_refuse o (NoNode i)) (λ m. walk_from D (i + 1) m (drop (i + 1) ps))) leads) ∙ w.on;
  way = leads_on D root hs h w.way (ap (λ m. child D m h.place) w.end ∙ ap (child D n) is ∙ leads);
  end = end_last root hs h;
}

pub stopped : (D : Document) (ps : List Place) (i : ℕ) (n : NodeId) (hs : List Hop) (p : Place) → slice_get ps i ≡ Some p → child D n p ≡ None → OnTheWay D ps i n hs → walk_from D 0 root ps ≡ Err (NoNode i)
stopped D ps i n hs p there none w = sym w.on ∙ ap (walk_from D i n) (drop-slice_get ps i p there) ∙ ap (λ o. and_then (or_refuse o (NoNode i)) (λ m. walk_from D (i + 1) m (drop (i + 1) ps))) none

-- ## To the next item

pub entered_way : (D : Document) (hs : List Hop) (p : Place) (m : NodeId) → Leads D root hs → child D (end_of root hs) p ≡ Some m → Leads D root (hs ++ (record { place = p; node = m }) ∷ [])
entered_way D hs p m way there = leads_on D root hs (record { place = p; node = m }) way there

-- two facts of an answer give a third
pub both_ok : {T E : Type 0} (r : Result T E) (P Q R : T → Type 0) → ((t : T) → P t → Q t → R t) → IfOk r P → IfOk r Q → IfOk r R
both_ok (Ok t) P Q R f p q = f t p q
both_ok (Err e) P Q R f p q = tt

pub found_behind : (D : Document) (hs front : List Hop) (last : Hop) (n : NodeId) → hs ≡ front ++ last ∷ [] → n ≡ end_of root front → (o : Option Hop)
    → IfSome o (λ h. h.place ≡ behind last.place) → IfSome o (λ h. child D n h.place ≡ Some h.node) → IfSome o (IsBehind D hs)
found_behind D hs front last n stands is None place there = tt
found_behind D hs front last n stands is (Some h) place there = record { front = front; last = last; stands = stands; place = place; there = subst (λ m. child D m h.place ≡ Some h.node) is there }

pub none_there : {A : Type 0} (o : Option A) → is_some o ≡ false → o ≡ None
none_there None e = refl
none_there (Some a) e = cc

pub gone_on : (D : Document) (hs : List Hop) (h : Hop) (b : IsBehind D hs h) → Leads D root hs → Leads D root (b.front ++ h ∷ [])
gone_on D hs h b way = leads_on D root b.front h (leads_front D root b.front b.last (subst (Leads D root) b.stands way)) b.there
