-- The order from the root down, node by node.
use Rattle.std.proofs.Common.{◌≡◌, ◌≢◌, ℕ, zero, suc, ◌+◌, ◌<◌, ◌≤◌, Bool, true, false, cond, List, [], ◌∷◌, ◌++◌, length, drop, Option, Some, None, IsSome, slice_get, refl, sym, ap, ◌∙◌, subst, arith, inl, inr, ◌⊎◌, option_and_then}
use Rattle.std.specs.BTreeMap.{BTreeMap, get}
use Rattle.std.specs.List.{IsDistinct}
use Rattle.std.specs.Ordering.{eq_by_cmp, is_eq}
use Rattle.std.proofs.lemmas.Bool.{cases_lt}
use Rattle.std.proofs.lemmas.List.{drop_all}
use Rattle.std.proofs.lemmas.Cmp.{eq_by_cmp_equiv}
use Rattle.std.proofs.lemmas.Map.Steps.{length-le_from_keys}
use Rattle.std.proofs.lemmas.Option.{slice_get_within}
use Rattle.serde_json.specs.declared.value.Value.{Value}
use Rattle.st_ids.specs.Listing.{AreDistinct, Has}
use Rattle.st_ids.specs.Order.{node_cmp, same_node}
use Rattle.st_ids.specs.declared.names.NodeId.{NodeId}
use Rattle.st_ids.proofs.Orders.{node_cmp_total, same_node-true, same_node-itself}
use Rattle.st_marks.specs.declared.changes.NewNode.{NewNode}
use Rattle.st_marks.specs.Document.{Document, IsLive, IsSoundInForm, above, climb, first_of, node_of}
use Rattle.st_ids.specs.Root.{root}
use Rattle.st_marks.proofs.Climb.{placed_known}
use Rattle.st_marks.proofs.Members.{all-has, has-all, append_left, append_right, has-append, any-has, distinct-append}
use Rattle.st_doc.specs.Nodes.{type_of}
use Rattle.st_doc.specs.inside.TopDown.{IsTopDown}
use Rattle.st_lemmas.proofs.Lists.{drop-slice_get}
use Rattle.st_ids.proofs.Shared.{at_has}

-- ## Places in a list

at_append : {A : Type 0} (xs ys : List A) (i : ℕ) (x : A) → i < length xs → slice_get (xs ++ ys) i ≡ Some x → slice_get xs i ≡ Some x
at_append [] ys i x l e = absurd (omega arith)
at_append (z ∷ xs) ys zero x l e = e
at_append (z ∷ xs) ys (suc i) x l e = at_append xs ys i x (omega arith) e

append_at : {A : Type 0} (xs ys : List A) (i : ℕ) (x : A) → slice_get xs i ≡ Some x → slice_get (xs ++ ys) i ≡ Some x
append_at [] ys i x e = cc
append_at (z ∷ xs) ys zero x e = e
append_at (z ∷ xs) ys (suc i) x e = append_at xs ys i x e

drop_append : {A : Type 0} (xs ys : List A) (i : ℕ) → i ≤ length xs → drop i (xs ++ ys) ≡ drop i xs ++ ys
drop_append xs ys zero l = refl
drop_append [] ys (suc i) l = absurd (omega arith)
drop_append (x ∷ xs) ys (suc i) l = drop_append xs ys i (omega arith)

drop_end : {A : Type 0} (xs ys : List A) → drop (length xs) (xs ++ ys) ≡ ys
drop_end [] ys = refl
drop_end (x ∷ xs) ys = drop_end xs ys

pub drop_has : {A : Type 0} (xs : List A) (i : ℕ) (x : A) → Has (drop i xs) x → Has xs x
drop_has xs zero x h = h
drop_has [] (suc i) x h = absurd h
drop_has (y ∷ xs) (suc i) x h = inr (drop_has xs i x h)

one_on : (i : ℕ) → suc i + 1 ≡ suc (i + 1)
one_on i = omega arith

-- behind its place an item is not there again
pub not_again : {A : Type 0} (xs : List A) (i : ℕ) (x : A) → AreDistinct (λ (y : A). y) xs → slice_get xs i ≡ Some x → Has (drop (i + 1) xs) x → ⊥
not_again [] i x a e h = cc
not_again {A} (y ∷ xs) zero x a e h = let same : y ≡ x = cc in all-has (λ (z : A). z ≢ y) xs x a.0 h (sym same)
not_again (y ∷ xs) (suc i) x a e h = not_again xs i x a.1 e (subst (λ k. Has (drop k (y ∷ xs)) x) (one_on i) h)

later_has : {A : Type 0} (xs : List A) (i j : ℕ) (x : A) → i < j → slice_get xs j ≡ Some x → Has (drop (i + 1) xs) x
later_has [] i j x l e = cc
later_has (y ∷ xs) i zero x l e = absurd (omega arith)
later_has (y ∷ xs) zero (suc j) x l e = at_has xs j x e
later_has (y ∷ xs) (suc i) (suc j) x l e = subst (λ k. Has (drop k (y ∷ xs)) x) (sym (one_on i)) (later_has xs i j x (omega arith) e)

-- ## Live nodes

pub live_known : (D : Document) → IsSoundInForm D → (n : NodeId) → IsLive D n → IsSome (D.nodes n)
live_known D sound n w = go w.0 w.1
  where
    go : (k : ℕ) → climb (above D) k n ≡ Some root → IsSome (D.nodes n)
    go zero e = let same : n ≡ root = cc in subst (λ m. IsSome (D.nodes m)) (sym same) sound.root_known
    go (suc k) e = placed_known D sound n (λ nowhere. let bad : None ≡ Some root = sym (ap (λ s. option_and_then (climb (above D) k) (node_of s)) nowhere) ∙ e in cc)

-- ## The order so far

-- of the nodes before `next`, what is beneath them is there, and so no other nodes but the root
pub record SoFar (D : Document) (order : List NodeId) (next : ℕ) : Type 0 where
  pub begins : first_of order ≡ Some root
  pub once : AreDistinct (λ (n : NodeId). n) order
  pub live : (n : NodeId) → Has order n → IsLive D n
  pub behind : (i : ℕ) (n m : NodeId) → i < next → slice_get order i ≡ Some n → above D m ≡ Some n → Has (drop (i + 1) order) m
  pub beneath : (m : NodeId) → Has order m → (m ≡ root) ⊎ ((i : ℕ) × (n : NodeId) × (i < next) × (slice_get order i ≡ Some n) × (above D m ≡ Some n))

pub first_so_far : (D : Document) (order : List NodeId) → order ≡ root ∷ [] → SoFar D order 0
first_so_far D order e = subst (λ l. SoFar D l 0) (sym e) (record {
  begins = refl;
  once = (tt, tt);
  live = λ n h. at_root n h;
  behind = λ i n m l e a. absurd (omega (arith, l));
  beneath = λ m h. from_root m h;
})
  where
    at_root : (n : NodeId) → (root ≡ n) ⊎ ⊥ → IsLive D n
    at_root n (inl q) = (0, ap (λ m. Some m) (sym q))
    at_root n (inr b) = absurd b

    from_root : (m : NodeId) → (root ≡ m) ⊎ ⊥ → (m ≡ root) ⊎ ((i : ℕ) × (n : NodeId) × (i < 0) × (slice_get (root ∷ []) i ≡ Some n) × (above D m ≡ Some n))
    from_root m (inl q) = inl (sym q)
    from_root m (inr b) = absurd b

module _ (D : Document) (sound : IsSoundInForm D) (order kids : List NodeId) (next : ℕ) (n : NodeId) (here : slice_get order next ≡ Some n)
    (kids_once : AreDistinct (λ (x : NodeId). x) kids) (kid_above : (m : NodeId) → Has kids m → above D m ≡ Some n) (above_kid : (m : NodeId) → above D m ≡ Some n → Has kids m) (s : SoFar D order next) where
  inside : next < length order
  inside = slice_get_within order next n here

  fresh : (x y : NodeId) → Has order x → Has kids y → y ≢ x
  fresh x y h k same = go (s.beneath x h)
    where
      up : above D x ≡ Some n
      up = ap (above D) (sym same) ∙ kid_above y k

      go : (x ≡ root) ⊎ ((i : ℕ) × (p : NodeId) × (i < next) × (slice_get order i ≡ Some p) × (above D x ≡ Some p)) → ⊥
      go (inl q) = let bad : None ≡ Some n = sym (ap node_of (ap D.place q ∙ sound.root_nowhere)) ∙ up in cc
      go (inr r) =
          let both : Some r.1 ≡ Some n = sym r.4 ∙ up in
          let p_is : r.1 ≡ n = cc in
          not_again order r.0 n s.once (r.3 ∙ ap (λ m. Some m) p_is) (later_has order r.0 next n r.2 here)

  begins_still : (l : List NodeId) → first_of l ≡ Some root → first_of (l ++ kids) ≡ Some root
  begins_still [] e = cc
  begins_still (x ∷ l) e = e

  live_kid : (m : NodeId) → Has order m ⊎ Has kids m → IsLive D m
  live_kid m (inl h) = s.live m h
  live_kid m (inr k) = let w = s.live n (at_has order next n here) in (suc w.0, ap (option_and_then (climb (above D) w.0)) (kid_above m k) ∙ w.1)

  beneath_kid : (m : NodeId) → Has order m ⊎ Has kids m → (m ≡ root) ⊎ ((i : ℕ) × (p : NodeId) × (i < next + 1) × (slice_get (order ++ kids) i ≡ Some p) × (above D m ≡ Some p))
  beneath_kid m (inl h) = go (s.beneath m h)
    where
      go : (m ≡ root) ⊎ ((i : ℕ) × (p : NodeId) × (i < next) × (slice_get order i ≡ Some p) × (above D m ≡ Some p)) → (m ≡ root) ⊎ ((i : ℕ) × (p : NodeId) × (i < next + 1) × (slice_get (order ++ kids) i ≡ Some p) × (above D m ≡ Some p))
      go (inl q) = inl q
      go (inr r) = inr (r.0, r.1, omega (arith, r.2), append_at order kids r.0 r.1 r.3, r.4)
  beneath_kid m (inr k) = inr (next, n, omega arith, append_at order kids next n here, kid_above m k)

  behind_now : (i : ℕ) (p m : NodeId) → i < next + 1 → slice_get (order ++ kids) i ≡ Some p → above D m ≡ Some p → Has (drop (i + 1) (order ++ kids)) m
  behind_now i p m l e a =
      let low : i < length order = omega (arith, l, inside) in
      let at = at_append order kids i p low e in
      subst (λ l. Has l m) (sym (drop_append order kids (i + 1) (omega (arith, low)))) (elim (cases_lt i next) [
        | inl before ↦ append_left (drop (i + 1) order) kids m (s.behind i p m before at a)
        | inr not_before ↦ append_right (drop (i + 1) order) kids m (above_kid m (a ∙ this not_before at))
      ])
    where
      this : next ≤ i → slice_get order i ≡ Some p → Some p ≡ Some n
      this le at = let same : i ≡ next = omega (arith, le, l) in sym at ∙ ap (slice_get order) same ∙ here

  pub more_so_far : SoFar D (order ++ kids) (next + 1)
  more_so_far = record {
    begins = begins_still order s.begins;
    once = distinct-append (λ (x : NodeId). x) order kids s.once kids_once fresh;
    live = λ m h. live_kid m (has-append order kids m h);
    behind = behind_now;
    beneath = λ m h. beneath_kid m (has-append order kids m h);
  }

pub all_so_far : (D : Document) (order : List NodeId) (next : ℕ) → slice_get order next ≡ None → SoFar D order next → IsTopDown D order
all_so_far D order next none s = record {
  begins = s.begins;
  once = s.once;
  live = s.live;
  behind = λ i n m e a. s.behind i n m (before i n e) e a;
}
  where
    past : {A : Type 0} (xs : List A) (k i : ℕ) (x : A) → slice_get xs k ≡ None → slice_get xs i ≡ Some x → i < k
    past [] k i x e f = cc
    past (y ∷ xs) zero i x e f = cc
    past (y ∷ xs) (suc k) zero x e f = omega arith
    past (y ∷ xs) (suc k) (suc i) x e f = let l = past xs k i x e f in omega (arith, l)

    before : (i : ℕ) (n : NodeId) → slice_get order i ≡ Some n → i < next
    before i n e = past order next i n none e

-- ## It ends

all_distinct : (ns : List NodeId) → AreDistinct (λ (n : NodeId). n) ns → IsDistinct (eq_by_cmp node_cmp) ns
unfolding IsDistinct same_node
all_distinct [] a = tt
all_distinct (n ∷ ns) a = (has-all (λ m. is_eq (node_cmp n m) ≡ false) ns (λ m h. go m (same_node n m) refl (all-has (λ y. y ≢ n) ns m a.0 h)), all_distinct ns a.1)
  where
    go : (m : NodeId) (b : Bool) → same_node n m ≡ b → m ≢ n → same_node n m ≡ false
    go m true e apart = absurd (apart (sym (same_node-true n m e)))
    go m false e apart = e

some_type : (o : Option NewNode) → IsSome (type_of o) → IsSome o
some_type None e = cc
some_type (Some m) e = refl

-- there are no more nodes in the order than the map has
pub within_nodes : (D : Document) → IsSoundInForm D → (nodes : BTreeMap NodeId NewNode) → ((n : NodeId) → D.nodes n ≡ type_of (get node_cmp nodes n)) → (order : List NodeId) (next : ℕ) → SoFar D order next → length order ≤ length nodes.entries
unfolding same_node
within_nodes D sound nodes is order next s =
    length-le_from_keys (eq_by_cmp_equiv node_cmp_total) order nodes.entries (all_distinct order s.once) (λ q e. there q (any-has (eq_by_cmp node_cmp q) order e))
  where
    there : (q : NodeId) → (x : NodeId) × Has order x × (same_node q x ≡ true) → IsSome (get node_cmp nodes q)
    there q r =
        let same = same_node-true q r.0 r.2 in
        some_type (get node_cmp nodes q) (subst (λ o. IsSome o) (is q) (subst (λ m. IsSome (D.nodes m)) (sym same) (live_known D sound r.0 (s.live r.0 r.1))))

-- ## Backwards through the order

-- of the nodes from a place on, those whose parent is before it have their values
abbrev pub AreReady : Document → List NodeId → ℕ → BTreeMap NodeId Value → Type 0
AreReady D order k done = (m : NodeId) → Has (drop k order) m → ((p : NodeId) → above D m ≡ Some p → ¬ (Has (drop k order) p)) → IsSome (get node_cmp done m)

module _ (D : Document) (sound : IsSoundInForm D) (order : List NodeId) (t : IsTopDown D order) where
  -- past the end there is no node
  pub none_ready : (k : ℕ) (done : BTreeMap NodeId Value) → length order ≤ k → AreReady D order k done
  none_ready k done past m h parents = absurd (subst (λ l. Has l m) (drop_all k order past) h)

  pub root_ready : (k : ℕ) (done : BTreeMap NodeId Value) → k ≡ 0 → AreReady D order k done → IsSome (get node_cmp done root)
  root_ready k done none ready =
      subst (λ j. AreReady D order j done) none ready root (first_has order t.begins) (λ p e h. let bad : None ≡ Some p = sym (ap node_of sound.root_nowhere) ∙ e in cc)
    where
      first_has : (l : List NodeId) → first_of l ≡ Some root → Has l root
      first_has [] e = cc
      first_has (x ∷ l) e = inl (let same : x ≡ root = cc in same)

  module _ (i k : ℕ) (n : NodeId) (next : i + 1 ≡ k) (here : slice_get order i ≡ Some n) (done : BTreeMap NodeId Value) (ready : AreReady D order k done) where
    ready_on : AreReady D order (i + 1) done
    ready_on = subst (λ j. AreReady D order j done) (sym next) ready

    pub here_known : IsSome (D.nodes n)
    here_known = live_known D sound n (t.live n (at_has order i n here))

    pub children_ready : (m : NodeId) → above D m ≡ Some n → IsSome (get node_cmp done m)
    children_ready m a =
        ready_on m (t.behind i n m here a)
        (λ p e h. let both : Some p ≡ Some n = sym e ∙ a in let same : p ≡ n = cc in not_again order i n t.once here (subst (Has (drop (i + 1) order)) same h))

    pub ready_more : (between new : BTreeMap NodeId Value) (w : Value) → ((m : NodeId) → above D m ≢ Some n → get node_cmp between m ≡ get node_cmp done m)
        → ((q : NodeId) → get node_cmp new q ≡ cond (is_eq (node_cmp n q)) (Some w) (get node_cmp between q)) → AreReady D order i new
    unfolding same_node
    ready_more between new w kept set m h parents = go (same_node n m) refl (subst (λ l. Has l m) opened h)
      where
        opened : drop i order ≡ n ∷ drop (i + 1) order
        opened = drop-slice_get order i n here

        go : (b : Bool) → same_node n m ≡ b → (n ≡ m) ⊎ Has (drop (i + 1) order) m → IsSome (get node_cmp new m)
        go true e c = subst (λ o. IsSome o) (sym (set m ∙ ap (λ b. cond b (Some w) (get node_cmp between m)) e)) refl
        go false e (inl q) = let bad : ◌≡◌ {A = Bool} true false = sym (same_node-itself n) ∙ ap (same_node n) q ∙ e in cc
        go false e (inr later) =
            subst (λ o. IsSome o) (sym (set m ∙ ap (λ b. cond b (Some w) (get node_cmp between m)) e ∙ kept m (λ a. parents n a (subst (λ l. Has l n) (sym opened) (inl refl)))))
            (ready_on m later (λ p a g. parents p a (subst (λ l. Has l p) (sym opened) (inr g))))
