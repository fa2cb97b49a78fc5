-- What two find of one document can be found together: each cell in one row and once, and no ring.
use Rattle.std.proofs.Common.{◌≡◌, ◌≢◌, ℕ, zero, suc, Bool, true, false, not, List, [], ◌∷◌, map, Option, Some, None, cond, refl, sym, ap, ◌∙◌, subst, inl, inr, ◌⊎◌, arith}
use Rattle.std.specs.Option.{option_map_or, option_or}
use Rattle.std.specs.List.{AllZip, filter, find, flat_map}
use Rattle.st_ids.specs.Listing.{AreDistinct, Has}
use Rattle.st_ids.specs.Order.{same_node}
use Rattle.st_ids.proofs.Orders.{same_node-true, same_node-itself}
use Rattle.st_ids.specs.declared.names.NodeId.{NodeId}
use Rattle.st_marks.specs.declared.places.Spot.{Spot}
use Rattle.st_marks.specs.Agree.{IsSameView, LeadsUp}
use Rattle.st_marks.specs.Agree.LeadsUp.{one_up, further_up}
use Rattle.st_marks.specs.Document.{node_of}
use Rattle.st_marks.specs.Listings.{CellView, one_or_none}
use Rattle.st_marks.proofs.Members.{all-has, has-all, append_left, append_right, has-append, has-map, first-has, has-any, distinct-append, distinct-right, distinct-between, list_distinct, one_list}
use Rattle.st_normal_laws.specs.Seed.{FoundRow}
use Rattle.st_normal_laws.specs.Two.{IsNamedAt, RowsAgree, cell_key, cells_of_row, join, cells_of_both, joined_row, lists_row, node_key, rows_of_both}
use Rattle.st_normal_laws.specs.inside.Two.{AreInPlace, keys}
use Rattle.st_puts.proofs.Groups.{distinct-flat}
use Rattle.st_puts.proofs.Basics.{not-true, one-is}
use Rattle.st_ids.proofs.Shared.{filtered}

-- ## No ring

abbrev pub Either : (NodeId → Spot → Type 0) → (NodeId → Spot → Type 0) → NodeId → Spot → Type 0
Either P Q n s = P n s ⊎ Q n s

-- P says where the node above one is whom it says where, or nobody says it
abbrev pub IsClosedUnder : (NodeId → Spot → Type 0) → (NodeId → Spot → Type 0) → Type 0
IsClosedUnder P Q = (n p : NodeId) (s : Spot) → P n s → node_of s ≡ Some p → ((t : Spot) × P p t) ⊎ ((t : Spot) → P p t ⊎ Q p t → ⊥)

abbrev pub AgreeOnPlaces : (NodeId → Spot → Type 0) → (NodeId → Spot → Type 0) → Type 0
AgreeOnPlaces P Q = (n : NodeId) (s t : Spot) → P n s → Q n t → s ≡ t

first-link : {At : NodeId → Spot → Type 0} {n m : NodeId} → LeadsUp At n m → (s : Spot) × At n s
first-link (one_up s a e) = (s, a)
first-link (further_up s a e l) = (s, a)

module _ (P Q : NodeId → Spot → Type 0) (same : AgreeOnPlaces P Q) (closed : IsClosedUnder P Q) where
  own : (n : NodeId) (s : Spot) → Either P Q n s → ((t : Spot) × P n t) → P n s
  own n s (inl a) p = a
  own n s (inr a) p = subst (P n) (same n p.0 s p.1 a) p.1

  -- where P says where a climb begins, P says all of it
  along_one : (n m : NodeId) → LeadsUp (Either P Q) n m → ((t : Spot) × P n t) → LeadsUp P n m
  along_one n m (one_up s a e) p = one_up s (own n s a p) e
  along_one n m (further_up {p = k} s a e l) p = elim (closed n k s (own n s a p) e) [
    | inl q ↦ further_up s (own n s a p) e (along_one k m l q)
    | inr none ↦ (let f = first-link l in absurd (none f.0 f.1))
  ]

-- Q says where the node above one is whom it says where, or P says it, or nobody does
abbrev pub IsClosedWith : (NodeId → Spot → Type 0) → (NodeId → Spot → Type 0) → Type 0
IsClosedWith Q P = (n p : NodeId) (s : Spot) → Q n s → node_of s ≡ Some p → ((t : Spot) × Q p t) ⊎ ((t : Spot) × P p t) ⊎ ((t : Spot) → P p t ⊎ Q p t → ⊥)

module _ (P Q : NodeId → Spot → Type 0) (same : AgreeOnPlaces P Q) (closed : IsClosedUnder P Q) (other : IsClosedWith Q P) where
  -- where P says where a climb begins, it says where it ends, or nobody does
  end_one : (n m : NodeId) → LeadsUp (Either P Q) n m → ((t : Spot) × P n t) → ((t : Spot) × P m t) ⊎ ((t : Spot) → P m t ⊎ Q m t → ⊥)
  end_one n m (one_up s a e) p = closed n m s (own P Q same closed n s a p) e
  end_one n m (further_up {p = k} s a e l) p = elim (closed n k s (own P Q same closed n s a p) e) [
    | inl q ↦ end_one k m l q
    | inr none ↦ (let f = first-link l in absurd (none f.0 f.1))
  ]

  second : (n : NodeId) (s : Spot) → Either P Q n s → ((t : Spot) × Q n t) → Q n s
  second n s (inr a) q = a
  second n s (inl a) q = subst (Q n) (sym (same n s q.0 a q.1)) q.1

  -- a climb to one that somebody says, but not P, is all Q's
  along_two : (m : NodeId) → ((t : Spot) → P m t → ⊥) → ((t : Spot) × Either P Q m t) → (n : NodeId) → LeadsUp (Either P Q) n m → ((t : Spot) × Q n t) → LeadsUp Q n m
  along_two m not said n (one_up s a e) q = one_up s (second n s a q) e
  along_two m not said n (further_up {p = k} s a e l) q = elim (other n k s (second n s a q) e) [
    | inl r ↦ further_up s (second n s a q) e (along_two m not said k l r)
    | inr b ↦ elim b [
      | inl r ↦ absurd (elim (end_one k m l r) [ inl z ↦ not z.0 z.1 | inr none ↦ none said.0 said.1 ])
      | inr none ↦ (let f = first-link l in absurd (none f.0 f.1))
    ]
  ]

  -- two that agree on places, of which the first says where what is above is, and the second does so or leaves it to the first,
  -- have no ring together where neither has one alone
  pub no_ring_together : ((n : NodeId) → LeadsUp P n n → ⊥) → ((n : NodeId) → LeadsUp Q n n → ⊥) → (n : NodeId) → LeadsUp (Either P Q) n n → ⊥
  no_ring_together a b n l = go (first-link l)
    where
      go : ((s : Spot) × Either P Q n s) → ⊥
      go (s, inl h) = a n (along_one P Q same closed n n l (s, h))
      go (s, inr h) = b n (along_two n (λ t p. a n (along_one P Q same closed n n l (t, p))) (s, inr h) n l (s, h))

-- ## One row

named-has : {K : Type 0} (key : CellView → Option K) (xs : List CellView) (k : ℕ) (c : K) → IsNamedAt key xs k c → Has (keys key xs) c
named-has key [] k c h = absurd h
named-has key (x ∷ xs) zero c h = append_left (one_or_none (key x)) (keys key xs) c (subst (λ o. Has (one_or_none o) c) (sym h) (inl refl))
named-has key (x ∷ xs) (suc k) c h = append_right (one_or_none (key x)) (keys key xs) c (named-has key xs k c h)

pub has-named : {K : Type 0} (key : CellView → Option K) (xs : List CellView) (c : K) → Has (keys key xs) c → (k : ℕ) × IsNamedAt key xs k c
has-named key [] c h = absurd h
has-named key (x ∷ xs) c h = elim (has-append (one_or_none (key x)) (keys key xs) c h) [
  | inl i ↦ (zero, one-is (key x) c i)
  | inr i ↦ (let r = has-named key xs c i in (suc r.0, r.1))
]

-- what is named of a cell that both show
abbrev pub IsJoined : {K : Type 0} → (CellView → Option K) → Type 0
IsJoined key = (x y : CellView) → IsSameView x y → key (join x y) ≡ option_or (key x) (key y)

or-is : {K : Type 0} (o p : Option K) (c : K) → option_or o p ≡ Some c → (o ≡ Some c) ⊎ ((o ≡ None) × (p ≡ Some c))
or-is None p c e = inr (refl, e)
or-is (Some d) p c e = inl e

module _ {K : Type 0} (key : CellView → Option K) (on : IsJoined key) where
  -- what is named in the joined row is named by one of both
  joined-has : (xs ys : List CellView) → AllZip IsSameView xs ys → (c : K) → Has (keys key (cells_of_both xs ys)) c → Has (keys key xs) c ⊎ Has (keys key ys) c
  joined-has [] ys z c h = absurd h
  joined-has (x ∷ xs) [] z c h = inl h
  joined-has (x ∷ xs) (y ∷ ys) z c h = elim (has-append (one_or_none (key (join x y))) (keys key (cells_of_both xs ys)) c h) [
    | inl i ↦ elim (or-is (key x) (key y) c (sym (on x y z.0) ∙ one-is (key (join x y)) c i)) [
      | inl e ↦ inl (append_left (one_or_none (key x)) (keys key xs) c (subst (λ o. Has (one_or_none o) c) (sym e) (inl refl)))
      | inr e ↦ inr (append_left (one_or_none (key y)) (keys key ys) c (subst (λ o. Has (one_or_none o) c) (sym e.1) (inl refl)))
    ]
    | inr i ↦ elim (joined-has xs ys z.1 c i) [ inl j ↦ inl (append_right (one_or_none (key x)) (keys key xs) c j) | inr j ↦ inr (append_right (one_or_none (key y)) (keys key ys) c j) ]
  ]

  next : (k l : ℕ) → suc k ≡ suc l → k ≡ l
  next k l e = omega (arith, e)

  joined-once : (xs ys : List CellView) → AllZip IsSameView xs ys → AreDistinct (λ (c : K). c) (keys key xs) → AreDistinct (λ (c : K). c) (keys key ys) → AreInPlace key xs ys → AreDistinct (λ (c : K). c) (keys key (cells_of_both xs ys))
  joined-once [] ys z d e f = tt
  joined-once (x ∷ xs) [] z d e f = d
  joined-once (x ∷ xs) (y ∷ ys) z d e f =
      distinct-append (λ (c : K). c) (one_or_none (key (join x y))) (keys key (cells_of_both xs ys)) (alone (key (join x y)))
      (joined-once xs ys z.1 (distinct-right (λ (c : K). c) (one_or_none (key x)) (keys key xs) d) (distinct-right (λ (c : K). c) (one_or_none (key y)) (keys key ys) e) (λ k l c h i. next k l (f (suc k) (suc l) c h i)))
      (λ c b h i q. apart c b (or-is (key x) (key y) c (sym (on x y z.0) ∙ one-is (key (join x y)) c h)) (joined-has xs ys z.1 b i) q)
    where
      alone : (o : Option K) → AreDistinct (λ (c : K). c) (one_or_none o)
      alone None = tt
      alone (Some c) = (tt, tt)

      apart : (c b : K) → (key x ≡ Some c) ⊎ ((key x ≡ None) × (key y ≡ Some c)) → Has (keys key xs) b ⊎ Has (keys key ys) b → b ≡ c → ⊥
      apart c b (inl g) (inl h) q = distinct-between (λ (c : K). c) (one_or_none (key x)) (keys key xs) c b d (subst (λ o. Has (one_or_none o) c) (sym g) (inl refl)) h q
      apart c b (inl g) (inr h) q = let r = has-named key ys c (subst (Has (keys key ys)) q h) in let bad = f zero (suc r.0) c g r.1 in absurd (omega (arith, bad))
      apart c b (inr g) (inl h) q = let r = has-named key xs c (subst (Has (keys key xs)) q h) in let bad = f (suc r.0) zero c r.1 g.1 in absurd (omega (arith, bad))
      apart c b (inr g) (inr h) q = distinct-between (λ (c : K). c) (one_or_none (key y)) (keys key ys) c b e (subst (λ o. Has (one_or_none o) c) (sym g.1) (inl refl)) h q

pub cells_joined : IsJoined cell_key
cells_joined x y s = refl

pub nodes_joined : IsJoined node_key
nodes_joined x y s = go x.full y.full s.full
  where
    go : (a b : Bool) → a ≡ b → cond a (option_or x.node y.node) None ≡ option_or (cond a x.node None) (cond b y.node None)
    go true true e = refl
    go true false e = cc
    go false true e = cc
    go false false e = refl

-- ## All rows

module _ {K : Type 0} (key : CellView → Option K) (on : IsJoined key) (ps qs : List FoundRow)
    (ps_once : AreDistinct (λ (r : FoundRow). r.node) ps) (qs_once : AreDistinct (λ (r : FoundRow). r.node) qs)
    (zipped : (p q : FoundRow) → Has ps p → Has qs q → p.node ≡ q.node → AllZip IsSameView p.cells q.cells)
    (p_keys : AreDistinct (λ (c : K). c) (flat_map (λ (r : FoundRow). keys key r.cells) ps)) (q_keys : AreDistinct (λ (c : K). c) (flat_map (λ (r : FoundRow). keys key r.cells) qs))
    (agree : RowsAgree key ps qs) where
  -- the other's row, if it lists it
  other-row : (n : NodeId) → ((q : FoundRow) × Has qs q × (q.node ≡ n) × (cells_of_row qs n ≡ q.cells)) ⊎ (cells_of_row qs n ≡ [])
  other-row n = go (find (λ (r : FoundRow). same_node r.node n) qs) refl
    where
      go : (o : Option FoundRow) → find (λ (r : FoundRow). same_node r.node n) qs ≡ o → ((q : FoundRow) × Has qs q × (q.node ≡ n) × (cells_of_row qs n ≡ q.cells)) ⊎ (cells_of_row qs n ≡ [])
      go None e = inr (ap (λ o. option_map_or (λ (r : FoundRow). r.cells) o []) e)
      go (Some q) e = let r = first-has (λ (r : FoundRow). same_node r.node n) qs q e in inl (q, r.0, same_node-true q.node n r.1, ap (λ o. option_map_or (λ (r : FoundRow). r.cells) o []) e)

  joined-none : (xs : List CellView) → cells_of_both xs [] ≡ xs
  joined-none [] = refl
  joined-none (x ∷ xs) = refl

  abbrev Named : NodeId → K → Type 0
  Named n c = ((p : FoundRow) × Has ps p × (p.node ≡ n) × Has (keys key p.cells) c) ⊎ ((q : FoundRow) × Has qs q × (q.node ≡ n) × Has (keys key q.cells) c)

  -- what is named in a row of both is named by one of them
  pub both-named : (r : FoundRow) → Has (rows_of_both ps qs) r → (c : K) → Has (keys key r.cells) c → Named r.node c
  both-named r h c i = elim (has-append (map (joined_row qs) ps) (filter (λ (r : FoundRow). not (lists_row ps r.node)) qs) r h) [
    | inr j ↦ inr (r, (filtered (λ (r : FoundRow). not (lists_row ps r.node)) qs r j).0, refl, i)
    | inl j ↦ (let p = has-map (joined_row qs) ps r j in subst (λ (r : FoundRow). Named r.node c) p.2 (of p.0 p.1 (subst (λ (r : FoundRow). Has (keys key r.cells) c) (sym p.2) i)))
  ]
    where
      of : (p : FoundRow) → Has ps p → Has (keys key (cells_of_both p.cells (cells_of_row qs p.node))) c → Named p.node c
      of p k l = elim (other-row p.node) [
        | inr e ↦ inl (p, k, refl, subst (λ ys. Has (keys key ys) c) (ap (cells_of_both p.cells) e ∙ joined-none p.cells) l)
        | inl q ↦ elim (joined-has key on p.cells q.0.cells (zipped p q.0 k q.1 (sym q.2)) c (subst (λ ys. Has (keys key (cells_of_both p.cells ys)) c) q.3 l)) [
          | inl a ↦ inl (p, k, refl, a)
          | inr a ↦ inr (q.0, q.1, q.2, a)
        ]
      ]

  row-once : (r : FoundRow) → Has (rows_of_both ps qs) r → AreDistinct (λ (c : K). c) (keys key r.cells)
  row-once r h = elim (has-append (map (joined_row qs) ps) (filter (λ (r : FoundRow). not (lists_row ps r.node)) qs) r h) [
    | inr j ↦ list_distinct (λ (r : FoundRow). keys key r.cells) (λ (c : K). c) qs r q_keys (filtered (λ (r : FoundRow). not (lists_row ps r.node)) qs r j).0
    | inl j ↦ (let p = has-map (joined_row qs) ps r j in subst (λ (r : FoundRow). AreDistinct (λ (c : K). c) (keys key r.cells)) p.2 (of p.0 p.1))
  ]
    where
      of : (p : FoundRow) → Has ps p → AreDistinct (λ (c : K). c) (keys key (cells_of_both p.cells (cells_of_row qs p.node)))
      of p k = elim (other-row p.node) [
        | inr e ↦ subst (λ ys. AreDistinct (λ (c : K). c) (keys key ys)) (sym (ap (cells_of_both p.cells) e ∙ joined-none p.cells)) (list_distinct (λ (r : FoundRow). keys key r.cells) (λ (c : K). c) ps p p_keys k)
        | inl q ↦ subst (λ ys. AreDistinct (λ (c : K). c) (keys key (cells_of_both p.cells ys))) (sym q.3)
            (joined-once key on p.cells q.0.cells (zipped p q.0 k q.1 (sym q.2)) (list_distinct (λ (r : FoundRow). keys key r.cells) (λ (c : K). c) ps p p_keys k) (list_distinct (λ (r : FoundRow). keys key r.cells) (λ (c : K). c) qs q.0 q_keys q.1)
            (λ a b c u v. (agree p q.0 a b c k q.1 u v).1))
      ]

  filter-once : (p : FoundRow → Bool) (xs : List FoundRow) → AreDistinct (λ (r : FoundRow). r.node) xs → AreDistinct (λ (r : FoundRow). r.node) (filter p xs)
  filter-once p [] d = tt
  filter-once p (x ∷ xs) d = elim (p x) as (λ b. AreDistinct (λ (r : FoundRow). r.node) (cond b (x ∷ filter p xs) (filter p xs))) [
    | true ↦ (has-all (λ (r : FoundRow). r.node ≢ x.node) (filter p xs) (λ r h. all-has (λ (r : FoundRow). r.node ≢ x.node) xs r d.0 (filtered p xs r h).0), filter-once p xs d.1)
    | false ↦ filter-once p xs d.1
  ]

  map-once : (xs : List FoundRow) → AreDistinct (λ (r : FoundRow). r.node) xs → AreDistinct (λ (r : FoundRow). r.node) (map (joined_row qs) xs)
  map-once [] d = tt
  map-once (x ∷ xs) d = (has-all (λ (r : FoundRow). r.node ≢ x.node) (map (joined_row qs) xs) (λ r h. let p = has-map (joined_row qs) xs r h in λ e. all-has (λ (r : FoundRow). r.node ≢ x.node) xs p.0 d.0 p.1 (ap (λ (r : FoundRow). r.node) p.2 ∙ e)), map-once xs d.1)

  pub rows_once_together : AreDistinct (λ (r : FoundRow). r.node) (rows_of_both ps qs)
  rows_once_together = distinct-append (λ (r : FoundRow). r.node) (map (joined_row qs) ps) (filter (λ (r : FoundRow). not (lists_row ps r.node)) qs) (map-once ps ps_once) (filter-once (λ (r : FoundRow). not (lists_row ps r.node)) qs qs_once)
      (λ r q h i e. let p = has-map (joined_row qs) ps r h in let f = filtered (λ (r : FoundRow). not (lists_row ps r.node)) qs q i in
      not-true (lists_row ps q.node) f.1 (has-any (λ (r : FoundRow). same_node r.node q.node) ps p.0 p.1 (ap (λ n. same_node n q.node) (ap (λ (r : FoundRow). r.node) p.2 ∙ sym e) ∙ same_node-itself q.node)))

  -- in the rows of both each name is in one row, and there once
  pub keys_once_together : AreDistinct (λ (c : K). c) (flat_map (λ (r : FoundRow). keys key r.cells) (rows_of_both ps qs))
  keys_once_together = distinct-flat (λ (c : K). c) (λ (r : FoundRow). keys key r.cells) (λ (r : FoundRow). r.node) (rows_of_both ps qs) rows_once_together row-once
      (λ r s c d i j h k e. same r.node s.node c (both-named r i c h) (subst (Named s.node) e (both-named s j d k)))
    where
      at : (xs : List CellView) (c : K) → Has (keys key xs) c → (k : ℕ) × IsNamedAt key xs k c
      at xs c h = has-named key xs c h

      same : (n m : NodeId) (c : K) → Named n c → Named m c → m ≡ n
      same n m c (inl a) (inl b) = sym b.2 ∙ ap (λ (r : FoundRow). r.node) (one_list (λ (r : FoundRow). keys key r.cells) (λ (c : K). c) ps b.0 a.0 c c p_keys b.1 a.1 b.3 a.3 refl) ∙ a.2
      same n m c (inr a) (inr b) = sym b.2 ∙ ap (λ (r : FoundRow). r.node) (one_list (λ (r : FoundRow). keys key r.cells) (λ (c : K). c) qs b.0 a.0 c c q_keys b.1 a.1 b.3 a.3 refl) ∙ a.2
      same n m c (inl a) (inr b) = let u = at a.0.cells c a.3 in let v = at b.0.cells c b.3 in sym b.2 ∙ sym (agree a.0 b.0 u.0 v.0 c a.1 b.1 u.1 v.1).0 ∙ a.2
      same n m c (inr a) (inl b) = let u = at b.0.cells c b.3 in let v = at a.0.cells c a.3 in sym b.2 ∙ (agree b.0 a.0 u.0 v.0 c b.1 a.1 u.1 v.1).0 ∙ a.2
