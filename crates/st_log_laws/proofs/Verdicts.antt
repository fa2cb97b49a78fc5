-- In a sound document each intent has a verdict: whether a node leads up to another is decided by the steps that an intent
-- changes, one after the other.
use Rattle.std.proofs.Common.{◌≡◌, ℕ, zero, suc, Bool, true, false, cond, List, [], ◌∷◌, map, Option, Some, None, is_some, IsSome, refl, sym, ap, ◌∙◌, subst, inl, inr, ◌⊎◌, option_and_then}
use Rattle.std.specs.Ordering.{is_lt, ordering_reverse}
use Rattle.std.specs.declared.cmp.Ordering.{Ordering}
use Rattle.std.specs.declared.cmp.Ordering.TheVariants.{Less, Equal, Greater}
use Rattle.std.specs.Cmp.{IsTotalOrder}
use Rattle.std.proofs.lemmas.Map.Lookups.{CmpEqualImpliesEq}
use Rattle.st_ids.specs.Listing.{Has}
use Rattle.st_ids.specs.Order.{same_node}
use Rattle.st_ids.specs.declared.names.NodeId.{NodeId}
use Rattle.st_ids.specs.declared.names.Rev.{Rev}
use Rattle.st_ids.proofs.Orders.{node_cmp_total, node_cmp_exact, rev_cmp_total, rev_cmp_exact, same_node-true, same_node-itself}
use Rattle.st_marks.specs.declared.intents.Intent.{Intent}
use Rattle.st_marks.specs.declared.intents.Put.{Put}
use Rattle.st_marks.specs.declared.intents.To.{To}
use Rattle.st_marks.specs.declared.verdicts.Verdict.{Verdict}
use Rattle.st_marks.specs.Document.{Document, IsSoundInForm, IsAncestor, IsLive, above, climb, ClimbsToAnEnd, revs, last_of}
use Rattle.st_ids.specs.Root.{root}
use Rattle.st_marks.specs.Intent.{put_of}
use Rattle.st_marks.specs.CarryOut.{full}
use Rattle.st_marks.specs.Verdict.{HasBase, IsBaseInEffect, IsLeast, IsUnmetNeed, IsAboveItself, IsVerdict}
use Rattle.st_marks.proofs.Members.{map-has}
use Rattle.st_marks.proofs.Lookups.{put-has}
use Rattle.st_marks.proofs.Climb.{climb_end, ends_above}
use Rattle.st_marks.proofs.Full.{unput_above}
use Rattle.st_marks.proofs.NoRing.{reaches_above}
use Rattle.st_lemmas.proofs.Bools.{true-false}

-- it holds, or it doesn't
abbrev Decided : Type 0 → Type 0
Decided P = P ⊎ (P → ⊥)

-- ## Names

module _ {K : Type 0} {cmp : K → K → Ordering} (t : IsTotalOrder cmp) (exact : CmpEqualImpliesEq cmp) where
  ties_itself : (x : K) → cmp x x ≡ Equal
  ties_itself x = go (cmp x x) (t.antisymm x x)
    where
      go : (o : Ordering) → o ≡ ordering_reverse o → o ≡ Equal
      go Less e = cc
      go Equal e = refl
      go Greater e = cc

  same_decided : (x y : K) → Decided (x ≡ y)
  same_decided x y = go (cmp x y) refl
    where
      apart : (o : Ordering) → cmp x y ≡ o → (o ≡ Equal → ⊥) → x ≡ y → ⊥
      apart o e unequal q = unequal (sym e ∙ ap (λ z. cmp x z) (sym q) ∙ ties_itself x)

      go : (o : Ordering) → cmp x y ≡ o → Decided (x ≡ y)
      go Less e = inr (apart Less e (λ f. cc))
      go Equal e = inl (exact x y e)
      go Greater e = inr (apart Greater e (λ f. cc))

  has_decided : (xs : List K) (x : K) → Decided (Has xs x)
  has_decided [] x = inr (λ h. absurd h)
  has_decided (y ∷ xs) x = go (same_decided y x) (has_decided xs x)
    where
      go : Decided (y ≡ x) → Decided (Has xs x) → Decided (Has (y ∷ xs) x)
      go (inl e) d = inl (inl e)
      go (inr never) (inl h) = inl (inr h)
      go (inr never) (inr none) = inr (λ h. elim h [ inl e ↦ never e | inr i ↦ none i ])

  -- the least name in a list that has P
  module _ (P : K → Type 0) (decided : (x : K) → Decided (P x)) where
    abbrev IsLeastIn : List K → K → Type 0
    IsLeastIn xs x = P x × ((y : K) → Has xs y → P y → is_lt (cmp y x) ≡ false)

    abbrev LeastOrNone : List K → Type 0
    LeastOrNone xs = ((x : K) × IsLeastIn xs x) ⊎ ((y : K) → Has xs y → P y → ⊥)

    not_before_itself : (x y : K) → x ≡ y → is_lt (cmp y x) ≡ false
    not_before_itself x y e = ap (λ z. is_lt (cmp z x)) (sym e) ∙ ap is_lt (ties_itself x)

    not_both : (x y : K) → cmp x y ≡ Less → is_lt (cmp y x) ≡ false
    not_both x y e = ap is_lt (t.antisymm y x ∙ ap ordering_reverse e)

    -- x comes before the least so far
    before_least : (x l : K) (xs : List K) → cmp x l ≡ Less → P x → IsLeastIn xs l → IsLeastIn (x ∷ xs) x
    before_least x l xs e p h = (p, λ y i q. elim i [ inl s ↦ not_before_itself x y s | inr j ↦ other y (h.1 y j q) (cmp y x) refl ])
      where
        other : (y : K) → is_lt (cmp y l) ≡ false → (o : Ordering) → cmp y x ≡ o → is_lt o ≡ false
        other y not Less f = let bad : is_lt (cmp y l) ≡ true = ap is_lt (t.trans y x l f e) in absurd (true-false bad not)
        other y not Equal f = refl
        other y not Greater f = refl

    not_before : (x l : K) (xs : List K) → is_lt (cmp x l) ≡ false → IsLeastIn xs l → IsLeastIn (x ∷ xs) l
    not_before x l xs e h = (h.0, λ y i q. elim i [ inl s ↦ ap (λ z. is_lt (cmp z l)) (sym s) ∙ e | inr j ↦ h.1 y j q ])

    least_in : (xs : List K) → LeastOrNone xs
    least_in [] = inr (λ y h p. absurd h)
    least_in (x ∷ xs) = go (decided x) (least_in xs)
      where
        against : P x → (l : K) → IsLeastIn xs l → (o : Ordering) → cmp x l ≡ o → LeastOrNone (x ∷ xs)
        against p l h Less e = inl (x, before_least x l xs e p h)
        against p l h Equal e = inl (l, not_before x l xs (ap is_lt e) h)
        against p l h Greater e = inl (l, not_before x l xs (ap is_lt e) h)

        go : Decided (P x) → LeastOrNone xs → LeastOrNone (x ∷ xs)
        go (inl p) (inl l) = against p l.0 l.1 (cmp x l.0) refl
        go (inl p) (inr none) = inl (x, (p, λ y i q. elim i [ inl s ↦ not_before_itself x y s | inr j ↦ absurd (none y j q) ]))
        go (inr never) (inl l) = inl (l.0, (l.1.0, λ y i q. elim i [ inl s ↦ absurd (never (subst P (sym s) q)) | inr j ↦ l.1.1 y j q ]))
        go (inr never) (inr none) = inr (λ y i q. elim i [ inl s ↦ never (subst P (sym s) q) | inr j ↦ none y j q ])

    least_or_none : (xs : List K) → ((x : K) → P x → Has xs x) → ((x : K) × IsLeast cmp P x) ⊎ ((x : K) → P x → ⊥)
    least_or_none xs listed = elim (least_in xs) [
      | inl l ↦ inl (l.0, (l.1.0, λ y q. l.1.1 y (listed y q) q))
      | inr none ↦ inr (λ y q. none y (listed y q) q)
    ]

node_decided : (m n : NodeId) → Decided (m ≡ n)
node_decided = same_decided node_cmp_total node_cmp_exact

-- ## Whether a node leads up to another

abbrev Reaches : (NodeId → Option NodeId) → NodeId → NodeId → Type 0
Reaches up n p = (k : ℕ) × (climb up k n ≡ Some p)

reaches_on : (up : NodeId → Option NodeId) (k : ℕ) (n m p : NodeId) → climb up k n ≡ Some m → Reaches up m p → Reaches up n p
reaches_on up zero n m p e r = let q : n ≡ m = cc in subst (λ x. Reaches up x p) (sym q) r
reaches_on up (suc k) n m p e r = go (up n) refl e (λ x f. reaches_on up k x m p f r)
  where
    go : (o : Option NodeId) → up n ≡ o → option_and_then (climb up k) o ≡ Some m → ((x : NodeId) → climb up k x ≡ Some m → Reaches up x p) → Reaches up n p
    go None h e rest = cc
    go (Some x) h e rest = reaches_above up n x p h (rest x e)

-- where climbing comes to an end
ends_decided : (up : NodeId → Option NodeId) (k : ℕ) (n p : NodeId) → climb up k n ≡ None → Decided (Reaches up n p)
ends_decided up zero n p e = cc
ends_decided up (suc k) n p e = go (node_decided n p) (up n) refl e (λ m f. ends_decided up k m p f)
  where
    go : Decided (n ≡ p) → (o : Option NodeId) → up n ≡ o → option_and_then (climb up k) o ≡ None → ((m : NodeId) → climb up k m ≡ None → Decided (Reaches up m p)) → Decided (Reaches up n p)
    go (inl q) o h e rest = inl (0, ap (λ x. Some x) q)
    go (inr apart) None h e rest = inr (λ r. no r.0 r.1)
      where
        no : (j : ℕ) → climb up j n ≡ Some p → ⊥
        no zero f = apart (let q : n ≡ p = cc in q)
        no (suc j) f = let bad : None ≡ Some p = rw h at f in cc
    go (inr apart) (Some m) h e rest = elim (rest m e) [ inl r ↦ inl (reaches_above up n m p h r) | inr none ↦ inr (λ r. no none r.0 r.1) ]
      where
        no : (Reaches up m p → ⊥) → (j : ℕ) → climb up j n ≡ Some p → ⊥
        no none zero f = apart (let q : n ≡ p = cc in q)
        no none (suc j) f = none (j, rw h at f)

-- one node q, at which climbing stops or goes on
module _ (up : NodeId → Option NodeId) (q : NodeId) where
  abbrev stopped : NodeId → Option NodeId
  stopped n = cond (same_node q n) None (up n)

  not_stopped : (n : NodeId) → (q ≡ n → ⊥) → stopped n ≡ up n
  not_stopped n apart = go (same_node q n) refl
    where
      go : (b : Bool) → same_node q n ≡ b → cond b None (up n) ≡ up n
      go true e = absurd (apart (same_node-true q n e))
      go false e = refl

  goes_on : (k : ℕ) (n p : NodeId) → climb stopped k n ≡ Some p → climb up k n ≡ Some p
  goes_on zero n p e = e
  goes_on (suc k) n p e = go (same_node q n) (up n) refl e (λ m f. goes_on k m p f)
    where
      go : (b : Bool) (o : Option NodeId) → up n ≡ o → option_and_then (climb stopped k) (cond b None o) ≡ Some p → ((m : NodeId) → climb stopped k m ≡ Some p → climb up k m ≡ Some p) → climb up (suc k) n ≡ Some p
      go true o h e rest = cc
      go false None h e rest = cc
      go false (Some m) h e rest = rw h (rest m e)

  -- the way goes through q: to q, and from the node above it on
  record Through (n p : NodeId) : Type 0 where
    first : Reaches stopped n q
    over : NodeId
    step : up q ≡ Some over
    last : Reaches stopped over p

  stops_or_through : (k : ℕ) (n p : NodeId) → climb up k n ≡ Some p → Reaches stopped n p ⊎ Through n p
  stops_or_through zero n p e = inl (0, e)
  stops_or_through (suc k) n p e = go (node_decided q n) (up n) refl e (λ m f. stops_or_through k m p f)
    where
      go : Decided (q ≡ n) → (o : Option NodeId) → up n ≡ o → option_and_then (climb up k) o ≡ Some p → ((m : NodeId) → climb up k m ≡ Some p → Reaches stopped m p ⊎ Through m p) → Reaches stopped n p ⊎ Through n p
      go d None h e rest = cc
      go (inl s) (Some m) h e rest = inr (record { first = (0, ap (λ x. Some x) (sym s)); over = m; step = ap up s ∙ h; last = last (rest m e) })
        where
          last : Reaches stopped m p ⊎ Through m p → Reaches stopped m p
          last (inl r) = r
          last (inr t) =
              let same : t.over ≡ m = let f : Some t.over ≡ Some m = sym t.step ∙ ap up s ∙ h in cc in
              subst (λ x. Reaches stopped x p) same t.last
      go (inr apart) (Some m) h e rest =
          let here : stopped n ≡ Some m = not_stopped n apart ∙ h in
          elim (rest m e) [
            | inl r ↦ inl (reaches_above stopped n m p here r)
            | inr t ↦ inr (record { first = reaches_above stopped n m q here t.first; over = t.over; step = t.step; last = t.last })
          ]

  reaches_up : (n p : NodeId) → Reaches stopped n p → Reaches up n p
  reaches_up n p r = (r.0, goes_on r.0 n p r.1)

  Decided-stopped : ((n p : NodeId) → Decided (Reaches stopped n p)) → (n p : NodeId) → Decided (Reaches up n p)
  Decided-stopped all n p = go (all n p)
    where
      none_through : (Reaches stopped n p → ⊥) → (Through n p → ⊥) → Reaches up n p → ⊥
      none_through stops never r = elim (stops_or_through r.0 n p r.1) [ inl x ↦ stops x | inr t ↦ never t ]

      both : (m : NodeId) → up q ≡ Some m → (Reaches stopped n p → ⊥) → Decided (Reaches stopped n q) → Decided (Reaches stopped m p) → Decided (Reaches up n p)
      both m h stops (inl a) (inl b) = let r = reaches_up n q a in inl (reaches_on up r.0 n q p r.1 (reaches_above up q m p h (reaches_up m p b)))
      both m h stops (inr a) d = inr (none_through stops (λ t. a t.first))
      both m h stops (inl a) (inr b) = inr (none_through stops (λ t. b (subst (λ x. Reaches stopped x p) (let f : Some t.over ≡ Some m = sym t.step ∙ h in let s : t.over ≡ m = cc in s) t.last)))

      on : (o : Option NodeId) → up q ≡ o → (Reaches stopped n p → ⊥) → Decided (Reaches up n p)
      on None h stops = inr (none_through stops (λ t. let f : None ≡ Some t.over = sym h ∙ t.step in cc))
      on (Some m) h stops = both m h stops (all n q) (all m p)

      go : Decided (Reaches stopped n p) → Decided (Reaches up n p)
      go (inl r) = inl (reaches_up n p r)
      go (inr never) = on (up q) refl never

-- climbing stops at each of these nodes
abbrev stopped_at : (NodeId → Option NodeId) → List NodeId → NodeId → Option NodeId
stopped_at up [] n = up n
stopped_at up (q ∷ qs) n = cond (same_node q n) None (stopped_at up qs n)

all_decided : (up : NodeId → Option NodeId) (qs : List NodeId) → ((n p : NodeId) → Decided (Reaches (λ m. stopped_at up qs m) n p)) → (n p : NodeId) → Decided (Reaches up n p)
all_decided up [] h = h
all_decided up (q ∷ qs) h = all_decided up qs (Decided-stopped (λ m. stopped_at up qs m) q h)

stops_there : (up : NodeId → Option NodeId) (qs : List NodeId) (n : NodeId) → Has qs n → stopped_at up qs n ≡ None
stops_there up [] n h = absurd h
stops_there up (q ∷ qs) n (inl e) = rw (ap (λ x. same_node x n) e ∙ same_node-itself n) refl
stops_there up (q ∷ qs) n (inr h) = elim (same_node q n) as (λ b. cond b None (stopped_at up qs n) ≡ None) [ true ↦ refl | false ↦ stops_there up qs n h ]

stops_or_not : (up : NodeId → Option NodeId) (qs : List NodeId) (n : NodeId) → (stopped_at up qs n ≡ None) ⊎ (stopped_at up qs n ≡ up n)
stops_or_not up [] n = inr refl
stops_or_not up (q ∷ qs) n = elim (same_node q n) as (λ b. (cond b None (stopped_at up qs n) ≡ None) ⊎ (cond b None (stopped_at up qs n) ≡ up n)) [ true ↦ inl refl | false ↦ stops_or_not up qs n ]

-- where each step that doesn't stop is one of `base`, climbing comes to an end
ends_too : (f base : NodeId → Option NodeId) → ((n : NodeId) → (f n ≡ None) ⊎ (f n ≡ base n)) → (k : ℕ) (n : NodeId) → climb base k n ≡ None → ClimbsToAnEnd f n
ends_too f base follows zero n e = cc
ends_too f base follows (suc k) n e = go (f n) refl (λ m g. ends_too f base follows k m g)
  where
    go : (o : Option NodeId) → f n ≡ o → ((m : NodeId) → climb base k m ≡ None → ClimbsToAnEnd f m) → ClimbsToAnEnd f n
    go None h rest = climb_end f n h
    go (Some m) h rest = ends_above f n m h (rest m (on (follows n)))
      where
        on : (f n ≡ None) ⊎ (f n ≡ base n) → climb base k m ≡ None
        on (inl g) = let bad : Some m ≡ None = sym h ∙ g in cc
        on (inr g) = let here : base n ≡ Some m = sym g ∙ h in rw here at e

-- ## The verdict

module _ (D : Document) (N : Intent) (s : IsSoundInForm D) where
  abbrev put_nodes : List NodeId
  put_nodes = map (λ (p : Put). p.node) N.put

  put_listed : (n : NodeId) → IsSome (put_of N n) → Has put_nodes n
  put_listed n h = go (put_of N n) refl h
    where
      go : (o : Option To) → put_of N n ≡ o → IsSome o → Has put_nodes n
      go None e h = cc
      go (Some to) e h = map-has (λ (p : Put). p.node) N.put (record { node = n; to = to }) (put-has N n to e)

  abbrev stopped_up : NodeId → Option NodeId
  stopped_up n = stopped_at (above (full D N)) put_nodes n

  follows : (n : NodeId) → (stopped_up n ≡ None) ⊎ (stopped_up n ≡ above D n)
  follows n = go (put_of N n) refl
    where
      unput : (stopped_up n ≡ None) ⊎ (stopped_up n ≡ above (full D N) n) → (above (full D N) n ≡ None) ⊎ (above (full D N) n ≡ above D n) → (stopped_up n ≡ None) ⊎ (stopped_up n ≡ above D n)
      unput (inl a) b = inl a
      unput (inr a) (inl b) = inl (a ∙ b)
      unput (inr a) (inr b) = inr (a ∙ b)

      go : (o : Option To) → put_of N n ≡ o → (stopped_up n ≡ None) ⊎ (stopped_up n ≡ above D n)
      go None e = unput (stops_or_not (above (full D N)) put_nodes n) (unput_above D N n e)
      go (Some to) e = inl (stops_there (above (full D N)) put_nodes n (put_listed n (ap is_some e)))

  reaches_decided : (n p : NodeId) → Decided (Reaches (above (full D N)) n p)
  reaches_decided = all_decided (above (full D N)) put_nodes (λ n p.
      let a = s.no_ring n in
      let e = ends_too stopped_up (above D) follows a.0 n a.1 in
      ends_decided stopped_up e.0 n p e.1)

  ancestor_decided : (n : NodeId) → Decided (IsAncestor (full D N) n n)
  ancestor_decided n = go (above (full D N) n) refl
    where
      go : (o : Option NodeId) → above (full D N) n ≡ o → Decided (IsAncestor (full D N) n n)
      go None h = inr (λ a. let bad : None ≡ Some n = rw h at a.1 in cc)
      go (Some m) h = elim (reaches_decided m n) [ inl r ↦ inl (r.0, rw h r.1) | inr never ↦ inr (λ a. never (a.0, rw h at a.1)) ]

  above_itself_decided : (n : NodeId) → Decided (IsAboveItself D N n)
  above_itself_decided n = go (put_of N n) refl (ancestor_decided n)
    where
      go : (o : Option To) → put_of N n ≡ o → Decided (IsAncestor (full D N) n n) → Decided (IsAboveItself D N n)
      go None e d = inr (λ h. true-false h.0 (ap is_some e))
      go (Some to) e (inl a) = inl (ap is_some e, a)
      go (Some to) e (inr never) = inr (λ h. never h.1)

  live_decided : (n : NodeId) → Decided (IsLive D n)
  live_decided n = let a = s.no_ring n in ends_decided (above D) a.0 n root a.1

  unmet_decided : (n : NodeId) → Decided (IsUnmetNeed D N n)
  unmet_decided n = go (has_decided node_cmp_total node_cmp_exact N.need n) (live_decided n)
    where
      go : Decided (Has N.need n) → Decided (IsLive D n) → Decided (IsUnmetNeed D N n)
      go (inr never) l = inr (λ h. never h.0)
      go (inl h) (inl l) = inr (λ u. u.1 l)
      go (inl h) (inr dead) = inl (h, dead)

  last_decided : (o : Option Rev) (r : Rev) → Decided (o ≡ Some r)
  last_decided None r = inr (λ e. cc)
  last_decided (Some q) r = elim (same_decided rev_cmp_total rev_cmp_exact q r) [ inl e ↦ inl (ap (λ x. Some x) e) | inr never ↦ inr (λ e. never (let s : q ≡ r = cc in s)) ]

  base_decided : Decided (IsBaseInEffect D N)
  base_decided = go N.schema
    where
      go : (o : Option (List ℕ)) → Decided (HasBase D.schemas o N.under)
      go None = has_decided rev_cmp_total rev_cmp_exact (revs D.schemas) N.under
      go (Some text) = last_decided (last_of (revs D.schemas)) N.under

  pub has_verdict : (v : Verdict) × IsVerdict D N v
  has_verdict = go base_decided
    where
      rings : IsBaseInEffect D N → ((m : NodeId) → IsUnmetNeed D N m → ⊥) → (v : Verdict) × IsVerdict D N v
      rings b met = elim (least_or_none node_cmp_total node_cmp_exact (IsAboveItself D N) above_itself_decided put_nodes (λ n h. put_listed n h.0)) [
        | inl l ↦ (Verdict.Cycle l.0, (b, met, l.1))
        | inr none ↦ (Verdict.Sound, (b, met, none))
      ]

      needs : IsBaseInEffect D N → (v : Verdict) × IsVerdict D N v
      needs b = elim (least_or_none node_cmp_total node_cmp_exact (IsUnmetNeed D N) unmet_decided N.need (λ n h. h.0)) [
        | inl l ↦ (Verdict.Need l.0, (b, l.1))
        | inr met ↦ rings b met
      ]

      go : Decided (IsBaseInEffect D N) → (v : Verdict) × IsVerdict D N v
      go (inl b) = needs b
      go (inr never) = (Verdict.Schema N.under, (refl, never))
