-- Whether a schema is in effect, a node live, a node above itself, and which node is the least.
use Rattle.std.proofs.Common.{◌≡◌, ◌↔◌, ℕ, zero, suc, ◌-◌, Bool, true, false, cond, not, List, [], ◌∷◌, ◌++◌, length, map, Option, Some, None, IsSome, refl, sym, ap, ◌∙◌, subst, arith, inl, inr, ◌⊎◌, option_map, unwrap_or, is_some}
use Rattle.std.specs.List.{list_any, last_or, slice_get}
use Rattle.std.specs.Option.{option_map_or}
use Rattle.std.specs.Ordering.{is_lt}
use Rattle.std.specs.BTreeMap.{BTreeMap, get}
use Rattle.std.proofs.lemmas.Cmp.{tied_itself}
use Rattle.st_ids.specs.Listing.{Has}
use Rattle.st_ids.specs.Order.{same_rev, node_cmp, same_node}
use Rattle.st_ids.specs.declared.names.NodeId.{NodeId}
use Rattle.st_ids.specs.declared.names.Rev.{Rev}
use Rattle.st_ids.proofs.Orders.{node_cmp_total, same_node-itself, same_rev-itself, same_rev-true}
use Rattle.st_marks.specs.declared.intents.Intent.{Intent}
use Rattle.st_marks.specs.declared.intents.Put.{Put}
use Rattle.st_marks.specs.declared.intents.To.{To}
use Rattle.st_marks.specs.declared.places.Spot.{Spot}
use Rattle.st_marks.specs.declared.schemas.SchemaEntry.{SchemaEntry}
use Rattle.st_marks.specs.Document.{Document, last_of, revs, above, climb, node_of, IsLive, Reaches}
use Rattle.st_ids.specs.Root.{root}
use Rattle.st_marks.specs.Intent.{put_of}
use Rattle.st_marks.specs.CarryOut.{full, with_names, spot_of, unless_cleared, place_after}
use Rattle.st_marks.specs.Verdict.{IsLeast}
use Rattle.st_marks.proofs.Members.{any-has, has-any, map-has, has-map, has-append, append_left, append_right}
use Rattle.st_marks.proofs.Lookups.{put-has}
use Rattle.st_doc.specs.inside.Ahead.{IsLeastOf, least_with, above_ahead, place_ahead}
use Rattle.st_intent.proofs.Scans.{is_some-find}
use Rattle.st_lemmas.proofs.Orders.{is_lt-Less}
use Rattle.st_lemmas.proofs.Options.{is_some-option_map}

-- ## Schemas

pub among_revs : (es : List SchemaEntry) (r : Rev) → (list_any (λ (e : SchemaEntry). same_rev e.rev r) es ≡ true) ↔ Has (revs es) r
among_revs es r = (
  λ e. let h = any-has (λ (e : SchemaEntry). same_rev e.rev r) es e in subst (Has (revs es)) (same_rev-true h.0.rev r h.2) (map-has (λ (e : SchemaEntry). e.rev) es h.0 h.1),
  λ e. let h = has-map (λ (e : SchemaEntry). e.rev) es r e in has-any (λ (e : SchemaEntry). same_rev e.rev r) es h.0 h.1 (ap (same_rev h.0.rev) (sym h.2) ∙ same_rev-itself h.0.rev),
)

pub last_read : {A : Type 0} (x : A) (xs : List A) (k : ℕ) → k ≡ length xs → slice_get (x ∷ xs) k ≡ last_or (Some x) xs
last_read x [] k e = rw e refl
last_read x (y ∷ ys) k e = rw e (last_read y ys (length ys) refl)

pub last_map : {A B : Type 0} (f : A → B) (x : A) (xs : List A) → last_or (Some (f x)) (map f xs) ≡ option_map f (last_or (Some x) xs)
last_map f x [] = refl
last_map f x (y ∷ ys) = last_map f y ys

pub last_rev : (es : List SchemaEntry) (r : Rev) → (option_map_or (λ (e : SchemaEntry). same_rev e.rev r) (slice_get es (length es - 1)) false ≡ true) ↔ (last_of (revs es) ≡ Some r)
last_rev [] r = (λ e. cc, λ e. cc)
last_rev (x ∷ xs) r =
    let read : slice_get (x ∷ xs) (length (x ∷ xs) - 1) ≡ last_or (Some x) xs = last_read x xs (length (x ∷ xs) - 1) (omega arith) in
    rw (read, last_map (λ (e : SchemaEntry). e.rev) x xs) (go (last_or (Some x) xs))
  where
    go : (o : Option SchemaEntry) → (option_map_or (λ (e : SchemaEntry). same_rev e.rev r) o false ≡ true) ↔ (option_map (λ (e : SchemaEntry). e.rev) o ≡ Some r)
    go None = (λ e. cc, λ e. cc)
    go (Some e) = (λ h. ap (λ q. Some q) (same_rev-true e.rev r h), λ h. let s : e.rev ≡ r = cc in ap (same_rev e.rev) (sym s) ∙ same_rev-itself e.rev)

-- ## The node above

-- the places ahead are those of the document carried out whole
pub above_is : (D : Document) (N : Intent) (targets place : BTreeMap NodeId Spot) (n : NodeId)
    → get node_cmp targets n ≡ option_map (spot_of (with_names D N).row_of) (put_of N n) → unwrap_or (get node_cmp place n) Spot.Nowhere ≡ D.place n
    → above_ahead N targets place n ≡ above (full D N) n
above_is D N targets place n e h = (λ i. node_of (place_ahead N (e i) (h i))) ∙ go (put_of N n)
  where
    go : (to : Option To) → node_of (place_ahead N (option_map (spot_of (with_names D N).row_of) to) (D.place n)) ≡ node_of (place_after (with_names D N).row_of N to (D.place n))
    go None = refl
    go (Some to) = refl

-- where nothing is wanted they are those of the document
pub above_now : (D : Document) (N : Intent) (targets place : BTreeMap NodeId Spot) (n : NodeId) → N.clear ≡ [] → get node_cmp targets n ≡ None → unwrap_or (get node_cmp place n) Spot.Nowhere ≡ D.place n
    → above_ahead N targets place n ≡ above D n
above_now D N targets place n none e h = (λ i. node_of (place_ahead N (e i) (h i))) ∙ go (D.place n)
  where
    go : (s : Spot) → node_of (unless_cleared N s) ≡ node_of s
    go Spot.Nowhere = refl
    go (Spot.Row m c) = refl
    go (Spot.Register f) = rw none refl

pub live_reaches : (D : Document) (n : NodeId) → (n ≡ root → ⊥) → IsLive D n ↔ Reaches (above D) n root
live_reaches D n apart = (λ h. go h.0 h.1, λ h. (suc h.0, h.1))
  where
    go : (k : ℕ) → climb (above D) k n ≡ Some root → Reaches (above D) n root
    go zero e = absurd (apart (let s : Some n ≡ Some root = e in cc))
    go (suc k) e = (k, e)

-- ## Puts

pub put_among : (N : Intent) (n : NodeId) → Has (map (λ (p : Put). p.node) N.put) n ↔ IsSome (put_of N n)
put_among N n = (
  λ h. let p = has-map (λ (p : Put). p.node) N.put n h in
      to_some (is_some-option_map (λ (p : Put). p.to) _ ∙ is_some-find (λ (p : Put). same_node p.node n) N.put ∙ has-any (λ (p : Put). same_node p.node n) N.put p.0 p.1 (ap (same_node p.0.node) (sym p.2) ∙ same_node-itself p.0.node)),
  λ h. from (put_of N n) refl h,
)
  where
    to_some : is_some (put_of N n) ≡ true → IsSome (put_of N n)
    to_some e = e

    from : (o : Option To) → put_of N n ≡ o → IsSome o → Has (map (λ (p : Put). p.node) N.put) n
    from None e h = absurd (let s : is_some {T = To} None ≡ true = h in cc)
    from (Some to) e h = map-has (λ (p : Put). p.node) N.put (record { node = n; to = to }) (put-has N n to e)

-- ## The least

pub least_from : (P Q : NodeId → Type 0) (o : Option NodeId) → ((n : NodeId) → P n → Q n) → ((n : NodeId) → Q n → P n) → IsLeastOf P o → IsLeastOf Q o
least_from P Q None to from h = λ m q. h m (from m q)
least_from P Q (Some n) to from h = (to n h.0, λ m q. h.1 m (from m q))

-- a node is not before itself, and of two that are not before one another neither hides a third
pub not_before_itself : (n : NodeId) → is_lt (node_cmp n n) ≡ false
not_before_itself n = ap is_lt (tied_itself node_cmp_total n)

still_not_before : (m x n : NodeId) → is_lt (node_cmp x n) ≡ true → is_lt (node_cmp m n) ≡ false → is_lt (node_cmp m x) ≡ false
still_not_before m x n less above = go (is_lt (node_cmp m x)) refl
  where
    go : (b : Bool) → is_lt (node_cmp m x) ≡ b → is_lt (node_cmp m x) ≡ false
    go false e = e
    go true e =
        let through : is_lt (node_cmp m n) ≡ true = ap is_lt (node_cmp_total.trans m x n (is_lt-Less _ e) (is_lt-Less _ less)) in
        absurd (let bad : true ≡ false = sym through ∙ above in cc)

-- the least so far and one more node
module _ (Q : NodeId → Type 0) (xs : List NodeId) (x : NodeId) where
  abbrev Before : NodeId → Type 0
  Before n = Has xs n × Q n

  abbrev After : NodeId → Type 0
  After n = Has (xs ++ x ∷ []) n × Q n

  split : (n : NodeId) → Has (xs ++ x ∷ []) n → Has xs n ⊎ (x ≡ n)
  split n h = elim (has-append xs (x ∷ []) n h) [ inl k ↦ inl k | inr k ↦ elim k [ inl e ↦ inr e | inr f ↦ absurd f ] ]

  uncounted : (Q x → ⊥) → (o : Option NodeId) → IsLeastOf Before o → IsLeastOf After o
  uncounted never o h = least_from Before After o (λ n b. (append_left xs (x ∷ []) n b.0, b.1)) (λ n a. back n a (split n a.0)) h
    where
      back : (n : NodeId) → After n → Has xs n ⊎ (x ≡ n) → Before n
      back n a (inl k) = (k, a.1)
      back n a (inr e) = absurd (never (subst Q (sym e) a.1))

  least_itself : Q x → ((m : NodeId) → Before m → is_lt (node_cmp m x) ≡ false) → IsLeast node_cmp After x
  least_itself q h = ((append_right xs (x ∷ []) x (inl refl), q), λ m a. go m a (split m a.0))
    where
      go : (m : NodeId) → After m → Has xs m ⊎ (x ≡ m) → is_lt (node_cmp m x) ≡ false
      go m a (inl k) = h m (k, a.1)
      go m a (inr e) = ap (λ y. is_lt (node_cmp y x)) (sym e) ∙ not_before_itself x

  counted : Q x → (o : Option NodeId) → IsLeastOf Before o → IsLeastOf After (least_with o x true)
  counted q None h = least_itself q (λ m b. absurd (h m b))
  counted q (Some n) h = go (is_lt (node_cmp x n)) refl
    where
      go : (b : Bool) → is_lt (node_cmp x n) ≡ b → IsLeastOf After (cond b (Some x) (Some n))
      go true e = least_itself q (λ m b. still_not_before m x n e (h.1 m b))
      go false e = ((append_left xs (x ∷ []) n h.0.0, h.0.1), λ m a. all m a (split m a.0))
        where
          all : (m : NodeId) → After m → Has xs m ⊎ (x ≡ m) → is_lt (node_cmp m n) ≡ false
          all m a (inl k) = h.1 m (k, a.1)
          all m a (inr p) = ap (λ y. is_lt (node_cmp y n)) (sym p) ∙ e

  pub least_more : (counts : Bool) → ((counts ≡ true) ↔ Q x) → (o : Option NodeId) → IsLeastOf Before o → IsLeastOf After (least_with o x counts)
  least_more true tells o h = counted (tells.0 refl) o h
  least_more false tells o h = uncounted (λ q. let bad : false ≡ true = tells.1 q in cc) o h

-- not of a test, where the test tells a fact
pub not_tells : (b : Bool) (P : Type 0) → ((b ≡ true) ↔ P) → (not b ≡ true) ↔ (P → ⊥)
not_tells true P h = (λ e. cc, λ never. absurd (never (h.0 refl)))
not_tells false P h = (λ e p. let bad : false ≡ true = h.1 p in cc, λ never. refl)
