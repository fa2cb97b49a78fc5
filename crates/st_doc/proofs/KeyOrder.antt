-- The registers of one node among all, in the order of their keys.
use Rattle.std.proofs.Common.{◌≡◌, ℕ, zero, suc, Bool, true, false, cond, ◌&&◌, List, [], ◌∷◌, drop, map, Option, Some, None, is_some, refl, sym, ap, ◌∙◌, inl, inr}
use Rattle.std.specs.List.{AllByRecursion, cons_option}
use Rattle.std.specs.List.Sorted.{IsStrictlySortedBy}
use Rattle.std.specs.Map.{lookup}
use Rattle.std.specs.Ordering.{nat_cmp, is_eq, is_lt, ordering_then}
use Rattle.std.specs.Cmp.Lexicographic.{slice_cmp}
use Rattle.std.specs.declared.cmp.Ordering.{Ordering}
use Rattle.std.specs.declared.cmp.Ordering.TheVariants.{Less, Equal}
use Rattle.std.specs.FinMap.Entries.{is_sorted, below_all}
use Rattle.std.proofs.lemmas.Cmp.{tied_itself}
use Rattle.std.proofs.lemmas.Map.Keys.{sorted_head, sorted_tail}
use Rattle.std.proofs.lemmas.Map.Lookups.{exact_bytes}
use Rattle.st_ids.specs.Listing.{Has, IsRising, item_of, key_pairs}
use Rattle.st_ids.specs.Order.{node_cmp, field_cmp, same_node}
use Rattle.st_ids.specs.declared.names.FieldId.{FieldId}
use Rattle.st_ids.specs.declared.names.NodeId.{NodeId}
use Rattle.st_ids.proofs.Orders.{same_node-true, same_node-itself, field_cmp_exact, field_cmp_total, node_cmp_total, is_eq_equal}
use Rattle.st_marks.specs.LiveTree.{register}
use Rattle.st_marks.proofs.Members.{all-has, has-all}
use Rattle.st_doc.specs.inside.LiveText.{seat_at, seats_of, KeysRise}
use Rattle.st_doc.specs.declared.seats.Seat.{Seat}

abbrev bytes_cmp : List ℕ → List ℕ → Ordering
bytes_cmp = slice_cmp nat_cmp

abbrev keys_of : List Seat → List (List ℕ)
keys_of ss = map (λ (s : Seat). s.key) ss

-- a register of the node comes from an entry
seat_from : (n : NodeId) (e : FieldId × NodeId) (s : Seat) → seat_at n e ≡ Some s → (e.0 ≡ register n s.key) × (e.1 ≡ s.node)
seat_from n e s f = go (same_node e.0.node n) refl f
  where
    go : (b : Bool) → same_node e.0.node n ≡ b → cond b (Some (record { key = e.0.key.0; node = e.1 })) None ≡ Some s → (e.0 ≡ register n s.key) × (e.1 ≡ s.node)
    go true p f =
        let q : record { key = e.0.key.0; node = e.1 } ≡ s = cc in
        ((λ i. record { node = same_node-true e.0.node n p i; key = record { 0 = (q i).key } }), ap (λ (s : Seat). s.node) q)
    go false p f = cc

-- each register of the node is in an entry
seats_from : (n : NodeId) (es : List (FieldId × NodeId)) (s : Seat) → Has (seats_of n es) s → Has (map (λ e. e.0) es) (register n s.key)
seats_from n [] s h = absurd h
seats_from n (e ∷ es) s h = go (seat_at n e) refl (λ k. seats_from n es s k) h
  where
    go : (o : Option Seat) → seat_at n e ≡ o → (Has (seats_of n es) s → Has (map (λ e. e.0) es) (register n s.key)) → Has (cons_option o (seats_of n es)) s → Has (map (λ e. e.0) (e ∷ es)) (register n s.key)
    go None p rest k = inr (rest k)
    go (Some t) p rest (inl q) = inl ((seat_from n e t p).0 ∙ ap (λ (s : Seat). register n s.key) q)
    go (Some t) p rest (inr k) = inr (rest k)

-- of one node's registers the keys are compared
by_key : (n : NodeId) (k l : List ℕ) → field_cmp (register n k) (register n l) ≡ Less → bytes_cmp k l ≡ Less
by_key n k l e = ap (λ o. ordering_then o (bytes_cmp k l)) (sym (tied_itself node_cmp_total n)) ∙ e

pub keys_rise : (n : NodeId) (es : List (FieldId × NodeId)) → IsStrictlySortedBy field_cmp (map (λ e. e.0) es) → KeysRise (seats_of n es)
keys_rise n [] h = tt
keys_rise n (e ∷ es) h = go (seat_at n e) refl (keys_rise n es (sorted_tail field_cmp e.0 (map (λ e. e.0) es) h))
  where
    go : (o : Option Seat) → seat_at n e ≡ o → KeysRise (seats_of n es) → KeysRise (cons_option o (seats_of n es))
    go None p rest = rest
    go (Some s) p rest = (
      has-all (λ (t : Seat). bytes_cmp s.key t.key ≡ Less) (seats_of n es) (λ t k.
          let below = all-has (λ y. field_cmp e.0 y ≡ Less) (map (λ e. e.0) es) (register n t.key) (sorted_head field_cmp e.0 (map (λ e. e.0) es) h) (seats_from n es t k) in
          by_key n s.key t.key (ap (λ f. field_cmp f (register n t.key)) (sym (seat_from n e s p).0) ∙ below)),
      rest,
    )

-- the same as a listing of the keys
below_is : (k : List ℕ) (ss : List Seat) → AllByRecursion (λ (t : Seat). bytes_cmp k t.key ≡ Less) ss → below_all bytes_cmp k (key_pairs (λ (k : List ℕ). k) (keys_of ss)) ≡ true
below_is k [] h = refl
below_is k (s ∷ ss) h = ap (λ o. is_lt o && below_all bytes_cmp k (key_pairs (λ (k : List ℕ). k) (keys_of ss))) h.0 ∙ below_is k ss h.1

pub keys_rising : (ss : List Seat) → KeysRise ss → IsRising bytes_cmp (λ (k : List ℕ). k) (keys_of ss)
keys_rising [] h = refl
keys_rising (s ∷ ss) h = ap (λ b. b && is_sorted bytes_cmp (key_pairs (λ (k : List ℕ). k) (keys_of ss))) (below_is s.key ss h.0) ∙ keys_rising ss h.1

pub keys_found : (n : NodeId) (es : List (FieldId × NodeId)) (k : List ℕ)
    → item_of bytes_cmp (λ (k : List ℕ). k) (keys_of (seats_of n es)) k ≡ cond (is_some (lookup (λ q. is_eq (field_cmp (register n k) q)) es)) (Some k) None
keys_found n [] k = refl
keys_found n (e ∷ es) k = go (same_node e.0.node n) refl (keys_found n es k)
  where
    rest_found : Option (List ℕ)
    rest_found = cond (is_some (lookup (λ q. is_eq (field_cmp (register n k) q)) es)) (Some k) None

    found : (b : Bool) → is_eq (bytes_cmp k e.0.key.0) ≡ b → (o : Option (List ℕ)) → o ≡ cond (is_some (lookup (λ q. is_eq (field_cmp (register n k) q)) es)) (Some k) None
        → cond b (Some e.0.key.0) o ≡ cond (is_some (cond b (Some e.1) (lookup (λ q. is_eq (field_cmp (register n k) q)) es))) (Some k) None
    found true p o r = ap (λ x. Some x) (sym (exact_bytes k e.0.key.0 (is_eq_equal _ p)))
    found false p o r = r

    go : (b : Bool) → same_node e.0.node n ≡ b → item_of bytes_cmp (λ (k : List ℕ). k) (keys_of (seats_of n es)) k ≡ cond (is_some (lookup (λ q. is_eq (field_cmp (register n k) q)) es)) (Some k) None
        → item_of bytes_cmp (λ (k : List ℕ). k) (keys_of (cons_option (cond b (Some (record { key = e.0.key.0; node = e.1 })) None) (seats_of n es))) k
        ≡ cond (is_some (cond (is_eq (field_cmp (register n k) e.0)) (Some e.1) (lookup (λ q. is_eq (field_cmp (register n k) q)) es))) (Some k) None
    go true p rest =
        let same : is_eq (field_cmp (register n k) e.0) ≡ is_eq (bytes_cmp k e.0.key.0) =
        ap (λ m. is_eq (ordering_then (node_cmp n m) (bytes_cmp k e.0.key.0))) (same_node-true e.0.node n p) ∙ ap (λ o. is_eq (ordering_then o (bytes_cmp k e.0.key.0))) (tied_itself node_cmp_total n) in
        found (is_eq (bytes_cmp k e.0.key.0)) refl (item_of bytes_cmp (λ (k : List ℕ). k) (keys_of (seats_of n es)) k) rest
        ∙ ap (λ b. cond (is_some (cond b (Some e.1) (lookup (λ q. is_eq (field_cmp (register n k) q)) es))) (Some k) None) (sym same)
    go false p rest = rest ∙ ap (λ b. cond (is_some (cond b (Some e.1) (lookup (λ q. is_eq (field_cmp (register n k) q)) es))) (Some k) None) (sym (apart (is_eq (field_cmp (register n k) e.0)) refl))
      where
        apart : (c : Bool) → is_eq (field_cmp (register n k) e.0) ≡ c → is_eq (field_cmp (register n k) e.0) ≡ false
        apart false q = q
        apart true q =
            let same = field_cmp_exact (register n k) e.0 (is_eq_equal _ q) in
            let bad : ◌≡◌ {A = Bool} true false = sym (same_node-itself n) ∙ ap (λ (f : FieldId). same_node f.node n) same ∙ p in cc

-- a register of the node holds what its entry says
pub seat_held : (n : NodeId) (es : List (FieldId × NodeId)) → IsStrictlySortedBy field_cmp (map (λ e. e.0) es)
    → AllByRecursion (λ (s : Seat). lookup (λ q. is_eq (field_cmp (register n s.key) q)) es ≡ Some s.node) (seats_of n es)
seat_held n es h = has-all (λ (s : Seat). lookup (λ q. is_eq (field_cmp (register n s.key) q)) es ≡ Some s.node) (seats_of n es) (one es h)
  where
    one : (es : List (FieldId × NodeId)) → IsStrictlySortedBy field_cmp (map (λ e. e.0) es) → (s : Seat) → Has (seats_of n es) s → lookup (λ q. is_eq (field_cmp (register n s.key) q)) es ≡ Some s.node
    one [] h s k = absurd k
    one (e ∷ es) h s k = go (seat_at n e) refl (one es (sorted_tail field_cmp e.0 (map (λ e. e.0) es) h) s) k
      where
        later : Has (seats_of n es) s → is_eq (field_cmp (register n s.key) e.0) ≡ false
        later k = apart (is_eq (field_cmp (register n s.key) e.0)) refl
          where
            apart : (c : Bool) → is_eq (field_cmp (register n s.key) e.0) ≡ c → is_eq (field_cmp (register n s.key) e.0) ≡ false
            apart false q = q
            apart true q =
                let same = field_cmp_exact (register n s.key) e.0 (is_eq_equal _ q) in
                let below = all-has (λ y. field_cmp e.0 y ≡ Less) (map (λ e. e.0) es) (register n s.key) (sorted_head field_cmp e.0 (map (λ e. e.0) es) h) (seats_from n es s k) in
                let bad : Equal ≡ Less = sym (tied_itself field_cmp_total e.0) ∙ ap (field_cmp e.0) (sym same) ∙ below in cc

        go : (o : Option Seat) → seat_at n e ≡ o → (Has (seats_of n es) s → lookup (λ q. is_eq (field_cmp (register n s.key) q)) es ≡ Some s.node) → Has (cons_option o (seats_of n es)) s
            → cond (is_eq (field_cmp (register n s.key) e.0)) (Some e.1) (lookup (λ q. is_eq (field_cmp (register n s.key) q)) es) ≡ Some s.node
        go None p rest k = ap (λ b. cond b (Some e.1) (lookup (λ q. is_eq (field_cmp (register n s.key) q)) es)) (later k) ∙ rest k
        go (Some t) p rest (inr k) = ap (λ b. cond b (Some e.1) (lookup (λ q. is_eq (field_cmp (register n s.key) q)) es)) (later k) ∙ rest k
        go (Some t) p rest (inl q) =
            let f = seat_from n e t p in
            let here : is_eq (field_cmp (register n s.key) e.0) ≡ true =
            ap (λ g. is_eq (field_cmp (register n s.key) g)) (f.0 ∙ ap (λ (s : Seat). register n s.key) q) ∙ ap is_eq (tied_itself field_cmp_total (register n s.key)) in
            ap (λ b. cond b (Some e.1) (lookup (λ q. is_eq (field_cmp (register n s.key) q)) es)) here ∙ ap (λ x. Some x) (f.1 ∙ ap (λ (s : Seat). s.node) q)

pub rise_drop : (i : ℕ) (ss : List Seat) → KeysRise ss → KeysRise (drop i ss)
rise_drop zero ss h = h
rise_drop (suc i) [] h = h
rise_drop (suc i) (s ∷ ss) h = rise_drop i ss h.1

-- a register that holds something is among the node's
pub seat_there : (n : NodeId) (es : List (FieldId × NodeId)) (k : List ℕ) (m : NodeId) → lookup (λ q. is_eq (field_cmp (register n k) q)) es ≡ Some m → (s : Seat) × Has (seats_of n es) s × (s.key ≡ k)
seat_there n [] k m f = cc
seat_there n (e ∷ es) k m f = go (is_eq (field_cmp (register n k) e.0)) refl (λ g. seat_there n es k m g) f
  where
    later : (o : Option Seat) → (s : Seat) × Has (seats_of n es) s × (s.key ≡ k) → (s : Seat) × Has (cons_option o (seats_of n es)) s × (s.key ≡ k)
    later None r = r
    later (Some t) r = (r.0, inr r.1, r.2)

    go : (b : Bool) → is_eq (field_cmp (register n k) e.0) ≡ b → (lookup (λ q. is_eq (field_cmp (register n k) q)) es ≡ Some m → (s : Seat) × Has (seats_of n es) s × (s.key ≡ k))
        → cond b (Some e.1) (lookup (λ q. is_eq (field_cmp (register n k) q)) es) ≡ Some m → (s : Seat) × Has (cons_option (seat_at n e) (seats_of n es)) s × (s.key ≡ k)
    go true p rest f =
        let same = field_cmp_exact (register n k) e.0 (is_eq_equal _ p) in
        let here : same_node e.0.node n ≡ true = ap (λ (f : FieldId). same_node f.node n) (sym same) ∙ same_node-itself n in
        rw here (record { key = e.0.key.0; node = e.1 }, inl refl, ap (λ (f : FieldId). f.key.0) (sym same))
    go false p rest f = later (seat_at n e) (rest f)
