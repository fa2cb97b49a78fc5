-- What one step tells of a node, wherever it leads.
use Rattle.std.proofs.Common.{◌≡◌, ◌≢◌, ℕ, zero, suc, Bool, true, false, ◌||◌, map, Option, Some, None, IsSome, option_and_then, refl, sym, ap, ◌∙◌, subst, inl, inr, ◌⊎◌}
use Rattle.std.specs.List.{flat_map}
use Rattle.st_ids.specs.Listing.{Has, item_of}
use Rattle.st_ids.specs.Order.{node_cmp}
use Rattle.st_ids.specs.Root.{root}
use Rattle.st_ids.proofs.Listings.{has-item_of, item_of-has}
use Rattle.st_ids.proofs.Orders.{node_cmp_exact, node_cmp_total}
use Rattle.st_ids.specs.declared.names.NodeId.{NodeId}
use Rattle.st_lemmas.proofs.Bools.{or-left, or-right, true-false}
use Rattle.st_marks.specs.declared.changes.NewNode.{NewNode}
use Rattle.st_marks.specs.declared.marks.How.TheVariants.{Stay, Leave}
use Rattle.st_marks.specs.declared.marks.RowMarks.{RowMarks}
use Rattle.st_marks.specs.declared.places.Spot.{Spot}
use Rattle.st_marks.specs.declared.steps.Step.{Step}
use Rattle.st_marks.specs.Document.{Document, NodeType, above, climb, node_of}
use Rattle.st_marks.specs.Embedding.{is_among}
use Rattle.st_marks.specs.Extends.{IsExtendedBy}
use Rattle.st_marks.specs.Listings.{nodes_new}
use Rattle.st_marks.specs.Row.{spread}
use Rattle.st_marks.specs.Step.{IsChanged, IsMentionedByStep, IsStep, gained_node}
use Rattle.st_marks.proofs.Climb.{above_known, placed_known, same_spot}
use Rattle.st_marks.proofs.Later.{node_later}
use Rattle.st_marks.proofs.Members.{has-append, has-flat_map, has-map, map-has}
use Rattle.st_normal.proofs.NoRings.{among_has}
use Rattle.st_normal.specs.Rules.{IsFound, entries_of_step, in_rows, incoming_nodes, put_over}
use Rattle.st_normal.specs.declared.entries.Found.{Found}
use Rattle.st_puts.proofs.StepRows.{incoming-mark}
use Rattle.st_puts.proofs.StepPlaces.{FoundAt, StaysOrLeaves, at_loose, at_register, at_row, comes-put, fill-place, found-at, found-named, found-of, held-place, leaves, loose-place, make-place, put-place, root-or-found, touch-place}
use Rattle.st_steps.proofs.DroppedNames.{dropped_is_named}
use Rattle.st_laws.proofs.BothTell.{Tells}

-- whether a step finds a node or makes it
abbrev pub told : Step → NodeId → Bool
told S n = is_among (map (λ (f : Found). f.node) (entries_of_step S).found) n || is_among (nodes_new S.new) n

told-found : (S : Step) (n : NodeId) → IsFound (entries_of_step S) n → told S n ≡ true
told-found S n h = or-left _ (is_among (nodes_new S.new) n) ((among_has (map (λ (f : Found). f.node) (entries_of_step S).found) n).1 h)

told-new : (S : Step) (n : NodeId) → Has (nodes_new S.new) n → told S n ≡ true
told-new S n h = or-right (is_among (map (λ (f : Found). f.node) (entries_of_step S).found) n) _ ((among_has (nodes_new S.new) n).1 h)

told-cases : (S : Step) (n : NodeId) → told S n ≡ true → IsFound (entries_of_step S) n ⊎ Has (nodes_new S.new) n
told-cases S n e = go (is_among (map (λ (f : Found). f.node) (entries_of_step S).found) n) refl e
  where
    go : (b : Bool) → is_among (map (λ (f : Found). f.node) (entries_of_step S).found) n ≡ b → (b || is_among (nodes_new S.new) n) ≡ true → IsFound (entries_of_step S) n ⊎ Has (nodes_new S.new) n
    go true f g = inl ((among_has (map (λ (f : Found). f.node) (entries_of_step S).found) n).0 f)
    go false f g = inr ((among_has (nodes_new S.new) n).0 g)

-- ## Nodes that are made

gained-lacked : (n : NodeId) (o p : Option NodeType) (m : NewNode) → gained_node n o p ≡ Some m → o ≡ None
gained-lacked n None p m e = refl
gained-lacked n (Some t) p m e = cc

module _ (D E : Document) (S : Step) (s : IsStep D E S) (n : NodeId) where
  pub new_lacked : Has (nodes_new S.new) n → D.nodes n ≡ None
  new_lacked h =
      let m = has-map (λ (m : NewNode). m.node) S.new n h in
      gained-lacked n (D.nodes n) (E.nodes n) m.0 (sym (s.new.at_each n) ∙ subst (λ k. item_of node_cmp (λ (m : NewNode). m.node) S.new k ≡ Some m.0) m.2 (has-item_of node_cmp node_cmp_total node_cmp_exact (λ (m : NewNode). m.node) S.new m.0 s.new.rising m.1))

  pub gained_new : D.nodes n ≡ None → IsSome (E.nodes n) → Has (nodes_new S.new) n
  gained_new d e = go (E.nodes n) refl e
    where
      go : (o : Option NodeType) → E.nodes n ≡ o → IsSome o → Has (nodes_new S.new) n
      go None f i = absurd (let bad : false ≡ true = i in cc)
      go (Some t) f i =
          let mark : NewNode = record { node = n; ty = t.ty; leaf = t.leaf } in
          map-has (λ (m : NewNode). m.node) S.new mark (item_of-has node_cmp node_cmp_total node_cmp_exact (λ (m : NewNode). m.node) S.new n mark (s.new.at_each n ∙ ap (λ o. gained_node n o (E.nodes n)) d ∙ ap (gained_node n None) f)).0

-- who isn't there stands nowhere
pub lacked_nowhere : (D E : Document) → IsExtendedBy D E → (n : NodeId) → D.nodes n ≡ None → D.place n ≡ Spot.Nowhere
lacked_nowhere D E x n e = elim (same_spot (D.place n) Spot.Nowhere) [
  | inl h ↦ h
  | inr h ↦ absurd (let bad : false ≡ true = subst IsSome e (placed_known D x.before n h) in cc)
]

lacked-nowhere-after : (D E : Document) → IsExtendedBy D E → (n : NodeId) → E.nodes n ≡ None → E.place n ≡ Spot.Nowhere
lacked-nowhere-after D E x n e = elim (same_spot (E.place n) Spot.Nowhere) [
  | inl h ↦ h
  | inr h ↦ absurd (let bad : false ≡ true = subst IsSome e (placed_known E x.after n h) in cc)
]

-- ## One step between two pairs of documents

module _ (D E C F : Document) (S : Step) (x : IsExtendedBy D E) (s : IsStep D E S) (y : IsExtendedBy C F) (t : IsStep C F S) where
  found-there : (f : Found) → Has (entries_of_step S).found f → D.place f.node ≡ C.place f.node
  found-there f i = at (found-at D E S x s f i).0
    where
      at : FoundAt D E S x s f.node f.how → D.place f.node ≡ C.place f.node
      at (at_row r a j k p) = p ∙ sym (touch-place C F S y t r a f.node f.how j k).0
      at (at_register r j e p) = p ∙ sym (held-place C F S y t r f.node j e).0
      at (at_loose l j e p h) = p ∙ sym (subst (λ n. C.place n ≡ Spot.Nowhere) e (loose-place C F S y t l j).0)

  goes-there : (n : NodeId) (p : Spot) → E.place n ≡ p → D.place n ≢ p → p ≢ Spot.Nowhere → F.place n ≡ p
  goes-there n p e d somewhere = elim (has-append (in_rows incoming_nodes S.rows) (flat_map put_over S.regs) n (comes-put D E S x s n p (e, d) somewhere)) [
    | inl i ↦ (let r = has-flat_map (λ (r : RowMarks). incoming_nodes (spread r.marks)) S.rows n i in
        let w = incoming-mark (spread r.0.marks) n r.2 in
        elim w.1 [
          | inl j ↦ (make-place C F S y t r.0 w.0 n r.1 j).0 ∙ sym (make-place D E S x s r.0 w.0 n r.1 j).0 ∙ e
          | inr j ↦ (fill-place C F S y t r.0 w.0 n r.1 j).0 ∙ sym (fill-place D E S x s r.0 w.0 n r.1 j).0 ∙ e
        ])
    | inr i ↦ (let r = has-flat_map put_over S.regs n i in
        (put-place C F S y t r.0 n r.1 r.2).0 ∙ sym (put-place D E S x s r.0 n r.1 r.2).0 ∙ e)
  ]

module _ (D E C F : Document) (S : Step) (x : IsExtendedBy D E) (s : IsStep D E S) (y : IsExtendedBy C F) (t : IsStep C F S) where
  after-same : (n : NodeId) → ((p : Spot) → E.place n ≡ p → p ≢ Spot.Nowhere → D.place n ≢ p) → ((p : Spot) → F.place n ≡ p → p ≢ Spot.Nowhere → C.place n ≢ p) → E.place n ≡ F.place n
  after-same n d c = elim (same_spot (E.place n) Spot.Nowhere) [
    | inr h ↦ sym (goes-there D E C F S x s y t n (E.place n) refl (d (E.place n) refl h) h)
    | inl e ↦ elim (same_spot (F.place n) Spot.Nowhere) [
      | inl f ↦ e ∙ sym f
      | inr h ↦ goes-there C F D E S y t x s n (F.place n) refl (c (F.place n) refl h) h
    ]
  ]

  found-after : (f : Found) → Has (entries_of_step S).found f → E.place f.node ≡ F.place f.node
  found-after f i = go (found-at D E S x s f i).1 (found-at C F S y t f i).1
    where
      go : StaysOrLeaves D E S x s f.node f.how → StaysOrLeaves C F S y t f.node f.how → E.place f.node ≡ F.place f.node
      go (inl a) (inl b) = sym a.1 ∙ found-there D E C F S x s y t f i ∙ b.1
      go (inl a) (inr b) = absurd (let e : Stay ≡ Leave = sym a.0 ∙ b.0 in cc)
      go (inr a) (inl b) = absurd (let e : Leave ≡ Stay = sym a.0 ∙ b.0 in cc)
      go (inr a) (inr b) = after-same f.node (λ p e h q. a.1 (q ∙ sym e)) (λ p e h q. b.1 (q ∙ sym e))

  told-same : (n : NodeId) → told S n ≡ true → (D.place n ≡ C.place n) × (E.place n ≡ F.place n)
  told-same n e = elim (told-cases S n e) [
    | inl h ↦ (let f = has-map (λ (f : Found). f.node) (entries_of_step S).found n h in
        (subst (λ n. D.place n ≡ C.place n) f.2 (found-there D E C F S x s y t f.0 f.1), subst (λ n. E.place n ≡ F.place n) f.2 (found-after f.0 f.1)))
    | inr h ↦ (let d = lacked_nowhere D E x n (new_lacked D E S s n h) in
        let c = lacked_nowhere C F y n (new_lacked C F S t n h) in
        (d ∙ sym c, after-same n (λ p e h q. h (sym q ∙ d)) (λ p e h q. h (sym q ∙ c))))
  ]

untold-stays : (D E : Document) (S : Step) → IsExtendedBy D E → IsStep D E S → (n : NodeId) → told S n ≡ false → D.place n ≡ E.place n
untold-stays D E S x s n e = elim (same_spot (D.place n) (E.place n)) [
  | inl h ↦ h
  | inr h ↦ absurd (go (D.nodes n) refl h)
]
  where
    go : (o : Option NodeType) → D.nodes n ≡ o → D.place n ≢ E.place n → ⊥
    go (Some k) f h = true-false (told-found S n (found-of D E S x s n Leave (leaves D E S x s n (subst IsSome (sym f) refl) h))) e
    go None f h = let d = lacked_nowhere D E x n f in
        true-false (told-new S n (gained_new D E S s n f (placed_known E x.after n (λ q. h (d ∙ sym q))))) e

pub places_told : (D E C F : Document) (S : Step) → IsExtendedBy D E → IsStep D E S → IsExtendedBy C F → IsStep C F S → (n : NodeId) → Tells (told S n) (D.place n) (E.place n) (C.place n) (F.place n)
places_told D E C F S x s y t n = record {
  same = told-same D E C F S x s y t n;
  stays = λ e. (untold-stays D E S x s n e, untold-stays C F S y t n e);
}

-- ## Two steps in turn

module _ (D E F : Document) (S T U : Step) (x : IsExtendedBy D E) (y : IsExtendedBy E F) (z : IsExtendedBy D F) (s : IsStep D E S) (t : IsStep E F T) (u : IsStep D F U) (n : NodeId) (unroot : n ≢ root) where
  named-told : (A B : Document) (V : Step) (w : IsExtendedBy A B) (v : IsStep A B V) → v.mentioned n ≡ true → told V n ≡ true
  named-told A B V w v e = elim (root-or-found A B V w v n e) [ inl h ↦ absurd (unroot h) | inr h ↦ told-found V n h ]

  known-later : (A B : Document) → IsExtendedBy A B → IsSome (A.nodes n) → IsSome (B.nodes n)
  known-later A B w h = go (A.nodes n) refl h
    where
      go : (o : Option NodeType) → A.nodes n ≡ o → IsSome o → IsSome (B.nodes n)
      go None e i = absurd (let bad : false ≡ true = i in cc)
      go (Some k) e i = subst IsSome (sym (w.nodes n k e)) refl

  -- who is made stays made
  lacks-or-knows : (A : Document) → (A.nodes n ≡ None) ⊎ IsSome (A.nodes n)
  lacks-or-knows A = go (A.nodes n) refl
    where
      go : (o : Option NodeType) → A.nodes n ≡ o → (A.nodes n ≡ None) ⊎ IsSome (A.nodes n)
      go None e = inl e
      go (Some k) e = inr (subst IsSome (sym e) refl)

  new-known : (A B : Document) (V : Step) (v : IsStep A B V) → Has (nodes_new V.new) n → IsSome (B.nodes n)
  new-known A B V v h = elim (lacks-or-knows B) [
    | inr k ↦ k
    | inl k ↦ (let m = has-map (λ (m : NewNode). m.node) V.new n h in
        absurd (bad (A.nodes n) (B.nodes n) m.0 k (sym (v.new.at_each n) ∙ subst (λ k. item_of node_cmp (λ (m : NewNode). m.node) V.new k ≡ Some m.0) m.2 (has-item_of node_cmp node_cmp_total node_cmp_exact (λ (m : NewNode). m.node) V.new m.0 v.new.rising m.1))))
  ]
    where
      bad : (o p : Option NodeType) (m : NewNode) → p ≡ None → gained_node n o p ≡ Some m → ⊥
      bad None None m e f = cc
      bad None (Some t) m e f = cc
      bad (Some t) p m e f = cc

  -- whom the first tells and both as one don't, the second tells
  pub dropped_told : told S n ≡ true → told U n ≡ false → told T n ≡ false → ⊥
  dropped_told a p b = elim (told-cases S n a) [
    | inl h ↦ (let m = (s.which n).0 (found-named D E S x s n h).0 in
        true-false (named-told E F T y t (dropped_is_named D E F T x y t n (λ w. true-false (named-told D F U z u ((u.which n).1 w)) p) m)) b)
    | inr h ↦ true-false (told-new U n (gained_new D F U u n (new_lacked D E S s n h) (known-later E F y (new-known D E S s h)))) p
  ]

  module _ (unnamed : IsMentionedByStep D E n → ⊥) where
    way-up : (k : ℕ) (r : NodeId) → IsSome (D.nodes r) → climb (above D) k r ≡ Some n → climb (above E) k r ≡ Some n
    way-up zero r known at = at
    way-up (suc k) r known at = elim (same_spot (D.place r) (E.place r)) [
      | inr h ↦ absurd (unnamed (r, (known, inl h), suc k, at))
      | inl h ↦ go (above D r) refl (ap node_of (sym h)) at (λ q up there. way-up k q (above_known D x.before r q up) there)
    ]
      where
        go : (o : Option NodeId) → above D r ≡ o → above E r ≡ above D r → option_and_then (climb (above D) k) o ≡ Some n → ((q : NodeId) → above D r ≡ Some q → climb (above D) k q ≡ Some n → climb (above E) k q ≡ Some n) → option_and_then (climb (above E) k) (above E r) ≡ Some n
        go None e same at rest = cc
        go (Some q) e same at rest = ap (option_and_then (climb (above E) k)) (same ∙ e) ∙ rest q e at

    then-changed : (r : NodeId) (k : ℕ) → climb (above D) k r ≡ Some n → IsChanged D F r → IsChanged E F r
    then-changed r k at (known, inl w) = (node_later D E x r known, inl (λ e. unnamed (r, (known, inl (λ z. w (z ∙ e))), k, at)))
    then-changed r k at (known, inr (inl w)) = (node_later D E x r known, inr (inl (λ e. unnamed (r, (known, inr (inl (λ z. w (z ∙ e)))), k, at))))
    then-changed r k at (known, inr (inr w)) = (node_later D E x r known, inr (inr (w.0, w.1, λ e. unnamed (r, (known, inr (inr (w.0, w.1, λ z. w.2 (z ∙ e)))), k, at))))

    second-names : IsMentionedByStep D F n → IsMentionedByStep E F n
    second-names m = (m.0, then-changed m.0 m.2 m.3 m.1, m.2, way-up m.2 m.0 m.1.0 m.3)

  -- whom both as one tell, one of the two tells
  pub told_by_one : told U n ≡ true → told S n ≡ false → told T n ≡ false → ⊥
  told_by_one p a b = elim (told-cases U n p) [
    | inl h ↦ (let m = (u.which n).0 (found-named D F U z u n h).0 in
        true-false (named-told E F T y t ((t.which n).1 (second-names (λ w. true-false (named-told D E S x s ((s.which n).1 w)) a) m))) b)
    | inr h ↦ elim (lacks-or-knows E) [
      | inl e ↦ true-false (told-new T n (gained_new E F T t n e (new-known D F U u h))) b
      | inr e ↦ true-false (told-new S n (gained_new D E S s n (new_lacked D F U u n h) e)) a
    ]
  ]
