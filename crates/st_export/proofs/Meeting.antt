-- The walk in a document that is sound in form: each node is met once, so there are no more than the document has.
use Rattle.std.proofs.Common.{◌≡◌, ◌≢◌, ℕ, suc, ◌+◌, ◌≤◌, Bool, true, false, List, [], ◌∷◌, ◌++◌, length, map, Some, None, IsSome, is_some, refl, sym, ap, ◌∙◌, subst, arith, inl, inr, ◌⊎◌, option_and_then, length-append}
use Rattle.std.specs.BTreeMap.{get}
use Rattle.std.specs.List.{IsDistinct}
use Rattle.std.specs.Ordering.{eq_by_cmp, is_eq}
use Rattle.std.proofs.lemmas.Cmp.{eq_by_cmp_equiv}
use Rattle.std.proofs.lemmas.List.{length-map, map-append}
use Rattle.std.proofs.lemmas.Map.Steps.{length-le_from_keys}
use Rattle.st_ids.specs.Listing.{AreDistinct, Has}
use Rattle.st_ids.specs.Order.{node_cmp, same_node}
use Rattle.st_ids.specs.declared.names.NodeId.{NodeId}
use Rattle.st_ids.proofs.Orders.{node_cmp_total, same_node-true}
use Rattle.st_marks.specs.Document.{Document, IsSoundInForm, above, climb, node_of}
use Rattle.st_marks.proofs.Climb.{placed_known}
use Rattle.st_marks.proofs.Members.{all-has, has-all, append_left, append_right, has-append, any-has, distinct-append, distinct-between, distinct-left}
use Rattle.st_intent.proofs.Ends.{met_again}
use Rattle.st_lemmas.proofs.Options.{is_some-option_map}
use Rattle.st_forest.specs.Stands.{StandsFor, named}
use Rattle.st_forest.specs.declared.forest.Forest.{Forest}
use Rattle.st_forest.specs.declared.forest.Seated.{Seated}
use Rattle.st_export.specs.declared.walk.Visit.{Visit}
use Rattle.st_export.specs.inside.Beneath.{AreBeneath}
use Rattle.st_export.specs.inside.Walk.{IsWalk}

-- ## Steps of a walk

pub walk_first : (beneath : NodeId → List NodeId) (n : NodeId) (vs : List Visit) (left : List NodeId) → vs ≡ [] → left ≡ n ∷ [] → IsWalk beneath (n ∷ []) vs left
walk_first beneath n vs left none first = subst (λ l. IsWalk beneath (n ∷ []) l left) (sym none) (sym first)

-- one visit more
pub walk_more : (beneath : NodeId → List NodeId) (first : List NodeId) (vs : List Visit) (v : Visit) (rest left now : List NodeId) → left ≡ rest ++ v.node ∷ [] → v.others ≡ length rest
    → now ≡ rest ++ beneath v.node → IsWalk beneath first vs left → IsWalk beneath first (vs ++ v ∷ []) now
walk_more beneath first [] v rest left now last others then h = (rest, h ∙ last, others, sym then)
walk_more beneath first (w ∷ vs) v rest left now last others then h = (h.0, h.1, h.2, walk_more beneath (h.0 ++ beneath w.node) vs v rest left now last others then h.3)

-- and the last taken back
pub walk_back : (beneath : NodeId → List NodeId) (first : List NodeId) (vs : List Visit) (v : Visit) (left : List NodeId) → IsWalk beneath first (vs ++ v ∷ []) left
    → (rest : List NodeId) × (left ≡ rest ++ beneath v.node) × (v.others ≡ length rest) × IsWalk beneath first vs (rest ++ v.node ∷ [])
walk_back beneath first [] v left h = (h.0, sym h.3, h.2, h.1)
walk_back beneath first (w ∷ vs) v left h =
    let k = walk_back beneath (h.0 ++ beneath w.node) vs v left h.3 in
    (k.0, k.1, k.2, (h.0, h.1, h.2, k.3))

-- ## What is met

abbrev itself : NodeId → NodeId
itself n = n

-- nodes that were met, and others that are still to be: none twice, and all of them in the document, at the first or beneath it
pub record Met (D : Document) (first : NodeId) (past todo : List NodeId) : Type 0 where
  pub past_once : AreDistinct (λ (m : NodeId). m) past
  pub todo_once : AreDistinct (λ (m : NodeId). m) todo
  pub apart : (m : NodeId) → Has past m → Has todo m → ⊥
  pub known : (m : NodeId) → Has past m ⊎ Has todo m → IsSome (D.nodes m)
  pub below : (m : NodeId) → Has past m ⊎ Has todo m → (k : ℕ) × (climb (above D) k m ≡ Some first)
  pub from : (m : NodeId) → Has past m ⊎ Has todo m → (m ≡ first) ⊎ ((p : NodeId) × Has past p × (above D m ≡ Some p))

pub met_first : (D : Document) (n : NodeId) (todo : List NodeId) → IsSome (D.nodes n) → todo ≡ n ∷ [] → Met D n [] todo
met_first D n todo known e = subst (Met D n []) (sym e) (record {
  past_once = tt;
  todo_once = (tt, tt);
  apart = λ m h k. h;
  known = λ m h. subst (λ x. IsSome (D.nodes x)) (sym (only m h)) known;
  below = λ m h. (0, ap (λ x. Some x) (only m h));
  from = λ m h. inl (only m h);
})
  where
    only : (m : NodeId) → ⊥ ⊎ ((n ≡ m) ⊎ ⊥) → m ≡ n
    only m (inl b) = absurd b
    only m (inr (inl q)) = sym q
    only m (inr (inr b)) = absurd b

module _ (D : Document) (sound : IsSoundInForm D) (first n : NodeId) (past rest kids : List NodeId) (h : Met D first past (rest ++ n ∷ [])) (b : AreBeneath D n kids) where
  here : Has (rest ++ n ∷ []) n
  here = append_right rest (n ∷ []) n (inl refl)

  -- a node directly beneath the one that is met was not met, and isn't to be
  fresh : (k : NodeId) → Has kids k → Has past k ⊎ Has (rest ++ n ∷ []) k → ⊥
  fresh k kid old = go (h.from k old)
    where
      go : (k ≡ first) ⊎ ((p : NodeId) × Has past p × (above D k ≡ Some p)) → ⊥
      go (inl q) =
          let w = h.below n (inr here) in
          let ends = sound.no_ring first in
          let up : above D first ≡ Some n = ap (above D) (sym q) ∙ b.up k kid in
          met_again (above D) ends.0 ends.0 w.0 first (omega arith) (ap (option_and_then (climb (above D) w.0)) up ∙ w.1) ends.1
      go (inr r) =
          let both : Some r.0 ≡ Some n = sym r.2 ∙ b.up k kid in
          let same : r.0 ≡ n = cc in
          h.apart n (subst (Has past) same r.1) here

  kid_known : (k : NodeId) → Has kids k → IsSome (D.nodes k)
  kid_known k kid = placed_known D sound k (λ nowhere. let bad : None ≡ Some n = sym (ap node_of nowhere) ∙ b.up k kid in cc)

  -- of those that are now met or to be, which were and which weren't
  which : (m : NodeId) → Has (past ++ n ∷ []) m ⊎ Has (rest ++ kids) m → (Has past m ⊎ Has (rest ++ n ∷ []) m) ⊎ Has kids m
  which m (inl g) = elim (has-append past (n ∷ []) m g) [ inl p ↦ inl (inl p) | inr q ↦ inl (inr (append_right rest (n ∷ []) m q)) ]
  which m (inr g) = elim (has-append rest kids m g) [ inl r ↦ inl (inr (append_left rest (n ∷ []) m r)) | inr k ↦ inr k ]

  pub met_more : Met D first (past ++ n ∷ []) (rest ++ kids)
  met_more = record {
    past_once = distinct-append (λ (m : NodeId). m) past (n ∷ []) h.past_once (tt, tt) (λ x y p q same. h.apart x p (subst (Has (rest ++ n ∷ [])) (one y q same) here));
    todo_once = distinct-append (λ (m : NodeId). m) rest kids (distinct-left (λ (m : NodeId). m) rest (n ∷ []) h.todo_once) b.once
        (λ x y r k same. fresh y k (inr (append_left rest (n ∷ []) y (subst (Has rest) (sym same) r))));
    apart = λ m g k. now_apart m (has-append past (n ∷ []) m g) (has-append rest kids m k);
    known = λ m g. elim (which m g) [ inl old ↦ h.known m old | inr k ↦ kid_known m k ];
    below = λ m g. elim (which m g) [ inl old ↦ h.below m old | inr k ↦ kid_below m k ];
    from = λ m g. elim (which m g) [ inl old ↦ still m (h.from m old) | inr k ↦ inr (n, append_right past (n ∷ []) n (inl refl), b.up m k) ];
  }
    where
      one : {x : NodeId} (y : NodeId) → (n ≡ y) ⊎ ⊥ → y ≡ x → n ≡ x
      one y (inl q) same = q ∙ same
      one y (inr bad) same = absurd bad

      now_apart : (m : NodeId) → Has past m ⊎ Has (n ∷ []) m → Has rest m ⊎ Has kids m → ⊥
      now_apart m (inl p) (inl r) = h.apart m p (append_left rest (n ∷ []) m r)
      now_apart m (inl p) (inr k) = fresh m k (inl p)
      now_apart m (inr (inl q)) (inl r) = distinct-between (λ (m : NodeId). m) rest (n ∷ []) m n h.todo_once r (inl refl) q
      now_apart m (inr (inl q)) (inr k) = fresh m k (inr (subst (Has (rest ++ n ∷ [])) q here))
      now_apart m (inr (inr bad)) g = absurd bad

      kid_below : (m : NodeId) → Has kids m → (k : ℕ) × (climb (above D) k m ≡ Some first)
      kid_below m k = let w = h.below n (inr here) in (suc w.0, ap (option_and_then (climb (above D) w.0)) (b.up m k) ∙ w.1)

      still : (m : NodeId) → (m ≡ first) ⊎ ((p : NodeId) × Has past p × (above D m ≡ Some p)) → (m ≡ first) ⊎ ((p : NodeId) × Has (past ++ n ∷ []) p × (above D m ≡ Some p))
      still m (inl q) = inl q
      still m (inr r) = inr (r.0, append_left past (n ∷ []) r.0 r.1, r.2)

abbrev pub nodes_of : List Visit → List NodeId
nodes_of vs = map (λ (v : Visit). v.node) vs

pub met_next : (D : Document) → IsSoundInForm D → (first : NodeId) (order now : List Visit) (v : Visit) (todo rest kids left : List NodeId) → todo ≡ rest ++ v.node ∷ [] → now ≡ order ++ v ∷ []
    → left ≡ rest ++ kids → AreBeneath D v.node kids → Met D first (nodes_of order) todo → Met D first (nodes_of now) left
met_next D sound first order now v todo rest kids left last pushed then b h =
    subst (Met D first (nodes_of now)) (sym then)
    (subst (λ past. Met D first past (rest ++ kids)) (sym (ap nodes_of pushed ∙ map-append (λ (v : Visit). v.node) order (v ∷ [])))
    (met_more D sound first v.node (nodes_of order) rest kids (subst (Met D first (nodes_of order)) last h) b))

-- ## It ends

all_distinct : (ns : List NodeId) → AreDistinct (λ (n : NodeId). n) ns → IsDistinct (eq_by_cmp node_cmp) ns
unfolding IsDistinct same_node
all_distinct [] a = tt
all_distinct (n ∷ ns) a = (has-all (λ m. is_eq (node_cmp n m) ≡ false) ns (λ m h. go m (same_node n m) refl (all-has (λ y. y ≢ n) ns m a.0 h)), all_distinct ns a.1)
  where
    go : (m : NodeId) (b : Bool) → same_node n m ≡ b → m ≢ n → same_node n m ≡ false
    go m true e apart = absurd (apart (sym (same_node-true n m e)))
    go m false e apart = e

module _ (F : Forest) (D : Document) (stands : StandsFor F D) where
  -- a node of the document is in the table
  pub in_table : (n : NodeId) → IsSome (D.nodes n) → IsSome (get node_cmp F.nodes n)
  in_table n known = sym (is_some-option_map (λ (s : Seated). s.node) (get node_cmp F.nodes n)) ∙ ap (λ o. is_some o) (stands.nodes n) ∙ is_some-option_map (named n) (D.nodes n) ∙ known

  pub within_table : (first : NodeId) (past todo : List NodeId) → Met D first past todo → length past + length todo ≤ length F.nodes.entries
  unfolding same_node
  within_table first past todo h =
      subst (λ k. k ≤ length F.nodes.entries) (length-append past todo)
      (length-le_from_keys (eq_by_cmp_equiv node_cmp_total) (past ++ todo) F.nodes.entries (all_distinct (past ++ todo) once) (λ q e. there q (any-has (eq_by_cmp node_cmp q) (past ++ todo) e)))
    where
      once : AreDistinct (λ (n : NodeId). n) (past ++ todo)
      once = distinct-append (λ (m : NodeId). m) past todo h.past_once h.todo_once (λ x y p t same. h.apart x p (subst (Has todo) same t))

      there : (q : NodeId) → (x : NodeId) × Has (past ++ todo) x × (same_node q x ≡ true) → IsSome (get node_cmp F.nodes q)
      there q r = in_table q (subst (λ m. IsSome (D.nodes m)) (sym (same_node-true q r.0 r.2)) (h.known r.0 (has-append past todo r.0 r.1)))

  -- as many as there are nodes in the table are all
  pub too_many : (first n : NodeId) (order : List Visit) (todo rest : List NodeId) → Met D first (nodes_of order) todo → todo ≡ rest ++ n ∷ [] → length F.nodes.entries ≤ length order → ⊥
  too_many first n order todo rest h last many =
      let most = within_table first (nodes_of order) todo h in
      let met : length (nodes_of order) ≡ length order = length-map order (λ (v : Visit). v.node) in
      let one : length todo ≡ length rest + 1 = ap length last ∙ length-append rest (n ∷ []) in
      absurd (omega (arith, most, met, one, many))
