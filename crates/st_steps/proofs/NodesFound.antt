-- Who is found before a step stands there.
use Rattle.std.proofs.Common.{◌≡◌, ◌≢◌, ◌||◌, ◌&&◌, not, cond, ◌⊎◌, zero, Bool, true, false, List, [], ◌∷◌, ◌++◌, map, Option, Some, None, IsSome, IfSome, is_some, refl, sym, ap, ◌∙◌, subst, inl, inr}
use Rattle.std.specs.List.{flat_map}
use Rattle.st_ids.specs.Listing.{Has}
use Rattle.st_ids.specs.Order.{node_cmp, same_node}
use Rattle.st_ids.specs.Root.{root}
use Rattle.st_ids.proofs.Listings.{has-item_of, item_of-has}
use Rattle.st_ids.proofs.Orders.{node_cmp_exact, node_cmp_total, same_node-true}
use Rattle.st_ids.specs.declared.names.CellId.{CellId}
use Rattle.st_ids.specs.declared.names.NodeId.{NodeId}
use Rattle.st_kind.specs.Named.{Nodes}
use Rattle.st_lemmas.proofs.Bools.{or-right}
use Rattle.st_marks.specs.declared.changes.NewNode.{NewNode}
use Rattle.st_marks.specs.declared.marks.How.{How}
use Rattle.st_marks.specs.declared.marks.How.TheVariants.{Stay, Leave}
use Rattle.st_marks.specs.declared.marks.Loose.{Loose}
use Rattle.st_marks.specs.Register.{holds_mentioned}
use Rattle.st_marks.specs.declared.marks.RegStep.{RegStep}
use Rattle.st_marks.specs.declared.marks.RowMarks.{RowMarks}
use Rattle.st_marks.specs.declared.places.Spot.{Spot}
use Rattle.st_marks.specs.declared.steps.Step.{Step}
use Rattle.st_marks.specs.Back.{is_in}
use Rattle.st_marks.specs.Document.{Document, NodeType}
use Rattle.st_marks.specs.Embedding.{is_among, is_nowhere}
use Rattle.st_marks.specs.Extends.{IsExtendedBy}
use Rattle.st_marks.specs.Listings.{cells_before, nodes_loose, nodes_new, nodes_standing, one_or_none, placed_before}
use Rattle.st_marks.specs.Row.{CellMark, Counted, Gap, Touch, Make, Fill, spread}
use Rattle.st_marks.specs.Step.{IsStep, gained_node, step_loose}
use Rattle.st_marks.proofs.Climb.{placed_known}
use Rattle.st_marks.proofs.Members.{any-has, append_left, append_right, has-append, has-flat_map, has-map, map-has}
use Rattle.st_puts.proofs.Basics.{one-is}
use Rattle.st_puts.proofs.StepPlaces.{one-or-other, reg-is, touch-place}
use Rattle.st_steps.proofs.NamesListed.{among, mentioned_loose, mentioned_stood}
use Rattle.st_steps.specs.WayBack.{named_back_of}
use Rattle.st_steps.specs.inside.Back.{lists_node, told_of}

among-has : (xs : List NodeId) (n : NodeId) → is_among xs n ≡ true → Has xs n
among-has xs n e = let r = any-has (λ m. same_node m n) xs e in subst (Has xs) (same_node-true r.0 n r.2) r.1

-- ## Read off marks

-- who stands in a cell before is touched
standing_touch : (ms : List CellMark) (n : NodeId) → Has (nodes_standing (cells_before ms)) n → (c : CellId) × (h : How) × Has ms (Touch c n h)
standing_touch [] n i = absurd i
standing_touch (Counted ∷ ms) n i = let r = standing_touch ms n i in (r.0, r.1, inr r.2)
standing_touch (Gap e ∷ ms) n i = let r = standing_touch ms n i in (r.0, r.1, inr r.2)
standing_touch (Touch e k g ∷ ms) n (inl q) = (e, g, inl (ap (λ k. Touch e k g) q))
standing_touch (Touch e k g ∷ ms) n (inr i) = let r = standing_touch ms n i in (r.0, r.1, inr r.2)
standing_touch (Make e k b ∷ ms) n i = let r = standing_touch ms n i in (r.0, r.1, inr r.2)
standing_touch (Fill e k ∷ ms) n i = let r = standing_touch ms n i in (r.0, r.1, inr r.2)

-- ## Over documents

module _ (D E : Document) (S : Step) (x : IsExtendedBy D E) (s : IsStep D E S) where
  pub found_stands : (n : NodeId) → is_among (placed_before S.rows (map (λ (r : RegStep). r.before) S.regs)) n ≡ true → is_nowhere (D.place n) ≡ false
  found_stands n e = elim (has-append (flat_map (λ (r : RowMarks). nodes_standing (cells_before (spread r.marks))) S.rows) (flat_map one_or_none (map (λ (r : RegStep). r.before) S.regs)) n (among-has _ n e)) [
    | inl i ↦ (let r = has-flat_map (λ (r : RowMarks). nodes_standing (cells_before (spread r.marks))) S.rows n i in
        let t = standing_touch (spread r.0.marks) n r.2 in
        ap is_nowhere (touch-place D E S x s r.0 t.0 n t.1 r.1 t.2).0)
    | inr i ↦ (let o = has-flat_map one_or_none (map (λ (r : RegStep). r.before) S.regs) n i in
        let r = has-map (λ (r : RegStep). r.before) S.regs o.0 o.1 in
        let held : D.held r.0.field ≡ Some n = sym (reg-is D E S x s r.0 r.1).0 ∙ r.2 ∙ one-is o.0 n o.2 in
        ap is_nowhere ((x.before.one_held n r.0.field).0 held))
  ]

  -- who is new
  pub new_apart : (n : NodeId) → is_among (nodes_new S.new) n ≡ true → is_in D n ≡ false
  new_apart n e =
      let r = has-map (λ (m : NewNode). m.node) S.new n (among-has (nodes_new S.new) n e) in
      let at : gained_node r.0.node (D.nodes r.0.node) (E.nodes r.0.node) ≡ Some r.0 = sym (s.new.at_each r.0.node) ∙ has-item_of node_cmp node_cmp_total node_cmp_exact (λ (m : NewNode). m.node) S.new r.0 s.new.rising r.1 in
      ap (λ j. is_some (D.nodes j)) (sym r.2) ∙ none r.0.node (D.nodes r.0.node) (E.nodes r.0.node) r.0 at
    where
      none : (k : NodeId) (o p : Option NodeType) (m : NewNode) → gained_node k o p ≡ Some m → is_some o ≡ false
      none k None p m e = refl
      none k (Some t) p m e = cc

  new_there : (n : NodeId) → is_among (nodes_new S.new) n ≡ true → is_in E n ≡ true
  new_there n e =
      let r = has-map (λ (m : NewNode). m.node) S.new n (among-has (nodes_new S.new) n e) in
      let at : gained_node r.0.node (D.nodes r.0.node) (E.nodes r.0.node) ≡ Some r.0 = sym (s.new.at_each r.0.node) ∙ has-item_of node_cmp node_cmp_total node_cmp_exact (λ (m : NewNode). m.node) S.new r.0 s.new.rising r.1 in
      ap (λ j. is_some (E.nodes j)) (sym r.2) ∙ there r.0.node (D.nodes r.0.node) (E.nodes r.0.node) r.0 at
    where
      there : (k : NodeId) (o p : Option NodeType) (m : NewNode) → gained_node k o p ≡ Some m → is_some p ≡ true
      there k None (Some t) m e = refl
      there k None None m e = cc
      there k (Some u) p m e = cc

  pub made_new : (n : NodeId) → is_in D n ≡ false → IsSome (E.nodes n) → is_among (nodes_new S.new) n ≡ true
  made_new n e k = go (D.nodes n) refl e (E.nodes n) refl k
    where
      go : (o : Option NodeType) → D.nodes n ≡ o → is_some o ≡ false → (p : Option NodeType) → E.nodes n ≡ p → IsSome p → is_among (nodes_new S.new) n ≡ true
      go (Some t) f e p g k = cc
      go None f e None g k = cc
      go None f e (Some t) g k =
          let m : NewNode = record { node = n; ty = t.ty; leaf = t.leaf } in
          let q = item_of-has node_cmp node_cmp_total node_cmp_exact (λ (m : NewNode). m.node) S.new n m (s.new.at_each n ∙ (λ i. gained_node n (f i) (g i))) in
          among (nodes_new S.new) n (map-has (λ (m : NewNode). m.node) S.new m q.0)

  -- whom the step mentions, but for the root, it lists
  pub all_listed : (n : NodeId) → s.mentioned n ≡ true → same_node n root ≡ false → is_among (nodes_new S.new ++ nodes_loose S.loose ++ placed_before S.rows (map (λ (r : RegStep). r.before) S.regs)) n ≡ true
  all_listed n e z = go (is_nowhere (D.place n)) refl
    where
      go : (b : Bool) → is_nowhere (D.place n) ≡ b → is_among (nodes_new S.new ++ nodes_loose S.loose ++ placed_before S.rows (map (λ (r : RegStep). r.before) S.regs)) n ≡ true
      go true p = among _ n (append_left (nodes_new S.new ++ nodes_loose S.loose) (placed_before S.rows (map (λ (r : RegStep). r.before) S.regs)) n
          (append_right (nodes_new S.new) (nodes_loose S.loose) n (among-has _ n (mentioned_loose D E S x s n e p z))))
      go false p = among _ n (append_right (nodes_new S.new ++ nodes_loose S.loose) (placed_before S.rows (map (λ (r : RegStep). r.before) S.regs)) n (among-has _ n (mentioned_stood D E S x s n e p)))

  -- and whom it lists it mentions or makes
  named_moved : (n : NodeId) → IsSome (D.nodes n) → D.place n ≢ E.place n → s.mentioned n ≡ true
  named_moved n known apart = (s.which n).1 (n, (known, inl apart), zero, refl)

  some_known : (n : NodeId) (p : Spot) → D.place n ≡ p → is_nowhere p ≡ false → IsSome (D.nodes n)
  some_known n p e f = placed_known D x.before n (λ (q : D.place n ≡ Spot.Nowhere). apart (sym q ∙ e) f)
    where
      apart : {p : Spot} → Spot.Nowhere ≡ p → is_nowhere p ≡ false → ⊥
      apart q f = let bad : ◌≡◌ {A = Bool} true false = ap is_nowhere q ∙ f in cc

  touch_named : (r : RowMarks) (a : CellId) (n : NodeId) (h : How) → Has S.rows r → Has (spread r.marks) (Touch a n h) → s.mentioned n ≡ true
  touch_named r a n h i j = let t = touch-place D E S x s r a n h i j in elim t.1 [
    | inl v ↦ v.2
    | inr v ↦ named_moved n (some_known n (Spot.Row r.node a) t.0 refl) v.1
  ]

  held_named : (r : RegStep) (n : NodeId) → Has S.regs r → r.before ≡ Some n → s.mentioned n ≡ true
  held_named r n i e =
      let w = reg-is D E S x s r i in
      let held : D.held r.field ≡ Some n = sym w.0 ∙ e in
      let place : D.place n ≡ Spot.Register r.field = (x.before.one_held n r.field).0 held in
      elim (one-or-other (D.held r.field) (E.held r.field)) [
        | inl q ↦ (let told : holds_mentioned s.mentioned (D.held r.field) ≡ true = ap (λ b. not b || holds_mentioned s.mentioned (D.held r.field)) (sym q.1) ∙ w.2 in
            ap (holds_mentioned s.mentioned) (sym held) ∙ told)
        | inr q ↦ named_moved n (some_known n (Spot.Register r.field) place refl)
            (λ (p : D.place n ≡ E.place n). q.0 (held ∙ sym ((x.after.one_held n r.field).1 (sym p ∙ place))))
      ]

  pub listed_named : (n : NodeId) → is_among (nodes_new S.new ++ nodes_loose S.loose ++ placed_before S.rows (map (λ (r : RegStep). r.before) S.regs)) n ≡ true
      → (s.mentioned n ≡ true) ⊎ (is_among (nodes_new S.new) n ≡ true)
  listed_named n e = elim (has-append (nodes_new S.new ++ nodes_loose S.loose) (placed_before S.rows (map (λ (r : RegStep). r.before) S.regs)) n (among-has _ n e)) [
    | inl a ↦ elim (has-append (nodes_new S.new) (nodes_loose S.loose) n a) [
      | inl i ↦ inr (among (nodes_new S.new) n i)
      | inr i ↦ inl (let l = has-map (λ (l : Loose). l.node) S.loose n i in ap s.mentioned (sym l.2) ∙ loose_named l.0 l.1)
    ]
    | inr a ↦ inl (elim (has-append (flat_map (λ (r : RowMarks). nodes_standing (cells_before (spread r.marks))) S.rows) (flat_map one_or_none (map (λ (r : RegStep). r.before) S.regs)) n a) [
      | inl i ↦ (let r = has-flat_map (λ (r : RowMarks). nodes_standing (cells_before (spread r.marks))) S.rows n i in
          let t = standing_touch (spread r.0.marks) n r.2 in
          touch_named r.0 t.0 n t.1 r.1 t.2)
      | inr i ↦ (let o = has-flat_map one_or_none (map (λ (r : RegStep). r.before) S.regs) n i in
          let r = has-map (λ (r : RegStep). r.before) S.regs o.0 o.1 in
          held_named r.0 n r.1 (r.2 ∙ one-is o.0 n o.2))
    ])
  ]
    where
      loose_named : (l : Loose) → Has S.loose l → s.mentioned l.node ≡ true
      loose_named l i = go (s.mentioned l.node) refl (sym (s.loose.at_each l.node) ∙ has-item_of node_cmp node_cmp_total node_cmp_exact (λ (l : Loose). l.node) S.loose l s.loose.rising i)
        where
          go : (b : Bool) → s.mentioned l.node ≡ b → step_loose s.mentioned D E l.node ≡ Some l → s.mentioned l.node ≡ true
          go true f e = f
          go false f e =
              let bad : ◌≡◌ {A = Option Loose} None (Some l) = ap (λ b. cond {A = Option Loose} (b && is_nowhere (D.place l.node) && not (same_node l.node root)) (Some (record { node = l.node; how = cond (is_nowhere (E.place l.node)) Stay Leave })) None) (sym f) ∙ e in
              cc

  -- the nodes that are new, exactly
  pub new_exactly : (n : NodeId) → is_among (nodes_new S.new) n ≡ (is_in E n && not (is_in D n))
  new_exactly n = go (is_among (nodes_new S.new) n) refl (is_in E n) refl (is_in D n) refl
    where
      some : (o : Option NodeType) → is_some o ≡ true → IsSome o
      some None e = cc
      some (Some t) e = refl

      go : (a : Bool) → is_among (nodes_new S.new) n ≡ a → (b : Bool) → is_in E n ≡ b → (c : Bool) → is_in D n ≡ c → a ≡ (b && not c)
      go true e true f true g = let bad : ◌≡◌ {A = Bool} true false = sym g ∙ new_apart n e in cc
      go true e true f false g = refl
      go true e false f c g = let bad : ◌≡◌ {A = Bool} true false = sym (new_there n e) ∙ f in cc
      go false e true f true g = refl
      go false e true f false g = let bad : ◌≡◌ {A = Bool} false true = sym e ∙ made_new n g (some (E.nodes n) f) in cc
      go false e false f c g = refl

  -- ## Where nodes are told to be, of those that the step lists

  module _ (listed : Nodes) (spots : NodeId → Option Spot) (lists : (n : NodeId) → listed n ≡ lists_node S n) (n : NodeId) where
    is_back : (s.mentioned n ≡ true) ⊎ (is_among (nodes_new S.new) n ≡ true) → named_back_of D E s.mentioned n ≡ true
    is_back (inl e) = ap (λ b. b || (is_in E n && not (is_in D n))) e
    is_back (inr e) = or-right (s.mentioned n) (is_in E n && not (is_in D n)) (sym (new_exactly n) ∙ e)

    pub told_back-so : IfSome (spots n) (λ p. E.place n ≡ p) → IfSome (told_of listed spots n) (λ p. (E.place n ≡ p) × (named_back_of D E s.mentioned n ≡ true))
    told_back-so h = go (listed n) refl
      where
        both : (o : Option Spot) → IfSome o (λ p. E.place n ≡ p) → named_back_of D E s.mentioned n ≡ true → IfSome o (λ p. (E.place n ≡ p) × (named_back_of D E s.mentioned n ≡ true))
        both None h e = tt
        both (Some p) h e = (h, e)

        go : (b : Bool) → listed n ≡ b → IfSome (cond b (spots n) None) (λ p. (E.place n ≡ p) × (named_back_of D E s.mentioned n ≡ true))
        go true e = both (spots n) h (is_back (listed_named n (sym (lists n) ∙ e)))
        go false e = tt

    pub told_back-all : (lists_node S n ≡ true → IsSome (spots n)) → named_back_of D E s.mentioned n ≡ true → same_node n root ≡ false → IsSome (told_of listed spots n)
    told_back-all h e z =
        let there : lists_node S n ≡ true = go (s.mentioned n) refl in
        subst (λ b. IsSome (cond b (spots n) None)) (sym (lists n ∙ there)) (h there)
      where
        go : (b : Bool) → s.mentioned n ≡ b → lists_node S n ≡ true
        go true f = all_listed n f z
        go false f = among _ n (append_left (nodes_new S.new ++ nodes_loose S.loose) (placed_before S.rows (map (λ (r : RegStep). r.before) S.regs)) n
            (append_left (nodes_new S.new) (nodes_loose S.loose) n (among-has (nodes_new S.new) n (new_exactly n ∙ ap (λ b. b || (is_in E n && not (is_in D n))) (sym f) ∙ e))))
