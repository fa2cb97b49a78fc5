-- What both parts of a commit as one mention, the first mentions, or the second does and it was there before.
use Rattle.std.proofs.Common.{◌≡◌, ◌≢◌, ◌⊎◌, inl, inr, ℕ, zero, suc, Bool, true, false, ◌&&◌, ◌||◌, List, [], ◌∷◌, ◌++◌, map, Option, Some, None, IfSome, IsSome, cond, refl, sym, ap, ◌∙◌, subst, is_some, option_and_then, option_map}
use Rattle.std.specs.List.{filter_map}
use Rattle.std.specs.Option.{option_or}
use Rattle.st_ids.specs.Listing.{Has}
use Rattle.st_ids.specs.Order.{same_field}
use Rattle.st_ids.proofs.Orders.{same_field-itself}
use Rattle.st_ids.proofs.Shared.{filter-from}
use Rattle.st_ids.specs.declared.names.CellId.{CellId}
use Rattle.st_ids.specs.declared.names.FieldId.{FieldId}
use Rattle.st_ids.specs.declared.names.NodeId.{NodeId}
use Rattle.st_kind.specs.Named.{Nodes}
use Rattle.st_lemmas.proofs.Bools.{and-true, or-cases, or-left, or-right, and-both, true-false}
use Rattle.st_lemmas.proofs.Options.{IsSome-Some, one_some}
use Rattle.st_marks.specs.declared.changes.Change.{Change}
use Rattle.st_marks.specs.declared.intents.Group.{Group}
use Rattle.st_marks.specs.declared.intents.Intent.{Intent}
use Rattle.st_marks.specs.declared.intents.Owned.{Owned}
use Rattle.st_marks.specs.declared.intents.Put.{Put}
use Rattle.st_marks.specs.declared.intents.To.{To}
use Rattle.st_marks.specs.declared.places.Spot.{Spot}
use Rattle.st_marks.specs.Back.{is_in}
use Rattle.st_marks.specs.CarryOut.{full, place_after, unless_cleared, with_groups, with_names}
use Rattle.st_marks.specs.Document.{Document, above, climb, node_of}
use Rattle.st_marks.specs.Embedding.{IsEmbedding, IsMentionedByIntent, named_by_intent}
use Rattle.st_marks.specs.Extends.{IsExtendedBy}
use Rattle.st_marks.specs.Intent.{Fits, IsKnown, cell_of, clears, group_at, is_new, new_row_of, put_of}
use Rattle.st_marks.specs.Join.{AreParts, IsJoin, IsOldAnchor, put_unless_new, unless_cleared_by}
use Rattle.st_marks.proofs.Climb.{above_known}
use Rattle.st_marks.proofs.Lookups.{clears-has, group_at-group, group_found, has-put, put-has}
use Rattle.st_marks.proofs.Members.{all-has, append_left, append_right, has-any, has-append, has-filter_map, has-map, map-has}
use Rattle.st_mention_laws.proofs.Mentions.{mentioned_above}
use Rattle.st_parts.specs.JoinedParts.{named_by_parts}

-- ## Names of one intent

module _ (D : Document) (N : Intent) where
  abbrev puts : List NodeId
  puts = map (λ (p : Put). p.node) N.put

  abbrev groups : List NodeId
  groups = map (λ (g : Group). g.node) N.groups

  abbrev targets : List NodeId
  targets = filter_map (λ (p : Put). option_and_then D.row_of (cell_of p.to)) N.put

  abbrev clear : List NodeId
  clear = map (λ (k : FieldId). k.node) N.clear

  abbrev Named : NodeId → Type 0
  Named n = Has (named_by_intent D N) n

  pub put_names : (n : NodeId) (t : To) → put_of N n ≡ Some t → Named n
  put_names n t e = append_left (puts ++ N.need ++ groups ++ targets) clear n (append_left (puts ++ N.need ++ groups) targets n (append_left (puts ++ N.need) groups n (append_left puts N.need n
      (map-has (λ (p : Put). p.node) N.put (record { node = n; to = t }) (put-has N n t e)))))

  need_names : (n : NodeId) → Has N.need n → Named n
  need_names n h = append_left (puts ++ N.need ++ groups ++ targets) clear n (append_left (puts ++ N.need ++ groups) targets n (append_left (puts ++ N.need) groups n (append_right puts N.need n h)))

  group_names : (g : Group) → Has N.groups g → Named g.node
  group_names g h = append_left (puts ++ N.need ++ groups ++ targets) clear g.node (append_left (puts ++ N.need ++ groups) targets g.node (append_right (puts ++ N.need) groups g.node (map-has (λ (g : Group). g.node) N.groups g h)))

  target_names : (n r : NodeId) (c : CellId) → put_of N n ≡ Some (To.Cell c) → D.row_of c ≡ Some r → Named r
  target_names n r c e row = append_left (puts ++ N.need ++ groups ++ targets) clear r (append_right (puts ++ N.need ++ groups) targets r
      (has-filter_map (λ (p : Put). option_and_then D.row_of (cell_of p.to)) N.put (record { node = n; to = To.Cell c }) r (put-has N n (To.Cell c) e) row))

  pub clear_names : (k : FieldId) → clears N k ≡ true → Named k.node
  clear_names k e = append_right (puts ++ N.need ++ groups ++ targets) clear k.node (map-has (λ (k : FieldId). k.node) N.clear k (clears-has N.clear k e))

  cell_is : (t : To) (c : CellId) → cell_of t ≡ Some c → t ≡ To.Cell c
  cell_is To.Nowhere c e = cc
  cell_is (To.Cell d) c e = ap (λ c. To.Cell c) (one_some d c e)
  cell_is (To.Register g) c e = cc

  -- a name is one of five
  by_name : (P : NodeId → Type 0) → ((n : NodeId) (t : To) → Has N.put (record { node = n; to = t }) → P n) → ((n : NodeId) → Has N.need n → P n) → ((g : Group) → Has N.groups g → P g.node)
      → ((n r : NodeId) (c : CellId) → Has N.put (record { node = n; to = To.Cell c }) → D.row_of c ≡ Some r → P r) → ((k : FieldId) → clears N k ≡ true → P k.node) → (n : NodeId) → Named n → P n
  by_name P put need group target cleared n h = elim (has-append (puts ++ N.need ++ groups ++ targets) clear n h) [
    | inr i ↦ (let k = has-map (λ (k : FieldId). k.node) N.clear n i in subst P k.2 (cleared k.0 (has-any (λ g. same_field g k.0) N.clear k.0 k.1 (same_field-itself k.0))))
    | inl a ↦ elim (has-append (puts ++ N.need ++ groups) targets n a) [
      | inr i ↦ (let p = filter-from (λ (p : Put). option_and_then D.row_of (cell_of p.to)) N.put n i in at p.0 p.1 (cell_of p.0.to) refl p.2)
      | inl b ↦ elim (has-append (puts ++ N.need) groups n b) [
        | inr i ↦ (let g = has-map (λ (g : Group). g.node) N.groups n i in subst P g.2 (group g.0 g.1))
        | inl c ↦ elim (has-append puts N.need n c) [
          | inr i ↦ need n i
          | inl i ↦ (let p = has-map (λ (p : Put). p.node) N.put n i in subst P p.2 (put p.0.node p.0.to p.1))
        ]
      ]
    ]
  ]
    where
      at : (p : Put) → Has N.put p → (q : Option CellId) → cell_of p.to ≡ q → option_and_then D.row_of q ≡ Some n → P n
      at p i None e q = cc
      at p i (Some c) e q = target p.node n c (subst (λ t. Has N.put (record { node = p.node; to = t })) (cell_is p.to c e) i) q

-- ## Both parts

-- a put that leads into a cell, whether or not the node is new
unless_new_at : (b : Bool) (t : To) (c : CellId) → put_unless_new b t ≡ Some (To.Cell c) → t ≡ To.Cell c
unless_new_at true To.Nowhere c e = cc
unless_new_at false To.Nowhere c e = cc
unless_new_at b (To.Cell d) c e = one_some (To.Cell d) (To.Cell c) e
unless_new_at b (To.Register g) c e = cc

cleared_at : (M : Intent) (t : To) (c : CellId) → unless_cleared_by M t ≡ To.Cell c → t ≡ To.Cell c
cleared_at M To.Nowhere c e = cc
cleared_at M (To.Cell d) c e = e
cleared_at M (To.Register g) c e = go (clears M g) e
  where
    go : (b : Bool) → cond b To.Nowhere (To.Register g) ≡ To.Cell c → To.Register g ≡ To.Cell c
    go true h = cc
    go false h = cc

module _ (D : Document) (N M J : Intent) (C X : Change) (x : IsExtendedBy D (full D N)) (p : AreParts D N M) (j : IsJoin N M J) (fits : Fits D J) (first : IsEmbedding D N C) (next : IsEmbedding (full D N) M X) where
  abbrev E : Document
  E = full D N

  abbrev K : Nodes
  K = named_by_parts D first.mentioned next.mentioned

  abbrev IsNamed : NodeId → Type 0
  IsNamed n = IsSome (D.nodes n) → K n ≡ true

  later : (n : NodeId) → IsSome (D.nodes n) → IsSome (E.nodes n)
  later n h = let t = IsSome-Some (D.nodes n) h in let e = x.nodes n t.0 t.1 in rw e refl

  by_first : (n : NodeId) → first.mentioned n ≡ true → K n ≡ true
  by_first n e = or-left (first.mentioned n) (next.mentioned n && is_in D n) e

  by_next : (n : NodeId) → next.mentioned n ≡ true → IsSome (D.nodes n) → K n ≡ true
  by_next n e h = or-right (first.mentioned n) (next.mentioned n && is_in D n) (and-both (next.mentioned n) (is_in D n) e h)

  of_first : (n : NodeId) → Has (named_by_intent D N) n → IsNamed n
  of_first n h known = by_first n ((first.which n).1 (n, h, known, zero, refl))

  of_next : (n : NodeId) → Has (named_by_intent E M) n → IsNamed n
  of_next n h known = by_next n ((next.which n).1 (n, h, later n known, zero, refl)) known

  -- ## Names

  -- where both put a node, one of the two puts it
  put_of_one : (n : NodeId) (t : To) → put_of J n ≡ Some t
      → ((u : To) × (put_of M n ≡ Some u) × (put_unless_new (is_new N n) u ≡ Some t)) ⊎ ((u : To) × (put_of N n ≡ Some u) × (put_unless_new (is_new N n) (unless_cleared_by M u) ≡ Some t))
  put_of_one n t e = go (put_of M n) refl (put_of N n) refl (sym (j.puts n) ∙ e)
    where
      go : (a : Option To) → put_of M n ≡ a → (b : Option To) → put_of N n ≡ b → option_and_then (put_unless_new (is_new N n)) (option_or a (option_map (unless_cleared_by M) b)) ≡ Some t
          → ((u : To) × (put_of M n ≡ Some u) × (put_unless_new (is_new N n) u ≡ Some t)) ⊎ ((u : To) × (put_of N n ≡ Some u) × (put_unless_new (is_new N n) (unless_cleared_by M u) ≡ Some t))
      go (Some u) q b r h = inl (u, q, h)
      go None q (Some u) r h = inr (u, r, h)
      go None q None r h = cc

  put_named : (n : NodeId) (t : To) → Has J.put (record { node = n; to = t }) → IsNamed n
  put_named n t h = elim (put_of_one n t (has-put J j.itself (record { node = n; to = t }) h)) [
    | inl (u, e, q) ↦ of_next n (put_names E M n u e)
    | inr (u, e, q) ↦ of_first n (put_names D N n u e)
  ]

  need_named : (n : NodeId) → Has J.need n → IsNamed n
  need_named n h = elim ((j.needs n).0 h) [ inl i ↦ of_first n (need_names D N n i) | inr i ↦ of_next n (need_names E M n i.0) ]

  target_named : (n r : NodeId) (c : CellId) → Has J.put (record { node = n; to = To.Cell c }) → D.row_of c ≡ Some r → IsNamed r
  target_named n r c h row = elim (put_of_one n (To.Cell c) (has-put J j.itself (record { node = n; to = To.Cell c }) h)) [
    | inl (u, e, q) ↦ of_next r (target_names E M n r c (e ∙ ap (λ (t : To). Some t) (unless_new_at (is_new N n) u c q)) (ap (λ o. option_or o (new_row_of N c)) row))
    | inr (u, e, q) ↦ of_first r (target_names D N n r c (e ∙ ap (λ (t : To). Some t) (cleared_at M u c (unless_new_at (is_new N n) (unless_cleared_by M u) c q))) row)
  ]

  clear_named : (k : FieldId) → clears J k ≡ true → IsNamed k.node
  clear_named k e = elim (or-cases (clears N k) (clears M k) (sym (j.clears_both k) ∙ e)) [ inl h ↦ of_first k.node (clear_names D N k h) | inr h ↦ of_next k.node (clear_names E M k h) ]

  group_named : (g : Group) → Has J.groups g → IsNamed g.node
  group_named g h = cells (group_at M g.node g.after) refl (group_at N g.node g.after) refl
    where
      old : (a : Option CellId) → IfSome a (λ c. D.row_of c ≡ Some g.node) → IsOldAnchor N a
      old None k = tt
      old (Some c) k = go (new_row_of N c) refl
        where
          go : (o : Option NodeId) → new_row_of N c ≡ o → o ≡ None
          go None q = refl
          go (Some r) q = absurd (let bad : ◌≡◌ {A = Option NodeId} None (Some g.node) = sym (p.first_fits.fresh_cells c (ap is_some q)) ∙ k in cc)

      made : group_at J g.node g.after ≡ group_at M g.node g.after ++ with_groups M g.node (group_at N g.node g.after)
      made = j.groups g.node g.after (old g.after (all-has (λ (g : Group). IsKnown D J g.node × IfSome g.after (λ c. D.row_of c ≡ Some g.node)) J.groups g fits.groups_known h).1)

      cells : (a : List Owned) → group_at M g.node g.after ≡ a → (b : List Owned) → group_at N g.node g.after ≡ b → IsNamed g.node
      cells (o ∷ os) q b r = let k = group_at-group M g.node g.after o (subst (λ l. Has l o) (sym q) (inl refl)) in subst IsNamed k.node (of_next k.group.node (group_names E M k.group k.listed))
      cells [] q (o ∷ os) r = let k = group_at-group N g.node g.after o (subst (λ l. Has l o) (sym r) (inl refl)) in subst IsNamed k.node (of_first k.group.node (group_names D N k.group k.listed))
      cells [] q [] r = absurd (all-has (λ (g : Group). g.cells ≢ []) J.groups g j.itself.group_some h (sym (group_found J j.itself g h) ∙ made ∙ (λ i. q i ++ with_groups M g.node (r i))))

  names_named : (n : NodeId) → Has (named_by_intent D J) n → IsNamed n
  names_named n h = by_name D J IsNamed put_named need_named group_named target_named clear_named n h

  -- ## What is above

  closed : (n q : NodeId) → IsSome (D.nodes n) → K n ≡ true → above D n ≡ Some q → K q ≡ true
  closed n q known e up = go (first.mentioned n) refl e
    where
      there : IsSome (D.nodes q)
      there = above_known D x.before n q up

      go : (a : Bool) → first.mentioned n ≡ a → (a || (next.mentioned n && is_in D n)) ≡ true → K q ≡ true
      go true f h = by_first q ((first.which q).1 (mentioned_above D N n q up ((first.which n).0 f)))
      go false f h = at (put_of N n) refl
        where
          named : next.mentioned n ≡ true
          named = (and-true (next.mentioned n) (is_in D n) h).0

          stays : above E n ≡ Some q → K q ≡ true
          stays k = by_next q ((next.which q).1 (mentioned_above E M n q k ((next.which n).0 named))) there

          at : (o : Option To) → put_of N n ≡ o → K q ≡ true
          at (Some t) k = absurd (true-false ((first.which n).1 (n, put_names D N n t k, known, zero, refl)) f)
          at None k = from (D.place n) refl
            where
              after : (s : Spot) → D.place n ≡ s → E.place n ≡ unless_cleared N s
              after s i = (λ w. place_after (with_names D N).row_of N (k w) (i w))

              from : (s : Spot) → D.place n ≡ s → K q ≡ true
              from Spot.Nowhere i = let bad : ◌≡◌ {A = Option NodeId} None (Some q) = sym (ap node_of i) ∙ up in cc
              from (Spot.Row r c) i = stays (ap node_of (after (Spot.Row r c) i) ∙ sym (ap node_of i) ∙ up)
              from (Spot.Register g) i = cleared (clears N g) refl
                where
                  is : g.node ≡ q
                  is = one_some g.node q (sym (ap node_of i) ∙ up)

                  cleared : (b : Bool) → clears N g ≡ b → K q ≡ true
                  cleared true w = subst (λ z. K z ≡ true) is (of_first g.node (clear_names D N g w) (subst (λ z. IsSome (D.nodes z)) (sym is) there))
                  cleared false w = stays (ap node_of (after (Spot.Register g) i ∙ ap (λ b. cond b Spot.Nowhere (Spot.Register g)) w) ∙ ap (λ z. Some z) is)

  climbs : (k : ℕ) (s n : NodeId) → IsSome (D.nodes s) → K s ≡ true → climb (above D) k s ≡ Some n → K n ≡ true
  climbs zero s n known e h = subst (λ z. K z ≡ true) (one_some s n h) e
  climbs (suc k) s n known e h = go (above D s) refl h (λ q f i. climbs k q n (above_known D x.before s q f) (closed s q known e f) i)
    where
      go : (o : Option NodeId) → above D s ≡ o → option_and_then (climb (above D) k) o ≡ Some n → ((q : NodeId) → above D s ≡ Some q → climb (above D) k q ≡ Some n → K n ≡ true) → K n ≡ true
      go None f i rest = cc
      go (Some q) f i rest = rest q f i

  pub parts_cover : (n : NodeId) → IsMentionedByIntent D J n → K n ≡ true
  parts_cover n h = climbs h.3 h.0 n h.2 (names_named h.0 h.1 h.2) h.4
