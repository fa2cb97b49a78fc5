-- Over a step that moves none of the nodes that an intent mentions, and leaves the schemas, the intent's verdict stays.
use Rattle.std.proofs.Common.{◌≡◌, ℕ, zero, suc, Bool, true, false, List, ◌++◌, map, Option, Some, None, IsSome, IsTrue, refl, sym, ap, ◌∙◌, subst, inl, inr, ◌⊎◌, option_and_then}
use Rattle.std.specs.List.{filter_map}
use Rattle.std.specs.Option.{option_map_or, option_or}
use Rattle.st_ids.specs.Listing.{Has}
use Rattle.st_ids.specs.Order.{node_cmp}
use Rattle.st_ids.specs.declared.names.CellId.{CellId}
use Rattle.st_ids.specs.declared.names.FieldId.{FieldId}
use Rattle.st_ids.specs.declared.names.NodeId.{NodeId}
use Rattle.st_marks.specs.declared.intents.Group.{Group}
use Rattle.st_marks.specs.declared.intents.Intent.{Intent}
use Rattle.st_marks.specs.declared.intents.Put.{Put}
use Rattle.st_marks.specs.declared.intents.To.{To}
use Rattle.st_marks.specs.declared.places.Spot.{Spot}
use Rattle.st_marks.specs.declared.verdicts.Verdict.{Verdict}
use Rattle.st_marks.specs.CarryOut.{full, place_after, spot_of, unless_cleared, with_names}
use Rattle.st_marks.specs.Document.{Document, IsLive, above, climb, node_of, owned_cell}
use Rattle.st_marks.specs.Embedding.{IsMentionedByIntent, named_by_intent}
use Rattle.st_marks.specs.Extends.{IsExtendedBy}
use Rattle.st_marks.specs.Intent.{Fits, IsKnown, Owns, cell_of, is_new, new_row_of, put_of}
use Rattle.st_marks.specs.Verdict.{HasBase, IsAboveItself, IsBaseInEffect, IsLeast, IsUnmetNeed, IsVerdict}
use Rattle.st_marks.proofs.Climb.{unknown_nowhere}
use Rattle.st_marks.proofs.Full.{known_put, unput_above}
use Rattle.st_marks.proofs.Later.{has_later}
use Rattle.st_marks.proofs.Lookups.{clears-has, group-new_row_of, made_there, put-has, put_clears}
use Rattle.st_marks.proofs.Members.{all-has, append_left, append_right, has-filter_map, map-has}
use Rattle.st_mention_laws.proofs.Mentions.{mentioned_above}
use Rattle.st_passing.specs.Whole.{LeavesMentioned}

-- ## Two ways up that agree wherever the first leads

module _ (up vp : NodeId → Option NodeId) (P : NodeId → Type 0) (same : (n : NodeId) → P n → up n ≡ vp n) (closed : (n p : NodeId) → P n → up n ≡ Some p → P p) where
  pub climb_alike : (k : ℕ) (n : NodeId) → P n → climb up k n ≡ climb vp k n
  climb_alike zero n h = refl
  climb_alike (suc k) n h = go (up n) refl (λ p w. climb_alike k p w)
    where
      go : (o : Option NodeId) → up n ≡ o → ((p : NodeId) → P p → climb up k p ≡ climb vp k p) → option_and_then (climb up k) (up n) ≡ option_and_then (climb vp k) (vp n)
      go None e rest = ap (option_and_then (climb up k)) e ∙ sym (ap (option_and_then (climb vp k)) (sym (same n h) ∙ e))
      go (Some p) e rest = ap (option_and_then (climb up k)) e ∙ rest p (closed n p h e) ∙ sym (ap (option_and_then (climb vp k)) (sym (same n h) ∙ e))

-- ## What an intent names

module _ (D : Document) (N : Intent) where
  abbrev puts : List NodeId
  puts = map (λ (p : Put). p.node) N.put

  abbrev groups : List NodeId
  groups = map (λ (g : Group). g.node) N.groups

  abbrev targets : List NodeId
  targets = filter_map (λ (p : Put). option_and_then D.row_of (cell_of p.to)) N.put

  abbrev clear_nodes : List NodeId
  clear_nodes = map (λ (f : FieldId). f.node) N.clear

  put_named : (n : NodeId) (to : To) → put_of N n ≡ Some to → Has (named_by_intent D N) n
  put_named n to e =
      append_left (puts ++ N.need ++ groups ++ targets) clear_nodes n (append_left (puts ++ N.need ++ groups) targets n (append_left (puts ++ N.need) groups n
      (append_left puts N.need n (map-has (λ (p : Put). p.node) N.put (record { node = n; to = to }) (put-has N n to e)))))

  need_named : (n : NodeId) → Has N.need n → Has (named_by_intent D N) n
  need_named n h = append_left (puts ++ N.need ++ groups ++ targets) clear_nodes n (append_left (puts ++ N.need ++ groups) targets n (append_left (puts ++ N.need) groups n (append_right puts N.need n h)))

  group_named : (g : Group) → Has N.groups g → Has (named_by_intent D N) g.node
  group_named g h =
      append_left (puts ++ N.need ++ groups ++ targets) clear_nodes g.node (append_left (puts ++ N.need ++ groups) targets g.node
      (append_right (puts ++ N.need) groups g.node (map-has (λ (g : Group). g.node) N.groups g h)))

  target_named : (n r : NodeId) (c : CellId) → put_of N n ≡ Some (To.Cell c) → D.row_of c ≡ Some r → Has (named_by_intent D N) r
  target_named n r c e h =
      append_left (puts ++ N.need ++ groups ++ targets) clear_nodes r (append_right (puts ++ N.need ++ groups) targets r
      (has-filter_map (λ (p : Put). option_and_then D.row_of (cell_of p.to)) N.put (record { node = n; to = To.Cell c }) r (put-has N n (To.Cell c) e) h))

  clear_named : (f : FieldId) → Has N.clear f → Has (named_by_intent D N) f.node
  clear_named f h = append_right (puts ++ N.need ++ groups ++ targets) clear_nodes f.node (map-has (λ (f : FieldId). f.node) N.clear f h)

-- ## Over the step

module _ (D E : Document) (N : Intent) (x : IsExtendedBy D E) (f : Fits D N) (e : Fits E N) (stay : LeavesMentioned D E N) where
  need_mentioned : (n : NodeId) → Has N.need n → IsMentionedByIntent D N n
  need_mentioned n h = (n, need_named D N n h, all-has (λ (n : NodeId). IsSome (D.nodes n)) N.need n f.needs_known h, 0, refl)

  climbs_alike : (k : ℕ) (n : NodeId) → IsMentionedByIntent D N n → climb (above D) k n ≡ climb (above E) k n
  climbs_alike = climb_alike (λ n. above D n) (λ n. above E n) (IsMentionedByIntent D N) (λ n m. ap node_of (stay n m)) (λ n p m up. mentioned_above D N n p up m)

  unmet_on : (n : NodeId) → IsUnmetNeed D N n → IsUnmetNeed E N n
  unmet_on n h = (h.0, λ (l : IsLive E n). h.1 (l.0, climbs_alike l.0 n (need_mentioned n h.0) ∙ l.1))

  unmet_back : (n : NodeId) → IsUnmetNeed E N n → IsUnmetNeed D N n
  unmet_back n h = (h.0, λ (l : IsLive D n). h.1 (l.0, sym (climbs_alike l.0 n (need_mentioned n h.0)) ∙ l.1))

  -- a node that the intent makes or mentions
  abbrev IsReached : NodeId → Type 0
  IsReached n = IsTrue (is_new N n) ⊎ IsMentionedByIntent D N n

  known_reached : (n : NodeId) → Has (named_by_intent D N) n → IsKnown D N n → IsReached n
  known_reached n h (inl new) = inl new
  known_reached n h (inr old) = inr (n, h, old, 0, refl)

  pub stands_alike : (n : NodeId) → IsReached n → D.place n ≡ E.place n
  stands_alike n (inl new) = unknown_nowhere D x.before n (f.fresh_nodes n new) ∙ sym (unknown_nowhere E x.after n (e.fresh_nodes n new))
  stands_alike n (inr m) = stay n m

  row_alike : (n : NodeId) (c : CellId) → Owns D N n c → D.row_of c ≡ E.row_of c
  row_alike n c (inl h) = (x.before.one_row c h.0).1 (n, h.1) ∙ sym ((x.after.one_row c h.0).1 (n, has_later (x.rows h.0) (owned_cell c n) h.1))
  row_alike n c (inr h) = f.fresh_cells c (made_there N (owned_cell c n) h) ∙ sym (e.fresh_cells c (made_there N (owned_cell c n) h))

  pub put_alike : (n : NodeId) (to : To) → put_of N n ≡ Some to → spot_of (with_names D N).row_of to ≡ spot_of (with_names E N).row_of to
  put_alike n To.Nowhere h = refl
  put_alike n (To.Register g) h = refl
  put_alike n (To.Cell c) h = ap (λ (o : Option NodeId). option_map_or (λ r. Spot.Row r c) (option_or o (new_row_of N c)) Spot.Nowhere) (row_alike n c (known_put D N f n (To.Cell c) h).1)

  pub place_alike : (n : NodeId) → IsReached n → (full D N).place n ≡ (full E N).place n
  place_alike n r = go (put_of N n) refl
    where
      go : (o : Option To) → put_of N n ≡ o → place_after (with_names D N).row_of N o (D.place n) ≡ place_after (with_names E N).row_of N o (E.place n)
      go None h = ap (unless_cleared N) (stands_alike n r)
      go (Some to) h = put_alike n to h

  -- ## Up from such a node the document after the intent leads to such nodes

  kept_above : (n p : NodeId) → IsReached n → above D n ≡ Some p → IsReached p
  kept_above n p (inr m) up = inr (mentioned_above D N n p up m)
  kept_above n p (inl new) up = let bad : None ≡ Some p = sym (ap node_of (unknown_nowhere D x.before n (f.fresh_nodes n new))) ∙ up in cc

  row_above : (n p : NodeId) (c : CellId) → put_of N n ≡ Some (To.Cell c) → (o : Option NodeId) → D.row_of c ≡ o → (q : Option NodeId) → new_row_of N c ≡ q
      → node_of (option_map_or (λ r. Spot.Row r c) (option_or o q) Spot.Nowhere) ≡ Some p → IsReached p
  row_above n p c h (Some r) a q b up =
      let same : r ≡ p = cc in
      let o = (x.before.one_row c r).0 a in
      subst IsReached same (known_reached r (target_named D N n r c h a) (inr (x.before.cells_known r (owned_cell c o.0) o.1).0))
  row_above n p c h None a (Some r) b up =
      let same : r ≡ p = cc in
      let g = group-new_row_of N c r b in
      subst IsReached (g.2 ∙ same) (known_reached g.0.node (group_named D N g.0 g.1) (all-has _ N.groups g.0 f.groups_known g.1).0)
  row_above n p c h None a None b up = cc

  put_above : (n p : NodeId) (to : To) → put_of N n ≡ Some to → node_of (spot_of (with_names D N).row_of to) ≡ Some p → IsReached p
  put_above n p To.Nowhere h up = cc
  put_above n p (To.Cell c) h up = row_above n p c h (D.row_of c) refl (new_row_of N c) refl up
  put_above n p (To.Register g) h up =
      let same : g.node ≡ p = cc in
      let there : Has N.clear g = clears-has N.clear g (put_clears N f.itself n g (put-has N n (To.Register g) h)) in
      subst IsReached same (known_reached g.node (clear_named D N g there) (all-has (λ (g : FieldId). IsKnown D N g.node) N.clear g f.clears_known there))

  reached_above : (n p : NodeId) → IsReached n → above (full D N) n ≡ Some p → IsReached p
  reached_above n p r up = go (put_of N n) refl up
    where
      unput : (above (full D N) n ≡ None) ⊎ (above (full D N) n ≡ above D n) → IsReached p
      unput (inl none) = let bad : None ≡ Some p = sym none ∙ up in cc
      unput (inr same) = kept_above n p r (sym same ∙ up)

      go : (o : Option To) → put_of N n ≡ o → node_of (place_after (with_names D N).row_of N o (D.place n)) ≡ Some p → IsReached p
      go None h w = unput (unput_above D N n h)
      go (Some to) h w = put_above n p to h w

  full_climbs_alike : (k : ℕ) (n : NodeId) → IsReached n → climb (above (full D N)) k n ≡ climb (above (full E N)) k n
  full_climbs_alike = climb_alike (λ n. above (full D N) n) (λ n. above (full E N) n) IsReached (λ n r. ap node_of (place_alike n r)) reached_above

  pub put_reached : (n : NodeId) → IsSome (put_of N n) → IsReached n
  put_reached n h = go (put_of N n) refl h
    where
      go : (o : Option To) → put_of N n ≡ o → IsSome o → IsReached n
      go None q h = let b : ◌≡◌ {A = Bool} false true = h in cc
      go (Some to) q h = known_reached n (put_named D N n to q) (known_put D N f n to q).0

  ring_on : (n : NodeId) → IsAboveItself D N n → IsAboveItself E N n
  ring_on n h = (h.0, (h.1.0, sym (full_climbs_alike (suc h.1.0) n (put_reached n h.0)) ∙ h.1.1))

  ring_back : (n : NodeId) → IsAboveItself E N n → IsAboveItself D N n
  ring_back n h = (h.0, (h.1.0, full_climbs_alike (suc h.1.0) n (put_reached n h.0) ∙ h.1.1))

  least_on : (P Q : NodeId → Type 0) → ((n : NodeId) → P n → Q n) → ((n : NodeId) → Q n → P n) → (n : NodeId) → IsLeast node_cmp P n → IsLeast node_cmp Q n
  least_on P Q on back n h = (on n h.0, λ m q. h.1 m (back m q))

  module _ (schemas : D.schemas ≡ E.schemas) where
    base_on : IsBaseInEffect D N → IsBaseInEffect E N
    base_on = subst (λ es. HasBase es N.schema N.under) schemas

    base_back : IsBaseInEffect E N → IsBaseInEffect D N
    base_back = subst (λ es. HasBase es N.schema N.under) (sym schemas)

    pub verdict_stays : (v : Verdict) → IsVerdict D N v → IsVerdict E N v
    verdict_stays (Verdict.Schema u) h = (h.0, λ b. h.1 (base_back b))
    verdict_stays (Verdict.Need n) h = (base_on h.0, least_on (IsUnmetNeed D N) (IsUnmetNeed E N) unmet_on unmet_back n h.1)
    verdict_stays (Verdict.Cycle n) h = (base_on h.0, (λ m u. h.1 m (unmet_back m u)), least_on (IsAboveItself D N) (IsAboveItself E N) ring_on ring_back n h.2)
    verdict_stays Verdict.Sound h = (base_on h.0, (λ m u. h.1 m (unmet_back m u)), (λ m u. h.2 m (ring_back m u)))
