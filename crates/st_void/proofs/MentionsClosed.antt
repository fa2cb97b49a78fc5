-- What an intent mentions or makes, and that this is closed above, before it and after it.
use Rattle.std.proofs.Common.{◌≡◌, zero, suc, true, List, ◌++◌, map, Option, Some, None, option_and_then, refl, sym, ap, ◌∙◌, subst, inl, inr, ◌⊎◌, IsSome}
use Rattle.std.proofs.lemmas.Option.{same_Some}
use Rattle.std.specs.List.{filter_map}
use Rattle.std.specs.Prelude.{IfSome}
use Rattle.std.specs.Option.{option_map_or, option_or}
use Rattle.st_ids.specs.Listing.{Has}
use Rattle.st_ids.specs.declared.names.CellId.{CellId}
use Rattle.st_ids.specs.declared.names.FieldId.{FieldId}
use Rattle.st_ids.specs.declared.names.NodeId.{NodeId}
use Rattle.st_marks.specs.declared.intents.Group.{Group}
use Rattle.st_marks.specs.declared.intents.Intent.{Intent}
use Rattle.st_marks.specs.declared.intents.Put.{Put}
use Rattle.st_marks.specs.declared.intents.To.{To}
use Rattle.st_marks.specs.declared.places.Spot.{Spot}
use Rattle.st_marks.specs.CarryOut.{full, place_after, spot_of, with_names}
use Rattle.st_marks.specs.Document.{Document, IsSoundInForm, above, node_of}
use Rattle.st_marks.specs.Embedding.{IsMentionedByIntent, named_by_intent}
use Rattle.st_marks.specs.Intent.{Fits, IsKnown, cell_of, clears, is_new, new_row_of, put_of}
use Rattle.st_marks.proofs.Climb.{climb_more, unknown_nowhere}
use Rattle.st_marks.proofs.Full.{known_put, unput_above}
use Rattle.st_marks.proofs.Lookups.{clears-has, group-new_row_of, put-has, put_clears}
use Rattle.st_marks.proofs.Members.{all-has, append_left, append_right, has-filter_map, map-has}
use Rattle.st_void.specs.declared.standing.When.{When}
use Rattle.st_void.specs.Standing.{document_at}

-- the intent mentions the node; or makes it, where the document after it is meant
abbrev pub IsNamedAt : When → Document → Intent → NodeId → Type 0
IsNamedAt When.Before D N n = IsMentionedByIntent D N n
IsNamedAt When.After D N n = IsMentionedByIntent D N n ⊎ (is_new N n ≡ true)

module _ (D : Document) (N : Intent) where
  abbrev puts : List NodeId
  puts = map (λ (p : Put). p.node) N.put

  abbrev of_groups : List NodeId
  of_groups = map (λ (g : Group). g.node) N.groups

  abbrev of_targets : List NodeId
  of_targets = filter_map (λ (p : Put). option_and_then D.row_of (cell_of p.to)) N.put

  abbrev of_clears : List NodeId
  of_clears = map (λ (k : FieldId). k.node) N.clear

  pub need_named : (n : NodeId) → Has N.need n → Has (named_by_intent D N) n
  need_named n h = append_left (puts ++ N.need ++ of_groups ++ of_targets) of_clears n (append_left (puts ++ N.need ++ of_groups) of_targets n (append_left (puts ++ N.need) of_groups n (append_right puts N.need n h)))

  pub put_named : (n : NodeId) (to : To) → put_of N n ≡ Some to → Has (named_by_intent D N) n
  put_named n to e = append_left (puts ++ N.need ++ of_groups ++ of_targets) of_clears n (append_left (puts ++ N.need ++ of_groups) of_targets n (append_left (puts ++ N.need) of_groups n (append_left puts N.need n (map-has (λ (p : Put). p.node) N.put (record { node = n; to = to }) (put-has N n to e)))))

  group_named : (g : Group) → Has N.groups g → Has (named_by_intent D N) g.node
  group_named g h = append_left (puts ++ N.need ++ of_groups ++ of_targets) of_clears g.node (append_left (puts ++ N.need ++ of_groups) of_targets g.node (append_right (puts ++ N.need) of_groups g.node (map-has (λ (g : Group). g.node) N.groups g h)))

  target_named : (k : NodeId) (c : CellId) (r : NodeId) → put_of N k ≡ Some (To.Cell c) → D.row_of c ≡ Some r → Has (named_by_intent D N) r
  target_named k c r e h = append_left (puts ++ N.need ++ of_groups ++ of_targets) of_clears r (append_right (puts ++ N.need ++ of_groups) of_targets r (has-filter_map (λ (p : Put). option_and_then D.row_of (cell_of p.to)) N.put (record { node = k; to = To.Cell c }) r (put-has N k (To.Cell c) e) h))

  clear_named : (k : FieldId) → clears N k ≡ true → Has (named_by_intent D N) k.node
  clear_named k e = append_right (puts ++ N.need ++ of_groups ++ of_targets) of_clears k.node (map-has (λ (g : FieldId). g.node) N.clear k (clears-has N.clear k e))

  pub mentioned_if_named : (n : NodeId) → Has (named_by_intent D N) n → IsSome (D.nodes n) → IsMentionedByIntent D N n
  mentioned_if_named n h k = (n, h, k, zero, refl)

  pub mentioned_above : (n p : NodeId) → IsMentionedByIntent D N n → above D n ≡ Some p → IsMentionedByIntent D N p
  mentioned_above n p k up = (k.0, k.1, k.2, suc k.3, climb_more (above D) k.3 k.0 n p k.4 up)

  module _ (s : IsSoundInForm D) (f : Fits D N) where
    pub old_or_new : (n : NodeId) → Has (named_by_intent D N) n → IsKnown D N n → IsNamedAt When.After D N n
    old_or_new n h (inl k) = inr k
    old_or_new n h (inr k) = inl (mentioned_if_named n h k)

    above_put : (n p : NodeId) (to : To) → put_of N n ≡ Some to → node_of (spot_of (with_names D N).row_of to) ≡ Some p → IsNamedAt When.After D N p
    above_put n p To.Nowhere e up = cc
    above_put n p (To.Register g) e up =
        let same : g.node ≡ p = same_Some g.node p up in
        let listed = put_clears N f.itself n g (put-has N n (To.Register g) e) in
        subst (IsNamedAt When.After D N) same (old_or_new g.node (clear_named g listed) (known_put D N f n (To.Register g) e).2)
    above_put n p (To.Cell c) e up = go (D.row_of c) refl (new_row_of N c) refl up
      where
        go : (o : Option NodeId) → D.row_of c ≡ o → (w : Option NodeId) → new_row_of N c ≡ w → node_of (option_map_or (λ r. Spot.Row r c) (option_or o w) Spot.Nowhere) ≡ Some p → IsNamedAt When.After D N p
        go (Some r) h w i u =
            let same : r ≡ p = same_Some r p u in
            let there = (s.one_row c r).0 h in
            subst (IsNamedAt When.After D N) same (inl (mentioned_if_named r (target_named n c r e h) (s.cells_known r _ there.1).0))
        go None h None i u = cc
        go None h (Some r) i u =
            let same : r ≡ p = same_Some r p u in
            let g = group-new_row_of N c r i in
            subst (IsNamedAt When.After D N) same (subst (IsNamedAt When.After D N) g.2 (old_or_new g.0.node (group_named g.0 g.1) (all-has (λ (g : Group). IsKnown D N g.node × IfSome g.after (λ c. D.row_of c ≡ Some g.node)) N.groups g.0 f.groups_known g.1).0))

    above_unput : (n p : NodeId) → IsNamedAt When.After D N n → put_of N n ≡ None → above (full D N) n ≡ Some p → IsNamedAt When.After D N p
    above_unput n p told none up = go (unput_above D N n none) told
      where
        go : (above (full D N) n ≡ None) ⊎ (above (full D N) n ≡ above D n) → IsNamedAt When.After D N n → IsNamedAt When.After D N p
        go (inl e) t = let bad : None ≡ Some p = sym e ∙ up in cc
        go (inr e) (inl m) = inl (mentioned_above n p m (sym e ∙ up))
        go (inr e) (inr m) =
            let fresh = f.fresh_nodes n m in
            let bad : None ≡ Some p = sym (ap node_of (unknown_nowhere D s n fresh)) ∙ sym e ∙ up in cc

    -- what is above such a node is one
    pub named_above : (w : When) (n p : NodeId) → IsNamedAt w D N n → above (document_at w D N) n ≡ Some p → IsNamedAt w D N p
    named_above When.Before n p told up = mentioned_above n p told up
    named_above When.After n p told up = go (put_of N n) refl
      where
        go : (o : Option To) → put_of N n ≡ o → IsNamedAt When.After D N p
        go None e = above_unput n p told e up
        go (Some to) e = above_put n p to e (sym (ap (λ o. node_of (place_after (with_names D N).row_of N o (D.place n))) e) ∙ up)
