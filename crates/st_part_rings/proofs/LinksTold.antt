-- Links of nodes at their places.
use Rattle.std.proofs.Common.{◌≡◌, ◌&&◌, ◌||◌, Bool, true, false, List, [], ◌∷◌, ◌++◌, map, Option, Some, None, refl, sym, ap, ◌∙◌, subst, inl, inr, ◌⊎◌, if◌then◌else◌, IsTrue, IfSome}
use mathlib.Core.Path.{fun_ext}
use Rattle.std.specs.List.{flat_map}
use Rattle.st_ids.specs.Listing.{Has}
use Rattle.st_ids.specs.declared.names.NodeId.{NodeId}
use Rattle.st_lemmas.proofs.Bools.{and-both, and-true, true-false}
use Rattle.st_marks.specs.declared.changes.Change.{Change}
use Rattle.st_marks.specs.declared.places.Spot.{Spot}
use Rattle.st_marks.specs.Agree.{MadeAt}
use Rattle.st_marks.specs.Document.{node_of}
use Rattle.st_marks.specs.Embedding.{is_among}
use Rattle.st_marks.specs.Listings.{Listing, Places, listing_after_change, nodes_new}
use Rattle.st_marks.proofs.Members.{append_left, append_right, flat_map-has, has-append, has-flat_map, has-map, map-has}
use Rattle.st_normal.proofs.NoRings.{among_has}
use Rattle.st_turn_places.specs.declared.places.Placed.{Placed}
use Rattle.st_turn_places.specs.Rules.{ArePlaces}
use Rattle.st_part_rings.specs.declared.links.Link.{Link}
use Rattle.st_part_rings.specs.inside.Links.{AreLinks, joint_links, kept_link, link, link_of, linked_to, made_to}

abbrev placed_node : Placed → NodeId
placed_node p = p.node

-- ## Places in one list

linked-parts : (n m p : NodeId) (o : Option NodeId) → Has (linked_to n o) (link m p) → (n ≡ m) × (o ≡ Some p)
linked-parts n m p None h = absurd h
linked-parts n m p (Some q) (inl e) = (ap (λ (l : Link). l.node) e, ap (λ (l : Link). Some l.up) e)
linked-parts n m p (Some q) (inr h) = absurd h

linked-has : (n p : NodeId) (o : Option NodeId) → o ≡ Some p → Has (linked_to n o) (link n p)
linked-has n p o e = subst (λ o. Has (linked_to n o) (link n p)) (sym e) (inl refl)

links_are : (L : Listing) (ps : List Placed) → ArePlaces ps L → AreLinks (flat_map link_of ps) (Places L)
links_are L ps told n p = (
  λ h.
      let r = has-flat_map link_of ps (link n p) h in
      let w = linked-parts r.0.node n p (node_of r.0.spot) r.2 in
      (r.0.spot, subst (λ m. Places L m r.0.spot) w.0 ((told r.0).0 r.1), w.1),
  λ (s, a, e). flat_map-has link_of ps (record { node = n; spot = s }) (link n p) ((told (record { node = n; spot = s })).1 a) (linked-has n p (node_of s) e),
)

pub are_left : (L : Listing) (places seen : List Placed) (links shown : List Link) → ArePlaces places L → seen ≡ places → links ≡ flat_map link_of seen → shown ≡ links → AreLinks shown (Places L)
are_left L places seen links shown told e f g = subst (λ l. AreLinks l (Places L)) (sym (g ∙ f ∙ ap (flat_map link_of) e)) (links_are L places told)

-- ## Places of made nodes in two lists

pub joint_from : (made taken none : NodeId → Bool) (ps qs : List Placed) (before between after : List Link) → before ≡ [] → ((n : NodeId) → taken n ≡ is_among (map placed_node qs) n) → ((n : NodeId) → none n ≡ false)
    → between ≡ before ++ flat_map (kept_link made taken) ps → after ≡ between ++ flat_map (kept_link made none) qs → after ≡ joint_links made (is_among (map placed_node qs)) ps qs
joint_from made taken none ps qs before between after empty t f first second =
    second ∙ (λ i. (first ∙ ap (λ l. l ++ flat_map (kept_link made taken) ps) empty ∙ ap (λ g. flat_map (kept_link made g) ps) (fun_ext t)) i ++ flat_map (kept_link made (fun_ext f i)) qs)

module _ (made : NodeId → Bool) where
  made-parts : (n m p : NodeId) (o : Option NodeId) → Has (made_to made n o) (link m p) → (n ≡ m) × (o ≡ Some p) × (made n ≡ true) × (made p ≡ true)
  made-parts n m p None h = absurd h
  made-parts n m p (Some q) h = go (made n && made q) refl h
    where
      go : (b : Bool) → (made n && made q) ≡ b → Has (if b then link n q ∷ [] else []) (link m p) → (n ≡ m) × (Some q ≡ Some p) × (made n ≡ true) × (made p ≡ true)
      go true e (inl i) = (ap (λ (l : Link). l.node) i, ap (λ (l : Link). Some l.up) i, (and-true (made n) (made q) e).0, subst (λ x. made x ≡ true) (ap (λ (l : Link). l.up) i) (and-true (made n) (made q) e).1)
      go true e (inr i) = absurd i
      go false e i = absurd i

  made-has : (n p : NodeId) (o : Option NodeId) → o ≡ Some p → made n ≡ true → made p ≡ true → Has (made_to made n o) (link n p)
  made-has n p o e a b = subst (λ o. Has (made_to made n o) (link n p)) (sym e) (subst (λ c. Has (if c then link n p ∷ [] else []) (link n p)) (sym (and-both (made n) (made p) a b)) (inl refl))

  kept-parts : (taken : NodeId → Bool) (q : Placed) (m p : NodeId) → Has (kept_link made taken q) (link m p) → (taken q.node ≡ false) × (q.node ≡ m) × (node_of q.spot ≡ Some p) × (made q.node ≡ true) × (made p ≡ true)
  kept-parts taken q m p h = go (taken q.node) refl h
    where
      go : (b : Bool) → taken q.node ≡ b → Has (if b then [] else made_to made q.node (node_of q.spot)) (link m p) → (taken q.node ≡ false) × (q.node ≡ m) × (node_of q.spot ≡ Some p) × (made q.node ≡ true) × (made p ≡ true)
      go true e i = absurd i
      go false e i = let w = made-parts q.node m p (node_of q.spot) i in (e, w.0, w.1, w.2, w.3)

  kept-has : (taken : NodeId → Bool) (n p : NodeId) (s : Spot) → taken n ≡ false → node_of s ≡ Some p → made n ≡ true → made p ≡ true → Has (kept_link made taken (record { node = n; spot = s })) (link n p)
  kept-has taken n p s t e a b = subst (λ c. Has (if c then [] else made_to made n (node_of s)) (link n p)) (sym t) (made-has n p (node_of s) e a b)

module _ (C K : Change) (first second : List Placed) (told : ArePlaces first (listing_after_change C)) (told_second : ArePlaces second (listing_after_change K)) where
  abbrev Made : NodeId → Bool
  Made n = is_among (nodes_new C.new) n || is_among (nodes_new K.new) n

  abbrev taken : NodeId → Bool
  taken = is_among (map placed_node second)

  abbrev nothing : NodeId → Bool
  nothing n = false

  none-taken : (n : NodeId) → taken n ≡ false → (t : Spot) → Places (listing_after_change K) n t → ⊥
  none-taken n f t a = true-false ((among_has (map placed_node second) n).1 (map-has placed_node second (record { node = n; spot = t }) ((told_second (record { node = n; spot = t })).1 a))) f

  not-taken : (n : NodeId) → ((t : Spot) → Places (listing_after_change K) n t → ⊥) → taken n ≡ false
  not-taken n none = go (taken n) refl
    where
      go : (b : Bool) → taken n ≡ b → taken n ≡ false
      go true e =
          let w = has-map placed_node second n ((among_has (map placed_node second) n).0 e) in
          absurd (none w.0.spot (subst (λ m. Places (listing_after_change K) m w.0.spot) w.2 ((told_second w.0).0 w.1)))
      go false e = e

  in-made : (n p : NodeId) (s : Spot) → node_of s ≡ Some p → Made n ≡ true → Made p ≡ true → Places (listing_after_change K) n s ⊎ (((t : Spot) → Places (listing_after_change K) n t → ⊥) × Places (listing_after_change C) n s) → MadeAt C K n s
  in-made n p s e a b w = (a, subst (λ o. IfSome o (λ x. IsTrue (Made x))) (sym e) b, w)

  joint-made : (n p : NodeId) → Has (joint_links Made taken first second) (link n p) → (s : Spot) × MadeAt C K n s × (node_of s ≡ Some p)
  joint-made n p h = elim (has-append (flat_map (kept_link Made taken) first) (flat_map (kept_link Made nothing) second) (link n p) h) [
    | inl i ↦ (let r = has-flat_map (kept_link Made taken) first (link n p) i in
        let w = kept-parts Made taken r.0 n p r.2 in
        (r.0.spot, in-made n p r.0.spot w.2 (subst (λ m. Made m ≡ true) w.1 w.3) w.4 (inr (none-taken n (subst (λ m. taken m ≡ false) w.1 w.0), subst (λ m. Places (listing_after_change C) m r.0.spot) w.1 ((told r.0).0 r.1))), w.2))
    | inr i ↦ (let r = has-flat_map (kept_link Made nothing) second (link n p) i in
        let w = kept-parts Made nothing r.0 n p r.2 in
        (r.0.spot, in-made n p r.0.spot w.2 (subst (λ m. Made m ≡ true) w.1 w.3) w.4 (inl (subst (λ m. Places (listing_after_change K) m r.0.spot) w.1 ((told_second r.0).0 r.1))), w.2))
  ]

  made-joint : (n p : NodeId) (s : Spot) → MadeAt C K n s → node_of s ≡ Some p → Has (joint_links Made taken first second) (link n p)
  made-joint n p s w e =
      let b : Made p ≡ true = subst (λ o. IfSome o (λ x. IsTrue (Made x))) e w.1 in
      elim w.2 [
        | inl a ↦ append_right (flat_map (kept_link Made taken) first) (flat_map (kept_link Made nothing) second) (link n p)
            (flat_map-has (kept_link Made nothing) second (record { node = n; spot = s }) (link n p) ((told_second (record { node = n; spot = s })).1 a) (kept-has Made nothing n p s refl e w.0 b))
        | inr a ↦ append_left (flat_map (kept_link Made taken) first) (flat_map (kept_link Made nothing) second) (link n p)
            (flat_map-has (kept_link Made taken) first (record { node = n; spot = s }) (link n p) ((told (record { node = n; spot = s })).1 a.1) (kept-has Made taken n p s (not-taken n a.0) e w.0 b))
      ]

  pub joint_are : (made : NodeId → Bool) → ((n : NodeId) → made n ≡ Made n) → (l : List Link) → l ≡ joint_links made taken first second → AreLinks l (MadeAt C K)
  joint_are made same l e n p =
      let q : l ≡ joint_links Made taken first second = e ∙ ap (λ m. joint_links m taken first second) (fun_ext same) in
      (λ h. joint-made n p (subst (λ ls. Has ls (link n p)) q h), λ (s, w, f). subst (λ ls. Has ls (link n p)) (sym q) (made-joint n p s w f))
