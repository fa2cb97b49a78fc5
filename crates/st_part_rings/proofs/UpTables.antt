-- A table of which node is above each that is linked.
use Rattle.std.proofs.Common.{◌≡◌, ◌<◌, ◌≤◌, ◌+◌, ℕ, Bool, true, false, cond, List, [], ◌∷◌, ◌++◌, length, map, take, get_or, is_some, Option, Some, None, refl, sym, ap, ◌∙◌, subst, inl, inr}
use Rattle.std.proofs.lemmas.List.{take_all}
use Rattle.st_ids.specs.Listing.{Has}
use Rattle.st_ids.specs.Order.{same_node}
use Rattle.st_ids.specs.declared.names.NodeId.{NodeId}
use Rattle.st_ids.proofs.Orders.{is_eq_equal, node_cmp_exact, same_node-itself}
use Rattle.st_lemmas.proofs.FirstItems.{take_one}
use Rattle.st_lemmas.proofs.Options.{one_some}
use Rattle.st_marks.specs.Document.{ClimbsToAnEnd}
use Rattle.st_marks.proofs.Members.{append_left, append_right, has-append, has-map, map-has}
use Rattle.st_normal.specs.inside.Ring.{AreListed, HasRing}
use Rattle.st_normal.proofs.AboveItself.{all_end}
use Rattle.st_part_rings.specs.declared.links.Link.{Link}
use Rattle.st_part_rings.specs.inside.Links.{IsUp, link}

abbrev pub link_node : Link → NodeId
link_node l = l.node

pub no_up : (links : List Link) (up : NodeId → Option NodeId) → ((n : NodeId) → up n ≡ None) → IsUp (take 0 links) up
no_up links up none = record { linked = λ n p e. absurd (let bad : None ≡ Some p = sym (none n) ∙ e in cc); all = λ l h. absurd h }

module _ (links : List Link) (i : ℕ) (d : Link) (before now : NodeId → Option NodeId) (inside : i < length links)
    (more : (n : NodeId) → now n ≡ cond (same_node (get_or links i d).node n) (Some (get_or links i d).up) (before n)) (so_far : IsUp (take i links) before) where
  abbrev x : Link
  x = get_or links i d

  front : take (i + 1) links ≡ take i links ++ x ∷ []
  front = take_one links i d x inside refl

  within : (l : Link) → Has (take i links ++ x ∷ []) l → Has (take (i + 1) links) l
  within l h = subst (λ ls. Has ls l) (sym front) h

  same : (n : NodeId) → same_node x.node n ≡ true → x.node ≡ n
  unfolding same_node
  same n e = node_cmp_exact x.node n (is_eq_equal _ e)

  linked : (n p : NodeId) → now n ≡ Some p → (b : Bool) → same_node x.node n ≡ b → Has (take (i + 1) links) (link n p)
  linked n p e true t =
      let w = same n t in
      let q : x.up ≡ p = one_some x.up p (sym (more n ∙ ap (λ b. cond b (Some x.up) (before n)) t) ∙ e) in
      within (link n p) (append_right (take i links) (x ∷ []) (link n p) (inl (λ j. record { node = w j; up = q j })))
  linked n p e false t = within (link n p) (append_left (take i links) (x ∷ []) (link n p) (so_far.linked n p (sym (more n ∙ ap (λ b. cond b (Some x.up) (before n)) t) ∙ e)))

  kept : (n : NodeId) → is_some (before n) ≡ true → (b : Bool) → same_node x.node n ≡ b → is_some (now n) ≡ true
  kept n e true t = ap is_some (more n ∙ ap (λ b. cond b (Some x.up) (before n)) t)
  kept n e false t = ap is_some (more n ∙ ap (λ b. cond b (Some x.up) (before n)) t) ∙ e

  last : (n : NodeId) → x.node ≡ n → is_some (now n) ≡ true
  last n e = ap is_some (more n ∙ ap (λ b. cond b (Some x.up) (before n)) (subst (λ m. same_node x.node m ≡ true) e (same_node-itself x.node)))

  pub up_more : IsUp (take (i + 1) links) now
  up_more = record {
    linked = λ n p e. linked n p e (same_node x.node n) refl;
    all = λ l h. elim (has-append (take i links) (x ∷ []) l (subst (λ ls. Has ls l) front h)) [
      | inl k ↦ kept l.node (so_far.all l k) (same_node x.node l.node) refl
      | inr k ↦ elim k [ inl q ↦ last l.node (ap link_node q) | inr w ↦ absurd w ]
    ];
  }

pub whole_up : (links : List Link) (i : ℕ) (up : NodeId → Option NodeId) → length links ≤ i → IsUp (take i links) up → IsUp links up
whole_up links i up l h = subst (λ ls. IsUp ls up) (take_all i links l) h

pub up_listed : (links : List Link) (up : NodeId → Option NodeId) → IsUp links up → AreListed up (map link_node links)
up_listed links up h n p e = map-has link_node links (link n p) (h.linked n p e)

-- ## Climbs from each that is linked

pub gone_more : (up : NodeId → Option NodeId) (links : List Link) (i : ℕ) (d : Link) → i < length links → ClimbsToAnEnd up (get_or links i d).node
    → ((l : Link) → Has (take i links) l → ClimbsToAnEnd up l.node) → (l : Link) → Has (take (i + 1) links) l → ClimbsToAnEnd up l.node
gone_more up links i d inside ends so_far l h = elim (has-append (take i links) (get_or links i d ∷ []) l (subst (λ ls. Has ls l) (take_one links i d (get_or links i d) inside refl) h)) [
  | inl k ↦ so_far l k
  | inr k ↦ elim k [ inl q ↦ subst (ClimbsToAnEnd up) (ap link_node q) ends | inr w ↦ absurd w ]
]

pub all_gone : (up : NodeId → Option NodeId) (links : List Link) (i : ℕ) → AreListed up (map link_node links) → length links ≤ i → ((l : Link) → Has (take i links) l → ClimbsToAnEnd up l.node) → HasRing up → ⊥
all_gone up links i listed l gone = all_end up (map link_node links) listed (λ n h. let w = has-map link_node links n h in subst (ClimbsToAnEnd up) w.2 (gone w.0 (subst (λ ls. Has ls w.0) (sym (take_all i links l)) w.1)))
