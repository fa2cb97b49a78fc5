-- The rules on rings, by the links of nodes.
use Rattle.std.proofs.Common.{◌≡◌, ◌↔◌, ◌+◌, ◌≤◌, Bool, true, false, not, ◌&&◌, List, [], ◌++◌, map, Option, Some, None, refl, sym, subst, arith, if◌then◌else◌, IsTrue, IfSome}
use Rattle.std.specs.List.{filter}
use Rattle.std.specs.Option.{option_or}
use Rattle.st_ids.specs.Listing.{Has}
use Rattle.st_ids.specs.Order.{same_node}
use Rattle.st_ids.specs.declared.names.FieldId.{FieldId}
use Rattle.st_ids.specs.declared.names.NodeId.{NodeId}
use Rattle.st_ids.proofs.Orders.{same_node-true, same_node-itself}
use Rattle.st_marks.specs.declared.changes.Change.{Change}
use Rattle.st_marks.specs.declared.marks.How.{How}
use Rattle.st_marks.specs.declared.marks.How.TheVariants.{Stay, Here, Leave}
use Rattle.st_normal.specs.declared.entries.Link.{Link}
use Rattle.st_marks.specs.declared.marks.RegMark.{RegMark}
use Rattle.st_marks.specs.declared.marks.RegStep.{RegStep}
use Rattle.st_marks.specs.declared.places.Spot.{Spot}
use Rattle.st_marks.specs.declared.steps.Step.{Step}
use Rattle.st_marks.specs.Agree.{LeadsUp}
use Rattle.st_marks.specs.Document.{node_of}
use Rattle.st_marks.specs.Embedding.{is_among}
use Rattle.st_marks.specs.Intent.{same_option}
use Rattle.st_normal.specs.inside.Links.{link, links_in, links_at, stands_after, stands_before, up_by, are_new}
use Rattle.st_normal.specs.inside.Ring.{HasRing}
use Rattle.st_marks.specs.How.{is_here, is_leave}
use Rattle.st_normal.specs.Rules.{entries_of_change, entries_of_step, found_held, found_at, found_over, put_at, put_over, how_over, ChangeIsRising, StepIsRising, NodesAreFoundOnce, NodesArePutOnce, PutNodesLeave, NewNodesAreNotFound, NoRingBeforeChange, NoRingOfNewNodes, IsNewInNew}
use Rattle.st_marks.specs.Listings.{Places, cells_after, cells_before, held_after, nodes_new, one_or_none, listing_before_change, listing_after_change, listing_before_step, listing_after_step}
use Rattle.st_normal.proofs.AboveItself.{no_ring-leads_up}
use Rattle.st_normal.proofs.Counts.{times}
use Rattle.st_normal.proofs.Linked.{link_node, one_above, says_linked}
use Rattle.st_marks.proofs.Members.{any-has, has-any, distinct-filter}
use Rattle.st_normal.proofs.OnePlace.{found_node, lasting, once_before, once_after}
use Rattle.st_normal.proofs.ShownPlaces.{before_shows, after_shows}
use Rattle.st_ids.proofs.Shared.{filtered, filter-has}
use Rattle.st_lemmas.proofs.Bools.{and-both, and-true}
use Rattle.st_marks.proofs.Shared.{same-held}

-- ## Registers

held-times : (n : NodeId) (o : Option NodeId) (h : How) → times n (one_or_none o) ≤ times n (map found_node (found_held o h))
held-times n None h = omega arith
held-times n (Some m) h = omega arith

mark-times : (n : NodeId) (fill held : Option NodeId) (h : How) (clear : Bool)
    → times n (one_or_none (option_or fill (if is_leave h then None else if clear && not (is_here h) then None else held))) ≤ times n (lasting (found_held held h)) + times n (one_or_none fill)
mark-times n (Some m) held h clear = omega arith
mark-times n None None Stay true = omega arith
mark-times n None None Stay false = omega arith
mark-times n None None Here true = omega arith
mark-times n None None Here false = omega arith
mark-times n None None Leave clear = omega arith
mark-times n None (Some m) Stay true = omega arith
mark-times n None (Some m) Stay false = omega arith
mark-times n None (Some m) Here true = omega arith
mark-times n None (Some m) Here false = omega arith
mark-times n None (Some m) Leave clear = omega arith

stay-times : (n : NodeId) (o : Option NodeId) → times n (one_or_none o) ≤ times n (lasting (found_held o Stay)) + times n []
stay-times n None = omega arith
stay-times n (Some m) = omega arith

step-times : (r : RegStep) (n : NodeId) → times n (one_or_none r.after) ≤ times n (lasting (found_over r)) + times n (put_over r)
step-times r n = go (same_option same_node r.before r.after) refl
  where
    go : (b : Bool) → same_option same_node r.before r.after ≡ b → times n (one_or_none r.after) ≤ times n (lasting (found_held r.before (if b then Stay else Leave))) + times n (if b then [] else one_or_none r.after)
    go true e = subst (λ o. times n (one_or_none o) ≤ times n (lasting (found_held r.before Stay)) + times n []) (same-held r.before r.after e) (stay-times n r.before)
    go false e = omega arith

-- ## Before

pub before_change : (C : Change) → ChangeIsRising C → NodesAreFoundOnce (entries_of_change C) → (HasRing (up_by (links_in stands_before C.rows ++ links_at (λ (r : RegMark). r.field) (λ (r : RegMark). r.held) C.regs)) → ⊥) ↔ NoRingBeforeChange C
before_change C r d =
    let field = λ (r : RegMark). r.field in
    let held = λ (r : RegMark). r.held in
    let links = links_in stands_before C.rows ++ links_at field held C.regs in
    no_ring-leads_up (Places (listing_before_change C)) (up_by links)
    (one_above (Places (listing_before_change C)) links (once_before found_at put_at field held (λ r n. held-times n r.held r.how) C.new C.rows C.regs C.loose d)
    (says_linked (listing_before_change C) C.rows C.regs field held stands_before cells_before (before_shows (listing_before_change C) C.rows C.regs field held r.rows r.regs (λ n. refl) (λ f. refl))))

pub before_step : (S : Step) → StepIsRising S → NodesAreFoundOnce (entries_of_step S) → (HasRing (up_by (links_in stands_before S.rows ++ links_at (λ (r : RegStep). r.field) (λ (r : RegStep). r.before) S.regs)) → ⊥) ↔ ((n : NodeId) → LeadsUp (Places (listing_before_step S)) n n → ⊥)
before_step S r d =
    let field = λ (r : RegStep). r.field in
    let held = λ (r : RegStep). r.before in
    let links = links_in stands_before S.rows ++ links_at field held S.regs in
    no_ring-leads_up (Places (listing_before_step S)) (up_by links)
    (one_above (Places (listing_before_step S)) links (once_before found_over put_over field held (λ r n. held-times n r.before (how_over r)) S.new S.rows S.regs S.loose d)
    (says_linked (listing_before_step S) S.rows S.regs field held stands_before cells_before (before_shows (listing_before_step S) S.rows S.regs field held r.rows r.regs (λ n. refl) (λ f. refl))))

-- ## After

pub after_step : (S : Step) → StepIsRising S → NodesAreFoundOnce (entries_of_step S) → NodesArePutOnce (entries_of_step S) → PutNodesLeave (entries_of_step S) → NewNodesAreNotFound (entries_of_step S)
    → (HasRing (up_by (links_in stands_after S.rows ++ links_at (λ (r : RegStep). r.field) (λ (r : RegStep). r.after) S.regs)) → ⊥) ↔ ((n : NodeId) → LeadsUp (Places (listing_after_step S)) n n → ⊥)
after_step S r d u p q =
    let field = λ (r : RegStep). r.field in
    let held = λ (r : RegStep). r.after in
    let links = links_in stands_after S.rows ++ links_at field held S.regs in
    no_ring-leads_up (Places (listing_after_step S)) (up_by links)
    (one_above (Places (listing_after_step S)) links (once_after found_over put_over field held step-times S.new S.rows S.regs S.loose d u p q)
    (says_linked (listing_after_step S) S.rows S.regs field held stands_after cells_after (after_shows (listing_after_step S) S.rows S.regs field held r.rows r.regs S.new (λ n. refl) (λ f. refl))))

-- ## New nodes in new nodes

pub among_has : (xs : List NodeId) (n : NodeId) → IsTrue (is_among xs n) ↔ Has xs n
among_has xs n = (λ t. let r = any-has (λ (m : NodeId). same_node m n) xs t in subst (Has xs) (same_node-true r.0 n r.2) r.1, λ h. has-any (λ (m : NodeId). same_node m n) xs n h (same_node-itself n))

pub new_in_new : (C : Change) → ChangeIsRising C → NodesAreFoundOnce (entries_of_change C) → NodesArePutOnce (entries_of_change C) → PutNodesLeave (entries_of_change C) → NewNodesAreNotFound (entries_of_change C)
    → (HasRing (up_by (filter (are_new (nodes_new C.new)) (links_in stands_after C.rows ++ links_at (λ (r : RegMark). r.field) held_after C.regs))) → ⊥) ↔ NoRingOfNewNodes C
new_in_new C r d u p q =
    no_ring-leads_up (IsNewInNew C) (up_by (filter (are_new new) links))
    (one_above (IsNewInNew C) (filter (are_new new) links) (distinct-filter link_node (are_new new) links (once_after found_at put_at field held_after (λ r n. mark-times n r.fill r.held r.how r.clear) C.new C.rows C.regs C.loose d u p q)) same)
  where
    field : RegMark → FieldId
    field r = r.field

    new : List NodeId
    new = nodes_new C.new

    links : List Link
    links = links_in stands_after C.rows ++ links_at field held_after C.regs

    shown : (n m : NodeId) → Has links (link m n) ↔ ((s : Spot) × Places (listing_after_change C) n s × (node_of s ≡ Some m))
    shown = says_linked (listing_after_change C) C.rows C.regs field held_after stands_after cells_after (after_shows (listing_after_change C) C.rows C.regs field held_after r.rows r.regs C.new (λ n. refl) (λ f. refl))

    same : (n m : NodeId) → Has (filter (are_new new) links) (link m n) ↔ ((s : Spot) × IsNewInNew C n s × (node_of s ≡ Some m))
    same n m = (
      λ h. (let f = filtered (are_new new) links (link m n) h in
          let b = and-true (is_among new n) (is_among new m) f.1 in
          let s = (shown n m).0 f.0 in
          (s.0, ((among_has new n).0 b.0, subst (λ o. IfSome o (Has new)) (sym s.2) ((among_has new m).0 b.1), s.1), s.2)),
      λ (s, w, e). filter-has (are_new new) links (link m n) ((shown n m).1 (s, w.2, e))
          (and-both (is_among new n) (is_among new m) ((among_has new n).1 w.0) ((among_has new m).1 (subst (λ o. IfSome o (Has new)) e w.1))),
    )

pub both_new : (xs : List NodeId) (l : Link) → IsTrue (are_new xs l) ↔ (Has xs l.node × Has xs l.up)
both_new xs l = (
  λ t. (let b = and-true (is_among xs l.node) (is_among xs l.up) t in ((among_has xs l.node).0 b.0, (among_has xs l.up).0 b.1)),
  λ h. and-both (is_among xs l.node) (is_among xs l.up) ((among_has xs l.node).1 h.0) ((among_has xs l.up).1 h.1),
)
