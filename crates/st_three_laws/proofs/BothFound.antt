-- What two find together in the seed of a third beside both: what each of the two finds is so there.
use Rattle.std.proofs.Common.{◌≡◌, ℕ, Bool, true, false, not, List, [], map, refl, sym, ap, ◌∙◌, subst}
use Rattle.std.specs.List.{filter, list_any}
use Rattle.std.specs.Option.{option_map_or}
use Rattle.st_ids.specs.Listing.{Has}
use Rattle.st_ids.specs.Order.{same_field, same_node}
use Rattle.st_ids.proofs.Orders.{same_field-true, same_node-itself, same_node-true}
use Rattle.st_ids.proofs.Shared.{filter-has}
use Rattle.st_ids.specs.declared.names.NodeId.{NodeId}
use Rattle.st_marks.specs.Document.{Document, content}
use Rattle.st_marks.proofs.Members.{any-has, append_left, append_right, first-distinct, map-has}
use Rattle.st_normal_laws.specs.Laid.{laid_document}
use Rattle.st_normal_laws.specs.Seed.{CanBeFound, Finds, FoundHeld, FoundRow, seed}
use Rattle.st_normal_laws.specs.Two.{AgreeBeside, cells_of_both, cells_of_row, joined_finds, joined_row, lists_row}
use Rattle.st_normal_laws.proofs.TwoSeed.{first-described, second-described, second_held, second_row}
use Rattle.st_puts.specs.Seen.{AreAsSeen}

module _ (F : ℕ) (X A U : Finds) (cx : CanBeFound F X) (cz : CanBeFound F (joined_finds A U)) (cu : CanBeFound F U) (beside : AgreeBeside A U) (both : AgreeBeside X (joined_finds A U)) where
  abbrev D : Document
  D = laid_document (seed F (joined_finds X (joined_finds A U)))

  abbrev others : List FoundRow
  others = filter (λ (r : FoundRow). not (lists_row A.rows r.node)) U.rows

  joined : (q : FoundRow) → Has A.rows q → AreAsSeen (content D q.node) (cells_of_both q.cells (cells_of_row U.rows q.node))
  joined q i = second_row F X (joined_finds A U) cx cz both (joined_row U.rows q) (append_left (map (joined_row U.rows) A.rows) others (joined_row U.rows q) (map-has (joined_row U.rows) A.rows q i))

  pub first-seen : (q : FoundRow) → Has A.rows q → AreAsSeen (content D q.node) q.cells
  first-seen q i = first-described (content D q.node) q.cells (cells_of_row U.rows q.node) (joined q i)

  pub other-seen : (q : FoundRow) → Has U.rows q → AreAsSeen (content D q.node) q.cells
  other-seen q i = go (lists_row A.rows q.node) refl
    where
      looked : (n : NodeId) → n ≡ q.node → cells_of_row U.rows n ≡ q.cells
      looked n e = ap (λ o. option_map_or (λ (r : FoundRow). r.cells) o []) (first-distinct (λ (r : FoundRow). r.node) U.rows (λ (r : FoundRow). same_node r.node n) q cu.rows_once i (ap (λ k. same_node k n) (sym e) ∙ same_node-itself n) (λ r f. same_node-true r.node n f ∙ e))

      go : (v : Bool) → lists_row A.rows q.node ≡ v → AreAsSeen (content D q.node) q.cells
      go false e = second_row F X (joined_finds A U) cx cz both q (append_right (map (joined_row U.rows) A.rows) others q (filter-has (λ (r : FoundRow). not (lists_row A.rows r.node)) U.rows q i (ap not e)))
      go true e =
          let p = any-has (λ (r : FoundRow). same_node r.node q.node) A.rows e in
          let same = same_node-true p.0.node q.node p.2 in
          subst (λ n. AreAsSeen (content D n) q.cells) same
          (second-described (content D p.0.node) p.0.cells q.cells (beside.rows p.0 q p.1 i same) (subst (λ ys. AreAsSeen (content D p.0.node) (cells_of_both p.0.cells ys)) (looked p.0.node same) (joined p.0 p.1)))

  abbrev other_held : List FoundHeld
  other_held = filter (λ (h : FoundHeld). not (list_any (λ (k : FoundHeld). same_field k.field h.field) A.held)) U.held

  pub first-holds : (h : FoundHeld) → Has A.held h → D.held h.field ≡ h.node
  first-holds h i = second_held F X (joined_finds A U) cx cz both h (append_left A.held other_held h i)

  pub other-holds : (h : FoundHeld) → Has U.held h → D.held h.field ≡ h.node
  other-holds h i = go (list_any (λ (k : FoundHeld). same_field k.field h.field) A.held) refl
    where
      go : (v : Bool) → list_any (λ (k : FoundHeld). same_field k.field h.field) A.held ≡ v → D.held h.field ≡ h.node
      go false e = second_held F X (joined_finds A U) cx cz both h (append_right A.held other_held h (filter-has (λ (h : FoundHeld). not (list_any (λ (k : FoundHeld). same_field k.field h.field) A.held)) U.held h i (ap not e)))
      go true e =
          let k = any-has (λ (k : FoundHeld). same_field k.field h.field) A.held e in
          let f = same_field-true k.0.field h.field k.2 in
          subst (λ f. D.held f ≡ h.node) f (first-holds k.0 k.1 ∙ beside.held k.0 h k.1 i f)
