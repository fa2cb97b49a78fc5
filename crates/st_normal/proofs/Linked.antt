-- Links between nodes, and where nodes are shown.
use Rattle.std.proofs.Common.{◌≡◌, ◌↔◌, ℕ, true, List, ◌++◌, map, slice_get, Option, Some, None, option_map, refl, sym, ap, ◌∙◌, subst, inl, inr}
use Rattle.std.specs.List.{find}
use Rattle.st_ids.specs.Listing.{AreDistinct, Has}
use Rattle.st_ids.specs.declared.names.CellId.{CellId}
use Rattle.st_ids.specs.declared.names.FieldId.{FieldId}
use Rattle.st_ids.specs.declared.names.NodeId.{NodeId}
use Rattle.st_normal.specs.declared.entries.Link.{Link}
use Rattle.st_marks.specs.declared.marks.RowMarks.{RowMarks}
use Rattle.st_marks.specs.declared.places.Spot.{Spot}
use Rattle.st_marks.specs.Document.{node_of}
use Rattle.st_normal.specs.inside.Links.{link, links_in, links_at, up_by}
use Rattle.st_normal.specs.inside.Naming.{is_named}
use Rattle.st_normal.specs.inside.Ring.{AreListed}
use Rattle.st_marks.specs.Row.{CellMark, spread}
use Rattle.st_marks.specs.Listings.{Listing, CellView, Places, cell_view, one_or_none}
use Rattle.st_marks.specs.Listings.Places.{placed_in_row, placed_in_register, placed_nowhere}
use Rattle.st_marks.proofs.Members.{append_left, append_right, has-append, map-has, has-map, flat_map-has, has-flat_map, first-has, first-distinct}
use Rattle.st_normal.proofs.Naming.{named-name, name-named, same-node}

-- ## The node above

abbrev pub link_node : Link → NodeId
link_node l = l.node

up_by-has : (links : List Link) (n p : NodeId) → up_by links n ≡ Some p → Has links (link p n)
up_by-has links n p e = go (find (is_named (λ (l : Link). l.node.0) n.0) links) refl e
  where
    go : (o : Option Link) → find (is_named (λ (l : Link). l.node.0) n.0) links ≡ o → option_map (λ (l : Link). l.up) o ≡ Some p → Has links (link p n)
    go None f h = cc
    go (Some l) f h = let r = first-has (is_named (λ (l : Link). l.node.0) n.0) links l f in
        let w = same-node l.node n (named-name (λ (l : Link). l.node.0) n.0 l r.1) in
        let q : l.up ≡ p = cc in
        subst (Has links) (λ i. record { node = w i; up = q i }) r.0

pub up_listed : (links : List Link) → AreListed (up_by links) (map link_node links)
up_listed links n p e = map-has link_node links (link p n) (up_by-has links n p e)

has-up_by : (links : List Link) → AreDistinct link_node links → (n p : NodeId) → Has links (link p n) → up_by links n ≡ Some p
has-up_by links d n p h = ap (option_map (λ (l : Link). l.up)) (first-distinct link_node links (is_named (λ (l : Link). l.node.0) n.0) (link p n) d h
    (name-named (λ (l : Link). l.node.0) n.0 (link p n) refl) (λ y e. same-node y.node n (named-name (λ (l : Link). l.node.0) n.0 y e)))

-- where each node has one link, the node above is where it is shown
pub one_above : (At : NodeId → Spot → Type 0) (links : List Link) → AreDistinct link_node links → ((n p : NodeId) → Has links (link p n) ↔ ((s : Spot) × At n s × (node_of s ≡ Some p)))
    → (n p : NodeId) → (up_by links n ≡ Some p) ↔ ((s : Spot) × At n s × (node_of s ≡ Some p))
one_above At links d h n p = (λ e. (h n p).0 (up_by-has links n p e), λ s. has-up_by links d n p ((h n p).1 s))

-- ## What is shown

module _ {R : Type 0} (L : Listing) (rows : List RowMarks) (regs : List R) (field : R → FieldId) (held : R → Option NodeId) (stands : List CellMark → List NodeId) (cells : List CellMark → List CellView) where
  -- the listed rows and registers are shown, and only they hold a node
  pub record ShowsListed : Type 0 where
    pub row_shown : (r : RowMarks) → Has rows r → L.row r.node ≡ Some (cells (spread r.marks))
    pub row_listed : (n m : NodeId) (c : CellId) (cs : List CellView) (k : ℕ) → L.row n ≡ Some cs → slice_get cs k ≡ Some (cell_view c m true) → (r : RowMarks) × Has rows r × (r.node ≡ n) × (cells (spread r.marks) ≡ cs)
    pub register_shown : (r : R) → Has regs r → L.register (field r) ≡ Some (held r)
    pub register_listed : (f : FieldId) (m : NodeId) → L.register f ≡ Some (Some m) → (r : R) × Has regs r × (field r ≡ f) × (held r ≡ Some m)
    pub cell_stands : (ms : List CellMark) (k : ℕ) (c : CellId) (m : NodeId) → slice_get (cells ms) k ≡ Some (cell_view c m true) → Has (stands ms) m
    pub stands_cell : (ms : List CellMark) (m : NodeId) → Has (stands ms) m → (k : ℕ) × (c : CellId) × (slice_get (cells ms) k ≡ Some (cell_view c m true))

  one-has : (o : Option NodeId) (m : NodeId) → Has (one_or_none o) m → o ≡ Some m
  one-has None m h = absurd h
  one-has (Some x) m (inl e) = ap (λ y. Some y) e
  one-has (Some x) m (inr h) = absurd h

  has-one : (o : Option NodeId) (m : NodeId) → o ≡ Some m → Has (one_or_none o) m
  has-one o m e = subst (λ p. Has (one_or_none p) m) (sym e) (inl refl)

  link-parts : (p q m n : NodeId) → link p m ≡ link q n → (p ≡ q) × (m ≡ n)
  link-parts p q m n e = (ap (λ (l : Link). l.up) e, ap link_node e)

  pub says_linked : ShowsListed → (n p : NodeId) → Has (links_in stands rows ++ links_at field held regs) (link p n) ↔ ((s : Spot) × Places L n s × (node_of s ≡ Some p))
  says_linked w n p = (λ h. elim (has-append (links_in stands rows) (links_at field held regs) (link p n) h) [ inl i ↦ from_row i | inr i ↦ from_register i ], λ (s, y, e). back s y e)
    where
      from_row : Has (links_in stands rows) (link p n) → (s : Spot) × Places L n s × (node_of s ≡ Some p)
      from_row h =
          let r = has-flat_map (λ (r : RowMarks). map (link r.node) (stands (spread r.marks))) rows (link p n) h in
          let m = has-map (link r.0.node) (stands (spread r.0.marks)) (link p n) r.2 in
          let e = link-parts r.0.node p m.0 n m.2 in
          let k = w.stands_cell (spread r.0.marks) n (subst (Has (stands (spread r.0.marks))) e.1 m.1) in
          (Spot.Row r.0.node k.1, placed_in_row r.0.node n k.1 (cells (spread r.0.marks)) k.0 (w.row_shown r.0 r.1) k.2, ap (λ x. Some x) e.0)

      from_register : Has (links_at field held regs) (link p n) → (s : Spot) × Places L n s × (node_of s ≡ Some p)
      from_register h =
          let r = has-flat_map (λ (r : R). map (link (field r).node) (one_or_none (held r))) regs (link p n) h in
          let m = has-map (link (field r.0).node) (one_or_none (held r.0)) (link p n) r.2 in
          let e = link-parts (field r.0).node p m.0 n m.2 in
          (Spot.Register (field r.0), placed_in_register (field r.0) n (w.register_shown r.0 r.1 ∙ ap (λ o. Some o) (one-has (held r.0) m.0 m.1 ∙ ap (λ x. Some x) e.1)), ap (λ x. Some x) e.0)

      in_row : (q : NodeId) (c : CellId) (cs : List CellView) (k : ℕ) → L.row q ≡ Some cs → slice_get cs k ≡ Some (cell_view c n true) → q ≡ p → Has (links_in stands rows ++ links_at field held regs) (link p n)
      in_row q c cs k e f g =
          let r = w.row_listed q n c cs k e f in
          let i = w.cell_stands (spread r.0.marks) k c n (ap (λ x. slice_get x k) r.3 ∙ f) in
          append_left (links_in stands rows) (links_at field held regs) (link p n) (flat_map-has (λ (r : RowMarks). map (link r.node) (stands (spread r.marks))) rows r.0 (link p n) r.1
          (subst (λ x. Has (map (link r.0.node) (stands (spread r.0.marks))) (link x n)) (r.2 ∙ g) (map-has (link r.0.node) (stands (spread r.0.marks)) n i)))

      in_register : (f : FieldId) → L.register f ≡ Some (Some n) → f.node ≡ p → Has (links_in stands rows ++ links_at field held regs) (link p n)
      in_register f e g =
          let r = w.register_listed f n e in
          append_right (links_in stands rows) (links_at field held regs) (link p n) (flat_map-has (λ (r : R). map (link (field r).node) (one_or_none (held r))) regs r.0 (link p n) r.1
          (subst (λ x. Has (map (link (field r.0).node) (one_or_none (held r.0))) (link x n)) (ap (λ (f : FieldId). f.node) r.2 ∙ g) (map-has (link (field r.0).node) (one_or_none (held r.0)) n (has-one (held r.0) n r.3))))

      back : (s : Spot) → Places L n s → node_of s ≡ Some p → Has (links_in stands rows ++ links_at field held regs) (link p n)
      back s (placed_in_row q m c cs k e f) g = in_row q c cs k e f (let q : q ≡ p = cc in q)
      back s (placed_in_register f m e) g = in_register f e (let q : f.node ≡ p = cc in q)
      back s (placed_nowhere m e) g = cc
