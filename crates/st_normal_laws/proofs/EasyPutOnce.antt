-- The easy half, in part: no node is put twice.
use Rattle.std.proofs.Common.{◌≡◌, ◌≢◌, ◌++◌, Bool, true, false, List, [], ◌∷◌, Option, Some, None, cond, refl, sym, ap, ◌∙◌, subst, inl, inr, ◌⊎◌}
use Rattle.std.specs.List.{flat_map}
use Rattle.st_ids.specs.Listing.{AreDistinct, Has}
use Rattle.st_ids.specs.Order.{field_cmp, node_cmp}
use Rattle.st_ids.proofs.Orders.{field_cmp_total, node_cmp_total}
use Rattle.st_ids.specs.declared.names.CellId.{CellId}
use Rattle.st_ids.specs.declared.names.FieldId.{FieldId}
use Rattle.st_ids.specs.declared.names.NodeId.{NodeId}
use Rattle.st_marks.specs.declared.changes.Change.{Change}
use Rattle.st_marks.specs.declared.intents.Intent.{Intent}
use Rattle.st_marks.specs.declared.intents.Owned.{Owned}
use Rattle.st_marks.specs.declared.intents.To.{To}
use Rattle.st_marks.specs.declared.marks.RegMark.{RegMark}
use Rattle.st_marks.specs.declared.marks.RowMarks.{RowMarks}
use Rattle.st_marks.specs.declared.places.Slot.{Slot}
use Rattle.st_marks.specs.Document.{Document, IsSoundInForm, content}
use Rattle.st_marks.specs.Embedding.{IsEmbedding, row_part}
use Rattle.st_marks.specs.Intent.{Fits, put_of}
use Rattle.st_marks.specs.Row.{CellMark, Counted, Gap, Touch, Make, Fill, RowPart, embed_cell, embed_cells, embed_made, embed_row, how, spread}
use Rattle.st_marks.specs.How.{is_here}
use Rattle.st_marks.specs.Listings.{cells_in, one_or_none}
use Rattle.st_marks.proofs.Lookups.{has-put, put_in-has}
use Rattle.st_marks.proofs.Members.{all-has, distinct-append, has-all, has-flat_map, list_distinct}
use Rattle.st_normal.specs.Rules.{NodesArePutOnce, incoming_nodes, in_rows, entries_of_change, put_at}
use Rattle.st_puts.proofs.Basics.{one-is}
use Rattle.st_puts.proofs.OverDocuments.{row-look}
use Rattle.st_normal_laws.proofs.EasyCells.{IsInRow, cells_are_once, in-row, one-row}
use Rattle.st_puts.proofs.RegisterRules.{fill-put}
use Rattle.st_puts.proofs.Groups.{distinct-flat}
use Rattle.st_puts.proofs.MeaningFits.{rising_distinct}
use Rattle.st_puts.proofs.PutsOfIntents.{is_here-put}

-- a mark by which a node comes into a cell
abbrev IsComing : CellMark → CellId → NodeId → Type 0
IsComing y d n = (y ≡ Make d n true) ⊎ (y ≡ Fill d n)

abbrev Comes : List CellMark → CellId → NodeId → Type 0
Comes ms d n = (y : CellMark) × Has ms y × IsComing y d n

more : (y : CellMark) (ms : List CellMark) (d : CellId) (n : NodeId) → Comes ms d n → Comes (y ∷ ms) d n
more y ms d n r = (r.0, inr r.1, r.2)

incoming-mark : (ms : List CellMark) (n : NodeId) → Has (incoming_nodes ms) n → (d : CellId) × Comes ms d n × Has (cells_in ms) d
incoming-mark [] n h = absurd h
incoming-mark (Counted ∷ ms) n h = let r = incoming-mark ms n h in (r.0, more Counted ms r.0 n r.1, r.2)
incoming-mark (Gap c ∷ ms) n h = let r = incoming-mark ms n h in (r.0, more (Gap c) ms r.0 n r.1, inr r.2)
incoming-mark (Touch c k g ∷ ms) n h = let r = incoming-mark ms n h in (r.0, more (Touch c k g) ms r.0 n r.1, inr r.2)
incoming-mark (Make c k true ∷ ms) n (inl q) = (c, (Make c k true, inl refl, inl (ap (λ k. Make c k true) q)), inl refl)
incoming-mark (Make c k true ∷ ms) n (inr h) = let r = incoming-mark ms n h in (r.0, more (Make c k true) ms r.0 n r.1, inr r.2)
incoming-mark (Make c k false ∷ ms) n h = let r = incoming-mark ms n h in (r.0, more (Make c k false) ms r.0 n r.1, inr r.2)
incoming-mark (Fill c k ∷ ms) n (inl q) = (c, (Fill c k, inl refl, inr (ap (λ k. Fill c k) q)), inl refl)
incoming-mark (Fill c k ∷ ms) n (inr h) = let r = incoming-mark ms n h in (r.0, more (Fill c k) ms r.0 n r.1, inr r.2)

-- who comes into a cell is put there
abbrev ArePut : (NodeId → Option To) → List CellMark → Type 0
ArePut target_of ms = (d : CellId) (n : NodeId) → Comes ms d n → target_of n ≡ Some (To.Cell d)

one-cell : (c d : CellId) → Some (To.Cell c) ≡ Some (To.Cell d) → c ≡ d
one-cell c d e = cc

incoming-once : (target_of : NodeId → Option To) (ms : List CellMark) → AreDistinct (λ (c : CellId). c) (cells_in ms) → ArePut target_of ms → AreDistinct (λ (n : NodeId). n) (incoming_nodes ms)
incoming-once target_of [] d p = tt
incoming-once target_of (Counted ∷ ms) d p = incoming-once target_of ms d (λ c n r. p c n (more Counted ms c n r))
incoming-once target_of (Gap e ∷ ms) d p = incoming-once target_of ms d.1 (λ c n r. p c n (more (Gap e) ms c n r))
incoming-once target_of (Touch e k g ∷ ms) d p = incoming-once target_of ms d.1 (λ c n r. p c n (more (Touch e k g) ms c n r))
incoming-once target_of (Make e k false ∷ ms) d p = incoming-once target_of ms d.1 (λ c n r. p c n (more (Make e k false) ms c n r))
incoming-once target_of (Make e k true ∷ ms) d p = (
  has-all (λ n. n ≢ k) (incoming_nodes ms) (λ n h q. let r = incoming-mark ms n h in
      all-has (λ c. c ≢ e) (cells_in ms) r.0 d.0 r.2 (one-cell r.0 e (sym (p r.0 n (more (Make e k true) ms r.0 n r.1)) ∙ ap target_of q ∙ p e k (Make e k true, inl refl, inl refl)))),
  incoming-once target_of ms d.1 (λ c n r. p c n (more (Make e k true) ms c n r)),
)
incoming-once target_of (Fill e k ∷ ms) d p = (
  has-all (λ n. n ≢ k) (incoming_nodes ms) (λ n h q. let r = incoming-mark ms n h in
      all-has (λ c. c ≢ e) (cells_in ms) r.0 d.0 r.2 (one-cell r.0 e (sym (p r.0 n (more (Fill e k) ms r.0 n r.1)) ∙ ap target_of q ∙ p e k (Fill e k, inl refl, inr refl)))),
  incoming-once target_of ms d.1 (λ c n r. p c n (more (Fill e k) ms c n r)),
)

made-put : (p : RowPart) (os : List Owned) (ms : List CellMark) → ArePut p.target_of ms → ArePut p.target_of (embed_made p os ++ ms)
made-put p [] ms w d n r = w d n r
made-put p (o ∷ os) ms w d n (y, inl q, inl e) =
    let mark : Make o.cell o.node (is_here (how (p.target_of o.node) (To.Cell o.cell))) ≡ Make d n true = q ∙ e in
    let a : o.cell ≡ d = cc in let b : o.node ≡ n = cc in let c : is_here (how (p.target_of o.node) (To.Cell o.cell)) ≡ true = cc in
    ap p.target_of (sym b) ∙ is_here-put (p.target_of o.node) (To.Cell o.cell) c ∙ ap (λ c. Some (To.Cell c)) a
made-put p (o ∷ os) ms w d n (y, inl q, inr e) = let bad : Make o.cell o.node (is_here (how (p.target_of o.node) (To.Cell o.cell))) ≡ Fill d n = q ∙ e in cc
made-put p (o ∷ os) ms w d n (y, inr h, e) = made-put p os ms w d n (y, h, e)

cell-put : (p : RowPart) (c : CellId) (k : NodeId) (b : Bool) (d : CellId) (n : NodeId) → IsComing (embed_cell p c k b) d n → p.target_of n ≡ Some (To.Cell d)
cell-put p c k true d n e = go (p.mentioned k) e
  where
    go : (z : Bool) → IsComing (cond z (Touch c k (how (p.target_of k) (To.Cell c))) Counted) d n → p.target_of n ≡ Some (To.Cell d)
    go true (inl e) = cc
    go true (inr e) = cc
    go false (inl e) = cc
    go false (inr e) = cc
cell-put p c k false d n e = go (is_here (how (p.target_of k) (To.Cell c))) refl e
  where
    go : (z : Bool) → is_here (how (p.target_of k) (To.Cell c)) ≡ z → IsComing (cond z (Fill c k) (Gap c)) d n → p.target_of n ≡ Some (To.Cell d)
    go true h (inl e) = cc
    go true h (inr e) = let a : c ≡ d = cc in let b : k ≡ n = cc in ap p.target_of (sym b) ∙ is_here-put (p.target_of k) (To.Cell c) h ∙ ap (λ c. Some (To.Cell c)) a
    go false h (inl e) = cc
    go false h (inr e) = cc

cells-put : (p : RowPart) (c : List Slot) → ArePut p.target_of (embed_cells p c)
cells-put p [] d n r = absurd r.1
cells-put p (s ∷ c) d n (y, inl q, e) = cell-put p s.cell s.node s.full d n (subst (λ y. IsComing y d n) (sym q) e)
cells-put p (s ∷ c) d n (y, inr h, e) = made-put p (p.new_cells (Some s.cell)) (embed_cells p c) (λ d n r. cells-put p c d n r) d n (y, h, e)

row-put : (p : RowPart) (c : List Slot) → ArePut p.target_of (embed_row p c)
row-put p c = made-put p (p.new_cells None) (embed_cells p c) (cells-put p c)

module _ (D : Document) (N : Intent) (C : Change) (x : IsSoundInForm D) (f : Fits D N) (emb : IsEmbedding D N C) where
  are-put : (r : RowMarks) → Has C.rows r → ArePut (put_of N) (spread r.marks)
  are-put r i = subst (ArePut (put_of N)) (sym (row-look D N C x f emb r i).0) (row-put (row_part emb.mentioned N r.node) (content D r.node))

  -- a node that comes into a row is put into a cell of it
  in-cell : (r : RowMarks) (n : NodeId) → Has C.rows r → Has (incoming_nodes (spread r.marks)) n → (d : CellId) × (put_of N n ≡ Some (To.Cell d)) × Has (cells_in (spread r.marks)) d
  in-cell r n i h = let w = incoming-mark (spread r.marks) n h in (w.0, are-put r i w.0 n w.1, w.2)

  in-register : (r : RegMark) (n : NodeId) → Has C.regs r → Has (put_at r) n → put_of N n ≡ Some (To.Register r.field)
  in-register r n i h = has-put N f.itself (record { node = n; to = To.Register r.field }) (put_in-has N r.field n (fill-put D N C x f emb r n i (one-is r.fill n h)).0)

  alone : (q : Option NodeId) → AreDistinct (λ (n : NodeId). n) (one_or_none q)
  alone None = tt
  alone (Some n) = (tt, tt)

  one-register : (a b : FieldId) → Some (To.Register a) ≡ Some (To.Register b) → a ≡ b
  one-register a b e = cc

  cell-register : (c : CellId) (k : FieldId) → Some (To.Cell c) ≡ Some (To.Register k) → ⊥
  cell-register c k e = cc

  pub nodes_are_put_once : NodesArePutOnce (entries_of_change C)
  nodes_are_put_once = distinct-append (λ (n : NodeId). n) (in_rows incoming_nodes C.rows) (flat_map put_at C.regs)
      (distinct-flat (λ (n : NodeId). n) (λ (r : RowMarks). incoming_nodes (spread r.marks)) (λ (r : RowMarks). r.node) C.rows (rising_distinct node_cmp node_cmp_total (λ (r : RowMarks). r.node) C.rows emb.rows.rising)
      (λ r i. incoming-once (put_of N) (spread r.marks) (list_distinct (λ (r : RowMarks). cells_in (spread r.marks)) (λ (c : CellId). c) C.rows r (cells_are_once D N C x f emb) i) (are-put r i))
      (λ r q a b i j h k e. let u = in-cell r a i h in let v = in-cell q b j k in
      one-row D N C x f emb q.node r.node u.0 (subst (IsInRow D N C x f emb q.node) (one-cell v.0 u.0 (sym v.1 ∙ ap (put_of N) e ∙ u.1)) (in-row D N C x f emb q v.0 j v.2)) (in-row D N C x f emb r u.0 i u.2)))
      (distinct-flat (λ (n : NodeId). n) put_at (λ (r : RegMark). r.field) C.regs (rising_distinct field_cmp field_cmp_total (λ (r : RegMark). r.field) C.regs emb.regs.rising)
      (λ r i. alone r.fill)
      (λ r q a b i j h k e. one-register q.field r.field (sym (in-register q b j k) ∙ ap (put_of N) e ∙ in-register r a i h)))
      (λ a b h i e. let r = has-flat_map (λ (r : RowMarks). incoming_nodes (spread r.marks)) C.rows a h in let q = has-flat_map put_at C.regs b i in let u = in-cell r.0 a r.1 r.2 in
      cell-register u.0 q.0.field (sym u.1 ∙ ap (put_of N) (sym e) ∙ in-register q.0 b q.1 q.2))
