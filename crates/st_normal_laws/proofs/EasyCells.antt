-- The easy half, in part: no cell is listed twice.
use Rattle.std.proofs.Common.{◌≡◌, ◌≢◌, ◌++◌, ◌&&◌, Bool, true, false, List, [], ◌∷◌, Option, Some, None, cond, refl, sym, ap, ◌∙◌, subst, inl, inr, ◌⊎◌}
use Rattle.std.specs.List.{find}
use Rattle.st_ids.specs.Listing.{AreDistinct, Has}
use Rattle.st_ids.specs.Order.{node_cmp, same_cell, same_node}
use Rattle.st_ids.proofs.Orders.{node_cmp_total}
use Rattle.st_ids.specs.declared.names.CellId.{CellId}
use Rattle.st_ids.specs.declared.names.NodeId.{NodeId}
use Rattle.st_marks.specs.declared.changes.Change.{Change}
use Rattle.st_marks.specs.declared.intents.Group.{Group}
use Rattle.st_marks.specs.declared.intents.Intent.{Intent}
use Rattle.st_marks.specs.declared.intents.Owned.{Owned}
use Rattle.st_marks.specs.declared.intents.To.{To}
use Rattle.st_marks.specs.declared.marks.RowMarks.{RowMarks}
use Rattle.st_marks.specs.declared.places.Slot.{Slot}
use Rattle.st_marks.specs.Document.{Document, IsSoundInForm, content, owned_cell, slot}
use Rattle.st_marks.specs.Embedding.{IsEmbedding, row_part}
use Rattle.st_marks.specs.Intent.{Fits, cells_of, group_at, new_row_of, same_option}
use Rattle.st_marks.specs.Row.{CellMark, Counted, Gap, Touch, Fill, RowPart, embed_cell, embed_cells, embed_made, embed_row, how, spread}
use Rattle.st_marks.specs.How.{is_here}
use Rattle.st_marks.specs.Listings.{cells_in}
use Rattle.st_marks.proofs.Lookups.{group_at-group, made_there, new_row_of-group}
use Rattle.st_marks.proofs.Members.{all-has, first-has, flat_map-has, has-all, has-map, list_distinct, one_list}
use Rattle.st_normal.specs.Rules.{CellsAreOnce, entries_of_change}
use Rattle.st_puts.proofs.OverDocuments.{row-look}
use Rattle.st_puts.proofs.FoundOnce.{content_once}
use Rattle.st_puts.proofs.Groups.{distinct-flat}
use Rattle.st_puts.proofs.MeaningFits.{rising_distinct}

abbrev IsOf : List Owned → CellId → Type 0
IsOf os d = (o : Owned) × Has os o × (o.cell ≡ d)

-- a cell in the marks of a row is the row's, or made behind one of its cells
abbrev IsIn : RowPart → List Slot → CellId → Type 0
IsIn p c d = ((s : Slot) × Has c s × (s.cell ≡ d)) ⊎ ((s : Slot) × Has c s × IsOf (p.new_cells (Some s.cell)) d)

in-made : (p : RowPart) (os : List Owned) (ms : List CellMark) (d : CellId) → Has (cells_in (embed_made p os ++ ms)) d → IsOf os d ⊎ Has (cells_in ms) d
in-made p [] ms d h = inr h
in-made p (o ∷ os) ms d (inl e) = inl (o, inl refl, e)
in-made p (o ∷ os) ms d (inr h) = elim (in-made p os ms d h) [ inl r ↦ inl (r.0, inr r.1, r.2) | inr i ↦ inr i ]

-- a cell that is found is named or counted
named-or-not : (p : RowPart) (c : CellId) (n : NodeId) (b : Bool) (ms : List CellMark) → (cells_in (embed_cell p c n b ∷ ms) ≡ cells_in ms) ⊎ (cells_in (embed_cell p c n b ∷ ms) ≡ c ∷ cells_in ms)
named-or-not p c n true ms = go (p.mentioned n)
  where
    go : (z : Bool) → (cells_in (cond z (Touch c n (how (p.target_of n) (To.Cell c))) Counted ∷ ms) ≡ cells_in ms) ⊎ (cells_in (cond z (Touch c n (how (p.target_of n) (To.Cell c))) Counted ∷ ms) ≡ c ∷ cells_in ms)
    go true = inr refl
    go false = inl refl
named-or-not p c n false ms = go (is_here (how (p.target_of n) (To.Cell c)))
  where
    go : (z : Bool) → (cells_in (cond z (Fill c n) (Gap c) ∷ ms) ≡ cells_in ms) ⊎ (cells_in (cond z (Fill c n) (Gap c) ∷ ms) ≡ c ∷ cells_in ms)
    go true = inr refl
    go false = inr refl

later : (p : RowPart) (s : Slot) (c : List Slot) (d : CellId) → IsIn p c d → IsIn p (s ∷ c) d
later p s c d (inl r) = inl (r.0, inr r.1, r.2)
later p s c d (inr r) = inr (r.0, inr r.1, r.2)

in-cells : (p : RowPart) (c : List Slot) (d : CellId) → Has (cells_in (embed_cells p c)) d → IsIn p c d
in-cells p [] d h = absurd h
in-cells p (s ∷ c) d h = elim (named-or-not p s.cell s.node s.full (embed_made p (p.new_cells (Some s.cell)) ++ embed_cells p c)) [
  | inl e ↦ rest (λ j. in-cells p c d j) (subst (λ l. Has l d) e h)
  | inr e ↦ first (λ j. in-cells p c d j) (subst (λ l. Has l d) e h)
]
  where
    rest : (Has (cells_in (embed_cells p c)) d → IsIn p c d) → Has (cells_in (embed_made p (p.new_cells (Some s.cell)) ++ embed_cells p c)) d → IsIn p (s ∷ c) d
    rest more i = elim (in-made p (p.new_cells (Some s.cell)) (embed_cells p c) d i) [ inl r ↦ inr (s, inl refl, r) | inr j ↦ later p s c d (more j) ]

    first : (Has (cells_in (embed_cells p c)) d → IsIn p c d) → Has (s.cell ∷ cells_in (embed_made p (p.new_cells (Some s.cell)) ++ embed_cells p c)) d → IsIn p (s ∷ c) d
    first more (inl q) = inl (s, inl refl, q)
    first more (inr i) = rest more i

made-once : (p : RowPart) (os : List Owned) (ms : List CellMark) → AreDistinct (λ (o : Owned). o.cell) os → AreDistinct (λ (c : CellId). c) (cells_in ms) → ((o : Owned) → Has os o → Has (cells_in ms) o.cell → ⊥)
    → AreDistinct (λ (c : CellId). c) (cells_in (embed_made p os ++ ms))
made-once p [] ms d w apart = w
made-once p (o ∷ os) ms d w apart = (
  has-all (λ c. c ≢ o.cell) (cells_in (embed_made p os ++ ms)) (λ c h e. elim (in-made p os ms c h) [
    | inl r ↦ all-has (λ (q : Owned). q.cell ≢ o.cell) os r.0 d.0 r.1 (r.2 ∙ e)
    | inr i ↦ apart o (inl refl) (subst (Has (cells_in ms)) e i)
  ]),
  made-once p os ms d.1 w (λ q h i. apart q (inr h) i),
)

-- what is made is made once, at one anchor
record IsMadeOnce (p : RowPart) : Type 0 where
  each : (a : Option CellId) → AreDistinct (λ (o : Owned). o.cell) (p.new_cells a)
  anchor : (a b : Option CellId) (o q : Owned) → Has (p.new_cells a) o → Has (p.new_cells b) q → o.cell ≡ q.cell → a ≡ b

abbrev IsFresh : RowPart → List Slot → Type 0
IsFresh p c = (a : Option CellId) (o : Owned) (s : Slot) → Has (p.new_cells a) o → Has c s → s.cell ≡ o.cell → ⊥

cells-once : (p : RowPart) (c : List Slot) → IsMadeOnce p → AreDistinct (λ (s : Slot). s.cell) c → IsFresh p c → AreDistinct (λ (c : CellId). c) (cells_in (embed_cells p c))
cells-once p [] w d new = tt
cells-once p (s ∷ c) w d new = elim (named-or-not p s.cell s.node s.full rest) [
  | inl e ↦ subst (AreDistinct (λ (c : CellId). c)) (sym e) (once (cells-once p c w d.1 (λ a o t h i. new a o t h (inr i))))
  | inr e ↦ subst (AreDistinct (λ (c : CellId). c)) (sym e) (
    has-all (λ k. k ≢ s.cell) (cells_in rest) (λ k h q. elim (in-made p (p.new_cells (Some s.cell)) (embed_cells p c) k h) [
      | inl r ↦ new (Some s.cell) r.0 s r.1 (inl refl) (sym (r.2 ∙ q))
      | inr i ↦ elim (in-cells p c k i) [
        | inl r ↦ all-has (λ (t : Slot). t.cell ≢ s.cell) c r.0 d.0 r.1 (r.2 ∙ q)
        | inr r ↦ new (Some r.0.cell) r.2.0 s r.2.1 (inl refl) (sym (r.2.2 ∙ q))
      ]
    ]),
    once (cells-once p c w d.1 (λ a o t h i. new a o t h (inr i))),
  )
]
  where
    some-cell : {a b : CellId} → ◌≡◌ {A = Option CellId} (Some a) (Some b) → a ≡ b
    some-cell q = cc

    rest : List CellMark
    rest = embed_made p (p.new_cells (Some s.cell)) ++ embed_cells p c

    once : AreDistinct (λ (c : CellId). c) (cells_in (embed_cells p c)) → AreDistinct (λ (c : CellId). c) (cells_in (embed_made p (p.new_cells (Some s.cell)) ++ embed_cells p c))
    once behind = made-once p (p.new_cells (Some s.cell)) (embed_cells p c) (w.each (Some s.cell)) behind (λ o h i. elim (in-cells p c o.cell i) [
      | inl r ↦ new (Some s.cell) o r.0 h (inr r.1) r.2
      | inr r ↦ all-has (λ (t : Slot). t.cell ≢ s.cell) c r.0 d.0 r.1 (some-cell (w.anchor (Some r.0.cell) (Some s.cell) r.2.0 o r.2.1 h r.2.2))
    ])

row-once : (p : RowPart) (c : List Slot) → IsMadeOnce p → AreDistinct (λ (s : Slot). s.cell) c → IsFresh p c → AreDistinct (λ (c : CellId). c) (cells_in (embed_row p c))
row-once p c w d new = made-once p (p.new_cells None) (embed_cells p c) (w.each None) (cells-once p c w d new) (λ o h i. elim (in-cells p c o.cell i) [
  | inl r ↦ new None o r.0 h r.1 r.2
  | inr r ↦ (let bad : Some r.0.cell ≡ None = w.anchor (Some r.0.cell) None r.2.0 o r.2.1 h r.2.2 in cc)
])

module _ (D : Document) (N : Intent) (C : Change) (x : IsSoundInForm D) (f : Fits D N) (emb : IsEmbedding D N C) where
  abbrev m : NodeId → Bool
  m = emb.mentioned

  group-distinct : (n : NodeId) (a : Option CellId) → AreDistinct (λ (o : Owned). o.cell) (group_at N n a)
  group-distinct n a = go (find (λ (g : Group). same_node g.node n && same_option same_cell g.after a) N.groups) refl
    where
      go : (q : Option Group) → find (λ (g : Group). same_node g.node n && same_option same_cell g.after a) N.groups ≡ q → AreDistinct (λ (o : Owned). o.cell) (cells_of q)
      go None e = tt
      go (Some g) e = list_distinct (λ (g : Group). g.cells) (λ (o : Owned). o.cell) N.groups g f.itself.cell_once (first-has (λ (g : Group). same_node g.node n && same_option same_cell g.after a) N.groups g e).0

  made-at-once : (n : NodeId) → IsMadeOnce (row_part m N n)
  made-at-once n = record {
    each = λ a. group-distinct n a;
    anchor = λ a b o q h i e. (let g = group_at-group N n a o h in let k = group_at-group N n b q i in
        sym g.after ∙ ap (λ (g : Group). g.after) (one_list (λ (g : Group). g.cells) (λ (o : Owned). o.cell) N.groups g.group k.group o q f.itself.cell_once g.listed k.listed g.cell k.cell e) ∙ k.after);
  }

  -- the row of a cell that is there, and of one that is made
  old-row : (n : NodeId) (s : Slot) → Has (content D n) s → D.row_of s.cell ≡ Some n
  old-row n s h = let q = has-map (slot D) (D.rows n) s h in (x.one_row s.cell n).1 (q.0.node, subst (λ c. Has (D.rows n) (owned_cell c q.0.node)) (ap (λ (s : Slot). s.cell) q.2) q.1)

  new-row : (n : NodeId) (a : Option CellId) (o : Owned) → Has (group_at N n a) o → (D.row_of o.cell ≡ None) × (new_row_of N o.cell ≡ Some n)
  new-row n a o h = let g = group_at-group N n a o h in (
    f.fresh_cells o.cell (made_there N o (flat_map-has (λ (k : Group). k.cells) N.groups g.group o g.listed g.cell)),
    new_row_of-group N f.itself g.group o g.listed g.cell ∙ ap (λ k. Some k) g.node,
  )

  fresh : (n : NodeId) → IsFresh (row_part m N n) (content D n)
  fresh n a o s h i e = let bad : None ≡ Some n = sym (new-row n a o h).0 ∙ ap D.row_of (sym e) ∙ old-row n s i in cc

  -- the row in which a cell is listed
  abbrev pub IsInRow : NodeId → CellId → Type 0
  IsInRow n d = (D.row_of d ≡ Some n) ⊎ ((D.row_of d ≡ None) × (new_row_of N d ≡ Some n))

  of_group : (n : NodeId) (a : Option CellId) (d : CellId) → IsOf (group_at N n a) d → IsInRow n d
  of_group n a d r = subst (IsInRow n) r.2 (inr (new-row n a r.0 r.1))

  pub in-row : (r : RowMarks) (d : CellId) → Has C.rows r → Has (cells_in (spread r.marks)) d → IsInRow r.node d
  in-row r d i h = elim (in-made (row_part m N r.node) (group_at N r.node None) (embed_cells (row_part m N r.node) (content D r.node)) d (subst (λ ms. Has (cells_in ms) d) (row-look D N C x f emb r i).0 h)) [
    | inl w ↦ of_group r.node None d w
    | inr j ↦ elim (in-cells (row_part m N r.node) (content D r.node) d j) [
      | inl w ↦ inl (ap D.row_of (sym w.2) ∙ old-row r.node w.0 w.1)
      | inr w ↦ of_group r.node (Some w.0.cell) d w.2
    ]
  ]

  pub one-row : (n k : NodeId) (d : CellId) → IsInRow n d → IsInRow k d → n ≡ k
  one-row n k d (inl a) (inl b) = let q : Some n ≡ Some k = sym a ∙ b in cc
  one-row n k d (inl a) (inr b) = let bad : Some n ≡ None = sym a ∙ b.0 in cc
  one-row n k d (inr a) (inl b) = let bad : None ≡ Some k = sym a.0 ∙ b in cc
  one-row n k d (inr a) (inr b) = let q : Some n ≡ Some k = sym a.1 ∙ b.1 in cc

  pub cells_are_once : CellsAreOnce (entries_of_change C)
  cells_are_once = distinct-flat (λ (c : CellId). c) (λ (r : RowMarks). cells_in (spread r.marks)) (λ (r : RowMarks). r.node) C.rows
      (rising_distinct node_cmp node_cmp_total (λ (r : RowMarks). r.node) C.rows emb.rows.rising)
      (λ r i. subst (λ ms. AreDistinct (λ (c : CellId). c) (cells_in ms)) (sym (row-look D N C x f emb r i).0)
      (row-once (row_part m N r.node) (content D r.node) (made-at-once r.node) (content_once D N C x f emb r.node) (fresh r.node)))
      (λ r q a b i j h k e. one-row q.node r.node a (subst (IsInRow q.node) e (in-row q b j k)) (in-row r a i h))
