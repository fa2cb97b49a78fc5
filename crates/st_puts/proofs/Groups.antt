-- A row's cells with their marks, and the groups of the intent.
use Rattle.std.proofs.Common.{◌≡◌, ◌≢◌, ◌++◌, Bool, true, false, ◌&&◌, List, [], ◌∷◌, map, Option, Some, None, refl, sym, ap, ◌∙◌, subst, inl, inr, ◌⊎◌}
use Rattle.std.specs.List.{flat_map}
use Rattle.st_ids.specs.Listing.{AreDistinct, Has}
use Rattle.st_ids.specs.Order.{same_cell, same_node}
use Rattle.st_ids.proofs.Orders.{same_node-true, same_node-itself}
use Rattle.st_ids.specs.declared.names.CellId.{CellId}
use Rattle.st_ids.specs.declared.names.NodeId.{NodeId}
use Rattle.st_marks.specs.declared.changes.Change.{Change}
use Rattle.st_marks.specs.declared.intents.Group.{Group}
use Rattle.st_marks.specs.declared.intents.Intent.{Intent}
use Rattle.st_marks.specs.declared.intents.Owned.{Owned}
use Rattle.st_marks.specs.declared.marks.How.{How}
use Rattle.st_marks.specs.declared.marks.RowMarks.{RowMarks}
use Rattle.st_marks.specs.declared.places.Slot.{Slot}
use Rattle.st_marks.specs.declared.intents.To.{To}
use Rattle.st_marks.specs.Document.{Document, IsSoundInForm, content, slot}
use Rattle.st_marks.specs.Intent.{cells_of, group_at, same_option}
use Rattle.st_marks.specs.Row.{CellMark, Counted, Gap, Touch, Make, Fill, RowPart, spread, how, embed_cell, embed_made, embed_cells}
use Rattle.st_marks.specs.How.{is_here}
use Rattle.st_normal.specs.Rules.{ObeysDataRules}
use Rattle.st_marks.specs.Listings.{cells_before}
use Rattle.st_marks.proofs.Lookups.{group_at-group, anchor_itself, anchor_is}
use Rattle.st_marks.proofs.Members.{all-has, has-all, append_left, append_right, has-append, map-has, has-map, flat_map-has, has-flat_map, distinct-has, distinct-append, first-distinct}
use Rattle.st_puts.specs.Seen.{AreAsSeen}
use Rattle.st_puts.specs.Meant.{Along, IsOver, along, group_of, groups_along, groups_of, made_first, meant_intent}
use Rattle.st_ids.proofs.Shared.{no_members}
use Rattle.st_lemmas.proofs.Bools.{and-both, and-true}

-- ## Cells with their marks

-- a mark of a cell that is there, true of it
abbrev pub IsMarkOf : Slot → CellMark → Type 0
IsMarkOf s Counted = true ≡ s.full
IsMarkOf s (Gap c) = (false ≡ s.full) × (c ≡ s.cell)
IsMarkOf s (Touch c n h) = (true ≡ s.full) × (c ≡ s.cell) × (n ≡ s.node)
IsMarkOf s (Make c n b) = ⊥
IsMarkOf s (Fill c n) = (false ≡ s.full) × (c ≡ s.cell) × (n ≡ s.node)

abbrev pub IsAlong : List Slot → List CellMark → Along → Type 0
IsAlong c ms t = Has c t.slot × Has ms t.mark × IsMarkOf t.slot t.mark

pub along-has : (c : List Slot) (ms : List CellMark) → AreAsSeen c (cells_before ms) → (t : Along) → Has (along c ms) t → IsAlong c ms t
along-has c [] p t i = absurd i
along-has c (Make d m b ∷ ms) p t i = let r = along-has c ms p t i in (r.0, inr r.1, r.2)
along-has [] (Counted ∷ ms) p t i = absurd p
along-has (s ∷ c) (Counted ∷ ms) p t (inl q) = subst (IsAlong (s ∷ c) (Counted ∷ ms)) q (inl refl, inl refl, p.0.0)
along-has (s ∷ c) (Counted ∷ ms) p t (inr i) = let r = along-has c ms p.1 t i in (inr r.0, inr r.1, r.2)
along-has [] (Gap d ∷ ms) p t i = absurd p
along-has (s ∷ c) (Gap d ∷ ms) p t (inl q) = subst (IsAlong (s ∷ c) (Gap d ∷ ms)) q (inl refl, inl refl, (p.0.0, p.0.1))
along-has (s ∷ c) (Gap d ∷ ms) p t (inr i) = let r = along-has c ms p.1 t i in (inr r.0, inr r.1, r.2)
along-has [] (Touch d m h ∷ ms) p t i = absurd p
along-has (s ∷ c) (Touch d m h ∷ ms) p t (inl q) = subst (IsAlong (s ∷ c) (Touch d m h ∷ ms)) q (inl refl, inl refl, (p.0.0, p.0.1, p.0.2))
along-has (s ∷ c) (Touch d m h ∷ ms) p t (inr i) = let r = along-has c ms p.1 t i in (inr r.0, inr r.1, r.2)
along-has [] (Fill d m ∷ ms) p t i = absurd p
along-has (s ∷ c) (Fill d m ∷ ms) p t (inl q) = subst (IsAlong (s ∷ c) (Fill d m ∷ ms)) q (inl refl, inl refl, (p.0.0, p.0.1, p.0.2))
along-has (s ∷ c) (Fill d m ∷ ms) p t (inr i) = let r = along-has c ms p.1 t i in (inr r.0, inr r.1, r.2)

pub has-along : (c : List Slot) (ms : List CellMark) → AreAsSeen c (cells_before ms) → (e : CellId) (n : NodeId) (g : How) → Has ms (Touch e n g) → (t : Along) × Has (along c ms) t × (t.mark ≡ Touch e n g)
has-along c [] p e n g i = absurd i
has-along c (Make d m b ∷ ms) p e n g (inl q) = cc
has-along c (Make d m b ∷ ms) p e n g (inr i) = has-along c ms p e n g i
has-along [] (Counted ∷ ms) p e n g i = absurd p
has-along (s ∷ c) (Counted ∷ ms) p e n g (inl q) = cc
has-along (s ∷ c) (Counted ∷ ms) p e n g (inr i) = let r = has-along c ms p.1 e n g i in (r.0, inr r.1, r.2)
has-along [] (Gap d ∷ ms) p e n g i = absurd p
has-along (s ∷ c) (Gap d ∷ ms) p e n g (inl q) = cc
has-along (s ∷ c) (Gap d ∷ ms) p e n g (inr i) = let r = has-along c ms p.1 e n g i in (r.0, inr r.1, r.2)
has-along [] (Touch d m h ∷ ms) p e n g i = absurd p
has-along (s ∷ c) (Touch d m h ∷ ms) p e n g (inl q) = (record { slot = s; mark = Touch d m h; made = made_first ms }, inl refl, q)
has-along (s ∷ c) (Touch d m h ∷ ms) p e n g (inr i) = let r = has-along c ms p.1 e n g i in (r.0, inr r.1, r.2)
has-along [] (Fill d m ∷ ms) p e n g i = absurd p
has-along (s ∷ c) (Fill d m ∷ ms) p e n g (inl q) = cc
has-along (s ∷ c) (Fill d m ∷ ms) p e n g (inr i) = let r = has-along c ms p.1 e n g i in (r.0, inr r.1, r.2)

pub along-slots : (c : List Slot) (ms : List CellMark) → AreAsSeen c (cells_before ms) → map (λ (t : Along). t.slot) (along c ms) ≡ c
along-slots [] [] p = refl
along-slots (s ∷ c) [] p = absurd p
along-slots c (Make d m b ∷ ms) p = along-slots c ms p
along-slots [] (Counted ∷ ms) p = absurd p
along-slots (s ∷ c) (Counted ∷ ms) p = ap (λ l. s ∷ l) (along-slots c ms p.1)
along-slots [] (Gap d ∷ ms) p = absurd p
along-slots (s ∷ c) (Gap d ∷ ms) p = ap (λ l. s ∷ l) (along-slots c ms p.1)
along-slots [] (Touch d m h ∷ ms) p = absurd p
along-slots (s ∷ c) (Touch d m h ∷ ms) p = ap (λ l. s ∷ l) (along-slots c ms p.1)
along-slots [] (Fill d m ∷ ms) p = absurd p
along-slots (s ∷ c) (Fill d m ∷ ms) p = ap (λ l. s ∷ l) (along-slots c ms p.1)

slots-distinct : (ts : List Along) → AreDistinct (λ (s : Slot). s.cell) (map (λ (t : Along). t.slot) ts) → AreDistinct (λ (t : Along). t.slot.cell) ts
slots-distinct [] d = tt
slots-distinct (t ∷ ts) d = (has-all (λ (u : Along). u.slot.cell ≢ t.slot.cell) ts (λ u h. all-has (λ (s : Slot). s.cell ≢ t.slot.cell) (map (λ (t : Along). t.slot) ts) u.slot d.0 (map-has (λ (t : Along). t.slot) ts u h)), slots-distinct ts d.1)

pub along_once : (c : List Slot) (ms : List CellMark) → AreAsSeen c (cells_before ms) → AreDistinct (λ (s : Slot). s.cell) c → AreDistinct (λ (t : Along). t.slot.cell) (along c ms)
along_once c ms p d = slots-distinct (along c ms) (subst (AreDistinct (λ (s : Slot). s.cell)) (sym (along-slots c ms p)) d)

-- ## A row by its cells

abbrev pub IsEmbedded : RowPart → Along → Type 0
IsEmbedded p t = (embed_cell p t.slot.cell t.slot.node t.slot.full ≡ t.mark) × (p.new_cells (Some t.slot.cell) ≡ t.made)

abbrev pub AreMade : RowPart → List CellMark → Type 0
AreMade p ms = (d : CellId) (n : NodeId) (b : Bool) → Has ms (Make d n b) → is_here (how (p.target_of n) (To.Cell d)) ≡ b

-- where each cell has its mark and its group, the row has its marks
pub row_along : (p : RowPart) (c : List Slot) (ms : List CellMark) → AreAsSeen c (cells_before ms) → ((t : Along) → Has (along c ms) t → IsEmbedded p t) → AreMade p ms → embed_made p (made_first ms) ++ embed_cells p c ≡ ms
row_along p [] [] q f g = refl
row_along p (s ∷ c) [] q f g = absurd q
row_along p c (Make d n b ∷ ms) q f g = λ i. Make d n (g d n b (inl refl) i) ∷ row_along p c ms q f (λ e m a h. g e m a (inr h)) i
row_along p [] (Counted ∷ ms) q f g = absurd q
row_along p (s ∷ c) (Counted ∷ ms) q f g =
    let t = f (record { slot = s; mark = Counted; made = made_first ms }) (inl refl) in
    λ i. t.0 i ∷ (ap (λ os. embed_made p os ++ embed_cells p c) t.1 ∙ row_along p c ms q.1 (λ u h. f u (inr h)) (λ e m a h. g e m a (inr h))) i
row_along p [] (Gap d ∷ ms) q f g = absurd q
row_along p (s ∷ c) (Gap d ∷ ms) q f g =
    let t = f (record { slot = s; mark = Gap d; made = made_first ms }) (inl refl) in
    λ i. t.0 i ∷ (ap (λ os. embed_made p os ++ embed_cells p c) t.1 ∙ row_along p c ms q.1 (λ u h. f u (inr h)) (λ e m a h. g e m a (inr h))) i
row_along p [] (Touch d m h ∷ ms) q f g = absurd q
row_along p (s ∷ c) (Touch d m h ∷ ms) q f g =
    let t = f (record { slot = s; mark = Touch d m h; made = made_first ms }) (inl refl) in
    λ i. t.0 i ∷ (ap (λ os. embed_made p os ++ embed_cells p c) t.1 ∙ row_along p c ms q.1 (λ u h. f u (inr h)) (λ e m a h. g e m a (inr h))) i
row_along p [] (Fill d m ∷ ms) q f g = absurd q
row_along p (s ∷ c) (Fill d m ∷ ms) q f g =
    let t = f (record { slot = s; mark = Fill d m; made = made_first ms }) (inl refl) in
    λ i. t.0 i ∷ (ap (λ os. embed_made p os ++ embed_cells p c) t.1 ∙ row_along p c ms q.1 (λ u h. f u (inr h)) (λ e m a h. g e m a (inr h))) i

-- ## Groups

pub distinct-flat : {A B K J : Type 0} (key : B → K) (f : A → List B) (name : A → J) (xs : List A) → AreDistinct name xs → ((y : A) → Has xs y → AreDistinct key (f y))
    → ((y z : A) (a b : B) → Has xs y → Has xs z → Has (f y) a → Has (f z) b → key b ≡ key a → name z ≡ name y) → AreDistinct key (flat_map f xs)
distinct-flat key f name [] d each apart = tt
distinct-flat key f name (y ∷ xs) d each apart =
    distinct-append key (f y) (flat_map f xs) (each y (inl refl)) (distinct-flat key f name xs d.1 (λ z h. each z (inr h)) (λ y z a b h i. apart y z a b (inr h) (inr i)))
    (λ a b h i e. let z = has-flat_map f xs b i in all-has (λ z. name z ≢ name y) xs z.0 d.0 z.1 (apart y z.0 a b (inl refl) (inr z.1) h z.2 e))

pub group_of-has : (n : NodeId) (a : Option CellId) (os : List Owned) (g : Group) → Has (group_of n a os) g → g ≡ record { node = n; after = a; cells = os }
group_of-has n a [] g h = absurd h
group_of-has n a (p ∷ os) g (inl e) = sym e
group_of-has n a (p ∷ os) g (inr h) = absurd h

pub has-group_of : (n : NodeId) (a : Option CellId) (o : Owned) (os : List Owned) → Has (group_of n a (o ∷ os)) (record { node = n; after = a; cells = o ∷ os })
has-group_of n a o os = inl refl

abbrev pub anchor_key : Group → NodeId × Option CellId
anchor_key g = (g.node, g.after)

module _ (D : Document) (C : Change) (x : IsSoundInForm D) (w : ObeysDataRules C) (o : IsOver D C) (rows_once : AreDistinct (λ (r : RowMarks). r.node) C.rows) where
  abbrev N : Intent
  N = meant_intent D C

  abbrev ts : RowMarks → List Along
  ts r = along (content D r.node) (spread r.marks)

  pub content_once : (n : NodeId) → AreDistinct (λ (s : Slot). s.cell) (content D n)
  content_once n = go (D.rows n) (x.once n)
    where
      go : (os : List Owned) → AreDistinct (λ (o : Owned). o.cell) os → AreDistinct (λ (s : Slot). s.cell) (map (slot D) os)
      go [] d = tt
      go (p ∷ os) d = (has-all (λ (s : Slot). s.cell ≢ p.cell) (map (slot D) os) (λ s h. let q = has-map (slot D) os s h in λ e. all-has (λ (q : Owned). q.cell ≢ p.cell) os q.0 d.0 q.1 (ap (λ (s : Slot). s.cell) q.2 ∙ e)), go os d.1)

  pub ts_once : (r : RowMarks) → Has C.rows r → AreDistinct (λ (t : Along). t.slot.cell) (ts r)
  ts_once r i = along_once (content D r.node) (spread r.marks) (o.rows r i) (content_once r.node)

  pub same_row : (r q : RowMarks) → Has C.rows r → Has C.rows q → r.node ≡ q.node → r ≡ q
  same_row r q i j e = distinct-has (λ (r : RowMarks). r.node) C.rows r q rows_once i j e

  -- a group is at a row's start or after a cell
  pub group-cases : (g : Group) → Has N.groups g → (r : RowMarks) × Has C.rows r × ((g ≡ record { node = r.node; after = None; cells = made_first (spread r.marks) }) ⊎ ((t : Along) × Has (ts r) t × (g ≡ record { node = r.node; after = Some t.slot.cell; cells = t.made })))
  group-cases g h =
      let r = has-flat_map (groups_of D) C.rows g h in (
        r.0,
        r.1,
        elim (has-append (group_of r.0.node None (made_first (spread r.0.marks))) (groups_along r.0.node (ts r.0)) g r.2) [
          | inl i ↦ inl (group_of-has r.0.node None (made_first (spread r.0.marks)) g i)
          | inr i ↦ (let t = has-flat_map (λ (t : Along). group_of r.0.node (Some t.slot.cell) t.made) (ts r.0) g i in inr (t.0, t.1, group_of-has r.0.node (Some t.0.slot.cell) t.0.made g t.2))
        ],
      )

  after-distinct : (n : NodeId) (us : List Along) → AreDistinct (λ (t : Along). t.slot.cell) us → AreDistinct (λ (g : Group). g.after) (groups_along n us)
  after-distinct n us d = distinct-flat (λ (g : Group). g.after) (λ (t : Along). group_of n (Some t.slot.cell) t.made) (λ (t : Along). t.slot.cell) us d
      (λ t h. alone n (Some t.slot.cell) t.made)
      (λ t u a b h i j k e. some-cell (sym (ap (λ (g : Group). g.after) (group_of-has n (Some u.slot.cell) u.made b k)) ∙ e ∙ ap (λ (g : Group). g.after) (group_of-has n (Some t.slot.cell) t.made a j)))
    where
      some-cell : {a b : CellId} → ◌≡◌ {A = Option CellId} (Some a) (Some b) → a ≡ b
      some-cell q = cc

      alone : (n : NodeId) (a : Option CellId) (os : List Owned) → AreDistinct (λ (g : Group). g.after) (group_of n a os)
      alone n a [] = tt
      alone n a (p ∷ os) = (tt, tt)

  row-anchors : (r : RowMarks) → Has C.rows r → AreDistinct (λ (g : Group). g.after) (groups_of D r)
  row-anchors r i = distinct-append (λ (g : Group). g.after) (group_of r.node None (made_first (spread r.marks))) (groups_along r.node (ts r)) (alone r.node None (made_first (spread r.marks))) (after-distinct r.node (ts r) (ts_once r i))
      (λ g k h j e. let t = has-flat_map (λ (t : Along). group_of r.node (Some t.slot.cell) t.made) (ts r) k j in
      not-none (sym (ap (λ (g : Group). g.after) (group_of-has r.node (Some t.0.slot.cell) t.0.made k t.2)) ∙ e ∙ ap (λ (g : Group). g.after) (group_of-has r.node None (made_first (spread r.marks)) g h)))
    where
      not-none : {a : CellId} → ◌≡◌ {A = Option CellId} (Some a) None → ⊥
      not-none q = cc

      alone : (n : NodeId) (a : Option CellId) (os : List Owned) → AreDistinct (λ (g : Group). g.after) (group_of n a os)
      alone n a [] = tt
      alone n a (p ∷ os) = (tt, tt)

  of_row : (r : RowMarks) (g : Group) → Has (groups_of D r) g → g.node ≡ r.node
  of_row r g h = elim (has-append (group_of r.node None (made_first (spread r.marks))) (groups_along r.node (ts r)) g h) [
    | inl i ↦ ap (λ (g : Group). g.node) (group_of-has r.node None (made_first (spread r.marks)) g i)
    | inr i ↦ (let t = has-flat_map (λ (t : Along). group_of r.node (Some t.slot.cell) t.made) (ts r) g i in ap (λ (g : Group). g.node) (group_of-has r.node (Some t.0.slot.cell) t.0.made g t.2))
  ]

  to-pairs : (gs : List Group) → AreDistinct (λ (g : Group). g.after) gs → AreDistinct anchor_key gs
  to-pairs [] d = tt
  to-pairs (g ∷ gs) d = (has-all (λ (k : Group). anchor_key k ≢ anchor_key g) gs (λ k h e. all-has (λ (k : Group). k.after ≢ g.after) gs k d.0 h (ap (λ (p : NodeId × Option CellId). p.1) e)), to-pairs gs d.1)

  pub start_once : AreDistinct anchor_key N.groups
  start_once = distinct-flat anchor_key (groups_of D) (λ (r : RowMarks). r.node) C.rows rows_once (λ r i. to-pairs (groups_of D r) (row-anchors r i))
      (λ r q a b i j h k e. sym (of_row q b k) ∙ ap (λ (p : NodeId × Option CellId). p.0) e ∙ of_row r a h)

  -- a group is found at its anchor
  pub group-found : (g : Group) → Has N.groups g → group_at N g.node g.after ≡ g.cells
  group-found g h = ap cells_of (first-distinct anchor_key N.groups (λ (k : Group). same_node k.node g.node && same_option same_cell k.after g.after) g start_once h
      (and-both (same_node g.node g.node) (same_option same_cell g.after g.after) (same_node-itself g.node) (anchor_itself g.after))
      (λ k e. let q = and-true (same_node k.node g.node) (same_option same_cell k.after g.after) e in λ i. (same_node-true k.node g.node q.0 i, anchor_is k.after g.after q.1 i)))

  pub no-group : (n : NodeId) (a : Option CellId) → ((g : Group) → Has N.groups g → g.node ≡ n → g.after ≡ a → g.cells ≢ [] → ⊥) → group_at N n a ≡ []
  no-group n a h = no_members (group_at N n a) (λ p i. let g = group_at-group N n a p i in h g.group g.listed g.node g.after (λ e. absurd (subst (λ l. Has l p) e g.cell)))

  pub at-start : (r : RowMarks) → Has C.rows r → group_at N r.node None ≡ made_first (spread r.marks)
  at-start r i = go (made_first (spread r.marks)) refl
    where
      some-none : {a : CellId} → ◌≡◌ {A = Option CellId} (Some a) None → ⊥
      some-none q = cc

      go : (os : List Owned) → made_first (spread r.marks) ≡ os → group_at N r.node None ≡ os
      go (p ∷ os) e = group-found (record { node = r.node; after = None; cells = p ∷ os }) (flat_map-has (groups_of D) C.rows r _ i
          (append_left (group_of r.node None (made_first (spread r.marks))) (groups_along r.node (ts r)) _ (subst (λ l. Has (group_of r.node None l) (record { node = r.node; after = None; cells = p ∷ os })) (sym e) (inl refl))))
      go [] e = no-group r.node None (λ g h n a c. let q = group-cases g h in elim q.2 [
        | inl k ↦ (let s = same_row q.0 r q.1 i (sym (ap (λ (g : Group). g.node) k) ∙ n) in c (ap (λ (g : Group). g.cells) k ∙ ap (λ (r : RowMarks). made_first (spread r.marks)) s ∙ e))
        | inr k ↦ some-none (sym (ap (λ (g : Group). g.after) k.2) ∙ a)
      ])

  pub at-cell : (r : RowMarks) (t : Along) → Has C.rows r → Has (ts r) t → group_at N r.node (Some t.slot.cell) ≡ t.made
  at-cell r t i j = go t.made refl
    where
      some-none : {a : CellId} → ◌≡◌ {A = Option CellId} None (Some a) → ⊥
      some-none q = cc

      some-cell : {a b : CellId} → ◌≡◌ {A = Option CellId} (Some a) (Some b) → a ≡ b
      some-cell q = cc

      go : (os : List Owned) → t.made ≡ os → group_at N r.node (Some t.slot.cell) ≡ os
      go (p ∷ os) e = group-found (record { node = r.node; after = Some t.slot.cell; cells = p ∷ os }) (flat_map-has (groups_of D) C.rows r _ i
          (append_right (group_of r.node None (made_first (spread r.marks))) (groups_along r.node (ts r)) _ (flat_map-has (λ (t : Along). group_of r.node (Some t.slot.cell) t.made) (ts r) t _ j
          (subst (λ l. Has (group_of r.node (Some t.slot.cell) l) (record { node = r.node; after = Some t.slot.cell; cells = p ∷ os })) (sym e) (inl refl)))))
      go [] e = no-group r.node (Some t.slot.cell) (λ g h n a c. let q = group-cases g h in elim q.2 [
        | inl k ↦ some-none (sym (ap (λ (g : Group). g.after) k) ∙ a)
        | inr k ↦ (let s = same_row q.0 r q.1 i (sym (ap (λ (g : Group). g.node) k.2) ∙ n) in
            let u = distinct-has (λ (t : Along). t.slot.cell) (ts r) k.0 t (ts_once r i) (subst (λ (r : RowMarks). Has (ts r) k.0) s k.1) j (some-cell (sym (ap (λ (g : Group). g.after) k.2) ∙ a)) in
            c (ap (λ (g : Group). g.cells) k.2 ∙ ap (λ (t : Along). t.made) u ∙ e))
      ])

  pub no-row : (n : NodeId) (a : Option CellId) → ((r : RowMarks) → Has C.rows r → r.node ≡ n → ⊥) → group_at N n a ≡ []
  no-row n a h = no-group n a (λ g i e f c. let q = group-cases g i in h q.0 q.1 (elim q.2 [ inl k ↦ sym (ap (λ (g : Group). g.node) k) ∙ e | inr k ↦ sym (ap (λ (g : Group). g.node) k.2) ∙ e ]))
