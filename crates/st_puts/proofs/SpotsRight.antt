-- What a step and a change show of where nodes stand is so in their documents.
use Rattle.std.proofs.Common.{◌≡◌, ◌≢◌, Bool, true, false, cond, List, [], ◌∷◌, ◌++◌, map, Option, Some, None, IsSome, refl, sym, ap, ◌∙◌, subst, inl, inr, ◌⊎◌}
use Rattle.std.specs.List.{flat_map}
use Rattle.std.specs.Option.{option_or}
use Rattle.st_ids.specs.Listing.{Has}
use Rattle.st_ids.specs.Order.{node_cmp, same_node}
use Rattle.st_ids.specs.Root.{root}
use Rattle.st_ids.proofs.Listings.{has-item_of, item_of-has}
use Rattle.st_ids.proofs.Orders.{node_cmp_exact, node_cmp_total}
use Rattle.st_ids.specs.declared.names.CellId.{CellId}
use Rattle.st_ids.specs.declared.names.FieldId.{FieldId}
use Rattle.st_ids.specs.declared.names.NodeId.{NodeId}
use Rattle.st_marks.specs.declared.changes.Change.{Change}
use Rattle.st_marks.specs.declared.changes.NewNode.{NewNode}
use Rattle.st_marks.specs.declared.intents.Intent.{Intent}
use Rattle.st_marks.specs.declared.marks.How.{How}
use Rattle.st_marks.specs.declared.marks.How.TheVariants.{Stay, Here, Leave}
use Rattle.st_marks.specs.declared.marks.Loose.{Loose}
use Rattle.st_marks.specs.declared.marks.Mark.{Mark}
use Rattle.st_marks.specs.declared.marks.RegMark.{RegMark}
use Rattle.st_marks.specs.declared.marks.RegStep.{RegStep}
use Rattle.st_marks.specs.declared.marks.RowMarks.{RowMarks}
use Rattle.st_marks.specs.declared.places.Spot.{Spot}
use Rattle.st_marks.specs.declared.steps.Step.{Step}
use Rattle.st_marks.specs.Document.{Document, IsSoundInForm, NodeType}
use Rattle.st_marks.specs.Embedding.{IsEmbedding, IsMentionedByIntent, is_among}
use Rattle.st_marks.specs.Extends.{IsExtendedBy}
use Rattle.st_marks.specs.How.{is_leave}
use Rattle.st_marks.specs.Intent.{Fits}
use Rattle.st_marks.specs.Listings.{cells_before, nodes_loose, nodes_new, nodes_standing, one_or_none, placed_before}
use Rattle.st_normal.proofs.NoRings.{among_has}
use Rattle.st_marks.specs.Row.{CellMark, Counted, Fill, Gap, Make, Touch, spread}
use Rattle.st_marks.specs.Step.{IsStep, gained_node}
use Rattle.st_marks.proofs.Climb.{same_spot, unknown_nowhere}
use Rattle.st_marks.proofs.Members.{append_left, append_right, flat_map-has, has-append, has-flat_map, has-map, map-has}
use Rattle.st_mention_laws.proofs.Mentions.{IsCovered, covers}
use Rattle.st_normal.specs.declared.entries.Found.{Found}
use Rattle.st_normal.specs.Rules.{entries_of_change, entries_of_step, in_rows, incoming_nodes, put_over}
use Rattle.st_puts.proofs.Basics.{one-is}
use Rattle.st_puts.proofs.OverDocuments.{climb-known, embedding_over, mentioned-found}
use Rattle.st_puts.proofs.FoundPlaces.{PlacedAs, as_held, as_loose, as_row, found_placed, held_place, touch_place}
use Rattle.st_puts.proofs.StepPlaces.{FoundAt, at_loose, at_register, at_row, comes-put, fill-place, found-at, held-place, loose-place, make-place, moved, reg-is, root-or-found, touch-place}
use Rattle.st_puts.proofs.StepRows.{incoming-mark}
use Rattle.st_puts.specs.Meant.{IsOver}
use Rattle.st_puts.specs.declared.spots.Told.{Told}
use Rattle.st_puts.specs.inside.First.{first_at}
use Rattle.st_puts.specs.inside.Spots.{found_before, gone_after, gone_spot, held_spot, leaves_by, loose_spot, new_spot, row_told, stands_after, stands_by, stood_by, told_by}
use Rattle.st_puts.proofs.Firsts.{first-is, is-first}
use Rattle.st_puts.proofs.Marks.{from-spread, in-spread}

abbrev Pair : Type 0
Pair = NodeId × Spot

-- what is so of each pair of one is so of a pair that is the same
carry : (P : NodeId → Spot → Type 0) (k n : NodeId) (q p : Spot) → ◌≡◌ {A = Pair} (k, q) (n, p) → P k q → P n p
carry P k n q p e h = subst (λ (z : Pair). P z.0 z.1) e h

-- ## One mark

touch-not : (c : CellId) (n : NodeId) (h : How) → Touch c n h ≡ Counted → ⊥
touch-not c n h e = cc

make-not : (c : CellId) (n : NodeId) (b : Bool) → Make c n b ≡ Counted → ⊥
make-not c n b e = cc

fill-not : (c : CellId) (n : NodeId) → Fill c n ≡ Counted → ⊥
fill-not c n e = cc

is-leave : (h : How) → is_leave h ≡ true → h ≡ Leave
is-leave Stay e = cc
is-leave Here e = cc
is-leave Leave e = refl

-- what a pair of a row says of its node, by what each mark says
stands-cases : (P : NodeId → Spot → Type 0) (r : RowMarks)
    → ((c : CellId) (n : NodeId) (h : How) → Has (spread r.marks) (Touch c n h) → is_leave h ≡ false → P n (Spot.Row r.node c))
    → ((c : CellId) (n : NodeId) → Has (spread r.marks) (Make c n true) → P n (Spot.Row r.node c))
    → ((c : CellId) (n : NodeId) → Has (spread r.marks) (Fill c n) → P n (Spot.Row r.node c))
    → (n : NodeId) (p : Spot) → Has (row_told Told.After r) (n, p) → P n p
stands-cases P r touched made filled n p h = let y = has-flat_map (told_by Told.After r.node) r.marks (n, p) h in go y.0 y.1 y.2
  where
    go : (y : Mark) → Has r.marks y → Has (stands_by r.node y) (n, p) → P n p
    go (Mark.Skip k) i j = absurd j
    go (Mark.Gap c) i j = absurd j
    go (Mark.Touch c k w) i j = by (is_leave w) refl j
      where
        by : (b : Bool) → is_leave w ≡ b → Has {A = Pair} (cond b [] ((k, Spot.Row r.node c) ∷ [])) (n, p) → P n p
        by true e q = absurd q
        by false e (inl q) = carry P k n (Spot.Row r.node c) p q (touched c k w (in-spread r.marks (Touch c k w) (touch-not c k w) i) e)
        by false e (inr q) = absurd q
    go (Mark.Make c k true) i (inl q) = carry P k n (Spot.Row r.node c) p q (made c k (in-spread r.marks (Make c k true) (make-not c k true) i))
    go (Mark.Make c k true) i (inr q) = absurd q
    go (Mark.Make c k false) i j = absurd j
    go (Mark.Fill c k) i (inl q) = carry P k n (Spot.Row r.node c) p q (filled c k (in-spread r.marks (Fill c k) (fill-not c k) i))
    go (Mark.Fill c k) i (inr q) = absurd q

leaves-cases : (P : NodeId → Spot → Type 0) (r : RowMarks)
    → ((c : CellId) (n : NodeId) → Has (spread r.marks) (Touch c n Leave) → P n Spot.Nowhere)
    → (n : NodeId) (p : Spot) → Has (row_told Told.Left r) (n, p) → P n p
leaves-cases P r left n p h = let y = has-flat_map (told_by Told.Left r.node) r.marks (n, p) h in go y.0 y.1 y.2
  where
    go : (y : Mark) → Has r.marks y → Has (leaves_by y) (n, p) → P n p
    go (Mark.Skip k) i j = absurd j
    go (Mark.Gap c) i j = absurd j
    go (Mark.Touch c k w) i j = by (is_leave w) refl j
      where
        by : (b : Bool) → is_leave w ≡ b → Has {A = Pair} (cond b ((k, Spot.Nowhere) ∷ []) []) (n, p) → P n p
        by false e q = absurd q
        by true e (inl q) = carry P k n Spot.Nowhere p q (left c k (subst (λ h. Has (spread r.marks) (Touch c k h)) (is-leave w e) (in-spread r.marks (Touch c k w) (touch-not c k w) i)))
        by true e (inr q) = absurd q
    go (Mark.Make c k b) i j = absurd j
    go (Mark.Fill c k) i j = absurd j

stood-cases : (P : NodeId → Spot → Type 0) (r : RowMarks)
    → ((c : CellId) (n : NodeId) (h : How) → Has (spread r.marks) (Touch c n h) → P n (Spot.Row r.node c))
    → (n : NodeId) (p : Spot) → Has (row_told Told.Before r) (n, p) → P n p
stood-cases P r touched n p h = let y = has-flat_map (told_by Told.Before r.node) r.marks (n, p) h in go y.0 y.1 y.2
  where
    go : (y : Mark) → Has r.marks y → Has (stood_by r.node y) (n, p) → P n p
    go (Mark.Skip k) i j = absurd j
    go (Mark.Gap c) i j = absurd j
    go (Mark.Touch c k w) i (inl q) = carry P k n (Spot.Row r.node c) p q (touched c k w (in-spread r.marks (Touch c k w) (touch-not c k w) i))
    go (Mark.Touch c k w) i (inr q) = absurd q
    go (Mark.Make c k b) i j = absurd j
    go (Mark.Fill c k) i j = absurd j

-- a node that a mark shows is told
touch-told : (r : RowMarks) (c : CellId) (n : NodeId) (h : How) → Has (spread r.marks) (Touch c n h) → Has (row_told Told.After r) (n, Spot.Row r.node c) ⊎ Has (row_told Told.Left r) (n, Spot.Nowhere)
touch-told r c n h i = go (is_leave h) refl
  where
    y : Has r.marks (Mark.Touch c n h)
    y = from-spread r.marks (Touch c n h) (touch-not c n h) i

    go : (b : Bool) → is_leave h ≡ b → Has (row_told Told.After r) (n, Spot.Row r.node c) ⊎ Has (row_told Told.Left r) (n, Spot.Nowhere)
    go false e = inl (flat_map-has (told_by Told.After r.node) r.marks (Mark.Touch c n h) (n, Spot.Row r.node c) y
        (subst (λ b. Has {A = Pair} (cond b [] ((n, Spot.Row r.node c) ∷ [])) (n, Spot.Row r.node c)) (sym e) (inl refl)))
    go true e = inr (flat_map-has (told_by Told.Left r.node) r.marks (Mark.Touch c n h) (n, Spot.Nowhere) y
        (subst (λ b. Has {A = Pair} (cond b ((n, Spot.Nowhere) ∷ []) []) (n, Spot.Nowhere)) (sym e) (inl refl)))

held-is : (f : FieldId) (o : Option NodeId) (n : NodeId) (p : Spot) → Has (held_spot f o) (n, p) → (o ≡ Some n) × (Spot.Register f ≡ p)
held-is f None n p h = absurd h
held-is f (Some k) n p (inl q) = (ap (λ (z : Pair). Some z.0) q, ap (λ (z : Pair). z.1) q)
held-is f (Some k) n p (inr q) = absurd q

is-held : (f : FieldId) (o : Option NodeId) (n : NodeId) → o ≡ Some n → Has (held_spot f o) (n, Spot.Register f)
is-held f o n e = subst (λ o. Has (held_spot f o) (n, Spot.Register f)) (sym e) (inl refl)

gone-is : (o : Option NodeId) (n : NodeId) (p : Spot) → Has (gone_spot o) (n, p) → (o ≡ Some n) × (Spot.Nowhere ≡ p)
gone-is None n p h = absurd h
gone-is (Some k) n p (inl q) = (ap (λ (z : Pair). Some z.0) q, ap (λ (z : Pair). z.1) q)
gone-is (Some k) n p (inr q) = absurd q

is-gone : (o : Option NodeId) (n : NodeId) → o ≡ Some n → Has (gone_spot o) (n, Spot.Nowhere)
is-gone o n e = subst (λ o. Has (gone_spot o) (n, Spot.Nowhere)) (sym e) (inl refl)

not-stay-leave : Leave ≡ Stay → ⊥
not-stay-leave e = cc

leave-told : (h : How) → h ≡ Leave → is_leave h ≡ false → ⊥
leave-told h e f = let q : ◌≡◌ {A = Bool} true false = sym (ap is_leave e) ∙ f in cc

gained-new : (n : NodeId) (a b : Option NodeType) (m : NewNode) → gained_node n a b ≡ Some m → (a ≡ None) × (m.node ≡ n)
gained-new n None None m e = cc
gained-new n None (Some t) m e = (refl, sym (ap node e))
  where
    node : Option NewNode → NodeId
    node None = n
    node (Some m) = m.node
gained-new n (Some t) b m e = cc

-- who stands in a cell before is touched
standing-touch : (ms : List CellMark) (n : NodeId) → Has (nodes_standing (cells_before ms)) n → (c : CellId) × (h : How) × Has ms (Touch c n h)
standing-touch [] n i = absurd i
standing-touch (Counted ∷ ms) n i = let r = standing-touch ms n i in (r.0, r.1, inr r.2)
standing-touch (Gap e ∷ ms) n i = let r = standing-touch ms n i in (r.0, r.1, inr r.2)
standing-touch (Touch e k g ∷ ms) n (inl q) = (e, g, inl (ap (λ k. Touch e k g) q))
standing-touch (Touch e k g ∷ ms) n (inr i) = let r = standing-touch ms n i in (r.0, r.1, inr r.2)
standing-touch (Make e k b ∷ ms) n i = let r = standing-touch ms n i in (r.0, r.1, inr r.2)
standing-touch (Fill e k ∷ ms) n i = let r = standing-touch ms n i in (r.0, r.1, inr r.2)

-- ## A step

module _ (D E : Document) (S : Step) (x : IsExtendedBy D E) (s : IsStep D E S) where
  abbrev rows_part : Told → List Pair
  rows_part w = flat_map (row_told w) S.rows

  abbrev after_part : List Pair
  after_part = flat_map (λ (r : RegStep). held_spot r.field r.after) S.regs

  abbrev before_part : List Pair
  before_part = flat_map (λ (r : RegStep). gone_spot r.before) S.regs

  pub stands_right : (n : NodeId) (p : Spot) → Has (stands_after S) (n, p) → E.place n ≡ p
  stands_right n p h = elim (has-append (rows_part Told.After) after_part (n, p) h) [
    | inl i ↦ (let r = has-flat_map (row_told Told.After) S.rows (n, p) i in
        stands-cases (λ k q. E.place k ≡ q) r.0
        (λ c k w j e. touched r.0 c k w r.1 j e)
        (λ c k j. (make-place D E S x s r.0 c k r.1 j).0)
        (λ c k j. (fill-place D E S x s r.0 c k r.1 j).0) n p r.2)
    | inr i ↦ (let r = has-flat_map (λ (r : RegStep). held_spot r.field r.after) S.regs (n, p) i in
        let q = held-is r.0.field r.0.after n p r.2 in
        (x.after.one_held n r.0.field).0 (sym (reg-is D E S x s r.0 r.1).1 ∙ q.0) ∙ q.1)
  ]
    where
      touched : (r : RowMarks) (c : CellId) (k : NodeId) (w : How) → Has S.rows r → Has (spread r.marks) (Touch c k w) → is_leave w ≡ false → E.place k ≡ Spot.Row r.node c
      touched r c k w i j e = let t = touch-place D E S x s r c k w i j in elim t.1 [
        | inl v ↦ sym v.1 ∙ t.0
        | inr v ↦ absurd (leave-told w v.0 e)
      ]

  -- one who comes to a place stands there
  comes : (n : NodeId) → D.place n ≢ E.place n → E.place n ≢ Spot.Nowhere → (p : Spot) × Has (stands_after S) (n, p)
  comes n apart some = elim (has-append (in_rows incoming_nodes S.rows) (flat_map put_over S.regs) n (comes-put D E S x s n (E.place n) (refl, apart) some)) [
    | inl i ↦ (let r = has-flat_map (λ (r : RowMarks). incoming_nodes (spread r.marks)) S.rows n i in
        let w = incoming-mark (spread r.0.marks) n r.2 in
        (Spot.Row r.0.node w.0, append_left (rows_part Told.After) after_part (n, Spot.Row r.0.node w.0) (flat_map-has (row_told Told.After) S.rows r.0 (n, Spot.Row r.0.node w.0) r.1 (in_row r.0 w.0 w.1))))
    | inr i ↦ (let r = has-flat_map put_over S.regs n i in (
      Spot.Register r.0.field,
      append_right (rows_part Told.After) after_part (n, Spot.Register r.0.field)
          (flat_map-has (λ (r : RegStep). held_spot r.field r.after) S.regs r.0 (n, Spot.Register r.0.field) r.1 (is-held r.0.field r.0.after n (put-after r.0 r.2))),
    ))
  ]
    where
      in_row : (r : RowMarks) (a : CellId) → Has (spread r.marks) (Make a n true) ⊎ Has (spread r.marks) (Fill a n) → Has (row_told Told.After r) (n, Spot.Row r.node a)
      in_row r a (inl j) = flat_map-has (told_by Told.After r.node) r.marks (Mark.Make a n true) (n, Spot.Row r.node a) (from-spread r.marks (Make a n true) (make-not a n true) j) (inl refl)
      in_row r a (inr j) = flat_map-has (told_by Told.After r.node) r.marks (Mark.Fill a n) (n, Spot.Row r.node a) (from-spread r.marks (Fill a n) (fill-not a n) j) (inl refl)

      put-after : (r : RegStep) → Has (put_over r) n → r.after ≡ Some n
      put-after r h = go (Rattle.st_marks.specs.Intent.same_option same_node r.before r.after) h
        where
          go : (b : Bool) → Has (cond b [] (one_or_none r.after)) n → r.after ≡ Some n
          go true h = absurd h
          go false h = one-is r.after n h

  -- who is told nowhere is there, or is told to stand somewhere
  abbrev IsGone : NodeId → Spot → Type 0
  IsGone n p = (Spot.Nowhere ≡ p) × ((E.place n ≡ Spot.Nowhere) ⊎ ((q : Spot) × Has (stands_after S) (n, q)))

  by_place : (n : NodeId) → (E.place n ≢ Spot.Nowhere → (q : Spot) × Has (stands_after S) (n, q)) → (E.place n ≡ Spot.Nowhere) ⊎ ((q : Spot) × Has (stands_after S) (n, q))
  by_place n h = elim (same_spot (E.place n) Spot.Nowhere) [ inl e ↦ inl e | inr d ↦ inr (h d) ]

  pub gone_right : (n : NodeId) (p : Spot) → Has (gone_after S) (n, p) → IsGone n p
  gone_right n p h = elim (has-append (rows_part Told.Left ++ before_part ++ map loose_spot S.loose) (map new_spot S.new) (n, p) h) [
    | inr i ↦ (let k = has-map new_spot S.new (n, p) i in
        (ap (λ (z : Pair). z.1) k.2, by_place n (λ some. comes n (λ e. some (sym e ∙ new_nowhere k.0 k.1 (ap (λ (z : Pair). z.0) k.2))) some)))
    | inl a ↦ elim (has-append (rows_part Told.Left ++ before_part) (map loose_spot S.loose) (n, p) a) [
      | inr i ↦ (let l = has-map loose_spot S.loose (n, p) i in
          (ap (λ (z : Pair). z.1) l.2, by_place n (λ some. comes n (λ e. some (sym e ∙ ap D.place (sym (ap (λ (z : Pair). z.0) l.2)) ∙ (loose-place D E S x s l.0 l.1).0)) some)))
      | inl b ↦ elim (has-append (rows_part Told.Left) before_part (n, p) b) [
        | inl i ↦ (let r = has-flat_map (row_told Told.Left) S.rows (n, p) i in leaves-cases IsGone r.0 (λ c k j. (refl, by_place k (λ some. comes k (apart r.0 c k r.1 j) some))) n p r.2)
        | inr i ↦ (let r = has-flat_map (λ (r : RegStep). gone_spot r.before) S.regs (n, p) i in
            let q = gone-is r.0.before n p r.2 in
            (q.1, by_place n (λ some. in_register r.0 r.1 q.0 some)))
      ]
    ]
  ]
    where
      apart : (r : RowMarks) (c : CellId) (k : NodeId) → Has S.rows r → Has (spread r.marks) (Touch c k Leave) → D.place k ≢ E.place k
      apart r c k i j = elim (touch-place D E S x s r c k Leave i j).1 [
        | inl v ↦ absurd (not-stay-leave v.0)
        | inr v ↦ v.1
      ]

      in_register : (r : RegStep) → Has S.regs r → r.before ≡ Some n → E.place n ≢ Spot.Nowhere → (q : Spot) × Has (stands_after S) (n, q)
      in_register r i e some = let t = held-place D E S x s r n i e in elim t.1 [
        | inl v ↦ (
          Spot.Register r.field,
          append_right (rows_part Told.After) after_part (n, Spot.Register r.field)
              (flat_map-has (λ (r : RegStep). held_spot r.field r.after) S.regs r (n, Spot.Register r.field) i
              (is-held r.field r.after n ((reg-is D E S x s r i).1 ∙ (x.after.one_held n r.field).1 (sym v.1 ∙ t.0)))),
        )
        | inr v ↦ comes n v.1 some
      ]

      new_nowhere : (k : NewNode) → Has S.new k → k.node ≡ n → D.place n ≡ Spot.Nowhere
      new_nowhere k i e = unknown_nowhere D x.before n (ap D.nodes (sym e)
          ∙ (gained-new k.node (D.nodes k.node) (E.nodes k.node) k (sym (s.new.at_each k.node) ∙ has-item_of node_cmp node_cmp_total node_cmp_exact (λ (m : NewNode). m.node) S.new k s.new.rising i)).0)

  abbrev pub told_after : NodeId → Option Spot
  told_after n = option_or (first_at (stands_after S) n) (first_at (gone_after S) n)

  -- whom the table tells of stands there
  pub after_right : (n : NodeId) (p : Spot) → told_after n ≡ Some p → E.place n ≡ p
  after_right n p e = go (first_at (stands_after S) n) refl (first_at (gone_after S) n) refl e
    where
      clash : (v : Spot) → first_at (stands_after S) n ≡ Some v → first_at (stands_after S) n ≡ None → ⊥
      clash v a b = let q : ◌≡◌ {A = Option Spot} (Some v) None = sym a ∙ b in cc

      go : (a : Option Spot) → first_at (stands_after S) n ≡ a → (b : Option Spot) → first_at (gone_after S) n ≡ b → option_or a b ≡ Some p → E.place n ≡ p
      go (Some q) f b g h = let same : q ≡ p = cc in stands_right n q (first-is (stands_after S) n q f) ∙ same
      go None f None g h = cc
      go None f (Some q) g h =
          let same : q ≡ p = cc in
          let w = gone_right n q (first-is (gone_after S) n q g) in
          elim w.1 [
            | inl z ↦ z ∙ w.0 ∙ same
            | inr z ↦ (let k = is-first (stands_after S) n z.0 z.1 in absurd (clash k.0 k.1 f))
          ]

  told-first : (n : NodeId) (p : Spot) → Has (stands_after S) (n, p) ⊎ Has (gone_after S) (n, p) → IsSome (told_after n)
  told-first n p (inl h) = let k = is-first (stands_after S) n p h in rw k.1 refl
  told-first n p (inr h) = let k = is-first (gone_after S) n p h in go (first_at (stands_after S) n) k.0 k.1
    where
      go : (a : Option Spot) (v : Spot) → first_at (gone_after S) n ≡ Some v → IsSome (option_or a (first_at (gone_after S) n))
      go (Some q) v e = refl
      go None v e = rw e refl

  in_gone : (n : NodeId) (p : Spot) → Has (rows_part Told.Left ++ before_part ++ map loose_spot S.loose) (n, p) → Has (gone_after S) (n, p)
  in_gone n p h = append_left (rows_part Told.Left ++ before_part ++ map loose_spot S.loose) (map new_spot S.new) (n, p) h

  pub touch-listed : (r : RowMarks) (c : CellId) (n : NodeId) (h : How) → Has S.rows r → Has (spread r.marks) (Touch c n h) → IsSome (told_after n)
  touch-listed r c n h i j = elim (touch-told r c n h j) [
    | inl k ↦ told-first n (Spot.Row r.node c) (inl (append_left (rows_part Told.After) after_part (n, Spot.Row r.node c) (flat_map-has (row_told Told.After) S.rows r (n, Spot.Row r.node c) i k)))
    | inr k ↦ told-first n Spot.Nowhere (inr (in_gone n Spot.Nowhere (append_left (rows_part Told.Left ++ before_part) (map loose_spot S.loose) (n, Spot.Nowhere)
        (append_left (rows_part Told.Left) before_part (n, Spot.Nowhere) (flat_map-has (row_told Told.Left) S.rows r (n, Spot.Nowhere) i k)))))
  ]

  pub held-listed : (r : RegStep) (n : NodeId) → Has S.regs r → r.before ≡ Some n → IsSome (told_after n)
  held-listed r n i e = told-first n Spot.Nowhere (inr (in_gone n Spot.Nowhere (append_left (rows_part Told.Left ++ before_part) (map loose_spot S.loose) (n, Spot.Nowhere)
      (append_right (rows_part Told.Left) before_part (n, Spot.Nowhere) (flat_map-has (λ (r : RegStep). gone_spot r.before) S.regs r (n, Spot.Nowhere) i (is-gone r.before n e))))))

  pub loose-listed : (l : Loose) → Has S.loose l → IsSome (told_after l.node)
  loose-listed l i = told-first l.node Spot.Nowhere (inr (in_gone l.node Spot.Nowhere (append_right (rows_part Told.Left ++ before_part) (map loose_spot S.loose) (l.node, Spot.Nowhere) (map-has loose_spot S.loose l i))))

  pub new-listed : (k : NewNode) → Has S.new k → IsSome (told_after k.node)
  new-listed k i = told-first k.node Spot.Nowhere (inr (append_right (rows_part Told.Left ++ before_part ++ map loose_spot S.loose) (map new_spot S.new) (k.node, Spot.Nowhere) (map-has new_spot S.new k i)))

  -- whom the step lists before or makes is told
  pub listed_told : (n : NodeId) → is_among (nodes_new S.new ++ nodes_loose S.loose ++ placed_before S.rows (map (λ (r : RegStep). r.before) S.regs)) n ≡ true → IsSome (told_after n)
  listed_told n e = elim (has-append (nodes_new S.new ++ nodes_loose S.loose) (placed_before S.rows (map (λ (r : RegStep). r.before) S.regs)) n ((among_has _ n).0 e)) [
    | inl a ↦ elim (has-append (nodes_new S.new) (nodes_loose S.loose) n a) [
      | inl i ↦ (let k = has-map (λ (m : NewNode). m.node) S.new n i in subst (λ n. IsSome (told_after n)) k.2 (new-listed k.0 k.1))
      | inr i ↦ (let l = has-map (λ (l : Loose). l.node) S.loose n i in subst (λ n. IsSome (told_after n)) l.2 (loose-listed l.0 l.1))
    ]
    | inr a ↦ elim (has-append (flat_map (λ (r : RowMarks). nodes_standing (cells_before (spread r.marks))) S.rows) (flat_map one_or_none (map (λ (r : RegStep). r.before) S.regs)) n a) [
      | inl i ↦ (let r = has-flat_map (λ (r : RowMarks). nodes_standing (cells_before (spread r.marks))) S.rows n i in
          let t = standing-touch (spread r.0.marks) n r.2 in
          touch-listed r.0 t.0 n t.1 r.1 t.2)
      | inr i ↦ (let o = has-flat_map one_or_none (map (λ (r : RegStep). r.before) S.regs) n i in
          let r = has-map (λ (r : RegStep). r.before) S.regs o.0 o.1 in
          held-listed r.0 n r.1 (r.2 ∙ one-is o.0 n o.2))
    ]
  ]

  -- whom the step mentions is told, but for the root
  pub named_told : (n : NodeId) → s.mentioned n ≡ true → (n ≡ root) ⊎ IsSome (told_after n)
  named_told n e = elim (root-or-found D E S x s n e) [
    | inl r ↦ inl r
    | inr i ↦ inr (let f = has-map (λ (f : Found). f.node) (entries_of_step S).found n i in subst (λ n. IsSome (told_after n)) f.2 (at f.0.node f.0.how (found-at D E S x s f.0 f.1).0))
  ]
    where
      at : (n : NodeId) (h : How) → FoundAt D E S x s n h → IsSome (told_after n)
      at n h (at_row r a i j p) = touch-listed r a n h i j
      at n h (at_register r i q p) = held-listed r n i q
      at n h (at_loose l i q p k) = subst (λ n. IsSome (told_after n)) q (loose-listed l i)

  -- whom the step makes is told
  pub made_told : (n : NodeId) → D.nodes n ≡ None → IsSome (E.nodes n) → IsSome (told_after n)
  made_told n e k = go (E.nodes n) refl k
    where
      go : (o : Option NodeType) → E.nodes n ≡ o → IsSome o → IsSome (told_after n)
      go None f k = cc
      go (Some t) f k =
          let m : NewNode = record { node = n; ty = t.ty; leaf = t.leaf } in
          let i = item_of-has node_cmp node_cmp_total node_cmp_exact (λ (m : NewNode). m.node) S.new n m (s.new.at_each n ∙ (λ i. gained_node n (e i) (f i))) in
          new-listed m i.0

-- ## A change

module _ (D : Document) (N : Intent) (C : Change) (x : IsSoundInForm D) (f : Fits D N) (emb : IsEmbedding D N C) where
  o : IsOver D C
  o = embedding_over D N C x f emb

  abbrev rows_found : List Pair
  rows_found = flat_map (row_told Told.Before) C.rows

  abbrev regs_found : List Pair
  regs_found = flat_map (λ (r : RegMark). held_spot r.field r.held) C.regs

  pub found_right : (n : NodeId) (p : Spot) → Has (found_before C) (n, p) → D.place n ≡ p
  found_right n p h = elim (has-append (rows_found ++ regs_found) (map loose_spot C.loose) (n, p) h) [
    | inr i ↦ (let l = has-map loose_spot C.loose (n, p) i in carry (λ k q. D.place k ≡ q) l.0.node n Spot.Nowhere p l.2 (o.loose l.0 l.1).0)
    | inl a ↦ elim (has-append rows_found regs_found (n, p) a) [
      | inl i ↦ (let r = has-flat_map (row_told Told.Before) C.rows (n, p) i in
          stood-cases (λ k q. D.place k ≡ q) r.0 (λ c k w j. touch_place D C x o r.0 c k w r.1 j) n p r.2)
      | inr i ↦ (let r = has-flat_map (λ (r : RegMark). held_spot r.field r.held) C.regs (n, p) i in
          let q = held-is r.0.field r.0.held n p r.2 in
          held_place D C x o r.0 n r.1 q.0 ∙ q.1)
    ]
  ]

  -- whom the intent mentions is told, but for the root
  pub mentioned_told : (n : NodeId) → emb.mentioned n ≡ true → (n ≡ root) ⊎ IsSome (first_at (found_before C) n)
  mentioned_told n e = elim (mentioned-found D N C x f emb n e) [
    | inl r ↦ inl r
    | inr i ↦ inr (let g = has-map (λ (g : Found). g.node) (entries_of_change C).found n i in subst (λ n. IsSome (first_at (found_before C) n)) g.2 (at g.0.node g.0.how (found_placed D C x o g.0 g.1)))
  ]
    where
      some : (n : NodeId) (p : Spot) → Has (found_before C) (n, p) → IsSome (first_at (found_before C) n)
      some n p h = let k = is-first (found_before C) n p h in rw k.1 refl

      at : (n : NodeId) (h : How) → PlacedAs D C n h → IsSome (first_at (found_before C) n)
      at n h (as_row r c i j p) = some n (Spot.Row r.node c) (append_left (rows_found ++ regs_found) (map loose_spot C.loose) (n, Spot.Row r.node c) (append_left rows_found regs_found (n, Spot.Row r.node c)
          (flat_map-has (row_told Told.Before) C.rows r (n, Spot.Row r.node c) i (flat_map-has (told_by Told.Before r.node) r.marks (Mark.Touch c n h) (n, Spot.Row r.node c) (from-spread r.marks (Touch c n h) (touch-not c n h) j) (inl refl)))))
      at n h (as_held r i e g p) = some n (Spot.Register r.field) (append_left (rows_found ++ regs_found) (map loose_spot C.loose) (n, Spot.Register r.field) (append_right rows_found regs_found (n, Spot.Register r.field)
          (flat_map-has (λ (r : RegMark). held_spot r.field r.held) C.regs r (n, Spot.Register r.field) i (is-held r.field r.held n e))))
      at n h (as_loose l i e g p k) = subst (λ n. IsSome (first_at (found_before C) n)) e (some l.node Spot.Nowhere (append_right (rows_found ++ regs_found) (map loose_spot C.loose) (l.node, Spot.Nowhere) (map-has loose_spot C.loose l i)))

-- ## Both

module _ (D E : Document) (N : Intent) (C : Change) (S : Step) (x : IsExtendedBy D E) (f : Fits D N) (g : Fits E N) (emb : IsEmbedding D N C) (s : IsStep D E S) where
  unknown : (a : Option Spot) → a ≡ None → IsSome a → ⊥
  unknown a e k = let q : ◌≡◌ {A = Bool} false true = rw e at k in cc

  root-there : (n : NodeId) → n ≡ root → Spot.Nowhere ≡ E.place n
  root-there n e = sym (ap E.place e ∙ x.after.root_nowhere)

  some-known : (n : NodeId) → emb.mentioned n ≡ true → IsSome (D.nodes n)
  some-known n e = let k = (emb.which n).0 e in climb-known D x.before k.3 k.0 n k.2 k.4

  -- where the table tells a node that is mentioned
  pub beside_right : (n : NodeId) → IsMentionedByIntent E N n → (o : Option Spot) → o ≡ option_or (told_after D E S x s n) (first_at (found_before C) n) → Rattle.std.specs.Prelude.unwrap_or o Spot.Nowhere ≡ E.place n
  beside_right n m o e = go (told_after D E S x s n) refl (first_at (found_before C) n) refl o e
    where
      covered : IsCovered D E N n
      covered = covers D E N x f g n m

      not_told : told_after D E S x s n ≡ None → (n ≡ root) ⊎ IsSome (told_after D E S x s n) → n ≡ root
      not_told h (inl r) = r
      not_told h (inr k) = absurd (unknown (told_after D E S x s n) h k)

      stays : told_after D E S x s n ≡ None → IsSome (D.nodes n) → D.place n ≡ E.place n
      stays h k = elim (same_spot (D.place n) (E.place n)) [
        | inl q ↦ q
        | inr d ↦ (let r = not_told h (named_told D E S x s n (moved D E S x s n k d)) in ap D.place r ∙ x.before.root_nowhere ∙ sym x.after.root_nowhere ∙ ap E.place (sym r))
      ]

      found_known : (p : Spot) → first_at (found_before C) n ≡ Some p → IsSome (D.nodes n) ⊎ (D.nodes n ≡ None)
      found_known p h = known (D.nodes n)
        where
          known : (q : Option NodeType) → IsSome q ⊎ (q ≡ None)
          known None = inr refl
          known (Some t) = inl refl

      absent : told_after D E S x s n ≡ None → D.nodes n ≡ None → Spot.Nowhere ≡ E.place n
      absent h e = known (E.nodes n) refl
        where
          known : (q : Option NodeType) → E.nodes n ≡ q → Spot.Nowhere ≡ E.place n
          known None k = sym (unknown_nowhere E x.after n k)
          known (Some t) k = absurd (unknown (told_after D E S x s n) h (made_told D E S x s n e (rw k refl)))

      go : (a : Option Spot) → told_after D E S x s n ≡ a → (b : Option Spot) → first_at (found_before C) n ≡ b → (o : Option Spot) → o ≡ option_or (told_after D E S x s n) (first_at (found_before C) n) → Rattle.std.specs.Prelude.unwrap_or o Spot.Nowhere ≡ E.place n
      go (Some p) h b k o e = ap (λ o. Rattle.std.specs.Prelude.unwrap_or o Spot.Nowhere) (e ∙ ap (λ a. option_or a (first_at (found_before C) n)) h) ∙ sym (after_right D E S x s n p h)
      go None h (Some p) k o e =
          let is : Rattle.std.specs.Prelude.unwrap_or o Spot.Nowhere ≡ p = ap (λ o. Rattle.std.specs.Prelude.unwrap_or o Spot.Nowhere) (e ∙ (λ i. option_or (h i) (k i))) in
          let at = found_right D N C x.before f emb n p (first-is (found_before C) n p k) in
          elim (found_known p k) [
            | inl w ↦ is ∙ sym at ∙ stays h w
            | inr w ↦ is ∙ sym at ∙ unknown_nowhere D x.before n w ∙ absent h w
          ]
      go None h None k o e =
          let is : Rattle.std.specs.Prelude.unwrap_or o Spot.Nowhere ≡ Spot.Nowhere = ap (λ o. Rattle.std.specs.Prelude.unwrap_or o Spot.Nowhere) (e ∙ (λ i. option_or (h i) (k i))) in
          elim covered [
            | inl w ↦ elim (mentioned_told D N C x.before f emb n ((emb.which n).1 w)) [
              | inl r ↦ is ∙ root-there n r
              | inr z ↦ absurd (unknown (first_at (found_before C) n) k z)
            ]
            | inr w ↦ elim w [
              | inl v ↦ is ∙ root-there n (not_told h (named_told D E S x s n ((s.which n).1 v)))
              | inr v ↦ is ∙ absent h v
            ]
          ]
