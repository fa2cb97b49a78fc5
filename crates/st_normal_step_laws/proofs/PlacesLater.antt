-- Where nodes stand after a step, over a document over which it is.
use Rattle.std.proofs.Common.{◌≡◌, ◌≢◌, ◌++◌, ◌⊎◌, Bool, true, false, List, [], ◌∷◌, map, Option, Some, None, IsSome, cond, refl, sym, ap, ◌∙◌, subst, inl, inr}
use Rattle.std.specs.List.{find, flat_map}
use Rattle.std.specs.Option.{option_map_or}
use Rattle.st_ids.specs.Listing.{AreDistinct, Has, item_of}
use Rattle.st_ids.specs.Order.{node_cmp, same_node}
use Rattle.st_ids.specs.Root.{root}
use Rattle.st_ids.proofs.Listings.{has-item_of, item_of-has}
use Rattle.st_ids.proofs.Orders.{node_cmp_exact, node_cmp_total, same_node-itself, same_node-true}
use Rattle.st_ids.specs.declared.names.CellId.{CellId}
use Rattle.st_ids.specs.declared.names.FieldId.{FieldId}
use Rattle.st_ids.specs.declared.names.NodeId.{NodeId}
use Rattle.st_marks.specs.declared.marks.How.{How}
use Rattle.st_marks.specs.declared.marks.How.TheVariants.{Stay, Leave}
use Rattle.st_marks.specs.declared.marks.Loose.{Loose}
use Rattle.st_marks.specs.declared.marks.RegStep.{RegStep}
use Rattle.st_marks.specs.declared.marks.RowMarks.{RowMarks}
use Rattle.st_marks.specs.declared.places.Spot.{Spot}
use Rattle.st_marks.specs.declared.steps.Step.{Step}
use Rattle.st_marks.specs.Document.{Document, IsSoundInForm, content}
use Rattle.st_marks.specs.Embedding.{is_among}
use Rattle.st_marks.specs.How.{is_leave}
use Rattle.st_marks.specs.Listings.{cell_in, cells_in, marks_of}
use Rattle.st_marks.specs.Row.{CellMark, Counted, Gap, Touch, Make, Fill, spread}
use Rattle.st_marks.proofs.Climb.{placed_known, stands}
use Rattle.st_marks.proofs.Members.{all-has, append_left, append_right, distinct-has, first-distinct, first-has, flat_map-has, has-all, has-append, has-flat_map, has-map, list_distinct, map-has, one_list}
use Rattle.st_normal.specs.declared.entries.Found.{Found}
use Rattle.st_normal.specs.Rules.{Entries, IsFound, IsFoundAs, ObeysStepRules, entries_of_step, found_in, found_loose, found_over, how_over, in_rows, incoming_nodes, put_over}
use Rattle.st_normal.proofs.NoRings.{among_has}
use Rattle.st_normal.proofs.OnePlace.{map-all}
use Rattle.st_puts.specs.Meant.{leaving_nodes}
use Rattle.st_puts.proofs.Basics.{register-not-nowhere, row-not-nowhere}
use Rattle.st_puts.proofs.FoundPlaces.{found_held-is, found_in-has, has-found_in, is-found_held, touched}
use Rattle.st_puts.proofs.MentionsOfIntents.{has-leaving, leaving-has}
use Rattle.st_lemmas.proofs.Lists.{flat_map-same, map-append}
use Rattle.st_lemmas.proofs.Bools.{true-false}
use Rattle.st_normal_laws.specs.Laid.{Stand}
use Rattle.st_normal_step_laws.specs.StepOver.{IsOverStep, later, row_later, stand_at, stand_by, stands_by, stands_over, stands_put, unless_leaves}
use Rattle.st_normal_step_laws.proofs.RowsLater.{Grew, grew}

-- ## Whom marks put

row-stands : (k : NodeId) (ms : List CellMark) → map (λ (s : Stand). s.node) (flat_map (stand_by k) ms) ≡ incoming_nodes ms
row-stands k [] = refl
row-stands k (Counted ∷ ms) = row-stands k ms
row-stands k (Gap c ∷ ms) = row-stands k ms
row-stands k (Touch c n h ∷ ms) = row-stands k ms
row-stands k (Make c n true ∷ ms) = ap (λ l. n ∷ l) (row-stands k ms)
row-stands k (Make c n false ∷ ms) = row-stands k ms
row-stands k (Fill c n ∷ ms) = ap (λ l. n ∷ l) (row-stands k ms)

nodes-stand : (s : Spot) (ns : List NodeId) → map (λ (s : Stand). s.node) (map (stand_at s) ns) ≡ ns
nodes-stand s [] = refl
nodes-stand s (n ∷ ns) = ap (λ l. n ∷ l) (nodes-stand s ns)

distinct-back : {A K : Type 0} (key : A → K) (xs : List A) → AreDistinct (λ (k : K). k) (map key xs) → AreDistinct key xs
distinct-back key [] d = tt
distinct-back key (y ∷ xs) d = (has-all (λ z. key z ≢ key y) xs (λ z h. all-has (λ k. k ≢ key y) (map key xs) (key z) d.0 (map-has key xs z h)), distinct-back key xs d.1)

stand-mark : (k : NodeId) (ms : List CellMark) (s : Spot) (n : NodeId) → Has (flat_map (stand_by k) ms) (stand_at s n) → (c : CellId) × (Has ms (Make c n true) ⊎ Has ms (Fill c n)) × (s ≡ Spot.Row k c)
stand-mark k ms s n h = let y = has-flat_map (stand_by k) ms (stand_at s n) h in go y.0 y.1 y.2
  where
    go : (y : CellMark) → Has ms y → Has (stand_by k y) (stand_at s n) → (c : CellId) × (Has ms (Make c n true) ⊎ Has ms (Fill c n)) × (s ≡ Spot.Row k c)
    go Counted i j = absurd j
    go (Gap c) i j = absurd j
    go (Touch c m g) i j = absurd j
    go (Make c m true) i (inl e) = (c, inl (subst (λ m. Has ms (Make c m true)) (ap (λ (s : Stand). s.node) e) i), sym (ap (λ (s : Stand). s.spot) e))
    go (Make c m true) i (inr j) = absurd j
    go (Make c m false) i j = absurd j
    go (Fill c m) i (inl e) = (c, inr (subst (λ m. Has ms (Fill c m)) (ap (λ (s : Stand). s.node) e) i), sym (ap (λ (s : Stand). s.spot) e))
    go (Fill c m) i (inr j) = absurd j

-- where one that is found stands
pub data FoundThere (D : Document) (S : Step) (n : NodeId) (h : How) : Type 0 where
  there_row : (r : RowMarks) (c : CellId) → Has S.rows r → Has (spread r.marks) (Touch c n h) → D.place n ≡ Spot.Row r.node c → FoundThere D S n h
  there_held : (r : RegStep) → Has S.regs r → r.before ≡ Some n → how_over r ≡ h → D.place n ≡ Spot.Register r.field → FoundThere D S n h
  there_loose : (l : Loose) → Has S.loose l → l.node ≡ n → l.how ≡ h → D.place n ≡ Spot.Nowhere → IsSome (D.nodes n) → FoundThere D S n h

-- where a node stands after
pub data PlacedLater (D : Document) (S : Step) (n : NodeId) : Type 0 where
  by_row : (r : RowMarks) (c : CellId) → Has S.rows r → Has (spread r.marks) (Make c n true) ⊎ Has (spread r.marks) (Fill c n) → (later D S).place n ≡ Spot.Row r.node c → PlacedLater D S n
  by_register : (r : RegStep) → Has S.regs r → Has (put_over r) n → (later D S).place n ≡ Spot.Register r.field → PlacedLater D S n
  by_going : (Has (entries_of_step S).put n → ⊥) → IsFoundAs (entries_of_step S) n Leave → (later D S).place n ≡ Spot.Nowhere → PlacedLater D S n
  by_staying : (Has (entries_of_step S).put n → ⊥) → (IsFoundAs (entries_of_step S) n Leave → ⊥) → (later D S).place n ≡ D.place n → PlacedLater D S n

abbrev pub row_key : RowMarks → NodeId
row_key r = r.node

abbrev pub reg_key : RegStep → FieldId
reg_key r = r.field

module _ (D : Document) (S : Step) (x : IsSoundInForm D) (w : ObeysStepRules S) (o : IsOverStep D S) where
  abbrev L : Entries
  L = entries_of_step S

  abbrev E : Document
  E = later D S

  -- ## Rows

  pub row-marks : (r : RowMarks) → Has S.rows r → marks_of S.rows r.node ≡ spread r.marks
  row-marks r i = ap (λ (q : Option RowMarks). option_map_or (λ (r : RowMarks). spread r.marks) q []) (has-item_of node_cmp node_cmp_total node_cmp_exact row_key S.rows r w.rising.rows i)

  -- a row is listed, or as it was
  pub row-cases : (n : NodeId) → ((r : RowMarks) × Has S.rows r × (r.node ≡ n)) ⊎ ((item_of node_cmp row_key S.rows n ≡ None) × (E.rows n ≡ D.rows n))
  row-cases n = go (item_of node_cmp row_key S.rows n) refl
    where
      go : (q : Option RowMarks) → item_of node_cmp row_key S.rows n ≡ q → ((r : RowMarks) × Has S.rows r × (r.node ≡ n)) ⊎ ((item_of node_cmp row_key S.rows n ≡ None) × (E.rows n ≡ D.rows n))
      go None e = inr (e, ap (λ (q : Option RowMarks). row_later (D.rows n) (option_map_or (λ (r : RowMarks). spread r.marks) q [])) e)
      go (Some r) e = let i = item_of-has node_cmp node_cmp_total node_cmp_exact row_key S.rows n r e in inl (r, i.0, i.1)

  pub grown : (r : RowMarks) → Has S.rows r → Grew D (D.rows r.node) (spread r.marks) (E.rows r.node)
  grown r i = subst (λ ms. Grew D (D.rows r.node) (spread r.marks) (row_later (D.rows r.node) ms)) (sym (row-marks r i)) (grew D (D.rows r.node) (spread r.marks) (o.rows r i))

  -- a cell has one mark
  pub one_mark : (r q : RowMarks) (y z : CellMark) (c : CellId) → Has S.rows r → Has S.rows q → Has (spread r.marks) y → Has (spread q.marks) z → Has (cell_in y) c → Has (cell_in z) c → (r ≡ q) × (y ≡ z)
  one_mark r q y z c i j a b h k =
      let s : r ≡ q = one_list (λ (r : RowMarks). cells_in (spread r.marks)) (λ (c : CellId). c) S.rows r q c c w.common.cells_once i j (flat_map-has cell_in (spread r.marks) y c a h) (flat_map-has cell_in (spread q.marks) z c b k) refl in (
        s,
        one_list cell_in (λ (c : CellId). c) (spread r.marks) y z c c (list_distinct (λ (r : RowMarks). cells_in (spread r.marks)) (λ (c : CellId). c) S.rows r w.common.cells_once i) a (subst (λ (r : RowMarks). Has (spread r.marks) z) (sym s) b) h k refl,
      )

  -- ## Who is found

  pub found-touch : (r : RowMarks) (c : CellId) (n : NodeId) (h : How) → Has S.rows r → Has (spread r.marks) (Touch c n h) → IsFoundAs L n h
  found-touch r c n h i j = append_left (in_rows found_in S.rows) (flat_map found_over S.regs ++ found_loose S.loose) (record { node = n; how = h }) (flat_map-has (λ (r : RowMarks). found_in (spread r.marks)) S.rows r (record { node = n; how = h }) i (has-found_in (spread r.marks) c n h j))

  pub found-held : (r : RegStep) (n : NodeId) → Has S.regs r → r.before ≡ Some n → IsFoundAs L n (how_over r)
  found-held r n i e = append_right (in_rows found_in S.rows) (flat_map found_over S.regs ++ found_loose S.loose) (record { node = n; how = how_over r })
      (append_left (flat_map found_over S.regs) (found_loose S.loose) (record { node = n; how = how_over r }) (flat_map-has found_over S.regs r (record { node = n; how = how_over r }) i (is-found_held r.before n (how_over r) e)))

  pub found-nowhere : (l : Loose) → Has S.loose l → IsFoundAs L l.node l.how
  found-nowhere l i = append_right (in_rows found_in S.rows) (flat_map found_over S.regs ++ found_loose S.loose) (record { node = l.node; how = l.how })
      (append_right (flat_map found_over S.regs) (found_loose S.loose) (record { node = l.node; how = l.how }) (map-has (λ (l : Loose). let f : Found = record { node = l.node; how = l.how } in f) S.loose l i))

  pub is-found : (n : NodeId) (h : How) → IsFoundAs L n h → IsFound L n
  is-found n h i = map-has (λ (f : Found). f.node) L.found (record { node = n; how = h }) i

  pub one-how : (n : NodeId) (h g : How) → IsFoundAs L n h → IsFoundAs L n g → h ≡ g
  one-how n h g i j = ap (λ (f : Found). f.how) (distinct-has (λ (f : Found). f.node) L.found (record { node = n; how = h }) (record { node = n; how = g }) w.common.found_once i j refl)

  pub found-there : (f : Found) → Has L.found f → FoundThere D S f.node f.how
  found-there f i = elim (has-append (in_rows found_in S.rows) (flat_map found_over S.regs ++ found_loose S.loose) f i) [
    | inl j ↦ (let r = has-flat_map (λ (r : RowMarks). found_in (spread r.marks)) S.rows f j in
        let t = found_in-has (spread r.0.marks) f r.2 in
        there_row r.0 t.0 r.1 t.1 (stands D x f.node r.0.node t.0 (touched (content D r.0.node) (spread r.0.marks) t.0 f.node f.how (o.rows r.0 r.1) t.1)))
    | inr j ↦ elim (has-append (flat_map found_over S.regs) (found_loose S.loose) f j) [
      | inl k ↦ (let r = has-flat_map found_over S.regs f k in
          let q = found_held-is r.0.before (how_over r.0) f r.2 in
          there_held r.0 r.1 q.0 q.1 ((x.one_held f.node r.0.field).0 (o.held r.0 r.1 ∙ q.0)))
      | inr k ↦ (let l = has-map (λ (l : Loose). let f : Found = record { node = l.node; how = l.how } in f) S.loose f k in
          let v = o.loose l.0 l.1 in
          let n : l.0.node ≡ f.node = ap (λ (f : Found). f.node) l.2 in
          there_loose l.0 l.1 n (ap (λ (f : Found). f.how) l.2) (subst (λ m. D.place m ≡ Spot.Nowhere) n v.0) (subst (λ m. IsSome (D.nodes m)) n v.1))
    ]
  ]

  there-known : (n : NodeId) (h : How) → FoundThere D S n h → IsSome (D.nodes n)
  there-known n h (there_row r c i j e) = placed_known D x n (λ q. row-not-nowhere r.node c (sym e ∙ q))
  there-known n h (there_held r i e f g) = placed_known D x n (λ q. register-not-nowhere r.field (sym g ∙ q))
  there-known n h (there_loose l i e f g k) = k

  pub found-as : (n : NodeId) → IsFound L n → (h : How) × IsFoundAs L n h × FoundThere D S n h
  found-as n i = let f = has-map (λ (f : Found). f.node) L.found n i in
      (f.0.how, subst (λ m. IsFoundAs L m f.0.how) f.2 f.1, subst (λ m. FoundThere D S m f.0.how) f.2 (found-there f.0 f.1))

  pub found-known : (n : NodeId) → IsFound L n → IsSome (D.nodes n)
  found-known n i = let r = found-as n i in there-known n r.0 r.2

  pub new-unfound : (n : NodeId) → Has L.new n → IsFound L n → ⊥
  new-unfound n h = (all-has (λ (n : NodeId). (n ≢ root) × (IsFound L n → ⊥)) L.new n w.common.new_not_found h).1

  -- ## Who is put

  stands-are : map (λ (s : Stand). s.node) (stands_put S) ≡ L.put
  stands-are =
      map-append (λ (s : Stand). s.node) (flat_map stands_by S.rows) (flat_map stands_over S.regs)
      ∙ (λ i. (map-all (λ (s : Stand). s.node) stands_by S.rows ∙ flat_map-same (λ (r : RowMarks). map (λ (s : Stand). s.node) (stands_by r)) (λ (r : RowMarks). incoming_nodes (spread r.marks)) (λ r. row-stands r.node (spread r.marks)) S.rows) i
      ++ (map-all (λ (s : Stand). s.node) stands_over S.regs ∙ flat_map-same (λ (r : RegStep). map (λ (s : Stand). s.node) (stands_over r)) put_over (λ r. nodes-stand (Spot.Register r.field) (put_over r)) S.regs) i)

  stands_once : AreDistinct (λ (s : Stand). s.node) (stands_put S)
  stands_once = distinct-back (λ (s : Stand). s.node) (stands_put S) (subst (AreDistinct (λ (n : NodeId). n)) (sym stands-are) w.common.put_once)

  stand-put : (s : Spot) (n : NodeId) → Has (stands_put S) (stand_at s n) → Has L.put n
  stand-put s n h = subst (λ l. Has l n) stands-are (map-has (λ (s : Stand). s.node) (stands_put S) (stand_at s n) h)

  pub put-left : (n : NodeId) → Has L.put n → Has L.new n ⊎ IsFoundAs L n Leave
  put-left n h = all-has (λ (n : NodeId). Has L.new n ⊎ IsFoundAs L n Leave) L.put n w.common.put_leave h

  place-put : (s : Spot) (n : NodeId) → Has (stands_put S) (stand_at s n) → E.place n ≡ s
  place-put s n h = ap (λ (q : Option Stand). option_map_or (λ (s : Stand). s.spot) q (unless_leaves S n (D.place n)))
      (first-distinct (λ (s : Stand). s.node) (stands_put S) (λ (t : Stand). same_node t.node n) (stand_at s n) stands_once h (same_node-itself n) (λ t e. same_node-true t.node n e))

  pub make-place : (r : RowMarks) (c : CellId) (n : NodeId) → Has S.rows r → Has (spread r.marks) (Make c n true) → E.place n ≡ Spot.Row r.node c
  make-place r c n i j = place-put (Spot.Row r.node c) n (append_left (flat_map stands_by S.rows) (flat_map stands_over S.regs) _ (flat_map-has stands_by S.rows r _ i (flat_map-has (stand_by r.node) (spread r.marks) (Make c n true) _ j (inl refl))))

  pub fill-place : (r : RowMarks) (c : CellId) (n : NodeId) → Has S.rows r → Has (spread r.marks) (Fill c n) → E.place n ≡ Spot.Row r.node c
  fill-place r c n i j = place-put (Spot.Row r.node c) n (append_left (flat_map stands_by S.rows) (flat_map stands_over S.regs) _ (flat_map-has stands_by S.rows r _ i (flat_map-has (stand_by r.node) (spread r.marks) (Fill c n) _ j (inl refl))))

  pub register-place : (r : RegStep) (n : NodeId) → Has S.regs r → Has (put_over r) n → E.place n ≡ Spot.Register r.field
  register-place r n i j = place-put (Spot.Register r.field) n (append_right (flat_map stands_by S.rows) (flat_map stands_over S.regs) _ (flat_map-has stands_over S.regs r _ i (map-has (stand_at (Spot.Register r.field)) (put_over r) n j)))

  leave-is : (h : How) → is_leave h ≡ true → h ≡ Leave
  leave-is Stay e = cc
  leave-is How.Here e = cc
  leave-is Leave e = refl

  pub later-placed : (n : NodeId) → PlacedLater D S n
  later-placed n = go (find (λ (t : Stand). same_node t.node n) (stands_put S)) refl
    where
      put : (s : Spot) → E.place n ≡ s → Has (stands_put S) (stand_at s n) → PlacedLater D S n
      put s e h = elim (has-append (flat_map stands_by S.rows) (flat_map stands_over S.regs) (stand_at s n) h) [
        | inl i ↦ (let r = has-flat_map stands_by S.rows (stand_at s n) i in
            let c = stand-mark r.0.node (spread r.0.marks) s n r.2 in
            by_row r.0 c.0 r.1 c.1 (e ∙ c.2))
        | inr i ↦ (let r = has-flat_map stands_over S.regs (stand_at s n) i in
            let m = has-map (stand_at (Spot.Register r.0.field)) (put_over r.0) (stand_at s n) r.2 in
            by_register r.0 r.1 (subst (Has (put_over r.0)) (ap (λ (s : Stand). s.node) m.2) m.1) (e ∙ sym (ap (λ (s : Stand). s.spot) m.2)))
      ]

      none-put : find (λ (t : Stand). same_node t.node n) (stands_put S) ≡ None → Has L.put n → ⊥
      none-put e h =
          let t = has-map (λ (s : Stand). s.node) (stands_put S) n (subst (λ l. Has l n) (sym stands-are) h) in
          true-false (ap (λ k. same_node k n) t.2 ∙ same_node-itself n) (Rattle.st_marks.proofs.Members.none-has (λ (t : Stand). same_node t.node n) (stands_put S) t.0 e t.1)

      left : find (λ (t : Stand). same_node t.node n) (stands_put S) ≡ None → (b : Bool) → is_among (leaving_nodes L.found) n ≡ b → E.place n ≡ cond b Spot.Nowhere (D.place n) → PlacedLater D S n
      left e true f p = let g = leaving-has L.found n ((among_has (leaving_nodes L.found) n).0 f) in
          by_going (none-put e) (subst (Has L.found) (λ i. record { node = g.2 i; how = leave-is g.0.how g.3 i }) g.1) p
      left e false f p = by_staying (none-put e) (λ i. true-false ((among_has (leaving_nodes L.found) n).1 (has-leaving L.found (record { node = n; how = Leave }) i refl)) f) p

      go : (q : Option Stand) → find (λ (t : Stand). same_node t.node n) (stands_put S) ≡ q → PlacedLater D S n
      go None e = left e (is_among (leaving_nodes L.found) n) refl (ap (λ (q : Option Stand). option_map_or (λ (s : Stand). s.spot) q (unless_leaves S n (D.place n))) e)
      go (Some t) e = let f = first-has (λ (t : Stand). same_node t.node n) (stands_put S) t e in
          put t.spot (ap (λ (q : Option Stand). option_map_or (λ (s : Stand). s.spot) q (unless_leaves S n (D.place n))) e)
          (subst (Has (stands_put S)) (λ i. record { node = same_node-true t.node n f.1 i; spot = t.spot }) f.0)

  -- who comes in is put
  pub row-put : (r : RowMarks) (c : CellId) (n : NodeId) → Has S.rows r → Has (spread r.marks) (Make c n true) ⊎ Has (spread r.marks) (Fill c n) → Has L.put n
  row-put r c n i (inl j) = stand-put (Spot.Row r.node c) n (append_left (flat_map stands_by S.rows) (flat_map stands_over S.regs) _ (flat_map-has stands_by S.rows r _ i (flat_map-has (stand_by r.node) (spread r.marks) (Make c n true) _ j (inl refl))))
  row-put r c n i (inr j) = stand-put (Spot.Row r.node c) n (append_left (flat_map stands_by S.rows) (flat_map stands_over S.regs) _ (flat_map-has stands_by S.rows r _ i (flat_map-has (stand_by r.node) (spread r.marks) (Fill c n) _ j (inl refl))))

  pub register-put : (r : RegStep) (n : NodeId) → Has S.regs r → Has (put_over r) n → Has L.put n
  register-put r n i j = stand-put (Spot.Register r.field) n (append_right (flat_map stands_by S.rows) (flat_map stands_over S.regs) _ (flat_map-has stands_over S.regs r _ i (map-has (stand_at (Spot.Register r.field)) (put_over r) n j)))

  -- who is neither put nor leaves stands where it stood
  pub unmoved-place : (n : NodeId) → (Has L.put n → ⊥) → (IsFoundAs L n Leave → ⊥) → E.place n ≡ D.place n
  unmoved-place n unput unleft = go (later-placed n)
    where
      go : PlacedLater D S n → E.place n ≡ D.place n
      go (by_row r c i j e) = absurd (unput (row-put r c n i j))
      go (by_register r i j e) = absurd (unput (register-put r n i j))
      go (by_going a i e) = absurd (unleft i)
      go (by_staying a b e) = e

  pub stay-place : (n : NodeId) → IsFoundAs L n Stay → E.place n ≡ D.place n
  stay-place n i = unmoved-place n (λ h. elim (put-left n h) [ inl j ↦ new-unfound n j (is-found n Stay i) | inr j ↦ apart (one-how n Stay Leave i j) ]) (λ j. apart (one-how n Stay Leave i j))
    where
      apart : Stay ≡ Leave → ⊥
      apart e = cc

  pub unfound-place : (n : NodeId) → (IsFound L n → ⊥) → (Has L.new n → ⊥) → E.place n ≡ D.place n
  unfound-place n unfound old = unmoved-place n (λ h. elim (put-left n h) [ inl j ↦ old j | inr j ↦ unfound (is-found n Leave j) ]) (λ j. unfound (is-found n Leave j))
