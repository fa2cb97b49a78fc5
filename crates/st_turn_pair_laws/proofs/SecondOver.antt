-- The second of two steps that agree in turn stands over the document to which the first leads.
use Rattle.std.proofs.Common.{◌≡◌, ◌≢◌, ◌++◌, ℕ, Bool, true, false, not, List, [], ◌∷◌, Option, Some, None, IsSome, IsTrue, IfSome, option_map, refl, sym, ap, ◌∙◌, subst, inl, inr, ◌⊎◌, arith}
use Rattle.std.specs.List.{AllZip, find, list_any}
use Rattle.std.specs.Option.{option_map_or, option_or}
use Rattle.st_ids.specs.Listing.{Has, item_of}
use Rattle.st_ids.specs.Order.{field_cmp, node_cmp, same_field}
use Rattle.st_ids.specs.Root.{root}
use Rattle.st_ids.proofs.Listings.{item_of-has}
use Rattle.st_ids.proofs.Orders.{node_cmp_exact, node_cmp_total, same_field-true}
use Rattle.st_ids.proofs.Shared.{filter-has, filtered}
use Rattle.st_ids.specs.declared.names.CellId.{CellId}
use Rattle.st_ids.specs.declared.names.NodeId.{NodeId}
use Rattle.st_marks.specs.declared.changes.NewNode.{NewNode}
use Rattle.st_marks.specs.declared.marks.How.{How}
use Rattle.st_marks.specs.declared.marks.How.TheVariants.{Stay, Here, Leave}
use Rattle.st_marks.specs.declared.marks.Loose.{Loose}
use Rattle.st_marks.specs.declared.marks.RegStep.{RegStep}
use Rattle.st_marks.specs.declared.marks.RowMarks.{RowMarks}
use Rattle.st_marks.specs.declared.places.Spot.{Spot}
use Rattle.st_marks.specs.declared.schemas.SchemaEntry.{SchemaEntry}
use Rattle.st_marks.specs.declared.schemas.SchemaStep.{SchemaStep}
use Rattle.st_marks.specs.declared.steps.Step.{Step}
use Rattle.st_marks.specs.Agree.{Agrees, ComposeClash, IsSameView, SchemasOverStep}
use Rattle.st_marks.specs.Document.{Document, IsSoundInForm, NodeType, content}
use Rattle.st_marks.specs.Embedding.{is_among}
use Rattle.st_marks.specs.Extends.{IsExtendedBy}
use Rattle.st_marks.specs.Listings.{Listing, Places, cell_after, cell_view, cells_after, cells_before, cells_in, cells_made, is_among_cells, listing_after_step, listing_before_step, names_of_step, nodes_new, placed_in_register, placed_in_row}
use Rattle.st_marks.specs.Row.{CellMark, Touch, Make, Fill, spread, step_row}
use Rattle.st_marks.specs.Step.{IsSchemaStep, IsStep}
use Rattle.st_marks.proofs.Members.{all-has, any-has, append_left, append_right, first-has, flat_map-has, has-append, has-map, map-has}
use Rattle.st_normal.specs.Rules.{Entries, IsFound, IsFoundAs, ObeysStepRules, entries_of_step, fill_owners, hole_owners, in_rows, put_over}
use Rattle.st_normal.proofs.NoRings.{among_has}
use Rattle.st_lemmas.proofs.Bools.{true-false}
use Rattle.st_marks.proofs.Climb.{placed_known}
use Rattle.st_marks.specs.How.{is_leave}
use Rattle.st_puts.proofs.Basics.{not-false, not-true, one-is, register-not-nowhere, row-not-nowhere}
use Rattle.st_puts.proofs.StepPlaces.{row-look}
use Rattle.st_puts.specs.Seen.{AreAsSeen}
use Rattle.st_normal_laws.specs.Seed.{CanBeFound, Finds, FoundRow, IsBelow, cells_named, nodes_found}
use Rattle.st_normal_laws.specs.Two.{AgreeBeside}
use Rattle.st_normal_laws.specs.inside.One.{found_row}
use Rattle.st_normal_laws.proofs.SeedSound.{seed_nowhere}
use Rattle.st_normal_laws.proofs.TwoSeed.{row-cell, second_held, second_row}
use Rattle.st_normal_step_laws.specs.StepOver.{EndsWithCut, IsOverStep, later, row_later, schemas_later}
use Rattle.st_normal_step_laws.specs.inside.SeedOfStep.{found_before, nodes_found_by, old_holes}
use Rattle.st_normal_step_laws.proofs.MentionsLater.{unlisted-content}
use Rattle.st_normal_step_laws.proofs.PlacesLater.{FoundThere, PlacedLater, by_going, by_register, by_row, by_staying, found-as, later-placed, there_held, there_loose, there_row, unfound-place}
use Rattle.st_normal_step_laws.proofs.RingsLater.{later_extends}
use Rattle.st_normal_step_laws.proofs.SoundLater.{held-listed, known-later, new-later, over-cases, schemas-are, unknown}
use Rattle.st_normal_step_laws.proofs.StepLater.{step_over}
use Rattle.st_turn_pair_laws.specs.inside.Back.{back_cells, back_regs, back_row}
use Rattle.st_turn_pair_laws.proofs.BackRows.{later-seen, part-has}
use Rattle.st_turn_pair_laws.proofs.BackFound.{above_both, agree_beside, back-loose, back_found, first-finds, first_found, row-cells, told-seen}
use Rattle.st_turn_pair_laws.proofs.FirstOver.{D as seed_of, P, Q, W, below-found, below-made, below-new, ends_with_cut, first_over, found-both, seed_is_sound, together}
use Rattle.st_turn_pair_laws.proofs.Meeting.{cell-fresh, node-fresh, nodes-meet, registers-meet, rows-meet}
use Rattle.st_turn_pair_laws.proofs.Seeds.{IsToldIn, rows-told, seed-knows, seed-lacks, seed-lacks_cell}
use Rattle.st_turn_pair_laws.proofs.Shown.{after-of, cell-has, found-register, found-row, item-reg, item-row, left-register, left-row, loose-finds, loose-place, named-cell, named-found, named-hole, named-in_row, named-new, named-told, made-in, none-some, reg-item, reg_key, row_key, row-finds, told-before, unmade}

module _ (S T : Step) (s : ObeysStepRules S) (t : ObeysStepRules T) (g : Agrees (ComposeClash S T)) (before between after : List SchemaEntry)
    (over : SchemasOverStep before between S) (on : SchemasOverStep between after T) where
  abbrev F : ℕ
  F = above_both S T

  abbrev L : Listing
  L = listing_after_step S

  abbrev M : Listing
  M = listing_before_step T

  abbrev N : Entries
  N = entries_of_step S

  abbrev A : Finds
  A = P S T s t g before between over

  abbrev B : Finds
  B = Q S T s t g before between over

  a_found : CanBeFound F A
  a_found = first_found S T s t g before over.before_in_effect

  b_found : CanBeFound F B
  b_found = back_found S T s t g before over.before_in_effect

  agree : AgreeBeside A B
  agree = agree_beside S T s t g before over.before_in_effect

  abbrev D : Document
  D = seed_of S T s t g before between over

  abbrev E : Document
  E = later D S

  x : IsSoundInForm D
  x = seed_is_sound S T s t g before between over

  o : IsOverStep D S
  o = first_over S T s t g before between over

  ext : IsExtendedBy D E
  ext = later_extends D S x s o

  step : IsStep D E S
  step = step_over D S x s o

  -- ## Rows

  row-seen : (r : RowMarks) → Has T.rows r → AreAsSeen (content E r.node) (cells_before (spread r.marks))
  row-seen r i = go (item_of node_cmp row_key S.rows r.node) refl (second_row F A B a_found b_found agree (back_row S.rows r) (map-has (back_row S.rows) T.rows r i))
    where
      go : (q : Option RowMarks) → item_of node_cmp row_key S.rows r.node ≡ q
          → AreAsSeen (content D r.node) (option_map_or (λ (p : RowMarks). back_cells (spread p.marks) (cells_before (spread r.marks))) q (cells_before (spread r.marks))) → AreAsSeen (content E r.node) (cells_before (spread r.marks))
      go None f h = subst (λ c. AreAsSeen c (cells_before (spread r.marks))) (unlisted-content D S x s o r.node f (ap (λ (q : Option RowMarks). row_later (D.rows r.node) (option_map_or (λ (r : RowMarks). spread r.marks) q [])) f)) h
      go (Some p) f h =
          let i' = item-row S s r.node p f in
          let look = subst (λ n. spread p.marks ≡ step_row step.mentioned (step.grows n)) i'.1 (row-look D E S ext step p i'.0).0 in
          let same = rows-meet S T s t g r.node (cells_after (spread p.marks)) (cells_before (spread r.marks)) (ap L.row (sym i'.1) ∙ left-row S s p i'.0) (found-row T t r i) in
          later-seen step.mentioned (step.grows r.node) (cells_before (spread r.marks)) (subst (λ ms. AreAsSeen (content D r.node) (back_cells ms (cells_before (spread r.marks)))) look h) (subst (λ ms. AllZip IsSameView (cells_after ms) (cells_before (spread r.marks))) look same)

  -- ## Registers

  register-held : (r : RegStep) → Has T.regs r → E.held r.field ≡ r.before
  register-held r i = go (item_of field_cmp reg_key S.regs r.field) refl
    where
      free : item_of field_cmp reg_key S.regs r.field ≡ None → list_any (λ (q : RegStep). same_field q.field r.field) S.regs ≡ true → ⊥
      free f e = let q = any-has (λ (q : RegStep). same_field q.field r.field) S.regs e in
          none-some (sym f ∙ ap (item_of field_cmp reg_key S.regs) (sym (same_field-true q.0.field r.field q.2)) ∙ reg-item S s q.0 q.1)

      go : (q : Option RegStep) → item_of field_cmp reg_key S.regs r.field ≡ q → E.held r.field ≡ r.before
      go (Some q) f =
          let i' = item-reg S s r.field q f in
          ap E.held (sym i'.1) ∙ held-listed D S x s o q i'.0 ∙ registers-meet S T s t g r.field q.after r.before (ap L.register (sym i'.1) ∙ left-register S s q i'.0) (found-register T t r i)
      go None f =
          ap (λ (q : Option RegStep). option_map_or (λ (r : RegStep). r.after) q (D.held r.field)) f
          ∙ second_held F A B a_found b_found agree (found_before r) (map-has found_before (back_regs S.regs T.regs) r
          (filter-has (λ (r : RegStep). not (list_any (λ (q : RegStep). same_field q.field r.field) S.regs)) T.regs r i (not-false (list_any (λ (q : RegStep). same_field q.field r.field) S.regs) (free f))))

  -- ## Nodes that stand nowhere

  then-known : (n : NodeId) → Has (nodes_found_by T ++ old_holes T) n → IsSome (E.nodes n)
  then-known n h = go (is_among (nodes_new S.new) n) refl
    where
      go : (b : Bool) → is_among (nodes_new S.new) n ≡ b → IsSome (E.nodes n)
      go true e = new-later D S x s o n ((among_has (nodes_new S.new) n).0 e)
      go false e = known-later D S x s o n (seed-knows F (W S T s t g before between over) n (append_right A.known B.known n (filter-has (λ n. not (is_among (nodes_new S.new) n)) (nodes_found_by T ++ old_holes T) n h (ap not e))))

  -- whom the first finds or makes, and the second finds nowhere, stands nowhere after the first
  left-nowhere : (n : NodeId) → IsFound N n ⊎ Has (nodes_new S.new) n → Places M n Spot.Nowhere → E.place n ≡ Spot.Nowhere
  left-nowhere n own place = go (later-placed D S x s o n)
    where
      elsewhere : (y : Spot) → Places L n y → y ≢ Spot.Nowhere → ⊥
      elsewhere y p d = nodes-meet S T s t g n y Spot.Nowhere p place d

      in-row : (r : RowMarks) (c : CellId) → Has S.rows r → (y : CellMark) → Has (spread r.marks) y → cell_after y ≡ cell_view c n true ∷ [] → ⊥
      in-row r c i y j e = let k = after-of (spread r.marks) y (cell_view c n true) j e in
          elsewhere (Spot.Row r.node c) (placed_in_row r.node n c (cells_after (spread r.marks)) k.0 (left-row S s r i) k.1) (λ q. row-not-nowhere r.node c q)

      in-register : (r : RegStep) → Has S.regs r → r.after ≡ Some n → ⊥
      in-register r i e = elsewhere (Spot.Register r.field) (placed_in_register r.field n (left-register S s r i ∙ ap (λ o. Some o) e)) (λ q. register-not-nowhere r.field q)

      new-nowhere : Has (nodes_new S.new) n → D.place n ≡ Spot.Nowhere
      new-nowhere h = at (D.place n) refl
        where
          at : (y : Spot) → D.place n ≡ y → y ≡ Spot.Nowhere
          at Spot.Nowhere e = refl
          at (Spot.Row r c) e = absurd (unknown (D.nodes n) (o.new_nodes n h) (placed_known D x n (λ q. row-not-nowhere r c (sym e ∙ q))))
          at (Spot.Register f) e = absurd (unknown (D.nodes n) (o.new_nodes n h) (placed_known D x n (λ q. register-not-nowhere f (sym e ∙ q))))

      stays : (h : How) → (h ≢ Leave) → FoundThere D S n h → D.place n ≡ Spot.Nowhere
      stays h d (there_row r c i k a) = absurd (in-row r c i (Touch c n h) k (ap (λ b. cell_view c n b ∷ []) (stay h d)))
        where
          stay : (h : How) → (h ≢ Leave) → not (is_leave h) ≡ true
          stay Stay d = refl
          stay Here d = refl
          stay Leave d = absurd (d refl)
      stays h d (there_held r i f e a) = elim (over-cases r) [
        | inl c ↦ absurd (in-register r i (sym c.0 ∙ f))
        | inr c ↦ absurd (d (sym e ∙ c.0))
      ]
      stays h d (there_loose l i f e a k) = a

      unmoved : (IsFoundAs N n Leave → ⊥) → D.place n ≡ Spot.Nowhere
      unmoved b = elim own [
        | inl f ↦ (let h = found-as D S x s o n f in stays h.0 (λ q. b (subst (IsFoundAs N n) q h.1)) h.2)
        | inr h ↦ new-nowhere h
      ]

      put-after : (r : RegStep) → Has (put_over r) n → r.after ≡ Some n
      put-after r h = elim (over-cases r) [
        | inl c ↦ absurd (subst (λ (l : List NodeId). Has l n) c.2 h)
        | inr c ↦ one-is r.after n (subst (λ (l : List NodeId). Has l n) c.1 h)
      ]

      go : PlacedLater D S n → E.place n ≡ Spot.Nowhere
      go (by_row r c i (inl j) e) = absurd (in-row r c i (Make c n true) j refl)
      go (by_row r c i (inr j) e) = absurd (in-row r c i (Fill c n) j refl)
      go (by_register r i j e) = absurd (in-register r i (put-after r j))
      go (by_going a i e) = e
      go (by_staying a b e) = e ∙ unmoved b

  loose-there : (l : Loose) → Has T.loose l → (E.place l.node ≡ Spot.Nowhere) × IsSome (E.nodes l.node)
  loose-there l i = (go (is_among (nodes_found_by S) l.node) refl (is_among (nodes_new S.new) l.node) refl, then-known l.node (append_left (nodes_found_by T) (old_holes T) l.node (loose-finds T t l i)))
    where
      go : (a : Bool) → is_among (nodes_found_by S) l.node ≡ a → (b : Bool) → is_among (nodes_new S.new) l.node ≡ b → E.place l.node ≡ Spot.Nowhere
      go true e b f = left-nowhere l.node (inl ((among_has (nodes_found_by S) l.node).0 e)) (loose-place T t l i)
      go false e true f = left-nowhere l.node (inr ((among_has (nodes_new S.new) l.node).0 f)) (loose-place T t l i)
      go false e false f = unfound-place D S x s o l.node unfound (λ h. true-false ((among_has (nodes_new S.new) l.node).1 h) f)
          ∙ seed_nowhere F (W S T s t g before between over) (together S T s t g before between over) l.node below unseen
        where
          unfound : IsFound N l.node → ⊥
          unfound h = true-false ((among_has (nodes_found_by S) l.node).1 h) e

          below : IsBelow F l.node.0
          below = omega (arith, below-found T l.node (loose-finds T t l i))

          unseen : Has (nodes_found (W S T s t g before between over)) l.node → ⊥
          unseen h = elim (found-both S T s t g before between over l.node h) [
            | inl j ↦ unfound (first-finds S T s t g before over.before_in_effect l.node j)
            | inr j ↦ back-loose S T s t g before over.before_in_effect l i j
          ]

  -- ## What the second makes

  new-unfound : (n : NodeId) → Has (nodes_new T.new) n → (n ≢ root) × (IsFound (entries_of_step T) n → ⊥)
  new-unfound n h = all-has (λ (n : NodeId). (n ≢ root) × (IsFound (entries_of_step T) n → ⊥)) (nodes_new T.new) n t.common.new_not_found h

  new-unknown : (n : NodeId) → Has (nodes_new T.new) n → E.nodes n ≡ None
  new-unknown n h = go (item_of node_cmp (λ (m : NewNode). m.node) S.new n) refl
    where
      below : IsBelow F n.0
      below = omega (arith, below-new T n h)

      unnamed : IsTrue ((names_of_step S).names_node n) → ⊥
      unnamed k = node-fresh S T s t g n h k

      filled : Has (in_rows fill_owners T.rows) n → ⊥
      filled k = all-has (λ (n : NodeId). Has (nodes_new T.new) n → ⊥) (in_rows fill_owners T.rows) n t.common.filled_old k h

      absent : Has (A.known ++ B.known) n → ⊥
      absent i = elim (has-append A.known B.known n i) [
        | inl j ↦ elim (has-append (nodes_found_by S) (old_holes S) n j) [
          | inl k ↦ unnamed (named-found S s n k)
          | inr k ↦ unnamed (named-hole S s n (filtered (λ n. not (is_among (nodes_new S.new) n)) (in_rows hole_owners S.rows) n k).0)
        ]
        | inr j ↦ elim (has-append (nodes_found_by T) (old_holes T) n (filtered (λ n. not (is_among (nodes_new S.new) n)) (nodes_found_by T ++ old_holes T) n j).0) [
          | inl k ↦ (new-unfound n h).1 k
          | inr k ↦ not-true (is_among (nodes_new T.new) n) (filtered (λ n. not (is_among (nodes_new T.new) n)) (in_rows hole_owners T.rows) n k).1 ((among_has (nodes_new T.new) n).1 h)
        ]
      ]

      untold : IsToldIn (W S T s t g before between over).rows n → ⊥
      untold i = elim (rows-told A.rows B.rows n i) [
        | inl (r, j, (v, k, e)) ↦ (let q = has-map found_row S.rows r j in unnamed (named-told S s q.0 v n q.1 (subst (λ (r : FoundRow). Has r.cells v) (sym q.2) k) e))
        | inr j ↦ (let q = told-seen S T s t g before over.before_in_effect n j in
            elim (told-before (spread q.0.marks) q.1 n q.3 q.4) [
              | inl f ↦ (new-unfound n h).1 (row-finds T t q.0 n q.2 f)
              | inr f ↦ filled (flat_map-has (λ (r : RowMarks). fill_owners (spread r.marks)) T.rows q.0 n q.2 f)
            ])
      ]

      go : (q : Option NewNode) → item_of node_cmp (λ (m : NewNode). m.node) S.new n ≡ q → E.nodes n ≡ None
      go (Some m) e = let i = item_of-has node_cmp node_cmp_total node_cmp_exact (λ (m : NewNode). m.node) S.new n m e in
          absurd (unnamed (named-new S s n (subst (Has (nodes_new S.new)) i.1 (map-has (λ (m : NewNode). m.node) S.new m i.0))))
      go None e =
          ap (λ (q : Option NewNode). option_or (option_map (λ (m : NewNode). let t : NodeType = record { ty = m.ty; leaf = m.leaf } in t) q) (D.nodes n)) e
          ∙ seed-lacks F (W S T s t g before between over) n below (new-unfound n h).0 absent untold

  made-absent : (c : CellId) → Has (in_rows cells_made T.rows) c → E.row_of c ≡ None
  made-absent c h = go (find (λ (r : RowMarks). is_among_cells (cells_made (spread r.marks)) c) S.rows) refl
    where
      below : IsBelow F c.0
      below = omega (arith, below-made T c h)

      unnamed : (r : RowMarks) → Has S.rows r → Has (cells_in (spread r.marks)) c → ⊥
      unnamed r i j = cell-fresh S T s t g c r.node h (named-cell S s r c i j)

      go : (q : Option RowMarks) → find (λ (r : RowMarks). is_among_cells (cells_made (spread r.marks)) c) S.rows ≡ q → E.row_of c ≡ None
      go (Some r) e = let f = first-has (λ (r : RowMarks). is_among_cells (cells_made (spread r.marks)) c) S.rows r e in
          absurd (unnamed r f.0 (made-in (spread r.marks) c (cell-has (cells_made (spread r.marks)) c f.1)))
      go None e =
          ap (λ (q : Option RowMarks). option_or (option_map (λ (r : RowMarks). r.node) q) (D.row_of c)) e
          ∙ seed-lacks_cell F (W S T s t g before between over) (together S T s t g before between over) c below (λ r i j. elim (row-cell F A B a_found b_found agree r c i j) [
            | inl p ↦ (let q = has-map found_row S.rows p.0 p.1 in unnamed q.0 q.1 (named-in_row (spread q.0.marks) c (subst (λ (r : FoundRow). Has (cells_named r.cells) c) (sym q.2) p.3)))
            | inr p ↦ (let q = has-map (back_row S.rows) T.rows p.0 p.1 in
                unmade T t q.0 c q.1 (part-has (row-cells S T s t g before over.before_in_effect q.0 q.1) c (subst (λ (r : FoundRow). Has (cells_named r.cells) c) (sym q.2) p.3)) h)
          ])

  owners-there : (n : NodeId) → Has (in_rows hole_owners T.rows) n → Has (nodes_new T.new) n ⊎ IsSome (E.nodes n)
  owners-there n h = go (is_among (nodes_new T.new) n) refl
    where
      go : (b : Bool) → is_among (nodes_new T.new) n ≡ b → Has (nodes_new T.new) n ⊎ IsSome (E.nodes n)
      go true e = inl ((among_has (nodes_new T.new) n).0 e)
      go false e = inr (then-known n (append_right (nodes_found_by T) (old_holes T) n (filter-has (λ n. not (is_among (nodes_new T.new) n)) (in_rows hole_owners T.rows) n h (ap not e))))

  -- ## Schemas

  entries-are : E.schemas ≡ between
  entries-are = go S.schema refl over.step
    where
      go : (q : Option SchemaStep) → S.schema ≡ q → IsSchemaStep before between q → E.schemas ≡ between
      go None e h = ap (λ q. schemas_later q D.schemas) e ∙ h
      go (Some z) e h = schemas-are D S x s o z e h.0 h.1 ∙ sym h.2

  then_over : IsOverStep E T
  then_over = record {
    rows = row-seen;
    held = register-held;
    loose = loose-there;
    new_nodes = new-unknown;
    new_cells = made-absent;
    owners = owners-there;
    schema = subst (λ l. IfSome T.schema (EndsWithCut l)) (sym entries-are) (ends_with_cut between after T.schema on.after_in_effect on.step);
  }

  pub in_turn : (D : Document) × (E : Document) × (F : Document) × IsExtendedBy D E × IsExtendedBy E F × IsStep D E S × IsStep E F T
  in_turn = (D, E, later E T, ext, later_extends E T ext.after t then_over, step, step_over E T ext.after t then_over)
