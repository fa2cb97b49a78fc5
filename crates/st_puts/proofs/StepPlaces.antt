-- What a step from one document to another finds and puts: each node that it names stands before where it is found, and after
-- where it stays or is put.
use Rattle.std.proofs.Common.{◌≡◌, ◌≢◌, ◌++◌, ◌||◌, ◌&&◌, zero, suc, Bool, true, false, not, List, [], Option, Some, None, IsSome, cond, refl, sym, ap, ◌∙◌, subst, inl, inr, ◌⊎◌}
use Rattle.std.specs.List.{flat_map, list_any}
use Rattle.st_ids.specs.Listing.{AreDistinct, Has}
use Rattle.st_ids.specs.Order.{field_cmp, node_cmp, same_node}
use Rattle.st_ids.proofs.Orders.{field_cmp_exact, field_cmp_total, node_cmp_exact, node_cmp_total, same_cell-itself, same_node-itself, same_node-true}
use Rattle.st_ids.specs.declared.names.CellId.{CellId}
use Rattle.st_ids.specs.declared.names.FieldId.{FieldId}
use Rattle.st_ids.specs.declared.names.NodeId.{NodeId}
use Rattle.st_marks.specs.declared.marks.How.{How}
use Rattle.st_marks.specs.declared.marks.How.TheVariants.{Stay, Leave}
use Rattle.st_marks.specs.declared.marks.Loose.{Loose}
use Rattle.st_marks.specs.declared.marks.RegStep.{RegStep}
use Rattle.st_marks.specs.declared.marks.RowMarks.{RowMarks}
use Rattle.st_marks.specs.declared.places.Slot.{Slot}
use Rattle.st_marks.specs.declared.places.Spot.{Spot}
use Rattle.st_marks.specs.declared.steps.Step.{Step}
use Rattle.st_marks.specs.Document.{Document, IsSoundInForm, above, content, is_cell}
use Rattle.st_ids.specs.Root.{root}
use Rattle.st_marks.specs.Embedding.{is_loose, is_nowhere, tells}
use Rattle.st_marks.specs.Extends.{IsExtendedBy}
use Rattle.st_marks.specs.Intent.{same_option}
use Rattle.st_marks.specs.Register.{holds_mentioned, step_register}
use Rattle.st_marks.specs.Row.{CellMark, Counted, Touch, Make, Fill, merge, spread, step_cell, step_row}
use Rattle.st_marks.specs.Listings.{one_or_none}
use Rattle.st_marks.specs.Step.{IsStep, step_loose}
use Rattle.st_marks.proofs.Climb.{climb_more, placed_known, same_spot, shown, stands}
use Rattle.st_marks.proofs.Members.{append_left, append_right, flat_map-has, has-any, has-append, has-flat_map, has-map, map-has}
use Rattle.st_normal.specs.declared.entries.Found.{Found}
use Rattle.st_normal.specs.Rules.{IsFound, IsFoundAs, Entries, found_held, found_in, found_loose, found_over, how_over, in_rows, incoming_nodes, entries_of_step, put_over}
use Rattle.st_ids.proofs.Listings.{has-item_of, item_of-has}
use Rattle.st_puts.proofs.Basics.{is-one, one-is, register-not-nowhere, row-not-nowhere}
use Rattle.st_puts.proofs.OverDocuments.{climb-known, row-told}
use Rattle.st_puts.proofs.FoundPlaces.{found_held-is, found_in-has, has-found_in, is-found_held}
use Rattle.st_puts.proofs.StepRows.{IsKept, StandsOnce, after-mark, cell_with, fill-incoming, fill-step, incoming-mark, kept-mark, make-incoming, make-step, touch-step}
use Rattle.st_rows.proofs.KindLaws.{spread-merge}
use Rattle.st_rows.proofs.Documents.{can_hold, is_slot}
use Rattle.st_lemmas.proofs.Bools.{and-true, or-left, or-right}
use Rattle.st_marks.proofs.Shared.{same-held, held-same}

-- ## Registers

pub one-or-other : (a b : Option NodeId) → ((a ≡ b) × (same_option same_node a b ≡ true)) ⊎ ((a ≢ b) × (same_option same_node a b ≡ false))
one-or-other a b = go (same_option same_node a b) refl
  where
    go : (z : Bool) → same_option same_node a b ≡ z → ((a ≡ b) × (same_option same_node a b ≡ true)) ⊎ ((a ≢ b) × (same_option same_node a b ≡ false))
    go true e = inl (same-held a b e, e)
    go false e = inr (λ q. (let bad : ◌≡◌ {A = Bool} true false = sym (held-same a b q) ∙ e in cc), e)

pub same-row : {n k : NodeId} {d e : CellId} → Spot.Row n d ≡ Spot.Row k e → (n ≡ k) × (d ≡ e)
same-row {n} {k} {d} {e} s = let q : n ≡ k = cc in let r : d ≡ e = cc in (q, r)

pub same-register : {a b : FieldId} → Spot.Register a ≡ Spot.Register b → a ≡ b
same-register s = cc

pub row-register : {n : NodeId} {d : CellId} {k : FieldId} → Spot.Row n d ≡ Spot.Register k → ⊥
row-register s = cc

nowhere-is : (s : Spot) → is_nowhere s ≡ true → s ≡ Spot.Nowhere
nowhere-is Spot.Nowhere e = refl
nowhere-is (Spot.Row a c) e = cc
nowhere-is (Spot.Register k) e = cc

somewhere-is : (s : Spot) → is_nowhere s ≡ false → s ≢ Spot.Nowhere
somewhere-is Spot.Nowhere e = cc
somewhere-is (Spot.Row a c) e = row-not-nowhere a c
somewhere-is (Spot.Register k) e = register-not-nowhere k

is-somewhere : (s : Spot) → s ≢ Spot.Nowhere → is_nowhere s ≡ false
is-somewhere Spot.Nowhere h = absurd (h refl)
is-somewhere (Spot.Row a c) h = refl
is-somewhere (Spot.Register k) h = refl

-- ## One document

-- a cell that is empty isn't the place of its node
pub empty-not : (D : Document) → (n r : NodeId) (a : CellId) → Has (content D r) (cell_with a n false) → D.place n ≢ Spot.Row r a
empty-not D n r a h e =
    let q = is_slot D r (cell_with a n false) h in
    let node : q.0.node ≡ n = ap (λ (s : Slot). s.node) q.2 in
    let cell : q.0.cell ≡ a = ap (λ (s : Slot). s.cell) q.2 in
    let empty : is_cell a (Spot.Row r a) ≡ false = ap (is_cell a) (sym e ∙ ap D.place (sym node)) ∙ ap (λ c. is_cell c (D.place q.0.node)) (sym cell) ∙ ap (λ (s : Slot). s.full) q.2 in
    let bad : ◌≡◌ {A = Bool} true false = sym (same_cell-itself a) ∙ empty in cc

pub stands-once : (D : Document) → IsSoundInForm D → (n : NodeId) → StandsOnce (content D n)
stands-once D x n a b k h i = (same-row (sym (stands D x k n a h) ∙ stands D x k n b i)).1

-- a node in a document's row is there, and so is the row's
pub slot-known : (D : Document) → IsSoundInForm D → (r : NodeId) (s : Slot) → Has (content D r) s → IsSome (D.nodes r) × IsSome (D.nodes s.node)
slot-known D x r s h = let q = is_slot D r s h in let k = x.cells_known r q.0 q.1 in (k.0, subst (λ n. IsSome (D.nodes n)) (ap (λ (s : Slot). s.node) q.2) k.1)

-- ## Two documents and a step

module _ (D E : Document) (S : Step) (x : IsExtendedBy D E) (s : IsStep D E S) where
  abbrev L : Entries
  L = entries_of_step S

  abbrev m : NodeId → Bool
  m = s.mentioned

  pub cells-once : (n : NodeId) → AreDistinct (λ (t : Slot). t.cell) (content E n)
  cells-once n = (can_hold E x.after n).once

  pub row-look : (r : RowMarks) → Has S.rows r → (spread r.marks ≡ step_row m (s.grows r.node)) × (list_any tells (step_row m (s.grows r.node)) ≡ true)
  row-look r i = row-told r r.node (step_row m (s.grows r.node)) (sym (s.rows.at_each r.node) ∙ has-item_of node_cmp node_cmp_total node_cmp_exact (λ (r : RowMarks). r.node) S.rows r s.rows.rising i)

  pub reg-look : (r : RegStep) → Has S.regs r → step_register r.field m (D.held r.field) (E.held r.field) ≡ Some r
  reg-look r i = sym (s.regs.at_each r.field) ∙ has-item_of field_cmp field_cmp_total field_cmp_exact (λ (r : RegStep). r.field) S.regs r s.regs.rising i

  pub loose-look : (l : Loose) → Has S.loose l → step_loose m D E l.node ≡ Some l
  loose-look l i = sym (s.loose.at_each l.node) ∙ has-item_of node_cmp node_cmp_total node_cmp_exact (λ (l : Loose). l.node) S.loose l s.loose.rising i

  -- ## Who is named

  pub known : (n : NodeId) → m n ≡ true → IsSome (D.nodes n)
  known n e = let k = (s.which n).0 e in climb-known D x.before k.2 k.0 n k.1.0 k.3

  pub moved : (n : NodeId) → IsSome (D.nodes n) → D.place n ≢ E.place n → m n ≡ true
  moved n k h = (s.which n).1 (n, (k, inl h), zero, refl)

  pub named-up : (n p : NodeId) → m n ≡ true → above D n ≡ Some p → m p ≡ true
  named-up n p e q = let k = (s.which n).0 e in (s.which p).1 (k.0, k.1, suc k.2, climb_more (above D) k.2 k.0 n p k.3 q)

  root-stays : D.place root ≢ E.place root → ⊥
  root-stays h = h (x.before.root_nowhere ∙ sym x.after.root_nowhere)

  -- ## Where a mark's node stands

  -- a node stays where it stands, and is named, or leaves
  abbrev pub StaysOrLeaves : NodeId → How → Type 0
  StaysOrLeaves n h = ((h ≡ Stay) × (D.place n ≡ E.place n) × (m n ≡ true)) ⊎ ((h ≡ Leave) × (D.place n ≢ E.place n))

  pub touch-place : (r : RowMarks) (a : CellId) (n : NodeId) (h : How) → Has S.rows r → Has (spread r.marks) (Touch a n h) → (D.place n ≡ Spot.Row r.node a) × StaysOrLeaves n h
  touch-place r a n h i j =
      let t = touch-step m (s.grows r.node) (cells-once r.node) a n h (subst (λ ms. Has ms (Touch a n h)) (row-look r i).0 j) in
      let before = stands D x.before n r.node a t.0 in (
        before,
        elim t.1 [
          | inl w ↦ inl (w.0, before ∙ sym (stands E x.after n r.node a w.1), w.2)
          | inr w ↦ inr (w.0, λ e. empty-not E n r.node a w.1 (sym e ∙ before))
        ],
      )

  -- the place of a node that comes into a row
  abbrev pub ComesTo : NodeId → Spot → Type 0
  ComesTo n p = (E.place n ≡ p) × (D.place n ≢ p)

  pub fill-place : (r : RowMarks) (a : CellId) (n : NodeId) → Has S.rows r → Has (spread r.marks) (Fill a n) → ComesTo n (Spot.Row r.node a)
  fill-place r a n i j =
      let t = fill-step m (s.grows r.node) (cells-once r.node) a n (subst (λ ms. Has ms (Fill a n)) (row-look r i).0 j) in
      (stands E x.after n r.node a t.1, empty-not D n r.node a t.0)

  pub make-place : (r : RowMarks) (a : CellId) (n : NodeId) → Has S.rows r → Has (spread r.marks) (Make a n true) → ComesTo n (Spot.Row r.node a)
  make-place r a n i j =
      let t = make-step m (s.grows r.node) (cells-once r.node) a n true (subst (λ ms. Has ms (Make a n true)) (row-look r i).0 j) in
      (stands E x.after n r.node a t.0, λ e. t.1 (map-has (λ (c : Slot). c.cell) (content D r.node) (cell_with a n true) (shown D x.before n r.node a e)))

  -- ## Registers and nodes that are nowhere

  abbrev reg_of : FieldId → RegStep
  reg_of f = record { field = f; before = D.held f; after = E.held f }

  -- a register is listed with its occupants, since it differs or holds one who is named
  pub reg-is : (r : RegStep) → Has S.regs r → (r.before ≡ D.held r.field) × (r.after ≡ E.held r.field) × ((not (same_option same_node (D.held r.field) (E.held r.field)) || holds_mentioned m (D.held r.field)) ≡ true)
  reg-is r i = go (not (same_option same_node (D.held r.field) (E.held r.field)) || holds_mentioned m (D.held r.field)) refl
    where
      some-step : {a b : RegStep} → ◌≡◌ {A = Option RegStep} (Some a) (Some b) → a ≡ b
      some-step e = cc

      go : (b : Bool) → (not (same_option same_node (D.held r.field) (E.held r.field)) || holds_mentioned m (D.held r.field)) ≡ b → (r.before ≡ D.held r.field) × (r.after ≡ E.held r.field) × (b ≡ true)
      go true e = let q : reg_of r.field ≡ r = some-step (ap (λ b. cond b (Some (reg_of r.field)) None) (sym e) ∙ reg-look r i) in (ap (λ (r : RegStep). r.before) (sym q), ap (λ (r : RegStep). r.after) (sym q), refl)
      go false e = let bad : None ≡ Some r = ap (λ b. cond b (Some (reg_of r.field)) None) (sym e) ∙ reg-look r i in cc

  -- a register that differs, or holds one who is named, is listed
  pub has-reg : (f : FieldId) → (not (same_option same_node (D.held f) (E.held f)) || holds_mentioned m (D.held f)) ≡ true → Has S.regs (reg_of f)
  has-reg f e = (item_of-has field_cmp field_cmp_total field_cmp_exact (λ (r : RegStep). r.field) S.regs f (reg_of f) (s.regs.at_each f ∙ ap (λ b. cond b (Some (reg_of f)) None) e)).0

  -- the occupant before stays or leaves
  pub held-place : (r : RegStep) (n : NodeId) → Has S.regs r → r.before ≡ Some n → (D.place n ≡ Spot.Register r.field) × StaysOrLeaves n (how_over r)
  held-place r n i e =
      let w = reg-is r i in
      let here = sym w.0 ∙ e in
      let before = (x.before.one_held n r.field).0 here in (
        before,
        elim (one-or-other r.before r.after) [
          | inl q ↦ inl (
            ap (λ b. cond b Stay Leave) q.1,
            before ∙ sym ((x.after.one_held n r.field).0 (sym w.1 ∙ sym q.0 ∙ e)),
            (let tells_it : (not (same_option same_node r.before r.after) || holds_mentioned m r.before) ≡ true = (λ z. not (same_option same_node (w.0 z) (w.1 z)) || holds_mentioned m (w.0 z)) ∙ w.2 in
                ap (holds_mentioned m) (sym e) ∙ ap (λ b. not b || holds_mentioned m r.before) (sym q.1) ∙ tells_it),
          )
          | inr q ↦ inr (ap (λ b. cond b Stay Leave) q.1, λ p. q.0 (e ∙ sym (w.1 ∙ (x.after.one_held n r.field).1 (sym p ∙ before))))
        ],
      )

  pub put-place : (r : RegStep) (n : NodeId) → Has S.regs r → Has (put_over r) n → ComesTo n (Spot.Register r.field)
  put-place r n i h = elim (one-or-other r.before r.after) [
    | inl q ↦ absurd (subst (λ b. Has (cond b [] (one_or_none r.after)) n) q.1 h)
    | inr q ↦ (let w = reg-is r i in
        let after = one-is r.after n (subst (λ b. Has (cond b [] (one_or_none r.after)) n) q.1 h) in
        ((x.after.one_held n r.field).0 (sym w.1 ∙ after), λ e. q.0 (w.0 ∙ (x.before.one_held n r.field).1 e ∙ sym after)))
  ]

  abbrev loose_of : NodeId → Loose
  loose_of n = record { node = n; how = cond (is_nowhere (E.place n)) Stay Leave }

  pub loose-place : (l : Loose) → Has S.loose l → (D.place l.node ≡ Spot.Nowhere) × (l.node ≢ root) × StaysOrLeaves l.node l.how
  loose-place l i = go (is_loose m D l.node) refl
    where
      some-loose : {a b : Loose} → ◌≡◌ {A = Option Loose} (Some a) (Some b) → a ≡ b
      some-loose e = cc

      as-told : (h : How) → (b : Bool) → is_nowhere (E.place l.node) ≡ b → cond b Stay Leave ≡ h → D.place l.node ≡ Spot.Nowhere → m l.node ≡ true → StaysOrLeaves l.node h
      as-told h true f e p k = inl (sym e, p ∙ sym (nowhere-is (E.place l.node) f), k)
      as-told h false f e p k = inr (sym e, λ q. somewhere-is (E.place l.node) f (sym q ∙ p))

      not-root : (b : Bool) → not b ≡ true → b ≡ true → ⊥
      not-root true e f = cc
      not-root false e f = cc

      go : (b : Bool) → is_loose m D l.node ≡ b → (D.place l.node ≡ Spot.Nowhere) × (l.node ≢ root) × StaysOrLeaves l.node l.how
      go false e = let bad : None ≡ Some l = ap (λ b. cond b (Some (loose_of l.node)) None) (sym e) ∙ loose-look l i in cc
      go true e =
          let q = and-true (m l.node && is_nowhere (D.place l.node)) (not (same_node l.node root)) e in
          let p = and-true (m l.node) (is_nowhere (D.place l.node)) q.0 in
          let same : loose_of l.node ≡ l = some-loose (ap (λ b. cond b (Some (loose_of l.node)) None) (sym e) ∙ loose-look l i) in
          let place = nowhere-is (D.place l.node) p.1 in (
            place,
            (λ r. not-root (same_node l.node root) q.1 (ap (λ n. same_node n root) r ∙ same_node-itself root)),
            as-told l.how (is_nowhere (E.place l.node)) refl (ap (λ (l : Loose). l.how) same) place p.0,
          )

  pub has-loose : (n : NodeId) → m n ≡ true → D.place n ≡ Spot.Nowhere → n ≢ root → Has S.loose (loose_of n)
  has-loose n e p h = go (same_node n root) refl
    where
      go : (b : Bool) → same_node n root ≡ b → Has S.loose (loose_of n)
      go true q = absurd (h (same_node-true n root q))
      go false q =
          let said : is_loose m D n ≡ true = (λ i. (e i && is_nowhere (p i)) && not (q i)) in
          (item_of-has node_cmp node_cmp_total node_cmp_exact (λ (l : Loose). l.node) S.loose n (loose_of n) (s.loose.at_each n ∙ ap (λ b. cond b (Some (loose_of n)) None) said)).0

  -- ## What is found stays or leaves

  -- a node that is found, with where
  pub data FoundAt (n : NodeId) (h : How) : Type 0 where
    at_row : (r : RowMarks) (a : CellId) → Has S.rows r → Has (spread r.marks) (Touch a n h) → D.place n ≡ Spot.Row r.node a → FoundAt n h
    at_register : (r : RegStep) → Has S.regs r → r.before ≡ Some n → D.place n ≡ Spot.Register r.field → FoundAt n h
    at_loose : (l : Loose) → Has S.loose l → l.node ≡ n → D.place n ≡ Spot.Nowhere → n ≢ root → FoundAt n h

  pub found-at : (f : Found) → Has L.found f → FoundAt f.node f.how × StaysOrLeaves f.node f.how
  found-at f i = elim (has-append (in_rows found_in S.rows) (flat_map found_over S.regs ++ found_loose S.loose) f i) [
    | inl j ↦ (let r = has-flat_map (λ (r : RowMarks). found_in (spread r.marks)) S.rows f j in
        let t = found_in-has (spread r.0.marks) f r.2 in
        let w = touch-place r.0 t.0 f.node f.how r.1 t.1 in
        (at_row r.0 t.0 r.1 t.1 w.0, w.1))
    | inr j ↦ elim (has-append (flat_map found_over S.regs) (found_loose S.loose) f j) [
      | inl k ↦ (let r = has-flat_map found_over S.regs f k in
          let q = found_held-is r.0.before (how_over r.0) f r.2 in
          let w = held-place r.0 f.node r.1 q.0 in
          (at_register r.0 r.1 q.0 w.0, subst (StaysOrLeaves f.node) q.1 w.1))
      | inr k ↦ (let l = has-map (λ (l : Loose). let f : Found = record { node = l.node; how = l.how } in f) S.loose f k in
          let n : l.0.node ≡ f.node = ap (λ (f : Found). f.node) l.2 in
          let w = loose-place l.0 l.1 in
          (at_loose l.0 l.1 n (ap D.place (sym n) ∙ w.0) (λ r. w.1 (n ∙ r)), subst (StaysOrLeaves f.node) (ap (λ (f : Found). f.how) l.2) (subst (λ k. StaysOrLeaves k l.0.how) n w.2)))
    ]
  ]

  at-known : (n : NodeId) (h : How) → FoundAt n h → StaysOrLeaves n h → m n ≡ true
  at-known n h w (inl v) = v.2
  at-known n h (at_row r a i j e) (inr v) = moved n (placed_known D x.before n (λ q. row-not-nowhere r.node a (sym e ∙ q))) v.1
  at-known n h (at_register r i e f) (inr v) = moved n (placed_known D x.before n (λ q. register-not-nowhere r.field (sym f ∙ q))) v.1
  at-known n h (at_loose l i e p k) (inr v) = let d = said in d
    where
      said : m n ≡ true
      said = go (is_loose m D l.node) refl
        where
          go : (b : Bool) → is_loose m D l.node ≡ b → m n ≡ true
          go false f = let bad : None ≡ Some l = ap (λ b. cond b (Some (loose_of l.node)) None) (sym f) ∙ loose-look l i in cc
          go true f = ap m (sym e) ∙ (and-true (m l.node) (is_nowhere (D.place l.node)) (and-true (m l.node && is_nowhere (D.place l.node)) (not (same_node l.node root)) f).0).0

  at-not-root : (n : NodeId) (h : How) → FoundAt n h → n ≢ root
  at-not-root n h (at_row r a i j e) q = row-not-nowhere r.node a (sym e ∙ ap D.place q ∙ x.before.root_nowhere)
  at-not-root n h (at_register r i e f) q = register-not-nowhere r.field (sym f ∙ ap D.place q ∙ x.before.root_nowhere)
  at-not-root n h (at_loose l i e p k) q = k q

  -- who is found is named, and isn't the root
  pub found-named : (n : NodeId) → IsFound L n → (m n ≡ true) × (n ≢ root)
  found-named n i =
      let f = has-map (λ (f : Found). f.node) L.found n i in
      let w = found-at f.0 f.1 in
      subst (λ k. (m k ≡ true) × (k ≢ root)) f.2 (at-known f.0.node f.0.how w.0 w.1, at-not-root f.0.node f.0.how w.0)

  -- ## Who is named is found

  pub row-listed : (n : NodeId) → list_any tells (step_row m (s.grows n)) ≡ true → (r : RowMarks) × Has S.rows r × (r.node ≡ n) × (spread r.marks ≡ step_row m (s.grows n))
  row-listed n e =
      let mark : RowMarks = record { node = n; marks = merge (step_row m (s.grows n)) } in
      let i = item_of-has node_cmp node_cmp_total node_cmp_exact (λ (r : RowMarks). r.node) S.rows n mark (s.rows.at_each n ∙ ap (λ b. cond b (Some mark) None) e) in
      (mark, i.0, refl, spread-merge (step_row m (s.grows n)))

  -- a mark that tells lists its row
  pub told-listed : (n : NodeId) (y : CellMark) → Has (step_row m (s.grows n)) y → tells y ≡ true → (r : RowMarks) × Has S.rows r × (r.node ≡ n) × Has (spread r.marks) y
  told-listed n y h e = let r = row-listed n (has-any tells (step_row m (s.grows n)) y h e) in (r.0, r.1, r.2, subst (λ ms. Has ms y) (sym r.3) h)

  found-row : (r : NodeId) (a : CellId) (n : NodeId) (h : How) → Has (step_row m (s.grows r)) (Touch a n h) → (q : RowMarks) × Has S.rows q × (q.node ≡ r) × IsFoundAs L n h
  found-row r a n h i = let q = told-listed r (Touch a n h) i refl in (
    q.0,
    q.1,
    q.2,
    append_left (in_rows found_in S.rows) (flat_map found_over S.regs ++ found_loose S.loose) _ (flat_map-has (λ (r : RowMarks). found_in (spread r.marks)) S.rows q.0 _ q.1 (has-found_in (spread q.0.marks) a n h q.3)),
  )

  found-register : (f : FieldId) (n : NodeId) (h : How) → Has S.regs (reg_of f) → D.held f ≡ Some n → how_over (reg_of f) ≡ h → IsFoundAs L n h
  found-register f n h i e g = append_right (in_rows found_in S.rows) (flat_map found_over S.regs ++ found_loose S.loose) _
      (append_left (flat_map found_over S.regs) (found_loose S.loose) _ (flat_map-has found_over S.regs (reg_of f) _ i (subst (λ h. Has (found_held (D.held f) (how_over (reg_of f))) (record { node = n; how = h })) g (is-found_held (D.held f) n (how_over (reg_of f)) e))))

  found-loose : (n : NodeId) (h : How) → Has S.loose (loose_of n) → (loose_of n).how ≡ h → IsFoundAs L n h
  found-loose n h i g = append_right (in_rows found_in S.rows) (flat_map found_over S.regs ++ found_loose S.loose) _
      (append_right (flat_map found_over S.regs) (found_loose S.loose) _ (subst (λ h. Has (found_loose S.loose) (record { node = n; how = h })) g (map-has (λ (l : Loose). let f : Found = record { node = l.node; how = l.how } in f) S.loose (loose_of n) i)))

  -- a node that is named is touched where it stands
  pub touched-as : (n r : NodeId) (a : CellId) → m n ≡ true → D.place n ≡ Spot.Row r a
      → ((D.place n ≡ E.place n) × Has (step_row m (s.grows r)) (Touch a n Stay)) ⊎ ((D.place n ≢ E.place n) × Has (step_row m (s.grows r)) (Touch a n Leave))
  touched-as n r a e p = go k.slot.full refl
    where
      k : IsKept m (s.grows r) (cell_with a n true)
      k = kept-mark m (s.grows r) (cell_with a n true) (shown D x.before n r a p)

      there : (b : Bool) → k.slot.full ≡ b → Has (content E r) (cell_with a n b)
      there b f = subst (Has (content E r)) (λ i. record { cell = sym k.same.0 i; node = sym k.same.1 i; full = f i }) k.there

      go : (b : Bool) → k.slot.full ≡ b → ((D.place n ≡ E.place n) × Has (step_row m (s.grows r)) (Touch a n Stay)) ⊎ ((D.place n ≢ E.place n) × Has (step_row m (s.grows r)) (Touch a n Leave))
      go true f = inl (p ∙ sym (stands E x.after n r a (there true f)), subst (Has (step_row m (s.grows r))) (ap (step_cell m a n true) f ∙ ap (λ b. cond b (Touch a n Stay) Counted) e) k.mark)
      go false f = inr (λ q. empty-not E n r a (there false f) (sym q ∙ p), subst (Has (step_row m (s.grows r))) (ap (step_cell m a n true) f) k.mark)

  -- a named node other than the root is found, and what becomes of it is told
  pub named-found : (n : NodeId) → m n ≡ true → n ≢ root → ((D.place n ≡ E.place n) × IsFoundAs L n Stay) ⊎ ((D.place n ≢ E.place n) × IsFoundAs L n Leave)
  named-found n e h = go (D.place n) refl
    where
      go : (p : Spot) → D.place n ≡ p → ((D.place n ≡ E.place n) × IsFoundAs L n Stay) ⊎ ((D.place n ≢ E.place n) × IsFoundAs L n Leave)
      go (Spot.Row r a) p = elim (touched-as n r a e p) [
        | inl w ↦ inl (w.0, (found-row r a n Stay w.1).3)
        | inr w ↦ inr (w.0, (found-row r a n Leave w.1).3)
      ]
      go (Spot.Register f) p =
          let held = (x.before.one_held n f).1 p in
          let i = has-reg f (or-right (not (same_option same_node (D.held f) (E.held f))) (holds_mentioned m (D.held f)) (ap (holds_mentioned m) held ∙ e)) in
          elim (one-or-other (D.held f) (E.held f)) [
            | inl q ↦ inl (p ∙ sym ((x.after.one_held n f).0 (sym q.0 ∙ held)), found-register f n Stay i held (ap (λ b. cond b Stay Leave) q.1))
            | inr q ↦ inr (λ g. q.0 (held ∙ sym ((x.after.one_held n f).1 (sym g ∙ p))), found-register f n Leave i held (ap (λ b. cond b Stay Leave) q.1))
          ]
      go Spot.Nowhere p =
          let i = has-loose n e p h in
          elim (same_spot (E.place n) Spot.Nowhere) [
            | inl q ↦ inl (p ∙ sym q, found-loose n Stay i (ap (λ p. cond (is_nowhere p) Stay Leave) q))
            | inr q ↦ inr (λ g. q (sym g ∙ p), found-loose n Leave i (ap (λ b. cond b Stay Leave) (is-somewhere (E.place n) q)))
          ]

  pub found-of : (n : NodeId) (h : How) → IsFoundAs L n h → IsFound L n
  found-of n h i = map-has (λ (f : Found). f.node) L.found (record { node = n; how = h }) i

  pub root-or-found : (n : NodeId) → m n ≡ true → (n ≡ root) ⊎ IsFound L n
  root-or-found n e = go (same_node n root) refl
    where
      go : (b : Bool) → same_node n root ≡ b → (n ≡ root) ⊎ IsFound L n
      go true q = inl (same_node-true n root q)
      go false q = inr (elim (named-found n e (λ r. let bad : ◌≡◌ {A = Bool} true false = sym (ap (λ k. same_node k root) r ∙ same_node-itself root) ∙ q in cc)) [ inl w ↦ found-of n Stay w.1 | inr w ↦ found-of n Leave w.1 ])

  -- who stands elsewhere after leaves
  pub leaves : (n : NodeId) → IsSome (D.nodes n) → D.place n ≢ E.place n → IsFoundAs L n Leave
  leaves n k h = elim (named-found n (moved n k h) (λ q. root-stays (subst (λ r. D.place r ≢ E.place r) q h))) [ inl w ↦ absurd (h w.0) | inr w ↦ w.1 ]

  -- ## Who is put

  -- one who is put comes there, and stood elsewhere
  pub put-at : (n : NodeId) → Has L.put n → (p : Spot) × (ComesTo n p) × (((r : RowMarks) × Has S.rows r × (a : CellId) × Has (incoming_nodes (spread r.marks)) n × (p ≡ Spot.Row r.node a)) ⊎ ((r : RegStep) × Has S.regs r × (p ≡ Spot.Register r.field)))
  put-at n h = elim (has-append (in_rows incoming_nodes S.rows) (flat_map put_over S.regs) n h) [
    | inl i ↦ (let r = has-flat_map (λ (r : RowMarks). incoming_nodes (spread r.marks)) S.rows n i in
        let w = incoming-mark (spread r.0.marks) n r.2 in
        (Spot.Row r.0.node w.0, elim w.1 [ inl j ↦ make-place r.0 w.0 n r.1 j | inr j ↦ fill-place r.0 w.0 n r.1 j ], inl (r.0, r.1, w.0, r.2, refl)))
    | inr i ↦ (let r = has-flat_map put_over S.regs n i in (Spot.Register r.0.field, put-place r.0 n r.1 r.2, inr (r.0, r.1, refl)))
  ]

  put-in-row : (r : NodeId) (y : CellMark) (n : NodeId) → Has (step_row m (s.grows r)) y → tells y ≡ true → ((ms : List CellMark) → Has ms y → Has (incoming_nodes ms) n) → Has L.put n
  put-in-row r y n h e comes = let q = told-listed r y h e in append_left (in_rows incoming_nodes S.rows) (flat_map put_over S.regs) n (flat_map-has (λ (r : RowMarks). incoming_nodes (spread r.marks)) S.rows q.0 n q.1 (comes (spread q.0.marks) q.3))

  -- whoever comes to a place is put
  pub comes-put : (n : NodeId) (p : Spot) → ComesTo n p → p ≢ Spot.Nowhere → Has L.put n
  comes-put n Spot.Nowhere w h = absurd (h refl)
  comes-put n (Spot.Row r a) w h = elim (after-mark m (s.grows r) (cell_with a n true) (shown E x.after n r a w.0)) [
    | inr i ↦ put-in-row r (Make a n true) n i refl (λ ms j. make-incoming ms a n j)
    | inl k ↦ filled k.slot.full refl (λ b f. subst (Has (content D r)) (λ i. record { cell = k.same.0 i; node = k.same.1 i; full = f i }) k.there)
        (λ b f. subst (Has (step_row m (s.grows r))) (λ i. step_cell m (k.same.0 i) (k.same.1 i) (f i) true) k.mark)
  ]
    where
      filled : (b : Bool) → {f : Bool} → f ≡ b → ((b : Bool) → f ≡ b → Has (content D r) (cell_with a n b)) → ((b : Bool) → f ≡ b → Has (step_row m (s.grows r)) (step_cell m a n b true)) → Has L.put n
      filled true e there mark = absurd (w.1 (stands D x.before n r a (there true e)))
      filled false e there mark = put-in-row r (Fill a n) n (mark false e) refl (λ ms j. fill-incoming ms a n j)
  comes-put n (Spot.Register f) w h =
      let after = (x.after.one_held n f).1 w.0 in
      elim (one-or-other (D.held f) (E.held f)) [
        | inl q ↦ absurd (w.1 ((x.before.one_held n f).0 (q.0 ∙ after)))
        | inr q ↦ append_right (in_rows incoming_nodes S.rows) (flat_map put_over S.regs) n (flat_map-has put_over S.regs (reg_of f) n
            (has-reg f (or-left (not (same_option same_node (D.held f) (E.held f))) (holds_mentioned m (D.held f)) (ap not q.1)))
            (subst (λ b. Has (cond b [] (one_or_none (E.held f))) n) (sym q.1) (is-one (E.held f) n after)))
      ]
