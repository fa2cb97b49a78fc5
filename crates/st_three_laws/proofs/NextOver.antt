-- The second of two steps stands over each document to which the first leads from one in which the first and both as one find what is so.
use Rattle.std.proofs.Common.{◌≡◌, ◌≢◌, ◌⊎◌, Bool, true, false, ◌||◌, ◌++◌, not, cond, List, map, Option, Some, None, IsSome, IfSome, refl, sym, ap, ◌∙◌, subst, inl, inr}
use Rattle.std.specs.List.{AllZip, flat_map, list_any}
use Rattle.st_ids.specs.Listing.{Has, item_of}
use Rattle.st_ids.specs.Order.{field_cmp, node_cmp, same_node}
use Rattle.st_ids.specs.Root.{root}
use Rattle.st_ids.proofs.Listings.{has-item_of, item_of-has}
use Rattle.st_ids.proofs.Orders.{node_cmp_exact, node_cmp_total}
use Rattle.st_ids.specs.declared.names.CellId.{CellId}
use Rattle.st_ids.specs.declared.names.FieldId.{FieldId}
use Rattle.st_ids.specs.declared.names.NodeId.{NodeId}
use Rattle.st_lemmas.proofs.Bools.{or-cases, or-left, or-right, true-false, refuted-false}
use Rattle.st_lemmas.proofs.Options.{None-IsSome}
use Rattle.st_marks.specs.declared.changes.NewNode.{NewNode}
use Rattle.st_marks.specs.declared.marks.How.TheVariants.{Stay, Leave}
use Rattle.st_marks.specs.declared.marks.Loose.{Loose}
use Rattle.st_marks.specs.declared.marks.RegStep.{RegStep}
use Rattle.st_marks.specs.declared.marks.RowMarks.{RowMarks}
use Rattle.st_marks.specs.declared.places.Slot.{Slot}
use Rattle.st_marks.specs.declared.places.Spot.{Spot}
use Rattle.st_marks.specs.declared.steps.Step.{Step}
use Rattle.st_marks.specs.Document.{Document, IsSoundInForm, NodeType, content, owned_cell}
use Rattle.st_marks.specs.Embedding.{is_nowhere, tells}
use Rattle.st_marks.specs.Extends.{IsExtendedBy}
use Rattle.st_marks.specs.Intent.{same_option}
use Rattle.st_marks.specs.Listings.{cells_before, cells_made, nodes_new}
use Rattle.st_marks.specs.Register.{holds_mentioned}
use Rattle.st_marks.specs.Row.{CellMark, Counted, Gap, Touch, Make, Fill, SameCell, spread, step_row}
use Rattle.st_marks.specs.Step.{IsStep, gained_node}
use Rattle.st_marks.proofs.Climb.{placed_known, same_spot, stands, unknown_nowhere}
use Rattle.st_marks.proofs.Later.{has_later, node_later}
use Rattle.st_marks.proofs.Members.{append_right, flat_map-has, has-flat_map, has-map, map-has}
use Rattle.st_normal.specs.Rules.{ObeysStepRules, entries_of_step, found_in, found_loose, found_over, hole_owner, hole_owners, in_rows, incoming_nodes}
use Rattle.st_normal.specs.declared.entries.Found.{Found}
use Rattle.st_puts.specs.Seen.{AreAsSeen}
use Rattle.st_puts.proofs.StepPlaces.{cells-once, comes-put, empty-not, found-at, found-named, has-loose, has-reg, leaves, loose-place, moved, known, one-or-other, put-at, reg-is, root-or-found, row-listed, row-look, slot-known, told-listed}
use Rattle.st_puts.proofs.StepRows.{after-mark, cell_with, kept-mark, make-step}
use Rattle.st_puts.proofs.Basics.{register-not-nowhere, row-not-nowhere}
use Rattle.st_rows.proofs.Documents.{in_document}
use Rattle.st_normal_step_laws.specs.StepOver.{EndsWithCut, IsOverStep, later}
use Rattle.st_normal_step_laws.proofs.PlacesLater.{found-known}
use Rattle.st_normal_step_laws.proofs.RingsLater.{later_extends}
use Rattle.st_normal_step_laws.proofs.SoundLater.{cell-cases, known-later, made-by, makes-cell, new-later, reg-cases}
use Rattle.st_normal_step_laws.proofs.StepLater.{step_over}
use Rattle.st_normal_step_laws.proofs.StepsFind.{finds_what_is_so}
use Rattle.st_three_laws.proofs.NextRows.{as-slot, known-touched, row-listed_before, same-slot, unfilled, unmentioned}
use Rattle.st_three_laws.proofs.RowsTold.{AreAlike, alike-seen, rows-on, seen-alike, untold-row, zip-both, zip-more}
use Rattle.st_three_laws.proofs.Touched.{mentioned_touched}

-- ## Nodes that are made

pub lacks-or-knows : (A : Document) (n : NodeId) → (A.nodes n ≡ None) ⊎ IsSome (A.nodes n)
lacks-or-knows A n = go (A.nodes n) refl
  where
    go : (o : Option NodeType) → A.nodes n ≡ o → (A.nodes n ≡ None) ⊎ IsSome (A.nodes n)
    go None e = inl e
    go (Some k) e = inr (subst IsSome (sym e) refl)

module _ (A B : Document) (S : Step) (q : IsStep A B S) (n : NodeId) where
  pub gained-new : A.nodes n ≡ None → IsSome (B.nodes n) → Has (nodes_new S.new) n
  gained-new d e = go (B.nodes n) refl
    where
      go : (o : Option NodeType) → B.nodes n ≡ o → Has (nodes_new S.new) n
      go None f = absurd (None-IsSome (B.nodes n) f e)
      go (Some t) f =
          let mark : NewNode = record { node = n; ty = t.ty; leaf = t.leaf } in
          map-has (λ (m : NewNode). m.node) S.new mark (item_of-has node_cmp node_cmp_total node_cmp_exact (λ (m : NewNode). m.node) S.new n mark (q.new.at_each n ∙ (λ i. gained_node n (d i) (f i)))).0

  pub new-known : Has (nodes_new S.new) n → IsSome (B.nodes n)
  new-known h = let m = has-map (λ (m : NewNode). m.node) S.new n h in
      elim (lacks-or-knows B n) [
        | inr k ↦ k
        | inl k ↦ absurd (bad (A.nodes n) (B.nodes n) m.0 k (sym (q.new.at_each n) ∙ subst (λ k. item_of node_cmp (λ (m : NewNode). m.node) S.new k ≡ Some m.0) m.2 (has-item_of node_cmp node_cmp_total node_cmp_exact (λ (m : NewNode). m.node) S.new m.0 q.new.rising m.1)))
      ]
    where
      bad : (o p : Option NodeType) (m : NewNode) → p ≡ None → gained_node n o p ≡ Some m → ⊥
      bad None None m e f = cc
      bad None (Some t) m e f = cc
      bad (Some t) p m e f = cc

-- ## What the two make, both as one make

pub made-from : (S : Step) (c : CellId) → Has (in_rows cells_made S.rows) c → (r : RowMarks) × (n : NodeId) × (v : Bool) × Has S.rows r × Has (spread r.marks) (Make c n v)
made-from S c h = let r = has-flat_map (λ (r : RowMarks). cells_made (spread r.marks)) S.rows c h in let m = made-by (spread r.0.marks) c r.2 in (r.0, m.0, m.1, r.1, m.2)

-- a cell of a later document that the first hasn't is made on the way there
pub made-to : (D F : Document) (u : Step) (z : IsExtendedBy D F) (w : IsStep D F u) (k : NodeId) (c : CellId) (n : NodeId) (v : Bool) → Has (content F k) (cell_with c n v) → D.row_of c ≡ None → (q : RowMarks) × Has u.rows q × Has (spread q.marks) (Make c n v)
made-to D F u z w k c n v h none = elim (after-mark w.mentioned (w.grows k) (cell_with c n v) h) [
  | inl j ↦ absurd (bad (sym none ∙ in_document D z.before k c (subst (λ d. Has (map (λ (t : Slot). t.cell) (content D k)) d) j.same.0 (map-has (λ (t : Slot). t.cell) (content D k) j.slot j.there))))
  | inr j ↦ (let q = told-listed D F u z w k (Make c n v) j refl in (q.0, q.1, q.3))
]
  where
    bad : ◌≡◌ {A = Option NodeId} None (Some k) → ⊥
    bad e = cc

module _ (D E F : Document) (a b u : Step) (x : IsExtendedBy D E) (y : IsExtendedBy E F) (z : IsExtendedBy D F) (s : IsStep D E a) (t : IsStep E F b) (w : IsStep D F u) where
  lacked-before : (n : NodeId) → E.nodes n ≡ None → D.nodes n ≡ None
  lacked-before n none = elim (lacks-or-knows D n) [ inl e ↦ e | inr k ↦ absurd (None-IsSome (E.nodes n) none (node_later D E x n k)) ]

  absent-before : (c : CellId) → E.row_of c ≡ None → D.row_of c ≡ None
  absent-before c none = go (D.row_of c) refl
    where
      bad : {n : NodeId} → ◌≡◌ {A = Option NodeId} None (Some n) → ⊥
      bad e = cc

      go : (q : Option NodeId) → D.row_of c ≡ q → D.row_of c ≡ None
      go None e = e
      go (Some n) e = (let o = (x.before.one_row c n).0 e in absurd (bad (sym none ∙ (x.after.one_row c n).1 (o.0, has_later (x.rows n) (owned_cell c o.0) o.1))))

  pub new-first : (n : NodeId) → Has (nodes_new a.new) n → Has (nodes_new u.new) n
  new-first n h = gained-new D F u w n ((finds_what_is_so D E a x s).new_nodes n h) (node_later E F y n (new-known D E a s n h))

  pub new-next : (n : NodeId) → Has (nodes_new b.new) n → Has (nodes_new u.new) n
  new-next n h = gained-new D F u w n (lacked-before n ((finds_what_is_so E F b y t).new_nodes n h)) (new-known E F b t n h)

  made-next : (r : RowMarks) (c : CellId) (n : NodeId) (v : Bool) → Has b.rows r → Has (spread r.marks) (Make c n v) → (q : RowMarks) × Has u.rows q × Has (spread q.marks) (Make c n v)
  made-next r c n v i j =
      let there = make-step t.mentioned (t.grows r.node) (cells-once E F b y t r.node) c n v (subst (λ ms. Has ms (Make c n v)) (row-look E F b y t r i).0 j) in
      made-to D F u z w r.node c n v there.0 (absent-before c ((finds_what_is_so E F b y t).new_cells c (flat_map-has (λ (r : RowMarks). cells_made (spread r.marks)) b.rows r c i (makes-cell (spread r.marks) c n v j))))

  makes : (q : RowMarks) (c : CellId) (n : NodeId) (v : Bool) → Has u.rows q → Has (spread q.marks) (Make c n v) → Has (in_rows cells_made u.rows) c
  makes q c n v i j = flat_map-has (λ (r : RowMarks). cells_made (spread r.marks)) u.rows q c i (makes-cell (spread q.marks) c n v j)

  pub cells-next : (c : CellId) → Has (in_rows cells_made b.rows) c → Has (in_rows cells_made u.rows) c
  cells-next c h = let m = made-from b c h in let q = made-next m.0 c m.1 m.2 m.3 m.4 in makes q.0 c m.1 m.2 q.1 q.2

  pub cells-first : (c : CellId) → Has (in_rows cells_made a.rows) c → Has (in_rows cells_made u.rows) c
  cells-first c h =
      let m = made-from a c h in
      let there = make-step s.mentioned (s.grows m.0.node) (cells-once D E a x s m.0.node) c m.1 m.2 (subst (λ ms. Has ms (Make c m.1 m.2)) (row-look D E a x s m.0 m.3).0 m.4) in
      let kept = kept-mark t.mentioned (t.grows m.0.node) (cell_with c m.1 m.2) there.0 in
      let q = made-to D F u z w m.0.node c m.1 kept.slot.full (same-slot (content F m.0.node) (cell_with c m.1 m.2) kept.slot kept.slot.full kept.same refl kept.there) ((finds_what_is_so D E a x s).new_cells c h) in
      makes q.0 c m.1 kept.slot.full q.1 q.2

-- the step, without what it does to the schemas
abbrev pub data_of : Step → Step
data_of u = record u { schema = None }

pub data_rules : (u : Step) → ObeysStepRules u → ObeysStepRules (data_of u)
data_rules u r = record {
  common = r.common;
  rising = record { new = r.rising.new; rows = r.rising.rows; regs = r.rising.regs; loose = r.rising.loose };
  set_nowhere = r.set_nowhere;
  registers_tell = r.registers_tell;
  new_registers = r.new_registers;
  loose_put = r.loose_put;
  mentioned = r.mentioned;
  no_ring = record { before = r.no_ring.before; after = r.no_ring.after };
  schema = tt;
}

module _ (D E F : Document) (a b u : Step) (x : IsExtendedBy D E) (y : IsExtendedBy E F) (z : IsExtendedBy D F) (s : IsStep D E a) (t : IsStep E F b) (w : IsStep D F u)
    (G : Document) (sound : IsSoundInForm G) (rules : ObeysStepRules a) (both_rules : ObeysStepRules (data_of u)) (o : IsOverStep G a) (p : IsOverStep G (data_of u)) where
  abbrev H : Document
  H = later G a

  ext : IsExtendedBy G H
  ext = later_extends G a sound rules o

  step : IsStep G H a
  step = step_over G a sound rules o

  -- ## Rows

  module _ (k : NodeId) where
    abbrev first_tells : Bool
    first_tells = list_any tells (step_row s.mentioned (s.grows k))

    abbrev both_tell : Bool
    both_tell = list_any tells (step_row w.mentioned (w.grows k))

    abbrev Named : Slot → Type 0
    Named v = (s.mentioned v.node ≡ true) ⊎ (w.mentioned v.node ≡ true)

    abbrev Filled : Slot → Type 0
    Filled v = F.place v.node ≡ Spot.Row k v.cell

    abbrev Never : Slot → Type 0
    Never v = ⊥

    abbrev Then : Slot → Type 0
    Then v = t.mentioned v.node ≡ true

    first-sees : first_tells ≡ true → AreAsSeen (content G k) (cells_before (step_row s.mentioned (s.grows k)))
    first-sees e = let r = row-listed D E a x s k e in
        subst (λ ms. AreAsSeen (content G k) (cells_before ms)) r.3 (subst (λ n. AreAsSeen (content G n) (cells_before (spread r.0.marks))) r.2 (o.rows r.0 r.1))

    both-see : both_tell ≡ true → AreAsSeen (content G k) (cells_before (step_row w.mentioned (w.grows k)))
    both-see e = let r = row-listed D F u z w k e in
        subst (λ ms. AreAsSeen (content G k) (cells_before ms)) r.3 (subst (λ n. AreAsSeen (content G n) (cells_before (spread r.0.marks))) r.2 (p.rows r.0 r.1))

    by-first : first_tells ≡ true → AllZip (AreAlike (λ v. s.mentioned v.node ≡ true) Never) (content D k) (content G k)
    by-first e = seen-alike s.mentioned Never (s.grows k) (λ v q i same f h. h) (content G k) (first-sees e)

    by-both : both_tell ≡ true → AllZip (AreAlike (λ v. w.mentioned v.node ≡ true) Filled) (content D k) (content G k)
    by-both e = seen-alike w.mentioned Filled (w.grows k) (λ v q i same f h. empty-not F v.node k v.cell (same-slot (content F k) v q false same f i) h) (content G k) (both-see e)

    alike : ((first_tells ≡ false) → (both_tell ≡ false) → ⊥) → AllZip (AreAlike Named Filled) (content D k) (content G k)
    alike some = go first_tells refl both_tell refl
      where
        go : (c : Bool) → first_tells ≡ c → (d : Bool) → both_tell ≡ d → AllZip (AreAlike Named Filled) (content D k) (content G k)
        go true e true f = zip-more (λ v g. AreAlike (λ v. s.mentioned v.node ≡ true) Never v g × AreAlike (λ v. w.mentioned v.node ≡ true) Filled v g) (AreAlike Named Filled) (content D k) (content G k)
            (λ v g h q. record { full = q.0.full; empty = q.0.empty; named = λ i n. elim n [ inl m ↦ q.0.named i m | inr m ↦ q.1.named i m ]; filled = q.1.filled })
            (zip-both (AreAlike (λ v. s.mentioned v.node ≡ true) Never) (AreAlike (λ v. w.mentioned v.node ≡ true) Filled) (content D k) (content G k) (by-first e) (by-both f))
        go true e false f = zip-more (AreAlike (λ v. s.mentioned v.node ≡ true) Never) (AreAlike Named Filled) (content D k) (content G k)
            (λ v g h q. record { full = q.full; empty = q.empty; named = λ i n. elim n [ inl m ↦ q.named i m | inr m ↦ absurd (unmentioned D F u z w k f v h i m) ]; filled = λ i l. absurd (unfilled D F u z w k f v h i l) })
            (by-first e)
        go false e true f = zip-more (AreAlike (λ v. w.mentioned v.node ≡ true) Filled) (AreAlike Named Filled) (content D k) (content G k)
            (λ v g h q. record { full = q.full; empty = q.empty; named = λ i n. elim n [ inl m ↦ absurd (unmentioned D E a x s k e v h i m) | inr m ↦ q.named i m ]; filled = q.filled })
            (by-both f)
        go false e false f = absurd (some e f)

    named-there : (v : Slot) → Has (content D k) v → Then v → Named v
    named-there v h m = known-touched D E F a b u x y z s t w k v.node (slot-known D x.before k v h).1 m

    on : ((first_tells ≡ false) → (both_tell ≡ false) → ⊥) → AllZip (AreAlike Then Filled) (content E k) (content H k)
    on some = go first_tells refl
      where
        quiet : first_tells ≡ false → list_any tells (step_row step.mentioned (step.grows k)) ≡ false
        quiet e = refuted-false (list_any tells (step_row step.mentioned (step.grows k))) (λ h. let r = row-listed G H a ext step k h in
            true-false (subst (λ n. list_any tells (step_row s.mentioned (s.grows n)) ≡ true) r.2 (row-look D E a x s r.0 r.1).1) e)

        marks : first_tells ≡ true → step_row s.mentioned (s.grows k) ≡ step_row step.mentioned (step.grows k)
        marks e = let r = row-listed D E a x s k e in sym r.3 ∙ subst (λ n. spread r.0.marks ≡ step_row step.mentioned (step.grows n)) r.2 (row-look G H a ext step r.0 r.1).0

        go : (c : Bool) → first_tells ≡ c → AllZip (AreAlike Then Filled) (content E k) (content H k)
        go true e = rows-on s.mentioned step.mentioned Named Filled Then Filled (s.grows k) (step.grows k) (marks e)
            (λ v q h i same f g m. named-there v h (ap t.mentioned same.1 ∙ m))
            (λ v q h i same f g l. ap F.place same.1 ∙ l ∙ ap (Spot.Row k) (sym same.0))
            (alike some)
        go false e = subst (λ c. AllZip (AreAlike Then Filled) c (content H k)) (untold-row s.mentioned (s.grows k) e) (subst (λ c. AllZip (AreAlike Then Filled) (content D k) c) (untold-row step.mentioned (step.grows k) (quiet e))
            (zip-more (AreAlike Named Filled) (AreAlike Then Filled) (content D k) (content G k) (λ v g h q. record { full = q.full; empty = q.empty; named = λ i m. q.named i (named-there v h m); filled = q.filled }) (alike some)))

  row-seen : (r : RowMarks) → Has b.rows r → AreAsSeen (content H r.node) (cells_before (spread r.marks))
  row-seen r i = subst (λ ms. AreAsSeen (content H r.node) (cells_before ms)) (sym look.0) (alike-seen t.mentioned (Filled r.node) (t.grows r.node) filled leaving (content H r.node) (on r.node (row-listed_before D E F a b u x y z s t w r.node look.1)))
    where
      look : (spread r.marks ≡ step_row t.mentioned (t.grows r.node)) × (list_any tells (step_row t.mentioned (t.grows r.node)) ≡ true)
      look = row-look E F b y t r i

      filled : (v q : Slot) → Has (content F r.node) q → SameCell v q → q.full ≡ true → Filled r.node v
      filled v q h same f = stands F y.after v.node r.node v.cell (same-slot (content F r.node) v q true same f h)

      leaving : (v q : Slot) → Has (content E r.node) v → Has (content F r.node) q → SameCell v q → v.full ≡ true → q.full ≡ false → t.mentioned v.node ≡ true
      leaving v q h j same f g = moved E F b y t v.node (slot-known E y.before r.node v h).1
          (λ e. empty-not F v.node r.node v.cell (same-slot (content F r.node) v q false same g j) (sym e ∙ stands E y.before v.node r.node v.cell (as-slot (content E r.node) v true f h)))

  -- ## Registers

  register-held : (r : RegStep) → Has b.regs r → H.held r.field ≡ r.before
  register-held r i = elim (reg-cases G a sound rules o r.field) [
    | inl (q, j, e, h) ↦ h ∙ (reg-is D E a x s q j).1 ∙ ap E.held e ∙ sym (reg-is E F b y t r i).0
    | inr (none, h) ↦ h ∙ there (λ j. listed none j) ∙ sym (reg-is E F b y t r i).0
  ]
    where
      f : FieldId
      f = r.field

      some-none : {q : RegStep} → ◌≡◌ {A = Option RegStep} (Some q) None → ⊥
      some-none e = cc

      differs : Bool
      differs = not (same_option same_node (D.held f) (E.held f)) || holds_mentioned s.mentioned (D.held f)

      listed : item_of field_cmp (λ (r : RegStep). r.field) a.regs f ≡ None → differs ≡ true → ⊥
      listed none e = some-none (sym (s.regs.at_each f ∙ ap (λ c. cond c (Some (record { field = f; before = D.held f; after = E.held f })) None) e) ∙ none)

      -- a register of which the first tells nothing holds whom it held
      there : (differs ≡ true → ⊥) → G.held f ≡ E.held f
      there quiet = p.held (record { field = f; before = D.held f; after = F.held f }) (has-reg D F u z w f told) ∙ same
        where
          same : D.held f ≡ E.held f
          same = elim (one-or-other (D.held f) (E.held f)) [
            | inl q ↦ q.0
            | inr q ↦ absurd (quiet (or-left (not (same_option same_node (D.held f) (E.held f))) (holds_mentioned s.mentioned (D.held f)) (ap not q.1)))
          ]

          holder : (h : Option NodeId) → D.held f ≡ h → holds_mentioned t.mentioned h ≡ true → holds_mentioned w.mentioned h ≡ true
          holder None e m = m
          holder (Some n) e m = elim (known-touched D E F a b u x y z s t w n n (x.before.held_known n f e).0 m) [
            | inl k ↦ absurd (quiet (or-right (not (same_option same_node (D.held f) (E.held f))) (holds_mentioned s.mentioned (D.held f)) (ap (holds_mentioned s.mentioned) e ∙ k)))
            | inr k ↦ k
          ]

          told : (not (same_option same_node (D.held f) (F.held f)) || holds_mentioned w.mentioned (D.held f)) ≡ true
          told = elim (or-cases (not (same_option same_node (D.held f) (F.held f))) (holds_mentioned t.mentioned (D.held f)) (subst (λ h. (not (same_option same_node h (F.held f)) || holds_mentioned t.mentioned h) ≡ true) (sym same) (reg-is E F b y t r i).2)) [
            | inl n ↦ or-left (not (same_option same_node (D.held f) (F.held f))) (holds_mentioned w.mentioned (D.held f)) n
            | inr h ↦ or-right (not (same_option same_node (D.held f) (F.held f))) (holds_mentioned w.mentioned (D.held f)) (holder (D.held f) refl h)
          ]

  -- ## Nodes

  -- whom the first or both as one mention is there
  mentioned-known : (n : NodeId) → (s.mentioned n ≡ true) ⊎ (w.mentioned n ≡ true) → IsSome (G.nodes n)
  mentioned-known n (inl m) = elim (root-or-found D E a x s n m) [ inl e ↦ subst (λ n. IsSome (G.nodes n)) (sym e) sound.root_known | inr h ↦ found-known G a sound rules o n h ]
  mentioned-known n (inr m) = elim (root-or-found D F u z w n m) [ inl e ↦ subst (λ n. IsSome (G.nodes n)) (sym e) sound.root_known | inr h ↦ found-known G (data_of u) sound both_rules p n h ]

  touched-known : (n : NodeId) → IsSome (E.nodes n) → t.mentioned n ≡ true → IsSome (H.nodes n)
  touched-known n h m = elim (mentioned_touched D E F a b u x y z s t w n m) [
    | inl e ↦ new-later G a sound rules o n (gained-new D E a s n e h)
    | inr r ↦ known-later G a sound rules o n (mentioned-known n r)
  ]

  -- who comes from nowhere or is nowhere by the first is nowhere
  puts-nowhere : (n : NodeId) → E.place n ≡ Spot.Nowhere → (H.place n ≡ Spot.Nowhere) ⊎ (H.place n ≡ G.place n)
  puts-nowhere n e = elim (same_spot (H.place n) Spot.Nowhere) [
    | inl h ↦ inl h
    | inr h ↦ elim (same_spot (H.place n) (G.place n)) [
      | inl q ↦ inr q
      | inr q ↦ (let r = put-at D E a x s n (comes-put G H a ext step n (H.place n) (refl, λ f. q (sym f)) h) in absurd (somewhere r.0 r.2 (sym r.1.0 ∙ e)))
    ]
  ]
    where
      somewhere : (q : Spot) → ((r : RowMarks) × Has a.rows r × (c : CellId) × Has (incoming_nodes (spread r.marks)) n × (q ≡ Spot.Row r.node c)) ⊎ ((r : RegStep) × Has a.regs r × (q ≡ Spot.Register r.field)) → q ≡ Spot.Nowhere → ⊥
      somewhere q (inl r) f = row-not-nowhere r.0.node r.2 (sym r.4 ∙ f)
      somewhere q (inr r) f = register-not-nowhere r.0.field (sym r.2 ∙ f)

  nowhere-still : (n : NodeId) → n ≢ root → t.mentioned n ≡ true → E.place n ≡ Spot.Nowhere → H.place n ≡ Spot.Nowhere
  nowhere-still n unroot m e = elim (puts-nowhere n e) [
    | inl h ↦ h
    | inr h ↦ elim (mentioned_touched D E F a b u x y z s t w n m) [
      | inl none ↦ h ∙ unknown_nowhere G sound n (o.new_nodes n (gained-new D E a s n none (known E F b y t n m)))
      | inr r ↦ elim (same_spot (D.place n) Spot.Nowhere) [
        | inl d ↦ h ∙ elim r [
          | inl k ↦ (o.loose (record { node = n; how = cond (is_nowhere (E.place n)) Stay Leave }) (has-loose D E a x s n k d unroot)).0
          | inr k ↦ (p.loose (record { node = n; how = cond (is_nowhere (F.place n)) Stay Leave }) (has-loose D F u z w n k d unroot)).0
        ]
        | inr d ↦ absurd (away (λ q. d (q ∙ e)) d h)
      ]
    ]
  ]
    where
      away : D.place n ≢ E.place n → D.place n ≢ Spot.Nowhere → H.place n ≡ G.place n → ⊥
      away apart d h = elim (found-at G H a ext step (record { node = n; how = Leave }) (leaves D E a x s n (placed_known D x.before n d) apart)).1 [
        | inl q ↦ (let bad : Leave ≡ Stay = q.0 in cc)
        | inr q ↦ q.1 (sym h)
      ]

  loose-mentioned : (l : Loose) → Has b.loose l → t.mentioned l.node ≡ true
  loose-mentioned l i =
      let f : Found = record { node = l.node; how = l.how } in
      (found-named E F b y t l.node (map-has (λ (f : Found). f.node) (entries_of_step b).found f (append_right (in_rows found_in b.rows) (flat_map found_over b.regs ++ found_loose b.loose) f
      (append_right (flat_map found_over b.regs) (found_loose b.loose) f (map-has (λ (l : Loose). let f : Found = record { node = l.node; how = l.how } in f) b.loose l i))))).0

  loose-there : (l : Loose) → Has b.loose l → (H.place l.node ≡ Spot.Nowhere) × IsSome (H.nodes l.node)
  loose-there l i =
      let q = loose-place E F b y t l i in
      let m = loose-mentioned l i in
      (nowhere-still l.node q.1 m q.0, touched-known l.node (known E F b y t l.node m) m)

  -- ## What the second makes

  new-unknown : (n : NodeId) → Has (nodes_new b.new) n → H.nodes n ≡ None
  new-unknown n h = elim (lacks-or-knows H n) [
    | inl e ↦ e
    | inr k ↦ absurd (None-IsSome (E.nodes n) ((finds_what_is_so E F b y t).new_nodes n h) (new-known D E a s n (gained-new G H a step n (p.new_nodes n (new-next D E F a b u x y z s t w n h)) k)))
  ]

  made-absent : (c : CellId) → Has (in_rows cells_made b.rows) c → H.row_of c ≡ None
  made-absent c h = go (H.row_of c) refl
    where
      none : E.row_of c ≡ None
      none = (finds_what_is_so E F b y t).new_cells c h

      before : G.row_of c ≡ None
      before = p.new_cells c (cells-next D E F a b u x y z s t w c h)

      none-not : {n : NodeId} → ◌≡◌ {A = Option NodeId} None (Some n) → ⊥
      none-not e = cc

      go : (q : Option NodeId) → H.row_of c ≡ q → H.row_of c ≡ None
      go None e = e
      go (Some n) e = let q = (ext.after.one_row c n).0 e in absurd (elim (cell-cases G a sound rules o n (owned_cell c q.0) q.1) [
        | inl i ↦ none-not (sym before ∙ (sound.one_row c n).1 (q.0, i))
        | inr (r, v, i, f, j) ↦ (let m = make-step s.mentioned (s.grows r.node) (cells-once D E a x s r.node) c q.0 v (subst (λ ms. Has ms (Make c q.0 v)) (row-look D E a x s r i).0 j) in
            none-not (sym none ∙ in_document E x.after r.node c (map-has (λ (t : Slot). t.cell) (content E r.node) (cell_with c q.0 v) m.0)))
      ])

  hole-of : (ms : List CellMark) (n : NodeId) → Has (hole_owners ms) n → (c : CellId) × Has ms (Make c n false)
  hole-of ms n h = let q = has-flat_map hole_owner ms n h in go q.0 q.1 q.2
    where
      go : (m : CellMark) → Has ms m → Has (hole_owner m) n → (c : CellId) × Has ms (Make c n false)
      go Counted i j = absurd j
      go (Gap d) i j = absurd j
      go (Touch d k g) i j = absurd j
      go (Make d k true) i j = absurd j
      go (Make d k false) i (inl e) = (d, subst (λ k. Has ms (Make d k false)) e i)
      go (Make d k false) i (inr j) = absurd j
      go (Fill d k) i j = absurd j

  hole-has : (ms : List CellMark) (c : CellId) (n : NodeId) → Has ms (Make c n false) → Has (hole_owners ms) n
  hole-has ms c n h = flat_map-has hole_owner ms (Make c n false) n h (inl refl)

  owners-there : (n : NodeId) → Has (in_rows hole_owners b.rows) n → Has (nodes_new b.new) n ⊎ IsSome (H.nodes n)
  owners-there n h = elim ((finds_what_is_so E F b y t).owners n h) [
    | inl i ↦ inl i
    | inr k ↦ inr (elim (lacks-or-knows D n) [
      | inl e ↦ new-later G a sound rules o n (gained-new D E a s n e k)
      | inr d ↦ (let r = has-flat_map (λ (r : RowMarks). hole_owners (spread r.marks)) b.rows n h in
          let c = hole-of (spread r.0.marks) n r.2 in
          let q = made-next D E F a b u x y z s t w r.0 c.0 n false r.1 c.1 in
          known-later G a sound rules o n (elim (p.owners n (flat_map-has (λ (r : RowMarks). hole_owners (spread r.marks)) u.rows q.0 n q.1 (hole-has (spread q.0.marks) c.0 n q.2))) [
            | inl i ↦ absurd (None-IsSome (D.nodes n) ((finds_what_is_so D F u z w).new_nodes n i) d)
            | inr i ↦ i
          ]))
    ])
  ]

  pub next_data : IsOverStep H (data_of b)
  next_data = record {
    rows = row-seen;
    held = register-held;
    loose = loose-there;
    new_nodes = new-unknown;
    new_cells = made-absent;
    owners = owners-there;
    schema = tt;
  }

  pub next_over : IfSome b.schema (EndsWithCut H.schemas) → IsOverStep H b
  next_over schema = record {
    rows = row-seen;
    held = register-held;
    loose = loose-there;
    new_nodes = new-unknown;
    new_cells = made-absent;
    owners = owners-there;
    schema = schema;
  }
