-- A step that obeys the rules is the step from a document over which it is to the document after it.
use Rattle.std.proofs.Common.{◌≡◌, ◌≢◌, ◌⊎◌, ◌||◌, ◌&&◌, Bool, true, false, not, List, [], ◌∷◌, map, Option, Some, None, IsSome, IsTrue, IfSome, cond, refl, sym, ap, ◌∙◌, subst, inl, inr, option_map}
use Rattle.std.specs.List.{list_any}
use Rattle.std.specs.Option.{option_or}
use Rattle.st_ids.specs.Listing.{Has, item_of}
use Rattle.st_ids.specs.Order.{field_cmp, node_cmp, same_node}
use Rattle.st_ids.specs.Root.{root}
use Rattle.st_ids.proofs.Listings.{has-item_of, item_of-has}
use Rattle.st_ids.proofs.Orders.{field_cmp_exact, field_cmp_total, node_cmp_exact, node_cmp_total, same_cell-itself, same_node-itself, same_node-true}
use Rattle.st_ids.specs.declared.names.CellId.{CellId}
use Rattle.st_ids.specs.declared.names.FieldId.{FieldId}
use Rattle.st_ids.specs.declared.names.NodeId.{NodeId}
use Rattle.st_marks.specs.declared.changes.NewNode.{NewNode}
use Rattle.st_marks.specs.declared.intents.Owned.{Owned}
use Rattle.st_marks.specs.declared.marks.How.{How}
use Rattle.st_marks.specs.declared.marks.How.TheVariants.{Stay, Here, Leave}
use Rattle.st_marks.specs.declared.marks.Loose.{Loose}
use Rattle.st_marks.specs.declared.marks.RegStep.{RegStep}
use Rattle.st_marks.specs.declared.marks.RowMarks.{RowMarks}
use Rattle.st_marks.specs.declared.places.Spot.{Spot}
use Rattle.st_marks.specs.declared.schemas.SchemaStep.{SchemaStep}
use Rattle.st_marks.specs.declared.steps.Step.{Step}
use Rattle.st_marks.specs.Document.{Document, IsSoundInForm, NodeType, content, is_cell, owned_cell, slot}
use Rattle.st_marks.specs.Embedding.{is_loose, is_nowhere, row_marks, tells}
use Rattle.st_marks.specs.Extends.{GainsItems, no_more, item_kept}
use Rattle.st_marks.specs.Intent.{same_option}
use Rattle.st_marks.specs.Register.{holds_mentioned, step_register}
use Rattle.st_marks.specs.Row.{CellMark, Counted, Gap, Touch, Make, Fill, SameCell, merge, spread, step_cell, step_row}
use Rattle.st_marks.specs.Step.{IsSchemaStep, IsStep, gained_node, step_loose}
use Rattle.st_marks.proofs.Climb.{is_cell-true}
use Rattle.st_marks.proofs.Members.{all-has, distinct-has, map-has}
use Rattle.st_marks.proofs.Shared.{same-held}
use Rattle.st_normal.specs.declared.entries.Found.{Found}
use Rattle.st_normal.specs.Rules.{Entries, IsFound, IsFoundAs, ObeysStepRules, SchemaStepFits, entries_of_step, how_over, HasListedField, put_over, staying_nodes}
use Rattle.st_puts.proofs.Basics.{not-false, not-true, register-not-nowhere, row-not-nowhere}
use Rattle.st_puts.proofs.Groups.{IsMarkOf}
use Rattle.st_puts.proofs.MeaningFits.{rising_distinct}
use Rattle.st_puts.proofs.MentionsOfIntents.{has-staying}
use Rattle.st_puts.proofs.StepPlaces.{same-register, same-row}
use Rattle.st_lemmas.proofs.Bools.{and-both, and-true, or-left, or-right, true-false}
use Rattle.st_lemmas.proofs.Options.{one_some}
use Rattle.st_normal_step_laws.specs.StepOver.{IsOverStep, later, mentions_over, schemas_later}
use Rattle.st_normal_step_laws.proofs.RowsLater.{Listed, grew-listed, mark-met, met, met-has, met-once}
use Rattle.st_normal_step_laws.proofs.PlacesLater.{FoundThere, there_row, there_held, there_loose, PlacedLater, by_row, by_register, by_going, by_staying, reg_key, row_key, fill-place, found-as, found-held, found-nowhere, found-touch, grown, is-found, later-placed, make-place, one_mark, row-cases, stay-place, unfound-place}
use Rattle.st_normal_step_laws.proofs.SoundLater.{held-listed, none-some, over-cases, over-schema, reg-cases, row-not-register, schemas-are, there-unmade, unknown, unlisted-reg}
use Rattle.st_normal_step_laws.proofs.MentionsLater.{field-listed, leave-listed, listed-found, mentions-exact, quiet-cell, unlisted-row}

unless : (b : Bool) → (b ≡ true → ⊥) → b ≡ false
unless true h = absurd (h refl)
unless false h = refl

module _ (D : Document) (S : Step) (x : IsSoundInForm D) (w : ObeysStepRules S) (o : IsOverStep D S) where
  abbrev L : Entries
  L = entries_of_step S

  abbrev E : Document
  E = later D S

  abbrev m : NodeId → Bool
  m = mentions_over S

  -- who stays where it is found is listed as mentioned
  stay-listed : (n : NodeId) → IsFoundAs L n Stay → m n ≡ true
  stay-listed n i = field-listed D S x w o n (all-has (HasListedField L) (staying_nodes L.found) n w.mentioned (has-staying L.found (record { node = n; how = Stay }) i refl))
      (Rattle.st_normal_step_laws.proofs.PlacesLater.found-known D S x w o n (is-found D S x w o n Stay i))

  never-here : (n : NodeId) → IsFoundAs L n Here → ⊥
  never-here n i = all-has (λ (f : Found). f.how ≢ Here) L.found (record { node = n; how = Here }) w.set_nowhere i refl

  found-listed : (n : NodeId) (h : How) → IsFoundAs L n h → m n ≡ true
  found-listed n Stay i = stay-listed n i
  found-listed n Here i = absurd (never-here n i)
  found-listed n Leave i = leave-listed D S x w o n i

  same-listed : (r q : RowMarks) → Has S.rows r → Has S.rows q → r.node ≡ q.node → r ≡ q
  same-listed r q i j e = distinct-has row_key S.rows r q (rising_distinct node_cmp node_cmp_total row_key S.rows w.rising.rows) i j e

  -- a cell's row is one
  one-row : (k n : NodeId) (p : Owned) → Has (D.rows n) p → D.place p.node ≡ Spot.Row k p.cell → k ≡ n
  one-row k n p h e = one_some k n (sym ((x.one_row p.cell k).1 (p.node, x.own_cell p.node k p.cell e)) ∙ (x.one_row p.cell n).1 (p.node, h))

  -- ## Listed rows

  module _ (r : RowMarks) (i : Has S.rows r) where
    abbrev Met : Owned → CellMark → Type 0
    Met p y = Has (met D (grown D S x w o r i)) (p, y)

    counted-unfound : (p : Owned) → Met p Counted → Has (D.rows r.node) p → is_cell p.cell (D.place p.node) ≡ true → IsFound L p.node → ⊥
    counted-unfound p h k e f = let a = found-as D S x w o p.node f in go a.0 a.2
      where
        at : (z : NodeId) × (D.place p.node ≡ Spot.Row z p.cell)
        at = is_cell-true p.cell (D.place p.node) e

        touch-not : (c : CellId) (n : NodeId) (g : How) → Counted ≡ Touch c n g → ⊥
        touch-not c n g e = cc

        go : (g : How) → FoundThere D S p.node g → ⊥
        go g (there_row q c j t a) =
            let same = same-row (sym a ∙ at.1) in
            let s = same-listed q r j i (same.0 ∙ one-row at.0 r.node p k at.1) in
            let u = subst (λ (q : RowMarks). Has (spread q.marks) (Touch c p.node g)) s t in
            let v = mark-met D (grown D S x w o r i) (Touch c p.node g) u (λ c n b e. cc) in
            let z = met-has D (grown D S x w o r i) (v.0, Touch c p.node g) v.1 in
            touch-not c p.node g (met-once D (grown D S x w o r i) (x.once r.node) p v.0 Counted (Touch c p.node g) h v.1 (sym same.1 ∙ z.2.1))
        go g (there_held q j b c a) = row-not-register at.0 p.cell q.field (sym at.1 ∙ a)
        go g (there_loose l j b c a t) = row-not-nowhere at.0 p.cell (sym at.1 ∙ a)

    -- a cell that has another mark than that of one who comes in isn't entered
    entered-not : (p : Owned) (y : CellMark) → Has (D.rows r.node) p → Has (spread r.marks) y → Has (Rattle.st_marks.specs.Listings.cell_in y) p.cell → ((d : CellId) → y ≡ Fill d p.node → ⊥)
        → (E.place p.node ≡ D.place p.node → is_cell p.cell (D.place p.node) ≡ true → (IsFoundAs L p.node Leave → ⊥) → ⊥) → is_cell p.cell (E.place p.node) ≡ false
    entered-not p y k j c other still = unless (is_cell p.cell (E.place p.node)) (λ e. go e (later-placed D S x w o p.node))
      where
        go : is_cell p.cell (E.place p.node) ≡ true → PlacedLater D S p.node → ⊥
        go e (by_row q d a (inl t) f) = let s = (same-row (sym f ∙ (is_cell-true p.cell (E.place p.node) e).1)).1 in there-unmade D S x w o r.node p q p.node true k a (subst (λ d. Has (spread q.marks) (Make d p.node true)) s t)
        go e (by_row q d a (inr t) f) = let s = (same-row (sym f ∙ (is_cell-true p.cell (E.place p.node) e).1)).1 in other d (one_mark D S x w o r q y (Fill d p.node) p.cell i a j t c (inl s)).1
        go e (by_register q a t f) = row-not-register (is_cell-true p.cell (E.place p.node) e).0 p.cell q.field (sym (is_cell-true p.cell (E.place p.node) e).1 ∙ f)
        go e (by_going a t f) = row-not-nowhere (is_cell-true p.cell (E.place p.node) e).0 p.cell (sym (is_cell-true p.cell (E.place p.node) e).1 ∙ f)
        go e (by_staying a b f) = still f (ap (is_cell p.cell) (sym f) ∙ e) b

    cell-is : (p : Owned) (a b : Bool) → is_cell p.cell (D.place p.node) ≡ a → is_cell p.cell (E.place p.node) ≡ b
        → step_cell m p.cell p.node (is_cell p.cell (D.place p.node)) (is_cell p.cell (E.place p.node)) ≡ step_cell m p.cell p.node a b
    cell-is p a b e f = λ i. step_cell m p.cell p.node (e i) (f i)

    kept : (p : Owned) (y : CellMark) → Met p y → Has (D.rows r.node) p → Has (spread r.marks) y → IsMarkOf (slot D p) y → step_cell m p.cell p.node (is_cell p.cell (D.place p.node)) (is_cell p.cell (E.place p.node)) ≡ y
    kept p Counted h k j q =
        let unfound = counted-unfound p h k (sym q) in
        let still = unfound-place D S x w o p.node unfound (λ a. unknown (D.nodes p.node) (o.new_nodes p.node a) (x.cells_known r.node p k).1) in
        cell-is p true true (sym q) (ap (is_cell p.cell) still ∙ sym q)
        ∙ ap (λ b. cond b (Touch p.cell p.node Stay) Counted) (unless (m p.node) (λ e. elim (listed-found D S x w o p.node e) [
          | inl a ↦ row-not-nowhere (is_cell-true p.cell (D.place p.node) (sym q)).0 p.cell (sym (is_cell-true p.cell (D.place p.node) (sym q)).1 ∙ ap D.place a ∙ x.root_nowhere)
          | inr a ↦ unfound a
        ]))
    kept p (Gap c) h k j q =
        cell-is p false false (sym q.0) (entered-not p (Gap c) k j (inl q.1) (λ d e. cc) (λ f e b. true-false e (sym q.0)))
        ∙ ap (λ c. Gap c) (sym q.1)
    kept p (Touch c n Stay) h k j q =
        let f = subst (λ n. IsFoundAs L n Stay) q.2 (found-touch D S x w o r c n Stay i j) in
        cell-is p true true (sym q.0) (ap (is_cell p.cell) (stay-place D S x w o p.node f) ∙ sym q.0)
        ∙ ap (λ b. cond b (Touch p.cell p.node Stay) Counted) (stay-listed p.node f)
        ∙ (λ i. Touch (sym q.1 i) (sym q.2 i) Stay)
    kept p (Touch c n Here) h k j q = absurd (never-here n (found-touch D S x w o r c n Here i j))
    kept p (Touch c n Leave) h k j q =
        cell-is p true false (sym q.0) (entered-not p (Touch c n Leave) k j (inl q.1) (λ d e. cc) (λ f e b. b (subst (λ n. IsFoundAs L n Leave) q.2 (found-touch D S x w o r c n Leave i j))))
        ∙ (λ i. Touch (sym q.1 i) (sym q.2 i) Leave)
    kept p (Make c n b) h k j q = absurd q
    kept p (Fill c n) h k j q =
        cell-is p false true (sym q.0) (ap (is_cell p.cell) (ap E.place (sym q.2) ∙ fill-place D S x w o r c n i j) ∙ ap (λ c. is_cell p.cell (Spot.Row r.node c)) q.1 ∙ same_cell-itself p.cell)
        ∙ (λ i. Fill (sym q.1 i) (sym q.2 i))

    made : (c : CellId) (n : NodeId) (b : Bool) → Has (spread r.marks) (Make c n b) → is_cell c (E.place n) ≡ b
    made c n true j = ap (is_cell c) (make-place D S x w o r c n i j) ∙ same_cell-itself c
    made c n false j = unless (is_cell c (E.place n)) (λ e. go e (later-placed D S x w o n))
      where
        go : is_cell c (E.place n) ≡ true → PlacedLater D S n → ⊥
        go e (by_row q d a (inl t) f) = let s = (same-row (sym f ∙ (is_cell-true c (E.place n) e).1)).1 in
            (let bad : Make c n false ≡ Make d n true = (one_mark D S x w o r q (Make c n false) (Make d n true) c i a j t (inl refl) (inl s)).1 in cc)
        go e (by_row q d a (inr t) f) = let s = (same-row (sym f ∙ (is_cell-true c (E.place n) e).1)).1 in
            (let bad : Make c n false ≡ Fill d n = (one_mark D S x w o r q (Make c n false) (Fill d n) c i a j t (inl refl) (inl s)).1 in cc)
        go e (by_register q a t f) = row-not-register (is_cell-true c (E.place n) e).0 c q.field (sym (is_cell-true c (E.place n) e).1 ∙ f)
        go e (by_going a t f) = row-not-nowhere (is_cell-true c (E.place n) e).0 c (sym (is_cell-true c (E.place n) e).1 ∙ f)
        go e (by_staying a b f) = let p = is_cell-true c (E.place n) e in
            there-unmade D S x w o p.0 (owned_cell c n) r n false (x.own_cell n p.0 c (sym f ∙ p.1)) i j

    row-listed : Listed D m E (D.rows r.node) (spread r.marks) (E.rows r.node)
    row-listed = grew-listed D m E (grown D S x w o r i) (λ p y h. let z = met-has D (grown D S x w o r i) (p, y) h in kept p y h z.0 z.1 z.2) made

  -- ## All rows

  abbrev RowAt : NodeId → Type 0
  RowAt n = (g : GainsItems SameCell (content D n) (content E n)) × (item_of node_cmp row_key S.rows n ≡ row_marks n (step_row m g))

  row-of : (r : RowMarks) → Has S.rows r → RowAt r.node
  row-of r i =
      let l = row-listed r i in (
        l.0,
        has-item_of node_cmp node_cmp_total node_cmp_exact row_key S.rows r w.rising.rows i
            ∙ (λ z. Some (record { node = r.node; marks = all-has (λ (r : RowMarks). r.marks ≡ merge (spread r.marks)) S.rows r w.common.merged i z }))
            ∙ ap (λ b. cond b (Some (record { node = r.node; marks = merge (spread r.marks) })) None) (sym (all-has (λ (r : RowMarks). IsTrue (list_any tells (spread r.marks))) S.rows r w.common.tells i))
            ∙ ap (row_marks r.node) (sym l.1),
      )

  unmentioned : (n : NodeId) → item_of node_cmp row_key S.rows n ≡ None → (p : Owned) → Has (D.rows n) p → is_cell p.cell (D.place p.node) ≡ true → m p.node ≡ false
  unmentioned n none p h e = unless (m p.node) (λ f. elim (listed-found D S x w o p.node f) [
    | inl a ↦ row-not-nowhere at.0 p.cell (sym at.1 ∙ ap D.place a ∙ x.root_nowhere)
    | inr a ↦ (let f = found-as D S x w o p.node a in go f.0 f.2)
  ])
    where
      at : (z : NodeId) × (D.place p.node ≡ Spot.Row z p.cell)
      at = is_cell-true p.cell (D.place p.node) e

      go : (g : How) → FoundThere D S p.node g → ⊥
      go g (there_row q c j t a) = unlisted-row D S x w o n none q j ((same-row (sym a ∙ at.1)).0 ∙ one-row at.0 n p h at.1)
      go g (there_held q j b c a) = row-not-register at.0 p.cell q.field (sym at.1 ∙ a)
      go g (there_loose l j b c a t) = row-not-nowhere at.0 p.cell (sym at.1 ∙ a)

  quiet : (n : NodeId) → item_of node_cmp row_key S.rows n ≡ None → (os : List Owned) → ((p : Owned) → Has os p → Has (D.rows n) p)
      → (g : GainsItems SameCell (map (slot D) os) (map (slot E) os)) × (list_any tells (step_row m g) ≡ false)
  quiet n none [] sub = (no_more, refl)
  quiet n none (p ∷ os) sub =
      let r = quiet n none os (λ q h. sub q (inr h)) in
      (item_kept (refl, refl) r.0, silent (is_cell p.cell (D.place p.node)) refl r.0 r.1)
    where
      silent : (b : Bool) → is_cell p.cell (D.place p.node) ≡ b → (g : GainsItems SameCell (map (slot D) os) (map (slot E) os)) → list_any tells (step_row m g) ≡ false
          → (tells (step_cell m p.cell p.node (is_cell p.cell (D.place p.node)) (is_cell p.cell (E.place p.node))) || list_any tells (step_row m g)) ≡ false
      silent b e g h = ap (λ c. c || list_any tells (step_row m g)) (ap tells (λ i. step_cell m p.cell p.node (e i) ((quiet-cell D S x w o n none p (sub p (inl refl)) ∙ e) i)) ∙ none-told b e) ∙ h
        where
          none-told : (b : Bool) → is_cell p.cell (D.place p.node) ≡ b → tells (step_cell m p.cell p.node b b) ≡ false
          none-told true e = ap (λ c. tells (cond c (Touch p.cell p.node Stay) Counted)) (unmentioned n none p (sub p (inl refl)) e)
          none-told false e = refl

  row-at : (n : NodeId) → RowAt n
  row-at n = elim (row-cases D S x w o n) [
    | inl (r, i, e) ↦ subst RowAt e (row-of r i)
    | inr q ↦ (let g = subst (λ l. (g : GainsItems SameCell (content D n) (map (slot E) l)) × (list_any tells (step_row m g) ≡ false)) (sym q.1) (quiet n q.0 (D.rows n) (λ p h. h)) in
        (g.0, q.0 ∙ ap (λ b. cond b (Some (record { node = n; marks = merge (step_row m g.0) })) None) (sym g.1)))
  ]

  -- ## Registers

  reg-listed : (r : RegStep) → Has S.regs r → step_register r.field m r.before r.after ≡ Some r
  reg-listed r i = ap (λ b. cond b (Some (record { field = r.field; before = r.before; after = r.after })) None) (told (over-cases r))
    where
      held : r.before ≡ r.after → how_over r ≡ Stay → (q : Option NodeId) → r.before ≡ q → IsSome r.before ⊎ IsSome r.after → holds_mentioned m q ≡ true
      held same how None e (inl h) = absurd (unknown r.before e h)
      held same how None e (inr h) = absurd (unknown r.after (sym same ∙ e) h)
      held same how (Some k) e h = stay-listed k (subst (IsFoundAs L k) how (found-held D S x w o r k i e))

      told : ((r.before ≡ r.after) × (how_over r ≡ Stay) × (put_over r ≡ [])) ⊎ ((how_over r ≡ Leave) × (put_over r ≡ Rattle.st_marks.specs.Listings.one_or_none r.after) × (r.before ≢ r.after)) → (not (same_option same_node r.before r.after) || holds_mentioned m r.before) ≡ true
      told (inl (same, how, none)) = or-right (not (same_option same_node r.before r.after)) (holds_mentioned m r.before) (held same how r.before refl (all-has (λ (r : RegStep). IsSome r.before ⊎ IsSome r.after) S.regs r w.registers_tell i))
      told (inr (how, all, apart)) = or-left (not (same_option same_node r.before r.after)) (holds_mentioned m r.before) (not-false (same_option same_node r.before r.after) (λ e. apart (same-held r.before r.after e)))

  unheld : (f : FieldId) → item_of field_cmp reg_key S.regs f ≡ None → (q : Option NodeId) → D.held f ≡ q → holds_mentioned m q ≡ false
  unheld f none None e = refl
  unheld f none (Some k) e = unless (m k) (λ a. elim (listed-found D S x w o k a) [
    | inl b ↦ register-not-nowhere f (sym at ∙ ap D.place b ∙ x.root_nowhere)
    | inr b ↦ (let g = found-as D S x w o k b in go g.0 g.2)
  ])
    where
      at : D.place k ≡ Spot.Register f
      at = (x.one_held k f).0 e

      go : (g : How) → FoundThere D S k g → ⊥
      go g (there_row q c j t a) = row-not-register q.node c f (sym a ∙ at)
      go g (there_held q j b c a) = unlisted-reg D S x w o f none q j (same-register (sym a ∙ at))
      go g (there_loose l j b c a t) = register-not-nowhere f (sym at ∙ a)

  same-itself : (q : Option NodeId) → same_option same_node q q ≡ true
  same-itself None = refl
  same-itself (Some n) = same_node-itself n

  reg-at : (f : FieldId) → item_of field_cmp reg_key S.regs f ≡ step_register f m (D.held f) (E.held f)
  reg-at f = elim (reg-cases D S x w o f) [
    | inl (r, i, g, h) ↦ subst (λ f. item_of field_cmp reg_key S.regs f ≡ step_register f m (D.held f) (E.held f)) g
        (has-item_of field_cmp field_cmp_total field_cmp_exact reg_key S.regs r w.rising.regs i ∙ sym (reg-listed r i) ∙ sym (λ z. step_register r.field m (o.held r i z) (held-listed D S x w o r i z)))
    | inr (none, h) ↦ none ∙ ap (λ b. cond b (Some (record { field = f; before = D.held f; after = E.held f })) None) (sym (
        (λ z. not (same_option same_node (D.held f) (h z)) || holds_mentioned m (D.held f)) ∙ (λ z. not (same-itself (D.held f) z) || unheld f none (D.held f) refl z)))
  ]

  -- ## Nodes that are nowhere

  nowhere-is : (s : Spot) → is_nowhere s ≡ true → s ≡ Spot.Nowhere
  nowhere-is Spot.Nowhere e = refl
  nowhere-is (Spot.Row a c) e = cc
  nowhere-is (Spot.Register f) e = cc

  abbrev loose_key : Loose → NodeId
  loose_key l = l.node

  loose-how : (l : Loose) → Has S.loose l → (h : How) → l.how ≡ h → cond (is_nowhere (E.place l.node)) Stay Leave ≡ h
  loose-how l i Stay e = ap (λ s. cond (is_nowhere s) Stay Leave) (stay-place D S x w o l.node (subst (IsFoundAs L l.node) e (found-nowhere D S x w o l i)) ∙ (o.loose l i).0)
  loose-how l i Here e = absurd (never-here l.node (subst (IsFoundAs L l.node) e (found-nowhere D S x w o l i)))
  loose-how l i Leave e = go (later-placed D S x w o l.node)
    where
      put : Has L.put l.node
      put = all-has (λ (l : Loose). l.how ≡ Leave → Has L.put l.node) S.loose l w.loose_put i e

      go : PlacedLater D S l.node → cond (is_nowhere (E.place l.node)) Stay Leave ≡ Leave
      go (by_row r c j k a) = ap (λ s. cond (is_nowhere s) Stay Leave) a
      go (by_register r j k a) = ap (λ s. cond (is_nowhere s) Stay Leave) a
      go (by_going a j b) = absurd (a put)
      go (by_staying a b c) = absurd (a put)

  loose-is : (l : Loose) → Has S.loose l → is_loose m D l.node ≡ true
  loose-is l i = and-both (m l.node && is_nowhere (D.place l.node)) (not (same_node l.node root))
      (and-both (m l.node) (is_nowhere (D.place l.node)) (found-listed l.node l.how (found-nowhere D S x w o l i)) (ap is_nowhere (o.loose l i).0))
      (not-false (same_node l.node root) (λ f. w.common.root_stays.0 (subst (IsFound L) (same_node-true l.node root f) (is-found D S x w o l.node l.how (found-nowhere D S x w o l i)))))

  loose-at : (n : NodeId) → item_of node_cmp loose_key S.loose n ≡ step_loose m D E n
  loose-at n = go (item_of node_cmp loose_key S.loose n) refl
    where
      listed : is_loose m D n ≡ true → (l : Loose) × Has S.loose l × (l.node ≡ n)
      listed e = let a = and-true (m n && is_nowhere (D.place n)) (not (same_node n root)) e in let b = and-true (m n) (is_nowhere (D.place n)) a.0 in
          elim (listed-found D S x w o n b.0) [
            | inl q ↦ absurd (not-true (same_node n root) a.1 (ap (λ k. same_node k root) q ∙ same_node-itself root))
            | inr q ↦ (let f = found-as D S x w o n q in at f.0 f.2 (nowhere-is (D.place n) b.1))
          ]
        where
          at : (h : How) → FoundThere D S n h → D.place n ≡ Spot.Nowhere → (l : Loose) × Has S.loose l × (l.node ≡ n)
          at h (there_row r c i j e) p = absurd (row-not-nowhere r.node c (sym e ∙ p))
          at h (there_held r i e f g) p = absurd (register-not-nowhere r.field (sym g ∙ p))
          at h (there_loose l i e f g k) p = (l, i, e)

      go : (q : Option Loose) → item_of node_cmp loose_key S.loose n ≡ q → item_of node_cmp loose_key S.loose n ≡ step_loose m D E n
      go None e = e ∙ ap (λ b. cond b (Some (record { node = n; how = cond (is_nowhere (E.place n)) Stay Leave })) None) (sym (unless (is_loose m D n) (λ f.
          let l = listed f in none-some (sym e ∙ ap (item_of node_cmp loose_key S.loose) (sym l.2) ∙ has-item_of node_cmp node_cmp_total node_cmp_exact loose_key S.loose l.0 w.rising.loose l.1))))
      go (Some l) e = let i = item_of-has node_cmp node_cmp_total node_cmp_exact loose_key S.loose n l e in
          e ∙ subst (λ n. Some l ≡ step_loose m D E n) i.1
          (sym (ap (λ b. cond b (Some (record { node = l.node; how = cond (is_nowhere (E.place l.node)) Stay Leave })) None) (loose-is l i.0) ∙ (λ z. Some (record { node = l.node; how = loose-how l i.0 l.how refl z }))))

  -- ## New nodes and schemas

  new-at : (n : NodeId) → item_of node_cmp (λ (k : NewNode). k.node) S.new n ≡ gained_node n (D.nodes n) (E.nodes n)
  new-at n = go (item_of node_cmp (λ (k : NewNode). k.node) S.new n) refl
    where
      same : (q : Option NodeType) → gained_node n q q ≡ None
      same None = refl
      same (Some t) = refl

      nodes-are : (q : Option NewNode) → item_of node_cmp (λ (k : NewNode). k.node) S.new n ≡ q → E.nodes n ≡ option_or (option_map (λ (k : NewNode). let t : NodeType = record { ty = k.ty; leaf = k.leaf } in t) q) (D.nodes n)
      nodes-are q e = ap (λ (q : Option NewNode). option_or (option_map (λ (k : NewNode). let t : NodeType = record { ty = k.ty; leaf = k.leaf } in t) q) (D.nodes n)) e

      go : (q : Option NewNode) → item_of node_cmp (λ (k : NewNode). k.node) S.new n ≡ q → item_of node_cmp (λ (k : NewNode). k.node) S.new n ≡ gained_node n (D.nodes n) (E.nodes n)
      go None e = e ∙ sym (ap (gained_node n (D.nodes n)) (nodes-are None e) ∙ same (D.nodes n))
      go (Some k) e =
          let i = item_of-has node_cmp node_cmp_total node_cmp_exact (λ (k : NewNode). k.node) S.new n k e in
          let t : NodeType = record { ty = k.ty; leaf = k.leaf } in
          let none : D.nodes n ≡ None = o.new_nodes n (subst (Has L.new) i.1 (map-has (λ (k : NewNode). k.node) S.new k i.0)) in
          e ∙ (λ z. Some (record { node = i.1 z; ty = k.ty; leaf = k.leaf })) ∙ sym (λ z. gained_node n (none z) (nodes-are (Some k) e z))

  schema_is : IsSchemaStep D.schemas E.schemas S.schema
  schema_is = go S.schema refl
    where
      fits : (s : SchemaStep) → S.schema ≡ Some s → SchemaStepFits s
      fits s e = subst (λ q. IfSome q SchemaStepFits) e w.schema

      go : (q : Option SchemaStep) → S.schema ≡ q → IsSchemaStep D.schemas E.schemas S.schema
      go None e = subst (IsSchemaStep D.schemas E.schemas) (sym e) (sym (ap (λ q. schemas_later q D.schemas) e))
      go (Some s) e = let h = over-schema D S x w o s e in
          subst (IsSchemaStep D.schemas E.schemas) (sym e) (h.0, h.1, schemas-are D S x w o s e h.0 h.1, h.2, (fits s e).differ)

  pub step_over : IsStep D E S
  step_over = record {
    mentioned = m;
    which = mentions-exact D S x w o;
    schema = schema_is;
    new = record { rising = w.rising.new; at_each = new-at };
    grows = λ n. (row-at n).0;
    rows = record { rising = w.rising.rows; at_each = λ n. (row-at n).1 };
    regs = record { rising = w.rising.regs; at_each = reg-at };
    loose = record { rising = w.rising.loose; at_each = loose-at };
  }
