-- What changes over a step, and so what the step mentions, is exactly what it lists as mentioned.
use Rattle.std.proofs.Common.{◌≡◌, ◌≢◌, ◌↔◌, ◌<◌, ◌+◌, ◌⊎◌, ℕ, zero, suc, Bool, true, List, [], ◌∷◌, map, Option, Some, None, IsSome, IsTrue, refl, sym, ap, ◌∙◌, subst, inl, inr, arith, option_and_then}
use Rattle.std.specs.List.{list_any}
use Rattle.st_ids.specs.Listing.{Has, item_of}
use Rattle.st_ids.specs.Order.{node_cmp}
use Rattle.st_ids.specs.Root.{root}
use Rattle.st_ids.proofs.Listings.{has-item_of}
use Rattle.st_ids.proofs.Orders.{node_cmp_exact, node_cmp_total, same_cell-itself}
use Rattle.st_ids.specs.declared.names.CellId.{CellId}
use Rattle.st_ids.specs.declared.names.FieldId.{FieldId}
use Rattle.st_ids.specs.declared.names.NodeId.{NodeId}
use Rattle.st_marks.specs.declared.intents.Owned.{Owned}
use Rattle.st_marks.specs.declared.marks.How.{How}
use Rattle.st_marks.specs.declared.marks.How.TheVariants.{Stay, Here, Leave}
use Rattle.st_marks.specs.declared.marks.Loose.{Loose}
use Rattle.st_marks.specs.declared.marks.RegStep.{RegStep}
use Rattle.st_marks.specs.declared.marks.RowMarks.{RowMarks}
use Rattle.st_marks.specs.declared.places.Slot.{Slot}
use Rattle.st_marks.specs.declared.places.Spot.{Spot}
use Rattle.st_marks.specs.declared.steps.Step.{Step}
use Rattle.st_marks.specs.Document.{Document, IsSoundInForm, above, climb, content, is_cell, node_of, owned_cell, slot}
use Rattle.st_marks.specs.Embedding.{is_among, tells}
use Rattle.st_marks.specs.Listings.{nodes_new}
use Rattle.st_marks.specs.Row.{CellMark, Counted, Gap, Touch, Make, Fill, spread}
use Rattle.st_marks.specs.Step.{IsChanged, IsMentionedByStep}
use Rattle.st_marks.proofs.Climb.{above_known, climb_more, is_cell-true, shown, stands}
use Rattle.st_marks.proofs.Members.{all-has, any-has, has-map, map-has}
use Rattle.st_normal.specs.declared.entries.Found.{Found}
use Rattle.st_normal.specs.Rules.{Entries, HasListedField, IsFound, IsFoundAs, ObeysStepRules, entries_of_step, fields_of, how_over, put_over, staying_nodes}
use Rattle.st_normal.proofs.NoRings.{among_has}
use Rattle.st_puts.specs.Meant.{leaving_nodes}
use Rattle.st_puts.proofs.Basics.{not-false, not-true, one-is, register-not-nowhere, row-not-nowhere}
use Rattle.st_puts.proofs.FoundPlaces.{filled}
use Rattle.st_puts.proofs.MentionsOfIntents.{has-leaving, has-staying, leaving-has}
use Rattle.st_puts.proofs.StepPlaces.{same-row}
use Rattle.st_lemmas.proofs.Bools.{and-both, and-true, or-cases, or-left, or-right, both-ways-same, true-false}
use Rattle.st_lemmas.proofs.Options.{one_some}
use Rattle.st_normal_step_laws.specs.StepOver.{IsOverStep, later, mentions_over}
use Rattle.st_normal_step_laws.proofs.PlacesLater.{FoundThere, there_row, there_held, there_loose, PlacedLater, by_row, by_register, by_going, by_staying, reg_key, row_key, fill-place, found-as, found-held, found-known, found-nowhere, found-touch, is-found, later-placed, new-unfound, row-cases, stay-place, unfound-place}
use Rattle.st_normal_step_laws.proofs.SoundLater.{cell-made-there, field-cases, filled-there, held-listed, made-absent, none-some, over-cases, reg-cases, reg-field, row-field, row-not-register, there-unmade, unknown}
use Rattle.st_normal_step_laws.proofs.RingsLater.{later_sound}

-- a climb that ends is longer than one that doesn't
climb_lt : (up : NodeId → Option NodeId) (k i : ℕ) (m n : NodeId) → climb up k m ≡ None → climb up i m ≡ Some n → i < k
climb_lt up zero i m n e f = let bad : Some m ≡ None = e in cc
climb_lt up (suc k) zero m n e f = omega arith
climb_lt up (suc k) (suc i) m n e f = go (up m) refl (λ p a b. climb_lt up k i p n a b)
  where
    go : (o : Option NodeId) → up m ≡ o → ((p : NodeId) → climb up k p ≡ None → climb up i p ≡ Some n → i < k) → suc i < suc k
    go None q rest = let bad : None ≡ Some n = ap (option_and_then (climb up i)) (sym q) ∙ f in cc
    go (Some p) q rest = let r = rest p (ap (option_and_then (climb up k)) (sym q) ∙ e) (ap (option_and_then (climb up i)) (sym q) ∙ f) in omega (arith, r)

module _ (D : Document) (S : Step) (x : IsSoundInForm D) (w : ObeysStepRules S) (o : IsOverStep D S) where
  abbrev L : Entries
  L = entries_of_step S

  abbrev E : Document
  E = later D S

  abbrev M : NodeId → Type 0
  M n = IsMentionedByStep D E n

  -- ## What differs

  -- a cell that is filled is empty before
  filled-empty : (r : RowMarks) (c : CellId) (n k : NodeId) → Has S.rows r → Has (spread r.marks) (Fill c n) → D.place n ≡ Spot.Row k c → ⊥
  filled-empty r c n k i j e =
      let q = has-map (slot D) (D.rows r.node) _ (filled (content D r.node) (spread r.marks) c n (o.rows r i) j) in
      true-false (same_cell-itself c) (sym (ap (is_cell c) e) ∙ (λ i. is_cell (ap (λ (s : Slot). s.cell) (sym q.2) i) (D.place (ap (λ (s : Slot). s.node) (sym q.2) i))) ∙ ap (λ (s : Slot). s.full) q.2)

  -- who leaves stands elsewhere
  leave-differs : (n : NodeId) → IsFoundAs L n Leave → D.place n ≢ E.place n
  leave-differs n i same = go (later-placed D S x w o n)
    where
      there : (h : How) → FoundThere D S n h → h ≡ Leave → (Has L.put n → ⊥) → D.place n ≡ Spot.Nowhere → ⊥
      there h (there_row r c j k e) q unput p = row-not-nowhere r.node c (sym e ∙ p)
      there h (there_held r j e g k) q unput p = register-not-nowhere r.field (sym k ∙ p)
      there h (there_loose l j e g k t) q unput p = unput (subst (Has L.put) e (all-has (λ (l : Loose). l.how ≡ Leave → Has L.put l.node) S.loose l w.loose_put j (g ∙ q)))

      register : (r : RegStep) → Has S.regs r → Has (put_over r) n → D.place n ≡ Spot.Register r.field → ⊥
      register r j k e = elim (over-cases r) [
        | inl (a, how, none) ↦ subst (λ l. Has l n) none k
        | inr (how, all, apart) ↦ apart (sym (o.held r j) ∙ (x.one_held n r.field).1 e ∙ sym (one-is r.after n (subst (λ l. Has l n) all k)))
      ]

      go : PlacedLater D S n → ⊥
      go (by_row r c j (inl k) e) = there-unmade D S x w o r.node (owned_cell c n) r n true (x.own_cell n r.node c (same ∙ e)) j k
      go (by_row r c j (inr k) e) = filled-empty r c n r.node j k (same ∙ e)
      go (by_register r j k e) = register r j k (same ∙ e)
      go (by_going unput j e) = let f = found-as D S x w o n (is-found D S x w o n Leave i) in
          there f.0 f.2 (Rattle.st_normal_step_laws.proofs.PlacesLater.one-how D S x w o n f.0 Leave f.1 i) unput (same ∙ e)
      go (by_staying a b e) = b i

  m-leave : (n : NodeId) → IsFoundAs L n Leave → M n
  m-leave n i = (n, (found-known D S x w o n (is-found D S x w o n Leave i), inl (leave-differs n i)), 0, refl)

  m-above : (n p : NodeId) → M n → above D n ≡ Some p → M p
  m-above n p (s, c, k, e) f = (s, c, suc k, climb_more (above D) k s n p e f)

  make-differs : (r : RowMarks) (c : CellId) (n : NodeId) (b : Bool) → Has S.rows r → Has (spread r.marks) (Make c n b) → content D r.node ≢ content E r.node
  make-differs r c n b i j e =
      let h = map-has (slot E) (E.rows r.node) (owned_cell c n) (cell-made-there D S x w o r c n b i j) in
      let q = has-map (slot D) (D.rows r.node) (slot E (owned_cell c n)) (subst (λ l. Has l (slot E (owned_cell c n))) (sym e) h) in
      none-some (sym (made-absent D S x w o r c n b i j) ∙ (x.one_row c r.node).1 (q.0.node, subst (λ c. Has (D.rows r.node) (owned_cell c q.0.node)) (ap (λ (s : Slot). s.cell) q.2) q.1))

  fill-differs : (r : RowMarks) (c : CellId) (n : NodeId) → Has S.rows r → Has (spread r.marks) (Fill c n) → content D r.node ≢ content E r.node
  fill-differs r c n i j e =
      let h = shown E (later_sound D S x w o) n r.node c (fill-place D S x w o r c n i j) in
      filled-empty r c n r.node i j (stands D x n r.node c (subst (λ l. Has l (record { cell = c; node = n; full = true })) (sym e) h))

  m-content : (n : NodeId) → IsSome (D.nodes n) → content D n ≢ content E n → M n
  m-content n k h = (n, (k, inr (inl h)), 0, refl)

  -- ## From a listed field down

  abbrev Below : NodeId → Type 0
  Below n = (m : NodeId) → IsFoundAs L m Stay → above D m ≡ Some n → M n

  by-mark : (r : RowMarks) (y : CellMark) → Has S.rows r → Has (spread r.marks) y → tells y ≡ true → IsSome (D.nodes r.node) → Below r.node → M r.node
  by-mark r Counted i j e k below = cc
  by-mark r (Gap c) i j e k below = cc
  by-mark r (Touch c n Stay) i j e k below = below n (found-touch D S x w o r c n Stay i j) (ap node_of (touch-there r c n Stay i j))
    where
      touch-there : (r : RowMarks) (c : CellId) (n : NodeId) (h : How) → Has S.rows r → Has (spread r.marks) (Touch c n h) → D.place n ≡ Spot.Row r.node c
      touch-there r c n h i j = stands D x n r.node c (Rattle.st_puts.proofs.FoundPlaces.touched (content D r.node) (spread r.marks) c n h (o.rows r i) j)
  by-mark r (Touch c n Here) i j e k below = absurd (all-has (λ (f : Found). f.how ≢ Here) L.found (record { node = n; how = Here }) w.set_nowhere (found-touch D S x w o r c n Here i j) refl)
  by-mark r (Touch c n Leave) i j e k below = m-above n r.node (m-leave n (found-touch D S x w o r c n Leave i j)) (ap node_of (stands D x n r.node c (Rattle.st_puts.proofs.FoundPlaces.touched (content D r.node) (spread r.marks) c n Leave (o.rows r i) j)))
  by-mark r (Make c n b) i j e k below = m-content r.node k (make-differs r c n b i j)
  by-mark r (Fill c n) i j e k below = m-content r.node k (fill-differs r c n i j)

  by-register : (r : RegStep) → Has S.regs r → IsSome (D.nodes r.field.node) → Below r.field.node → M r.field.node
  by-register r i k below = elim (over-cases r) [
    | inl (same, how, none) ↦ stays same how r.before refl (all-has (λ (r : RegStep). IsSome r.before ⊎ IsSome r.after) S.regs r w.registers_tell i)
    | inr (how, all, apart) ↦ (r.field.node, (k, inr (inr (r.field, refl, λ e. apart (sym (o.held r i) ∙ e ∙ held-listed D S x w o r i)))), 0, refl)
  ]
    where
      stays : r.before ≡ r.after → how_over r ≡ Stay → (q : Option NodeId) → r.before ≡ q → IsSome r.before ⊎ IsSome r.after → M r.field.node
      stays same how None e (inl h) = absurd (unknown r.before e h)
      stays same how None e (inr h) = absurd (unknown r.after (sym same ∙ e) h)
      stays same how (Some m) e h = below m (subst (IsFoundAs L m) how (found-held D S x w o r m i e)) (ap node_of ((x.one_held m r.field).0 (o.held r i ∙ e)))

  by-field : (n : NodeId) → HasListedField L n → IsSome (D.nodes n) → Below n → M n
  by-field n h k below = elim (Rattle.st_marks.proofs.Members.has-append (map row_key S.rows) (map (λ (f : FieldId). f.node) L.registers) n h) [
    | inl i ↦ (let r = has-map row_key S.rows n i in
        let y = any-has tells (spread r.0.marks) (all-has (λ (r : RowMarks). IsTrue (list_any tells (spread r.marks))) S.rows r.0 w.common.tells r.1) in
        subst M r.2 (by-mark r.0 y.0 r.1 y.1 y.2 (subst (λ n. IsSome (D.nodes n)) (sym r.2) k) (subst Below (sym r.2) below)))
    | inr i ↦ (let f = has-map (λ (f : FieldId). f.node) L.registers n i in
        let r = has-map reg_key S.regs f.0 f.1 in
        let e : r.0.field.node ≡ n = ap (λ (f : FieldId). f.node) r.2 ∙ f.2 in
        subst M e (by-register r.0 r.1 (subst (λ n. IsSome (D.nodes n)) (sym e) k) (subst Below (sym e) below)))
  ]

  field-mentions : (k : ℕ) (n : NodeId) → ((m : NodeId) (i : ℕ) → IsFound L m → climb (above D) i m ≡ Some n → i < k) → HasListedField L n → IsSome (D.nodes n) → M n
  field-mentions zero n short h known = by-field n h known (λ m f e. absurd (let l = short m 1 (is-found D S x w o m Stay f) (ap (option_and_then (climb (above D) 0)) e) in omega (arith, l)))
  field-mentions (suc k) n short h known = by-field n h known (λ m f e. m-above m n (field-mentions k m
      (λ q i g c. let l = short q (suc i) g (climb_more (above D) i q m n c e) in omega (arith, l))
      (all-has (HasListedField L) (staying_nodes L.found) m w.mentioned (has-staying L.found (record { node = m; how = Stay }) f refl))
      (found-known D S x w o m (is-found D S x w o m Stay f))) e)

  bound : (fs : List Found) → (k : ℕ) × ((f : Found) (i : ℕ) (n : NodeId) → Has fs f → climb (above D) i f.node ≡ Some n → i < k)
  bound [] = (0, λ f i n h e. absurd h)
  bound (g ∷ fs) =
      let r = bound fs in let e = x.no_ring g.node in (
        r.0 + e.0,
        λ f i n h c. elim h [
          | inl q ↦ (let l = climb_lt (above D) e.0 i g.node n e.1 (ap (λ (f : Found). climb (above D) i f.node) q ∙ c) in omega (arith, l))
          | inr j ↦ (let l = r.1 f i n j c in omega (arith, l))
        ],
      )

  m-field : (n : NodeId) → HasListedField L n → IsSome (D.nodes n) → M n
  m-field n h known = let b = bound L.found in field-mentions b.0 n (λ m i f c. let g = has-map (λ (f : Found). f.node) L.found m f in b.1 g.0 i n g.1 (ap (climb (above D) i) g.2 ∙ c)) h known

  field-old : (n : NodeId) → HasListedField L n → (Has L.new n → ⊥) → IsSome (D.nodes n)
  field-old n h old = elim (field-cases D S x w o n h) [
    | inl e ↦ subst (λ m. IsSome (D.nodes m)) (sym e) x.root_known
    | inr a ↦ elim a [ inl i ↦ absurd (old i) | inr f ↦ found-known D S x w o n f ]
  ]

  leave-is : (h : How) → Rattle.st_marks.specs.How.is_leave h ≡ true → h ≡ Leave
  leave-is Stay e = cc
  leave-is Here e = cc
  leave-is Leave e = refl

  leaving-as : (n : NodeId) → Has (leaving_nodes L.found) n → IsFoundAs L n Leave
  leaving-as n h = let f = leaving-has L.found n h in subst (Has L.found) (λ i. record { node = f.2 i; how = leave-is f.0.how f.3 i }) f.1

  listed-mentioned : (n : NodeId) → mentions_over S n ≡ true → M n
  listed-mentioned n e = elim (or-cases (is_among (leaving_nodes L.found) n) _ e) [
    | inl a ↦ m-leave n (leaving-as n ((among_has (leaving_nodes L.found) n).0 a))
    | inr b ↦ (let d = and-true (is_among (fields_of L) n) _ b in
        let h = (among_has (fields_of L) n).0 d.0 in
        m-field n h (field-old n h (λ i. not-true (is_among (nodes_new S.new) n) d.1 ((among_has (nodes_new S.new) n).1 i))))
  ]

  -- ## And nothing else

  pub field-listed : (n : NodeId) → HasListedField L n → IsSome (D.nodes n) → mentions_over S n ≡ true
  field-listed n h k = or-right (is_among (leaving_nodes L.found) n) _ (and-both (is_among (fields_of L) n) _ ((among_has (fields_of L) n).1 h)
      (not-false (is_among (nodes_new S.new) n) (λ e. unknown (D.nodes n) (o.new_nodes n ((among_has (nodes_new S.new) n).0 e)) k)))

  pub leave-listed : (n : NodeId) → IsFoundAs L n Leave → mentions_over S n ≡ true
  leave-listed n i = or-left (is_among (leaving_nodes L.found) n) _ ((among_has (leaving_nodes L.found) n).1 (has-leaving L.found (record { node = n; how = Leave }) i refl))

  -- who is listed as mentioned is the root, or found
  pub listed-found : (n : NodeId) → mentions_over S n ≡ true → (n ≡ root) ⊎ IsFound L n
  listed-found n e = elim (or-cases (is_among (leaving_nodes L.found) n) _ e) [
    | inl a ↦ inr (is-found D S x w o n Leave (leaving-as n ((among_has (leaving_nodes L.found) n).0 a)))
    | inr b ↦ (let d = and-true (is_among (fields_of L) n) _ b in elim (field-cases D S x w o n ((among_has (fields_of L) n).0 d.0)) [
      | inl q ↦ inl q
      | inr a ↦ elim a [ inl i ↦ absurd (not-true (is_among (nodes_new S.new) n) d.1 ((among_has (nodes_new S.new) n).1 i)) | inr f ↦ inr f ]
    ])
  ]

  found-up : (n p : NodeId) → IsFound L n → above D n ≡ Some p → HasListedField L p
  found-up n p i e = let f = found-as D S x w o n i in go f.0 f.2
    where
      go : (h : How) → FoundThere D S n h → HasListedField L p
      go h (there_row r c j k a) = subst (HasListedField L) (one_some r.node p (sym (ap node_of a) ∙ e)) (row-field D S x w o r j)
      go h (there_held r j b g a) = subst (HasListedField L) (one_some r.field.node p (sym (ap node_of a) ∙ e)) (reg-field D S x w o r j)
      go h (there_loose l j b g a t) = absurd (none-some (sym (ap node_of a) ∙ e))

  listed-up : (n p : NodeId) → mentions_over S n ≡ true → above D n ≡ Some p → mentions_over S p ≡ true
  listed-up n p e f = elim (listed-found n e) [
    | inl q ↦ absurd (none-some (sym (ap node_of (ap D.place q ∙ x.root_nowhere)) ∙ f))
    | inr i ↦ field-listed p (found-up n p i f) (above_known D x n p f)
  ]

  listed-climb : (k : ℕ) (s n : NodeId) → mentions_over S s ≡ true → climb (above D) k s ≡ Some n → mentions_over S n ≡ true
  listed-climb zero s n e f = subst (λ m. mentions_over S m ≡ true) (one_some s n f) e
  listed-climb (suc k) s n e f = go (above D s) refl (λ p a b. listed-climb k p n a b)
    where
      go : (q : Option NodeId) → above D s ≡ q → ((p : NodeId) → mentions_over S p ≡ true → climb (above D) k p ≡ Some n → mentions_over S n ≡ true) → mentions_over S n ≡ true
      go None q rest = absurd (none-some (ap (option_and_then (climb (above D) k)) (sym q) ∙ f))
      go (Some p) q rest = rest p (listed-up s p e q) (ap (option_and_then (climb (above D) k)) (sym q) ∙ f)

  -- whether a node stands elsewhere
  moved-leaves : (n : NodeId) → IsSome (D.nodes n) → D.place n ≢ E.place n → IsFoundAs L n Leave
  moved-leaves n k h = go (later-placed D S x w o n)
    where
      put : Has L.put n → IsFoundAs L n Leave
      put i = elim (Rattle.st_normal_step_laws.proofs.PlacesLater.put-left D S x w o n i) [ inl j ↦ absurd (unknown (D.nodes n) (o.new_nodes n j) k) | inr j ↦ j ]

      go : PlacedLater D S n → IsFoundAs L n Leave
      go (by_row r c i j e) = put (Rattle.st_normal_step_laws.proofs.PlacesLater.row-put D S x w o r c n i j)
      go (by_register r i j e) = put (Rattle.st_normal_step_laws.proofs.PlacesLater.register-put D S x w o r n i j)
      go (by_going a i e) = i
      go (by_staying a b e) = absurd (h (sym e))

  pub unlisted-row : (n : NodeId) → item_of node_cmp row_key S.rows n ≡ None → (r : RowMarks) → Has S.rows r → r.node ≡ n → ⊥
  unlisted-row n none r i e = none-some (sym none ∙ ap (item_of node_cmp row_key S.rows) (sym e) ∙ has-item_of node_cmp node_cmp_total node_cmp_exact row_key S.rows r w.rising.rows i)

  -- a cell of a row that isn't listed is full where it was
  pub quiet-cell : (n : NodeId) → item_of node_cmp row_key S.rows n ≡ None → (p : Owned) → Has (D.rows n) p → is_cell p.cell (E.place p.node) ≡ is_cell p.cell (D.place p.node)
  quiet-cell n none p h = both-ways-same (is_cell p.cell (E.place p.node)) (is_cell p.cell (D.place p.node)) after before
    where
      after : is_cell p.cell (E.place p.node) ≡ true → is_cell p.cell (D.place p.node) ≡ true
      after e = go (later-placed D S x w o p.node)
        where
          at : (k : NodeId) × (E.place p.node ≡ Spot.Row k p.cell)
          at = is_cell-true p.cell (E.place p.node) e

          go : PlacedLater D S p.node → is_cell p.cell (D.place p.node) ≡ true
          go (by_row r c i (inl j) f) = let q = (same-row (sym f ∙ at.1)).1 in absurd (there-unmade D S x w o n p r p.node true h i (subst (λ c. Has (spread r.marks) (Make c p.node true)) q j))
          go (by_row r c i (inr j) f) = let q = (same-row (sym f ∙ at.1)).1 in
              absurd (unlisted-row n none r i (one_some r.node n (sym ((x.one_row p.cell r.node).1 (p.node, subst (λ c. Has (D.rows r.node) (owned_cell c p.node)) q (filled-there D S x w o r c p.node i j))) ∙ (x.one_row p.cell n).1 (p.node, h))))
          go (by_register r i j f) = absurd (row-not-register at.0 p.cell r.field (sym at.1 ∙ f))
          go (by_going a i f) = absurd (row-not-nowhere at.0 p.cell (sym at.1 ∙ f))
          go (by_staying a b f) = ap (is_cell p.cell) (sym f) ∙ e

      before : is_cell p.cell (D.place p.node) ≡ true → is_cell p.cell (E.place p.node) ≡ true
      before e = ap (is_cell p.cell) (unfound-place D S x w o p.node unfound (λ i. unknown (D.nodes p.node) (o.new_nodes p.node i) (x.cells_known n p h).1)) ∙ e
        where
          at : (k : NodeId) × (D.place p.node ≡ Spot.Row k p.cell)
          at = is_cell-true p.cell (D.place p.node) e

          here : at.0 ≡ n
          here = one_some at.0 n (sym ((x.one_row p.cell at.0).1 (p.node, x.own_cell p.node at.0 p.cell at.1)) ∙ (x.one_row p.cell n).1 (p.node, h))

          go : (g : How) → FoundThere D S p.node g → ⊥
          go g (there_row r c j k a) = unlisted-row n none r j ((same-row (sym a ∙ at.1)).0 ∙ here)
          go g (there_held r j b c a) = row-not-register at.0 p.cell r.field (sym at.1 ∙ a)
          go g (there_loose l j b c a t) = row-not-nowhere at.0 p.cell (sym at.1 ∙ a)

          unfound : IsFound L p.node → ⊥
          unfound i = let f = found-as D S x w o p.node i in go f.0 f.2

  -- a row that isn't listed is as it was
  pub unlisted-content : (n : NodeId) → item_of node_cmp row_key S.rows n ≡ None → E.rows n ≡ D.rows n → content D n ≡ content E n
  unlisted-content n none e = sym (ap (map (slot E)) e ∙ go (D.rows n) (λ p h. h))
    where
      go : (os : List Owned) → ((p : Owned) → Has os p → Has (D.rows n) p) → map (slot E) os ≡ map (slot D) os
      go [] sub = refl
      go (p ∷ os) sub = λ i. record { cell = p.cell; node = p.node; full = quiet-cell n none p (sub p (inl refl)) i } ∷ go os (λ q h. sub q (inr h)) i

  changed-listed : (n : NodeId) → IsChanged D E n → mentions_over S n ≡ true
  changed-listed n (k, inl h) = leave-listed n (moved-leaves n k h)
  changed-listed n (k, inr (inl h)) = elim (row-cases D S x w o n) [
    | inl (r, i, e) ↦ field-listed n (subst (HasListedField L) e (row-field D S x w o r i)) k
    | inr q ↦ absurd (h (unlisted-content n q.0 q.1))
  ]
  changed-listed n (k, inr (inr (f, e, h))) = elim (reg-cases D S x w o f) [
    | inl (r, i, g, q) ↦ field-listed n (subst (HasListedField L) (ap (λ (f : FieldId). f.node) g ∙ e) (reg-field D S x w o r i)) k
    | inr q ↦ absurd (h (sym q.1))
  ]

  -- what the step mentions it lists as mentioned, and nothing else
  pub mentions-exact : (n : NodeId) → (mentions_over S n ≡ true) ↔ IsMentionedByStep D E n
  mentions-exact n = (listed-mentioned n, λ q. listed-climb q.2 q.0 n (changed-listed q.0 q.1) q.3)
