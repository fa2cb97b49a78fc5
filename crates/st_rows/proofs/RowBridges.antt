-- A step of a row after a change.
use Rattle.std.proofs.Common.{◌≡◌, ◌≢◌, Bool, true, false, not, ◌&&◌, ◌||◌, List, [], ◌∷◌, ◌++◌, Option, Some, None, cond, refl, sym, ap, ◌∙◌, subst, inl, inr}
use Rattle.st_ids.specs.declared.names.CellId.{CellId}
use Rattle.st_ids.specs.declared.names.NodeId.{NodeId}
use Rattle.st_kind.specs.Named.{Nodes, named_beside}
use Rattle.st_marks.specs.declared.intents.Owned.{Owned}
use Rattle.st_marks.specs.declared.intents.To.{To}
use Rattle.st_marks.specs.declared.marks.How.{How}
use Rattle.st_marks.specs.declared.marks.How.TheVariants.{Stay, Here, Leave}
use Rattle.st_marks.specs.declared.places.Slot.{Slot}
use Rattle.st_marks.specs.Embedding.{is_among}
use Rattle.st_marks.specs.Extends.{GainsItems, no_more, item_gained, item_kept}
use Rattle.st_marks.specs.Row.{CellMark, Counted, Gap, Touch, Make, Fill, RowPart, SameCell, same_to, how, step_cell, step_row, embed_cell, embed_made, embed_cells, embed_row}
use Rattle.st_marks.specs.How.{is_here}
use Rattle.st_rows.specs.Views.{view_after}
use Rattle.st_rows.specs.Differences.{view_before}
use Rattle.st_rows.specs.Cells.{turned_mark, stepped_mark, full_first, full_then, bridged_mark, bridged_piece, bridge_row, made_full, gained_full}
use Rattle.st_rows.specs.Changes.{StandsIn, AreOld, NamesNoGained, NoGroupAtGained, full_after, made_cells, carried_cells, carried_row, placed_by, row_after, void_part}
use Rattle.st_rows.specs.Rows.{NamesMoved}
use Rattle.st_rows.proofs.VoidRows.{void-made}
use Rattle.st_rows.proofs.PiecesBeside.{beside-kept, beside-gained}
use Rattle.st_rows.proofs.RowRebases.{Tells, rebased-found, gained-found}
use Rattle.st_lemmas.proofs.Bools.{and-second, or-false, and-first, or-left, or-right}

-- ## How full a cell is

pub before_full : (p : RowPart) (c : CellId) (n : NodeId) (a : Bool) → (view_before (embed_cell p c n a)).full ≡ a
before_full p c n true = elim (p.mentioned n) as (λ b. (view_before (cond b (Touch c n (how (p.target_of n) (To.Cell c))) Counted)).full ≡ true) [ true ↦ refl | false ↦ refl ]
before_full p c n false = elim (is_here (how (p.target_of n) (To.Cell c))) as (λ b. (view_before (cond b (Fill c n) (Gap c))).full ≡ false) [ true ↦ refl | false ↦ refl ]

pub left_full : (p : RowPart) (c : CellId) (n : NodeId) (a : Bool) → (p.target_of n ≢ None → p.mentioned n ≡ true) → (view_after (embed_cell p c n a)).full ≡ full_after (p.target_of n) c a
left_full p c n true h = elim (p.mentioned n) as (λ b. p.mentioned n ≡ b → (view_after (cond b (Touch c n (how (p.target_of n) (To.Cell c))) Counted)).full ≡ full_after (p.target_of n) c true) [
  | true ↦ (λ e. touched (p.target_of n))
  | false ↦ (λ e. unput (p.target_of n) h e)
] refl
  where
    touched : (g : Option To) → (view_after (Touch c n (how g (To.Cell c)))).full ≡ full_after g c true
    touched None = refl
    touched (Some to) = elim (same_to to (To.Cell c)) as (λ b. (view_after (Touch c n (cond b Here Leave))).full ≡ b) [ true ↦ refl | false ↦ refl ]

    unput : (g : Option To) → (g ≢ None → p.mentioned n ≡ true) → p.mentioned n ≡ false → true ≡ full_after g c true
    unput None k e = refl
    unput (Some to) k e = let q : ◌≡◌ {A = Bool} false true = sym e ∙ k (λ z. cc) in cc
left_full p c n false h = free (p.target_of n)
  where
    free : (g : Option To) → (view_after (cond (is_here (how g (To.Cell c))) (Fill c n) (Gap c))).full ≡ full_after g c false
    free None = refl
    free (Some to) = elim (same_to to (To.Cell c)) as (λ b. (view_after (cond (is_here (cond b Here Leave)) (Fill c n) (Gap c))).full ≡ b) [ true ↦ refl | false ↦ refl ]

step_full : (m : Nodes) (c : CellId) (n : NodeId) (a b : Bool) → (view_after (step_cell m c n a b)).full ≡ b
step_full m c n true true = elim (m n) as (λ b. (view_after (cond b (Touch c n Stay) Counted)).full ≡ true) [ true ↦ refl | false ↦ refl ]
step_full m c n true false = refl
step_full m c n false true = refl
step_full m c n false false = refl

-- a cell that isn't where the node is put
away_full : (g : Option To) (c : CellId) (a : Bool) → is_here (how g (To.Cell c)) ≡ false → a ≡ false → full_after g c a ≡ false
away_full None c a e f = f
away_full (Some to) c a e f = elim (same_to to (To.Cell c)) as (λ b. is_here (cond b Here Leave) ≡ false → b ≡ false) [ true ↦ (λ q. cc) | false ↦ (λ q. refl) ] e

-- ## One cell that both find

turned_is : (k : Nodes) (c : CellId) (n : NodeId) (e f : Bool) → (e ≡ true → f ≡ true → k n ≡ true) → turned_mark c n e f ≡ step_cell k c n e f
turned_is k c n true true h = rw (h refl refl) refl
turned_is k c n true false h = refl
turned_is k c n false true h = refl
turned_is k c n false false h = refl

unlisted : (m k : Nodes) (c : CellId) (n : NodeId) (a b : Bool) → k n ≡ m n → step_cell m c n a b ≡ step_cell k c n a b
unlisted m k c n true true h = rw h refl
unlisted m k c n true false h = refl
unlisted m k c n false true h = refl
unlisted m k c n false false h = refl

-- what has to be known of a cell's owner, where the step's listing names one set and the result another
record Owner (p : RowPart) (m k : Nodes) (n : NodeId) : Type 0 where
  put : p.target_of n ≢ None → p.mentioned n ≡ true
  named : p.mentioned n ≡ true → k n ≡ true
  unnamed : p.mentioned n ≡ false → k n ≡ m n

module _ (p : RowPart) (m k : Nodes) (c : CellId) (n : NodeId) (w : Owner p m k n) where
  not_put : p.mentioned n ≡ false → p.target_of n ≡ None
  not_put e = go (p.target_of n) w.put
    where
      go : (g : Option To) → (g ≢ None → p.mentioned n ≡ true) → g ≡ None
      go None h = refl
      go (Some to) h = let q : ◌≡◌ {A = Bool} false true = sym e ∙ h (λ z. cc) in cc

  empty_is : (b e f : Bool) → e ≡ false → (b ≡ false → f ≡ false) → stepped_mark (Gap c) (step_cell m c n false b) e f ≡ step_cell k c n e f
  empty_is true e f h j = turned_is k c n e f (λ q. let z : ◌≡◌ {A = Bool} false true = sym h ∙ q in cc)
  empty_is false e f h j = λ i. sym (ap (λ x. step_cell k c n x f) h ∙ ap (λ x. step_cell k c n false x) (j refl)) i

  stepped_is : (a b e f : Bool)
      → (p.target_of n ≡ None → e ≡ a) → (p.target_of n ≡ None → f ≡ b)
      → (is_here (how (p.target_of n) (To.Cell c)) ≡ false → a ≡ false → e ≡ false) → (is_here (how (p.target_of n) (To.Cell c)) ≡ false → b ≡ false → f ≡ false)
      → stepped_mark (embed_cell p c n a) (step_cell m c n a b) e f ≡ step_cell k c n e f
  stepped_is true b e f e_none f_none e_away f_away = elim (p.mentioned n) as (λ x. p.mentioned n ≡ x → stepped_mark (cond x (Touch c n (how (p.target_of n) (To.Cell c))) Counted) (step_cell m c n true b) e f ≡ step_cell k c n e f) [
    | true ↦ (λ h. turned_is k c n e f (λ _ _. w.named h))
    | false ↦ (λ h. unlisted m k c n true b (w.unnamed h) ∙ (λ i. step_cell k c n (sym (e_none (not_put h)) i) (sym (f_none (not_put h)) i)))
  ] refl
  stepped_is false b e f e_none f_none e_away f_away = elim (is_here (how (p.target_of n) (To.Cell c))) as (λ x. is_here (how (p.target_of n) (To.Cell c)) ≡ x → stepped_mark (cond x (Fill c n) (Gap c)) (step_cell m c n false b) e f ≡ step_cell k c n e f) [
    | true ↦ (λ h. turned_is k c n e f (λ _ _. w.named (w.put (put_here (p.target_of n) h))))
    | false ↦ (λ h. empty_is b e f (e_away h refl) (f_away h))
  ] refl
    where
      put_here : (g : Option To) → is_here (how g (To.Cell c)) ≡ true → g ≢ None
      put_here None h = λ z. cc
      put_here (Some to) h = λ z. cc

pub counted_stays : (was is : Bool) (t : NodeId → Option How) → bridged_mark was is t Counted Counted ≡ Counted
counted_stays true true t = refl
counted_stays true false t = refl
counted_stays false true t = refl
counted_stays false false t = refl

-- ## Steps that are put together

-- the cells are those of a step from the row c to the row d that names these nodes, among them those that it moves
abbrev pub Led : Nodes → List Slot → List Slot → List CellMark → Type 0
Led k c d cells = (g : GainsItems SameCell c d) × (cells ≡ step_row k g) × NamesMoved k g

led-gained : (k : Nodes) (c : CellId) (n : NodeId) (b : Bool) {xs ys : List Slot} {cells : List CellMark} → Led k xs ys cells → Led k xs (record { cell = c; node = n; full = b } ∷ ys) (Make c n b ∷ cells)
led-gained k c n b (g, e, w) = (item_gained g, ap (λ l. Make c n b ∷ l) e, w)

led-kept : (k : Nodes) (c : CellId) (n : NodeId) (a b : Bool) (x : CellMark) {xs ys : List Slot} {cells : List CellMark} → x ≡ step_cell k c n a b → (a ≢ b → k n ≡ true) → Led k xs ys cells
    → Led k (record { cell = c; node = n; full = a } ∷ xs) (record { cell = c; node = n; full = b } ∷ ys) (x ∷ cells)
led-kept k c n a b x q r (g, e, w) = (item_kept (refl, refl) g, (λ i. q i ∷ e i), (r, w))

-- ## The step beside a change

-- the nodes that a change puts, which is void or not
abbrev pub placing : Bool → Nodes → Nodes
placing void placed n = not void || placed n

module _ (t : NodeId → Option How) (p : RowPart) (m placed makes : Nodes) (was is : Bool) (sub : (n : NodeId) → makes n ≡ false → placed n ≡ false) (put : (n : NodeId) → p.target_of n ≢ None → makes n ≡ false → p.mentioned n ≡ true) where
  -- where the change puts a node
  abbrev target_of : Bool → NodeId → Option To
  target_of void n = cond (placing void placed n) (p.target_of n) None

  abbrev named : Nodes
  named = named_beside m p.mentioned makes was is

  void_goes : (n : NodeId) (v : Bool) → v ≡ true → makes n ≡ false → target_of v n ≡ None
  void_goes n v e h = ap (λ b. cond (not b || placed n) (p.target_of n) None) e ∙ ap (λ b. cond b (p.target_of n) None) (sub n h)

  none_goes : (n : NodeId) (v : Bool) → p.target_of n ≡ None → target_of v n ≡ None
  none_goes n v e = elim (placing v placed n) as (λ b. cond b (p.target_of n) None ≡ None) [ true ↦ e | false ↦ refl ]

  first_is : (v : Bool) (c : CellId) (n : NodeId) (a : Bool) → makes n ≡ false → full_first v (embed_cell p c n a) ≡ full_after (target_of v n) c a
  first_is true c n a h = before_full p c n a ∙ sym (ap (λ g. full_after g c a) (void_goes n true refl h))
  first_is false c n a h = left_full p c n a (λ q. put n q h)

  then_is : (v : Bool) (c : CellId) (n : NodeId) (a b : Bool) → makes n ≡ false → (v ≡ false → b ≡ true → Tells p n (t n)) → full_then v t (embed_cell p c n a) (step_cell m c n a b) ≡ full_after (target_of v n) c b
  then_is true c n a b h k = step_full m c n a b ∙ sym (ap (λ g. full_after g c b) (void_goes n true refl h))
  then_is false c n a b h k = ap (λ x. (view_after x).full) (rebased-found t p m c n a b (λ _ q. put n q h) (k refl)) ∙ left_full p c n b (λ q. put n q h)

  away_is : (v : Bool) (c : CellId) (n : NodeId) (a : Bool) → is_here (how (p.target_of n) (To.Cell c)) ≡ false → a ≡ false → full_after (target_of v n) c a ≡ false
  away_is v c n a e f = elim (placing v placed n) as (λ b. full_after (cond b (p.target_of n) None) c a ≡ false) [ true ↦ away_full (p.target_of n) c a e f | false ↦ f ]

  named_is : (n : NodeId) → named n ≡ (m n || cond (was && is) (makes n) (p.mentioned n || makes n))
  named_is n = elim (was && is) as (λ z. (m n || (cond z makes (λ x. p.mentioned x || makes x)) n) ≡ (m n || cond z (makes n) (p.mentioned n || makes n))) [ true ↦ refl | false ↦ refl ]

  owner : (n : NodeId) → makes n ≡ false → (was && is) ≡ false → Owner p m named n
  owner n h e = record {
    put = λ q. put n q h;
    named = λ q. named_is n ∙ or-right (m n) (cond (was && is) (makes n) (p.mentioned n || makes n)) (ap (λ b. cond b (makes n) (p.mentioned n || makes n)) e ∙ or-left (p.mentioned n) (makes n) q);
    unnamed = λ q. named_is n ∙ ap (λ b. m n || cond b (makes n) (p.mentioned n || makes n)) e ∙ (λ i. m n || (q i || h i)) ∙ or-false (m n);
  }

  both_named : (n : NodeId) → makes n ≡ false → (was && is) ≡ true → named n ≡ m n
  both_named n h e = named_is n ∙ ap (λ b. m n || cond b (makes n) (p.mentioned n || makes n)) e ∙ ap (λ b. m n || b) h ∙ or-false (m n)

  -- a cell that both find
  found_is : (c : CellId) (n : NodeId) (a b : Bool) → makes n ≡ false → (is ≡ false → b ≡ true → Tells p n (t n))
      → bridged_mark was is t (embed_cell p c n a) (step_cell m c n a b) ≡ step_cell named c n (full_after (target_of was n) c a) (full_after (target_of is n) c b)
  found_is c n a b h k = elim (was && is) as (λ z. (was && is) ≡ z → cond z (step_cell m c n a b) (stepped_mark (embed_cell p c n a) (step_cell m c n a b) (full_first was (embed_cell p c n a)) (full_then is t (embed_cell p c n a) (step_cell m c n a b))) ≡ step_cell named c n (full_after (target_of was n) c a) (full_after (target_of is n) c b)) [
    | true ↦ (λ e. unlisted m named c n a b (both_named n h e) ∙ (λ i. step_cell named c n (full_after (sym (void_goes n was (and-first was is e) h) i) c a) (full_after (sym (void_goes n is (and-second was is e) h) i) c b)))
    | false ↦ (λ e. (λ i. stepped_mark (embed_cell p c n a) (step_cell m c n a b) (first_is was c n a h i) (then_is is c n a b h k i))
        ∙ stepped_is p m named c n (owner n h e) a b (full_after (target_of was n) c a) (full_after (target_of is n) c b)
        (λ q. ap (λ g. full_after g c a) (none_goes n was q)) (λ q. ap (λ g. full_after g c b) (none_goes n is q)) (away_is was c n a) (away_is is c n b))
  ] refl

  found_moved : (c : CellId) (n : NodeId) (a b : Bool) → makes n ≡ false → (a ≢ b → m n ≡ true) → full_after (target_of was n) c a ≢ full_after (target_of is n) c b → named n ≡ true
  found_moved c n a b h k = elim (was && is) as (λ z. (was && is) ≡ z → full_after (target_of was n) c a ≢ full_after (target_of is n) c b → named n ≡ true) [
    | true ↦ (λ e q. as_step (void_goes n was (and-first was is e) h) (void_goes n is (and-second was is e) h) q)
    | false ↦ (λ e. elim (p.mentioned n) as (λ z. p.mentioned n ≡ z → full_after (target_of was n) c a ≢ full_after (target_of is n) c b → named n ≡ true) [
      | true ↦ (λ f q. (owner n h e).named f)
      | false ↦ (λ f q. let none = not_put p m named c n (owner n h e) f in as_step (none_goes n was none) (none_goes n is none) q)
    ] refl)
  ] refl
    where
      as_step : target_of was n ≡ None → target_of is n ≡ None → full_after (target_of was n) c a ≢ full_after (target_of is n) c b → named n ≡ true
      as_step e f q = named_is n ∙ or-left (m n) (cond (was && is) (makes n) (p.mentioned n || makes n)) (k (λ r. q (ap (λ g. full_after g c a) e ∙ r ∙ sym (ap (λ g. full_after g c b) f))))

  -- ## A cell that the change makes

  made_is : (v : Bool) (o : Owned) → made_full placed o.node (is_here (how (p.target_of o.node) (To.Cell o.cell))) v ≡ is_here (how (target_of v o.node) (To.Cell o.cell))
  made_is true o = void-made placed p o
  made_is false o = refl

  put_here : (n : NodeId) (c : CellId) → is_here (how (p.target_of n) (To.Cell c)) ≡ true → p.target_of n ≢ None
  put_here n c = go (p.target_of n)
    where
      go : (g : Option To) → is_here (how g (To.Cell c)) ≡ true → g ≢ None
      go None e = cc
      go (Some to) e = λ z. cc

  new_named : (n : NodeId) → makes n ≡ true → named n ≡ true
  new_named n e = named_is n ∙ or-right (m n) (cond (was && is) (makes n) (p.mentioned n || makes n)) (elim (was && is) as (λ z. cond z (makes n) (p.mentioned n || makes n) ≡ true) [ true ↦ e | false ↦ or-right (p.mentioned n) (makes n) e ])

  full_named : (v : Bool) → ((was && is) ≡ true → v ≡ true) → (n : NodeId) (c : CellId) → made_full placed n (is_here (how (p.target_of n) (To.Cell c))) v ≡ true → named n ≡ true
  full_named v w n c e = elim (makes n) as (λ z. makes n ≡ z → named n ≡ true) [
    | true ↦ new_named n
    | false ↦ (λ h. elim (was && is) as (λ z. (was && is) ≡ z → named n ≡ true) [
      | true ↦ (λ q. let z : ◌≡◌ {A = Bool} true false = sym (void_full v (w q) e) ∙ sub n h in cc)
      | false ↦ (λ q. (owner n h q).named (put n (put_here n c (made_here v e)) h))
    ] refl)
  ] refl
    where
      made_here : (v : Bool) → made_full placed n (is_here (how (p.target_of n) (To.Cell c))) v ≡ true → is_here (how (p.target_of n) (To.Cell c)) ≡ true
      made_here true e = and-first (is_here (how (p.target_of n) (To.Cell c))) (placed n) e
      made_here false e = e

      void_full : (v : Bool) → v ≡ true → made_full placed n (is_here (how (p.target_of n) (To.Cell c))) v ≡ true → placed n ≡ true
      void_full true q e = and-second (is_here (how (p.target_of n) (To.Cell c))) (placed n) e
      void_full false q e = cc

  one_full : (a b a' b' : Bool) → a ≡ a' → b ≡ b' → {P : Type 0} → (a ≡ true → P) → (b ≡ true → P) → a' ≢ b' → P
  one_full true b a' b' e f x y q = x refl
  one_full false true a' b' e f x y q = y refl
  one_full false false a' b' e f x y q = absurd (q (sym e ∙ f))

  beside_made : (os : List Owned) {c d : List Slot} (xs ys : List CellMark) → Led named c d (bridge_row was is placed t xs ys)
      → Led named (made_cells (void_part (placing was placed) p) os ++ c) (made_cells (void_part (placing is placed) p) os ++ d) (bridge_row was is placed t (embed_made p os ++ xs) ys)
  beside_made [] xs ys l = l
  beside_made (o ∷ os) xs ys l =
      let put = is_here (how (p.target_of o.node) (To.Cell o.cell)) in
      led-kept named o.cell o.node (is_here (how (target_of was o.node) (To.Cell o.cell))) (is_here (how (target_of is o.node) (To.Cell o.cell))) (turned_mark o.cell o.node (made_full placed o.node put was) (made_full placed o.node put is))
      (turned_is named o.cell o.node (made_full placed o.node put was) (made_full placed o.node put is) (λ e f. full_named was (and-first was is) o.node o.cell e) ∙ (λ i. step_cell named o.cell o.node (made_is was o i) (made_is is o i)))
      (one_full (made_full placed o.node put was) (made_full placed o.node put is) (is_here (how (target_of was o.node) (To.Cell o.cell))) (is_here (how (target_of is o.node) (To.Cell o.cell))) (made_is was o) (made_is is o) (full_named was (and-first was is) o.node o.cell) (full_named is (and-second was is) o.node o.cell))
      (beside_made os xs ys l)

  -- ## The row

  gained_is : (v : Bool) (c : CellId) (n : NodeId) (b : Bool) → makes n ≡ false → (v ≡ false → p.target_of n ≢ Some (To.Cell c)) → (v ≡ false → b ≡ true → Tells p n (t n)) → gained_full t c n b v ≡ full_after (target_of v n) c b
  gained_is true c n b h g k = sym (ap (λ g. full_after g c b) (void_goes n true refl h))
  gained_is false c n b h g k = ap (λ x. (view_after x).full) (gained-found t p c n b (g refl) (k refl)) ∙ left_full p c n b (λ q. put n q h)

  beside_cells : {c d : List Slot} (g : GainsItems SameCell c d) → NoGroupAtGained p g → AreOld makes c → AreOld makes d → NamesMoved m g → (is ≡ false → NamesNoGained p g) → (is ≡ false → (n : NodeId) → StandsIn n d → Tells p n (t n))
      → Led named (carried_cells (void_part (placing was placed) p) c) (carried_cells (void_part (placing is placed) p) d) (bridge_row was is placed t (embed_cells p c) (step_row m g))
  beside_cells no_more z o q w h k = (no_more, refl, tt)
  beside_cells (item_gained {y = s} {xs = c} {ys = d} g) z o q w h k =
      let rest = beside_cells g z.1 o q.1 w (λ e. (h e).2) (λ e n x. k e n (inr x)) in
      rw z.0 (subst (Led named (carried_cells (void_part (placing was placed) p) c) (record s { full = full_after (target_of is s.node) s.cell s.full } ∷ carried_cells (void_part (placing is placed) p) d))
      ((λ i. Make s.cell s.node (sym (gained_is is s.cell s.node s.full q.0 (λ e. (h e).1) (λ e r. k e s.node (inl (refl, r)))) i) ∷ bridge_row was is placed t (embed_cells p c) (step_row m g))
      ∙ sym (beside-gained (bridged_piece was is placed t) p c s.cell s.node s.full (step_row m g)))
      (led-gained named s.cell s.node (full_after (target_of is s.node) s.cell s.full) rest))
  beside_cells (item_kept {x = s} {y = u} {xs = c} {ys = d} a g) z o q w h k =
      let same : ◌≡◌ {A = Slot} (record { cell = s.cell; node = s.node; full = u.full }) u = λ i. record { cell = a.0 i; node = a.1 i; full = u.full } in
      let rest = beside_made (p.new_cells (Some s.cell)) (embed_cells p c) (step_row m g) (beside_cells g z o.1 q.1 w.1 h (λ e n x. k e n (inr x))) in
      let one = led-kept named s.cell s.node (full_after (target_of was s.node) s.cell s.full) (full_after (target_of is s.node) s.cell u.full) (bridged_mark was is t (embed_cell p s.cell s.node s.full) (step_cell m s.cell s.node s.full u.full))
      (found_is s.cell s.node s.full u.full o.0 (λ e r. subst (λ n. Tells p n (t n)) (sym a.1) (k e u.node (inl (refl, r))))) (found_moved s.cell s.node s.full u.full o.0 w.0) rest in
      subst (λ (v : Slot). Led named (carried_cells (void_part (placing was placed) p) (s ∷ c)) (carried_cells (void_part (placing is placed) p) (v ∷ d)) (bridge_row was is placed t (embed_cells p (s ∷ c)) (step_cell m s.cell s.node s.full u.full ∷ step_row m g))) same
      (subst (Led named (carried_cells (void_part (placing was placed) p) (s ∷ c)) (carried_cells (void_part (placing is placed) p) (record { cell = s.cell; node = s.node; full = u.full } ∷ d)))
      (sym (beside-kept (bridged_piece was is placed t) p m s.cell s.node s.full u.full (embed_made p (p.new_cells (Some s.cell)) ++ embed_cells p c) (step_row m g))) one)

  row_is : (v : Bool) (c : List Slot) → carried_row (void_part (placing v placed) p) c ≡ row_after placed p v c
  row_is true c = refl
  row_is false c = refl

  -- the law of the bridge, with a look-up that tells what it has to
  pub bridge_row-embed_row : {c d : List Slot} (g : GainsItems SameCell c d) → NoGroupAtGained p g → AreOld makes c → AreOld makes d → NamesMoved m g → (is ≡ false → NamesNoGained p g) → (is ≡ false → (n : NodeId) → StandsIn n d → Tells p n (t n))
      → Led named (row_after placed p was c) (row_after placed p is d) (bridge_row was is placed t (embed_row p c) (step_row m g))
  bridge_row-embed_row {c} {d} g z o q w h k =
      subst (λ (x : List Slot). Led named x (row_after placed p is d) (bridge_row was is placed t (embed_row p c) (step_row m g))) (row_is was c)
      (subst (λ (x : List Slot). Led named (carried_row (void_part (placing was placed) p) c) x (bridge_row was is placed t (embed_row p c) (step_row m g))) (row_is is d)
      (beside_made (p.new_cells None) (embed_cells p c) (step_row m g) (beside_cells g z o q w h k)))

-- only new nodes are placed
pub placed_new : (in_new : Bool) (new : List NodeId) (n : NodeId) → is_among new n ≡ false → placed_by in_new new n ≡ false
placed_new true new n e = e
placed_new false new n e = refl
