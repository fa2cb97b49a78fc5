-- What a step says of a row after a change, read off what the two say of the row before.
use Rattle.std.proofs.Common.{◌≡◌, ◌≢◌, Bool, true, false, not, ◌&&◌, ◌||◌, List, [], ◌∷◌, ◌++◌, map, Option, Some, None, cond, refl, sym, ap, ◌∙◌, subst}
use Rattle.st_ids.specs.declared.names.CellId.{CellId}
use Rattle.st_ids.specs.declared.names.NodeId.{NodeId}
use Rattle.st_kind.specs.Named.{Nodes, named_beside}
use Rattle.st_marks.specs.declared.intents.Owned.{Owned}
use Rattle.st_marks.specs.declared.intents.To.{To}
use Rattle.st_marks.specs.declared.marks.How.TheVariants.{Stay, Here, Leave}
use Rattle.st_marks.specs.declared.places.Slot.{Slot}
use Rattle.st_marks.specs.Extends.{GainsItems, no_more, item_gained, item_kept}
use Rattle.st_marks.specs.Row.{CellMark, Counted, Gap, Touch, Make, Fill, RowPart, SameCell, same_to, how, step_cell, step_row, embed_cell, embed_made, embed_cells, embed_row}
use Rattle.st_marks.specs.How.{is_here}
use Rattle.st_rows.specs.Changes.{AreOld, NoGroupAtGained, full_after, made_cells, carried_cells, carried_row, row_after, void_part}
use Rattle.st_rows.specs.Rows.{NamesMoved}
use Rattle.st_rows.proofs.RowBridges.{placing}
use Rattle.st_rows.proofs.VoidRows.{void-made}
use Rattle.st_rows.proofs.PiecesBeside.{beside-kept, beside-gained}
use Rattle.st_lemmas.proofs.Bools.{and-second, or-false, and-first, or-left, or-right}
use Rattle.st_read_laws.specs.Reading.{read}
use Rattle.st_reading.specs.Bridge.{crossed_cell, crossed_piece, crossed_row, full_beside, full_beyond, made_by, stepped, turned}

-- ## One cell that both find

-- a cell that isn't where the node is put
away_full : (g : Option To) (c : CellId) (a : Bool) → is_here (how g (To.Cell c)) ≡ false → a ≡ false → full_after g c a ≡ false
away_full None c a e f = f
away_full (Some to) c a e f = elim (same_to to (To.Cell c)) as (λ b. is_here (cond b Here Leave) ≡ false → b ≡ false) [ true ↦ (λ q. cc) | false ↦ (λ q. refl) ] e

turned_is : (k : Nodes) (c : CellId) (n : NodeId) (e f : Bool) → (e ≡ true → f ≡ true → k n ≡ true) → turned c n e f ≡ step_cell k c n e f
turned_is k c n true true h = rw (h refl refl) refl
turned_is k c n true false h = refl
turned_is k c n false true h = refl
turned_is k c n false false h = refl

-- what has to be known of a cell's owner, where the step's listing names one set and the result another
record Owner (p : RowPart) (m k : Nodes) (n : NodeId) : Type 0 where
  put : p.target_of n ≢ None → p.mentioned n ≡ true
  named : p.mentioned n ≡ true → k n ≡ true
  unnamed : p.mentioned n ≡ false → k n ≡ m n

module _ (p : RowPart) (m k : Nodes) (c : CellId) (n : NodeId) (w : Owner p m k n) where
  not_put : p.mentioned n ≡ false → p.target_of n ≡ None
  not_put e = go (p.target_of n) w.put
    where
      go : (g : Option To) → (g ≢ None → p.mentioned n ≡ true) → g ≡ None
      go None h = refl
      go (Some to) h = let q : ◌≡◌ {A = Bool} false true = sym e ∙ h (λ z. cc) in cc

  unlike : {P : Type 0} (e : Bool) → e ≡ false → e ≡ true → P
  unlike e h q = let z : ◌≡◌ {A = Bool} false true = sym h ∙ q in cc

  stepped_is : (a b e f : Bool)
      → (p.target_of n ≡ None → e ≡ a) → (p.target_of n ≡ None → f ≡ b)
      → (is_here (how (p.target_of n) (To.Cell c)) ≡ false → a ≡ false → e ≡ false) → (is_here (how (p.target_of n) (To.Cell c)) ≡ false → b ≡ false → f ≡ false)
      → stepped (embed_cell p c n a) (step_cell m c n a b) e f ≡ step_cell k c n e f
  stepped_is true true e f e_none f_none e_away f_away = elim (p.mentioned n) as (λ x. p.mentioned n ≡ x → stepped (cond x (Touch c n (how (p.target_of n) (To.Cell c))) Counted) (step_cell m c n true true) e f ≡ step_cell k c n e f) [
    | true ↦ (λ h. turned_is k c n e f (λ _ _. w.named h))
    | false ↦ (λ h. elim (m n) as (λ z. m n ≡ z → stepped Counted (cond z (Touch c n Stay) Counted) e f ≡ step_cell k c n e f) [
      | true ↦ (λ q. turned_is k c n e f (λ _ _. w.unnamed h ∙ q))
      | false ↦ (λ q. sym ((λ i. step_cell k c n (e_none (not_put h) i) (f_none (not_put h) i)) ∙ ap (λ z. cond z (Touch c n Stay) Counted) (w.unnamed h ∙ q)))
    ] refl)
  ] refl
  stepped_is true false e f e_none f_none e_away f_away = elim (p.mentioned n) as (λ x. p.mentioned n ≡ x → stepped (cond x (Touch c n (how (p.target_of n) (To.Cell c))) Counted) (Touch c n Leave) e f ≡ step_cell k c n e f) [
    | true ↦ (λ h. turned_is k c n e f (λ _ _. w.named h))
    | false ↦ (λ h. turned_is k c n e f (λ _ q. unlike f (f_none (not_put h)) q))
  ] refl
  stepped_is false b e f e_none f_none e_away f_away = elim (is_here (how (p.target_of n) (To.Cell c))) as (λ x. is_here (how (p.target_of n) (To.Cell c)) ≡ x → stepped (cond x (Fill c n) (Gap c)) (step_cell m c n false b) e f ≡ step_cell k c n e f) [
    | true ↦ (λ h. turned_is k c n e f (λ _ _. w.named (w.put (put_here (p.target_of n) h))))
    | false ↦ (λ h. empty_is b (e_away h refl) (f_away h))
  ] refl
    where
      put_here : (g : Option To) → is_here (how g (To.Cell c)) ≡ true → g ≢ None
      put_here None h = λ z. cc
      put_here (Some to) h = λ z. cc

      empty_is : (b : Bool) → e ≡ false → (b ≡ false → f ≡ false) → stepped (Gap c) (step_cell m c n false b) e f ≡ step_cell k c n e f
      empty_is true h j = turned_is k c n e f (λ q _. unlike e h q)
      empty_is false h j = λ i. sym (ap (λ x. step_cell k c n x f) h ∙ ap (λ x. step_cell k c n false x) (j refl)) i

  -- what is read off the marks is how full the cell is
  same_fullness : (g u : NodeId → Option To) (a b : Bool) → stepped (embed_cell p c n a) (step_cell m c n a b) (full_beside g (embed_cell p c n a) (step_cell m c n a b)) (full_beyond u (embed_cell p c n a) (step_cell m c n a b))
      ≡ stepped (embed_cell p c n a) (step_cell m c n a b) (full_after (g n) c a) (full_after (u n) c b)
  same_fullness g u true true = both (p.mentioned n) (m n)
    where
      both : (x y : Bool) → stepped (cond x (Touch c n (how (p.target_of n) (To.Cell c))) Counted) (cond y (Touch c n Stay) Counted) (full_beside g (cond x (Touch c n (how (p.target_of n) (To.Cell c))) Counted) (cond y (Touch c n Stay) Counted)) (full_beyond u (cond x (Touch c n (how (p.target_of n) (To.Cell c))) Counted) (cond y (Touch c n Stay) Counted))
          ≡ stepped (cond x (Touch c n (how (p.target_of n) (To.Cell c))) Counted) (cond y (Touch c n Stay) Counted) (full_after (g n) c true) (full_after (u n) c true)
      both true true = refl
      both true false = refl
      both false true = refl
      both false false = refl
  same_fullness g u true false = one (p.mentioned n)
    where
      one : (x : Bool) → stepped (cond x (Touch c n (how (p.target_of n) (To.Cell c))) Counted) (Touch c n Leave) (full_after (g n) c true) (full_after (u n) c false)
          ≡ stepped (cond x (Touch c n (how (p.target_of n) (To.Cell c))) Counted) (Touch c n Leave) (full_after (g n) c true) (full_after (u n) c false)
      one x = refl
  same_fullness g u false true = refl
  same_fullness g u false false = one (is_here (how (p.target_of n) (To.Cell c)))
    where
      one : (x : Bool) → stepped (cond x (Fill c n) (Gap c)) (Gap c) (full_beside g (cond x (Fill c n) (Gap c)) (Gap c)) (full_beyond u (cond x (Fill c n) (Gap c)) (Gap c))
          ≡ stepped (cond x (Fill c n) (Gap c)) (Gap c) (full_after (g n) c false) (full_after (u n) c false)
      one true = refl
      one false = refl

unlisted : (m k : Nodes) (c : CellId) (n : NodeId) (a b : Bool) → k n ≡ m n → step_cell m c n a b ≡ step_cell k c n a b
unlisted m k c n true true h = rw h refl
unlisted m k c n true false h = refl
unlisted m k c n false true h = refl
unlisted m k c n false false h = refl

-- ## Steps that are put together

-- the cells are those of a step from the row c to the row d that names these nodes, among them those that it moves, read so
abbrev pub Led : Bool → Nodes → List Slot → List Slot → List CellMark → Type 0
Led l k c d cells = (g : GainsItems SameCell c d) × (cells ≡ map (read l) (step_row k g)) × NamesMoved k g

led-gained : (l : Bool) (k : Nodes) (c : CellId) (n : NodeId) (b : Bool) {xs ys : List Slot} {cells : List CellMark} → Led l k xs ys cells → Led l k xs (record { cell = c; node = n; full = b } ∷ ys) (Make c n b ∷ cells)
led-gained l k c n b (g, e, w) = (item_gained g, ap (λ z. Make c n b ∷ z) e, w)

led-kept : (l : Bool) (k : Nodes) (c : CellId) (n : NodeId) (a b : Bool) (x : CellMark) {xs ys : List Slot} {cells : List CellMark} → x ≡ read l (step_cell k c n a b) → (a ≢ b → k n ≡ true) → Led l k xs ys cells
    → Led l k (record { cell = c; node = n; full = a } ∷ xs) (record { cell = c; node = n; full = b } ∷ ys) (x ∷ cells)
led-kept l k c n a b x q r (g, e, w) = (item_kept (refl, refl) g, (λ i. q i ∷ e i), (r, w))

module _ (l : Bool) (p : RowPart) (m placed makes : Nodes) (was is : Bool) (sub : (n : NodeId) → makes n ≡ false → placed n ≡ false) (put : (n : NodeId) → p.target_of n ≢ None → makes n ≡ false → p.mentioned n ≡ true) where
  -- where the change puts a node
  abbrev target_of : Bool → NodeId → Option To
  target_of void n = cond (placing void placed n) (p.target_of n) None

  abbrev named : Nodes
  named = named_beside m p.mentioned makes was is

  void_goes : (n : NodeId) (v : Bool) → v ≡ true → makes n ≡ false → target_of v n ≡ None
  void_goes n v e h = ap (λ b. cond (not b || placed n) (p.target_of n) None) e ∙ ap (λ b. cond b (p.target_of n) None) (sub n h)

  none_goes : (n : NodeId) (v : Bool) → p.target_of n ≡ None → target_of v n ≡ None
  none_goes n v e = elim (placing v placed n) as (λ b. cond b (p.target_of n) None ≡ None) [ true ↦ e | false ↦ refl ]

  away_is : (v : Bool) (c : CellId) (n : NodeId) (a : Bool) → is_here (how (p.target_of n) (To.Cell c)) ≡ false → a ≡ false → full_after (target_of v n) c a ≡ false
  away_is v c n a e f = elim (placing v placed n) as (λ b. full_after (cond b (p.target_of n) None) c a ≡ false) [ true ↦ away_full (p.target_of n) c a e f | false ↦ f ]

  named_is : (n : NodeId) → named n ≡ (m n || cond (was && is) (makes n) (p.mentioned n || makes n))
  named_is n = elim (was && is) as (λ z. (m n || (cond z makes (λ x. p.mentioned x || makes x)) n) ≡ (m n || cond z (makes n) (p.mentioned n || makes n))) [ true ↦ refl | false ↦ refl ]

  owner : (n : NodeId) → makes n ≡ false → (was && is) ≡ false → Owner p m named n
  owner n h e = record {
    put = λ q. put n q h;
    named = λ q. named_is n ∙ or-right (m n) (cond (was && is) (makes n) (p.mentioned n || makes n)) (ap (λ b. cond b (makes n) (p.mentioned n || makes n)) e ∙ or-left (p.mentioned n) (makes n) q);
    unnamed = λ q. named_is n ∙ ap (λ b. m n || cond b (makes n) (p.mentioned n || makes n)) e ∙ (λ i. m n || (q i || h i)) ∙ or-false (m n);
  }

  both_named : (n : NodeId) → makes n ≡ false → (was && is) ≡ true → named n ≡ m n
  both_named n h e = named_is n ∙ ap (λ b. m n || cond b (makes n) (p.mentioned n || makes n)) e ∙ ap (λ b. m n || b) h ∙ or-false (m n)

  -- a cell that both find
  found_is : (c : CellId) (n : NodeId) (a b : Bool) → makes n ≡ false
      → crossed_cell was is placed p.target_of (embed_cell p c n a) (step_cell m c n a b) ≡ step_cell named c n (full_after (target_of was n) c a) (full_after (target_of is n) c b)
  found_is c n a b h = elim (was && is) as (λ z. (was && is) ≡ z → cond z (step_cell m c n a b) (stepped (embed_cell p c n a) (step_cell m c n a b) (full_beside (target_of was) (embed_cell p c n a) (step_cell m c n a b)) (full_beyond (target_of is) (embed_cell p c n a) (step_cell m c n a b))) ≡ step_cell named c n (full_after (target_of was n) c a) (full_after (target_of is n) c b)) [
    | true ↦ (λ e. unlisted m named c n a b (both_named n h e) ∙ (λ i. step_cell named c n (full_after (sym (void_goes n was (and-first was is e) h) i) c a) (full_after (sym (void_goes n is (and-second was is e) h) i) c b)))
    | false ↦ (λ e. same_fullness p m named c n (owner n h e) (target_of was) (target_of is) a b
        ∙ stepped_is p m named c n (owner n h e) a b (full_after (target_of was n) c a) (full_after (target_of is n) c b)
        (λ q. ap (λ g. full_after g c a) (none_goes n was q)) (λ q. ap (λ g. full_after g c b) (none_goes n is q)) (away_is was c n a) (away_is is c n b))
  ] refl

  found_moved : (c : CellId) (n : NodeId) (a b : Bool) → makes n ≡ false → (a ≢ b → m n ≡ true) → full_after (target_of was n) c a ≢ full_after (target_of is n) c b → named n ≡ true
  found_moved c n a b h k = elim (was && is) as (λ z. (was && is) ≡ z → full_after (target_of was n) c a ≢ full_after (target_of is n) c b → named n ≡ true) [
    | true ↦ (λ e q. as_step (void_goes n was (and-first was is e) h) (void_goes n is (and-second was is e) h) q)
    | false ↦ (λ e. elim (p.mentioned n) as (λ z. p.mentioned n ≡ z → full_after (target_of was n) c a ≢ full_after (target_of is n) c b → named n ≡ true) [
      | true ↦ (λ f q. (owner n h e).named f)
      | false ↦ (λ f q. let none = not_put p m named c n (owner n h e) f in as_step (none_goes n was none) (none_goes n is none) q)
    ] refl)
  ] refl
    where
      as_step : target_of was n ≡ None → target_of is n ≡ None → full_after (target_of was n) c a ≢ full_after (target_of is n) c b → named n ≡ true
      as_step e f q = named_is n ∙ or-left (m n) (cond (was && is) (makes n) (p.mentioned n || makes n)) (k (λ r. q (ap (λ g. full_after g c a) e ∙ r ∙ sym (ap (λ g. full_after g c b) f))))

  -- ## A cell that the change makes

  made_is : (v : Bool) (o : Owned) → made_by v placed o.node (is_here (how (p.target_of o.node) (To.Cell o.cell))) ≡ is_here (how (target_of v o.node) (To.Cell o.cell))
  made_is true o = void-made placed p o
  made_is false o = refl

  put_here : (n : NodeId) (c : CellId) → is_here (how (p.target_of n) (To.Cell c)) ≡ true → p.target_of n ≢ None
  put_here n c = go (p.target_of n)
    where
      go : (g : Option To) → is_here (how g (To.Cell c)) ≡ true → g ≢ None
      go None e = cc
      go (Some to) e = λ z. cc

  new_named : (n : NodeId) → makes n ≡ true → named n ≡ true
  new_named n e = named_is n ∙ or-right (m n) (cond (was && is) (makes n) (p.mentioned n || makes n)) (elim (was && is) as (λ z. cond z (makes n) (p.mentioned n || makes n) ≡ true) [ true ↦ e | false ↦ or-right (p.mentioned n) (makes n) e ])

  full_named : (v : Bool) → ((was && is) ≡ true → v ≡ true) → (n : NodeId) (c : CellId) → made_by v placed n (is_here (how (p.target_of n) (To.Cell c))) ≡ true → named n ≡ true
  full_named v w n c e = elim (makes n) as (λ z. makes n ≡ z → named n ≡ true) [
    | true ↦ new_named n
    | false ↦ (λ h. elim (was && is) as (λ z. (was && is) ≡ z → named n ≡ true) [
      | true ↦ (λ q. let z : ◌≡◌ {A = Bool} true false = sym (void_full v (w q) e) ∙ sub n h in cc)
      | false ↦ (λ q. (owner n h q).named (put n (put_here n c (made_here v e)) h))
    ] refl)
  ] refl
    where
      made_here : (v : Bool) → made_by v placed n (is_here (how (p.target_of n) (To.Cell c))) ≡ true → is_here (how (p.target_of n) (To.Cell c)) ≡ true
      made_here true e = and-first (is_here (how (p.target_of n) (To.Cell c))) (placed n) e
      made_here false e = e

      void_full : (v : Bool) → v ≡ true → made_by v placed n (is_here (how (p.target_of n) (To.Cell c))) ≡ true → placed n ≡ true
      void_full true q e = and-second (is_here (how (p.target_of n) (To.Cell c))) (placed n) e
      void_full false q e = cc

  one_full : (a b a' b' : Bool) → a ≡ a' → b ≡ b' → {P : Type 0} → (a ≡ true → P) → (b ≡ true → P) → a' ≢ b' → P
  one_full true b a' b' e f x y q = x refl
  one_full false true a' b' e f x y q = y refl
  one_full false false a' b' e f x y q = absurd (q (sym e ∙ f))

  beside_made : (os : List Owned) {c d : List Slot} (xs ys : List CellMark) → Led l named c d (crossed_row l was is placed p.target_of xs ys)
      → Led l named (made_cells (void_part (placing was placed) p) os ++ c) (made_cells (void_part (placing is placed) p) os ++ d) (crossed_row l was is placed p.target_of (embed_made p os ++ xs) ys)
  beside_made [] xs ys w = w
  beside_made (o ∷ os) xs ys w =
      let put = is_here (how (p.target_of o.node) (To.Cell o.cell)) in
      led-kept l named o.cell o.node (is_here (how (target_of was o.node) (To.Cell o.cell))) (is_here (how (target_of is o.node) (To.Cell o.cell))) (read l (turned o.cell o.node (made_by was placed o.node put) (made_by is placed o.node put)))
      (ap (read l) (turned_is named o.cell o.node (made_by was placed o.node put) (made_by is placed o.node put) (λ e f. full_named was (and-first was is) o.node o.cell e) ∙ (λ i. step_cell named o.cell o.node (made_is was o i) (made_is is o i))))
      (one_full (made_by was placed o.node put) (made_by is placed o.node put) (is_here (how (target_of was o.node) (To.Cell o.cell))) (is_here (how (target_of is o.node) (To.Cell o.cell))) (made_is was o) (made_is is o) (full_named was (and-first was is) o.node o.cell) (full_named is (and-second was is) o.node o.cell))
      (beside_made os xs ys w)

  -- ## The row

  beside_cells : {c d : List Slot} (g : GainsItems SameCell c d) → NoGroupAtGained p g → AreOld makes c → AreOld makes d → NamesMoved m g
      → Led l named (carried_cells (void_part (placing was placed) p) c) (carried_cells (void_part (placing is placed) p) d) (crossed_row l was is placed p.target_of (embed_cells p c) (step_row m g))
  beside_cells no_more z o q w = (no_more, refl, tt)
  beside_cells (item_gained {y = s} {xs = c} {ys = d} g) z o q w =
      let rest = beside_cells g z.1 o q.1 w in
      rw z.0 (subst (Led l named (carried_cells (void_part (placing was placed) p) c) (record s { full = full_after (target_of is s.node) s.cell s.full } ∷ carried_cells (void_part (placing is placed) p) d))
      (sym (beside-gained (λ r. read l (crossed_piece was is placed p.target_of r)) p c s.cell s.node s.full (step_row m g)))
      (led-gained l named s.cell s.node (full_after (target_of is s.node) s.cell s.full) rest))
  beside_cells (item_kept {x = s} {y = u} {xs = c} {ys = d} a g) z o q w =
      let same : ◌≡◌ {A = Slot} (record { cell = s.cell; node = s.node; full = u.full }) u = λ i. record { cell = a.0 i; node = a.1 i; full = u.full } in
      let rest = beside_made (p.new_cells (Some s.cell)) (embed_cells p c) (step_row m g) (beside_cells g z o.1 q.1 w.1) in
      let one = led-kept l named s.cell s.node (full_after (target_of was s.node) s.cell s.full) (full_after (target_of is s.node) s.cell u.full) (read l (crossed_cell was is placed p.target_of (embed_cell p s.cell s.node s.full) (step_cell m s.cell s.node s.full u.full)))
      (ap (read l) (found_is s.cell s.node s.full u.full o.0)) (found_moved s.cell s.node s.full u.full o.0 w.0) rest in
      subst (λ (v : Slot). Led l named (carried_cells (void_part (placing was placed) p) (s ∷ c)) (carried_cells (void_part (placing is placed) p) (v ∷ d)) (crossed_row l was is placed p.target_of (embed_cells p (s ∷ c)) (step_cell m s.cell s.node s.full u.full ∷ step_row m g))) same
      (subst (Led l named (carried_cells (void_part (placing was placed) p) (s ∷ c)) (carried_cells (void_part (placing is placed) p) (record { cell = s.cell; node = s.node; full = u.full } ∷ d)))
      (sym (beside-kept (λ r. read l (crossed_piece was is placed p.target_of r)) p m s.cell s.node s.full u.full (embed_made p (p.new_cells (Some s.cell)) ++ embed_cells p c) (step_row m g))) one)

  row_is : (v : Bool) (c : List Slot) → carried_row (void_part (placing v placed) p) c ≡ row_after placed p v c
  row_is true c = refl
  row_is false c = refl

  -- the law of the bridge, with a look-up that tells what it has to
  pub row_crossed : {c d : List Slot} (g : GainsItems SameCell c d) → NoGroupAtGained p g → AreOld makes c → AreOld makes d → NamesMoved m g
      → Led l named (row_after placed p was c) (row_after placed p is d) (crossed_row l was is placed p.target_of (embed_row p c) (step_row m g))
  row_crossed {c} {d} g z o q w =
      subst (λ (x : List Slot). Led l named x (row_after placed p is d) (crossed_row l was is placed p.target_of (embed_row p c) (step_row m g))) (row_is was c)
      (subst (λ (x : List Slot). Led l named (carried_row (void_part (placing was placed) p) c) x (crossed_row l was is placed p.target_of (embed_row p c) (step_row m g))) (row_is is d)
      (beside_made (p.new_cells None) (embed_cells p c) (step_row m g) (beside_cells g z o q w)))
