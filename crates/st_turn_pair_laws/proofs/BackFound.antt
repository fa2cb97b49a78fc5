-- What the second of two steps finds, pulled back before the first, can be found, and agrees with what the first finds.
use Rattle.std.proofs.Common.{◌≡◌, ◌≢◌, ◌<◌, ◌≤◌, ◌+◌, ◌^◌, ◌++◌, ℕ, zero, suc, Bool, true, false, not, List, [], ◌∷◌, map, length, slice_get, Option, Some, None, cond, refl, sym, ap, ◌∙◌, subst, inl, inr, ◌⊎◌, arith}
use Rattle.std.specs.List.{AllZip, flat_map, list_any}
use Rattle.std.specs.Option.{option_map_or}
use Rattle.st_ids.specs.Listing.{AreDistinct, Has, item_of}
use Rattle.st_ids.specs.Order.{field_cmp, node_cmp, same_field}
use Rattle.st_ids.specs.Root.{root}
use Rattle.st_ids.proofs.Orders.{field_cmp_exact, field_cmp_total, node_cmp_total, same_field-itself}
use Rattle.st_ids.proofs.Listings.{has-item_of}
use Rattle.st_ids.proofs.Shared.{at_has, filter-has, filtered}
use Rattle.st_ids.specs.declared.names.Atom.{Atom}
use Rattle.st_ids.specs.declared.names.CellId.{CellId}
use Rattle.st_ids.specs.declared.names.FieldId.{FieldId}
use Rattle.st_ids.specs.declared.names.NodeId.{NodeId}
use Rattle.st_marks.specs.declared.marks.Loose.{Loose}
use Rattle.st_marks.specs.declared.marks.RegStep.{RegStep}
use Rattle.st_marks.specs.declared.marks.RowMarks.{RowMarks}
use Rattle.st_marks.specs.declared.places.Spot.{Spot}
use Rattle.st_marks.specs.declared.schemas.SchemaEntry.{SchemaEntry}
use Rattle.st_marks.specs.declared.steps.Step.{Step}
use Rattle.st_marks.specs.Agree.{Agrees, ComposeClash, IsSameView, LeadsUp, row_field}
use Rattle.st_marks.specs.Agree.LeadsUp.{one_up, further_up}
use Rattle.st_marks.specs.Document.{CanBeInEffect, node_of}
use Rattle.st_marks.specs.Embedding.{is_among}
use Rattle.st_marks.specs.Listings.{CellView, ListsCell, Listing, Places, cells_after, cells_before, listing_after_step, listing_before_step, nodes_new, nodes_standing, one_or_none, placed_in_register, placed_in_row, placed_nowhere}
use Rattle.st_marks.specs.Row.{spread}
use Rattle.st_marks.proofs.Members.{all-has, append_left, append_right, distinct-filter, flat_map-has, has-all, has-any, has-append, has-flat_map, has-map, map-has}
use Rattle.st_normal.specs.Rules.{IsFound, ObeysStepRules, entries_of_step, fields_of}
use Rattle.st_normal.proofs.NoRings.{among_has}
use Rattle.st_lemmas.proofs.Options.{one_some}
use Rattle.st_puts.proofs.Basics.{is-one, not-false, not-true, one-is, register-not-nowhere}
use Rattle.st_puts.proofs.MeaningFits.{rising_distinct}
use Rattle.st_puts.proofs.StepPlaces.{row-register, same-register}
use Rattle.st_normal_laws.specs.Seed.{CanBeFound, Finds, FoundHeld, FoundRow, IsBelow, IsFoundAt, cells_named, nodes_found}
use Rattle.st_normal_laws.specs.Two.{AgreeBeside, IsClosedAfter, IsClosedBeside, IsNamedAt, IsUnder, cell_key, node_key}
use Rattle.st_normal_laws.specs.inside.One.{found_row, over_all}
use Rattle.st_normal_step_laws.specs.inside.SeedOfStep.{finds_of_step, found_before, names_in_step, nodes_found_by, old_holes}
use Rattle.st_normal_step_laws.proofs.SeedOfStep.{can_be_found}
use Rattle.st_turn_pair_laws.specs.inside.Back.{back_cells, back_finds, back_regs, back_row}
use Rattle.st_turn_pair_laws.proofs.BackRows.{IsPartOf, back-cells, back-length, back-named, back-nodes, back-none, back-same, back-some, back-told, part-append, part-has, part-itself, part-once, part-sifted}
use Rattle.st_turn_pair_laws.proofs.Meeting.{IsUnnamed, IsUnowned, cells-meet, owner-old, registers-meet, rows-meet, stander-unplaced, nodes-meet}
use Rattle.st_turn_pair_laws.proofs.Seeds.{IsToldIn}
use Rattle.st_turn_pair_laws.proofs.Shown.{before-told, cell-left, found-register, found-row, has-at, item-reg, item-row, left-bare, left-empty, left-new_register, left-new_row, left-place, left-row, loose-in_no_register, loose-in_no_row, named-in_row, none-some, reg-finds, reg_key, row-finds, row-item, row_key, standing-told, stands-found, told-stands}
use Rattle.st_lemmas.proofs.Bools.{true-false}

-- ## Where no session reaches another number

-- what can be found can be found with other entries, and where names may go further
raised : (F G : ℕ) (W : Finds) (entries : List SchemaEntry) → F ≤ G → CanBeInEffect entries → CanBeFound F W
    → CanBeFound G (record { rows = W.rows; held = W.held; known = W.known; schemas = entries })
raised F G W entries le fit w = record {
  rows_once = w.rows_once;
  cells_once = w.cells_once;
  fields_once = w.fields_once;
  nodes_once = w.nodes_once;
  root_stays = w.root_stays;
  row_known = w.row_known;
  held_known = w.held_known;
  keys = w.keys;
  short = w.short;
  no_ring = w.no_ring;
  in_effect = fit;
  below_rows = λ r h. up r.node.0 (w.below_rows r h);
  below_cells = λ r c h i. up c.0 (w.below_cells r c h i);
  below_nodes = λ n h. up n.0 (w.below_nodes n h);
  below_fields = λ h i. up h.field.node.0 (w.below_fields h i);
}
  where
    up : (a : Atom) → IsBelow F a → IsBelow G a
    up a b = omega (arith, b, le)

distinct-of-map : {A B K : Type 0} (key : B → K) (g : A → B) (xs : List A) → AreDistinct (λ x. key (g x)) xs → AreDistinct key (map g xs)
distinct-of-map key g [] d = tt
distinct-of-map key g (x ∷ xs) d = (has-all (λ y. key y ≢ key (g x)) (map g xs) (λ y h. let z = has-map g xs y h in λ e. all-has (λ z. key (g z) ≢ key (g x)) xs z.0 d.0 z.1 (ap key z.2 ∙ e)), distinct-of-map key g xs d.1)

zip-none : (ys : List CellView) (v : CellView) → AllZip IsSameView [] ys → Has ys v → ⊥
zip-none [] v z h = h
zip-none (y ∷ ys) v z h = z

-- a thing that is named at a place is named by a cell
named-one : {K : Type 0} (key : CellView → Option K) (xs : List CellView) (k : ℕ) (c : K) → IsNamedAt key xs k c → (v : CellView) × Has xs v × (key v ≡ Some c)
named-one key [] k c h = absurd h
named-one key (x ∷ xs) zero c h = (x, inl refl, h)
named-one key (x ∷ xs) (suc k) c h = let r = named-one key xs k c h in (r.0, inr r.1, r.2)

cell-at : (xs : List CellView) (k : ℕ) (c : CellId) → IsNamedAt cell_key xs k c → Has (cells_named xs) c
cell-at xs k c h = let v = named-one cell_key xs k c h in flat_map-has (λ (x : CellView). one_or_none x.cell) xs v.0 c v.1 (is-one v.0.cell c v.2)

node-at : (xs : List CellView) (k : ℕ) (n : NodeId) → IsNamedAt node_key xs k n → Has (nodes_standing xs) n
node-at xs k n h = let v = named-one node_key xs k n h in let r = go v.0 v.0.full refl v.2 in told-stands xs v.0 n v.1 r.0 r.1
  where
    go : (v : CellView) (b : Bool) → v.full ≡ b → cond b v.node None ≡ Some n → (v.full ≡ true) × (v.node ≡ Some n)
    go v true e f = (e, f)
    go v false e f = absurd (none-some f)

-- ## Who is found

pub row-found : (W : Finds) (r : FoundRow) (n : NodeId) → Has W.rows r → Has (nodes_standing r.cells) n → Has (nodes_found W) n
row-found W r n h i = append_left (flat_map (λ (r : FoundRow). nodes_standing r.cells) W.rows) (flat_map (λ (h : FoundHeld). one_or_none h.node) W.held) n (flat_map-has (λ (r : FoundRow). nodes_standing r.cells) W.rows r n h i)

pub held-found : (W : Finds) (h : FoundHeld) (n : NodeId) → Has W.held h → h.node ≡ Some n → Has (nodes_found W) n
held-found W h n i e = append_right (flat_map (λ (r : FoundRow). nodes_standing r.cells) W.rows) (flat_map (λ (h : FoundHeld). one_or_none h.node) W.held) n (flat_map-has (λ (h : FoundHeld). one_or_none h.node) W.held h n i (is-one h.node n e))

pub found-where : (W : Finds) (n : NodeId) → Has (nodes_found W) n → ((r : FoundRow) × Has W.rows r × Has (nodes_standing r.cells) n) ⊎ ((h : FoundHeld) × Has W.held h × (h.node ≡ Some n))
found-where W n h = elim (has-append (flat_map (λ (r : FoundRow). nodes_standing r.cells) W.rows) (flat_map (λ (h : FoundHeld). one_or_none h.node) W.held) n h) [
  | inl i ↦ inl (has-flat_map (λ (r : FoundRow). nodes_standing r.cells) W.rows n i)
  | inr i ↦ (let k = has-flat_map (λ (h : FoundHeld). one_or_none h.node) W.held n i in inr (k.0, k.1, one-is k.0.node n k.2))
]

under-found : (W : Finds) (n : NodeId) → Has (nodes_found W) n → (t : Spot) × IsUnder W n t
under-found W n h = elim (found-where W n h) [
  | inl r ↦ (Spot.Register (row_field r.0.node), inl (r.0, r.1, r.2, refl))
  | inr k ↦ (Spot.Register k.0.field, inr (k.0, k.1, k.2, refl))
]

found-under : (W : Finds) (n : NodeId) (t : Spot) → IsUnder W n t → Has (nodes_found W) n
found-under W n t (inl r) = row-found W r.0 n r.1 r.2
found-under W n t (inr h) = held-found W h.0 n h.1 h.2

-- whom one finds is decided, so the second of two may always leave it to the first
closed-after : (A B : Finds) → IsClosedAfter B A
closed-after A B n p s u e = go (is_among (nodes_found B) p) refl (is_among (nodes_found A) p) refl
  where
    not-in : (W : Finds) → is_among (nodes_found W) p ≡ false → (t : Spot) → IsUnder W p t → ⊥
    not-in W f t u = true-false ((among_has (nodes_found W) p).1 (found-under W p t u)) f

    go : (b : Bool) → is_among (nodes_found B) p ≡ b → (a : Bool) → is_among (nodes_found A) p ≡ a → ((t : Spot) × IsUnder B p t) ⊎ ((t : Spot) × IsUnder A p t) ⊎ ((t : Spot) → IsUnder A p t ⊎ IsUnder B p t → ⊥)
    go true f a g = inl (under-found B p ((among_has (nodes_found B) p).0 f))
    go false f true g = inr (inl (under-found A p ((among_has (nodes_found A) p).0 g)))
    go false f false g = inr (inr (λ t u. elim u [ inl v ↦ not-in A g t v | inr v ↦ not-in B f t v ]))

-- a climb along what one finds is one along what another finds that finds the same there
leads-along : (V W : Finds) → ((n : NodeId) (s : Spot) → IsFoundAt V n s → IsFoundAt W n s) → (n m : NodeId) → LeadsUp (IsFoundAt V) n m → LeadsUp (IsFoundAt W) n m
leads-along V W sub n m (one_up s a e) = one_up s (sub n s a) e
leads-along V W sub n m (further_up {p = p} s a e l) = further_up s (sub n s a) e (leads-along V W sub p m l)

-- whom a step finds nowhere it finds in no row and in no register
pub loose-unfound : (S : Step) → ObeysStepRules S → (l : Loose) → Has S.loose l → Has (nodes_found (finds_of_step S)) l.node → ⊥
loose-unfound S w l i h = elim (found-where (finds_of_step S) l.node h) [
  | inl r ↦ (let q = has-map found_row S.rows r.0 r.1 in loose-in_no_row S w l q.0 i q.1 (stands-found (spread q.0.marks) l.node (subst (λ (r : FoundRow). Has (nodes_standing r.cells) l.node) (sym q.2) r.2)))
  | inr k ↦ (let q = has-map found_before S.regs k.0 k.1 in loose-in_no_register S w l q.0 i q.1 (ap (λ (h : FoundHeld). h.node) q.2 ∙ k.2))
]

-- ## Two steps

-- above all sessions that either names
abbrev pub above_both : Step → Step → ℕ
above_both S T = over_all (names_in_step S) + over_all (names_in_step T)

module _ (S T : Step) (s : ObeysStepRules S) (t : ObeysStepRules T) (g : Agrees (ComposeClash S T)) (before : List SchemaEntry) (fit : CanBeInEffect before) where
  abbrev L : Listing
  L = listing_after_step S

  abbrev M : Listing
  M = listing_before_step T

  abbrev F : ℕ
  F = above_both S T

  -- what the first finds
  abbrev pub A : Finds
  A = record { rows = map found_row S.rows; held = map found_before S.regs; known = nodes_found_by S ++ old_holes S; schemas = before }

  abbrev pub B : Finds
  B = back_finds S T before

  abbrev V : Finds
  V = finds_of_step T

  pub first_found : CanBeFound F A
  first_found = raised (over_all (names_in_step S)) F (finds_of_step S) before (omega arith) fit (can_be_found S s)

  then_found : CanBeFound F (record { rows = V.rows; held = V.held; known = V.known; schemas = before })
  then_found = raised (over_all (names_in_step T)) F V before (omega arith) fit (can_be_found T t)

  -- ## A row that is pulled back

  abbrev Item : NodeId → Option RowMarks
  Item n = item_of node_cmp row_key S.rows n

  abbrev cells_of : RowMarks → Option RowMarks → List CellView
  cells_of q o = option_map_or (λ (p : RowMarks). back_cells (spread p.marks) (cells_before (spread q.marks))) o (cells_before (spread q.marks))

  module _ (q : RowMarks) (i : Has T.rows q) where
    seen : (k : ℕ) (y : CellView) (c : CellId) (n : NodeId) → y.cell ≡ Some c → slice_get (cells_before (spread q.marks)) k ≡ Some y → y.node ≡ Some n → ListsCell M c q.node k (Some n)
    seen k y c n a b d = record {
      cells = cells_before (spread q.marks);
      full = y.full;
      listed = found-row T t q i;
      at_place = b ∙ (λ j. Some (record { cell = a j; node = d j; full = y.full }));
    }

    stands : (k : ℕ) (y : CellView) (c : CellId) (n : NodeId) → y.cell ≡ Some c → slice_get (cells_before (spread q.marks)) k ≡ Some y → y.node ≡ Some n → y.full ≡ true → Places M n (Spot.Row q.node c)
    stands k y c n a b d f = placed_in_row q.node n c (cells_before (spread q.marks)) k (found-row T t q i) (b ∙ (λ j. Some (record { cell = a j; node = d j; full = f j })))

    -- an owner that is told there is one that the second finds at a place of which the first tells none
    pub row-told : (v : CellView) (n : NodeId) → Has (back_row S.rows q).cells v → v.node ≡ Some n
        → (k : ℕ) × (c : CellId) × ListsCell M c q.node k (Some n) × (v.full ≡ true → Places M n (Spot.Row q.node c)) × IsUnowned S T s t g q.node k
    row-told v n h e = go (Item q.node) refl h
      where
        go : (o : Option RowMarks) → Item q.node ≡ o → Has (cells_of q o) v
            → (k : ℕ) × (c : CellId) × ListsCell M c q.node k (Some n) × (v.full ≡ true → Places M n (Spot.Row q.node c)) × IsUnowned S T s t g q.node k
        go None f h =
            let k = has-at (cells_before (spread q.marks)) v h in
            let c = before-told (spread q.marks) k.0 v n k.1 e in (
              k.0,
              c.0,
              seen k.0 v c.0 n c.1 k.1 e,
              λ full. stands k.0 v c.0 n c.1 k.1 e full,
              λ c' o' l. none-some (ap (λ cells. slice_get cells k.0) (sym (left-bare S s q.node f l.cells l.listed)) ∙ l.at_place),
            )
        go (Some p) f h =
            let p' = item-row S s q.node p f in
            let r = back-told (spread p.marks) (cells_before (spread q.marks)) v n h e in
            let c = before-told (spread q.marks) r.0 r.2 n r.5 r.6 in (
              r.0,
              c.0,
              seen r.0 r.2 c.0 n c.1 r.5 r.6,
              λ full. stands r.0 r.2 c.0 n c.1 r.5 r.6 (r.7 full),
              λ c' o' l.
                  let same = one_some (cells_after (spread p.marks)) l.cells (sym (left-row S s p p'.0) ∙ ap L.row p'.1 ∙ l.listed) in
                  let w = one_some r.1 (record { cell = Some c'; node = Some o'; full = l.full }) (sym r.3 ∙ ap (λ cells. slice_get cells r.0) same ∙ l.at_place) in
                  none-some (sym r.4 ∙ ap (λ (x : CellView). x.node) w),
            )

    -- a cell that is named there is one that the second finds at a place where the first names none
    pub row-named : (c : CellId) → Has (cells_named (back_row S.rows q).cells) c → (k : ℕ) × (o : Option NodeId) × ListsCell M c q.node k o × IsUnnamed S T s t g q.node k
    row-named c h = go (Item q.node) refl h
      where
        lists : (k : ℕ) (y : CellView) → slice_get (cells_before (spread q.marks)) k ≡ Some y → y.cell ≡ Some c → ListsCell M c q.node k y.node
        lists k y b a = record {
          cells = cells_before (spread q.marks);
          full = y.full;
          listed = found-row T t q i;
          at_place = b ∙ (λ j. Some (record { cell = a j; node = y.node; full = y.full }));
        }

        go : (o : Option RowMarks) → Item q.node ≡ o → Has (cells_named (cells_of q o)) c → (k : ℕ) × (o : Option NodeId) × ListsCell M c q.node k o × IsUnnamed S T s t g q.node k
        go None f h =
            let v = has-flat_map (λ (x : CellView). one_or_none x.cell) (cells_before (spread q.marks)) c h in
            let k = has-at (cells_before (spread q.marks)) v.0 v.1 in (
              k.0,
              v.0.node,
              lists k.0 v.0 k.1 (one-is v.0.cell c v.2),
              λ c' o' l. none-some (ap (λ cells. slice_get cells k.0) (sym (left-bare S s q.node f l.cells l.listed)) ∙ l.at_place),
            )
        go (Some p) f h =
            let p' = item-row S s q.node p f in
            let r = back-named (spread p.marks) (cells_before (spread q.marks)) c h in (
              r.0,
              r.1.node,
              lists r.0 r.1 r.3 r.4,
              λ c' o' l.
                  let same = one_some (cells_after (spread p.marks)) l.cells (sym (left-row S s p p'.0) ∙ ap L.row p'.1 ∙ l.listed) in
                  let w = one_some _ (record { cell = Some c'; node = o'; full = l.full }) (sym r.2 ∙ ap (λ cells. slice_get cells r.0) same ∙ l.at_place) in
                  none-some (ap (λ (x : CellView). x.cell) w),
            )

    -- it is a part of what the second sees
    pub row-nodes : IsPartOf (nodes_standing (back_row S.rows q).cells) (nodes_standing (cells_before (spread q.marks)))
    row-nodes = go (Item q.node)
      where
        go : (o : Option RowMarks) → IsPartOf (nodes_standing (cells_of q o)) (nodes_standing (cells_before (spread q.marks)))
        go None = part-itself (nodes_standing (cells_before (spread q.marks)))
        go (Some p) = back-nodes (spread p.marks) (cells_before (spread q.marks))

    pub row-cells : IsPartOf (cells_named (back_row S.rows q).cells) (cells_named (cells_before (spread q.marks)))
    row-cells = go (Item q.node)
      where
        go : (o : Option RowMarks) → IsPartOf (cells_named (cells_of q o)) (cells_named (cells_before (spread q.marks)))
        go None = part-itself (cells_named (cells_before (spread q.marks)))
        go (Some p) = back-cells (spread p.marks) (cells_before (spread q.marks))

    row-some : (v : CellView) → Has (back_row S.rows q).cells v → (y : CellView) × Has (cells_before (spread q.marks)) y
    row-some v h = go (Item q.node) h
      where
        go : (o : Option RowMarks) → Has (cells_of q o) v → (y : CellView) × Has (cells_before (spread q.marks)) y
        go None h = (v, h)
        go (Some p) h = back-some (spread p.marks) (cells_before (spread q.marks)) v h

    row-short : length (back_row S.rows q).cells ≤ length (cells_before (spread q.marks))
    row-short = go (Item q.node)
      where
        go : (o : Option RowMarks) → length (cells_of q o) ≤ length (cells_before (spread q.marks))
        go None = omega arith
        go (Some p) = back-length (spread p.marks) (cells_before (spread q.marks))

    -- nothing is pulled back of the row of a node that the first makes
    row-old : (v : CellView) → Has (back_row S.rows q).cells v → Has (nodes_new S.new) q.node → ⊥
    row-old v h new = go (Item q.node) refl h
      where
        go : (o : Option RowMarks) → Item q.node ≡ o → Has (cells_of q o) v → ⊥
        go None f h = zip-none (cells_before (spread q.marks)) v (rows-meet S T s t g q.node [] (cells_before (spread q.marks)) (left-new_row S s q.node f new) (found-row T t q i)) h
        go (Some p) f h =
            let p' = item-row S s q.node p f in
            back-none (spread p.marks) (cells_before (spread q.marks)) v (all-has (λ (r : RowMarks). Has (nodes_new S.new) r.node → cells_before (spread r.marks) ≡ []) S.rows p s.common.new_rows p'.0 (subst (Has (nodes_new S.new)) (sym p'.1) new)) h

    -- where the first lists it too, it is as both show it
    row-listed : (p : RowMarks) → Has S.rows p → p.node ≡ q.node → AllZip IsSameView (cells_before (spread p.marks)) (back_row S.rows q).cells
    row-listed p h e = subst (λ o. AllZip IsSameView (cells_before (spread p.marks)) (cells_of q o)) (sym (ap Item (sym e) ∙ row-item S s p h))
        (back-same (spread p.marks) (cells_before (spread q.marks)) (rows-meet S T s t g q.node (cells_after (spread p.marks)) (cells_before (spread q.marks)) (ap L.row (sym e) ∙ left-row S s p h) (found-row T t q i)))

  back-row : (r : FoundRow) → Has B.rows r → (q : RowMarks) × Has T.rows q × (back_row S.rows q ≡ r)
  back-row r h = has-map (back_row S.rows) T.rows r h

  -- ## A register that is pulled back

  pub unlisted : (f : FieldId) → not (list_any (λ (q : RegStep). same_field q.field f) S.regs) ≡ true → item_of field_cmp reg_key S.regs f ≡ None
  unlisted f e = go (item_of field_cmp reg_key S.regs f) refl
    where
      go : (o : Option RegStep) → item_of field_cmp reg_key S.regs f ≡ o → o ≡ None
      go None h = refl
      go (Some q) h = let i = item-reg S s f q h in
          absurd (not-true (list_any (λ (q : RegStep). same_field q.field f) S.regs) e (has-any (λ (q : RegStep). same_field q.field f) S.regs q i.0 (ap (λ x. same_field x f) i.1 ∙ same_field-itself f)))

  back-held : (h : FoundHeld) → Has B.held h → (r : RegStep) × Has T.regs r × (item_of field_cmp reg_key S.regs r.field ≡ None) × (found_before r ≡ h)
  back-held h i =
      let r = has-map found_before (back_regs S.regs T.regs) h i in
      let f = filtered (λ (r : RegStep). not (list_any (λ (q : RegStep). same_field q.field r.field) S.regs)) T.regs r.0 r.1 in
      (r.0, f.0, unlisted r.0.field f.1, r.2)

  -- ## Whom the first makes or finds isn't pulled back

  pub told-old : (n : NodeId) → IsToldIn B.rows n → Has (nodes_new S.new) n → ⊥
  told-old n (r, h, (v, j, e)) new =
      let q = back-row r h in
      let w = row-told q.0 q.1 v n (subst (λ (r : FoundRow). Has r.cells v) (sym q.2) j) e in
      owner-old S T s t g w.1 n q.0.node w.0 w.2 w.4 new

  -- whom it tells the second sees
  pub told-seen : (n : NodeId) → IsToldIn B.rows n → (q : RowMarks) × (y : CellView) × Has T.rows q × Has (cells_before (spread q.marks)) y × (y.node ≡ Some n)
  told-seen n (r, h, (v, j, e)) =
      let q = back-row r h in
      let w = row-told q.0 q.1 v n (subst (λ (r : FoundRow). Has r.cells v) (sym q.2) j) e in
      let same = one_some w.2.cells (cells_before (spread q.0.marks)) (sym w.2.listed ∙ found-row T t q.0 q.1) in
      (q.0, record { cell = Some w.1; node = Some n; full = w.2.full }, q.1, at_has (cells_before (spread q.0.marks)) w.0 _ (ap (λ cells. slice_get cells w.0) (sym same) ∙ w.2.at_place), refl)

  pub stranger : (n : NodeId) → IsFound (entries_of_step S) n ⊎ Has (nodes_new S.new) n → Has (nodes_found B) n → ⊥
  stranger n own h = elim (found-where B n h) [ inl r ↦ in-row r.0 r.1 r.2 | inr k ↦ in-register k.0 k.1 k.2 ]
    where
      left : (x : Spot) × Places L n x
      left = left-place S s n own

      in-row : (r : FoundRow) → Has B.rows r → Has (nodes_standing r.cells) n → ⊥
      in-row r i j =
          let q = back-row r i in
          let v = standing-told r.cells n j in
          let w = row-told q.0 q.1 v.0 n (subst (λ (r : FoundRow). Has r.cells v.0) (sym q.2) v.1) v.3 in
          stander-unplaced S T s t g w.1 n q.0.node w.0 left.0 w.2 (w.3 v.2) w.4 left.1

      in-register : (h : FoundHeld) → Has B.held h → h.node ≡ Some n → ⊥
      in-register h i e =
          let r = back-held h i in
          nodes-meet S T s t g n left.0 (Spot.Register r.0.field) left.1 (placed_in_register r.0.field n (found-register T t r.0 r.1 ∙ ap (λ o. Some o) (ap (λ (h : FoundHeld). h.node) r.3 ∙ e))) (λ f. at r.0.field r.2 left.0 left.1 f)
        where
          at : (f : FieldId) → item_of field_cmp reg_key S.regs f ≡ None → (x : Spot) → Places L n x → x ≡ Spot.Register f → ⊥
          at f free x (placed_in_row r n c cells k listed here) e = row-register e
          at f free x (placed_in_register k n listed) e = left-empty S s f free n (ap L.register (sym (same-register e)) ∙ listed)
          at f free x (placed_nowhere n listed) e = register-not-nowhere f (sym e)

  -- whom the first finds in a row or a register
  pub first-finds : (n : NodeId) → Has (nodes_found A) n → IsFound (entries_of_step S) n
  first-finds n h = elim (found-where A n h) [
    | inl r ↦ (let q = has-map found_row S.rows r.0 r.1 in row-finds S s q.0 n q.1 (stands-found (spread q.0.marks) n (subst (λ (r : FoundRow). Has (nodes_standing r.cells) n) (sym q.2) r.2)))
    | inr k ↦ (let q = has-map found_before S.regs k.0 k.1 in reg-finds S s q.0 n q.1 (ap (λ (h : FoundHeld). h.node) q.2 ∙ k.2))
  ]

  -- ## It can be found

  nodes-part : IsPartOf (nodes_found B) (nodes_found V)
  nodes-part = part-append
      (all-rows T.rows (λ q i. i))
      (part-sifted (λ (r : RegStep). not (list_any (λ (q : RegStep). same_field q.field r.field) S.regs)) (λ (h : FoundHeld). one_or_none h.node) found_before T.regs)
    where
      all-rows : (qs : List RowMarks) → ((q : RowMarks) → Has qs q → Has T.rows q)
          → IsPartOf (flat_map (λ (r : FoundRow). nodes_standing r.cells) (map (back_row S.rows) qs)) (flat_map (λ (r : FoundRow). nodes_standing r.cells) (map found_row qs))
      all-rows [] sub = part-itself []
      all-rows (q ∷ qs) sub = part-append (row-nodes q (sub q (inl refl))) (all-rows qs (λ p i. sub p (inr i)))

  cells-part : (qs : List RowMarks) → ((q : RowMarks) → Has qs q → Has T.rows q)
      → IsPartOf (flat_map (λ (r : FoundRow). cells_named r.cells) (map (back_row S.rows) qs)) (flat_map (λ (r : FoundRow). cells_named r.cells) (map found_row qs))
  cells-part [] sub = part-itself []
  cells-part (q ∷ qs) sub = part-append (row-cells q (sub q (inl refl))) (cells-part qs (λ p i. sub p (inr i)))

  -- who is there and isn't made by the first
  pub still-known : (n : NodeId) → Has (root ∷ V.known) n → (Has (nodes_new S.new) n → ⊥) → Has (root ∷ B.known) n
  still-known n (inl e) old = inl e
  still-known n (inr h) old = inr (filter-has (λ n. not (is_among (nodes_new S.new) n)) V.known n h (not-false (is_among (nodes_new S.new) n) (λ e. old ((among_has (nodes_new S.new) n).0 e))))

  field-old : (r : RegStep) (n : NodeId) → Has T.regs r → item_of field_cmp reg_key S.regs r.field ≡ None → r.before ≡ Some n → Has (nodes_new S.new) r.field.node → ⊥
  field-old r n i free e new = none-some (registers-meet S T s t g r.field None r.before (left-new_register S s r.field free new) (found-register T t r i) ∙ e)

  found-sub : (n : NodeId) (x : Spot) → IsFoundAt B n x → IsFoundAt V n x
  found-sub n x (inl (r, c, h, i, e)) = let q = back-row r h in
      inl (found_row q.0, c, map-has found_row T.rows q.0 q.1, part-has (row-nodes q.0 q.1) n (subst (λ (r : FoundRow). Has (nodes_standing r.cells) n) (sym q.2) i), e ∙ ap (λ (r : FoundRow). Spot.Row r.node c) (sym q.2))
  found-sub n x (inr (h, i, e, f)) = let r = back-held h i in
      inr (found_before r.0, map-has found_before T.regs r.0 r.1, ap (λ (h : FoundHeld). h.node) r.3 ∙ e, f ∙ ap (λ (h : FoundHeld). Spot.Register h.field) (sym r.3))

  -- nor does what is pulled back find whom the second finds nowhere
  pub back-loose : (l : Loose) → Has T.loose l → Has (nodes_found B) l.node → ⊥
  back-loose l i h = loose-unfound T t l i (part-has nodes-part l.node h)

  pub back_found : CanBeFound F B
  back_found = record {
    rows_once = distinct-of-map (λ (r : FoundRow). r.node) (back_row S.rows) T.rows (rising_distinct node_cmp node_cmp_total row_key T.rows t.rising.rows);
    cells_once = part-once (cells-part T.rows (λ q i. i)) then_found.cells_once;
    fields_once = distinct-of-map (λ (h : FoundHeld). h.field) found_before (back_regs S.regs T.regs)
        (distinct-filter reg_key (λ (r : RegStep). not (list_any (λ (q : RegStep). same_field q.field r.field) S.regs)) T.regs (rising_distinct field_cmp field_cmp_total reg_key T.regs t.rising.regs));
    nodes_once = part-once nodes-part then_found.nodes_once;
    root_stays = λ h. then_found.root_stays (part-has nodes-part root h);
    row_known = λ r v h i.
        let q = back-row r h in
        let j = subst (λ (r : FoundRow). Has r.cells v) (sym q.2) i in
        let y = row-some q.0 q.1 v j in
        subst (λ (r : FoundRow). Has (root ∷ B.known) r.node) q.2 (still-known q.0.node (then_found.row_known (found_row q.0) y.0 (map-has found_row T.rows q.0 q.1) y.1) (λ new. row-old q.0 q.1 v j new));
    held_known = λ h n i e.
        let r = back-held h i in
        let f = ap (λ (h : FoundHeld). h.node) r.3 ∙ e in
        let k = then_found.held_known (found_before r.0) n (map-has found_before T.regs r.0 r.1) f in (
          still-known n k.0 (λ new. stranger n (inr new) (held-found B h n i e)),
          subst (λ (h : FoundHeld). Has (root ∷ B.known) h.field.node) r.3 (still-known r.0.field.node k.1 (λ new. field-old r.0 n r.1 r.2 f new)),
        );
    keys = λ h n i e. let r = back-held h i in subst (λ (h : FoundHeld). h.field.key.0 ≢ []) r.3 (then_found.keys (found_before r.0) n (map-has found_before T.regs r.0 r.1) (ap (λ (h : FoundHeld). h.node) r.3 ∙ e));
    short = λ r h. let q = back-row r h in subst (λ (r : FoundRow). length r.cells < 2 ^ 32) q.2 (less (row-short q.0 q.1) (then_found.short (found_row q.0) (map-has found_row T.rows q.0 q.1)));
    no_ring = λ n l. then_found.no_ring n (leads-along B V found-sub n n l);
    in_effect = fit;
    below_rows = λ r h. let q = back-row r h in subst (λ (r : FoundRow). IsBelow F r.node.0) q.2 (then_found.below_rows (found_row q.0) (map-has found_row T.rows q.0 q.1));
    below_cells = λ r c h i. let q = back-row r h in then_found.below_cells (found_row q.0) c (map-has found_row T.rows q.0 q.1) (part-has (row-cells q.0 q.1) c (subst (λ (r : FoundRow). Has (cells_named r.cells) c) (sym q.2) i));
    below_nodes = λ n h. then_found.below_nodes n (part-has nodes-part n h);
    below_fields = λ h i. let r = back-held h i in subst (λ (h : FoundHeld). IsBelow F h.field.node.0) r.3 (then_found.below_fields (found_before r.0) (map-has found_before T.regs r.0 r.1));
  }
    where
      less : {m n : ℕ} → m ≤ n → n < 2 ^ 32 → m < 2 ^ 32
      less a b = omega (arith, a, b)

  -- ## It agrees with what the first finds

  apart-cells : (p : RowMarks) (q : RowMarks) (c : CellId) → Has S.rows p → Has T.rows q → Has (cells_named (cells_before (spread p.marks))) c → Has (cells_named (back_row S.rows q).cells) c → ⊥
  apart-cells p q c i j h k =
      let l = cell-left S s p c i (named-in_row (spread p.marks) c h) in
      let w = row-named q j c k in
      cells-meet S T s t g c p.node q.node l.0 w.0 l.1 w.1 l.2 w.2 (λ same. w.3 c l.1 (subst (λ k. ListsCell L c q.node k l.1) same.1 (subst (λ n. ListsCell L c n l.0 l.1) same.0 l.2)))

  apart-held : (h k : FoundHeld) → Has A.held h → Has B.held k → h.field ≡ k.field → ⊥
  apart-held h k i j e =
      let p = has-map found_before S.regs h i in
      let r = back-held k j in
      none-some (sym r.2 ∙ ap (item_of field_cmp reg_key S.regs) (ap (λ (h : FoundHeld). h.field) r.3 ∙ sym e ∙ ap (λ (h : FoundHeld). h.field) (sym p.2)) ∙ has-item_of field_cmp field_cmp_total field_cmp_exact reg_key S.regs p.0 s.rising.regs p.1)

  first-closed : IsClosedBeside A B
  first-closed n p x u e = go (is_among (nodes_found A) p) refl
    where
      row-in : (r : FoundRow) → Has A.rows r → Has (fields_of (entries_of_step S)) r.node
      row-in r h = let q = has-map found_row S.rows r h in subst (λ (r : FoundRow). Has (fields_of (entries_of_step S)) r.node) q.2
          (append_left (map row_key S.rows) (map (λ (f : FieldId). f.node) (entries_of_step S).registers) q.0.node (map-has row_key S.rows q.0 q.1))

      held-in : (h : FoundHeld) → Has A.held h → Has (fields_of (entries_of_step S)) h.field.node
      held-in h i = let q = has-map found_before S.regs h i in subst (λ (h : FoundHeld). Has (fields_of (entries_of_step S)) h.field.node) q.2
          (append_right (map row_key S.rows) (map (λ (f : FieldId). f.node) (entries_of_step S).registers) q.0.field.node (map-has (λ (f : FieldId). f.node) (entries_of_step S).registers q.0.field (map-has reg_key S.regs q.0 q.1)))

      in-field : IsUnder A n x → Has (fields_of (entries_of_step S)) p
      in-field (inl r) = subst (Has (fields_of (entries_of_step S))) (one_some r.0.node p (sym (ap node_of r.3) ∙ e)) (row-in r.0 r.1)
      in-field (inr h) = subst (Has (fields_of (entries_of_step S))) (one_some h.0.field.node p (sym (ap node_of h.3) ∙ e)) (held-in h.0 h.1)

      -- one above that isn't found by the first isn't by the second either
      not-back : Has (nodes_found B) p → ⊥
      not-back h = elim (all-has (λ (n : NodeId). (n ≡ root) ⊎ Has (nodes_new S.new) n ⊎ IsFound (entries_of_step S) n) (fields_of (entries_of_step S)) p s.common.fields_found (in-field u)) [
        | inl q ↦ back_found.root_stays (subst (Has (nodes_found B)) q h)
        | inr a ↦ elim a [ inl new ↦ stranger p (inr new) h | inr f ↦ stranger p (inl f) h ]
      ]

      go : (b : Bool) → is_among (nodes_found A) p ≡ b → ((t : Spot) × IsUnder A p t) ⊎ ((t : Spot) → IsUnder A p t ⊎ IsUnder B p t → ⊥)
      go true f = inl (under-found A p ((among_has (nodes_found A) p).0 f))
      go false f = inr (λ t v. elim v [
        | inl a ↦ true-false ((among_has (nodes_found A) p).1 (found-under A p t a)) f
        | inr b ↦ not-back (found-under B p t b)
      ])

  pub agree_beside : AgreeBeside A B
  agree_beside = record {
    rows = λ p q h i e.
        let a = has-map found_row S.rows p h in
        let b = back-row q i in
        subst (λ (q : FoundRow). AllZip IsSameView p.cells q.cells) b.2 (subst (λ (p : FoundRow). AllZip IsSameView p.cells (back_row S.rows b.0).cells) a.2
        (row-listed b.0 b.1 a.0 a.1 (ap (λ (r : FoundRow). r.node) a.2 ∙ e ∙ ap (λ (r : FoundRow). r.node) (sym b.2))));
    cells = λ p q k l c h i x y.
        let a = has-map found_row S.rows p h in
        let b = back-row q i in
        absurd (apart-cells a.0 b.0 c a.1 b.1 (subst (λ (r : FoundRow). Has (cells_named r.cells) c) (sym a.2) (cell-at p.cells k c x)) (subst (λ (r : FoundRow). Has (cells_named r.cells) c) (sym b.2) (cell-at q.cells l c y)));
    nodes = λ p q k l n h i x y. absurd (stranger n (inl (first-finds n (row-found A p n h (node-at p.cells k n x)))) (row-found B q n i (node-at q.cells l n y)));
    held = λ h k i j e. absurd (apart-held h k i j e);
    held_once = λ h k n i j e f. absurd (stranger n (inl (first-finds n (held-found A h n i e))) (held-found B k n j f));
    row_held = λ p k n h j i e. stranger n (inl (first-finds n (row-found A p n h i))) (held-found B k n j e);
    held_row = λ h q n i j e k. stranger n (inl (first-finds n (held-found A h n i e))) (row-found B q n j k);
    first_closed = first-closed;
    second_closed = closed-after A B;
  }
