-- A step that passes a change moves none of the nodes that the change's intent mentions.
use Rattle.std.proofs.Common.{◌≡◌, ◌≢◌, ℕ, zero, suc, Bool, true, false, not, ◌||◌, List, [], ◌∷◌, map, length, Option, Some, None, IsSome, cond, refl, sym, ap, ◌∙◌, subst, inl, inr, ◌⊎◌, option_and_then}
use Rattle.std.specs.List.{AllByRecursion, list_any}
use Rattle.std.specs.Option.{option_map_or}
use Rattle.st_ids.specs.Listing.{item_of}
use Rattle.st_ids.specs.Order.{field_cmp, node_cmp, same_node}
use Rattle.st_ids.specs.Root.{root}
use Rattle.st_ids.specs.declared.names.FieldId.{FieldId}
use Rattle.st_ids.specs.declared.names.NodeId.{NodeId}
use Rattle.st_ids.proofs.Orders.{same_node-true}
use Rattle.st_marks.specs.declared.changes.Change.{Change}
use Rattle.st_marks.specs.declared.intents.Intent.{Intent}
use Rattle.st_marks.specs.declared.intents.To.{To}
use Rattle.st_marks.specs.declared.marks.How.TheVariants.{Stay, Here, Leave}
use Rattle.st_marks.specs.declared.marks.Loose.{Loose}
use Rattle.st_marks.specs.declared.marks.RegMark.{RegMark}
use Rattle.st_marks.specs.declared.marks.RegStep.{RegStep}
use Rattle.st_marks.specs.declared.marks.RowMarks.{RowMarks}
use Rattle.st_marks.specs.declared.places.Slot.{Slot}
use Rattle.st_marks.specs.declared.places.Spot.{Spot}
use Rattle.st_marks.specs.declared.steps.Step.{Step}
use Rattle.st_marks.specs.Document.{Document, above, climb, content}
use Rattle.st_marks.specs.Embedding.{IsEmbedding, IsMentionedByIntent, is_loose, is_nowhere, register_part, row_marks, row_part, tells}
use Rattle.st_marks.specs.Extends.{GainsItems, IsExtendedBy, no_more, item_gained, item_kept}
use Rattle.st_marks.specs.Intent.{put_of, same_option}
use Rattle.st_marks.specs.Listings.{cells_before}
use Rattle.st_marks.specs.Register.{RegisterPart, comes_in, embed_register, holds_mentioned, how_held}
use Rattle.st_marks.specs.Row.{CellMark, Counted, Gap, Touch, Make, Fill, SameCell, counted_cells, embed_row, how, merge, spread, step_cell, step_row}
use Rattle.st_marks.specs.Step.{IsMentionedByStep, IsSchemaStep, IsStep}
use Rattle.st_marks.proofs.Climb.{above_known, same_spot}
use Rattle.st_marks.proofs.Shared.{same-held}
use Rattle.st_rows.proofs.KindLaws.{spread-merge}
use Rattle.st_over.proofs.Listed.{rows_read}
use Rattle.st_read_laws.specs.Reading.{read, read_change, read_step}
use Rattle.st_passing.specs.Passing.{do_not_meet}
use Rattle.st_passing.specs.Whole.{Passes, row_in}

-- ## Rows that only one of them lists don't meet

-- marks as a step has them: it puts no node where it is
abbrev IsOfStep : CellMark → Type 0
IsOfStep Counted = Unit {0}
IsOfStep (Gap c) = Unit {0}
IsOfStep (Touch c n Stay) = Unit {0}
IsOfStep (Touch c n Here) = ⊥
IsOfStep (Touch c n Leave) = Unit {0}
IsOfStep (Make c n b) = Unit {0}
IsOfStep (Fill c n) = Unit {0}

cell_of_step : (m : NodeId → Bool) (s : Slot) (a b : Bool) → IsOfStep (read false (step_cell m s.cell s.node a b))
cell_of_step m s true true = go (m s.node)
  where
    go : (w : Bool) → IsOfStep (read false (cond w (Touch s.cell s.node Stay) Counted))
    go true = tt
    go false = tt
cell_of_step m s true false = tt
cell_of_step m s false true = tt
cell_of_step m s false false = tt

row_of_step : (m : NodeId → Bool) {c d : List Slot} (g : GainsItems SameCell c d) → AllByRecursion IsOfStep (map (read false) (step_row m g))
row_of_step m no_more = tt
row_of_step m (item_gained g) = (tt, row_of_step m g)
row_of_step m (item_kept {x} {y} same g) = (cell_of_step m x x.full y.full, row_of_step m g)

-- a row that the change counts whole
counted_beside : (k : ℕ) (ys : List CellMark) → AllByRecursion IsOfStep ys → do_not_meet false (counted_cells k []) ys ≡ true
counted_beside zero [] h = refl
counted_beside zero (Make c n true ∷ ys) h = counted_beside zero ys h.1
counted_beside zero (Make c n false ∷ ys) h = counted_beside zero ys h.1
counted_beside zero (Counted ∷ ys) h = refl
counted_beside zero (Gap c ∷ ys) h = refl
counted_beside zero (Touch c n i ∷ ys) h = refl
counted_beside zero (Fill c n ∷ ys) h = refl
counted_beside (suc k) [] h = refl
counted_beside (suc k) (Make c n true ∷ ys) h = counted_beside (suc k) ys h.1
counted_beside (suc k) (Make c n false ∷ ys) h = counted_beside (suc k) ys h.1
counted_beside (suc k) (Counted ∷ ys) h = counted_beside k ys h.1
counted_beside (suc k) (Gap c ∷ ys) h = counted_beside k ys h.1
counted_beside (suc k) (Touch c n Stay ∷ ys) h = counted_beside k ys h.1
counted_beside (suc k) (Touch c n Here ∷ ys) h = absurd h.0
counted_beside (suc k) (Touch c n Leave ∷ ys) h = counted_beside k ys h.1
counted_beside (suc k) (Fill c n ∷ ys) h = counted_beside k ys h.1

-- a row that the step counts whole
beside_counted : (xs : List CellMark) (k : ℕ) → do_not_meet false xs (counted_cells k []) ≡ true
beside_counted [] zero = refl
beside_counted [] (suc k) = refl
beside_counted (Make c n true ∷ xs) k = beside_counted xs k
beside_counted (Make c n false ∷ xs) k = beside_counted xs k
beside_counted (Counted ∷ xs) zero = refl
beside_counted (Gap c ∷ xs) zero = refl
beside_counted (Touch c n i ∷ xs) zero = refl
beside_counted (Fill c n ∷ xs) zero = refl
beside_counted (Counted ∷ xs) (suc k) = beside_counted xs k
beside_counted (Gap c ∷ xs) (suc k) = beside_counted xs k
beside_counted (Touch c n Stay ∷ xs) (suc k) = beside_counted xs k
beside_counted (Touch c n Here ∷ xs) (suc k) = beside_counted xs k
beside_counted (Touch c n Leave ∷ xs) (suc k) = beside_counted xs k
beside_counted (Fill c n ∷ xs) (suc k) = beside_counted xs k

-- a row that isn't listed is counts, read so
pub all_counts : (xs : List CellMark) → list_any tells (map (read false) xs) ≡ false → map (read false) xs ≡ counted_cells (length (cells_before (map (read false) xs))) []
all_counts [] h = refl
all_counts (Counted ∷ xs) h = ap (λ l. Counted ∷ l) (all_counts xs h)
all_counts (Gap c ∷ xs) h = ap (λ l. Counted ∷ l) (all_counts xs h)
all_counts (Touch c n i ∷ xs) h = cc
all_counts (Make c n b ∷ xs) h = cc
all_counts (Fill c n ∷ xs) h = cc

-- ## Registers and nodes that are nowhere

pub or_true : (a b : Bool) → b ≡ true → (a || b) ≡ true
or_true true b e = refl
or_true false b e = e

nowhere_is : (s : Spot) → is_nowhere s ≡ true → s ≡ Spot.Nowhere
nowhere_is Spot.Nowhere e = refl
nowhere_is (Spot.Row n c) e = cc
nowhere_is (Spot.Register f) e = cc

stays_nowhere : (b : Bool) → cond b Stay Leave ≡ Stay → b ≡ true
stays_nowhere true e = refl
stays_nowhere false e = cc

-- ## Over documents

module _ (D E : Document) (N : Intent) (C : Change) (S : Step) (x : IsExtendedBy D E) (change : IsEmbedding D N C) (step : IsStep D E S) (passes : Passes (read_change false C) (read_step false S)) where
  abbrev pub change_cells : NodeId → List CellMark
  change_cells n = map (read false) (embed_row (row_part change.mentioned N n) (content D n))

  abbrev pub step_cells : NodeId → List CellMark
  step_cells n = map (read false) (step_row step.mentioned (step.grows n))

  pub change_row : (n : NodeId) → row_in (read_change false C).rows n ≡ row_marks n (change_cells n)
  change_row n = (rows_read false C.rows (λ n. embed_row (row_part change.mentioned N n) (content D n)) change.rows).at_each n

  pub step_row_at : (n : NodeId) → row_in (read_step false S).rows n ≡ row_marks n (step_cells n)
  step_row_at n = (rows_read false S.rows (λ n. step_row step.mentioned (step.grows n)) step.rows).at_each n

  abbrev told : NodeId → List CellMark → RowMarks
  told n xs = record { node = n; marks = merge xs }

  listed : (n : NodeId) (xs : List CellMark) → list_any tells xs ≡ true → row_marks n xs ≡ Some (told n xs)
  listed n xs e = ap (λ b. cond b (Some (told n xs)) None) e

  both_list : (n : NodeId) → list_any tells (change_cells n) ≡ true → list_any tells (step_cells n) ≡ true → do_not_meet false (change_cells n) (step_cells n) ≡ true
  both_list n a b =
      let c : row_in (read_change false C).rows n ≡ Some (told n (change_cells n)) = change_row n ∙ listed n (change_cells n) a in
      let s : row_in (read_step false S).rows n ≡ Some (told n (step_cells n)) = step_row_at n ∙ listed n (step_cells n) b in
      let p : option_map_or (λ (s : RowMarks). do_not_meet false (spread (merge (change_cells n))) (spread s.marks)) (row_in (read_step false S).rows n) true ≡ true
      = passes.rows n (told n (change_cells n)) c in
      let q : do_not_meet false (spread (merge (change_cells n))) (spread (merge (step_cells n))) ≡ true
      = sym (ap (λ o. option_map_or (λ (s : RowMarks). do_not_meet false (spread (merge (change_cells n))) (spread s.marks)) o true) s) ∙ p in
      sym (λ i. do_not_meet false (spread-merge (change_cells n) i) (spread-merge (step_cells n) i)) ∙ q

  pub rows_do_not_meet : (n : NodeId) → do_not_meet false (change_cells n) (step_cells n) ≡ true
  rows_do_not_meet n = go (list_any tells (change_cells n)) refl (list_any tells (step_cells n)) refl
    where
      go : (a : Bool) → list_any tells (change_cells n) ≡ a → (b : Bool) → list_any tells (step_cells n) ≡ b → do_not_meet false (change_cells n) (step_cells n) ≡ true
      go true e true f = both_list n e f
      go true e false f = ap (do_not_meet false (change_cells n)) (all_counts (step_row step.mentioned (step.grows n)) f) ∙ beside_counted (change_cells n) _
      go false e b f =
          ap (λ xs. do_not_meet false xs (step_cells n)) (all_counts (embed_row (row_part change.mentioned N n) (content D n)) e)
          ∙ counted_beside _ (step_cells n) (row_of_step step.mentioned (step.grows n))

  abbrev register_mark : FieldId → RegisterPart → RegMark
  register_mark f p = record { field = f; held = D.held f; how = how_held f p (D.held f); clear = p.clear; fill = comes_in (D.held f) p.fill }

  -- a register that the change lists holds the same
  pub listed_register : (f : FieldId) → (N_part : RegisterPart) → N_part ≡ register_part change.mentioned N f → (N_part.clear || holds_mentioned N_part.mentioned (D.held f)) ≡ true → D.held f ≡ E.held f
  listed_register f p same e = go (same_option same_node (D.held f) (E.held f)) refl
    where
      there : item_of field_cmp (λ (r : RegMark). r.field) C.regs f ≡ Some (register_mark f p)
      there = change.regs.at_each f ∙ ap (λ (q : RegisterPart). embed_register f q (D.held f)) (sym same) ∙ ap (λ b. cond b (Some (register_mark f p)) None) e

      go : (b : Bool) → same_option same_node (D.held f) (E.held f) ≡ b → D.held f ≡ E.held f
      go true h = same-held (D.held f) (E.held f) h
      go false h =
          let s : item_of field_cmp (λ (r : RegStep). r.field) S.regs f ≡ Some (record { field = f; before = D.held f; after = E.held f })
          = step.regs.at_each f ∙ ap (λ b. cond (not b || holds_mentioned step.mentioned (D.held f)) (Some (record { field = f; before = D.held f; after = E.held f })) None) h in
          (passes.regs f (register_mark f p) (record { field = f; before = D.held f; after = E.held f }) there s).0

  pub held_stays : (f : FieldId) (k : NodeId) → D.held f ≡ Some k → IsMentionedByIntent D N k → E.held f ≡ Some k
  held_stays f k e m =
      let p = register_part change.mentioned N f in
      let at : holds_mentioned p.mentioned (D.held f) ≡ true = ap (holds_mentioned change.mentioned) e ∙ (change.which k).1 m in
      sym (listed_register f p refl (or_true p.clear (holds_mentioned p.mentioned (D.held f)) at)) ∙ e

  pub known_climb : (j : ℕ) (s k : NodeId) → IsSome (D.nodes s) → climb (above D) j s ≡ Some k → IsSome (D.nodes k)
  known_climb zero s k h e = let q : s ≡ k = cc in subst (λ n. IsSome (D.nodes n)) q h
  known_climb (suc j) s k h e = go (above D s) refl (λ p w. known_climb j p k w) e
    where
      go : (o : Option NodeId) → above D s ≡ o → ((p : NodeId) → IsSome (D.nodes p) → climb (above D) j p ≡ Some k → IsSome (D.nodes k)) → option_and_then (climb (above D) j) o ≡ Some k → IsSome (D.nodes k)
      go None h rest e = cc
      go (Some p) h rest e = rest p (above_known D x.before s p h) e

  abbrev loose_mark : NodeId → Loose
  loose_mark k = record { node = k; how = how (put_of N k) To.Nowhere }

  abbrev loose_moved : NodeId → Loose
  loose_moved k = record { node = k; how = cond (is_nowhere (E.place k)) Stay Leave }

  pub loose_stays : (k : NodeId) → D.place k ≡ Spot.Nowhere → IsMentionedByIntent D N k → E.place k ≡ Spot.Nowhere
  loose_stays k e m = top (same_node k root) refl
    where
      known : IsSome (D.nodes k)
      known = known_climb m.3 m.0 k m.2 m.4

      loose_so : (b : Bool) → same_node k root ≡ b → b ≡ false → is_loose change.mentioned D k ≡ true
      loose_so b q f = rw ((change.which k).1 m, e, q ∙ f) refl

      unnamed : (IsMentionedByStep D E k → ⊥) → (D.place k ≡ E.place k) ⊎ (D.place k ≢ E.place k) → E.place k ≡ Spot.Nowhere
      unnamed h (inl same) = sym same ∙ e
      unnamed h (inr apart) = absurd (h (k, (known, inl apart), 0, refl))

      go : same_node k root ≡ false → (b : Bool) → step.mentioned k ≡ b → E.place k ≡ Spot.Nowhere
      go q true f =
          let c : item_of node_cmp (λ (l : Loose). l.node) C.loose k ≡ Some (loose_mark k) = change.loose.at_each k ∙ ap (λ b. cond b (Some (loose_mark k)) None) (loose_so false q refl) in
          let so : is_loose step.mentioned D k ≡ true = rw (f, e, q) refl in
          let s : item_of node_cmp (λ (l : Loose). l.node) S.loose k ≡ Some (loose_moved k) = step.loose.at_each k ∙ ap (λ b. cond b (Some (loose_moved k)) None) so in
          nowhere_is (E.place k) (stays_nowhere (is_nowhere (E.place k)) (passes.loose k (loose_mark k) (loose_moved k) c s).0)
      go q false f = unnamed (λ h. let b : ◌≡◌ {A = Bool} false true = sym f ∙ (step.which k).1 h in cc) (same_spot (D.place k) (E.place k))

      top : (b : Bool) → same_node k root ≡ b → E.place k ≡ Spot.Nowhere
      top true q = ap E.place (same_node-true k root q) ∙ x.after.root_nowhere
      top false q = go q (step.mentioned k) refl

  pub schemas_stay : D.schemas ≡ E.schemas
  schemas_stay = subst (IsSchemaStep D.schemas E.schemas) passes.step_schema step.schema
