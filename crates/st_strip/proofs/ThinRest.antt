-- What is left of a step doesn't see which empty cells the two steps name: where they are alike but for that, so is what is left.
use Rattle.std.proofs.Common.{◌≡◌, Bool, ◌&&◌, List, [], ◌∷◌, map, Option, Some, None, option_map, refl, sym, ap, ◌∙◌}
use Rattle.std.specs.FinMap.Entries.{below_all, is_sorted}
use Rattle.std.specs.Option.{option_map_or}
use Rattle.std.specs.Ordering.{is_lt}
use Rattle.std.specs.declared.cmp.Ordering.{Ordering}
use Rattle.st_ids.specs.Listing.{item_of, key_pairs}
use Rattle.st_ids.specs.Order.{field_cmp, node_cmp}
use Rattle.st_ids.proofs.Listings.{item_of-has}
use Rattle.st_ids.proofs.Orders.{node_cmp_exact, node_cmp_total, same_listing}
use Rattle.st_ids.specs.declared.names.CellId.{CellId}
use Rattle.st_ids.specs.declared.names.NodeId.{NodeId}
use Rattle.st_kind.specs.Named.{Nodes}
use Rattle.st_marks.specs.declared.changes.NewNode.{NewNode}
use Rattle.st_marks.specs.declared.marks.How.TheVariants.{Stay, Here, Leave}
use Rattle.st_marks.specs.declared.marks.Mark.{Mark}
use Rattle.st_marks.specs.declared.marks.RegStep.{RegStep}
use Rattle.st_marks.specs.declared.marks.RowMarks.{RowMarks}
use Rattle.st_marks.specs.declared.steps.Step.{Step}
use Rattle.st_marks.specs.Listings.{cell_made, is_among_cells}
use Rattle.st_marks.specs.Row.{CellMark, Counted, Gap, Touch, Make, Fill, merge, spread}
use Rattle.st_mention_laws.specs.Shown.{thin_marks, thin_row, thin_step, unnamed}
use Rattle.st_mention_laws.proofs.ThinForms.{flat_map-cells, spread-thin}
use Rattle.st_rows.specs.Cells.{composed_mark, compose_row, invert_row, inverted_mark}
use Rattle.st_rows.proofs.KindLaws.{spread-merge}
use Rattle.st_listings.specs.Schemas.{schemas_in_turn}
use Rattle.st_steps.specs.WayBack.{schema_back}
use Rattle.st_steps.proofs.ToldTogether.{item_of-map}
use Rattle.st_strip.specs.Rest.{IsRestOf, made_by, rest_new, rest_register, rest_row, settled_mark, settled_row}

-- ## Cells

twice : (x : CellMark) → unnamed (unnamed x) ≡ unnamed x
twice Counted = refl
twice (Gap c) = refl
twice (Touch c n h) = refl
twice (Make c n b) = refl
twice (Fill c n) = refl

-- of the first only what isn't an empty cell counts, and so of the second
first_thin : (x y : CellMark) → composed_mark x y ≡ composed_mark (unnamed x) y
first_thin Counted y = refl
first_thin (Gap c) y = refl
first_thin (Touch c n h) y = refl
first_thin (Make c n b) y = refl
first_thin (Fill c n) y = refl

then_empty : (x : CellMark) (d : CellId) → unnamed (composed_mark x (Gap d)) ≡ unnamed (composed_mark x Counted)
then_empty Counted d = refl
then_empty (Gap c) d = refl
then_empty (Touch c n Stay) d = refl
then_empty (Touch c n Here) d = refl
then_empty (Touch c n Leave) d = refl
then_empty (Make c n b) d = refl
then_empty (Fill c n) d = refl

then_thin : (x y : CellMark) → unnamed (composed_mark x y) ≡ unnamed (composed_mark x (unnamed y))
then_thin x Counted = refl
then_thin x (Gap d) = then_empty x d
then_thin x (Touch d n h) = refl
then_thin x (Make d n b) = refl
then_thin x (Fill d n) = refl

both_thin : (x y : CellMark) → unnamed (composed_mark x y) ≡ unnamed (composed_mark (unnamed x) (unnamed y))
both_thin x y = ap unnamed (first_thin x y) ∙ then_thin (unnamed x) y

-- ## Rows, cell by cell

compose_thin : (xs ys : List CellMark) → map unnamed (compose_row xs ys) ≡ map unnamed (compose_row (map unnamed xs) (map unnamed ys))
compose_thin [] [] = refl
compose_thin (x ∷ xs) [] = refl
compose_thin xs (Make c n b ∷ ys) = ap (λ l. Make c n b ∷ l) (compose_thin xs ys)
compose_thin [] (Counted ∷ ys) = refl
compose_thin [] (Gap d ∷ ys) = refl
compose_thin [] (Touch d n h ∷ ys) = refl
compose_thin [] (Fill d n ∷ ys) = refl
compose_thin (x ∷ xs) (Counted ∷ ys) = λ i. both_thin x Counted i ∷ compose_thin xs ys i
compose_thin (x ∷ xs) (Gap d ∷ ys) = λ i. both_thin x (Gap d) i ∷ compose_thin xs ys i
compose_thin (x ∷ xs) (Touch d n h ∷ ys) = λ i. both_thin x (Touch d n h) i ∷ compose_thin xs ys i
compose_thin (x ∷ xs) (Fill d n ∷ ys) = λ i. both_thin x (Fill d n) i ∷ compose_thin xs ys i

-- a table that says of an empty cell what it says of a counted one, but for its name
module _ (f : CellMark → CellMark) (empty : (c : CellId) → unnamed (f (Gap c)) ≡ unnamed (f Counted)) where
  mark_thin : (x : CellMark) → unnamed (f x) ≡ unnamed (f (unnamed x))
  mark_thin Counted = refl
  mark_thin (Gap c) = empty c
  mark_thin (Touch c n h) = refl
  mark_thin (Make c n b) = refl
  mark_thin (Fill c n) = refl

  map_thin : (xs : List CellMark) → map unnamed (map f xs) ≡ map unnamed (map f (map unnamed xs))
  map_thin [] = refl
  map_thin (x ∷ xs) = λ i. mark_thin x i ∷ map_thin xs i

all_twice : (xs : List CellMark) → map unnamed (map unnamed xs) ≡ map unnamed xs
all_twice [] = refl
all_twice (x ∷ xs) = λ i. twice x i ∷ all_twice xs i

-- the marks of a row where both are laid over each other
abbrev laid : (CellId → Bool) → List CellMark → List CellMark → List CellMark
laid made xs ys = compose_row (invert_row xs) (settled_row made ys)

laid_thin : (made : CellId → Bool) (xs ys : List CellMark) → map unnamed (laid made xs ys) ≡ map unnamed (laid made (map unnamed xs) (map unnamed ys))
laid_thin made xs ys =
    compose_thin (invert_row xs) (settled_row made ys)
    ∙ (λ i. map unnamed (compose_row (map_thin inverted_mark (λ c. refl) xs i) (map_thin (settled_mark made) (λ c. refl) ys i)))
    ∙ sym (compose_thin (invert_row (map unnamed xs)) (settled_row made (map unnamed ys)))

-- ## Rows

thin_merge : (xs : List CellMark) → thin_marks (merge xs) ≡ merge (map unnamed xs)
thin_merge xs = ap (λ l. merge (map unnamed l)) (spread-merge xs)

marks_twice : (ms : List Mark) → thin_marks ms ≡ thin_marks (thin_marks ms)
marks_twice ms = ap merge (sym (all_twice (spread ms)) ∙ ap (map unnamed) (sym (spread-thin ms)))

made_thin : (r : RowMarks) (c : CellId) → made_by (thin_row r) c ≡ made_by r c
made_thin r c = ap (λ l. is_among_cells l c) (flat_map-cells cell_made refl (λ d. refl) r.marks)

row_thin : (n : NodeId) (p q : Option RowMarks) → option_map thin_row (rest_row n p q) ≡ option_map thin_row (rest_row n (option_map thin_row p) (option_map thin_row q))
row_thin n None None = refl
row_thin n (Some s) None =
    let same : thin_marks (merge (invert_row (spread s.marks))) ≡ thin_marks (merge (invert_row (spread (thin_marks s.marks)))) =
    thin_merge (invert_row (spread s.marks)) ∙ ap merge (map_thin inverted_mark (λ c. refl) (spread s.marks) ∙ ap (λ l. map unnamed (invert_row l)) (sym (spread-thin s.marks)))
    ∙ sym (thin_merge (invert_row (spread (thin_marks s.marks)))) in
    λ i. Some (record { node = n; marks = same i })
row_thin n None (Some w) = λ i. Some (record { node = w.node; marks = marks_twice w.marks i })
row_thin n (Some s) (Some w) =
    let same : thin_marks (merge (laid (made_by s) (spread s.marks) (spread w.marks))) ≡ thin_marks (merge (laid (made_by (thin_row s)) (spread (thin_marks s.marks)) (spread (thin_marks w.marks)))) =
    thin_merge (laid (made_by s) (spread s.marks) (spread w.marks)) ∙ ap merge (laid_thin (made_by s) (spread s.marks) (spread w.marks)
    ∙ (λ i. map unnamed (laid (λ c. sym (made_thin s c) i) (sym (spread-thin s.marks) i) (sym (spread-thin w.marks) i))))
    ∙ sym (thin_merge (laid (made_by (thin_row s)) (spread (thin_marks s.marks)) (spread (thin_marks w.marks)))) in
    λ i. Some (record { node = n; marks = same i })

-- ## A rising list whose items are changed, but for their names

module _ {K A : Type 0} (R : K → K → Ordering) (key : A → K) (f : A → A) (keeps : (x : A) → key (f x) ≡ key x) where
  below-map : (xs : List A) (k : K) → below_all R k (key_pairs key (map f xs)) ≡ below_all R k (key_pairs key xs)
  below-map [] k = refl
  below-map (x ∷ xs) k = λ i. is_lt (R k (keeps x i)) && below-map xs k i

  rising-map : (xs : List A) → is_sorted R (key_pairs key (map f xs)) ≡ is_sorted R (key_pairs key xs)
  rising-map [] = refl
  rising-map (x ∷ xs) = λ i. (ap (λ j. below_all R j (key_pairs key (map f xs))) (keeps x) ∙ below-map xs (key x)) i && rising-map xs i

-- ## All of it

-- X and Y are S and W but for which empty cells they name
module _ (X Y S W L : Step) (told between last : Nodes) (e : thin_step X ≡ thin_step S) (f : thin_step Y ≡ thin_step W) (rest : IsRestOf X Y L told between last) where
  abbrev row_at : List RowMarks → NodeId → Option RowMarks
  row_at = item_of node_cmp (λ (r : RowMarks). r.node)

  -- what is left of S and W of a row
  abbrev exact : NodeId → Option RowMarks
  exact n = rest_row n (row_at S.rows n) (row_at W.rows n)

  item_alike : (A B : Step) → thin_step A ≡ thin_step B → (n : NodeId) → option_map thin_row (row_at A.rows n) ≡ option_map thin_row (row_at B.rows n)
  item_alike A B e n =
      sym (item_of-map node_cmp (λ (r : RowMarks). r.node) thin_row (λ r. refl) A.rows n) ∙ ap (λ (z : Step). row_at z.rows n) e
      ∙ item_of-map node_cmp (λ (r : RowMarks). r.node) thin_row (λ r. refl) B.rows n

  alike : (n : NodeId) → option_map thin_row (row_at L.rows n) ≡ option_map thin_row (exact n)
  alike n =
      ap (option_map thin_row) (rest.rows.at_each n) ∙ row_thin n (row_at X.rows n) (row_at Y.rows n)
      ∙ (λ i. option_map thin_row (rest_row n (item_alike X S e n i) (item_alike Y W f n i))) ∙ sym (row_thin n (row_at S.rows n) (row_at W.rows n))

  -- a row, with the marks that S and W leave
  abbrev mended : RowMarks → RowMarks
  mended r = record { node = r.node; marks = option_map_or (λ (z : RowMarks). z.marks) (exact r.node) r.marks }

  abbrev shown : Step
  shown = record L { rows = map mended L.rows }

  mended_is : (n : NodeId) → option_map mended (row_at L.rows n) ≡ exact n
  mended_is n = go (row_at L.rows n) refl (exact n) refl (alike n)
    where
      go : (o : Option RowMarks) → row_at L.rows n ≡ o → (p : Option RowMarks) → exact n ≡ p → option_map thin_row o ≡ option_map thin_row p → option_map mended o ≡ p
      go None q None w h = refl
      go None q (Some u) w h = cc
      go (Some r) q None w h = cc
      go (Some r) q (Some u) w h =
          let here : r.node ≡ n = (item_of-has node_cmp node_cmp_total node_cmp_exact (λ (r : RowMarks). r.node) L.rows n r q).1 in
          let same : thin_row r ≡ thin_row u = cc in
          let marks : option_map_or (λ (z : RowMarks). z.marks) (exact r.node) r.marks ≡ u.marks = ap (λ k. option_map_or (λ (z : RowMarks). z.marks) (exact k) r.marks) here ∙ ap (λ o. option_map_or (λ (z : RowMarks). z.marks) o r.marks) w in
          λ i. Some (record { node = (same i).node; marks = marks i })

  rows_alike : map thin_row L.rows ≡ map thin_row (map mended L.rows)
  rows_alike = same_listing node_cmp_total node_cmp_exact (λ (r : RowMarks). r.node) (map thin_row L.rows) (map thin_row (map mended L.rows))
      (rising-map node_cmp (λ (r : RowMarks). r.node) thin_row (λ r. refl) L.rows ∙ rest.rows.rising)
      (rising-map node_cmp (λ (r : RowMarks). r.node) thin_row (λ r. refl) (map mended L.rows) ∙ rising-map node_cmp (λ (r : RowMarks). r.node) mended (λ r. refl) L.rows ∙ rest.rows.rising)
      (λ n. item_of-map node_cmp (λ (r : RowMarks). r.node) thin_row (λ r. refl) L.rows n ∙ alike n ∙ ap (option_map thin_row) (sym (mended_is n))
      ∙ ap (option_map thin_row) (sym (item_of-map node_cmp (λ (r : RowMarks). r.node) mended (λ r. refl) L.rows n))
      ∙ sym (item_of-map node_cmp (λ (r : RowMarks). r.node) thin_row (λ r. refl) (map mended L.rows) n))

  pub rest_shown : (G : Step) × IsRestOf S W G told between last × (thin_step L ≡ thin_step G)
  rest_shown = (
    shown,
    record {
      schema = rest.schema ∙ (λ i. schemas_in_turn (schema_back (e i).schema) (f i).schema);
      new_nodes = record {
        rising = rest.new_nodes.rising;
        at_each = λ n. rest.new_nodes.at_each n ∙ (λ i. rest_new (item_of node_cmp (λ (m : NewNode). m.node) (e i).new n) (item_of node_cmp (λ (m : NewNode). m.node) (f i).new n));
      };
      rows = record {
        rising = rising-map node_cmp (λ (r : RowMarks). r.node) mended (λ r. refl) L.rows ∙ rest.rows.rising;
        at_each = λ n. item_of-map node_cmp (λ (r : RowMarks). r.node) mended (λ r. refl) L.rows n ∙ mended_is n;
      };
      regs = record {
        rising = rest.regs.rising;
        at_each = λ g. rest.regs.at_each g ∙ (λ i. rest_register g (item_of field_cmp (λ (r : RegStep). r.field) (e i).regs g) (item_of field_cmp (λ (r : RegStep). r.field) (f i).regs g));
      };
      loose = rest.loose;
    },
    (λ i. record L { rows = rows_alike i }),
  )
