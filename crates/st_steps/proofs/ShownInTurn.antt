-- Two steps in turn of which either counts empty cells that it could name: what they say together names as much, but for these.
use Rattle.std.proofs.Common.{◌≡◌, ◌||◌, List, [], ◌∷◌, map, Option, Some, None, option_map, unwrap_or, refl, sym, ap, ◌∙◌}
use Rattle.std.specs.Option.{option_or}
use Rattle.st_ids.specs.Listing.{Has, IsListing, item_of}
use Rattle.st_ids.specs.Order.{field_cmp, node_cmp}
use Rattle.st_ids.proofs.Listings.{has-item_of, item_of-has}
use Rattle.st_ids.proofs.Orders.{node_cmp_exact, node_cmp_total}
use Rattle.st_ids.specs.declared.names.NodeId.{NodeId}
use Rattle.st_kind.specs.Named.{Nodes}
use Rattle.st_lemmas.proofs.Options.{one_some}
use Rattle.st_marks.specs.declared.changes.NewNode.{NewNode}
use Rattle.st_marks.specs.declared.marks.How.TheVariants.{Stay, Here, Leave}
use Rattle.st_marks.specs.declared.marks.Loose.{Loose}
use Rattle.st_marks.specs.declared.marks.Mark.{Mark}
use Rattle.st_marks.specs.declared.marks.RegStep.{RegStep}
use Rattle.st_marks.specs.declared.marks.RowMarks.{RowMarks}
use Rattle.st_marks.specs.declared.places.Spot.{Spot}
use Rattle.st_marks.specs.declared.steps.Step.{Step}
use Rattle.st_marks.specs.Listings.{placed_before}
use Rattle.st_marks.specs.Row.{CellMark, Counted, Gap, Touch, Make, Fill, merge, spread}
use Rattle.st_mention_laws.specs.Shown.{thin_marks, thin_row, thin_step, unnamed}
use Rattle.st_mention_laws.proofs.ThinForms.{spread-thin}
use Rattle.st_rows.specs.Cells.{compose_row, composed_mark}
use Rattle.st_rows.proofs.KindLaws.{spread-merge}
use Rattle.st_listings.specs.Schemas.{schemas_in_turn}
use Rattle.st_puts.proofs.ThinMarks.{same_listed}
use Rattle.st_steps.specs.Turned.{IsInTurn, loose_in_turn, register_in_turn, row_in_turn}
use Rattle.st_steps.proofs.ToldBack.{listing-map, map-same}
use Rattle.st_steps.proofs.ToldTogether.{item_of-map}

-- ## Whom a step finds somewhere

abbrev placed_alone : Step → Step
placed_alone S = record S { new = []; loose = [] }

pub same_placed : (S s : Step) → thin_step S ≡ thin_step s → placed_before S.rows (map (λ (r : RegStep). r.before) S.regs) ≡ placed_before s.rows (map (λ (r : RegStep). r.before) s.regs)
same_placed S s e = same_listed (placed_alone S) (placed_alone s) (ap placed_alone e)

-- ## A cell and a row

composed_blind : (x y : CellMark) → unnamed (composed_mark (unnamed x) (unnamed y)) ≡ unnamed (composed_mark x y)
composed_blind Counted Counted = refl
composed_blind Counted (Gap d) = refl
composed_blind Counted (Touch d n h) = refl
composed_blind Counted (Make d n b) = refl
composed_blind Counted (Fill d n) = refl
composed_blind (Gap c) Counted = refl
composed_blind (Gap c) (Gap d) = refl
composed_blind (Gap c) (Touch d n h) = refl
composed_blind (Gap c) (Make d n b) = refl
composed_blind (Gap c) (Fill d n) = refl
composed_blind (Touch c n h) Counted = refl
composed_blind (Touch c n Stay) (Gap d) = refl
composed_blind (Touch c n Here) (Gap d) = refl
composed_blind (Touch c n Leave) (Gap d) = refl
composed_blind (Touch c n h) (Touch d k g) = refl
composed_blind (Touch c n h) (Make d k b) = refl
composed_blind (Touch c n h) (Fill d k) = refl
composed_blind (Make c n b) Counted = refl
composed_blind (Make c n b) (Gap d) = refl
composed_blind (Make c n b) (Touch d k g) = refl
composed_blind (Make c n b) (Make d k q) = refl
composed_blind (Make c n b) (Fill d k) = refl
composed_blind (Fill c n) Counted = refl
composed_blind (Fill c n) (Gap d) = refl
composed_blind (Fill c n) (Touch d k g) = refl
composed_blind (Fill c n) (Make d k q) = refl
composed_blind (Fill c n) (Fill d k) = refl

compose_blind : (xs ys : List CellMark) → map unnamed (compose_row (map unnamed xs) (map unnamed ys)) ≡ map unnamed (compose_row xs ys)
compose_blind xs [] = refl
compose_blind xs (Make c n b ∷ ys) = ap (λ l. Make c n b ∷ l) (compose_blind xs ys)
compose_blind [] (Counted ∷ ys) = refl
compose_blind [] (Gap c ∷ ys) = refl
compose_blind [] (Touch c n h ∷ ys) = refl
compose_blind [] (Fill c n ∷ ys) = refl
compose_blind (x ∷ xs) (Counted ∷ ys) = λ i. composed_blind x Counted i ∷ compose_blind xs ys i
compose_blind (x ∷ xs) (Gap c ∷ ys) = λ i. composed_blind x (Gap c) i ∷ compose_blind xs ys i
compose_blind (x ∷ xs) (Touch c n h ∷ ys) = λ i. composed_blind x (Touch c n h) i ∷ compose_blind xs ys i
compose_blind (x ∷ xs) (Fill c n ∷ ys) = λ i. composed_blind x (Fill c n) i ∷ compose_blind xs ys i

cells_alike : (a u : List Mark) → thin_marks a ≡ thin_marks u → map unnamed (spread a) ≡ map unnamed (spread u)
cells_alike a u e = sym (spread-thin a) ∙ ap spread e ∙ spread-thin u

thin_merged : (cells : List CellMark) → thin_marks (merge cells) ≡ merge (map unnamed cells)
thin_merged cells = ap (λ l. merge (map unnamed l)) (spread-merge cells)

both_alike : (a b u v : List Mark) → thin_marks a ≡ thin_marks u → thin_marks b ≡ thin_marks v
    → thin_marks (merge (compose_row (spread a) (spread b))) ≡ thin_marks (merge (compose_row (spread u) (spread v)))
both_alike a b u v e f =
    thin_merged (compose_row (spread a) (spread b))
    ∙ ap merge (sym (compose_blind (spread a) (spread b)) ∙ (λ i. map unnamed (compose_row (cells_alike a u e i) (cells_alike b v f i))) ∙ compose_blind (spread u) (spread v))
    ∙ sym (thin_merged (compose_row (spread u) (spread v)))

abbrev thin_found : Option RowMarks → Option RowMarks
thin_found o = option_map thin_row o

row_alike : (n : NodeId) (p u q v : Option RowMarks) → thin_found p ≡ thin_found u → thin_found q ≡ thin_found v → thin_found (row_in_turn n p q) ≡ thin_found (row_in_turn n u v)
row_alike n None None None None a b = refl
row_alike n None None None (Some t) a b = let bad : ◌≡◌ {A = Option RowMarks} None (Some (thin_row t)) = b in cc
row_alike n None None (Some t) None a b = let bad : ◌≡◌ {A = Option RowMarks} (Some (thin_row t)) None = b in cc
row_alike n None None (Some t) (Some z) a b = b
row_alike n None (Some s) q v a b = let bad : ◌≡◌ {A = Option RowMarks} None (Some (thin_row s)) = a in cc
row_alike n (Some s) None q v a b = let bad : ◌≡◌ {A = Option RowMarks} (Some (thin_row s)) None = a in cc
row_alike n (Some s) (Some r) None None a b = a
row_alike n (Some s) (Some r) None (Some t) a b = let bad : ◌≡◌ {A = Option RowMarks} None (Some (thin_row t)) = b in cc
row_alike n (Some s) (Some r) (Some t) None a b = let bad : ◌≡◌ {A = Option RowMarks} (Some (thin_row t)) None = b in cc
row_alike n (Some s) (Some r) (Some t) (Some z) a b =
    let first = ap (λ (q : RowMarks). q.marks) (one_some (thin_row s) (thin_row r) a) in
    let second = ap (λ (q : RowMarks). q.marks) (one_some (thin_row t) (thin_row z) b) in
    λ i. Some (record { node = n; marks = both_alike s.marks t.marks r.marks z.marks first second i })

-- ## A listing of rows, and one that is alike

abbrev row_at : List RowMarks → NodeId → Option RowMarks
row_at = item_of node_cmp (λ (r : RowMarks). r.node)

found_alike : (rows others : List RowMarks) → map thin_row rows ≡ map thin_row others → (n : NodeId) → thin_found (row_at rows n) ≡ thin_found (row_at others n)
found_alike rows others e n =
    sym (item_of-map node_cmp (λ (r : RowMarks). r.node) thin_row (λ r. refl) rows n) ∙ ap (λ l. row_at l n) e ∙ item_of-map node_cmp (λ (r : RowMarks). r.node) thin_row (λ r. refl) others n

module _ (rows : List RowMarks) (look others : NodeId → Option RowMarks) (l : IsListing node_cmp (λ (r : RowMarks). r.node) rows look)
    (alike : (n : NodeId) → thin_found (look n) ≡ thin_found (others n)) where
  -- a row, with the marks that the other has
  abbrev other : RowMarks → RowMarks
  other r = record { node = r.node; marks = unwrap_or (option_map (λ (q : RowMarks). q.marks) (others r.node)) r.marks }

  other_is : (n : NodeId) → option_map other (row_at rows n) ≡ others n
  other_is n = go (row_at rows n) refl (others n) refl (ap thin_found (l.at_each n) ∙ alike n)
    where
      go : (o : Option RowMarks) → row_at rows n ≡ o → (p : Option RowMarks) → others n ≡ p → thin_found (row_at rows n) ≡ thin_found (others n) → option_map other o ≡ p
      go None e None f a = refl
      go None e (Some q) f a = let bad : ◌≡◌ {A = Option RowMarks} None (Some (thin_row q)) = sym (ap thin_found e) ∙ a ∙ ap thin_found f in cc
      go (Some r) e None f a = let bad : ◌≡◌ {A = Option RowMarks} (Some (thin_row r)) None = sym (ap thin_found e) ∙ a ∙ ap thin_found f in cc
      go (Some r) e (Some q) f a =
          let at : r.node ≡ n = (item_of-has node_cmp node_cmp_total node_cmp_exact (λ (r : RowMarks). r.node) rows n r e).1 in
          let same : thin_row r ≡ thin_row q = one_some (thin_row r) (thin_row q) (sym (ap thin_found e) ∙ a ∙ ap thin_found f) in
          let marks : unwrap_or (option_map (λ (q : RowMarks). q.marks) (others r.node)) r.marks ≡ q.marks = ap (λ o. unwrap_or (option_map (λ (q : RowMarks). q.marks) o) r.marks) (ap others at ∙ f) in
          λ i. Some (record { node = (same i).node; marks = marks i })

  thin_other : (r : RowMarks) → Has rows r → thin_row r ≡ thin_row (other r)
  thin_other r h = go (others r.node) refl
    where
      at : thin_found (others r.node) ≡ Some (thin_row r)
      at = sym (alike r.node) ∙ ap thin_found (sym (l.at_each r.node) ∙ has-item_of node_cmp node_cmp_total node_cmp_exact (λ (r : RowMarks). r.node) rows r l.rising h)

      go : (p : Option RowMarks) → others r.node ≡ p → thin_row r ≡ thin_row (record { node = r.node; marks = unwrap_or (option_map (λ (q : RowMarks). q.marks) p) r.marks })
      go None f = refl
      go (Some q) f =
          let same : thin_row r ≡ thin_row q = one_some (thin_row r) (thin_row q) (sym at ∙ ap thin_found f) in
          λ i. record { node = r.node; marks = (same i).marks }

  -- there is a listing of the others, and it is alike
  pub alike_listing : (ys : List RowMarks) × IsListing node_cmp (λ (r : RowMarks). r.node) ys others × (map thin_row rows ≡ map thin_row ys)
  alike_listing =
      let m = listing-map node_cmp (λ (r : RowMarks). r.node) other (λ r. refl) rows (map other rows) l.rising refl in (
        map other rows,
        record { rising = m.rising; at_each = λ n. m.at_each n ∙ other_is n },
        map-same thin_row (λ r. thin_row (other r)) rows thin_other ∙ twice rows,
      )
    where
      twice : (xs : List RowMarks) → map (λ r. thin_row (other r)) xs ≡ map thin_row (map other xs)
      twice [] = refl
      twice (x ∷ xs) = ap (λ l. thin_row (other x) ∷ l) (twice xs)

-- ## All of it

module _ (S T s t g : Step) (e : thin_step S ≡ thin_step s) (f : thin_step T ≡ thin_step t) (stood new : Nodes) (spots : NodeId → Option Spot) (told : IsInTurn S T g stood new spots) where
  rows_told : (ys : List RowMarks) × IsListing node_cmp (λ (r : RowMarks). r.node) ys (λ n. row_in_turn n (row_at s.rows n) (row_at t.rows n)) × (map thin_row g.rows ≡ map thin_row ys)
  rows_told = alike_listing g.rows (λ n. row_in_turn n (row_at S.rows n) (row_at T.rows n)) (λ n. row_in_turn n (row_at s.rows n) (row_at t.rows n)) told.rows
      (λ n. row_alike n (row_at S.rows n) (row_at s.rows n) (row_at T.rows n) (row_at t.rows n)
      (found_alike S.rows s.rows (ap (λ (q : Step). q.rows) e) n) (found_alike T.rows t.rows (ap (λ (q : Step). q.rows) f) n))

  -- what both say together names as much as what s and t do, but for empty cells
  pub shown_in_turn : (G : Step) × IsInTurn s t G stood new spots × (thin_step g ≡ thin_step G)
  shown_in_turn = (
    record g { rows = rows_told.0 },
    record {
      schema = told.schema ∙ (λ i. schemas_in_turn (e i).schema (f i).schema);
      new_nodes = record { rising = told.new_nodes.rising; at_each = λ n. told.new_nodes.at_each n ∙ (λ i. option_or (item_of node_cmp (λ (m : NewNode). m.node) (e i).new n) (item_of node_cmp (λ (m : NewNode). m.node) (f i).new n)) };
      rows = rows_told.1;
      regs = record { rising = told.regs.rising; at_each = λ k. told.regs.at_each k ∙ (λ i. register_in_turn k (item_of field_cmp (λ (r : RegStep). r.field) (e i).regs k) (item_of field_cmp (λ (r : RegStep). r.field) (f i).regs k)) };
      loose = record { rising = told.loose.rising; at_each = λ n. told.loose.at_each n ∙ (λ i. loose_in_turn (stood n || new n) (spots n) n (item_of node_cmp (λ (l : Loose). l.node) (e i).loose n) (item_of node_cmp (λ (l : Loose). l.node) (f i).loose n)) };
    },
    (λ i. record g { rows = rows_told.2 i }),
  )
