-- Two parts of one commit of which either counts empty cells that it could name: what they say together names as much, but for these.
use Rattle.std.proofs.Common.{◌≡◌, List, [], ◌∷◌, map, Option, Some, None, option_map, unwrap_or, refl, sym, ap, ◌∙◌}
use Rattle.std.specs.Option.{option_or}
use Rattle.st_ids.specs.Listing.{Has, IsListing, item_of}
use Rattle.st_ids.specs.Order.{field_cmp, node_cmp}
use Rattle.st_ids.proofs.Listings.{has-item_of, item_of-has}
use Rattle.st_ids.proofs.Orders.{node_cmp_exact, node_cmp_total}
use Rattle.st_ids.specs.declared.names.NodeId.{NodeId}
use Rattle.st_kind.specs.Named.{Nodes}
use Rattle.st_lemmas.proofs.Options.{one_some}
use Rattle.st_marks.specs.declared.changes.Change.{Change}
use Rattle.st_marks.specs.declared.changes.NewNode.{NewNode}
use Rattle.st_marks.specs.declared.intents.To.{To}
use Rattle.st_marks.specs.declared.marks.How.TheVariants.{Stay, Here, Leave}
use Rattle.st_marks.specs.declared.marks.Loose.{Loose}
use Rattle.st_marks.specs.declared.marks.Mark.{Mark}
use Rattle.st_marks.specs.declared.marks.RegMark.{RegMark}
use Rattle.st_marks.specs.declared.marks.RowMarks.{RowMarks}
use Rattle.st_marks.specs.Row.{CellMark, Counted, Gap, Touch, Make, Fill, merge, spread}
use Rattle.st_mention_laws.specs.Shown.{thin, thin_marks, thin_row, unnamed}
use Rattle.st_mention_laws.proofs.ThinForms.{spread-thin}
use Rattle.st_rows.specs.Cells.{join_row, joined_mark}
use Rattle.st_rows.proofs.KindLaws.{spread-merge}
use Rattle.st_parts.specs.Joined.{row_joined}
use Rattle.st_parts.specs.JoinedParts.{IsOfParts, loose_joined, need_joined, register_joined}
use Rattle.st_parts.proofs.MappedItems.{item_of-map, listing-map, map-same}

-- ## A cell and a row

joined_blind : (x y : CellMark) → unnamed (joined_mark (unnamed x) (unnamed y)) ≡ unnamed (joined_mark x y)
joined_blind Counted Counted = refl
joined_blind Counted (Gap d) = refl
joined_blind Counted (Touch d n h) = refl
joined_blind Counted (Make d n b) = refl
joined_blind Counted (Fill d n) = refl
joined_blind (Gap c) Counted = refl
joined_blind (Gap c) (Gap d) = refl
joined_blind (Gap c) (Touch d n h) = refl
joined_blind (Gap c) (Make d n b) = refl
joined_blind (Gap c) (Fill d n) = refl
joined_blind (Touch c n h) Counted = refl
joined_blind (Touch c n Stay) (Gap d) = refl
joined_blind (Touch c n Here) (Gap d) = refl
joined_blind (Touch c n Leave) (Gap d) = refl
joined_blind (Touch c n h) (Touch d k g) = refl
joined_blind (Touch c n h) (Make d k b) = refl
joined_blind (Touch c n h) (Fill d k) = refl
joined_blind (Make c n b) Counted = refl
joined_blind (Make c n b) (Gap d) = refl
joined_blind (Make c n b) (Touch d k g) = refl
joined_blind (Make c n b) (Make d k q) = refl
joined_blind (Make c n b) (Fill d k) = refl
joined_blind (Fill c n) Counted = refl
joined_blind (Fill c n) (Gap d) = refl
joined_blind (Fill c n) (Touch d k g) = refl
joined_blind (Fill c n) (Make d k q) = refl
joined_blind (Fill c n) (Fill d k) = refl

join_blind : (xs ys : List CellMark) → map unnamed (join_row (map unnamed xs) (map unnamed ys)) ≡ map unnamed (join_row xs ys)
join_blind xs [] = refl
join_blind xs (Make c n b ∷ ys) = ap (λ l. Make c n b ∷ l) (join_blind xs ys)
join_blind [] (Counted ∷ ys) = refl
join_blind [] (Gap c ∷ ys) = refl
join_blind [] (Touch c n h ∷ ys) = refl
join_blind [] (Fill c n ∷ ys) = refl
join_blind (x ∷ xs) (Counted ∷ ys) = λ i. joined_blind x Counted i ∷ join_blind xs ys i
join_blind (x ∷ xs) (Gap c ∷ ys) = λ i. joined_blind x (Gap c) i ∷ join_blind xs ys i
join_blind (x ∷ xs) (Touch c n h ∷ ys) = λ i. joined_blind x (Touch c n h) i ∷ join_blind xs ys i
join_blind (x ∷ xs) (Fill c n ∷ ys) = λ i. joined_blind x (Fill c n) i ∷ join_blind xs ys i

cells_alike : (a u : List Mark) → thin_marks a ≡ thin_marks u → map unnamed (spread a) ≡ map unnamed (spread u)
cells_alike a u e = sym (spread-thin a) ∙ ap spread e ∙ spread-thin u

thin_merged : (cells : List CellMark) → thin_marks (merge cells) ≡ merge (map unnamed cells)
thin_merged cells = ap (λ l. merge (map unnamed l)) (spread-merge cells)

both_alike : (a b u v : List Mark) → thin_marks a ≡ thin_marks u → thin_marks b ≡ thin_marks v
    → thin_marks (merge (join_row (spread a) (spread b))) ≡ thin_marks (merge (join_row (spread u) (spread v)))
both_alike a b u v e f =
    thin_merged (join_row (spread a) (spread b))
    ∙ ap merge (sym (join_blind (spread a) (spread b)) ∙ (λ i. map unnamed (join_row (cells_alike a u e i) (cells_alike b v f i))) ∙ join_blind (spread u) (spread v))
    ∙ sym (thin_merged (join_row (spread u) (spread v)))

abbrev thin_found : Option RowMarks → Option RowMarks
thin_found o = option_map thin_row o

row_alike : (n : NodeId) (p u q v : Option RowMarks) → thin_found p ≡ thin_found u → thin_found q ≡ thin_found v → thin_found (row_joined n p q) ≡ thin_found (row_joined n u v)
row_alike n None None None None a b = refl
row_alike n None None None (Some t) a b = let bad : ◌≡◌ {A = Option RowMarks} None (Some (thin_row t)) = b in cc
row_alike n None None (Some t) None a b = let bad : ◌≡◌ {A = Option RowMarks} (Some (thin_row t)) None = b in cc
row_alike n None None (Some t) (Some z) a b = b
row_alike n None (Some s) q v a b = let bad : ◌≡◌ {A = Option RowMarks} None (Some (thin_row s)) = a in cc
row_alike n (Some s) None q v a b = let bad : ◌≡◌ {A = Option RowMarks} (Some (thin_row s)) None = a in cc
row_alike n (Some s) (Some r) None None a b = a
row_alike n (Some s) (Some r) None (Some t) a b = let bad : ◌≡◌ {A = Option RowMarks} None (Some (thin_row t)) = b in cc
row_alike n (Some s) (Some r) (Some t) None a b = let bad : ◌≡◌ {A = Option RowMarks} (Some (thin_row t)) None = b in cc
row_alike n (Some s) (Some r) (Some t) (Some z) a b =
    let first = ap (λ (q : RowMarks). q.marks) (one_some (thin_row s) (thin_row r) a) in
    let second = ap (λ (q : RowMarks). q.marks) (one_some (thin_row t) (thin_row z) b) in
    λ i. Some (record { node = n; marks = both_alike s.marks t.marks r.marks z.marks first second i })

-- ## A listing of rows, and one that is alike

abbrev row_at : List RowMarks → NodeId → Option RowMarks
row_at = item_of node_cmp (λ (r : RowMarks). r.node)

found_alike : (rows others : List RowMarks) → map thin_row rows ≡ map thin_row others → (n : NodeId) → thin_found (row_at rows n) ≡ thin_found (row_at others n)
found_alike rows others e n =
    sym (item_of-map node_cmp (λ (r : RowMarks). r.node) thin_row (λ r. refl) rows n) ∙ ap (λ l. row_at l n) e ∙ item_of-map node_cmp (λ (r : RowMarks). r.node) thin_row (λ r. refl) others n

module _ (rows : List RowMarks) (look others : NodeId → Option RowMarks) (l : IsListing node_cmp (λ (r : RowMarks). r.node) rows look)
    (alike : (n : NodeId) → thin_found (look n) ≡ thin_found (others n)) where
  -- a row, with the marks that the other has
  abbrev other : RowMarks → RowMarks
  other r = record { node = r.node; marks = unwrap_or (option_map (λ (q : RowMarks). q.marks) (others r.node)) r.marks }

  other_is : (n : NodeId) → option_map other (row_at rows n) ≡ others n
  other_is n = go (row_at rows n) refl (others n) refl (ap thin_found (l.at_each n) ∙ alike n)
    where
      go : (o : Option RowMarks) → row_at rows n ≡ o → (p : Option RowMarks) → others n ≡ p → thin_found (row_at rows n) ≡ thin_found (others n) → option_map other o ≡ p
      go None e None f a = refl
      go None e (Some q) f a = let bad : ◌≡◌ {A = Option RowMarks} None (Some (thin_row q)) = sym (ap thin_found e) ∙ a ∙ ap thin_found f in cc
      go (Some r) e None f a = let bad : ◌≡◌ {A = Option RowMarks} (Some (thin_row r)) None = sym (ap thin_found e) ∙ a ∙ ap thin_found f in cc
      go (Some r) e (Some q) f a =
          let at : r.node ≡ n = (item_of-has node_cmp node_cmp_total node_cmp_exact (λ (r : RowMarks). r.node) rows n r e).1 in
          let same : thin_row r ≡ thin_row q = one_some (thin_row r) (thin_row q) (sym (ap thin_found e) ∙ a ∙ ap thin_found f) in
          let marks : unwrap_or (option_map (λ (q : RowMarks). q.marks) (others r.node)) r.marks ≡ q.marks = ap (λ o. unwrap_or (option_map (λ (q : RowMarks). q.marks) o) r.marks) (ap others at ∙ f) in
          λ i. Some (record { node = (same i).node; marks = marks i })

  thin_other : (r : RowMarks) → Has rows r → thin_row r ≡ thin_row (other r)
  thin_other r h = go (others r.node) refl
    where
      at : thin_found (others r.node) ≡ Some (thin_row r)
      at = sym (alike r.node) ∙ ap thin_found (sym (l.at_each r.node) ∙ has-item_of node_cmp node_cmp_total node_cmp_exact (λ (r : RowMarks). r.node) rows r l.rising h)

      go : (p : Option RowMarks) → others r.node ≡ p → thin_row r ≡ thin_row (record { node = r.node; marks = unwrap_or (option_map (λ (q : RowMarks). q.marks) p) r.marks })
      go None f = refl
      go (Some q) f =
          let same : thin_row r ≡ thin_row q = one_some (thin_row r) (thin_row q) (sym at ∙ ap thin_found f) in
          λ i. record { node = r.node; marks = (same i).marks }

  -- there is a listing of the others, and it is alike
  alike_listing : (ys : List RowMarks) × IsListing node_cmp (λ (r : RowMarks). r.node) ys others × (map thin_row rows ≡ map thin_row ys)
  alike_listing =
      let m = listing-map node_cmp (λ (r : RowMarks). r.node) other (λ r. refl) rows l.rising in (
        map other rows,
        record { rising = m.rising; at_each = λ n. m.at_each n ∙ other_is n },
        map-same thin_row (λ r. thin_row (other r)) rows thin_other ∙ twice rows,
      )
    where
      twice : (xs : List RowMarks) → map (λ r. thin_row (other r)) xs ≡ map thin_row (map other xs)
      twice [] = refl
      twice (x ∷ xs) = ap (λ l. thin_row (other x) ∷ l) (twice xs)

-- ## All of it

module _ (C X c d g : Change) (e : thin C ≡ thin c) (f : thin X ≡ thin d) (new known : Nodes) (goes : NodeId → Option To) (told : IsOfParts C X g new known goes) where
  rows_told : (ys : List RowMarks) × IsListing node_cmp (λ (r : RowMarks). r.node) ys (λ n. row_joined n (row_at c.rows n) (row_at d.rows n)) × (map thin_row g.rows ≡ map thin_row ys)
  rows_told = alike_listing g.rows (λ n. row_joined n (row_at C.rows n) (row_at X.rows n)) (λ n. row_joined n (row_at c.rows n) (row_at d.rows n)) told.rows
      (λ n. row_alike n (row_at C.rows n) (row_at c.rows n) (row_at X.rows n) (row_at d.rows n)
      (found_alike C.rows c.rows (ap (λ (q : Change). q.rows) e) n) (found_alike X.rows d.rows (ap (λ (q : Change). q.rows) f) n))

  -- what both say together names as much as what c and d do, but for empty cells
  pub shown_parts : (G : Change) × IsOfParts c d G new known goes × (thin g ≡ thin G)
  shown_parts = (
    record g { rows = rows_told.0 },
    record {
      rev = told.rev ∙ (λ i. (e i).rev);
      under = told.under ∙ (λ i. (e i).under);
      base = told.base ∙ (λ i. (e i).base);
      schema = told.schema;
      need = record { rising = told.need.rising; at_each = λ n. told.need.at_each n ∙ (λ i. need_joined (new n) (item_of node_cmp (λ (n : NodeId). n) (e i).need n) (item_of node_cmp (λ (n : NodeId). n) (f i).need n)) };
      new_nodes = record { rising = told.new_nodes.rising; at_each = λ n. told.new_nodes.at_each n ∙ (λ i. option_or (item_of node_cmp (λ (m : NewNode). m.node) (e i).new n) (item_of node_cmp (λ (m : NewNode). m.node) (f i).new n)) };
      rows = rows_told.1;
      regs = record { rising = told.regs.rising; at_each = λ k. told.regs.at_each k ∙ (λ i. register_joined goes k (item_of field_cmp (λ (r : RegMark). r.field) (e i).regs k) (item_of field_cmp (λ (r : RegMark). r.field) (f i).regs k)) };
      loose = record { rising = told.loose.rising; at_each = λ n. told.loose.at_each n ∙ (λ i. loose_joined goes (known n) n (item_of node_cmp (λ (l : Loose). l.node) (e i).loose n) (item_of node_cmp (λ (l : Loose). l.node) (f i).loose n)) };
    },
    (λ i. record g { rows = rows_told.2 i }),
  )
