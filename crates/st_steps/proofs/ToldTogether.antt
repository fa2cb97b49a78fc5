-- Two steps in turn, each name told in two listings as one: what both say together.
use Rattle.std.proofs.Common.{◌≡◌, Bool, true, false, ◌||◌, List, [], ◌∷◌, map, Option, Some, None, option_and_then, option_map, cond, refl, sym, ap, ◌∙◌}
use Rattle.std.proofs.lemmas.Map.Lookups.{CmpEqualImpliesEq}
use Rattle.std.specs.Cmp.{IsTotalOrder}
use Rattle.std.specs.List.{filter_map}
use Rattle.std.specs.Option.{option_or}
use Rattle.std.specs.Ordering.{is_eq}
use Rattle.std.specs.declared.cmp.Ordering.{Ordering}
use Rattle.st_ids.specs.Listing.{item_of}
use Rattle.st_ids.specs.Order.{field_cmp, node_cmp}
use Rattle.st_ids.proofs.Listings.{item_of-has}
use Rattle.st_ids.proofs.Orders.{field_cmp_exact, field_cmp_total, is_eq_equal, node_cmp_exact, node_cmp_total}
use Rattle.st_ids.specs.declared.names.FieldId.{FieldId}
use Rattle.st_ids.specs.declared.names.NodeId.{NodeId}
use Rattle.st_kind.specs.Named.{Nodes}
use Rattle.st_marks.specs.declared.marks.Loose.{Loose}
use Rattle.st_marks.specs.declared.marks.RegStep.{RegStep}
use Rattle.st_marks.specs.declared.marks.RowMarks.{RowMarks}
use Rattle.st_marks.specs.declared.places.Spot.{Spot}
use Rattle.st_marks.specs.declared.steps.Step.{Step}
use Rattle.st_marks.specs.Row.{merge, spread}
use Rattle.st_rows.specs.Cells.{compose_row}
use Rattle.st_steps.specs.Turned.{IsInTurn, how_in_turn, loose_in_turn, register_in_turn, row_in_turn}
use Rattle.st_steps.specs.inside.Told.{ToldInTurn, loose_before, loose_behind, register_behind, row_behind}

-- ## A list that is mapped

pub item_of-map : {K A : Type 0} (R : K → K → Ordering) (key : A → K) (f : A → A) → ((x : A) → key (f x) ≡ key x) → (xs : List A) (k : K) → item_of R key (map f xs) k ≡ option_map f (item_of R key xs k)
item_of-map R key f keeps [] k = refl
item_of-map R key f keeps (x ∷ xs) k = (λ i. cond (is_eq (R k (keeps x i))) (Some (f x)) (item_of-map R key f keeps xs k i)) ∙ go (is_eq (R k (key x)))
  where
    go : (b : Bool) → cond b (Some (f x)) (option_map f (item_of R key xs k)) ≡ option_map f (cond b (Some x) (item_of R key xs k))
    go true = refl
    go false = refl

-- ## A list of which some names are left out

module _ {K A : Type 0} (R : K → K → Ordering) (exact : CmpEqualImpliesEq R) (key : A → K) (f : A → Option A)
    (named : (x y : A) → f x ≡ Some y → key y ≡ key x) (by_name : (x y : A) → key x ≡ key y → f x ≡ None → f y ≡ None) where
  pub item_of-left : (total : IsTotalOrder R) (xs : List A) (k : K) → item_of R key (filter_map f xs) k ≡ option_and_then f (item_of R key xs k)
  item_of-left total [] k = refl
  item_of-left total (x ∷ xs) k = go (f x) refl (is_eq (R k (key x))) refl (item_of-left total xs k)
    where
      gone : f x ≡ None → key x ≡ k → (p : Option A) → item_of R key xs k ≡ p → option_and_then f p ≡ None
      gone e same None h = refl
      gone e same (Some y) h = by_name x y (same ∙ sym (item_of-has R total exact key xs k y h).1) e

      go : (o : Option A) → f x ≡ o → (b : Bool) → is_eq (R k (key x)) ≡ b → item_of R key (filter_map f xs) k ≡ option_and_then f (item_of R key xs k)
          → item_of R key (filter_map f (x ∷ xs)) k ≡ option_and_then f (cond (is_eq (R k (key x))) (Some x) (item_of R key xs k))
      go None e true g rest = rw (e, g) (
          let same : key x ≡ k = sym (exact k (key x) (is_eq_equal (R k (key x)) g)) in
          rest ∙ gone e same (item_of R key xs k) refl ∙ sym e)
      go None e false g rest = rw (e, g) rest
      go (Some y) e true g rest = rw (e, g) (
          let at : is_eq (R k (key y)) ≡ true = ap (λ j. is_eq (R k j)) (named x y e) ∙ g in
          ap (λ b. cond b (Some y) (item_of R key (filter_map f xs) k)) at ∙ sym e)
      go (Some y) e false g rest = rw (e, g) (
          let at : is_eq (R k (key y)) ≡ false = ap (λ j. is_eq (R k j)) (named x y e) ∙ g in
          ap (λ b. cond b (Some y) (item_of R key (filter_map f xs) k)) at ∙ rest)

-- ## A row and a register

row_keeps : (o : Option RowMarks) (t : RowMarks) → (row_behind o t).node ≡ t.node
row_keeps None t = refl
row_keeps (Some s) t = refl

register_keeps : (o : Option RegStep) (t : RegStep) → (register_behind o t).field ≡ t.field
register_keeps None t = refl
register_keeps (Some s) t = refl

module _ (S T : Step) where
  abbrev row_at : List RowMarks → NodeId → Option RowMarks
  row_at = item_of node_cmp (λ (r : RowMarks). r.node)

  abbrev reg_at : List RegStep → FieldId → Option RegStep
  reg_at = item_of field_cmp (λ (r : RegStep). r.field)

  abbrev loose_at : List Loose → NodeId → Option Loose
  loose_at = item_of node_cmp (λ (m : Loose). m.node)

  row_told : (n : NodeId) → option_or (row_at (map (λ (r : RowMarks). row_behind (row_at S.rows r.node) r) T.rows) n) (row_at S.rows n) ≡ row_in_turn n (row_at S.rows n) (row_at T.rows n)
  row_told n =
      ap (λ o. option_or o (row_at S.rows n)) (item_of-map node_cmp (λ (r : RowMarks). r.node) (λ (r : RowMarks). row_behind (row_at S.rows r.node) r) (λ r. row_keeps (row_at S.rows r.node) r) T.rows n)
      ∙ go (row_at S.rows n) refl (row_at T.rows n) refl
    where
      go : (p : Option RowMarks) → row_at S.rows n ≡ p → (q : Option RowMarks) → row_at T.rows n ≡ q → option_or (option_map (λ (r : RowMarks). row_behind (row_at S.rows r.node) r) q) p ≡ row_in_turn n p q
      go None e None f = refl
      go (Some r) e None f = refl
      go None e (Some u) f =
          let same = (item_of-has node_cmp node_cmp_total node_cmp_exact (λ (r : RowMarks). r.node) T.rows n u f).1 in
          ap (λ o. Some (row_behind o u)) (ap (row_at S.rows) same ∙ e)
      go (Some r) e (Some u) f =
          let same = (item_of-has node_cmp node_cmp_total node_cmp_exact (λ (r : RowMarks). r.node) T.rows n u f).1 in
          ap (λ o. Some (row_behind o u)) (ap (row_at S.rows) same ∙ e) ∙ (λ i. Some (record { node = same i; marks = merge (compose_row (spread r.marks) (spread u.marks)) }))

  register_told : (f : FieldId) → option_or (reg_at (map (λ (r : RegStep). register_behind (reg_at S.regs r.field) r) T.regs) f) (reg_at S.regs f) ≡ register_in_turn f (reg_at S.regs f) (reg_at T.regs f)
  register_told f =
      ap (λ o. option_or o (reg_at S.regs f)) (item_of-map field_cmp (λ (r : RegStep). r.field) (λ (r : RegStep). register_behind (reg_at S.regs r.field) r) (λ r. register_keeps (reg_at S.regs r.field) r) T.regs f)
      ∙ go (reg_at S.regs f) refl (reg_at T.regs f) refl
    where
      go : (p : Option RegStep) → reg_at S.regs f ≡ p → (q : Option RegStep) → reg_at T.regs f ≡ q → option_or (option_map (λ (r : RegStep). register_behind (reg_at S.regs r.field) r) q) p ≡ register_in_turn f p q
      go None e None g = refl
      go (Some r) e None g = refl
      go None e (Some u) g =
          let same = (item_of-has field_cmp field_cmp_total field_cmp_exact (λ (r : RegStep). r.field) T.regs f u g).1 in
          ap (λ o. Some (register_behind o u)) (ap (reg_at S.regs) same ∙ e)
      go (Some r) e (Some u) g =
          let same = (item_of-has field_cmp field_cmp_total field_cmp_exact (λ (r : RegStep). r.field) T.regs f u g).1 in
          ap (λ o. Some (register_behind o u)) (ap (reg_at S.regs) same ∙ e) ∙ (λ i. Some (record { field = same i; before = r.before; after = u.after }))

  -- ## A node that is nowhere

  behind_keeps : (stood new : Nodes) (l m : Loose) → loose_behind stood new l ≡ Some m → m.node ≡ l.node
  behind_keeps stood new l m e = go (stood l.node) (new l.node) e
    where
      go : (a b : Bool) → cond {A = Option Loose} a None (cond b None (Some l)) ≡ Some m → m.node ≡ l.node
      go true b e = cc
      go false true e = cc
      go false false e = let q : l ≡ m = cc in ap (λ (z : Loose). z.node) (sym q)

  behind_by_name : (stood new : Nodes) (l m : Loose) → l.node ≡ m.node → loose_behind stood new l ≡ None → loose_behind stood new m ≡ None
  behind_by_name stood new l m same e = go (stood l.node) refl (new l.node) refl e
    where
      go : (a : Bool) → stood l.node ≡ a → (b : Bool) → new l.node ≡ b → cond {A = Option Loose} a None (cond b None (Some l)) ≡ None → loose_behind stood new m ≡ None
      go true p b q e = ap (λ z. cond {A = Option Loose} z None (cond (new m.node) None (Some m))) (ap stood (sym same) ∙ p)
      go false p true q e = (λ i. cond {A = Option Loose} ((ap stood (sym same) ∙ p) i) None (cond ((ap new (sym same) ∙ q) i) None (Some m)))
      go false p false q e = cc

  loose_told : (stood new : Nodes) (spots : NodeId → Option Spot) (n : NodeId)
      → option_or (loose_at (map (loose_before spots) S.loose) n) (loose_at (filter_map (loose_behind stood new) T.loose) n) ≡ loose_in_turn (stood n || new n) (spots n) n (loose_at S.loose n) (loose_at T.loose n)
  loose_told stood new spots n =
      (λ i. option_or (item_of-map node_cmp (λ (m : Loose). m.node) (loose_before spots) (λ l. refl) S.loose n i)
      (item_of-left node_cmp node_cmp_exact (λ (m : Loose). m.node) (loose_behind stood new) (behind_keeps stood new) (behind_by_name stood new) node_cmp_total T.loose n i))
      ∙ go (loose_at S.loose n) refl (loose_at T.loose n) refl
    where
      none : (a b : Bool) (l : Loose) → cond {A = Option Loose} a None (cond b None (Some l)) ≡ cond (a || b) None (Some l)
      none true b l = refl
      none false b l = refl

      go : (p : Option Loose) → loose_at S.loose n ≡ p → (q : Option Loose) → loose_at T.loose n ≡ q → option_or (option_map (loose_before spots) p) (option_and_then (loose_behind stood new) q) ≡ loose_in_turn (stood n || new n) (spots n) n p q
      go None e None f = refl
      go (Some l) e q f =
          let same = (item_of-has node_cmp node_cmp_total node_cmp_exact (λ (m : Loose). m.node) S.loose n l e).1 in
          (λ i. Some (record { node = same i; how = how_in_turn l.how (spots (same i)) }))
      go None e (Some l) f =
          let same = (item_of-has node_cmp node_cmp_total node_cmp_exact (λ (m : Loose). m.node) T.loose n l f).1 in
          (λ i. cond {A = Option Loose} (stood (same i)) None (cond (new (same i)) None (Some l))) ∙ none (stood n) (new n) l

  pub in_turn_of : (G : Step) (stood new : Nodes) (spots : NodeId → Option Spot) → ToldInTurn S T G stood new spots → IsInTurn S T G stood new spots
  in_turn_of G stood new spots g = record {
    schema = g.schema;
    new_nodes = g.new_nodes;
    rows = record { rising = g.rows.rising; at_each = λ n. g.rows.at_each n ∙ row_told n };
    regs = record { rising = g.regs.rising; at_each = λ f. g.regs.at_each f ∙ register_told f };
    loose = record { rising = g.loose.rising; at_each = λ n. g.loose.at_each n ∙ loose_told stood new spots n };
  }
