-- What each of two steps says of a name, as code tells it: what is left of the second behind the first.
use Rattle.std.proofs.Common.{◌≡◌, ◌<◌, ◌^◌, Bool, true, false, ◌||◌, ◌&&◌, not, List, [], ◌∷◌, map, length, Option, Some, None, IfSome, option_map, option_and_then, is_some, cond, refl, sym, ap, ◌∙◌, subst}
use Rattle.std.specs.FinMap.Entries.{below_all}
use Rattle.std.specs.List.{AllByRecursion, filter_map}
use Rattle.std.specs.Option.{option_or}
use Rattle.std.specs.Ordering.{is_lt}
use Rattle.std.specs.declared.cmp.Ordering.{Ordering}
use Rattle.st_ids.specs.Listing.{IsListing, IsRising, item_of, key_pairs}
use Rattle.st_ids.specs.Order.{field_cmp, node_cmp, same_node}
use Rattle.st_ids.specs.Root.{root}
use Rattle.st_ids.proofs.Listings.{item_of-has}
use Rattle.st_ids.proofs.Orders.{field_cmp_exact, field_cmp_total, node_cmp_exact, node_cmp_total}
use Rattle.st_ids.proofs.Rising.{parts_true}
use Rattle.st_ids.specs.declared.names.FieldId.{FieldId}
use Rattle.st_ids.specs.declared.names.NodeId.{NodeId}
use Rattle.st_kind.specs.Named.{Nodes, either}
use Rattle.st_lemmas.proofs.Bools.{and-both}
use Rattle.st_marks.specs.declared.changes.NewNode.{NewNode}
use Rattle.st_marks.specs.declared.marks.How.TheVariants.{Stay, Leave}
use Rattle.st_marks.specs.declared.marks.Loose.{Loose}
use Rattle.st_marks.specs.declared.marks.RegStep.{RegStep}
use Rattle.st_marks.specs.declared.marks.RowMarks.{RowMarks}
use Rattle.st_marks.specs.declared.steps.Step.{Step}
use Rattle.st_marks.specs.Embedding.{is_among}
use Rattle.st_marks.specs.Listings.{nodes_new}
use Rattle.st_marks.specs.Row.{spread}
use Rattle.st_marks.proofs.Members.{all-has}
use Rattle.st_rows.proofs.RisingNodes.{one_way}
use Rattle.st_steps.proofs.ToldTogether.{item_of-left, item_of-map}
use Rattle.st_strip.specs.Rest.{IsRestOf, rest_loose, rest_new, rest_register, rest_row}
use Rattle.st_strip.specs.inside.Told.{ToldRest, marks_of_both, register_back, register_behind, row_back, row_behind, unless_made}

-- ## A rising list of which some items are left out

module _ {K A : Type 0} (R : K → K → Ordering) (key : A → K) (f : A → Option A) (named : (x y : A) → f x ≡ Some y → key y ≡ key x) where
  below-left : (k : K) (xs : List A) → below_all R k (key_pairs key xs) ≡ true → below_all R k (key_pairs key (filter_map f xs)) ≡ true
  below-left k [] b = refl
  below-left k (x ∷ xs) b = let p = parts_true _ _ b in go (f x) refl p.0 (below-left k xs p.1)
    where
      go : (o : Option A) → f x ≡ o → is_lt (R k (key x)) ≡ true → below_all R k (key_pairs key (filter_map f xs)) ≡ true → below_all R k (key_pairs key (filter_map f (x ∷ xs))) ≡ true
      go None e first rest = rw e rest
      go (Some y) e first rest = rw e (and-both _ _ (ap (λ j. is_lt (R k j)) (named x y e) ∙ first) rest)

  rising-left : (xs : List A) → IsRising R key xs → IsRising R key (filter_map f xs)
  rising-left [] r = refl
  rising-left (x ∷ xs) r = let p = parts_true _ _ r in go (f x) refl p.0 (rising-left xs p.1)
    where
      go : (o : Option A) → f x ≡ o → below_all R (key x) (key_pairs key xs) ≡ true → IsRising R key (filter_map f xs) → IsRising R key (filter_map f (x ∷ xs))
      go None e first rest = rw e rest
      go (Some y) e first rest = rw e (and-both _ _ (ap (λ j. below_all R j (key_pairs key (filter_map f xs))) (named x y e) ∙ below-left (key x) xs first) rest)

-- ## Rows that are short

pub item_short : (rows : List RowMarks) (n : NodeId) (o : Option RowMarks) → AllByRecursion (λ (r : RowMarks). length (spread r.marks) < 2 ^ 32) rows
    → o ≡ item_of node_cmp (λ (r : RowMarks). r.node) rows n → IfSome o (λ r. length (spread r.marks) < 2 ^ 32)
item_short rows n None h e = tt
item_short rows n (Some r) h e = all-has (λ (r : RowMarks). length (spread r.marks) < 2 ^ 32) rows r h (item_of-has node_cmp node_cmp_total node_cmp_exact (λ (r : RowMarks). r.node) rows n r (sym e)).0

-- ## Loose nodes

pub rest_named : (a b : Bool) (n : NodeId) (l : Loose) → rest_loose true a b n ≡ Some l → l.node ≡ n
rest_named a b n l e = go a (not (same_node n root)) e
  where
    go : (a z : Bool) → cond {A = Option Loose} (a && z) (Some (record { node = n; how = cond b Stay Leave })) None ≡ Some l → l.node ≡ n
    go true true e = let q : record { node = n; how = cond b Stay Leave } ≡ l = cc in ap (λ (z : Loose). z.node) (sym q)
    go true false e = cc
    go false z e = cc

-- a node that either tells of
pub rest_either : (a b p q : Bool) (n : NodeId) → option_or (rest_loose a p q n) (rest_loose b p q n) ≡ rest_loose (a || b) p q n
rest_either true true p q n = go (p && not (same_node n root))
  where
    go : (z : Bool) → option_or (cond {A = Option Loose} z (Some (record { node = n; how = cond q Stay Leave })) None) (cond z (Some (record { node = n; how = cond q Stay Leave })) None) ≡ cond z (Some (record { node = n; how = cond q Stay Leave })) None
    go true = refl
    go false = refl
rest_either true false p q n = go (p && not (same_node n root))
  where
    go : (z : Bool) → option_or (cond {A = Option Loose} z (Some (record { node = n; how = cond q Stay Leave })) None) None ≡ cond z (Some (record { node = n; how = cond q Stay Leave })) None
    go true = refl
    go false = refl
rest_either false b p q n = refl

-- ## All of it

item_among : (xs : List NewNode) (n : NodeId) → is_some (item_of node_cmp (λ (m : NewNode). m.node) xs n) ≡ is_among (nodes_new xs) n
item_among [] n = refl
item_among (x ∷ xs) n = (λ i. is_some (cond (one_way n x.node i) (Some x) (item_of node_cmp (λ (m : NewNode). m.node) xs n))) ∙ go (same_node x.node n) (item_among xs n)
  where
    go : (b : Bool) → is_some (item_of node_cmp (λ (m : NewNode). m.node) xs n) ≡ is_among (nodes_new xs) n → is_some (cond b (Some x) (item_of node_cmp (λ (m : NewNode). m.node) xs n)) ≡ (b || is_among (nodes_new xs) n)
    go true e = refl
    go false e = e

module _ (S W : Step) where
  abbrev row_at : List RowMarks → NodeId → Option RowMarks
  row_at = item_of node_cmp (λ (r : RowMarks). r.node)

  abbrev reg_at : List RegStep → FieldId → Option RegStep
  reg_at = item_of field_cmp (λ (r : RegStep). r.field)

  abbrev new_at : List NewNode → NodeId → Option NewNode
  new_at = item_of node_cmp (λ (m : NewNode). m.node)

  row_keeps : (o : Option RowMarks) (w : RowMarks) → (row_behind o w).node ≡ w.node
  row_keeps None w = refl
  row_keeps (Some s) w = refl

  register_keeps : (o : Option RegStep) (w : RegStep) → (register_behind o w).field ≡ w.field
  register_keeps None w = refl
  register_keeps (Some s) w = refl

  row_told : (n : NodeId) → option_or (row_at (map (λ (r : RowMarks). row_behind (row_at S.rows r.node) r) W.rows) n) (row_at (map row_back S.rows) n) ≡ rest_row n (row_at S.rows n) (row_at W.rows n)
  row_told n =
      (λ i. option_or (item_of-map node_cmp (λ (r : RowMarks). r.node) (λ (r : RowMarks). row_behind (row_at S.rows r.node) r) (λ r. row_keeps (row_at S.rows r.node) r) W.rows n i)
      (item_of-map node_cmp (λ (r : RowMarks). r.node) row_back (λ r. refl) S.rows n i))
      ∙ go (row_at S.rows n) refl (row_at W.rows n) refl
    where
      go : (p : Option RowMarks) → row_at S.rows n ≡ p → (q : Option RowMarks) → row_at W.rows n ≡ q → option_or (option_map (λ (r : RowMarks). row_behind (row_at S.rows r.node) r) q) (option_map row_back p) ≡ rest_row n p q
      go None e None f = refl
      go (Some r) e None f =
          let same = (item_of-has node_cmp node_cmp_total node_cmp_exact (λ (r : RowMarks). r.node) S.rows n r e).1 in
          λ i. Some (record { node = same i; marks = (row_back r).marks })
      go None e (Some u) f =
          let same = (item_of-has node_cmp node_cmp_total node_cmp_exact (λ (r : RowMarks). r.node) W.rows n u f).1 in
          ap (λ o. Some (row_behind o u)) (ap (row_at S.rows) same ∙ e)
      go (Some r) e (Some u) f =
          let same = (item_of-has node_cmp node_cmp_total node_cmp_exact (λ (r : RowMarks). r.node) W.rows n u f).1 in
          ap (λ o. Some (row_behind o u)) (ap (row_at S.rows) same ∙ e) ∙ (λ i. Some (record { node = same i; marks = marks_of_both r.marks u.marks }))

  register_told : (f : FieldId) → option_or (reg_at (map (λ (r : RegStep). register_behind (reg_at S.regs r.field) r) W.regs) f) (reg_at (map register_back S.regs) f) ≡ rest_register f (reg_at S.regs f) (reg_at W.regs f)
  register_told f =
      (λ i. option_or (item_of-map field_cmp (λ (r : RegStep). r.field) (λ (r : RegStep). register_behind (reg_at S.regs r.field) r) (λ r. register_keeps (reg_at S.regs r.field) r) W.regs f i)
      (item_of-map field_cmp (λ (r : RegStep). r.field) register_back (λ r. refl) S.regs f i))
      ∙ go (reg_at S.regs f) refl (reg_at W.regs f) refl
    where
      go : (p : Option RegStep) → reg_at S.regs f ≡ p → (q : Option RegStep) → reg_at W.regs f ≡ q → option_or (option_map (λ (r : RegStep). register_behind (reg_at S.regs r.field) r) q) (option_map register_back p) ≡ rest_register f p q
      go None e None g = refl
      go (Some r) e None g =
          let same = (item_of-has field_cmp field_cmp_total field_cmp_exact (λ (r : RegStep). r.field) S.regs f r e).1 in
          λ i. Some (record { field = same i; before = r.after; after = r.before })
      go None e (Some u) g =
          let same = (item_of-has field_cmp field_cmp_total field_cmp_exact (λ (r : RegStep). r.field) W.regs f u g).1 in
          ap (λ o. Some (register_behind o u)) (ap (reg_at S.regs) same ∙ e)
      go (Some r) e (Some u) g =
          let same = (item_of-has field_cmp field_cmp_total field_cmp_exact (λ (r : RegStep). r.field) W.regs f u g).1 in
          ap (λ o. Some (register_behind o u)) (ap (reg_at S.regs) same ∙ e) ∙ (λ i. Some (record { field = same i; before = r.after; after = u.after }))

  -- ## New nodes

  abbrev made : Nodes
  made = is_among (nodes_new S.new)

  new_named : (m k : NewNode) → unless_made made m ≡ Some k → k.node ≡ m.node
  new_named m k e = go (made m.node) e
    where
      go : (b : Bool) → cond {A = Option NewNode} b None (Some m) ≡ Some k → k.node ≡ m.node
      go true e = cc
      go false e = let q : m ≡ k = cc in ap (λ (z : NewNode). z.node) (sym q)

  new_by_name : (m k : NewNode) → m.node ≡ k.node → unless_made made m ≡ None → unless_made made k ≡ None
  new_by_name m k same e = go (made m.node) refl e
    where
      go : (b : Bool) → made m.node ≡ b → cond {A = Option NewNode} b None (Some m) ≡ None → unless_made made k ≡ None
      go true p e = ap (λ z. cond {A = Option NewNode} z None (Some k)) (ap made (sym same) ∙ p)
      go false p e = cc

  new_told : (n : NodeId) → new_at (filter_map (unless_made made) W.new) n ≡ rest_new (new_at S.new n) (new_at W.new n)
  new_told n =
      item_of-left node_cmp node_cmp_exact (λ (m : NewNode). m.node) (unless_made made) new_named new_by_name node_cmp_total W.new n
      ∙ go (new_at S.new n) (item_among S.new n) (new_at W.new n) refl
    where
      go : (p : Option NewNode) → is_some p ≡ made n → (q : Option NewNode) → new_at W.new n ≡ q → option_and_then (unless_made made) q ≡ rest_new p q
      go None e None f = refl
      go (Some m) e None f = refl
      go None e (Some k) f =
          let same = (item_of-has node_cmp node_cmp_total node_cmp_exact (λ (m : NewNode). m.node) W.new n k f).1 in
          ap (λ b. cond {A = Option NewNode} b None (Some k)) (ap made same ∙ sym e)
      go (Some m) e (Some k) f =
          let same = (item_of-has node_cmp node_cmp_total node_cmp_exact (λ (m : NewNode). m.node) W.new n k f).1 in
          ap (λ b. cond {A = Option NewNode} b None (Some k)) (ap made same ∙ sym e)

  pub rest_of : (G : Step) (told between last : Nodes) → IsRising node_cmp (λ (m : NewNode). m.node) W.new → ToldRest S W G told between last → IsRestOf S W G told between last
  rest_of G told between last rising g = record {
    schema = g.schema;
    new_nodes = record {
      rising = subst (IsRising node_cmp (λ (m : NewNode). m.node)) (sym g.new_nodes) (rising-left node_cmp (λ (m : NewNode). m.node) (unless_made made) new_named W.new rising);
      at_each = λ n. ap (λ l. new_at l n) g.new_nodes ∙ new_told n;
    };
    rows = record { rising = g.fields.rows.rising; at_each = λ n. g.fields.rows.at_each n ∙ row_told n };
    regs = record { rising = g.fields.regs.rising; at_each = λ f. g.fields.regs.at_each f ∙ register_told f };
    loose = g.loose;
  }

-- ## Loose nodes that either lists

pub rest_of_both : (a b between last : Nodes) (xs ys us vs out : List Loose) → xs ≡ us → ys ≡ vs
    → IsListing node_cmp (λ (l : Loose). l.node) us (λ n. rest_loose (a n) (between n) (last n) n) → IsListing node_cmp (λ (l : Loose). l.node) vs (λ n. rest_loose (b n) (between n) (last n) n)
    → IsListing node_cmp (λ (l : Loose). l.node) out (λ n. option_or (item_of node_cmp (λ (l : Loose). l.node) xs n) (item_of node_cmp (λ (l : Loose). l.node) ys n))
    → IsListing node_cmp (λ (l : Loose). l.node) out (λ n. rest_loose (either a b n) (between n) (last n) n)
rest_of_both a b between last xs ys us vs out e f g h w = record {
  rising = w.rising;
  at_each = λ n. w.at_each n ∙ (λ i. option_or ((ap (λ l. item_of node_cmp (λ (l : Loose). l.node) l n) e ∙ g.at_each n) i) ((ap (λ l. item_of node_cmp (λ (l : Loose). l.node) l n) f ∙ h.at_each n) i))
      ∙ rest_either (a n) (b n) (between n) (last n) n;
}
