-- Two parts of one commit, each name told in two listings as one: what both say together.
use Rattle.std.proofs.Common.{◌≡◌, Bool, true, false, ◌||◌, List, map, Option, Some, None, option_and_then, option_map, cond, refl, sym, ap, ◌∙◌, subst}
use Rattle.std.specs.List.{filter_map}
use Rattle.std.specs.Option.{option_or}
use Rattle.st_ids.specs.Listing.{item_of}
use Rattle.st_ids.specs.Order.{field_cmp, node_cmp}
use Rattle.st_ids.proofs.Listings.{item_of-has}
use Rattle.st_ids.proofs.Orders.{field_cmp_exact, field_cmp_total, node_cmp_exact, node_cmp_total}
use Rattle.st_ids.specs.declared.names.FieldId.{FieldId}
use Rattle.st_ids.specs.declared.names.NodeId.{NodeId}
use Rattle.st_kind.specs.Named.{Nodes}
use Rattle.st_marks.specs.declared.changes.Change.{Change}
use Rattle.st_marks.specs.declared.intents.To.{To}
use Rattle.st_marks.specs.declared.marks.Loose.{Loose}
use Rattle.st_marks.specs.declared.marks.RegMark.{RegMark}
use Rattle.st_marks.specs.declared.marks.RowMarks.{RowMarks}
use Rattle.st_marks.specs.Row.{how, merge, spread}
use Rattle.st_rows.specs.Cells.{join_row}
use Rattle.st_parts.specs.Joined.{row_joined}
use Rattle.st_part_listings.specs.Together.{if_it_goes, loose_before, loose_behind, mark_joined, put_there, register_behind, unless_new}
use Rattle.st_parts.specs.JoinedParts.{IsOfParts, loose_joined, need_joined, register_joined}
use Rattle.st_parts.specs.inside.OfParts.{ToldOfParts, row_behind, row_of_both}
use Rattle.st_parts.proofs.MappedItems.{item_of-left, item_of-map}

abbrev row_at : List RowMarks → NodeId → Option RowMarks
row_at = item_of node_cmp (λ (r : RowMarks). r.node)

abbrev reg_at : List RegMark → FieldId → Option RegMark
reg_at = item_of field_cmp (λ (r : RegMark). r.field)

abbrev loose_at : List Loose → NodeId → Option Loose
loose_at = item_of node_cmp (λ (m : Loose). m.node)

abbrev node_at : List NodeId → NodeId → Option NodeId
node_at = item_of node_cmp (λ (n : NodeId). n)

row_keeps : (o : Option RowMarks) (t : RowMarks) → (row_behind o t).node ≡ t.node
row_keeps None t = refl
row_keeps (Some s) t = refl

register_keeps : (goes : NodeId → Option To) (o : Option RegMark) (t : RegMark) → (register_behind goes o t).field ≡ t.field
register_keeps goes None t = refl
register_keeps goes (Some s) t = refl

row_together : (n : NodeId) (s t : RowMarks) → t.node ≡ n → row_of_both t.node s.marks t.marks ≡ record { node = n; marks = merge (join_row (spread s.marks) (spread t.marks)) }
row_together n s t same = λ i. record { node = same i; marks = merge (join_row (spread s.marks) (spread t.marks)) }

-- ## Registers

register_at : (goes : NodeId → Option To) (cs xs : List RegMark) (f : FieldId)
    → option_or (reg_at (map (λ (r : RegMark). register_behind goes (reg_at cs r.field) r) xs) f) (reg_at (map (register_behind goes None) cs) f) ≡ register_joined goes f (reg_at cs f) (reg_at xs f)
register_at goes cs xs f =
    (λ i. option_or (item_of-map field_cmp (λ (r : RegMark). r.field) (λ (r : RegMark). register_behind goes (reg_at cs r.field) r) (λ r. register_keeps goes (reg_at cs r.field) r) xs f i)
    (item_of-map field_cmp (λ (r : RegMark). r.field) (register_behind goes None) (λ r. refl) cs f i))
    ∙ go (reg_at cs f) refl (reg_at xs f) refl
  where
    named : (rs : List RegMark) (r : RegMark) → reg_at rs f ≡ Some r → r.field ≡ f
    named rs r e = (item_of-has field_cmp field_cmp_total field_cmp_exact (λ (r : RegMark). r.field) rs f r e).1

    go : (p : Option RegMark) → reg_at cs f ≡ p → (q : Option RegMark) → reg_at xs f ≡ q
        → option_or (option_map (λ (r : RegMark). register_behind goes (reg_at cs r.field) r) q) (option_map (register_behind goes None) p) ≡ register_joined goes f p q
    go None e None g = refl
    go (Some r) e None g = ap (λ k. Some (mark_joined goes k r.held r.clear (if_it_goes goes (To.Register k) (put_there r)))) (named cs r e)
    go None e (Some t) g =
        ap (λ o. Some (register_behind goes o t)) (ap (reg_at cs) (named xs t g) ∙ e)
        ∙ ap (λ k. Some (mark_joined goes k t.held t.clear (if_it_goes goes (To.Register k) (put_there t)))) (named xs t g)
    go (Some r) e (Some t) g =
        ap (λ o. Some (register_behind goes o t)) (ap (reg_at cs) (named xs t g) ∙ e)
        ∙ ap (λ k. Some (mark_joined goes k r.held (r.clear || t.clear) (option_or (if_it_goes goes (To.Register k) (put_there t)) (if_it_goes goes (To.Register k) (put_there r))))) (named xs t g)

-- ## Nodes

loose_by_name : (goes : NodeId → Option To) (known : Nodes) (l m : Loose) → l.node ≡ m.node → loose_behind goes known l ≡ None → loose_behind goes known m ≡ None
loose_by_name goes known l m same e = go (known l.node) refl e
  where
    go : (b : Bool) → known l.node ≡ b → cond b None (Some (loose_before goes l)) ≡ None → loose_behind goes known m ≡ None
    go true q e = ap (λ b. cond {A = Option Loose} b None (Some (loose_before goes m))) (ap known (sym same) ∙ q)
    go false q e = cc

loose_keeps : (goes : NodeId → Option To) (known : Nodes) (l m : Loose) → loose_behind goes known l ≡ Some m → m.node ≡ l.node
loose_keeps goes known l m e = go (known l.node) e
  where
    go : (b : Bool) → cond b None (Some (loose_before goes l)) ≡ Some m → m.node ≡ l.node
    go true e = cc
    go false e = let q : loose_before goes l ≡ m = cc in ap (λ (z : Loose). z.node) (sym q)

loose_told : (goes : NodeId → Option To) (known : Nodes) (cs xs : List Loose) (n : NodeId)
    → option_or (loose_at (map (loose_before goes) cs) n) (loose_at (filter_map (loose_behind goes known) xs) n) ≡ loose_joined goes (known n) n (loose_at cs n) (loose_at xs n)
loose_told goes known cs xs n =
    (λ i. option_or (item_of-map node_cmp (λ (m : Loose). m.node) (loose_before goes) (λ l. refl) cs n i)
    (item_of-left node_cmp node_cmp_exact (λ (m : Loose). m.node) (loose_behind goes known) (loose_keeps goes known) (loose_by_name goes known) node_cmp_total xs n i))
    ∙ go (loose_at cs n) refl (loose_at xs n) refl
  where
    named : (ls : List Loose) (l : Loose) → loose_at ls n ≡ Some l → l.node ≡ n
    named ls l e = (item_of-has node_cmp node_cmp_total node_cmp_exact (λ (m : Loose). m.node) ls n l e).1

    go : (p : Option Loose) → loose_at cs n ≡ p → (q : Option Loose) → loose_at xs n ≡ q → option_or (option_map (loose_before goes) p) (option_and_then (loose_behind goes known) q) ≡ loose_joined goes (known n) n p q
    go None e None g = refl
    go (Some l) e q g = ap (λ k. Some (record { node = k; how = how (goes k) To.Nowhere })) (named cs l e)
    go None e (Some l) g = ap (λ k. cond {A = Option Loose} (known k) None (Some (record { node = k; how = how (goes k) To.Nowhere }))) (named xs l g)

need_told : (new : Nodes) (cs xs : List NodeId) (n : NodeId) → option_or (node_at cs n) (node_at (filter_map (unless_new new) xs) n) ≡ need_joined (new n) (node_at cs n) (node_at xs n)
need_told new cs xs n = ap (option_or (node_at cs n)) (item_of-left node_cmp node_cmp_exact (λ (n : NodeId). n) (unless_new new) keeps by_name node_cmp_total xs n ∙ go (node_at xs n) refl)
  where
    keeps : (a b : NodeId) → unless_new new a ≡ Some b → b ≡ a
    keeps a b e = at (new a) e
      where
        at : (c : Bool) → cond c None (Some a) ≡ Some b → b ≡ a
        at true e = cc
        at false e = let q : a ≡ b = cc in sym q

    by_name : (a b : NodeId) → a ≡ b → unless_new new a ≡ None → unless_new new b ≡ None
    by_name a b same e = subst (λ c. unless_new new c ≡ None) same e

    go : (q : Option NodeId) → node_at xs n ≡ q → option_and_then (unless_new new) q ≡ cond (new n) None q
    go None e = at (new n)
      where
        at : (c : Bool) → None ≡ cond {A = Option NodeId} c None None
        at true = refl
        at false = refl
    go (Some k) e = ap (λ a. cond {A = Option NodeId} (new a) None (Some k)) (item_of-has node_cmp node_cmp_total node_cmp_exact (λ (n : NodeId). n) xs n k e).1

-- ## All of it

module _ (C X : Change) where
  row_told : (n : NodeId) → option_or (row_at (map (λ (r : RowMarks). row_behind (row_at C.rows r.node) r) X.rows) n) (row_at C.rows n) ≡ row_joined n (row_at C.rows n) (row_at X.rows n)
  row_told n =
      ap (λ o. option_or o (row_at C.rows n)) (item_of-map node_cmp (λ (r : RowMarks). r.node) (λ (r : RowMarks). row_behind (row_at C.rows r.node) r) (λ r. row_keeps (row_at C.rows r.node) r) X.rows n)
      ∙ go (row_at C.rows n) refl (row_at X.rows n) refl
    where
      go : (p : Option RowMarks) → row_at C.rows n ≡ p → (q : Option RowMarks) → row_at X.rows n ≡ q → option_or (option_map (λ (r : RowMarks). row_behind (row_at C.rows r.node) r) q) p ≡ row_joined n p q
      go None e None g = refl
      go (Some r) e None g = refl
      go None e (Some u) g =
          let same = (item_of-has node_cmp node_cmp_total node_cmp_exact (λ (r : RowMarks). r.node) X.rows n u g).1 in
          ap (λ o. Some (row_behind o u)) (ap (row_at C.rows) same ∙ e)
      go (Some r) e (Some u) g =
          let same = (item_of-has node_cmp node_cmp_total node_cmp_exact (λ (r : RowMarks). r.node) X.rows n u g).1 in
          ap (λ o. Some (row_behind o u)) (ap (row_at C.rows) same ∙ e) ∙ ap (λ z. Some z) (row_together n r u same)

  pub of_parts : (G : Change) (new known : Nodes) (goes : NodeId → Option To) → ToldOfParts C X G new known goes → IsOfParts C X G new known goes
  of_parts G new known goes g = record {
    rev = g.rev;
    under = g.under;
    base = g.base;
    schema = g.schema;
    need = record { rising = g.need.rising; at_each = λ n. g.need.at_each n ∙ need_told new C.need X.need n };
    new_nodes = g.new_nodes;
    rows = record { rising = g.rows.rising; at_each = λ n. g.rows.at_each n ∙ row_told n };
    regs = record { rising = g.regs.rising; at_each = λ f. g.regs.at_each f ∙ register_at goes C.regs X.regs f };
    loose = record { rising = g.loose.rising; at_each = λ n. g.loose.at_each n ∙ loose_told goes known C.loose X.loose n };
  }
