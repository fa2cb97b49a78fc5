-- What is walked over a void commit says what the step says there.
use Rattle.std.proofs.Common.{◌≡◌, List, Option, Some, None, refl, sym, ap, ◌∙◌}
use Rattle.std.specs.List.{filter_map}
use Rattle.std.specs.Option.{option_and_then}
use Rattle.st_ids.specs.Listing.{IsListing, IsRising, item_of}
use Rattle.st_ids.specs.Order.{node_cmp}
use Rattle.st_ids.proofs.Listings.{item_of-has}
use Rattle.st_ids.proofs.Orders.{node_cmp_exact, node_cmp_total}
use Rattle.st_ids.specs.declared.names.NodeId.{NodeId}
use Rattle.st_marks.specs.declared.changes.Change.{Change}
use Rattle.st_marks.specs.declared.marks.RowMarks.{RowMarks}
use Rattle.st_marks.specs.declared.steps.Step.{Step}
use Rattle.st_steps.specs.Across.{IsAcross, row_across}
use Rattle.st_bridge.proofs.FilteredLists.{listing_left}
use Rattle.st_bridge.specs.inside.Walked.{row_walked}

module _ (cs ss : List RowMarks) where
  -- a row over a void commit is of the same node
  walked_node : (r q : RowMarks) → row_walked cs ss r ≡ Some q → q.node ≡ r.node
  walked_node r q e = go (item_of node_cmp (λ (r : RowMarks). r.node) cs r.node) (item_of node_cmp (λ (r : RowMarks). r.node) ss r.node) refl e
    where
      go : (c s : Option RowMarks) → item_of node_cmp (λ (r : RowMarks). r.node) ss r.node ≡ s → row_across r.node c s ≡ Some q → q.node ≡ r.node
      go c None f e = cc
      go None (Some u) f e =
          let same : ◌≡◌ {A = RowMarks} u q = cc in
          sym (ap (λ (z : RowMarks). z.node) same) ∙ (item_of-has node_cmp node_cmp_total node_cmp_exact (λ (r : RowMarks). r.node) ss r.node u f).1
      go (Some v) (Some u) f e = let same : r.node ≡ q.node = cc in sym same

  walked_at : (n : NodeId) → option_and_then (row_walked cs ss) (item_of node_cmp (λ (r : RowMarks). r.node) ss n)
      ≡ row_across n (item_of node_cmp (λ (r : RowMarks). r.node) cs n) (item_of node_cmp (λ (r : RowMarks). r.node) ss n)
  walked_at n = go (item_of node_cmp (λ (r : RowMarks). r.node) ss n) refl
    where
      go : (s : Option RowMarks) → item_of node_cmp (λ (r : RowMarks). r.node) ss n ≡ s → option_and_then (row_walked cs ss) s ≡ row_across n (item_of node_cmp (λ (r : RowMarks). r.node) cs n) s
      go None e = none (item_of node_cmp (λ (r : RowMarks). r.node) cs n)
        where
          none : (c : Option RowMarks) → None ≡ row_across n c None
          none None = refl
          none (Some c) = refl
      go (Some u) e =
          let same = (item_of-has node_cmp node_cmp_total node_cmp_exact (λ (r : RowMarks). r.node) ss n u e).1 in
          ap (λ k. row_across k (item_of node_cmp (λ (r : RowMarks). r.node) cs k) (item_of node_cmp (λ (r : RowMarks). r.node) ss k)) same
          ∙ ap (row_across n (item_of node_cmp (λ (r : RowMarks). r.node) cs n)) e

  pub walked_listing : (ys : List RowMarks) → IsRising node_cmp (λ (r : RowMarks). r.node) ss → ys ≡ filter_map (row_walked cs ss) ss
      → IsListing node_cmp (λ (r : RowMarks). r.node) ys (λ n. row_across n (item_of node_cmp (λ (r : RowMarks). r.node) cs n) (item_of node_cmp (λ (r : RowMarks). r.node) ss n))
  walked_listing ys rising e =
      let left = listing_left node_cmp node_cmp_exact (λ (r : RowMarks). r.node) (row_walked cs ss) walked_node ss ys rising e in
      record { rising = left.rising; at_each = λ n. left.at_each n ∙ walked_at n }

pub is_across : (C : Change) (S G : Step) (rows : List RowMarks) → IsRising node_cmp (λ (r : RowMarks). r.node) S.rows → rows ≡ filter_map (row_walked C.rows S.rows) S.rows → G ≡ record S { rows = rows } → IsAcross C S G
is_across C S G rows rising e g = record {
  schema = ap (λ (z : Step). z.schema) g;
  new_nodes = ap (λ (z : Step). z.new) g;
  rows = walked_listing C.rows S.rows G.rows rising (ap (λ (z : Step). z.rows) g ∙ e);
  regs = ap (λ (z : Step). z.regs) g;
  loose = ap (λ (z : Step). z.loose) g;
}
