-- A change put together field by field is the change laid beside a step.
use Rattle.std.proofs.Common.{◌≡◌, Bool, true, false, ◌&&◌, cond, not, Option, Some, None, sym, ap, ◌∙◌, subst}
use Rattle.std.specs.BTreeMap.{BTreeMap}
use Rattle.std.specs.BTreeSet.{BTreeSet, contains}
use Rattle.std.specs.Prelude.{List}
use Rattle.st_ids.specs.Listing.{IsListing, item_of}
use Rattle.st_ids.specs.Order.{field_cmp, node_cmp, same_node}
use Rattle.st_ids.specs.Root.{root}
use Rattle.st_ids.proofs.Orders.{node_cmp_exact}
use Rattle.st_ids.specs.declared.names.NodeId.{NodeId}
use Rattle.st_marks.specs.declared.changes.Change.{Change}
use Rattle.st_marks.specs.declared.intents.Intent.{Intent}
use Rattle.st_marks.specs.declared.intents.To.{To}
use Rattle.st_marks.specs.declared.marks.Loose.{Loose}
use Rattle.st_marks.specs.declared.marks.RegMark.{RegMark}
use Rattle.st_marks.specs.declared.marks.RegStep.{RegStep}
use Rattle.st_marks.specs.declared.marks.RowMarks.{RowMarks}
use Rattle.st_marks.specs.declared.places.Spot.{Spot}
use Rattle.st_marks.specs.declared.steps.Step.{Step}
use Rattle.st_marks.specs.Document.{Document, content}
use Rattle.st_marks.specs.Embedding.{IsEmbedding, embed_loose, is_nowhere, row_marks, row_part}
use Rattle.st_marks.specs.Extends.{IsExtendedBy}
use Rattle.st_marks.specs.Intent.{Fits, put_of}
use Rattle.st_marks.specs.Row.{embed_row, how, step_row}
use Rattle.st_marks.specs.Step.{IsStep}
use Rattle.st_puts.specs.Mentions.{AreMentions, PlacesMentioned, place_in}
use Rattle.st_moves.specs.Carried.{carried_register, carry_row}
use Rattle.st_moves.specs.Changes.{IsCarriedBy}
use Rattle.st_moves.specs.inside.Fields.{AreBeside, IsChangeWith}
use Rattle.st_moves.specs.inside.Registers.{loose_in}
use Rattle.st_moves.specs.inside.Rows.{row_listed}
use Rattle.st_moves.proofs.BesideRows.{row_of_documents}
use Rattle.st_moves.proofs.OrderedNames.{listing}

-- the name of a node that is listed as nowhere
pub loose_named : (target_of : NodeId → Option To) (place : NodeId → Spot) (n : NodeId) (l : Loose) → loose_in target_of place n ≡ Some l → l.node ≡ n
loose_named target_of place n l e = go (is_nowhere (place n) && not (same_node n root)) e
  where
    at : Option Loose → NodeId
    at None = l.node
    at (Some z) = z.node

    go : (b : Bool) → cond b (Some (record { node = n; how = how (target_of n) To.Nowhere })) None ≡ Some l → l.node ≡ n
    go true e = sym (ap at e)
    go false e = cc

module _ (D E : Document) (N : Intent) (x : IsExtendedBy D E) (f : Fits D N) (g : Fits E N) (C : Change) (S : Step) (emb : IsEmbedding D N C) (step : IsStep D E S)
    (target_of : NodeId → Option To) (puts : (n : NodeId) → target_of n ≡ put_of N n) (places : BTreeMap NodeId Spot) (right : PlacesMentioned E N places)
    (named : BTreeSet NodeId) (w : AreMentions E N (contains node_cmp named)) where
  abbrev m : NodeId → Bool
  m = contains node_cmp named

  loose_same : (n : NodeId) → m n ≡ true → loose_in target_of (place_in places) n ≡ embed_loose m E N n
  loose_same n h =
      (λ i. cond (is_nowhere (right n ((w n).0 h) i) && not (same_node n root)) (Some (record { node = n; how = how (puts n i) To.Nowhere })) None)
      ∙ ap (λ b. cond (b && is_nowhere (E.place n) && not (same_node n root)) (Some (record { node = n; how = how (put_of N n) To.Nowhere })) None) (sym h)

  loose_other : (n : NodeId) → m n ≡ false → embed_loose m E N n ≡ None
  loose_other n h = ap (λ b. cond (b && is_nowhere (E.place n) && not (same_node n root)) (Some (record { node = n; how = how (put_of N n) To.Nowhere })) None) h

  pub assembled : (rows : List RowMarks) (regs : List RegMark) (loose : List Loose) (X : Change) → AreBeside target_of (place_in places) named C S rows regs loose → IsChangeWith C rows regs loose X
      → IsCarriedBy emb step m X
  assembled rows regs loose X b c = record {
    commit = c.commit;
    base = c.base;
    rows = subst (λ l. IsListing node_cmp (λ (r : RowMarks). r.node) l (λ n. row_marks n (carry_row (put_of N) m (embed_row (row_part emb.mentioned N n) (content D n)) (step_row step.mentioned (step.grows n))))) (sym c.rows_are) (record {
      rising = b.rows_listed.rising;
      at_each = λ n. b.rows_listed.at_each n
          ∙ (λ i. row_listed target_of m n (emb.rows.at_each n i) (step.rows.at_each n i))
          ∙ row_of_documents target_of m n (row_part emb.mentioned N n) step.mentioned (step.grows n)
          ∙ (λ i. row_marks n (carry_row (λ k. puts k i) m (embed_row (row_part emb.mentioned N n) (content D n)) (step_row step.mentioned (step.grows n))));
    });
    regs = subst (λ l. IsListing field_cmp (λ (r : RegMark). r.field) l (λ k. carried_register k (put_of N) m (item_of field_cmp (λ (r : RegMark). r.field) C.regs k) (item_of field_cmp (λ (r : RegStep). r.field) S.regs k))) (sym c.regs_are) (record {
      rising = b.regs_listed.rising;
      at_each = λ k. b.regs_listed.at_each k
          ∙ (λ i. carried_register k (λ j. puts j i) m (item_of field_cmp (λ (r : RegMark). r.field) C.regs k) (item_of field_cmp (λ (r : RegStep). r.field) S.regs k));
    });
    loose = subst (λ l. IsListing node_cmp (λ (l : Loose). l.node) l (embed_loose m E N)) (sym c.loose_are)
        (listing node_cmp node_cmp_exact (λ (l : Loose). l.node) (loose_in target_of (place_in places)) (loose_named target_of (place_in places)) named.keys loose (embed_loose m E N) b.ordered b.loose_listed loose_same loose_other);
  }
