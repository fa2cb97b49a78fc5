-- What a step says, turned round, lists the way back.
use Rattle.std.proofs.Common.{◌≡◌, Bool, true, false, ◌||◌, ◌&&◌, not, List, Option, Some, None, refl, sym, ap, ◌∙◌, subst, IsSome, is_some}
use Rattle.st_ids.specs.Listing.{IsListing, item_of}
use Rattle.st_ids.specs.Order.{field_cmp, node_cmp}
use Rattle.st_ids.specs.declared.names.NodeId.{NodeId}
use Rattle.st_kind.specs.Named.{Nodes}
use Rattle.st_marks.specs.declared.changes.NewNode.{NewNode}
use Rattle.st_marks.specs.declared.marks.RegStep.{RegStep}
use Rattle.st_marks.specs.declared.marks.RowMarks.{RowMarks}
use Rattle.st_marks.specs.declared.places.Spot.{Spot}
use Rattle.st_marks.specs.declared.steps.Step.{Step}
use Rattle.st_marks.specs.Back.{is_in, retreat}
use Rattle.st_marks.specs.Document.{Document, NodeType}
use Rattle.st_marks.specs.Extends.{IsExtendedBy}
use Rattle.st_marks.specs.Step.{IsSchemaStep, IsStep, gained_node}
use Rattle.st_marks.proofs.Climb.{above_known}
use Rattle.st_marks.proofs.Retreat.{retreat_extends}
use Rattle.st_rows.proofs.Existence.{contents_grow}
use Rattle.st_trim.specs.Covers.{CoversStep}
use Rattle.st_trim.specs.Trimmed.{ListsStep}
use Rattle.st_steps.specs.WayBack.{IsBackOf, TellsBack, named_back_of}
use Rattle.st_trim.proofs.WayBack.{back_covers}
use Rattle.st_steps.proofs.FieldsBack.{loose_back-is, register_back-listed, schema_back-is}
use Rattle.st_steps.proofs.RowsBack.{row_back-listed}

module _ (D E : Document) (S : Step) (x : IsExtendedBy D E) (s : IsStep D E S) where
  abbrev named : Nodes
  named = named_back_of D E s.mentioned

  -- of the nodes that the way back may name, those that are there
  only_there : (n : NodeId) → IsSome (E.nodes n) → (s.mentioned n || not (is_in D n)) ≡ true → named n ≡ true
  only_there n h e = ap (λ b. s.mentioned n || (b && not (is_in D n))) (there (E.nodes n) h) ∙ e
    where
      there : (o : Option NodeType) → IsSome o → is_some o ≡ true
      there None h = cc
      there (Some u) h = refl

  named_more : (n : NodeId) → named n ≡ true → (s.mentioned n || not (is_in D n)) ≡ true
  named_more n e = go (s.mentioned n) (is_in E n) (not (is_in D n)) e
    where
      go : (a b c : Bool) → (a || (b && c)) ≡ true → (a || c) ≡ true
      go true b c h = refl
      go false true c h = h
      go false false c h = cc

  pub covers_back : CoversStep E (retreat D E) named
  covers_back =
      let all = back_covers D E S x s in
      record {
        closed = λ n p e up. only_there p (above_known E x.after n p up) (all.closed n p (named_more n e) up);
        changed = λ n c. only_there n c.0 (all.changed n c);
      }

  no_gain : (n : NodeId) (o : Option NodeType) → ◌≡◌ {A = Option NewNode} None (gained_node n o o)
  no_gain n None = refl
  no_gain n (Some t) = refl

  pub lists_back : (G : Step) (new stood : Nodes) (spots : NodeId → Option Spot) → TellsBack D E s.mentioned new stood spots → IsBackOf S G new stood spots → ListsStep E (retreat D E) named G
  lists_back G new stood spots tells g = record {
    covers = covers_back;
    schema = subst (IsSchemaStep E.schemas D.schemas) (sym g.schema) (schema_back-is D.schemas E.schemas S.schema s.schema);
    new = subst (λ (l : List NewNode). IsListing node_cmp (λ (m : NewNode). m.node) l (λ n. gained_node n (E.nodes n) (E.nodes n))) (sym g.new_nodes) (record { rising = refl; at_each = λ n. no_gain n (E.nodes n) });
    grows = λ n. contents_grow E (retreat D E) n (retreat_extends D E x);
    rows_rise = g.rows.rising;
    rows = λ n. row_back-listed D E S x s new tells.new_so n (contents_grow E (retreat D E) n (retreat_extends D E x)) (item_of node_cmp (λ (r : RowMarks). r.node) G.rows n) (g.rows.at_each n);
    regs_rise = g.regs.rising;
    regs = λ f. register_back-listed D E S x s new tells.new_so f (item_of field_cmp (λ (r : RegStep). r.field) G.regs f) (g.regs.at_each f);
    loose = record { rising = g.loose.rising; at_each = λ n. g.loose.at_each n ∙ loose_back-is D E s.mentioned new stood spots x tells n };
  }
