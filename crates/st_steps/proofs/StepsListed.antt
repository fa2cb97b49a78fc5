-- Two steps in turn, listed together, list the step from the first document to the last.
use Rattle.std.proofs.Common.{◌≡◌, ◌||◌, ℕ, zero, suc, true, Option, Some, None, option_and_then, refl, sym, ◌∙◌, subst, IsSome}
use Rattle.std.specs.Option.{option_or}
use Rattle.st_ids.specs.Listing.{item_of}
use Rattle.st_ids.specs.Order.{field_cmp, node_cmp}
use Rattle.st_ids.specs.declared.names.NodeId.{NodeId}
use Rattle.st_kind.specs.Named.{Nodes}
use Rattle.st_marks.specs.declared.marks.RegStep.{RegStep}
use Rattle.st_marks.specs.declared.marks.RowMarks.{RowMarks}
use Rattle.st_marks.specs.declared.places.Spot.{Spot}
use Rattle.st_marks.specs.declared.steps.Step.{Step}
use Rattle.st_marks.specs.Document.{Document, IsSoundInForm, above, climb}
use Rattle.st_marks.specs.Extends.{IsExtendedBy}
use Rattle.st_marks.specs.Step.{IsSchemaStep, IsStep}
use Rattle.st_marks.proofs.Climb.{above_known}
use Rattle.st_rows.proofs.RowsInTurn.{grows_on}
use Rattle.st_trim.specs.Trimmed.{ListsStep}
use Rattle.st_steps.specs.Turned.{IsInTurn, TellsTurn, named_in_turn, loose_in_turn}
use Rattle.st_steps.proofs.FieldsInTurn.{gained_in_turn, register_in_turn-listed}
use Rattle.st_trim.proofs.StepsInTurn.{in_turn_covers}
use Rattle.st_steps.proofs.LooseInTurn.{loose_is}
use Rattle.st_steps.proofs.RowsInTurn.{row_in_turn-listed}
use Rattle.st_steps.proofs.SchemasInTurn.{in_turn-schemas}

-- ## Whom a step names is there

climb_known : (D : Document) → IsSoundInForm D → (k : ℕ) (a n : NodeId) → IsSome (D.nodes a) → climb (above D) k a ≡ Some n → IsSome (D.nodes n)
climb_known D x zero a n known e = let same : a ≡ n = cc in subst (λ z. IsSome (D.nodes z)) same known
climb_known D x (suc k) a n known e = go (above D a) refl e (λ p f g. climb_known D x k p n f g)
  where
    go : (o : Option NodeId) → above D a ≡ o → option_and_then (climb (above D) k) o ≡ Some n
        → ((p : NodeId) → IsSome (D.nodes p) → climb (above D) k p ≡ Some n → IsSome (D.nodes n)) → IsSome (D.nodes n)
    go None up f rest = cc
    go (Some p) up f rest = rest p (above_known D x a p up) f

pub mention_known : (D E : Document) (S : Step) → IsSoundInForm D → (s : IsStep D E S) → (n : NodeId) → s.mentioned n ≡ true → IsSome (D.nodes n)
mention_known D E S x s n e = let w = (s.which n).0 e in climb_known D x w.2 w.0 n w.1.0 w.3

-- ## All of it

pub lists_in_turn : (D E F : Document) (S T G : Step) (stood new : Nodes) (spots : NodeId → Option Spot)
    → IsExtendedBy D E → IsExtendedBy E F → (s : IsStep D E S) → (t : IsStep E F T)
    → TellsTurn D E F s.mentioned t.mentioned stood new spots
    → IsInTurn S T G stood new spots
    → ListsStep D F (named_in_turn D s.mentioned t.mentioned) G
lists_in_turn D E F S T G stood new spots x y s t tells g = record {
  covers = in_turn_covers D E F S T x y s t;
  schema = subst (IsSchemaStep D.schemas F.schemas) (sym g.schema) (in_turn-schemas D.schemas E.schemas F.schemas S.schema T.schema s.schema t.schema);
  new = record { rising = g.new_nodes.rising; at_each = λ n. g.new_nodes.at_each n ∙ (λ i. option_or (s.new.at_each n i) (t.new.at_each n i)) ∙ gained_in_turn D E F x y n };
  grows = λ n. grows_on (s.grows n) (t.grows n);
  rows_rise = g.rows.rising;
  rows = λ n. row_in_turn-listed D E F S T x y s t n (grows_on (s.grows n) (t.grows n)) (item_of node_cmp (λ (r : RowMarks). r.node) G.rows n) (g.rows.at_each n);
  regs_rise = g.regs.rising;
  regs = λ f. register_in_turn-listed D E F S T x y s t f (item_of field_cmp (λ (r : RegStep). r.field) G.regs f) (g.regs.at_each f);
  loose = record { rising = g.loose.rising; at_each = λ n. g.loose.at_each n ∙ (λ i. loose_in_turn (stood n || new n) (spots n) n (s.loose.at_each n i) (t.loose.at_each n i)) ∙ loose_is D E F S T stood new spots x y s t tells n (mention_known D E S x.before s n) (mention_known E F T y.before t n) };
}
