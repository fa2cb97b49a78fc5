-- The step that changes nothing leads from each document to itself.
use Rattle.std.proofs.Common.{◌≡◌, Bool, true, false, ◌||◌, not, List, [], ◌∷◌, Option, Some, None, cond, refl, sym, ap, inl, inr}
use Rattle.std.specs.List.{list_any}
use Rattle.st_ids.proofs.Orders.{same_node-itself}
use Rattle.st_ids.specs.declared.names.FieldId.{FieldId}
use Rattle.st_ids.specs.declared.names.NodeId.{NodeId}
use Rattle.st_marks.specs.declared.places.Slot.{Slot}
use Rattle.st_marks.specs.declared.steps.Step.{Step}
use Rattle.st_marks.specs.Document.{Document, NodeType, content}
use Rattle.st_marks.specs.Embedding.{row_marks, tells}
use Rattle.st_marks.specs.Extends.{GainsItems, no_more, item_kept}
use Rattle.st_marks.specs.Register.{step_register}
use Rattle.st_marks.specs.Row.{SameCell, merge, step_cell, step_row}
use Rattle.st_marks.specs.Step.{IsMentionedByStep, IsStep, gained_node}
use Rattle.st_read_laws.specs.Reading.{IsStepRead}

abbrev nothing : Step
nothing = record { new = []; rows = []; regs = []; loose = []; schema = None }

same-gains : (c : List Slot) → GainsItems SameCell c c
same-gains [] = no_more
same-gains (s ∷ c) = item_kept (refl, refl) (same-gains c)

abbrev nobody : NodeId → Bool
nobody n = false

tells-nothing : (c : List Slot) → list_any tells (step_row nobody (same-gains c)) ≡ false
unfolding same-gains
tells-nothing [] = refl
tells-nothing (s ∷ c) = go s.full (tells-nothing c)
  where
    go : (b : Bool) → list_any tells (step_row nobody (same-gains c)) ≡ false → list_any tells (step_cell nobody s.cell s.node b b ∷ step_row nobody (same-gains c)) ≡ false
    go true e = e
    go false e = e

no-row : (n : NodeId) (c : List Slot) → None ≡ row_marks n (step_row nobody (same-gains c))
no-row n c = sym (ap (λ b. cond b (Some (record { node = n; marks = merge (step_row nobody (same-gains c)) })) None) (tells-nothing c))

none-gained : (n : NodeId) (o : Option NodeType) → None ≡ gained_node n o o
none-gained n None = refl
none-gained n (Some t) = refl

no-register : (f : FieldId) (o : Option NodeId) → None ≡ step_register f nobody o o
no-register f None = refl
no-register f (Some k) = sym (ap (λ b. cond (not b || false) (Some (record { field = f; before = Some k; after = Some k })) None) (same_node-itself k))

unchanged : (D : Document) (n : NodeId) → IsMentionedByStep D D n → ⊥
unchanged D n w = elim w.1.1 [
  | inl h ↦ h refl
  | inr r ↦ elim r [ inl h ↦ h refl | inr h ↦ h.2 refl ]
]

false-true : false ≡ true → ⊥
false-true e = cc

pub nothing_leads_back : (D : Document) → IsStep D D nothing
nothing_leads_back D = record {
  mentioned = nobody;
  which = λ n. ((λ e. absurd (false-true e)), (λ w. absurd (unchanged D n w)));
  schema = refl;
  new = record { rising = refl; at_each = λ n. none-gained n (D.nodes n) };
  grows = λ n. same-gains (content D n);
  rows = record { rising = refl; at_each = λ n. no-row n (content D n) };
  regs = record { rising = refl; at_each = λ f. no-register f (D.held f) };
  loose = record { rising = refl; at_each = λ n. refl };
}

-- so it is read, whichever empty cells are named
pub nothing_read : (l : Bool) (D : Document) → IsStepRead l D D nothing
nothing_read l D = (nothing, nothing_leads_back D, refl)
