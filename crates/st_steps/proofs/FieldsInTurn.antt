-- Registers and new nodes over two steps in turn.
use Rattle.std.proofs.Common.{◌≡◌, Bool, true, false, ◌||◌, ◌&&◌, not, Option, Some, None, MatchOption, cond, refl, sym, ap, ◌∙◌, subst}
use Rattle.std.specs.Option.{option_or}
use Rattle.st_ids.specs.Listing.{item_of}
use Rattle.st_ids.specs.Order.{field_cmp, same_node}
use Rattle.st_ids.specs.declared.names.FieldId.{FieldId}
use Rattle.st_ids.specs.declared.names.NodeId.{NodeId}
use Rattle.st_kind.specs.Named.{Nodes}
use Rattle.st_marks.specs.declared.marks.RegStep.{RegStep}
use Rattle.st_marks.specs.declared.steps.Step.{Step}
use Rattle.st_marks.specs.Back.{is_in}
use Rattle.st_marks.specs.Document.{Document, NodeType}
use Rattle.st_marks.specs.Extends.{IsExtendedBy}
use Rattle.st_marks.specs.Intent.{same_option}
use Rattle.st_marks.specs.Register.{holds_mentioned, step_register}
use Rattle.st_marks.specs.Step.{IsStep, gained_node}
use Rattle.st_marks.proofs.Shared.{held-same, same-held}
use Rattle.st_steps.specs.Turned.{named_in_turn, register_in_turn}
use Rattle.st_puts.proofs.ListedIf.{or_parts, shown-None, shown-Some}

-- ## Registers

module _ (D E F : Document) (S T : Step) (x : IsExtendedBy D E) (y : IsExtendedBy E F) (s : IsStep D E S) (t : IsStep E F T) (f : FieldId) where
  abbrev m : Nodes
  m = s.mentioned

  abbrev k : Nodes
  k = t.mentioned

  abbrev named : Nodes
  named = named_in_turn D m k

  abbrev Listed : Option RegStep → Type 0
  Listed o = MatchOption o (step_register f named (D.held f) (F.held f) ≡ None) (λ r. r ≡ record { field = f; before = D.held f; after = F.held f })

  first_row : (r : RegStep) → step_register f m (D.held f) (E.held f) ≡ Some r → r ≡ record { field = f; before = D.held f; after = E.held f }
  first_row r e = shown-Some (not (same_option same_node (D.held f) (E.held f)) || holds_mentioned m (D.held f)) (record { field = f; before = D.held f; after = E.held f }) r e

  then_row : (r : RegStep) → step_register f k (E.held f) (F.held f) ≡ Some r → r ≡ record { field = f; before = E.held f; after = F.held f }
  then_row r e = shown-Some (not (same_option same_node (E.held f) (F.held f)) || holds_mentioned k (E.held f)) (record { field = f; before = E.held f; after = F.held f }) r e

  -- a register that isn't listed stays, and holds none that is named
  quiet : (w : Nodes) (a b : Option NodeId) → step_register f w a b ≡ None → (a ≡ b) × (holds_mentioned w a ≡ false)
  quiet w a b e =
      let p = or_parts (not (same_option same_node a b)) (holds_mentioned w a) (shown-None (not (same_option same_node a b) || holds_mentioned w a) (record { field = f; before = a; after = b }) e) in
      (same-held a b (twice (same_option same_node a b) p.0), p.1)
    where
      twice : (b : Bool) → not b ≡ false → b ≡ true
      twice true e = refl
      twice false e = cc

  none_named : (o : Option NodeId) → holds_mentioned m o ≡ false → holds_mentioned k o ≡ false → holds_mentioned named o ≡ false
  none_named None a b = refl
  none_named (Some n) a b = (λ i. a i || (b i && is_in D n))

  silent : (a b : Option NodeId) → a ≡ b → holds_mentioned named a ≡ false → step_register f named a b ≡ None
  silent a b e h = λ i. cond {A = Option RegStep} (not (held-same a b e i) || h i) (Some (record { field = f; before = a; after = b })) None

  listed : (p q : Option RegStep) → step_register f m (D.held f) (E.held f) ≡ p → step_register f k (E.held f) (F.held f) ≡ q → Listed (register_in_turn f p q)
  listed None None e g =
      let a = quiet m (D.held f) (E.held f) e in
      let b = quiet k (E.held f) (F.held f) g in
      silent (D.held f) (F.held f) (a.0 ∙ b.0) (none_named (D.held f) a.1 (ap (holds_mentioned k) a.0 ∙ b.1))
  listed (Some r) None e g = first_row r e ∙ (λ i. record { field = f; before = D.held f; after = (quiet k (E.held f) (F.held f) g).0 i })
  listed None (Some r) e g = then_row r g ∙ (λ i. record { field = f; before = sym (quiet m (D.held f) (E.held f) e).0 i; after = F.held f })
  listed (Some r) (Some u) e g = λ i. record { field = f; before = (first_row r e i).before; after = (then_row u g i).after }

  pub register_in_turn-listed : (o : Option RegStep) → o ≡ register_in_turn f (item_of field_cmp (λ (r : RegStep). r.field) S.regs f) (item_of field_cmp (λ (r : RegStep). r.field) T.regs f) → Listed o
  register_in_turn-listed o e =
      let says : o ≡ register_in_turn f (step_register f m (D.held f) (E.held f)) (step_register f k (E.held f) (F.held f)) = e ∙ (λ i. register_in_turn f (s.regs.at_each f i) (t.regs.at_each f i)) in
      subst Listed (sym says) (listed (step_register f m (D.held f) (E.held f)) (step_register f k (E.held f) (F.held f)) refl refl)

-- ## New nodes

pub gained_in_turn : (D E F : Document) → IsExtendedBy D E → IsExtendedBy E F → (n : NodeId)
    → option_or (gained_node n (D.nodes n) (E.nodes n)) (gained_node n (E.nodes n) (F.nodes n)) ≡ gained_node n (D.nodes n) (F.nodes n)
gained_in_turn D E F x y n = go (D.nodes n) refl (E.nodes n) refl
  where
    go : (o : Option NodeType) → D.nodes n ≡ o → (p : Option NodeType) → E.nodes n ≡ p → option_or (gained_node n o p) (gained_node n p (F.nodes n)) ≡ gained_node n o (F.nodes n)
    go None e None g = refl
    go None e (Some u) g = λ i. gained_node n None (sym (y.nodes n u g) i)
    go (Some u) e None g = let bad : ◌≡◌ {A = Option NodeType} None (Some u) = sym g ∙ x.nodes n u e in cc
    go (Some u) e (Some v) g = refl
