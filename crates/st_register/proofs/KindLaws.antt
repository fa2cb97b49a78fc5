-- What is told once of a register.
use Rattle.std.specs.Prelude.{◌≡◌, ◌≢◌, ◌⊎◌, Bool, true, false, Option, Some, None, IfSome, refl}
use Rattle.std.proofs.Common.{sym, ◌∙◌, ap, subst, inl, inr}
use Rattle.std.specs.Option.{option_map_or}
use Rattle.st_ids.specs.Order.{same_node}
use Rattle.st_ids.proofs.Orders.{same_node-true, same_node-itself}
use Rattle.st_ids.specs.declared.names.NodeId.{NodeId}
use Rattle.st_marks.specs.declared.intents.To.{To}
use Rattle.st_marks.specs.declared.marks.How.TheVariants.{Leave}
use Rattle.st_marks.specs.Row.{how}
use Rattle.st_register.specs.declared.values.RegChange.{RegChange}
use Rattle.st_register.specs.declared.values.RegHeld.{RegHeld}
use Rattle.st_register.specs.declared.values.RegSwap.{RegSwap}
use Rattle.st_register.specs.Register.{RegPart, RegCanHold, RegFits, reg_change_of, RegLeadsOver, RegKeeps}

-- a part that fits has a change
pub has_change : (p : RegPart) (c : RegHeld) → RegFits p c → (x : RegChange) × (x ≡ reg_change_of p c)
has_change p c w = (reg_change_of p c, refl)

-- a step leads from one content to each other one
pub swap_between : (m : NodeId → Bool) (c d : RegHeld) → RegCanHold c → RegCanHold d → Unit {0} → (s : RegSwap) × RegLeadsOver c d s
swap_between m c d w v g = (record { before = c.node; after = d.node }, record { before = w; after = v; swap = refl })

-- a part has one change in a content
pub one_change : (p : RegPart) (c : RegHeld) (x y : RegChange) → x ≡ reg_change_of p c → y ≡ reg_change_of p c → x ≡ y
one_change p c x y e f = e ∙ sym f

-- one step leads from one content to another
pub one_swap : (m : NodeId → Bool) (c d : RegHeld) (s t : RegSwap) → RegLeadsOver c d s → RegLeadsOver c d t → s ≡ t
one_swap m c d s t e f = e.swap ∙ sym f.swap

-- a node is there or not
there_or_not : (o : Option NodeId) (n : NodeId) → (o ≡ Some n) ⊎ (o ≢ Some n)
there_or_not None n = inr (λ e. cc)
there_or_not (Some m) n =
    elim (same_node m n) as (λ b. same_node m n ≡ b → (◌≡◌ {A = Option NodeId} (Some m) (Some n)) ⊎ (◌≢◌ {A = Option NodeId} (Some m) (Some n))) [
      | true ↦ λ t. inl (ap (λ (k : NodeId). Some k) (same_node-true m n t))
      | false ↦ λ t. inr (λ e.
          let one : m ≡ n = ap (λ (o : Option NodeId). option_map_or (λ k. k) o m) e in
          let both : ◌≡◌ {A = Bool} false true = sym t ∙ ap (same_node m) (sym one) ∙ same_node-itself m in
          cc)
    ] refl

-- who comes in from the first to the third content comes in from the first to the second, or from there to the third
pub kept_in_turn : (p : RegPart) (c d e : RegHeld) → RegKeeps p c d → RegKeeps p d e → RegKeeps p c e
kept_in_turn p c d e k l = go e.node l
  where
    go : (o : Option NodeId) → IfSome o (λ n. d.node ≢ Some n → how (p.part.target_of n) (To.Register p.field) ≢ Leave) → IfSome o (λ n. c.node ≢ Some n → how (p.part.target_of n) (To.Register p.field) ≢ Leave)
    go None h = tt
    go (Some n) h = elim (there_or_not d.node n) [
      | inl t ↦ subst (λ (o : Option NodeId). IfSome o (λ m. c.node ≢ Some m → how (p.part.target_of m) (To.Register p.field) ≢ Leave)) t k
      | inr t ↦ λ a. h t
    ]
