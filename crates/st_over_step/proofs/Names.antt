-- Names that are one, as a test tells.
use Rattle.std.proofs.Common.{[], ◌∷◌, ◌≡◌, ◌↔◌, Bool, true, false, not, IsTrue, Option, Some, refl, subst, sym, ap, ◌∙◌}
use Rattle.st_ids.specs.Order.{same_cell, same_node, same_rev}
use Rattle.st_ids.specs.declared.names.CellId.{CellId}
use Rattle.st_ids.specs.declared.names.NodeId.{NodeId}
use Rattle.st_ids.specs.declared.names.Rev.{Rev}
use Rattle.st_ids.proofs.Orders.{same_cell-itself, same_cell-true, same_node-itself, same_node-true, same_rev-itself, same_rev-true}
use Rattle.st_marks.specs.declared.marks.Mark.{Mark}
use Rattle.st_over_step.specs.inside.Tables.{MakesOthers}
use Rattle.st_puts.specs.Seen.{IfTold}
use Rattle.st_lemmas.proofs.Options.{one_some}

pub one-cell : (a b : CellId) (r : Bool) → r ≡ same_cell a b → IsTrue r ↔ (a ≡ b)
one-cell a b r e = (λ t. same_cell-true a b (sym e ∙ t), λ q. e ∙ ap (same_cell a) (sym q) ∙ same_cell-itself a)

pub one-node : (a b : NodeId) (r : Bool) → r ≡ same_node a b → IsTrue r ↔ (a ≡ b)
one-node a b r e = (λ t. same_node-true a b (sym e ∙ t), λ q. e ∙ ap (same_node a) (sym q) ∙ same_node-itself a)

pub one-rev : (a b : Rev) (r : Bool) → r ≡ same_rev a b → IsTrue r ↔ (a ≡ b)
one-rev a b r e = (λ t. same_rev-true a b (sym e ∙ t), λ q. e ∙ ap (same_rev a) (sym q) ∙ same_rev-itself a)

pub one-held : (o p : Option NodeId) (a b : NodeId) (r : Bool) → o ≡ Some a → p ≡ Some b → r ≡ same_node a b → IsTrue r ↔ (o ≡ p)
one-held o p a b r e f is = (λ t. e ∙ ap (λ n. Some n) ((one-node a b r is).0 t) ∙ sym f, λ q. (one-node a b r is).1 (one_some a b (sym e ∙ q ∙ f)))

pub told-cell : (told : Option CellId) (a b : CellId) (r : Bool) → told ≡ Some a → r ≡ same_cell a b → IsTrue r ↔ IfTold told b
told-cell told a b r e is = subst (λ o. IsTrue r ↔ IfTold o b) (sym e) (one-cell a b r is)

pub told-node : (told : Option NodeId) (a b : NodeId) (r : Bool) → told ≡ Some a → r ≡ same_node a b → IsTrue r ↔ IfTold told b
told-node told a b r e is = subst (λ o. IsTrue r ↔ IfTold o b) (sym e) (one-node a b r is)

-- what a test decides, its denial denies
pub denied : {P : Type 0} (r : Bool) → IsTrue r ↔ P → IsTrue (not r) ↔ (P → ⊥)
denied true d = (λ t. cc, λ n. absurd (n (d.0 refl)))
denied false d = (λ t p. let q : false ≡ true = d.1 p in cc, λ n. refl)

-- the one cell that a mark makes is another
pub other-cell : (c d : CellId) (n : NodeId) (b : Bool) (m : Mark) (r : Bool) → m ≡ Mark.Make d n b → r ≡ same_cell d c → IsTrue (not r) ↔ MakesOthers c (m ∷ [])
other-cell c d n b m r made is =
    let other = denied r (one-cell d c r is) in
    subst (λ k. IsTrue (not r) ↔ MakesOthers c (k ∷ [])) (sym made) (λ t. (other.0 t, tt), λ h. other.1 h.0)
