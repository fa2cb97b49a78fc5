-- Three steps none of whose calls is refused: what each call's documents tell of both sides.
use Rattle.std.proofs.Common.{◌≡◌, ◌↔◌, refl, sym, subst}
use Rattle.std.specs.Prelude.{Ok}
use Rattle.st_ids.specs.declared.names.CellId.{CellId}
use Rattle.st_ids.specs.declared.names.NodeId.{NodeId}
use Rattle.st_marks.specs.declared.places.Spot.{Spot}
use Rattle.st_marks.specs.declared.steps.Step.{Step}
use Rattle.st_normal.specs.Rules.{ObeysStepRules}
use Rattle.st_laws.proofs.Makes.{InTurnMakes, made_in_turn, side_of, sides_make}
use Rattle.st_laws.proofs.SidesCells.{cells_back, cells_on}
use Rattle.st_laws.proofs.SidesMove.{OverDocuments, puts_back, puts_on, takes_back, takes_on}
use Rattle.st_laws.specs.InOrder.{Composes, IsAssociative, MakesCell, PutsAt, TakesFrom}
use Rattle.st_laws.specs.declared.sides.StepSides.{StepSides}

-- two steps in normal form that agree, and their value, stand over documents
abbrev pub StandInDocuments : Type 0
StandInDocuments = (S T U : Step) → ObeysStepRules S → ObeysStepRules T → Composes S T U → OverDocuments S T U

pub makes_in_turn : StandInDocuments → InTurnMakes
makes_in_turn stand S T U s t h = let n = stand S T U s t h in made_in_turn n.before n.between n.after S T U n.first_extends n.then_extends n.first n.next n.both

-- both sides take the same nodes from the same places, and put the same nodes at the same places
abbrev pub MoveAlike : StepSides → Type 0
MoveAlike s = (n : NodeId) (p : Spot) → (TakesFrom s.left n p ↔ TakesFrom s.right n p) × (PutsAt s.left n p ↔ PutsAt s.right n p)

pub sides_move : StandInDocuments → (a b c : Step) (s : StepSides) → ObeysStepRules a → ObeysStepRules b → ObeysStepRules c → IsAssociative a b c (Ok s) → MoveAlike s
sides_move stand a b c s u v w (left, (ab, p, q), (right, (bc, r, t), e)) =
    let is = side_of StepSides s (record { left = left; right = right }) e in
    let made : left.new ≡ right.new = sides_make (makes_in_turn stand) a b c (record { left = left; right = right }) u v w (left, (ab, p, q), (right, (bc, r, t), refl)) in
    let first = stand a b ab u v p in
    let last = stand b c bc v w r in
    let one = stand ab c left p.obeys w q in
    let other = stand a bc right u r.obeys t in
    subst MoveAlike (sym is) (λ n s. (
      (takes_on a b c ab bc left right first last one other made n s, takes_back a b c ab bc left right first last one other made n s),
      (puts_on a b c ab bc left right first last one other made n s, puts_back a b c ab bc left right first last one other made n s),
    ))

-- both sides make the same cells
abbrev pub MakeCellsAlike : StepSides → Type 0
MakeCellsAlike s = (n : NodeId) (k : CellId) → MakesCell s.left n k ↔ MakesCell s.right n k

pub sides_make_cells : StandInDocuments → (a b c : Step) (s : StepSides) → ObeysStepRules a → ObeysStepRules b → ObeysStepRules c → IsAssociative a b c (Ok s) → MakeCellsAlike s
sides_make_cells stand a b c s u v w (left, (ab, p, q), (right, (bc, r, t), e)) =
    let first = stand a b ab u v p in
    let last = stand b c bc v w r in
    let one = stand ab c left p.obeys w q in
    let other = stand a bc right u r.obeys t in
    subst MakeCellsAlike (sym (side_of StepSides s (record { left = left; right = right }) e))
    (λ n k. (cells_on a b c ab bc left right first last one other n k, cells_back a b c ab bc left right first last one other n k))
