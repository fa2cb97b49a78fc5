-- Rows before an intent are no longer than after it; those after one that makes no cell are as long; and tests that rows are short.
use Rattle.std.proofs.Common.{◌≡◌, ◌<◌, ◌≤◌, ◌^◌, ◌++◌, ◌&&◌, ◌↔◌, ◌∙◌, Bool, true, false, sym, List, [], ◌∷◌, Option, Some, None, length, length-append, refl, ap, arith}
use Rattle.std.specs.List.{find}
use Rattle.st_ids.specs.Order.{same_node}
use Rattle.st_ids.specs.declared.names.CellId.{CellId}
use Rattle.st_ids.specs.declared.names.NodeId.{NodeId}
use Rattle.st_marks.specs.declared.intents.Group.{Group}
use Rattle.st_marks.specs.declared.intents.Intent.{Intent}
use Rattle.st_marks.specs.declared.intents.Owned.{Owned}
use Rattle.st_marks.specs.CarryOut.{full, with_groups}
use Rattle.st_marks.specs.Document.{Document, HasShortRows}
use Rattle.st_marks.specs.Intent.{cells_of, group_at, same_anchor}

-- what has few cells listed passes the test
pub not_short : {P H : Type 0} (b : Bool) → b ≡ false → (b ≡ true) ↔ H → H → P
not_short b e w h = let q : ◌≡◌ {A = Bool} false true = sym e ∙ w.1 h in cc

at_least : (N : Intent) (n : NodeId) (os : List Owned) → length os ≤ length (with_groups N n os)
at_least N n [] = omega arith
at_least N n (o ∷ os) =
    let a = length-append (group_at N n (Some o.cell)) (with_groups N n os) in
    let b = at_least N n os in
    omega (arith, a, b)

pub short_before : (D : Document) (N : Intent) → HasShortRows (full D N) → HasShortRows D
short_before D N h n =
    let a = length-append (group_at N n None) (with_groups N n (D.rows n)) in
    let b = at_least N n (D.rows n) in
    let c : length (group_at N n None ++ with_groups N n (D.rows n)) < 2 ^ 32 = h n in
    omega (arith, a, b, c)

no_group : (B : Intent) (n : NodeId) (a : Option CellId) → B.groups ≡ [] → group_at B n a ≡ []
no_group B n a e = ap (λ gs. cells_of (find (λ (g : Group). same_node g.node n && same_anchor g.after a) gs)) e

as_many : (B : Intent) (n : NodeId) (os : List Owned) → B.groups ≡ [] → length (with_groups B n os) ≡ length os
as_many B n [] e = refl
as_many B n (o ∷ os) e =
    let a = length-append (group_at B n (Some o.cell)) (with_groups B n os) in
    let b = ap length (no_group B n (Some o.cell) e) in
    let c = as_many B n os e in
    omega (arith, a, b, c)

pub short_after : (E : Document) (B : Intent) → B.groups ≡ [] → HasShortRows E → HasShortRows (full E B)
short_after E B e h n =
    let a = length-append (group_at B n None) (with_groups B n (E.rows n)) in
    let b = ap length (no_group B n None e) in
    let c = as_many B n (E.rows n) e in
    let d = h n in
    let sum : length (group_at B n None ++ with_groups B n (E.rows n)) < 2 ^ 32 = omega (arith, a, b, c, d) in
    sum
