-- Rows in which an intent makes no cells stay as they are.
use Rattle.std.proofs.Common.{arith, ◌≡◌, ◌↔◌, ℕ, ◌<◌, ◌^◌, nat_lt, Bool, true, false, List, [], ◌∷◌, ◌++◌, length, Option, Some, None, refl, sym, ap, ◌∙◌, subst}
use Rattle.std.specs.List.{list_any, list_all, AllByRecursion}
use Rattle.std.proofs.lemmas.Bool.Decides.{nat_tests}
use Rattle.st_ids.specs.Order.{same_node}
use Rattle.st_ids.specs.declared.names.CellId.{CellId}
use Rattle.st_ids.specs.declared.names.NodeId.{NodeId}
use Rattle.st_ids.proofs.Orders.{same_node-true}
use Rattle.st_marks.specs.declared.intents.Group.{Group}
use Rattle.st_marks.specs.declared.intents.Intent.{Intent}
use Rattle.st_marks.specs.declared.intents.Owned.{Owned}
use Rattle.st_marks.specs.CarryOut.{full, with_groups}
use Rattle.st_marks.specs.Document.{Document, HasShortRows, IsSoundInForm}
use Rattle.st_marks.specs.Intent.{group_at, cells_of, same_anchor}
use Rattle.st_marks.proofs.Members.{any-has, all-has, has-all}
use Rattle.st_intent.proofs.Tells.{Tells, tells_all}
use Rattle.st_doc.proofs.Look.{find_neither}

no_group : (N : Intent) (n : NodeId) (a : Option CellId) → list_any (λ (g : Group). same_node g.node n) N.groups ≡ false → group_at N n a ≡ []
no_group N n a e = ap cells_of (find_neither (λ (g : Group). same_node g.node n) (λ (g : Group). same_anchor g.after a) N.groups e)

same_row : (N : Intent) (n : NodeId) (os : List Owned) → list_any (λ (g : Group). same_node g.node n) N.groups ≡ false → with_groups N n os ≡ os
same_row N n [] e = refl
same_row N n (o ∷ os) e = ap (λ r. o ∷ r) (ap (λ x. x ++ with_groups N n os) (no_group N n (Some o.cell) e) ∙ same_row N n os e)

is_short : (m : ℕ) → Tells (nat_lt m (2 ^ 32)) (m < 2 ^ 32)
is_short m = (λ e. grind (arith, nat_tests), λ e. grind (arith, nat_tests))

module _ (D : Document) (N : Intent) (s : IsSoundInForm D) where
  pub room_tells : (list_all (λ (g : Group). nat_lt (length ((full D N).rows g.node)) (2 ^ 32)) N.groups ≡ true) ↔ HasShortRows (full D N)
  room_tells = (to, from)
    where
      each : Tells (list_all (λ (g : Group). nat_lt (length ((full D N).rows g.node)) (2 ^ 32)) N.groups) (AllByRecursion (λ (g : Group). length ((full D N).rows g.node) < 2 ^ 32) N.groups)
      each = tells_all (λ (g : Group). nat_lt (length ((full D N).rows g.node)) (2 ^ 32)) (λ (g : Group). length ((full D N).rows g.node) < 2 ^ 32) (λ g. is_short (length ((full D N).rows g.node))) N.groups

      grown : AllByRecursion (λ (g : Group). length ((full D N).rows g.node) < 2 ^ 32) N.groups → (n : NodeId) (b : Bool) → list_any (λ (g : Group). same_node g.node n) N.groups ≡ b → length ((full D N).rows n) < 2 ^ 32
      grown all n true e =
          let g = any-has (λ (g : Group). same_node g.node n) N.groups e in
          subst (λ m. length ((full D N).rows m) < 2 ^ 32) (same_node-true g.0.node n g.2) (all-has (λ (g : Group). length ((full D N).rows g.node) < 2 ^ 32) N.groups g.0 all g.1)
      grown all n false e =
          subst (λ r. length r < 2 ^ 32) (sym (ap (λ x. x ++ with_groups N n (D.rows n)) (no_group N n None e) ∙ same_row N n (D.rows n) e)) (s.short n)

      to : list_all (λ (g : Group). nat_lt (length ((full D N).rows g.node)) (2 ^ 32)) N.groups ≡ true → HasShortRows (full D N)
      to e = λ n. grown (each.0 e) n (list_any (λ (g : Group). same_node g.node n) N.groups) refl

      from : HasShortRows (full D N) → list_all (λ (g : Group). nat_lt (length ((full D N).rows g.node)) (2 ^ 32)) N.groups ≡ true
      from h = each.1 (has-all (λ (g : Group). length ((full D N).rows g.node) < 2 ^ 32) N.groups (λ g k. h g.node))
